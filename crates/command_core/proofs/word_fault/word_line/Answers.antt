use Rattle.std.proofs.Common.{◌≡◌, ◌++◌, ◌∷◌, [], ap, codes, rules, ◌∙◌}
use Rattle.run_core.specs.Lines.{line_of}
use Rattle.command_core.specs.WordFaults.{word_fault_line}
use Rattle.command_core.proofs.WordLemmas.{one_piece, two_pieces, ok_as, err_as}
use Rattle.command_core.proofs.word_fault.word_line.Goals as goal
use Rattle.command_core.proofs.word_fault.word_line.Goals.{in-Relation, in-AllowsDisjoint, in-Options, in-Scale, in-ScaleOfAny, in-Delimiter, in-LeftDelimiter, in-RightDelimiter, in-Distance, in-DistanceOfAny, in-Most, in-Geometry, in-RingsOfBoxes, in-Rings, in-Memory}

pub returns-clause-ok : goal.returns-clause-ok
returns-clause-ok g c =
    let said : c.match-fault.line ++ 10 ∷ [] ≡ word_fault_line c.args.fault.now = elim c.match-fault.branch [
      | in-Relation w ↦ rw (w.in-Relation.is, w.line-is) (two_pieces _ _ _ _ _ c.begun-line.ensures.text w.push.ensures.text w.push_mask_text.ensures.text)
      | in-AllowsDisjoint w ↦ rw (w.in-AllowsDisjoint.is, w.line-is)
          (two_pieces _ _ _ _ _ c.begun-line.ensures.text w.push-in-AllowsDisjoint.ensures.text w.push-in-AllowsDisjoint-2.ensures.text ∙ ap (λ t. line_of
          (codes "--relation: " ++ t)) w.text-text.ensures)
      | in-Options w ↦ rw (w.in-Options.is, w.line-is, ← w.text-text-in-Options.ensures.text)
          (one_piece _ _ _ c.begun-line.ensures.text w.push-in-Options.ensures.text)
      | in-Scale w ↦ rw (w.in-Scale.is, w.line-is) (one_piece _ _ _ c.begun-line.ensures.text w.push-in-Scale.ensures.text)
      | in-ScaleOfAny w ↦ rw (w.in-ScaleOfAny.is, w.line-is) (one_piece _ _ _ c.begun-line.ensures.text w.push-in-ScaleOfAny.ensures.text)
      | in-Delimiter w ↦ rw (w.in-Delimiter.is, w.line-is) (one_piece _ _ _ c.begun-line.ensures.text w.push-in-Delimiter.ensures.text)
      | in-LeftDelimiter w ↦ rw (w.in-LeftDelimiter.is, w.line-is) (one_piece _ _ _ c.begun-line.ensures.text w.push-in-LeftDelimiter.ensures.text)
      | in-RightDelimiter w ↦ rw (w.in-RightDelimiter.is, w.line-is) (one_piece _ _ _ c.begun-line.ensures.text w.push-in-RightDelimiter.ensures.text)
      | in-Distance w ↦ rw (w.in-Distance.is, w.line-is) (one_piece _ _ _ c.begun-line.ensures.text w.push-in-Distance.ensures.text)
      | in-DistanceOfAny w ↦ rw (w.in-DistanceOfAny.is, w.line-is) (one_piece _ _ _ c.begun-line.ensures.text w.push-in-DistanceOfAny.ensures.text)
      | in-Most w ↦ rw (w.in-Most.is, w.line-is) (one_piece _ _ _ c.begun-line.ensures.text w.push-in-Most.ensures.text)
      | in-Geometry w ↦ rw (w.in-Geometry.is, w.line-is) (one_piece _ _ _ c.begun-line.ensures.text w.push-in-Geometry.ensures.text)
      | in-RingsOfBoxes w ↦ rw (w.in-RingsOfBoxes.is, w.line-is) (one_piece _ _ _ c.begun-line.ensures.text w.push-in-RingsOfBoxes.ensures.text)
      | in-Rings w ↦ rw (w.in-Rings.is, w.line-is) (one_piece _ _ _ c.begun-line.ensures.text w.push-in-Rings.ensures.text)
      | in-Memory w ↦ rw (w.in-Memory.is, w.line-is) (one_piece _ _ _ c.begun-line.ensures.text w.push-in-Memory.ensures.text)
    ] in
    ok_as _ _ _ _ _ said (search rules)

pub returns-clause-err : goal.returns-clause-err
returns-clause-err g c =
    let said : c.match-fault.line ++ 10 ∷ [] ≡ word_fault_line c.args.fault.now = elim c.match-fault.branch [
      | in-Relation w ↦ rw (w.in-Relation.is, w.line-is) (two_pieces _ _ _ _ _ c.begun-line.ensures.text w.push.ensures.text w.push_mask_text.ensures.text)
      | in-AllowsDisjoint w ↦ rw (w.in-AllowsDisjoint.is, w.line-is)
          (two_pieces _ _ _ _ _ c.begun-line.ensures.text w.push-in-AllowsDisjoint.ensures.text w.push-in-AllowsDisjoint-2.ensures.text ∙ ap (λ t. line_of
          (codes "--relation: " ++ t)) w.text-text.ensures)
      | in-Options w ↦ rw (w.in-Options.is, w.line-is, ← w.text-text-in-Options.ensures.text)
          (one_piece _ _ _ c.begun-line.ensures.text w.push-in-Options.ensures.text)
      | in-Scale w ↦ rw (w.in-Scale.is, w.line-is) (one_piece _ _ _ c.begun-line.ensures.text w.push-in-Scale.ensures.text)
      | in-ScaleOfAny w ↦ rw (w.in-ScaleOfAny.is, w.line-is) (one_piece _ _ _ c.begun-line.ensures.text w.push-in-ScaleOfAny.ensures.text)
      | in-Delimiter w ↦ rw (w.in-Delimiter.is, w.line-is) (one_piece _ _ _ c.begun-line.ensures.text w.push-in-Delimiter.ensures.text)
      | in-LeftDelimiter w ↦ rw (w.in-LeftDelimiter.is, w.line-is) (one_piece _ _ _ c.begun-line.ensures.text w.push-in-LeftDelimiter.ensures.text)
      | in-RightDelimiter w ↦ rw (w.in-RightDelimiter.is, w.line-is) (one_piece _ _ _ c.begun-line.ensures.text w.push-in-RightDelimiter.ensures.text)
      | in-Distance w ↦ rw (w.in-Distance.is, w.line-is) (one_piece _ _ _ c.begun-line.ensures.text w.push-in-Distance.ensures.text)
      | in-DistanceOfAny w ↦ rw (w.in-DistanceOfAny.is, w.line-is) (one_piece _ _ _ c.begun-line.ensures.text w.push-in-DistanceOfAny.ensures.text)
      | in-Most w ↦ rw (w.in-Most.is, w.line-is) (one_piece _ _ _ c.begun-line.ensures.text w.push-in-Most.ensures.text)
      | in-Geometry w ↦ rw (w.in-Geometry.is, w.line-is) (one_piece _ _ _ c.begun-line.ensures.text w.push-in-Geometry.ensures.text)
      | in-RingsOfBoxes w ↦ rw (w.in-RingsOfBoxes.is, w.line-is) (one_piece _ _ _ c.begun-line.ensures.text w.push-in-RingsOfBoxes.ensures.text)
      | in-Rings w ↦ rw (w.in-Rings.is, w.line-is) (one_piece _ _ _ c.begun-line.ensures.text w.push-in-Rings.ensures.text)
      | in-Memory w ↦ rw (w.in-Memory.is, w.line-is) (one_piece _ _ _ c.begun-line.ensures.text w.push-in-Memory.ensures.text)
    ] in
    err_as _ _ _ _ _ said (search rules)
