use Rattle.std.proofs.Common.{sym, subst}
use Rattle.shown_core.specs.Lying.{LiesIn}
use Rattle.arrangement_core.proofs.BesideLemmas.{beside_lines}
use Rattle.arrangement_core.proofs.ClearLemmas.{lies_clear}
use Rattle.arrangement_core.proofs.known.clear_part.Goals as goal

pub returns-then-is_of_lines : goal.returns-then-is_of_lines
returns-then-is_of_lines c =
    let o = c.args.pair.now.second.now in
    let s = c.args.pair.now.second_box in
    let e = c.args.e.now in
    let near = c.args.near.now in
    let holds = c.if-not-is_clear.false in
    subst (LiesIn o e)
    (beside_lines o s e near c.requires.bounded c.requires.long (c.is_of_lines.ensures c.if-is_of_lines.true) (c.is_clear.ensures.none holds) c.requires.found)
    (lies_clear o s e near c.requires.bounded c.requires.long (rw c.outline-outline.ensures at c.is_clear.ensures.edges holds) (c.is_clear.ensures.none holds) c.requires.found)

pub returns : goal.returns
returns c =
    let o = c.args.pair.now.second.now in
    let s = c.args.pair.now.second_box in
    let e = c.args.e.now in
    let near = c.args.near.now in
    let holds = c.if-not-is_clear.false in
    subst (LiesIn o e) (sym c.part_from-part.ensures)
    (lies_clear o s e near c.requires.bounded c.requires.long (rw c.outline-outline.ensures at c.is_clear.ensures.edges holds) (c.is_clear.ensures.none holds) c.requires.found)
