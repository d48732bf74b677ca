use Rattle.std.proofs.Common.{◌∷◌, [], IsOk, refl, ◌∙◌, append_assoc, rules}
use Rattle.std.proofs.lemmas.List.Elements.{All-push}
use Rattle.report_core.proofs.ReportChunkLemmas.{one_more, text_added}
use Rattle.report_core.proofs.report.push_all.Goals as goal

pub loop-part-preserved : goal.loop-part-preserved
loop-part-preserved c =
    let before = c.loop-part.invariant in
    let part = c.in-Some.part in
    let yielded = c.loop-part.yielded in
    record {
      parts = append_assoc yielded (part ∷ []) _ ∙ rw (← c.in-Some.ensures.steps.0) before.parts;
      all = All-push IsOk yielded part before.all (rw c.in_ok-text.was refl);
      texts = search (text_added, rules);
      count = one_more _ c.loop-part.texts.items _ c.in_ok-text.text yielded part before.count (search rules);
    }
