use Rattle.std.proofs.Common.{◌∷◌, [], IsOk, refl, ◌∙◌, append_assoc}
use Rattle.std.proofs.lemmas.List.Elements.{All-push}
use Rattle.nearest_core.proofs.MatchLemmas.{part_added}
use Rattle.nearest_core.proofs.layers.concatenated.Goals as goal

pub loop-part-preserved : goal.loop-part-preserved
loop-part-preserved g c =
    let before = c.loop-part.invariant in
    let part = c.in-Some.part in
    let yielded = c.loop-part.yielded in
    record {
      parts = append_assoc yielded (part ∷ []) _ ∙ rw (← c.in-Some.ensures.steps.0) before.parts;
      whole = All-push IsOk yielded part before.whole (rw c.in_ok-matches.was refl);
      matches = part_added c.loop-part.all.items _ yielded part c.in_ok-matches.matches before.matches c.in_ok-append.ensures.items c.in_ok-matches.was;
    }
