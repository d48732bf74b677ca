use Rattle.std.proofs.Common.{List, ℕ, codes, subst}
use Rattle.command_core.specs.Endings.{IsToldOfRows}
use Rattle.command_core.proofs.notes.tell.Goals as goal

pub returns : goal.returns
returns g c =
    let first = c.tell_first-told.new.errors in
    let left = c.tell_rows-told.new.errors in
    let right = c.tell_rows-told-2.new.errors in record {
      first = first;
      first_told = c.tell_first-told.ensures.told;
      left = left;
      left_told = subst (λ (rs : List ℕ). IsToldOfRows g.E.Sink.written g.E.Sink.has_failed first left (codes "left") rs) c.as_slice.ensures.value c.tell_rows-told.ensures.told;
      right = right;
      right_told = subst (λ (rs : List ℕ). IsToldOfRows g.E.Sink.written g.E.Sink.has_failed left right (codes "right") rs) c.as_slice-2.ensures.value c.tell_rows-told-2.ensures.told;
      layer_told = subst (λ (rs : List ℕ). IsToldOfRows g.E.Sink.written g.E.Sink.has_failed right c.tell_rows.new.errors (codes "layer") rs) c.as_slice-3.ensures.value c.tell_rows.ensures.told;
    }
