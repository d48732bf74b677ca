use Rattle.std.proofs.Common.{inl, inr, refl}
use Rattle.noding_core.proofs.TestLemmas.{clash}
use Rattle.geometry_distance_core.proofs.measured.has_start_in_area.Goals as goal

pub returns-then-contains_start_of : goal.returns-then-contains_start_of
returns-then-contains_start_of c = (λ found. inl (c.contains_start_of.ensures.0 c.if-contains_start_of.true), λ start. refl)

pub returns : goal.returns
returns c = (
  λ found. inr (c.contains_start_of-2.ensures.0 found),
  λ start. elim start [
    | inl first ↦ clash c.contains_start_of.result (c.contains_start_of.ensures.1 first) c.if-contains_start_of.false
    | inr second ↦ c.contains_start_of-2.ensures.1 second
  ],
)
