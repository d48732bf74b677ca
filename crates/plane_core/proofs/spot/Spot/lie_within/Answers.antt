use Rattle.std.proofs.Common.{refl}
use Rattle.plane_core.proofs.TestLemmas.{lie_made}
use Rattle.plane_core.proofs.spot.Spot.lie_within.Goals as goal

pub returns : goal.returns
returns c =
    lie_made _ _ _ _ _ _ _ c.requires c.side_of-side.ensures c.is_along_y-along_y.ensures
    c.is_over-forth.ensures c.is_over-back.ensures
    (rw c.is_eq.ensures refl)
    (rw (c.is_gt.ensures, c.is_lt.ensures) refl)
    (rw (c.is_ge.ensures, c.is_le.ensures) refl)
