use Rattle.std.proofs.Common.{refl}
use Rattle.arrangement_core.proofs.known.seen_along.Goals as goal

pub returns-in-Some : goal.returns-in-Some
returns-in-Some c = record { end = refl; lies = c.in-Some.ensures }

pub returns-then-is_off_points : goal.returns-then-is_off_points
returns-then-is_off_points c = record { end = refl; lies = c.is_off_points.ensures c.if-is_off_points.true }
