use Rattle.std.proofs.Common.{sym}
use Rattle.plane_core.proofs.PlaceLemmas.{at_made, off_box}
use Rattle.plane_core.proofs.place.Place.is_at.Goals as goal

pub returns-then-not-is_around : goal.returns-then-not-is_around
returns-then-not-is_around c = sym (off_box c.args.self.now c.args.v.now (sym c.if-not-is_around.ensures))

pub returns : goal.returns
returns c =
    rw (c.is_eq-level_x.ensures, c.is_eq-level_y.ensures)
    (at_made c.compare_x.result c.compare_y.result c.args.self.now c.args.v.now c.compare_x.ensures c.compare_y.ensures)
