use Rattle.plane_core.proofs.outline.Outline.scan_at.Goals as goal

pub returns : goal.returns
returns c = rw (c.of-spot.ensures, c.deref.ensures.value) at c.scan_of.ensures
