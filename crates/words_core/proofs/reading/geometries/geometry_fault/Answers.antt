use Rattle.words_core.specs.Readings.{found_in}
use Rattle.words_core.proofs.GeometryLemmas.{has_bad_rings, has_rings_of_boxes}
use Rattle.words_core.proofs.reading.geometries.geometry_fault.Goals as goal

pub returns-in-Some-box : goal.returns-in-Some-box
returns-in-Some-box c = λ _.
    has_rings_of_boxes (found_in c.args.given.now) c.requires _ c.in-Some-box.ensures
    c.in-Some-box.is-box

pub returns-in-Some-any : goal.returns-in-Some-any
returns-in-Some-any c = λ _.
    has_bad_rings (found_in c.args.given.now) c.requires _ c.in-Some-any.ensures
    c.in-Some-any.is-any
