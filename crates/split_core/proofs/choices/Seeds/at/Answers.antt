use Rattle.std.proofs.Common.{◌≡◌, get_or, arith}
use Rattle.std.specs.Int.{w128}
use Rattle.std.proofs.lemmas.Int.{ints, to_z-of_z}
use Rattle.std.proofs.lemmas.List.Elements.{at_read}
use Rattle.split_core.specs.Choices.{waste}
use Rattle.split_core.proofs.choices.Seeds.at.Goals as goal

pub returns-clause-waste : goal.returns-clause-waste
returns-clause-waste g c = λ d.
    let cover = g.T.Covered.cover in
    let items = c.args.items.now in
    let first = c.index-items-first in
    let second = c.index-items-second in
    rw (to_z-of_z w128 c.waste-waste.result (omega (arith, ints)))
    (at_read items (λ y. c.waste-waste.result ≡ waste (cover (get_or items c.args.first d)) (cover y)) c.args.second second.result c.requires.second second.is
    (at_read items (λ x. c.waste-waste.result ≡ waste (cover x) (cover second.result)) c.args.first first.result c.requires.first first.is
    (rw (← c.cover.ensures, ← c.cover-2.ensures) c.waste-waste.ensures) d) d)
