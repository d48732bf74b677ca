use Rattle.std.proofs.Common.{◌≡◌, rules, of_z, to_z, w64, refl}
use Rattle.std.specs.Int.{int_min, int_max}
use Rattle.std.proofs.lemmas.Int.{to_z-of_z}
use Rattle.geom_core.proofs.HeldLemmas.{held_by}
use Rattle.edge_index_core.proofs.BoxLemmas.{held_join}
use Rattle.ring_core.proofs.pair.share_interval.Goals as goal

pub returns : goal.returns
returns c =
    let a : to_z w64 (of_z w64 c.args.a) ≡ c.args.a = search (rules, to_z-of_z) in
    let b : to_z w64 (of_z w64 c.args.b) ≡ c.args.b = search (rules, to_z-of_z) in
    let m : to_z w64 (of_z w64 c.args.c) ≡ c.args.c = search (rules, to_z-of_z) in
    let n : to_z w64 (of_z w64 c.args.d) ≡ c.args.d = search (rules, to_z-of_z) in
    let low = held_by int_min c.min.result c.args.a c.args.b (search rules) a b c.min.ensures.value in
    let other_low = held_by int_min c.min-2.result c.args.c c.args.d (search rules) m n c.min-2.ensures.value in
    let high = held_by int_max c.max.result c.args.a c.args.b (search rules) a b c.max.ensures.value in
    let other_high = held_by int_max c.max-2.result c.args.c c.args.d (search rules) m n c.max-2.ensures.value in
    let from_ = held_join int_max c.max-from.result c.min.result c.min-2.result (int_min c.args.a c.args.b) (int_min c.args.c c.args.d) (search rules) low other_low c.max-from.ensures.value in
    let to_ = held_join int_min c.min-to.result c.max.result c.max-2.result (int_max c.args.a c.args.b) (int_max c.args.c c.args.d) (search rules) high other_high c.min-to.ensures.value in
    rw (from_, to_) refl
