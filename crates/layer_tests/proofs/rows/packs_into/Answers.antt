use Rattle.std.proofs.Common.{arith, cond, ℕ}
use Rattle.std.proofs.lemmas.List.Sorted.{sum_by-IsPermutation}
use Rattle.rtree_core.specs.Trees.{has_number}
use Rattle.layer_tests.proofs.rows.packs_into.Goals as goal

pub pack-requires : goal.pack-requires
pack-requires c = record {
  distinct = λ k. omega (
    arith,
    c.in_ok-turned.ensures.distinct k,
    sum_by-IsPermutation (λ e. cond {A = ℕ} (has_number k e) 1 0) c.in_ok-turned.turned.items
        c.reverse.new.self.items c.reverse.ensures.permutation,
  );
}
