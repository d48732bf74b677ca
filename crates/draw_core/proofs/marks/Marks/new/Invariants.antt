use Rattle.std.proofs.Common.{◌≡◌, ◌==◌, ℕ, take}
use Rattle.std.specs.List.{list_any}
use Rattle.std.specs.Ordering.{nat_cmp}
use Rattle.std.specs.BTreeSet.{contains}
use Rattle.draw_core.proofs.marks.Marks.new.Given as goal

abbrev pub invariant-loop-found : goal.invariant-loop-found
invariant-loop-found g l = record {
  left : (q : ℕ) → contains nat_cmp l.left q ≡ list_any (λ a. q == (g.M.AsPair.pair_of a).0) (take l.found-index l.matches);
  right : (q : ℕ) → contains nat_cmp l.right q ≡ list_any (λ a. q == (g.M.AsPair.pair_of a).1) (take l.found-index l.matches);
}
