use Rattle.std.proofs.Common.{◌≡◌, rules, of_z, to_z, w64, sym, subst, pos, ◌≤ℤ◌}
use Rattle.std.specs.Prelude.{neg_ℤ}
use Rattle.std.specs.Int.{int_min, int_max}
use Rattle.geom_core.specs.Limits.{greatest_coordinate}
use Rattle.geom_core.specs.Joined.{joined_ordered, joined_above, joined_below, same_ends}
use Rattle.geom_core.proofs.HeldLemmas.{held_lo, held_hi, held_by}
use Rattle.geom_core.proofs.span.Span.joined.Goals as goal

pub invariant_of-result : goal.invariant_of-result
invariant_of-result c =
    let a = c.args.self.now in
    let b = c.args.other.now in
    let lo : to_z w64 (of_z w64 c.min-lo.result) ≡ int_min a.lo b.lo = held_by int_min c.min-lo.result _ _ (search rules) (held_lo a) (held_lo b) c.min-lo.ensures.value in
    let hi : to_z w64 (of_z w64 c.max-hi.result) ≡ int_max a.hi b.hi = held_by int_max c.max-hi.result _ _ (search rules) (held_hi a) (held_hi b) c.max-hi.ensures.value in
    record {
      ordered = rw (lo, hi) (joined_ordered a b);
      above = subst (λ z. neg_ℤ (pos greatest_coordinate) ≤ℤ z) (sym lo) (joined_above a b);
      below = subst (λ z. z ≤ℤ pos greatest_coordinate) (sym hi) (joined_below a b);
    }

pub returns : goal.returns
returns c =
    let a = c.args.self.now in
    let b = c.args.other.now in
    same_ends _ _
    (held_by int_min c.min-lo.result _ _ (search rules) (held_lo a) (held_lo b) c.min-lo.ensures.value)
    (held_by int_max c.max-hi.result _ _ (search rules) (held_hi a) (held_hi b) c.max-hi.ensures.value)
