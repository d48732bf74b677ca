-- Fractions with the same positive denominator are in the order of their numerators.
use Rattle.std.proofs.Common.{◌≡◌, ℕ, to_z, of_z, sym, ap, ◌∙◌, FitsSigned}
use Rattle.std.specs.Prelude.{ℤ, pos, ◌*ℤ◌, ◌<ℤ◌}
use Rattle.std.specs.Int.{w128}
use Rattle.std.specs.Ordering.{int_cmp, MatchOrdering}
use Rattle.std.specs.declared.cmp.Ordering.{Ordering}
use Rattle.std.specs.declared.cmp.Ordering.TheVariants.{Less, Equal, Greater}
use Rattle.std.specs.Cmp.{int_cmp_is, int_ranks}
use Rattle.plane_core.proofs.HeldLemmas.{held}
use Rattle.plane_core.proofs.Ring.{times_comm}
use Rattle.plane_core.proofs.ScaleLemmas.{less_scaled}

cmp_scaled : (k a b : ℤ) → pos 0 <ℤ k → int_cmp a b ≡ int_cmp (a *ℤ k) (b *ℤ k)
cmp_scaled k a b positive = int_cmp_is (a *ℤ k) (b *ℤ k) (int_cmp a b) (moved (int_cmp a b) (int_ranks a b))
  where
    less : (m n : ℤ) → m <ℤ n → (m *ℤ k) <ℤ (n *ℤ k)
    less m n h = rw (times_comm m k, times_comm n k) (less_scaled k m n positive h)

    moved : (r : Ordering) → MatchOrdering r (a <ℤ b) (a ≡ b) (b <ℤ a) → MatchOrdering r ((a *ℤ k) <ℤ (b *ℤ k)) (a *ℤ k ≡ b *ℤ k) ((b *ℤ k) <ℤ (a *ℤ k))
    moved Less h = less a b h
    moved Equal h = ap (λ (z : ℤ). z *ℤ k) h
    moved Greater h = less b a h

pub cmp_level : (o : Ordering) (x z w v : ℤ) → FitsSigned w128 x → FitsSigned w128 z → FitsSigned w128 w → FitsSigned w128 v → pos 0 <ℤ w → of_z w128 w ≡ of_z w128 v
    → o ≡ int_cmp (to_z w128 (of_z w128 x)) (to_z w128 (of_z w128 z)) → o ≡ int_cmp (x *ℤ v) (z *ℤ w)
cmp_level o x z w v hx hz hw hv positive is h =
    let same : w ≡ v = sym (held w hw) ∙ ap (λ (n : ℕ). to_z w128 n) is ∙ held v hv in
    let plain : o ≡ int_cmp x z = rw (held x hx, held z hz) at h in
    plain ∙ cmp_scaled w x z positive ∙ ap (λ (k : ℤ). int_cmp (x *ℤ k) (z *ℤ w)) same
