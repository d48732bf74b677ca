-- How far two intervals of one axis are apart.
use Rattle.std.proofs.Common.{◌≡◌, ℕ, ◌*◌, ◌≤◌, ◌<◌, arith, ap, ◌∙◌}
use Rattle.std.specs.Prelude.{ℤ, pos, ◌*ℤ◌, ◌-ℤ◌, ◌≤ℤ◌, ◌<ℤ◌, nat_abs}
use Rattle.std.proofs.lemmas.Int.{ints, by_lt_z}
use Rattle.geom_core.specs.declared.span.Span.{Span}
use Rattle.plane_core.proofs.Ring.{monomials}
use Rattle.plane_core.proofs.ScaleLemmas.{no_less_scaled}
use Rattle.distance_core.specs.Distances.{difference}
use Rattle.distance_core.specs.ShapePoints.{HasNumber}
use Rattle.distance_core.specs.Gaps.{IsGap}

wide : (w : ℕ) → 0 < w → pos 0 <ℤ pos w
wide w h = omega (arith, ints, h)

product : (k w : ℕ) → pos (k * w) ≡ pos k *ℤ pos w
product k w = omega (arith, ints)

-- the difference is the same from both sides
turned : (x : ℤ) (w : ℕ) (y : ℤ) (v : ℕ) → nat_abs (difference x w y v) ≡ nat_abs (difference y v x w)
turned x w y v = omega (arith, ints)

-- each end of an interval is one of its numbers
pub has_lo : (s : Span) → HasNumber s s.lo 1
has_lo s = (omega (arith, ints), omega (arith, ints))

pub has_hi : (s : Span) → HasNumber s s.hi 1
has_hi s = (omega (arith, ints), omega (arith, ints))

-- the scaled distance of the two ends that face each other
scaled_gap : (a b : ℤ) (w v g : ℕ) → pos g ≡ b -ℤ a → pos ((w * v) * g) ≡ pos w *ℤ (pos v *ℤ b) -ℤ pos v *ℤ (pos w *ℤ a)
scaled_gap a b w v g is = product (w * v) g ∙ ap (λ (z : ℤ). z *ℤ pos g) (product w v) ∙ ap (λ (z : ℤ). (pos w *ℤ pos v) *ℤ z) is ∙ simp monomials (omega (arith, ints))

-- numbers of two intervals, the one below the other, are as far apart as the ends that face each other
beyond : (a b : Span) (g : ℕ) → pos g ≡ b.lo -ℤ a.hi → (x : ℤ) (w : ℕ) (y : ℤ) (v : ℕ) → 0 < w → 0 < v → HasNumber a x w → HasNumber b y v
    → (w * v) * g ≤ nat_abs (difference x w y v)
beyond a b g is x w y v wide_w wide_v in_a in_b =
    let low : (pos v *ℤ x) ≤ℤ (pos v *ℤ (pos w *ℤ a.hi)) = no_less_scaled (pos v) x (pos w *ℤ a.hi) (wide v wide_v) in_a.1 in
    let high : (pos w *ℤ (pos v *ℤ b.lo)) ≤ℤ (pos w *ℤ y) = no_less_scaled (pos w) (pos v *ℤ b.lo) y (wide w wide_w) in_b.0 in
    let e = scaled_gap a.hi b.lo w v g is in
    plain (x *ℤ pos v) (y *ℤ pos w) (pos v *ℤ (pos w *ℤ a.hi)) (pos w *ℤ (pos v *ℤ b.lo)) ((w * v) * g)
    (omega (arith, ints, low)) (omega (arith, ints, high)) e
  where
    plain : (m n low high : ℤ) (k : ℕ) → m ≤ℤ low → high ≤ℤ n → pos k ≡ high -ℤ low → k ≤ nat_abs (m -ℤ n)
    plain m n low high k h l e = omega (arith, ints, h, l, e)

module _ (a b : Span) (g : ℕ) where
  -- the second interval is above the first
  pub gap_above : pos g ≡ b.lo -ℤ a.hi → IsGap a b g
  gap_above is = record {
    first = a.hi;
    second = b.lo;
    first_in = has_hi a;
    second_in = has_lo b;
    reached = omega (arith, ints, is);
    least = beyond a b g is;
  }

  -- or below it
  pub gap_below : pos g ≡ a.lo -ℤ b.hi → IsGap a b g
  gap_below is = record {
    first = a.lo;
    second = b.hi;
    first_in = has_lo a;
    second_in = has_hi b;
    reached = omega (arith, ints, is);
    least = λ x w y v wide_w wide_v in_a in_b.
        let far = beyond b a g is y v x w wide_v wide_w in_b in_a in
        omega (arith, ints, far, turned x w y v);
  }

-- or they share a number
pub no_gap : (a b : Span) → a.lo ≤ℤ b.hi → b.lo ≤ℤ a.hi → IsGap a b 0
no_gap a b h k = by_lt_z a.lo b.lo
    (λ below. common b.lo (omega (arith, ints, below), omega (arith, ints, k)) (has_lo b))
    (λ above. common a.lo (has_lo a) (omega (arith, ints, above), omega (arith, ints, h)))
  where
    common : (n : ℤ) → HasNumber a n 1 → HasNumber b n 1 → IsGap a b 0
    common n in_a in_b = record {
      first = n;
      second = n;
      first_in = in_a;
      second_in = in_b;
      reached = omega (arith, ints);
      least = λ x w y v wide_w wide_v in_a in_b. omega arith;
    }
