-- The ends of intervals as 64 bits hold them: they are read back, and comparisons of bits are comparisons of ends.
use Rattle.std.proofs.Common.{◌≡◌, true, of_z, to_z, w64, ◌∙◌, ap, arith, FitsSigned}
use Rattle.std.specs.Prelude.{ℤ, ◌≤ℤ◌, int_le}
use Rattle.std.proofs.lemmas.Int.{ints, to_z-of_z}
use Rattle.geom_core.specs.declared.span.Span.{Span}
use Rattle.geom_core.specs.Shapes.{AreEnds, AreCorners}

pub held_lo : (s : Span) → to_z w64 (of_z w64 s.lo) ≡ s.lo
held_lo s = omega (arith, ints)

pub held_hi : (s : Span) → to_z w64 (of_z w64 s.hi) ≡ s.hi
held_hi s = omega (arith, ints)

le_true : (x y : ℤ) → x ≤ℤ y → int_le x y ≡ true
le_true x y h = grind (arith, ints)

true_le : (x y : ℤ) → int_le x y ≡ true → x ≤ℤ y
true_le x y h = grind (arith, ints)

-- one interval begins no later than another ends
pub begins_within : (a b : Span) → int_le (to_z w64 (of_z w64 a.lo)) (to_z w64 (of_z w64 b.hi)) ≡ true → a.lo ≤ℤ b.hi
begins_within a b h = true_le a.lo b.hi (rw (held_lo a, held_hi b) at h)

pub within_begins : (a b : Span) → a.lo ≤ℤ b.hi → int_le (to_z w64 (of_z w64 a.lo)) (to_z w64 (of_z w64 b.hi)) ≡ true
within_begins a b h = rw (held_lo a, held_hi b) (le_true a.lo b.hi h)

-- one begins no later than another, or ends no later
pub no_later_lo : (a b : Span) → int_le (to_z w64 (of_z w64 a.lo)) (to_z w64 (of_z w64 b.lo)) ≡ true → a.lo ≤ℤ b.lo
no_later_lo a b h = true_le a.lo b.lo (rw (held_lo a, held_lo b) at h)

pub lo_no_later : (a b : Span) → a.lo ≤ℤ b.lo → int_le (to_z w64 (of_z w64 a.lo)) (to_z w64 (of_z w64 b.lo)) ≡ true
lo_no_later a b h = rw (held_lo a, held_lo b) (le_true a.lo b.lo h)

pub no_later_hi : (a b : Span) → int_le (to_z w64 (of_z w64 a.hi)) (to_z w64 (of_z w64 b.hi)) ≡ true → a.hi ≤ℤ b.hi
no_later_hi a b h = true_le a.hi b.hi (rw (held_hi a, held_hi b) at h)

pub hi_no_later : (a b : Span) → a.hi ≤ℤ b.hi → int_le (to_z w64 (of_z w64 a.hi)) (to_z w64 (of_z w64 b.hi)) ≡ true
hi_no_later a b h = rw (held_hi a, held_hi b) (le_true a.hi b.hi h)

-- the lesser or the greater of two ends
pub held_by : (f : ℤ → ℤ → ℤ) (r x y : ℤ) → to_z w64 (of_z w64 r) ≡ r → to_z w64 (of_z w64 x) ≡ x → to_z w64 (of_z w64 y) ≡ y
    → r ≡ f (to_z w64 (of_z w64 x)) (to_z w64 (of_z w64 y)) → to_z w64 (of_z w64 r) ≡ f x y
held_by f r x y h k l e = h ∙ e ∙ ap (λ z. f z (to_z w64 (of_z w64 y))) k ∙ ap (f x) l

-- corners are the ends along both axes, as they are held
pub held_corners : (a b c d : ℤ) → FitsSigned w64 a → FitsSigned w64 b → FitsSigned w64 c → FitsSigned w64 d
    → AreEnds (to_z w64 (of_z w64 a)) (to_z w64 (of_z w64 c)) → AreEnds (to_z w64 (of_z w64 b)) (to_z w64 (of_z w64 d)) → AreCorners a b c d
held_corners a b c d fits_a fits_b fits_c fits_d along_x along_y =
    let x = rw (to_z-of_z w64 a fits_a, to_z-of_z w64 c fits_c) at along_x in
    let y = rw (to_z-of_z w64 b fits_b, to_z-of_z w64 d fits_d) at along_y in
    record {
      along_x = x.ordered;
      along_y = y.ordered;
      first_x = x.first;
      first_y = y.first;
      second_x = x.second;
      second_y = y.second;
    }
