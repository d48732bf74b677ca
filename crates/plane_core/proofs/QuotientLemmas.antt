-- The integers next to a coordinate of a point, by a quotient of numbers without signs.
use Rattle.std.proofs.Common.{◌≡◌, ◌≤◌, ◌<◌, ◌*◌, ◌+◌, ℕ, suc, true, false, to_z, of_z, w64, arith, ap, sym, subst, ◌∙◌, FitsSigned}
use Rattle.std.specs.Prelude.{ℤ, pos, negsuc, ◌*ℤ◌, ◌-ℤ◌, ◌+ℤ◌, neg_ℤ, ◌<ℤ◌, ◌≤ℤ◌, nat_abs, int_le}
use Rattle.std.specs.Int.{w128}
use Rattle.std.proofs.lemmas.Int.{ints, by_lt_z, to_z-of_z, to_z_pos, fits_signed_from_abs}
use Rattle.std.proofs.Math.Nat.{mul-le-mul, le_of_mul-le-mul_left, lt_of_mul-lt-mul_right}
use Rattle.wide_core.specs.Quotients as quotient
use Rattle.plane_core.specs.Limits.{greatest_coordinate, IsCoordinate}
use Rattle.plane_core.specs.Meetings.{part_of_way}
use Rattle.plane_core.specs.Spots.{IsFloor, IsCeiling}
use Rattle.plane_core.proofs.Ring.{monomials, one-times}
use Rattle.plane_core.proofs.HeldLemmas.{held, abs_positive}
use Rattle.plane_core.proofs.PlaceLemmas.{way_from}

-- a quotient that is rounded down
pub record IsQuotient (z w q : ℤ) : Type 0 where
  pub low : (w *ℤ q) ≤ℤ z
  pub high : z <ℤ (w *ℤ (q +ℤ pos 1))

-- a quotient that is rounded up
pub record IsRaised (z w q : ℤ) : Type 0 where
  pub low : z ≤ℤ (w *ℤ q)
  pub high : (w *ℤ (q -ℤ pos 1)) <ℤ z

-- what the whole numbers next to a quotient tell of it and of its opposite
product : (k q : ℕ) → pos k *ℤ pos q ≡ pos (k * q)
product k q = omega (arith, ints)

product_next : (k q : ℕ) → pos k *ℤ (pos q +ℤ pos 1) ≡ pos (k * q + k)
product_next k q = simp monomials (omega (arith, ints))

product_before : (k q : ℕ) → pos k *ℤ (pos q -ℤ pos 1) ≡ pos (k * q) -ℤ pos k
product_before k q = simp monomials (omega (arith, ints))

back : (k q : ℕ) → pos k *ℤ neg_ℤ (pos q) ≡ neg_ℤ (pos (k * q))
back k q = simp monomials (omega (arith, ints))

back_next : (k q : ℕ) → pos k *ℤ (neg_ℤ (pos q) +ℤ pos 1) ≡ pos k -ℤ pos (k * q)
back_next k q = simp monomials (omega (arith, ints))

back_before : (k q : ℕ) → pos k *ℤ (neg_ℤ (pos q) -ℤ pos 1) ≡ neg_ℤ (pos (k * q + k))
back_before k q = simp monomials (omega (arith, ints))

floor_up : (z k q : ℕ) → quotient.IsFloor z k q → IsQuotient (pos z) (pos k) (pos q)
floor_up z k q h = record { low = low _ _ (product k q) h.0; high = high _ _ (product_next k q) (over k q z h.1) }
  where
    over : (k q z : ℕ) → z < k * (q + 1) → z < k * q + k
    over k q z h = omega arith

    low : (m : ℤ) (n : ℕ) → m ≡ pos n → n ≤ z → m ≤ℤ pos z
    low m n e h = omega (arith, ints)

    high : (m : ℤ) (n : ℕ) → m ≡ pos n → z < n → pos z <ℤ m
    high m n e h = omega (arith, ints)

ceiling_up : (z k q : ℕ) → quotient.IsCeiling z k q → IsRaised (pos z) (pos k) (pos q)
ceiling_up z k q h = record { low = low _ _ (product k q) h.0; high = high _ _ (product_before k q) h.1 }
  where
    low : (m : ℤ) (n : ℕ) → m ≡ pos n → z ≤ n → pos z ≤ℤ m
    low m n e h = omega (arith, ints)

    high : (m : ℤ) (n : ℕ) → m ≡ pos n -ℤ pos k → n < z + k → m <ℤ pos z
    high m n e h = omega (arith, ints)

floor_down : (z k q : ℕ) → quotient.IsCeiling z k q → IsQuotient (neg_ℤ (pos z)) (pos k) (neg_ℤ (pos q))
floor_down z k q h = record { low = low _ _ (back k q) h.0; high = high _ _ (back_next k q) h.1 }
  where
    low : (m : ℤ) (n : ℕ) → m ≡ neg_ℤ (pos n) → z ≤ n → m ≤ℤ neg_ℤ (pos z)
    low m n e h = omega (arith, ints)

    high : (m : ℤ) (n : ℕ) → m ≡ pos k -ℤ pos n → n < z + k → neg_ℤ (pos z) <ℤ m
    high m n e h = omega (arith, ints)

ceiling_down : (z k q : ℕ) → quotient.IsFloor z k q → IsRaised (neg_ℤ (pos z)) (pos k) (neg_ℤ (pos q))
ceiling_down z k q h = record { low = low _ _ (back k q) h.0; high = high _ _ (back_before k q) (over k q z h.1) }
  where
    over : (k q z : ℕ) → z < k * (q + 1) → z < k * q + k
    over k q z h = omega arith

    low : (m : ℤ) (n : ℕ) → m ≡ neg_ℤ (pos n) → n ≤ z → neg_ℤ (pos z) ≤ℤ m
    low m n e h = omega (arith, ints)

    high : (m : ℤ) (n : ℕ) → m ≡ neg_ℤ (pos n) → z < n → m <ℤ neg_ℤ (pos z)
    high m n e h = omega (arith, ints)

-- the integers next to a number, by w times them
pub floor_of : (w z f : ℤ) → pos 0 <ℤ w → (w *ℤ f) ≤ℤ z → z <ℤ (w *ℤ (f +ℤ pos 1)) → IsFloor (nat_abs w) z f
floor_of w z f hw h k = rw (abs_positive w hw) (h, k)

pub ceiling_at : (w z f : ℤ) → pos 0 <ℤ w → z ≡ w *ℤ f → IsCeiling (nat_abs w) z f
ceiling_at w z f hw e = rw (abs_positive w hw) (same z (w *ℤ f) e, less z (w *ℤ f) _ w e (ring w f) hw)
  where
    same : (m n : ℤ) → m ≡ n → m ≤ℤ n
    same m n h = omega (arith, ints)

    ring : (w f : ℤ) → w *ℤ (f -ℤ pos 1) ≡ w *ℤ f -ℤ w
    ring w f = simp monomials (omega (arith, ints))

    less : (z m k w : ℤ) → z ≡ m → k ≡ m -ℤ w → pos 0 <ℤ w → k <ℤ z
    less z m k w e h hw = omega (arith, ints)

-- the part of a way and the quotient by which it is found
times_sum : (w a q : ℤ) → w *ℤ (a +ℤ q) ≡ w *ℤ a +ℤ w *ℤ q
times_sum w a q = simp monomials

times_next : (w a q : ℤ) → w *ℤ ((a +ℤ q) +ℤ pos 1) ≡ w *ℤ a +ℤ w *ℤ (q +ℤ pos 1)
times_next w a q = simp monomials (omega (arith, ints))

quotient_low : (a b n w q : ℤ) → IsQuotient (n *ℤ (b -ℤ a)) w q → (w *ℤ (a +ℤ q)) ≤ℤ part_of_way a b n w
quotient_low a b n w q h = plain _ _ _ _ _ (times_sum w a q) (way_from a b n w) h.low
  where
    plain : (m z s t u : ℤ) → m ≡ s +ℤ t → z ≡ s +ℤ u → t ≤ℤ u → m ≤ℤ z
    plain m z s t u e f h = omega (arith, ints)

quotient_high : (a b n w q : ℤ) → IsQuotient (n *ℤ (b -ℤ a)) w q → part_of_way a b n w <ℤ (w *ℤ ((a +ℤ q) +ℤ pos 1))
quotient_high a b n w q h = plain _ _ _ _ _ (times_next w a q) (way_from a b n w) h.high
  where
    plain : (m z s t u : ℤ) → m ≡ s +ℤ t → z ≡ s +ℤ u → u <ℤ t → z <ℤ m
    plain m z s t u e f h = omega (arith, ints)

quotient_floor : (a b n w q : ℤ) → pos 0 <ℤ w → IsQuotient (n *ℤ (b -ℤ a)) w q → IsFloor (nat_abs w) (part_of_way a b n w) (a +ℤ q)
quotient_floor a b n w q hw h = floor_of w _ (a +ℤ q) hw (quotient_low a b n w q h) (quotient_high a b n w q h)

raised_low : (a b n w q : ℤ) → IsRaised (n *ℤ (b -ℤ a)) w q → part_of_way a b n w ≤ℤ (w *ℤ (a +ℤ q))
raised_low a b n w q h = plain _ _ _ _ _ (times_sum w a q) (way_from a b n w) h.low
  where
    plain : (m z s t u : ℤ) → m ≡ s +ℤ t → z ≡ s +ℤ u → u ≤ℤ t → z ≤ℤ m
    plain m z s t u e f h = omega (arith, ints)

raised_high : (a b n w q : ℤ) → IsRaised (n *ℤ (b -ℤ a)) w q → (w *ℤ ((a +ℤ q) -ℤ pos 1)) <ℤ part_of_way a b n w
raised_high a b n w q h = plain _ _ _ _ _ (times_before w a q) (way_from a b n w) h.high
  where
    times_before : (w a q : ℤ) → w *ℤ ((a +ℤ q) -ℤ pos 1) ≡ w *ℤ a +ℤ w *ℤ (q -ℤ pos 1)
    times_before w a q = simp monomials (omega (arith, ints))

    plain : (m z s t u : ℤ) → m ≡ s +ℤ t → z ≡ s +ℤ u → t <ℤ u → m <ℤ z
    plain m z s t u e f h = omega (arith, ints)

raised_ceiling : (a b n w q : ℤ) → pos 0 <ℤ w → IsRaised (n *ℤ (b -ℤ a)) w q → IsCeiling (nat_abs w) (part_of_way a b n w) (a +ℤ q)
raised_ceiling a b n w q hw h = rw (abs_positive w hw) (raised_low a b n w q h, raised_high a b n w q h)

-- what 64 bits hold
pub held64 : (a : ℤ) → nat_abs a ≤ 4 * greatest_coordinate → to_z w64 (of_z w64 a) ≡ a
held64 a h = to_z-of_z w64 a (fits_signed_from_abs w64 a (omega arith))

pub fits64 : (a : ℤ) → nat_abs a ≤ 4 * greatest_coordinate → FitsSigned w64 a
fits64 a h = fits_signed_from_abs w64 a (omega arith)

pub coordinate_small : (a : ℤ) → IsCoordinate a → nat_abs a ≤ 4 * greatest_coordinate
coordinate_small a h = omega (arith, ints)

pub way_small : (a b : ℤ) → IsCoordinate a → IsCoordinate b → nat_abs (b -ℤ a) ≤ 2 * greatest_coordinate
way_small a b h k = omega (arith, ints)

way_fits : (n : ℕ) → n ≤ 2 * greatest_coordinate → n ≤ 4 * greatest_coordinate
way_fits n h = omega arith

-- the way from one coordinate to another
pub way_held : (a b r : ℤ) → IsCoordinate a → IsCoordinate b → r ≡ to_z w64 (of_z w64 (to_z w64 (of_z w64 b) -ℤ to_z w64 (of_z w64 a))) → r ≡ b -ℤ a
way_held a b r h k e =
    e ∙ ap (λ (z : ℤ). to_z w64 (of_z w64 (z -ℤ to_z w64 (of_z w64 a)))) (held64 b (coordinate_small b k))
    ∙ ap (λ (z : ℤ). to_z w64 (of_z w64 (b -ℤ z))) (held64 a (coordinate_small a h))
    ∙ held64 (b -ℤ a) (way_fits _ (way_small a b h k))

-- the quotient of the absolute values
pub record IsDivided (a b n w : ℤ) (f k : ℕ) : Type 0 where
  pub floor : quotient.IsFloor (nat_abs n * nat_abs (b -ℤ a)) (nat_abs w) f
  pub ceiling : quotient.IsCeiling (nat_abs n * nat_abs (b -ℤ a)) (nat_abs w) k
  pub floor_short : f ≤ 2 * greatest_coordinate
  pub ceiling_short : k ≤ 2 * greatest_coordinate

pub absolute_part : (n w : ℤ) → pos 0 ≤ℤ n → n ≤ℤ w → nat_abs n ≤ nat_abs w
absolute_part n w h k = omega (arith, ints)

absolute_positive : (w : ℤ) → pos 0 <ℤ w → 0 < nat_abs w
absolute_positive w h = omega (arith, ints)

part_short : (m k d f : ℕ) → m ≤ k → 0 < k → quotient.IsFloor (m * d) k f → f ≤ d
part_short m k d f le positive h = le_of_mul-le-mul_left (through _ _ _ h.0 (mul-le-mul le (own d))) positive
  where
    own : (d : ℕ) → d ≤ d
    own d = omega arith

    through : (i j k : ℕ) → i ≤ j → j ≤ k → i ≤ k
    through i j k h l = omega arith

raised_short : (m k d f : ℕ) → m ≤ k → 0 < k → quotient.IsCeiling (m * d) k f → f ≤ d
raised_short m k d f le positive h = plain f d (lt_of_mul-lt-mul_right k (through f d k (m * d) h.1 (mul-le-mul le (own d))))
  where
    own : (d : ℕ) → d ≤ d
    own d = omega arith

    through : (f d k z : ℕ) → k * f < z + k → z ≤ k * d → f * k < (d + 1) * k
    through f d k z h l = omega arith

    plain : (f d : ℕ) → f < d + 1 → f ≤ d
    plain f d h = omega arith

-- the absolute value of a way between two coordinates
pub way_size : (a b : ℤ) (r : ℕ) → IsCoordinate a → IsCoordinate b
    → r ≡ nat_abs (to_z w64 (of_z w64 (to_z w64 (of_z w64 b) -ℤ to_z w64 (of_z w64 a)))) → r ≡ nat_abs (b -ℤ a)
way_size a b r ha hb e = e ∙ ap nat_abs (way_held a b _ ha hb (λ i. to_z w64 (of_z w64 (to_z w64 (of_z w64 b) -ℤ to_z w64 (of_z w64 a)))))

pub size_held : (n : ℤ) (r : ℕ) → FitsSigned w128 n → r ≡ nat_abs (to_z w128 (of_z w128 n)) → r ≡ nat_abs n
size_held n r fn e = e ∙ ap nat_abs (held n fn)

pub divided_of : (a b n w : ℤ) (p q r f k : ℕ) → IsCoordinate a → IsCoordinate b → pos 0 ≤ℤ n → n ≤ℤ w → pos 0 <ℤ w
    → p ≡ nat_abs n → q ≡ nat_abs (b -ℤ a) → r ≡ nat_abs w → quotient.IsFloor (p * q) r f → quotient.IsCeiling (p * q) r k → IsDivided a b n w f k
divided_of a b n w p q r f k ha hb hn hw positive ep eq er floor ceiling =
    let own : quotient.IsFloor (nat_abs n * nat_abs (b -ℤ a)) (nat_abs w) f =
    subst (λ (v : ℕ). quotient.IsFloor (nat_abs n * nat_abs (b -ℤ a)) v f) er (subst (λ (z : ℕ). quotient.IsFloor z r f) (λ i. ep i * eq i) floor) in
    let raised : quotient.IsCeiling (nat_abs n * nat_abs (b -ℤ a)) (nat_abs w) k =
    subst (λ (v : ℕ). quotient.IsCeiling (nat_abs n * nat_abs (b -ℤ a)) v k) er (subst (λ (z : ℕ). quotient.IsCeiling z r k) (λ i. ep i * eq i) ceiling) in
    let short = way_small a b ha hb in
    record {
      floor = own;
      ceiling = raised;
      floor_short = through _ _ _ (part_short _ _ _ f (absolute_part n w hn hw) (absolute_positive w positive) own) short;
      ceiling_short = through _ _ _ (raised_short _ _ _ k (absolute_part n w hn hw) (absolute_positive w positive) raised) short;
    }
  where
    through : (i j k : ℕ) → i ≤ j → j ≤ k → i ≤ k
    through i j k h l = omega arith

-- a sum and a difference that 64 bits hold
pub cast_fits : (f : ℕ) → f ≤ 2 * greatest_coordinate → FitsSigned w64 (pos f)
cast_fits f h = fits_signed_from_abs w64 (pos f) (omega arith)

cast_held : (f : ℕ) → f ≤ 2 * greatest_coordinate → to_z w64 f ≡ pos f
cast_held f h = to_z_pos w64 f (omega arith)

sum_small : (a : ℤ) (f : ℕ) → IsCoordinate a → f ≤ 2 * greatest_coordinate → nat_abs (a +ℤ pos f) ≤ 4 * greatest_coordinate
sum_small a f h k = omega (arith, ints)

difference_small : (a : ℤ) (f : ℕ) → IsCoordinate a → f ≤ 2 * greatest_coordinate → nat_abs (a -ℤ pos f) ≤ 4 * greatest_coordinate
difference_small a f h k = omega (arith, ints)

sum_parts : (a : ℤ) (f : ℕ) → IsCoordinate a → f ≤ 2 * greatest_coordinate → to_z w64 (of_z w64 a) +ℤ to_z w64 f ≡ a +ℤ pos f
sum_parts a f h k = λ i. held64 a (coordinate_small a h) i +ℤ cast_held f k i

difference_parts : (a : ℤ) (f : ℕ) → IsCoordinate a → f ≤ 2 * greatest_coordinate → to_z w64 (of_z w64 a) -ℤ to_z w64 f ≡ a -ℤ pos f
difference_parts a f h k = λ i. held64 a (coordinate_small a h) i -ℤ cast_held f k i

pub sum_fits : (a : ℤ) (f : ℕ) → IsCoordinate a → f ≤ 2 * greatest_coordinate → FitsSigned w64 (to_z w64 (of_z w64 a) +ℤ to_z w64 f)
sum_fits a f h k = subst (FitsSigned w64) (sym (sum_parts a f h k)) (fits64 (a +ℤ pos f) (sum_small a f h k))

pub difference_fits : (a : ℤ) (f : ℕ) → IsCoordinate a → f ≤ 2 * greatest_coordinate → FitsSigned w64 (to_z w64 (of_z w64 a) -ℤ to_z w64 f)
difference_fits a f h k = subst (FitsSigned w64) (sym (difference_parts a f h k)) (fits64 (a -ℤ pos f) (difference_small a f h k))

sum_held : (a : ℤ) (f : ℕ) → IsCoordinate a → f ≤ 2 * greatest_coordinate → to_z w64 (of_z w64 (to_z w64 (of_z w64 a) +ℤ to_z w64 f)) ≡ a +ℤ pos f
sum_held a f h k = ap (λ (z : ℤ). to_z w64 (of_z w64 z)) (sum_parts a f h k) ∙ held64 (a +ℤ pos f) (sum_small a f h k)

difference_held : (a : ℤ) (f : ℕ) → IsCoordinate a → f ≤ 2 * greatest_coordinate
    → to_z w64 (of_z w64 (to_z w64 (of_z w64 a) -ℤ to_z w64 f)) ≡ a +ℤ neg_ℤ (pos f)
difference_held a f h k = ap (λ (z : ℤ). to_z w64 (of_z w64 z)) (difference_parts a f h k) ∙ held64 (a -ℤ pos f) (difference_small a f h k) ∙ turned a f
  where
    turned : (a : ℤ) (f : ℕ) → a -ℤ pos f ≡ a +ℤ neg_ℤ (pos f)
    turned a f = omega (arith, ints)

-- the part of a way up, and of a way down
size_up : (n d : ℤ) → pos 0 ≤ℤ n → pos 0 ≤ℤ d → pos (nat_abs n * nat_abs d) ≡ n *ℤ d
size_up (pos n) (pos d) h k = omega (arith, ints)
size_up (negsuc n) d h k = omega (arith, ints)
size_up n (negsuc d) h k = omega (arith, ints)

size_down : (n d : ℤ) → pos 0 ≤ℤ n → d <ℤ pos 0 → neg_ℤ (pos (nat_abs n * nat_abs d)) ≡ n *ℤ d
size_down (pos n) (negsuc d) h k = ap (λ (m : ℕ). neg_ℤ (pos m)) (one_more n d) ∙ sym (ap (λ (z : ℤ). pos n *ℤ z) (as_neg d) ∙ back n (d + 1))
  where
    one_more : (n d : ℕ) → n * suc d ≡ n * (d + 1)
    one_more n d = omega arith

    as_neg : (d : ℕ) → negsuc d ≡ neg_ℤ (pos (d + 1))
    as_neg d = omega (arith, ints)
size_down (negsuc n) d h k = omega (arith, ints)
size_down n (pos d) h k = omega (arith, ints)

pub is_up : (a b : ℤ) → IsCoordinate a → IsCoordinate b → int_le (to_z w64 (of_z w64 a)) (to_z w64 (of_z w64 b)) ≡ true → a ≤ℤ b
is_up a b ha hb h =
    subst (λ (z : ℤ). z ≤ℤ b) (held64 a (coordinate_small a ha)) (subst (λ (z : ℤ). to_z w64 (of_z w64 a) ≤ℤ z) (held64 b (coordinate_small b hb)) (test _ _ h))
  where
    test : (m n : ℤ) → int_le m n ≡ true → m ≤ℤ n
    test m n h = grind (arith, ints)

pub is_down : (a b : ℤ) → IsCoordinate a → IsCoordinate b → int_le (to_z w64 (of_z w64 a)) (to_z w64 (of_z w64 b)) ≡ false → b <ℤ a
is_down a b ha hb h =
    subst (λ (z : ℤ). b <ℤ z) (held64 a (coordinate_small a ha)) (subst (λ (z : ℤ). z <ℤ to_z w64 (of_z w64 a)) (held64 b (coordinate_small b hb)) (test _ _ h))
  where
    test : (m n : ℤ) → int_le m n ≡ false → n <ℤ m
    test m n h = grind (arith, ints)

way_up : (a b : ℤ) → a ≤ℤ b → pos 0 ≤ℤ (b -ℤ a)
way_up a b h = omega (arith, ints)

way_down : (a b : ℤ) → b <ℤ a → (b -ℤ a) <ℤ pos 0
way_down a b h = omega (arith, ints)

pub floor_of_up : (a b n w : ℤ) (f k : ℕ) → IsCoordinate a → pos 0 ≤ℤ n → pos 0 <ℤ w → a ≤ℤ b → IsDivided a b n w f k
    → IsFloor (nat_abs w) (part_of_way a b n w) (to_z w64 (of_z w64 (to_z w64 (of_z w64 a) +ℤ to_z w64 f)))
floor_of_up a b n w f k ha hn hw up h =
    subst (IsFloor (nat_abs w) (part_of_way a b n w)) (sym (sum_held a f ha h.floor_short))
    (quotient_floor a b n w (pos f) hw
    (subst (λ (z : ℤ). IsQuotient z w (pos f)) (size_up n (b -ℤ a) hn (way_up a b up))
    (subst (λ (v : ℤ). IsQuotient (pos (nat_abs n * nat_abs (b -ℤ a))) v (pos f)) (abs_positive w hw) (floor_up _ _ f h.floor))))

pub ceiling_of_up : (a b n w : ℤ) (f k : ℕ) → IsCoordinate a → pos 0 ≤ℤ n → pos 0 <ℤ w → a ≤ℤ b → IsDivided a b n w f k
    → IsCeiling (nat_abs w) (part_of_way a b n w) (to_z w64 (of_z w64 (to_z w64 (of_z w64 a) +ℤ to_z w64 k)))
ceiling_of_up a b n w f k ha hn hw up h =
    subst (IsCeiling (nat_abs w) (part_of_way a b n w)) (sym (sum_held a k ha h.ceiling_short))
    (raised_ceiling a b n w (pos k) hw
    (subst (λ (z : ℤ). IsRaised z w (pos k)) (size_up n (b -ℤ a) hn (way_up a b up))
    (subst (λ (v : ℤ). IsRaised (pos (nat_abs n * nat_abs (b -ℤ a))) v (pos k)) (abs_positive w hw) (ceiling_up _ _ k h.ceiling))))

pub floor_of_down : (a b n w : ℤ) (f k : ℕ) → IsCoordinate a → pos 0 ≤ℤ n → pos 0 <ℤ w → b <ℤ a → IsDivided a b n w f k
    → IsFloor (nat_abs w) (part_of_way a b n w) (to_z w64 (of_z w64 (to_z w64 (of_z w64 a) -ℤ to_z w64 k)))
floor_of_down a b n w f k ha hn hw down h =
    subst (IsFloor (nat_abs w) (part_of_way a b n w)) (sym (difference_held a k ha h.ceiling_short))
    (quotient_floor a b n w (neg_ℤ (pos k)) hw
    (subst (λ (z : ℤ). IsQuotient z w (neg_ℤ (pos k))) (size_down n (b -ℤ a) hn (way_down a b down))
    (subst (λ (v : ℤ). IsQuotient (neg_ℤ (pos (nat_abs n * nat_abs (b -ℤ a)))) v (neg_ℤ (pos k))) (abs_positive w hw) (floor_down _ _ k h.ceiling))))

pub ceiling_of_down : (a b n w : ℤ) (f k : ℕ) → IsCoordinate a → pos 0 ≤ℤ n → pos 0 <ℤ w → b <ℤ a → IsDivided a b n w f k
    → IsCeiling (nat_abs w) (part_of_way a b n w) (to_z w64 (of_z w64 (to_z w64 (of_z w64 a) -ℤ to_z w64 f)))
ceiling_of_down a b n w f k ha hn hw down h =
    subst (IsCeiling (nat_abs w) (part_of_way a b n w)) (sym (difference_held a f ha h.floor_short))
    (raised_ceiling a b n w (neg_ℤ (pos f)) hw
    (subst (λ (z : ℤ). IsRaised z w (neg_ℤ (pos f))) (size_down n (b -ℤ a) hn (way_down a b down))
    (subst (λ (v : ℤ). IsRaised (neg_ℤ (pos (nat_abs n * nat_abs (b -ℤ a)))) v (neg_ℤ (pos f))) (abs_positive w hw) (ceiling_down _ _ f h.floor))))

-- the ends of the way
pub first_end : (a b n : ℤ) → n ≡ pos 0 → a ≡ part_of_way a b n (pos 1)
first_end a b n h = rw h (simp monomials (omega (arith, ints)))

pub last_end : (a b n : ℤ) → n ≡ pos 1 → b ≡ part_of_way a b n (pos 1)
last_end a b n h = rw h (simp monomials (omega (arith, ints)))

pub end_same : (f z w : ℤ) → w ≡ pos 1 → f ≡ z → z ≡ w *ℤ f
end_same f z w h e = rw (h, e) (sym (one-times z))

pub end_floor : (a b n w f : ℤ) → pos 0 <ℤ w → w ≡ pos 1 → f ≡ part_of_way a b n (pos 1) → IsFloor (nat_abs w) (part_of_way a b n w) f
end_floor a b n w f hw one is =
    let same : part_of_way a b n w ≡ w *ℤ f = end_same f (part_of_way a b n w) w one (subst (λ (v : ℤ). f ≡ part_of_way a b n v) (sym one) is) in
    floor_of w (part_of_way a b n w) f hw (weaker _ _ same) (less _ _ _ w same (ring w f) hw)
  where
    weaker : (m n : ℤ) → m ≡ n → n ≤ℤ m
    weaker m n h = omega (arith, ints)

    ring : (w f : ℤ) → w *ℤ (f +ℤ pos 1) ≡ w *ℤ f +ℤ w
    ring w f = simp monomials

    less : (z m k w : ℤ) → z ≡ m → k ≡ m +ℤ w → pos 0 <ℤ w → z <ℤ k
    less z m k w e h hw = omega (arith, ints)

pub end_ceiling : (a b n w f : ℤ) → pos 0 <ℤ w → w ≡ pos 1 → f ≡ part_of_way a b n (pos 1) → IsCeiling (nat_abs w) (part_of_way a b n w) f
end_ceiling a b n w f hw one is =
    ceiling_at w (part_of_way a b n w) f hw (end_same f (part_of_way a b n w) w one (subst (λ (v : ℤ). f ≡ part_of_way a b n v) (sym one) is))

-- what the parts tell of 128-bit values
pub part_held : (a b n w : ℤ) → IsCoordinate a → IsCoordinate b → FitsSigned w128 n → FitsSigned w128 w
    → part_of_way (to_z w64 (of_z w64 a)) (to_z w64 (of_z w64 b)) (to_z w128 (of_z w128 n)) (to_z w128 (of_z w128 w)) ≡ part_of_way a b n w
part_held a b n w ha hb fn fw = λ i. part_of_way (held64 a (coordinate_small a ha) i) (held64 b (coordinate_small b hb) i) (held n fn i) (held w fw i)

pub held_not_beyond : (n w : ℤ) → FitsSigned w128 n → FitsSigned w128 w → n ≤ℤ w → to_z w128 (of_z w128 n) ≤ℤ to_z w128 (of_z w128 w)
held_not_beyond n w fn fw h = subst (λ (z : ℤ). z ≤ℤ to_z w128 (of_z w128 w)) (sym (held n fn)) (subst (λ (z : ℤ). n ≤ℤ z) (sym (held w fw)) h)

-- a fraction of 0 or 1
pub held_zero : (n : ℤ) → FitsSigned w128 n → of_z w128 n ≡ 0 → n ≡ pos 0
held_zero n fn h = sym (held n fn) ∙ ap (to_z w128) h

pub held_one : (n : ℤ) → FitsSigned w128 n → pos 0 ≤ℤ n → n ≤ℤ pos 1 → ¬ (of_z w128 n ≡ 0) → n ≡ pos 1
held_one n fn h k some = by_lt_z (pos 0) n (λ up. one n up k) (λ none. absurd (some (ap (of_z w128) (zero n h none))))
  where
    one : (n : ℤ) → pos 0 <ℤ n → n ≤ℤ pos 1 → n ≡ pos 1
    one n h k = omega (arith, ints)

    zero : (n : ℤ) → pos 0 ≤ℤ n → n ≤ℤ pos 0 → n ≡ pos 0
    zero n h k = omega (arith, ints)

-- a denominator of 1
pub held_unit : (w : ℤ) → FitsSigned w128 w → of_z w128 w ≡ 1 → w ≡ pos 1
held_unit w fw h = sym (held w fw) ∙ ap (to_z w128) h

pub within_unit : (n w : ℤ) → FitsSigned w128 n → FitsSigned w128 w → n ≤ℤ w → of_z w128 w ≡ 1 → to_z w128 (of_z w128 n) ≤ℤ pos 1
within_unit n w fn fw h e = subst (λ (z : ℤ). to_z w128 (of_z w128 n) ≤ℤ z) (held w fw ∙ held_unit w fw e) (held_not_beyond n w fn fw h)

pub end_held : (f a b n : ℤ) → IsCoordinate a → IsCoordinate b → FitsSigned w128 n
    → f ≡ part_of_way (to_z w64 (of_z w64 a)) (to_z w64 (of_z w64 b)) (to_z w128 (of_z w128 n)) (pos 1) → f ≡ part_of_way a b n (pos 1)
end_held f a b n ha hb fn h = h ∙ (λ i. part_of_way (held64 a (coordinate_small a ha) i) (held64 b (coordinate_small b hb) i) (held n fn i) (pos 1))

pub floor_held : (a b n w f : ℤ) → IsCoordinate a → IsCoordinate b → FitsSigned w128 n → FitsSigned w128 w
    → IsFloor (nat_abs (to_z w128 (of_z w128 w))) (part_of_way (to_z w64 (of_z w64 a)) (to_z w64 (of_z w64 b)) (to_z w128 (of_z w128 n)) (to_z w128 (of_z w128 w))) f
    → IsFloor (nat_abs w) (part_of_way a b n w) f
floor_held a b n w f ha hb fn fw h =
    subst (λ (v : ℤ). IsFloor (nat_abs v) (part_of_way a b n w) f) (held w fw)
    (subst (λ (z : ℤ). IsFloor (nat_abs (to_z w128 (of_z w128 w))) z f) (part_held a b n w ha hb fn fw) h)

pub ceiling_held : (a b n w f : ℤ) → IsCoordinate a → IsCoordinate b → FitsSigned w128 n → FitsSigned w128 w
    → IsCeiling (nat_abs (to_z w128 (of_z w128 w))) (part_of_way (to_z w64 (of_z w64 a)) (to_z w64 (of_z w64 b)) (to_z w128 (of_z w128 n)) (to_z w128 (of_z w128 w))) f
    → IsCeiling (nat_abs w) (part_of_way a b n w) f
ceiling_held a b n w f ha hb fn fw h =
    subst (λ (v : ℤ). IsCeiling (nat_abs v) (part_of_way a b n w) f) (held w fw)
    (subst (λ (z : ℤ). IsCeiling (nat_abs (to_z w128 (of_z w128 w))) z f) (part_held a b n w ha hb fn fw) h)
