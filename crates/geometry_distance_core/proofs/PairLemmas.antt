-- The least squared distance of pairs of points that are added one set after another.
use Rattle.std.proofs.Common.{◌≡◌, ◌*◌, ◌≤◌, ◌<◌, ◌⊎◌, inl, inr, ℕ, arith, ap, ◌∙◌, sym, true, false, refl, subst}
use Rattle.std.specs.Prelude.{Bool, ◌||◌, ◌&&◌, Option, Some, None}
use Rattle.std.proofs.Math.Nat.{mul-le-mul_right, le_of_mul-le-mul_right}
use Rattle.plane_core.specs.Points.{Point}
use Rattle.distance_core.specs.Units.{units_of}
use Rattle.distance_core.specs.Distances.{scaled_square, scale_of, IsAtMost, IsAtLeast}
use Rattle.distance_core.proofs.SquareLemmas.{wide_scale}
use Rattle.distance_core.specs.declared.fraction.SquaredFraction.{SquaredFraction}
use Rattle.distance_core.specs.Fractions.{IsNoFarther, IsNoNearer, IsNoMore, numerator_of}
use Rattle.distance_core.proofs.LeastLemmas.{from_far, to_far}
use Rattle.distance_core.proofs.MeetingLemmas.{far_lesser}
use Rattle.geometry_distance_core.specs.declared.nearest.Nearest.{Nearest}
use Rattle.geometry_distance_core.specs.NearestPairs.{Pairs, IsLeastOf, IsFound, IsNearest, IsPastAll, IsPast, AddsPairs}

-- ---- tests

pub or_left : (a b : Bool) → a ≡ true → (a || b) ≡ true
or_left a b h = ap (λ (t : Bool). t || b) h

pub or_right : (a b : Bool) → b ≡ true → (a || b) ≡ true
or_right true b h = refl
or_right false b h = h

pub by_or : {P : Type 0} (a b : Bool) → (a || b) ≡ true → (a ≡ true → P) → (b ≡ true → P) → P
by_or true b h f g = f refl
by_or false b h f g = g h

-- ---- the same pairs

found_as : (units : ℕ) (found : Option SquaredFraction) (R S : Pairs) → ((p q : Point) → S p q ≡ true → R p q ≡ true) → ((p q : Point) → R p q ≡ true → S p q ≡ true)
    → IsFound units found R → IsFound units found S
found_as units None R S back there h = λ p q wide_p wide_q one. h p q wide_p wide_q (back p q one)
found_as units (Some square) R S back there h = (
  record {
    first = h.0.first;
    second = h.0.second;
    first_wide = h.0.first_wide;
    second_wide = h.0.second_wide;
    one = there h.0.first h.0.second h.0.one;
    near = h.0.near;
    least = λ p q wide_p wide_q one. h.0.least p q wide_p wide_q (back p q one);
  },
  h.1,
)

pub nearest_as : (n : Nearest) (R S : Pairs) → ((p q : Point) → S p q ≡ true → R p q ≡ true) → ((p q : Point) → R p q ≡ true → S p q ≡ true) → IsNearest n R → IsNearest n S
nearest_as n R S back there h = found_as (units_of n.distance) n.square R S back there h

pub adds_as : (R S : Pairs) (a b : Nearest) → ((p q : Point) → S p q ≡ true → R p q ≡ true) → ((p q : Point) → R p q ≡ true → S p q ≡ true) → AddsPairs R a b → AddsPairs S a b
adds_as R S a b back there h = record {
  distance = h.distance;
  added = λ pairs is. nearest_as b (λ p q. pairs p q || R p q) (λ p q. pairs p q || S p q)
      (λ p q one. by_or (pairs p q) (S p q) one (or_left (pairs p q) (R p q)) (λ more. or_right (pairs p q) (R p q) (back p q more)))
      (λ p q one. by_or (pairs p q) (R p q) one (or_left (pairs p q) (S p q)) (λ more. or_right (pairs p q) (S p q) (there p q more)))
      (h.added pairs is);
}

-- ---- one set after another

pub adds_both : (R S : Pairs) (a b c : Nearest) → AddsPairs R a b → AddsPairs S b c → AddsPairs (λ p q. R p q || S p q) a c
adds_both R S a b c h k = record {
  distance = k.distance ∙ h.distance;
  added = λ pairs is. nearest_as c (λ p q. (pairs p q || R p q) || S p q) (λ p q. pairs p q || (R p q || S p q))
      (λ p q one. by_or (pairs p q) (R p q || S p q) one
      (λ old. or_left _ (S p q) (or_left (pairs p q) (R p q) old))
      (λ more. by_or (R p q) (S p q) more (λ r. or_left _ (S p q) (or_right (pairs p q) (R p q) r)) (λ s. or_right (pairs p q || R p q) (S p q) s)))
      (λ p q one. by_or (pairs p q || R p q) (S p q) one
      (λ some. by_or (pairs p q) (R p q) some (or_left (pairs p q) (R p q || S p q)) (λ r. or_right (pairs p q) _ (or_left (R p q) (S p q) r)))
      (λ s. or_right (pairs p q) _ (or_right (R p q) (S p q) s)))
      (k.added (λ p q. pairs p q || R p q) (h.added pairs is));
}

-- ---- pairs that make no difference

abbrev pub IsFarFrom : ℕ → Option SquaredFraction → Point → Point → Type 0
IsFarFrom units None p q = ¬ (IsAtMost (units * units) p q)
IsFarFrom units (Some square) p q = IsNoNearer (numerator_of square) square.denominator p q

abbrev pub IsFar : Nearest → Point → Point → Type 0
IsFar n p q = IsFarFrom (units_of n.distance) n.square p q

found_far : (units : ℕ) (found : Option SquaredFraction) (R S : Pairs) → ((p q : Point) → 0 < p.w → 0 < q.w → S p q ≡ true → IsFarFrom units found p q)
    → IsFound units found R → IsFound units found (λ p q. R p q || S p q)
found_far units None R S far h = λ p q wide_p wide_q one. by_or (R p q) (S p q) one (h p q wide_p wide_q) (far p q wide_p wide_q)
found_far units (Some square) R S far h = (
  record {
    first = h.0.first;
    second = h.0.second;
    first_wide = h.0.first_wide;
    second_wide = h.0.second_wide;
    one = or_left (R h.0.first h.0.second) (S h.0.first h.0.second) h.0.one;
    near = h.0.near;
    least = λ p q wide_p wide_q one. by_or (R p q) (S p q) one (h.0.least p q wide_p wide_q) (far p q wide_p wide_q);
  },
  h.1,
)

pub adds_far : (n : Nearest) (R : Pairs) → ((p q : Point) → 0 < p.w → 0 < q.w → R p q ≡ true → IsFar n p q) → AddsPairs R n n
adds_far n R far = record {
  distance = refl;
  added = λ pairs is. found_far (units_of n.distance) n.square pairs R far is;
}

pub adds_none : (n : Nearest) (R : Pairs) → ((p q : Point) → R p q ≡ true → ⊥) → AddsPairs R n n
adds_none n R none = adds_far n R (λ p q wide_p wide_q one. absurd (none p q one))

-- what is past a squared distance is far from points that are so far apart
multiplied : (m n k d s : ℕ) → m ≤ n * d → n * s ≤ k → m * s ≤ d * k
multiplied m n k d s h l =
    let first = mul-le-mul_right {m = m} {n = n * d} s h in
    let second = mul-le-mul_right {m = n * s} {n = k} d l in
    omega (arith, first, second)

not_so_near : (u n k s : ℕ) → 0 < s → u < n → n * s ≤ k → k ≤ u * s → ⊥
not_so_near u n k s wide more far near =
    let le = le_of_mul-le-mul_right {m = n} {n = u} {k = s} (omega (arith, far, near)) wide in
    omega (arith, le, more)

past_far : (units : ℕ) (found : Option SquaredFraction) (n : ℕ) (p q : Point) → 0 < p.w → 0 < q.w → IsPastAll units found n → IsAtLeast n p q → IsFarFrom units found p q
past_far units None n p q wide_p wide_q past far = λ near. not_so_near (units * units) n (scaled_square p q) (scale_of p q) (wide_scale p q wide_p wide_q) past far near
past_far units (Some square) n p q wide_p wide_q past far = multiplied (numerator_of square) n (scaled_square p q) square.denominator (scale_of p q) past far

pub is_far : (nearest : Nearest) (n : ℕ) (p q : Point) → 0 < p.w → 0 < q.w → IsPast nearest n → IsAtLeast n p q → IsFar nearest p q
is_far nearest n p q wide_p wide_q past far = past_far (units_of nearest.distance) nearest.square n p q wide_p wide_q past far

-- ---- pairs with a least squared distance

either_least : (old new r : SquaredFraction) (R S : Pairs) → (r ≡ old) ⊎ (r ≡ new) → IsNoMore r old → IsNoMore r new → IsLeastOf old R → IsLeastOf new S → IsLeastOf r (λ p q. R p q || S p q)
either_least old new r R S one first second h k = record {
  first = (reached one).0;
  second = (reached one).1;
  first_wide = (reached one).2;
  second_wide = (reached one).3;
  one = (reached one).4;
  near = (reached one).5;
  least = λ p q wide_p wide_q in_. by_or (R p q) (S p q) in_
      (λ r_in. from_far _ _ p q (far_lesser r old p q first (to_far _ _ p q (h.least p q wide_p wide_q r_in))))
      (λ s_in. from_far _ _ p q (far_lesser r new p q second (to_far _ _ p q (k.least p q wide_p wide_q s_in))));
}
  where
    reached : (r ≡ old) ⊎ (r ≡ new)
        → (p : Point) × (q : Point) × (0 < p.w) × (0 < q.w) × ((R p q || S p q) ≡ true) × IsNoFarther (numerator_of r) r.denominator p q
    reached (inl is) = (
      h.first,
      h.second,
      h.first_wide,
      h.second_wide,
      or_left _ (S h.first h.second) h.one,
      subst (λ (s : SquaredFraction). IsNoFarther (numerator_of s) s.denominator h.first h.second) (sym is) h.near,
    )
    reached (inr is) = (
      k.first,
      k.second,
      k.first_wide,
      k.second_wide,
      or_right (R k.first k.second) _ k.one,
      subst (λ (s : SquaredFraction). IsNoFarther (numerator_of s) s.denominator k.first k.second) (sym is) k.near,
    )

still_within : (units : ℕ) (old r : SquaredFraction) → IsNoMore r old → numerator_of old ≤ (units * units) * old.denominator → numerator_of r ≤ (units * units) * r.denominator
still_within units old r less h =
    le_of_mul-le-mul_right {m = numerator_of r} {n = (units * units) * r.denominator} {k = old.denominator}
    (plain (numerator_of old) (units * units) old.denominator r.denominator (numerator_of r) less h) old.positive
  where
    plain : (n u d e m : ℕ) → m * d ≤ n * e → n ≤ u * d → m * d ≤ (u * e) * d
    plain n u d e m h k = let more = mul-le-mul_right {m = n} {n = u * d} e k in omega (arith, h, more)

-- a lesser one takes the place of that found so far
pub adds_lesser : (a b : Nearest) (old new r : SquaredFraction) (S : Pairs) → b.distance ≡ a.distance → a.square ≡ Some old → b.square ≡ Some r
    → (r ≡ old) ⊎ (r ≡ new) → IsNoMore r old → IsNoMore r new → IsLeastOf new S → AddsPairs S a b
adds_lesser a b old new r S distance was is one first second k = record {
  distance = distance;
  added = λ pairs h. into (λ p q. pairs p q || S p q) (from_old pairs h);
}
  where
    at_old : (pairs : Pairs) → IsNearest a pairs → IsFound (units_of a.distance) (Some old) pairs
    at_old pairs h = subst (λ (o : Option SquaredFraction). IsFound (units_of a.distance) o pairs) was h

    from_old : (pairs : Pairs) → IsNearest a pairs → IsFound (units_of a.distance) (Some r) (λ p q. pairs p q || S p q)
    from_old pairs h = (
      either_least old new r pairs S one first second (at_old pairs h).0 k,
      still_within (units_of a.distance) old r first (at_old pairs h).1,
    )

    into : (pairs : Pairs) → IsFound (units_of a.distance) (Some r) pairs → IsNearest b pairs
    into pairs h =
        subst (λ (o : Option SquaredFraction). IsFound (units_of b.distance) o pairs) (sym is)
        (subst (λ (u : ℕ). IsFound u (Some r) pairs) (ap units_of (sym distance)) h)

-- the first that is at most the square of the distance
pub adds_first : (a b : Nearest) (new : SquaredFraction) (S : Pairs) → b.distance ≡ a.distance → a.square ≡ None → b.square ≡ Some new
    → numerator_of new ≤ (units_of a.distance * units_of a.distance) * new.denominator → IsLeastOf new S → AddsPairs S a b
adds_first a b new S distance was is within k = record {
  distance = distance;
  added = λ pairs h. into (λ p q. pairs p q || S p q) (from_none pairs (subst (λ (o : Option SquaredFraction). IsFound (units_of a.distance) o pairs) was h));
}
  where
    farther : (u n d s m : ℕ) → n ≤ u * d → (m ≤ u * s → ⊥) → n * s ≤ d * m
    farther u n d s m h far =
        let first = mul-le-mul_right {m = n} {n = u * d} s h in
        let more : u * s < m = omega (arith, far) in
        let second = mul-le-mul_right {m = u * s} {n = m} d (omega (arith, more)) in
        omega (arith, first, second)

    from_none : (pairs : Pairs) → IsFound (units_of a.distance) None pairs → IsFound (units_of a.distance) (Some new) (λ p q. pairs p q || S p q)
    from_none pairs h = (
      record {
        first = k.first;
        second = k.second;
        first_wide = k.first_wide;
        second_wide = k.second_wide;
        one = or_right (pairs k.first k.second) (S k.first k.second) k.one;
        near = k.near;
        least = λ p q wide_p wide_q one. by_or (pairs p q) (S p q) one
            (λ old. farther (units_of a.distance * units_of a.distance) (numerator_of new) new.denominator (scale_of p q) (scaled_square p q) within (h p q wide_p wide_q old))
            (k.least p q wide_p wide_q);
      },
      within,
    )

    into : (pairs : Pairs) → IsFound (units_of a.distance) (Some new) pairs → IsNearest b pairs
    into pairs h =
        subst (λ (o : Option SquaredFraction). IsFound (units_of b.distance) o pairs) (sym is)
        (subst (λ (u : ℕ). IsFound u (Some new) pairs) (ap units_of (sym distance)) h)

-- one that is more
pub adds_more : (a b : Nearest) (new : SquaredFraction) (S : Pairs) → b.distance ≡ a.distance → a.square ≡ None → b.square ≡ None
    → ¬ (numerator_of new ≤ (units_of a.distance * units_of a.distance) * new.denominator) → IsLeastOf new S → AddsPairs S a b
adds_more a b new S distance was is beyond k = record {
  distance = distance;
  added = λ pairs h. into (λ p q. pairs p q || S p q) (from_none pairs (subst (λ (o : Option SquaredFraction). IsFound (units_of a.distance) o pairs) was h));
}
  where
    too_far : (u n d s m : ℕ) → 0 < s → (n ≤ u * d → ⊥) → n * s ≤ d * m → m ≤ u * s → ⊥
    too_far u n d s m wide far least near =
        let more = mul-le-mul_right {m = m} {n = u * s} d near in
        far (le_of_mul-le-mul_right {m = n} {n = u * d} {k = s} (omega (arith, least, more)) wide)

    from_none : (pairs : Pairs) → IsFound (units_of a.distance) None pairs → IsFound (units_of a.distance) None (λ p q. pairs p q || S p q)
    from_none pairs h = λ p q wide_p wide_q one near. by_or (pairs p q) (S p q) one
        (λ old. h p q wide_p wide_q old near)
        (λ more. too_far (units_of a.distance * units_of a.distance) (numerator_of new) new.denominator (scale_of p q) (scaled_square p q)
        (wide_scale p q wide_p wide_q) beyond (k.least p q wide_p wide_q more) near)

    into : (pairs : Pairs) → IsFound (units_of a.distance) None pairs → IsNearest b pairs
    into pairs h =
        subst (λ (o : Option SquaredFraction). IsFound (units_of b.distance) o pairs) (sym is)
        (subst (λ (u : ℕ). IsFound u None pairs) (ap units_of (sym distance)) h)
