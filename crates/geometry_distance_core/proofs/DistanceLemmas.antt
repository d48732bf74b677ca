-- The squared distance of two geometries, by the nearest of their edges and by their starts.
use Rattle.std.proofs.Common.{◌≡◌, ◌*◌, ◌≤◌, ◌<◌, ◌⊎◌, ◌↔◌, inl, inr, ℕ, arith, ◌∙◌, refl, subst}
use Rattle.std.specs.Prelude.{ℤ, pos, ◌-ℤ◌, ◌*ℤ◌, nat_abs, ◌+◌, Option, Some, None, IsSome, IfSome}
use Rattle.std.proofs.lemmas.Int.{ints}
use Rattle.std.proofs.Math.Nat.{mul-le-mul_right, le_of_mul-le-mul_right}
use Rattle.plane_core.specs.Points.{Point, at}
use Rattle.plane_core.specs.Figures.{Figure, IsGeometry}
use Rattle.distance_core.specs.declared.distance.Distance.{Distance}
use Rattle.distance_core.specs.Units.{units_of}
use Rattle.distance_core.specs.Distances.{scaled_square, scale_of, AreWithin}
use Rattle.distance_core.specs.ShapePoints.{IsPointOf}
use Rattle.distance_core.proofs.SquareLemmas.{wide_scale}
use Rattle.distance_core.specs.declared.fraction.SquaredFraction.{SquaredFraction}
use Rattle.distance_core.specs.Fractions.{IsSquareOf, numerator_of}
use Rattle.distance_core.proofs.FarLemmas.{far_turned}
use Rattle.distance_core.proofs.LeastLemmas.{from_far, to_far}
use Rattle.distance_core.proofs.MeetingLemmas.{within_by_fraction}
use Rattle.geometry_distance_core.specs.declared.nearest.Nearest.{Nearest}
use Rattle.geometry_distance_core.specs.NearestPairs.{Pairs, IsLeastOf, IsFound, IsZero, IsNearest}
use Rattle.geometry_distance_core.specs.Skeletons.{is_on_skeleton, IsOnSkeleton, AreApart}
use Rattle.geometry_distance_core.specs.Measured.{of_skeletons, HasStartInArea}
use Rattle.noding_core.proofs.WayLemmas.{on_way_wide}
use Rattle.geometry_distance_core.proofs.BoundaryLemmas.{far_way}
use Rattle.geometry_distance_core.proofs.SkeletonLemmas.{skeleton_in, to_skeleton, apart_least}
use Rattle.geometry_distance_core.proofs.SearchLemmas.{and_left, and_right, and_both}
use Rattle.geometry_distance_core.proofs.SharedLemmas.{AreClear, in_tested, shared_start, start_on}

-- a point is at no distance of itself
pub no_distance : (p : Point) → scaled_square p p ≡ 0
no_distance p = plain (p.x *ℤ pos p.w) (p.y *ℤ pos p.w)
  where
    none : (m : ℤ) → nat_abs (m -ℤ m) ≡ 0
    none m = omega (arith, ints)

    plain : (m n : ℤ) → nat_abs (m -ℤ m) * nat_abs (m -ℤ m) + nat_abs (n -ℤ n) * nat_abs (n -ℤ n) ≡ 0
    plain m n = rw (none m, none n) refl

module _ (g h : Figure) where
  least_of : (square : SquaredFraction) → IsLeastOf square (of_skeletons g h) → IsSquareOf square (IsOnSkeleton g) (IsOnSkeleton h)
  least_of square is = record {
    reached = record {
      first = is.first;
      second = is.second;
      first_wide = is.first_wide;
      second_wide = is.second_wide;
      first_in = and_left _ _ is.one;
      second_in = and_right (is_on_skeleton g is.first) _ is.one;
      near = is.near;
    };
    least = λ p q wide_p wide_q on_g on_h. is.least p q wide_p wide_q (and_both _ _ on_g on_h);
  }

  -- a point of both
  shared_least : (square : SquaredFraction) (p : Point) → 0 < p.w → IsPointOf g p → IsPointOf h p → numerator_of square ≡ 0 → IsSquareOf square (IsPointOf g) (IsPointOf h)
  shared_least square p wide in_g in_h none = record {
    reached = record {
      first = p;
      second = p;
      first_wide = wide;
      second_wide = wide;
      first_in = in_g;
      second_in = in_h;
      near = at_once square.denominator (scaled_square p p) (numerator_of square * scale_of p p) (no_distance p);
    };
    least = λ q r wide_q wide_r in_q in_r. nothing (numerator_of square) (scale_of q r) (square.denominator * scaled_square q r) none;
  }
    where
      at_once : (d a m : ℕ) → a ≡ 0 → d * a ≤ m
      at_once d a m h = rw h (omega arith)

      nothing : (n s m : ℕ) → n ≡ 0 → n * s ≤ m
      nothing n s m h = rw h (omega arith)

  -- edges at no distance share a point
  zero_least : (square : SquaredFraction) → IsLeastOf square (of_skeletons g h) → numerator_of square ≡ 0 → IsSquareOf square (IsPointOf g) (IsPointOf h)
  zero_least square is none = record {
    reached = record {
      first = is.first;
      second = is.second;
      first_wide = is.first_wide;
      second_wide = is.second_wide;
      first_in = skeleton_in g is.first (and_left _ _ is.one);
      second_in = skeleton_in h is.second (and_right (is_on_skeleton g is.first) _ is.one);
      near = is.near;
    };
    least = λ q r wide_q wide_r in_q in_r. nothing (numerator_of square) (scale_of q r) (square.denominator * scaled_square q r) none;
  }
    where
      nothing : (n s m : ℕ) → n ≡ 0 → n * s ≤ m
      nothing n s m h = rw h (omega arith)

  abbrev pub HaveNoStart : Type 0
  HaveNoStart = ¬ (HasStartInArea g h) × ¬ (HasStartInArea h g)

  module _ (good_g : IsGeometry g) (good_h : IsGeometry h) where
    clear_apart : AreClear g h → HaveNoStart → AreApart g h
    clear_apart clear none (p, wide, in_both) = elim (shared_start g h good_g good_h clear p wide in_both.0 in_both.1) [
      | inl start ↦ none.0 start
      | inr start ↦ none.1 start
    ]

    -- edges at some distance
    some_clear : (square : SquaredFraction) → IsLeastOf square (of_skeletons g h) → ¬ (numerator_of square ≡ 0) → AreClear g h
    some_clear square is some = λ p wide on_g on_h.
        some (plain (numerator_of square) (scale_of p p) (square.denominator * scaled_square p p) (wide_scale p p wide wide) (times square.denominator (scaled_square p p) (no_distance p))
        (is.least p p wide wide (and_both _ _ on_g on_h)))
      where
        times : (d a : ℕ) → a ≡ 0 → d * a ≡ 0
        times d a h = rw h (omega arith)

        plain : (n s m : ℕ) → 0 < s → m ≡ 0 → n * s ≤ m → n ≡ 0
        plain n s m wide none h =
            let le = le_of_mul-le-mul_right {m = n} {n = 0} {k = s} (omega (arith, none, h)) wide in
            omega (arith, le)

    some_least : (square : SquaredFraction) → IsLeastOf square (of_skeletons g h) → ¬ (numerator_of square ≡ 0) → HaveNoStart → IsSquareOf square (IsPointOf g) (IsPointOf h)
    some_least square is some none = apart_least g h (numerator_of square) square.denominator good_g good_h (clear_apart (some_clear square is some) none) (least_of square is)

    -- edges that are all too far away
    far_clear : (units : ℕ) → IsFound units None (of_skeletons g h) → AreClear g h
    far_clear units far = λ p wide on_g on_h. far p p wide wide (and_both _ _ on_g on_h) (plain (scaled_square p p) ((units * units) * scale_of p p) (no_distance p))
      where
        plain : (n m : ℕ) → n ≡ 0 → n ≤ m
        plain n m h = omega (arith, h)

    far_apart : (units : ℕ) → IsFound units None (of_skeletons g h) → HaveNoStart → ¬ (AreWithin units (IsPointOf g) (IsPointOf h))
    far_apart units far none w =
        let p = w.first in
        let q = w.second in
        let apart = clear_apart (far_clear units far) none in
        let a = to_skeleton g p q w.first_wide w.second_wide good_g w.first_in (λ also. apart (q, w.second_wide, (also, w.second_in))) in
        let z = a.point in
        let wide_z = on_way_wide p q z w.first_wide w.second_wide a.way in
        let b = to_skeleton h q z w.second_wide wide_z good_h w.second_in (λ also. apart (z, wide_z, (skeleton_in g z a.on, also))) in
        let y = b.point in
        let wide_y = on_way_wide q z y w.second_wide wide_z b.way in
        let n = scaled_square z y in
        let d = scale_of z y in
        let own = to_far n d z y (level n d) in
        let no_nearer = from_far n d p q (far_way n d p q z w.first_wide w.second_wide a.way
        (far_turned _ _ q z (far_way n d q z y w.second_wide wide_z b.way (far_turned _ _ z y own)))) in
        far z y wide_z wide_y (and_both _ _ a.on b.on) (plain n d (units * units) (scale_of p q) (scaled_square p q) (wide_scale p q w.first_wide w.second_wide) no_nearer w.near)
      where
        level : (n d : ℕ) → n * d ≤ d * n
        level n d = omega arith

        plain : (n d u s m : ℕ) → 0 < s → n * s ≤ d * m → m ≤ u * s → n ≤ u * d
        plain n d u s m wide h k =
            let more = mul-le-mul_right {m = m} {n = u * s} d k in
            le_of_mul-le-mul_right {m = n} {n = u * d} {k = s} (omega (arith, h, more)) wide

    -- ---- what is found

    abbrev IsSquareIn : Option SquaredFraction → Type 0
    IsSquareIn found = IfSome found (λ square. IsSquareOf square (IsPointOf g) (IsPointOf h))

    abbrev IsThereWithin : ℕ → Option SquaredFraction → Type 0
    IsThereWithin units found = IsSome found ↔ AreWithin units (IsPointOf g) (IsPointOf h)

    pub record IsResult (units : ℕ) (found : Option SquaredFraction) : Type 0 where
      pub within : IsThereWithin units found
      pub square : IsSquareIn found

    result_some : (units : ℕ) (square : SquaredFraction) → IsSquareOf square (IsPointOf g) (IsPointOf h) → numerator_of square ≤ (units * units) * square.denominator → IsResult units (Some square)
    result_some units square is few = record {
      within = (λ some. (within_by_fraction (IsPointOf g) (IsPointOf h) (numerator_of square) square.denominator units square.positive is).0 few, λ w. refl);
      square = is;
    }

    result_none : (units : ℕ) → ¬ (AreWithin units (IsPointOf g) (IsPointOf h)) → IsResult units None
    result_none units none = record {
      within = (λ some. absurd (never some), λ w. absurd (none w));
      square = tt;
    }
      where
        never : IsSome {T = SquaredFraction} None → ⊥
        never h = cc

    pub result_zero : (units : ℕ) (found : Option SquaredFraction) → IsFound units found (of_skeletons g h) → IsZero found → IsResult units found
    result_zero units None is zero = absurd zero
    result_zero units (Some square) is zero = result_some units square (zero_least square is.0 zero) is.1

    pub result_clear : (units : ℕ) (found : Option SquaredFraction) → IsFound units found (of_skeletons g h) → ¬ (IsZero found) → HaveNoStart → IsResult units found
    result_clear units None is some none = result_none units (far_apart units is none)
    result_clear units (Some square) is some none = result_some units square (some_least square is.0 some none) is.1

    start_shared : (units : ℕ) (square : SquaredFraction) → numerator_of square ≡ 0 → (p : Point) → 0 < p.w → IsPointOf g p → IsPointOf h p → IsResult units (Some square)
    start_shared units square none p wide in_g in_h = result_some units square (shared_least square p wide in_g in_h none) (plain (numerator_of square) _ none)
      where
        plain : (n m : ℕ) → n ≡ 0 → n ≤ m
        plain n m h = omega (arith, h)

    pub result_start : (units : ℕ) (square : SquaredFraction) → numerator_of square ≡ 0 → HasStartInArea g h ⊎ HasStartInArea h g → IsResult units (Some square)
    result_start units square none (inl s) =
        start_shared units square none (at s.start.start) (omega arith) (skeleton_in g _ (start_on g h good_g s.start)) (in_tested _ s.start.within)
    result_start units square none (inr s) =
        start_shared units square none (at s.start.start) (omega arith) (in_tested _ s.start.within) (skeleton_in h _ (start_on h g good_h s.start))

-- the nearest within a distance
pub at_distance : (n : Nearest) (d : Distance) (pairs : Pairs) → n.distance ≡ d → IsNearest n pairs → IsFound (units_of d) n.square pairs
at_distance n d pairs same is = subst (λ (e : Distance). IsFound (units_of e) n.square pairs) same is
