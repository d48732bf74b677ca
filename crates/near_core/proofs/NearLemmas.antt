-- When two features are near, by the lesser of their distances.
use Rattle.std.proofs.Common.{◌≡◌, ◌↔◌, ℕ, ◌*◌, ◌≤◌, min, arith, subst, sym}
use native.Mathlib.Decide.{dec_lt}
use Rattle.std.specs.Prelude.{Option, IsSome, Result, Ok, Err, IfOk}
use Rattle.std.proofs.lemmas.Nat.{mul-le}
use Rattle.std.proofs.Math.Nat.{mul-le-mul_right}
use Rattle.plane_core.specs.Points.{Point}
use Rattle.distance_core.specs.Units.{units_of}
use Rattle.distance_core.specs.Distances.{AreWithin, scale_of}
use Rattle.near_core.specs.declared.grown.Grown.{Grown}
use Rattle.near_core.specs.Near.{AreNear}

-- what is within a distance is within a greater one
wider : (d e : ℕ) (P Q : Point → Type 0) → d ≤ e → AreWithin d P Q → AreWithin e P Q
wider d e P Q le w = record {
  first = w.first;
  second = w.second;
  first_wide = w.first_wide;
  second_wide = w.second_wide;
  first_in = w.first_in;
  second_in = w.second_in;
  near = let squares = mul-le d d e e le le in
      let more = mul-le-mul_right {m = d * d} {n = e * e} (scale_of w.first w.second) squares in
      let near = w.near in
      omega (arith, more, near);
}

module _ {G : Type 0} (has_point : G → Point → Type 0) (g h : Grown G) where
  abbrev IsWithin : ℕ → Type 0
  IsWithin d = AreWithin d (has_point g.geometry) (has_point h.geometry)

  pub near_by_one : (d : ℕ) → units_of g.distance ≡ d → units_of h.distance ≡ d
      → AreNear has_point g h ↔ AreWithin d (has_point g.geometry) (has_point h.geometry)
  near_by_one d is_g is_h = (
    λ near. subst IsWithin is_g near.by_first,
    λ within. record {
      by_first = subst IsWithin (sym is_g) within;
      by_second = subst IsWithin (sym is_h) within;
    },
  )

  module _ (k : ℕ) (least : k ≡ min (units_of g.distance) (units_of h.distance)) where
    near_from_least : IsWithin k → AreNear has_point g h
    near_from_least w = record {
      by_first = wider k (units_of g.distance) _ _ (omega (arith, least)) w;
      by_second = wider k (units_of h.distance) _ _ (omega (arith, least)) w;
    }

    least_from_near : AreNear has_point g h → IsWithin k
    least_from_near near = elim (dec_lt (units_of h.distance) (units_of g.distance)) [
      | yes less ↦ let same : k ≡ units_of h.distance = omega (arith, least, less) in
          subst IsWithin (sym same) near.by_second
      | no more ↦ let same : k ≡ units_of g.distance = omega (arith, least, more) in
          subst IsWithin (sym same) near.by_first
    ]

    -- whether a square was found
    pub near_if : {S E : Type 0} (out : Result (Option S) E)
        → IfOk out (λ found. IsSome found ↔ AreWithin k (has_point g.geometry) (has_point h.geometry))
        → IfOk out (λ found. IsSome found ↔ AreNear has_point g h)
    near_if (Err e) is = tt
    near_if (Ok found) is = (λ some. near_from_least (is.0 some), λ near. is.1 (least_from_near near))
