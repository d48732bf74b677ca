-- Near geometries that are asked for only if they share no point.
use Rattle.std.proofs.Common.{◌≡◌, ◌↔◌, ◌<◌, ℕ, subst, sym}
use Rattle.std.specs.Prelude.{Option, Some, None, IsSome, IfSome}
use Rattle.plane_core.specs.Points.{Point, IsSamePlace}
use Rattle.distance_core.specs.declared.nearness.Nearness.{Nearness}
use Rattle.distance_core.specs.declared.nearness.Nearness.TheVariants.{Apart}
use Rattle.planar_core.specs.Squares.{AreApart}
use Rattle.planar_core.proofs.TouchLemmas.{touching}
use Rattle.near_core.specs.declared.grown.Grown.{Grown}
use Rattle.near_core.specs.Near.{AreNear, AreWanted, HaveSquare, IsZeroIn}

nothing_found : (S : Type 0) → IsSome {T = S} None → ⊥
nothing_found S h = cc

module _ {G S : Type 0} (fraction : S → ℕ × ℕ) (has_point : G → Point → Type 0)
    (positive : (s : S) → 0 < (fraction s).1)
    (at_place : (g : G) (p q : Point) → 0 < p.w → 0 < q.w → IsSamePlace p q → has_point g p → has_point g q)
    (nearness : Nearness) (g h : Grown G) (apart : nearness ≡ Apart) where
  -- the square that was found is 0 exactly where the geometries share a point
  apart_by_square : (s : S) → HaveSquare fraction has_point s g h → ¬ ((fraction s).0 ≡ 0) ↔ AreApart (has_point g.geometry) (has_point h.geometry)
  apart_by_square s is = touching (has_point g.geometry) (has_point h.geometry) (fraction s).0 (fraction s).1 (positive s) (at_place h.geometry) is

  wanted_both : AreWanted has_point nearness g h → AreWanted has_point Apart g h
  wanted_both wanted = subst (λ (n : Nearness). AreWanted has_point n g h) apart wanted

  -- a pair that shares a point isn't wanted
  pub none_wanted : (found : Option S) → IfSome found (λ s. HaveSquare fraction has_point s g h) → IsZeroIn fraction found
      → IsSome {T = S} None ↔ AreWanted has_point nearness g h
  none_wanted None is zero = absurd zero
  none_wanted (Some s) is zero = (λ some. absurd (nothing_found S some), λ wanted. absurd ((apart_by_square s is).1 (wanted_both wanted).1 zero))

  -- another one is, if it is near
  pub apart_wanted : (found : Option S) → IfSome found (λ s. HaveSquare fraction has_point s g h) → IsSome found ↔ AreNear has_point g h
      → ¬ (IsZeroIn fraction found) → IsSome found ↔ AreWanted has_point nearness g h
  apart_wanted None is near some = (λ found. absurd (nothing_found S found), λ wanted. absurd (nothing_found S (near.1 (wanted_both wanted).0)))
  apart_wanted (Some s) is near some = (
    λ found. subst (λ (n : Nearness). AreWanted has_point n g h) (sym apart) (near.0 found, (apart_by_square s is).0 some),
    λ wanted. near.1 (wanted_both wanted).0,
  )
