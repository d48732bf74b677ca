-- The distance of a feature, by its box or by its geometry.
use Rattle.std.proofs.Common.{◌≡◌, ◌↔◌, ℕ, refl, sym, subst, ◌∙◌, arith}
use Rattle.std.specs.Prelude.{Option, Some, None, IsSome, IfSome, Result, Ok, Err, IfOk, option_map}
use Rattle.std.specs.Borrow.{Bor}
use Rattle.geom_core.specs.declared.shape.Shape.{Shape}
use Rattle.plane_core.specs.Points.{Point}
use Rattle.distance_core.specs.declared.distance.Distance.{Distance}
use Rattle.distance_core.specs.declared.query.Query.{Query}
use Rattle.distance_core.specs.Distances.{AreWithin}
use Rattle.distance_core.specs.Limits.{greatest_distance}
use Rattle.distance_core.specs.Queries.{within_of, IsInReach as IsSquareInReach}
use Rattle.distance_core.specs.ShapePoints.{HasPoint}
use Rattle.distance_core.specs.Units.{units_of}
use Rattle.distance_core.proofs.MeetingLemmas.{within_by_fraction}
use Rattle.layer_core.specs.Layers.{Feature, Contents, with_number, ShapeIs}
use Rattle.planar_core.specs.Squares.{IsSquareOf}
use Rattle.planar_core.proofs.BoxLemmas.{as_fraction}
use Rattle.nearest_core.specs.Limits.{limit_in, limit_of}
use Rattle.nearest_core.specs.Nearest.{IsInReach}
use Rattle.nearest_core.specs.Steps.{IsBoxOf, IsMeasuredAs, IsReached}
use Rattle.nearest_core.proofs.SquareLemmas.{square_from}

nothing_found : (A : Type 0) → IsSome {T = A} None → ⊥
nothing_found A h = cc

module _ {G S : Type 0} (fraction : S → ℕ × ℕ) (box_of : G → Shape) (has_point : G → Point → Type 0) (query : Query) (layer : Contents G) (g : G) (k : ℕ) where
  reach_by_square : (within : Option Distance) (h : G) (n : ℕ) → IsSquareOf (n, 1) (has_point g) (has_point h) → IsSquareInReach within n
      → IsInReach has_point within g h
  reach_by_square None h n is reach = tt
  reach_by_square (Some d) h n is reach =
      (within_by_fraction (has_point g) (has_point h) n 1 (units_of d) (omega arith) is).0 (omega (arith, reach))

  -- a square that the boxes tell
  pub known_square : (n : ℕ) (s : S) → fraction s ≡ (n, 1)
      → ((a b : G) → IsSquareOf (n, 1) (HasPoint (box_of a)) (HasPoint (box_of b)) → IsSquareOf (n, 1) (has_point a) (has_point b))
      → IsBoxOf box_of layer g (record { square = n; number = k }) → IsSquareInReach (within_of query) n
      → IsReached fraction has_point query layer g (record { square = s; number = k })
  known_square n s value exact b reach =
      let boxes = as_fraction (HasPoint (box_of g)) (HasPoint (box_of b.feature.shape)) n (square_from (box_of g) (box_of b.feature.shape) n b.square) in
      let is = exact g b.feature.shape boxes in
      record {
        feature = b.feature;
        held = b.held;
        square = subst (λ (f : ℕ × ℕ). IsSquareOf f (has_point g) (has_point b.feature.shape)) (sym value) is;
        in_reach = reach_by_square (within_of query) b.feature.shape n is reach;
      }

  reach_from_limit : (within : Option Distance) (h : G) → AreWithin (limit_in within) (has_point g) (has_point h) → IsInReach has_point within g h
  reach_from_limit None h w = tt
  reach_from_limit (Some d) h w = w

  module _ (in_plane : (a b : G) → ¬ (¬ (AreWithin greatest_distance (has_point a) (has_point b)))) where
    beyond_limit : (within : Option Distance) (h : G) → ¬ (AreWithin (limit_in within) (has_point g) (has_point h)) → ¬ (IsInReach has_point within g h)
    beyond_limit None h beyond reach = in_plane g h beyond
    beyond_limit (Some d) h beyond reach = beyond reach

    module _ (f : Feature G) (held : with_number k layer ≡ Some f) where
      one_feature : (h : Feature G) → with_number k layer ≡ Some h → h ≡ f
      one_feature h held_too = let same : Some h ≡ Some f = sym held_too ∙ held in cc

      measured : (found : Option S) → IsSome found ↔ AreWithin (limit_of query) (has_point g) (has_point f.shape)
          → IfSome found (λ s. IsSquareOf (fraction s) (has_point g) (has_point f.shape)) → IsMeasuredAs fraction has_point query layer g k found
      measured None within square = λ h held_too.
          subst (λ (x : Feature G). ¬ (IsInReach has_point (within_of query) g x.shape)) (sym (one_feature h held_too))
          (beyond_limit (within_of query) f.shape (λ w. nothing_found S (within.1 w)))
      measured (Some s) within square =
          record { feature = f; held = held; square = square; in_reach = reach_from_limit (within_of query) f.shape (within.0 refl) }

      -- what was found of a feature's geometry is its distance
      pub measured_shape : {E : Type 0} (out : Result (Option S) E) (b : Bor G) (units : ℕ) → ShapeIs (Some b) (with_number k layer) → units ≡ limit_of query
          → IfOk out (λ found. IsSome found ↔ AreWithin units (has_point g) (has_point b.now))
          → IfOk out (λ found. IfSome found (λ s. IsSquareOf (fraction s) (has_point g) (has_point b.now)))
          → IfOk out (IsMeasuredAs fraction has_point query layer g k)
      measured_shape (Err e) b units shape is within square = tt
      measured_shape (Ok found) b units shape is within square =
          let some : Some b.now ≡ Some f.shape = subst (λ (t : Option (Feature G)). Some b.now ≡ option_map (λ x. x.shape) t) held shape in
          let same : b.now ≡ f.shape = cc in
          measured found
          (subst (λ (n : ℕ). IsSome found ↔ AreWithin n (has_point g) (has_point f.shape)) is
          (subst (λ (x : G). IsSome found ↔ AreWithin units (has_point g) (has_point x)) same within))
          (subst (λ (x : G). IfSome found (λ s. IsSquareOf (fraction s) (has_point g) (has_point x))) same square)
