-- Deciding two features by their shapes.
use Rattle.std.proofs.Common.{◌≡◌, ◌↔◌, ℕ, refl, subst}
use Rattle.std.specs.Prelude.{Option, Some, None, IfSome, IsSome, Result, Ok, Err, IfOk, option_map}
use Rattle.std.specs.Borrow.{Bor}
use Rattle.layer_core.specs.Layers.{Feature, Contents, with_number, ShapeIs}
use Rattle.refine_core.specs.Refinements.{IsDecision}
use Rattle.filter_core.specs.Joins.{StandIn}

nothing_found : (A : Type 0) → IsSome {T = A} None → ⊥
nothing_found A h = cc

-- a feature that is held under a number is the one that was found
module _ {G : Type 0} where
  one_found : (layer : Contents G) (i : ℕ) (f g : Feature G) → with_number i layer ≡ Some f → with_number i layer ≡ Some g → f.shape ≡ g.shape
  one_found layer i f g is_f is_g =
      let same : Some f ≡ Some g = subst (λ (t : Option (Feature G)). t ≡ Some g) is_f is_g in
      let is : f ≡ g = cc in
      subst (λ (t : Feature G). f.shape ≡ t.shape) is refl

  shape_is : (layer : Contents G) (i : ℕ) (f : Feature G) (b : Bor G) → with_number i layer ≡ Some f → ShapeIs (Some b) (with_number i layer) → b.now ≡ f.shape
  shape_is layer i f b held found =
      let same : Some b.now ≡ Some f.shape = subst (λ (t : Option (Feature G)). Some b.now ≡ option_map (λ f. f.shape) t) held found in cc

-- a decision of two shapes is one of the features that have them
module _ {G A : Type 0} (R : G → G → Type 0) (S : A → G → G → Type 0) (left right : Contents G) (i j : ℕ) where
  decided_as : (f s : Feature G) → with_number i left ≡ Some f → with_number j right ≡ Some s → (found : Option A)
      → IsSome found ↔ R f.shape s.shape → IfSome found (λ m. S m f.shape s.shape)
      → IsDecision (λ i j. StandIn R left right (i, j)) (λ i j m. StandIn (S m) left right (i, j)) (i, j) found
  decided_as f s is_f is_s None holds answer =
      λ both. nothing_found A (holds.1 (subst (λ (g : G). R g s.shape) (one_found left i both.first f both.first_held is_f)
      (subst (λ (h : G). R both.first.shape h) (one_found right j both.second s both.second_held is_s) both.holds)))
  decided_as f s is_f is_s (Some m) holds answer = (
    record { first = f; second = s; first_held = is_f; second_held = is_s; holds = holds.0 refl },
    record { first = f; second = s; first_held = is_f; second_held = is_s; holds = answer },
  )

  decided : (f s : Feature G) (g h : Bor G) → with_number i left ≡ Some f → with_number j right ≡ Some s
      → ShapeIs (Some g) (with_number i left) → ShapeIs (Some h) (with_number j right) → (found : Option A)
      → IsSome found ↔ R g.now h.now → IfSome found (λ m. S m g.now h.now)
      → IsDecision (λ i j. StandIn R left right (i, j)) (λ i j m. StandIn (S m) left right (i, j)) (i, j) found
  decided f s g h is_f is_s found_g found_h found holds answer =
      let is_g = shape_is left i f g is_f found_g in
      let is_h = shape_is right j s h is_s found_h in
      decided_as f s is_f is_s found
      (subst (λ (x : G). IsSome found ↔ R x s.shape) is_g (subst (λ (y : G). IsSome found ↔ R g.now y) is_h holds))
      (subst (λ (x : G). IfSome found (λ m. S m x s.shape)) is_g (subst (λ (y : G). IfSome found (λ m. S m g.now y)) is_h answer))

-- the same if no allocation fails
pub decided_if : {G A E : Type 0} (R : G → G → Type 0) (S : A → G → G → Type 0) (left right : Contents G) (i j : ℕ)
    (f s : Feature G) (g h : Bor G) → with_number i left ≡ Some f → with_number j right ≡ Some s
    → ShapeIs (Some g) (with_number i left) → ShapeIs (Some h) (with_number j right) → (out : Result (Option A) E)
    → IfOk out (λ found. IsSome found ↔ R g.now h.now) → IfOk out (λ found. IfSome found (λ m. S m g.now h.now))
    → IfOk out (IsDecision (λ i j. StandIn R left right (i, j)) (λ i j m. StandIn (S m) left right (i, j)) (i, j))
decided_if R S left right i j f s g h is_f is_s found_g found_h (Err e) holds answer = tt
decided_if R S left right i j f s g h is_f is_s found_g found_h (Ok found) holds answer =
    decided R S left right i j f s g h is_f is_s found_g found_h found holds answer
