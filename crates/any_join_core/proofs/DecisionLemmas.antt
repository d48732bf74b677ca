-- Deciding two features by their geometries.
use Rattle.std.proofs.Common.{◌≡◌, ◌↔◌, ◌∙◌, refl, sym, subst}
use Rattle.std.specs.Prelude.{⊤, Bool, true, false, IsTrue, ℕ, Option, Some, None, Result, Ok, Err, IfOk, IfSome, IsSome, option_map}
use Rattle.std.specs.Bool.{then_some}
use Rattle.std.specs.Borrow.{Bor}
use Rattle.std.specs.declared.alloc.AllocError.{AllocError}
use Rattle.relation_core.specs.declared.matrix.Matrix.{Matrix}
use Rattle.layer_core.specs.Layers.{Feature, Contents, with_number, ShapeIs}
use Rattle.refine_core.specs.Refinements.{IsDecision}
use Rattle.any_relation_core.specs.declared.any_relation.AnyRelation.{AnyRelation}
use Rattle.any_geometry_core.specs.declared.geometry.AnyGeometry.{AnyGeometry}
use Rattle.filter_core.specs.Joins.{StandIn}
use Rattle.any_join_core.specs.Matches.{AreRelated, HaveMatrix}

-- a feature that is held under a number is the one that was found
one_found : (layer : Contents AnyGeometry) (i : ℕ) (f g : Feature AnyGeometry) → with_number i layer ≡ Some f → with_number i layer ≡ Some g → f.shape ≡ g.shape
one_found layer i f g is_f is_g = let same : Some f ≡ Some g = subst (λ (t : Option (Feature AnyGeometry)). t ≡ Some g) is_f is_g in let is : f ≡ g = cc in subst (λ (t : Feature AnyGeometry). f.shape ≡ t.shape) is (refl)

nothing_found : IsSome {T = Matrix} None → ⊥
nothing_found h = cc

shape_is : (layer : Contents AnyGeometry) (i : ℕ) (f : Feature AnyGeometry) (b : Bor AnyGeometry) → with_number i layer ≡ Some f → ShapeIs (Some b) (with_number i layer) → b.now ≡ f.shape
shape_is layer i f b held found = let same : Some b.now ≡ Some f.shape = subst (λ (t : Option (Feature AnyGeometry)). Some b.now ≡ option_map (λ f. f.shape) t) held found in cc

module _ (relation : AnyRelation) (left right : Contents AnyGeometry) (i j : ℕ) where
  decided_as : (f s : Feature AnyGeometry) → with_number i left ≡ Some f → with_number j right ≡ Some s → (r : Result (Option Matrix) AllocError) → IfOk r (λ found. IsSome found ↔ AreRelated relation f.shape s.shape) → IfOk r (λ found. IfSome found (λ m. HaveMatrix m f.shape s.shape)) → IfOk r (IsDecision (λ i j. StandIn (AreRelated relation) left right (i, j)) (λ i j m. StandIn (HaveMatrix m) left right (i, j)) (i, j))
  decided_as f s is_f is_s (Err refused) holds matrix = holds
  decided_as f s is_f is_s (Ok None) holds matrix =
      λ both. nothing_found (holds.1 (subst (λ (g : AnyGeometry). AreRelated relation g s.shape) (one_found left i both.first f both.first_held is_f) (subst (λ (h : AnyGeometry). AreRelated relation both.first.shape h) (one_found right j both.second s both.second_held is_s) both.holds)))
  decided_as f s is_f is_s (Ok (Some m)) holds matrix = (
    record { first = f; second = s; first_held = is_f; second_held = is_s; holds = holds.0 refl },
    record { first = f; second = s; first_held = is_f; second_held = is_s; holds = matrix },
  )

  pub decided : (f s : Feature AnyGeometry) (g h : Bor AnyGeometry) → with_number i left ≡ Some f → with_number j right ≡ Some s → ShapeIs (Some g) (with_number i left) → ShapeIs (Some h) (with_number j right) → (r : Result (Option Matrix) AllocError) → IfOk r (λ found. IsSome found ↔ AreRelated relation g.now h.now) → IfOk r (λ found. IfSome found (λ m. HaveMatrix m g.now h.now)) → IfOk r (IsDecision (λ i j. StandIn (AreRelated relation) left right (i, j)) (λ i j m. StandIn (HaveMatrix m) left right (i, j)) (i, j))
  decided f s g h is_f is_s found_g found_h r holds matrix =
      let is_g = shape_is left i f g is_f found_g in
      let is_h = shape_is right j s h is_s found_h in
      decided_as f s is_f is_s r
      (subst (λ (x : AnyGeometry). IfOk r (λ found. IsSome found ↔ AreRelated relation x s.shape)) is_g (subst (λ (y : AnyGeometry). IfOk r (λ found. IsSome found ↔ AreRelated relation g.now y)) is_h holds))
      (subst (λ (x : AnyGeometry). IfOk r (λ found. IfSome found (λ m. HaveMatrix m x s.shape))) is_g (subst (λ (y : AnyGeometry). IfOk r (λ found. IfSome found (λ m. HaveMatrix m g.now y))) is_h matrix))

  -- whether two features stand in the relation is told by their geometries
  pub stand_as : (f s : Feature AnyGeometry) (g h : Bor AnyGeometry) → with_number i left ≡ Some f → with_number j right ≡ Some s → ShapeIs (Some g) (with_number i left) → ShapeIs (Some h) (with_number j right)
      → AreRelated relation g.now h.now ↔ StandIn (AreRelated relation) left right (i, j)
  stand_as f s g h is_f is_s found_g found_h =
      let is_g = shape_is left i f g is_f found_g in
      let is_h = shape_is right j s h is_s found_h in (
        λ related. record {
          first = f;
          second = s;
          first_held = is_f;
          second_held = is_s;
          holds = subst (λ (x : AnyGeometry). AreRelated relation x s.shape) is_g (subst (λ (y : AnyGeometry). AreRelated relation g.now y) is_h related);
        },
        λ both. subst (λ (x : AnyGeometry). AreRelated relation x h.now) (one_found left i both.first f both.first_held is_f ∙ sym is_g)
            (subst (λ (y : AnyGeometry). AreRelated relation both.first.shape y) (one_found right j both.second s both.second_held is_s ∙ sym is_h) both.holds),
      )

  -- so they are decided with no answer besides
  pub decided_alone : {A : Type 0} (f s : Feature AnyGeometry) (g h : Bor AnyGeometry) → with_number i left ≡ Some f → with_number j right ≡ Some s → ShapeIs (Some g) (with_number i left) → ShapeIs (Some h) (with_number j right)
      → (answer : Bool) (x : A) (found : Option A) → found ≡ then_some answer x → IsTrue answer ↔ AreRelated relation g.now h.now
      → IsDecision (λ i j. StandIn (AreRelated relation) left right (i, j)) (λ i j m. ⊤) (i, j) found
  decided_alone {A = A} f s g h is_f is_s found_g found_h true x found is told =
      subst (λ (r : Option A). IsDecision (λ i j. StandIn (AreRelated relation) left right (i, j)) (λ i j m. ⊤) (i, j) r) (sym is)
      ((stand_as f s g h is_f is_s found_g found_h).0 (told.0 refl), tt)
  decided_alone {A = A} f s g h is_f is_s found_g found_h false x found is told =
      subst (λ (r : Option A). IsDecision (λ i j. StandIn (AreRelated relation) left right (i, j)) (λ i j m. ⊤) (i, j) r) (sym is)
      (λ both. let yes = told.1 ((stand_as f s g h is_f is_s found_g found_h).1 both) in absurd cc)
