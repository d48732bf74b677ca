-- The word `even` as the last field of a record.
use Rattle.std.proofs.Common.{◌≡◌, ◌++◌, refl}
use Rattle.std.specs.Prelude.{ℕ, List, Option, Some, None, IsSome, Result, Ok, Err, OnOk, codes}
use Rattle.layer_core.specs.Layers.{Feature, Contents, with_number}
use Rattle.report_core.specs.LastFields.{AddsField}
use Rattle.report_core.specs.Reports.{IsHeld}
use Rattle.any_geometry_core.specs.declared.geometry.AnyGeometry.{AnyGeometry}

nothing_held : IsSome {T = Feature AnyGeometry} None → ⊥
nothing_held h = cc

feature_of : (o : Option (Feature AnyGeometry)) → IsSome o → (f : Feature AnyGeometry) × (o ≡ Some f)
feature_of None held = absurd (nothing_held held)
feature_of (Some f) held = (f, refl)

pub word_added : {T E : Type 0} (left right : Contents AnyGeometry) (pair : ℕ × ℕ) (old new : List ℕ) (out : Result T E) → IsHeld left right pair
    → OnOk out (new ≡ old ++ codes "even") → OnOk out (AddsField (λ g h field. field ≡ codes "even") left right pair old new)
word_added left right pair old new (Err e) held grown = tt
word_added left right pair old new (Ok x) held grown =
    let first = feature_of (with_number pair.0 left) held.0 in
    let second = feature_of (with_number pair.1 right) held.1 in
    record {
      first = first.0;
      second = second.0;
      field = codes "even";
      first_held = first.1;
      second_held = second.1;
      correct = refl;
      added = grown;
    }
