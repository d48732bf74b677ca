-- The distance of a match, as a field.
use Rattle.std.proofs.Common.{ℕ, ◌*◌, ◌≤◌, ◌<◌, List, ◌++◌, Result, Ok, Err, OnOk, refl, sym, ap, ◌∙◌}
use Rattle.std.specs.Prelude.{pos}
use Rattle.plane_core.specs.Points.{Point}
use Rattle.distance_core.specs.Limits.{greatest_distance}
use Rattle.layer_core.specs.Layers.{Contents}
use Rattle.refine_core.specs.declared.refined.Refined.{Refined}
use Rattle.report_core.specs.LastFields.{AddsField}
use Rattle.number_core.specs.declared.scale.Scale.{Scale}
use Rattle.number_core.specs.CanonicalNumbers.{number}
use Rattle.planar_core.specs.Squares.{IsSquareOf}
use Rattle.near_run_core.specs.DistanceTexts.{AddsDistance, HasSquare, IsDistanceText}
use Rattle.near_run_core.proofs.AmountLemmas.{number_field}

module _ {G S : Type 0} (fraction : S → ℕ × ℕ) (has_point : G → Point → Type 0) (left right : Contents G) (found : Refined S)
    (has : HasSquare fraction has_point left right found) where
  -- the squared distance of a match is small
  pub match_few : ((s : S) → 0 < (fraction s).1) → ((g h : G) (f : ℕ × ℕ) → 0 < f.1 → IsSquareOf f (has_point g) (has_point h)
      → f.0 ≤ (greatest_distance * greatest_distance) * f.1)
      → (fraction found.answer).0 ≤ (greatest_distance * greatest_distance) * (fraction found.answer).1
  match_few positive in_range = in_range has.first.shape has.second.shape (fraction found.answer) (positive found.answer) has.holds

  -- the rounded distance is added as the field, which needs no quotes
  pub distance_added : {T E : Type 0} (scale : Scale) (old new : List ℕ) (out : Result T E)
      → OnOk out (AddsDistance scale (fraction found.answer) old new) → OnOk out (AddsField (IsDistanceText has_point scale) left right found.pair old new)
  distance_added scale old new (Err e) adds = tt
  distance_added scale old new (Ok x) adds = record {
    first = has.first;
    second = has.second;
    field = number scale (pos adds.units);
    first_held = has.first_held;
    second_held = has.second_held;
    correct = record {
      square = fraction found.answer;
      units = adds.units;
      is_square = has.holds;
      rounded = adds.rounded;
      printed = refl;
    };
    added = adds.grown ∙ ap (λ t. old ++ t) (sym (number_field scale adds.units adds.few));
  }
