-- Reading lists of points whose numbers are whole and in range.
use Rattle.std.proofs.Common.{◌≡◌, true, List, [], ◌∷◌, Option, Some, None, refl}
use Rattle.std.specs.Prelude.{ℤ, is_some}
use Rattle.std.specs.List.{list_all, AllByRecursion}
use Rattle.std.proofs.lemmas.Bool.{false≢true}
use Rattle.number_core.specs.declared.scale.Scale.{Scale}
use Rattle.number_core.specs.NumberSteps.{coordinate_read}
use Rattle.number_core.proofs.GoodLemmas.{value_in_range, in_range_value}
use Rattle.wkt_core.specs.Grammar.{RawPoint}
use Rattle.wkt_core.specs.Spelling.{HasGoodNumbers, AllNumbersGood}
use Rattle.wkt_core.specs.PointSteps.{position_from, point_read}
use Rattle.wkt_core.specs.ReadLists.{are_whole, are_in_range}
use Rattle.wkt_core.proofs.HeadingLemmas.{both_parts}

both_some : (x y : Option ℤ) → is_some (position_from x y) ≡ true → (is_some x ≡ true) × (is_some y ≡ true)
both_some (Some x) (Some y) h = (refl, refl)
both_some (Some x) None h = absurd (false≢true h)
both_some None y h = absurd (false≢true h)

some_both : (x y : Option ℤ) → is_some x ≡ true → is_some y ≡ true → is_some (position_from x y) ≡ true
some_both (Some x) (Some y) h k = refl
some_both (Some x) None h k = k
some_both None y h k = h

module _ (scale : Scale) where
  point_good : (p : RawPoint) → (point_read scale p).whole ≡ true → is_some (point_read scale p).position ≡ true → HasGoodNumbers scale p
  point_good p w r =
      let whole = both_parts _ _ w in
      let range = both_some (coordinate_read scale p.x).value (coordinate_read scale p.y).value r in (
        record { whole = whole.0; in_range = value_in_range scale p.x range.0 },
        record { whole = whole.1; in_range = value_in_range scale p.y range.1 },
      )

  points_good : (ps : List RawPoint) → are_whole scale ps ≡ true → are_in_range scale ps ≡ true → AllByRecursion (HasGoodNumbers scale) ps
  points_good [] w r = tt
  points_good (p ∷ ps) w r =
      let whole = both_parts _ _ w in
      let range = both_parts _ _ r in
      (point_good p whole.0 range.0, points_good ps whole.1 range.1)

  points_whole : (ps : List RawPoint) → AllByRecursion (HasGoodNumbers scale) ps → are_whole scale ps ≡ true
  points_whole [] h = refl
  points_whole (p ∷ ps) h = rw (h.0.0.whole, h.0.1.whole) (points_whole ps h.1)

  points_in_range : (ps : List RawPoint) → AllByRecursion (HasGoodNumbers scale) ps → are_in_range scale ps ≡ true
  points_in_range [] h = refl
  points_in_range (p ∷ ps) h =
      let x = in_range_value scale p.x h.0.0.in_range in
      let y = in_range_value scale p.y h.0.1.in_range in
      rw (some_both (coordinate_read scale p.x).value (coordinate_read scale p.y).value x y) (points_in_range ps h.1)

  pub lists_good : (lists : List (List RawPoint)) → list_all (are_whole scale) lists ≡ true → list_all (are_in_range scale) lists ≡ true
      → AllNumbersGood scale lists
  lists_good [] w r = tt
  lists_good (ps ∷ lists) w r =
      let whole = both_parts _ _ w in
      let range = both_parts _ _ r in
      (points_good ps whole.0 range.0, lists_good lists whole.1 range.1)

  pub lists_whole : (lists : List (List RawPoint)) → AllNumbersGood scale lists → list_all (are_whole scale) lists ≡ true
  lists_whole [] h = refl
  lists_whole (ps ∷ lists) h = rw (points_whole ps h.0) (lists_whole lists h.1)

  pub lists_in_range : (lists : List (List RawPoint)) → AllNumbersGood scale lists → list_all (are_in_range scale) lists ≡ true
  lists_in_range [] h = refl
  lists_in_range (ps ∷ lists) h = rw (points_in_range ps h.0) (lists_in_range lists h.1)
