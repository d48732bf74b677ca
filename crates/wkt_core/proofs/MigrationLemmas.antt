-- A shape that a text spelled before is the one that it spells at scale 0.
use Rattle.std.proofs.Common.{◌≡◌, true, ℕ, List, [], ◌∷◌, ◌++◌, map, drop, refl, sym, ap, ap₂, ◌∙◌, subst, arith, ◌≤◌}
use Rattle.std.specs.Prelude.{◌==◌, IsTrue}
use Rattle.std.specs.List.{AllByRecursion, list_all}
use Rattle.std.specs.Str.Parse.{digits_value}
use Rattle.std.proofs.lemmas.Int.{ints}
use Rattle.std.proofs.lemmas.List.{append-nil}
use Rattle.geom_core.specs.declared.shape.Shape.{Shape}
use Rattle.number_core.specs.declared.scale.Rounding.TheVariants.{Exact}
use Rattle.number_core.specs.declared.limits.Limits.{Limits}
use Rattle.number_core.specs.declared.limits.Limits.TheVariants.{Boxes, Any}
use Rattle.number_core.specs.declared.scale.Scale.{Scale}
use Rattle.number_core.specs.ScaleLimits.{greatest_units}
use Rattle.number_core.specs.Numbers.{Numeral}
use Rattle.wkt_core.specs.Grammar.{RawPoint}
use Rattle.number_core.specs.Scales.{digits_of, limits_of, rounding_of, IsInRange}
use Rattle.wkt_core.specs.Drawing.{Draws}
use Rattle.number_core.specs.Values.{kept, is_whole_by, units_by, signed, value, IsGood}
use Rattle.wkt_core.specs.Spelling.{HasGoodNumbers, position, Spells}
use Rattle.wkt_core.specs.SpelledBefore.{greatest_before, value_before, WasGood, HadGoodNumbers, position_before, SpelledBefore}
use Rattle.wkt_core.proofs.DrawnLemmas.{drawn_still}
use Rattle.number_core.proofs.NumberLemmas.{kept-none}
use Rattle.number_core.proofs.PlainLemmas.{IsPlain, units_still, whole_still}
use Rattle.wkt_core.proofs.PlainLemmas.{ArePlain, raw_still, raw_plain}

-- no limit is less than the one before
limits_grew : (limits : Limits) → greatest_before ≤ greatest_units limits
limits_grew Boxes = omega arith
limits_grew Any = omega arith

module _ (scale : Scale) (none : digits_of scale ≡ 0) where
  whole_before : (n : Numeral) → WasGood n → is_whole_by Exact (digits_of scale) n ≡ true
  whole_before n h = subst (λ k. IsTrue (list_all (λ d. d == 48) (drop k n.decimals))) (sym none) h.whole

  value_still : (n : Numeral) → IsPlain n → WasGood n → value scale n ≡ value_before n
  value_still n plain h =
      let all : kept (digits_of scale) n.decimals ≡ [] = ap (λ k. kept k n.decimals) none ∙ kept-none n.decimals in
      let units : units_by Exact (digits_of scale) n ≡ digits_value 10 n.digits =
      ap (λ ds. digits_value 10 ds) (ap (λ ds. n.digits ++ ds) all ∙ append-nil n.digits) in
      ap (signed n.negative) (units_still (rounding_of scale) (digits_of scale) n plain (whole_before n h) ∙ units)

  good_still : (n : Numeral) → IsPlain n → WasGood n → IsGood scale n
  good_still n plain h = let grew = limits_grew (limits_of scale) in record {
    whole = whole_still (rounding_of scale) (digits_of scale) n (whole_before n h);
    in_range = subst (IsInRange scale) (sym (value_still n plain h)) (omega (arith, ints, h.above, grew), omega (arith, ints, h.below, grew));
  }

  points_still : (ps : List RawPoint) → AllByRecursion ArePlain ps → AllByRecursion HadGoodNumbers ps → AllByRecursion (HasGoodNumbers scale) ps
  points_still [] plain h = tt
  points_still (p ∷ ps) plain h = ((good_still p.x plain.0.0 h.0.0, good_still p.y plain.0.1 h.0.1), points_still ps plain.1 h.1)

  positions_still : (ps : List RawPoint) → AllByRecursion ArePlain ps → AllByRecursion HadGoodNumbers ps → map (position scale) ps ≡ map position_before ps
  positions_still [] plain h = refl
  positions_still (p ∷ ps) plain h =
      ap₂ (λ q qs. q ∷ qs) (λ i. record { x = value_still p.x plain.0.0 h.0.0 i; y = value_still p.y plain.0.1 h.0.1 i }) (positions_still ps plain.1 h.1)

pub spelled_still : (scale : Scale) (text : List ℕ) (s : Shape) → digits_of scale ≡ 0 → SpelledBefore text s → Spells scale text s
spelled_still scale text s none h =
    let plain = (raw_plain h.scale scale h.exact text h.keyword (h.points ∷ []) h.raw).0 in
    record {
      keyword = h.keyword;
      lists = h.points ∷ [];
      raw = raw_still h.scale scale h.exact text h.keyword (h.points ∷ []) h.raw;
      good = (points_still scale none h.points plain h.good, tt);
      forms = subst (λ ps. Draws h.keyword ps s) (sym (positions_still scale none h.points plain h.good)) (drawn_still h.keyword _ s h.drew);
    }
