-- A text that is read without rounding is read alike with it.
use Rattle.std.proofs.Common.{◌≡◌, ℕ, List, [], ◌∷◌, map, refl, sym, ap₂, subst}
use Rattle.std.specs.List.{AllByRecursion}
use Rattle.geom_core.specs.declared.shape.Shape.{Shape}
use Rattle.number_core.specs.declared.scale.Rounding.TheVariants.{Exact}
use Rattle.number_core.specs.declared.scale.Scale.{Scale}
use Rattle.number_core.specs.Scales.{digits_of, limits_of, rounding_of}
use Rattle.number_core.specs.Numbers.{◌then◌}
use Rattle.number_core.proofs.PlainLemmas.{IsPlain, number_still, number_plain, value_alike, good_alike}
use Rattle.wkt_core.specs.declared.keyword.Keyword.{Keyword}
use Rattle.wkt_core.specs.declared.keyword.Keyword.TheVariants.{Point, LineString, Polygon}
use Rattle.wkt_core.specs.declared.position.Position.{Position}
use Rattle.wkt_core.specs.Grammar.{RawPoint, PointText, PointList, Listed, InParentheses, Body, Raw}
use Rattle.wkt_core.specs.Spelling.{HasGoodNumbers, AllNumbersGood, position, positions, Forms, Spells}

-- ---- lists

-- a text of two parts, with other kinds of them
pub then_still : {A B C D : List ℕ → Type 0} {text : List ℕ} → ((s : List ℕ) → A s → C s) → ((s : List ℕ) → B s → D s)
    → (A then B) text → (C then D) text
then_still f g h = record {
  front = h.front;
  back = h.back;
  first = f h.front h.first;
  second = g h.back h.second;
  joined = h.joined;
}

pub listed_still : {X : Type 0} (A B : X → List ℕ → Type 0) → ((x : X) (s : List ℕ) → A x s → B x s)
    → (xs : List X) (s : List ℕ) → Listed A xs s → Listed B xs s
listed_still A B still [] s h = h
listed_still A B still (x ∷ []) s h = then_still (λ s h. h) (λ t. then_still (still x) (λ s h. h)) h
listed_still A B still (x ∷ y ∷ xs) s h =
    then_still (λ s h. h) (λ t. then_still (still x) (λ u. then_still (λ s h. h) (λ v. then_still (λ s h. h) (listed_still A B still (y ∷ xs))))) h

pub enclosed_still : {X : Type 0} (A B : X → List ℕ → Type 0) → ((x : X) (s : List ℕ) → A x s → B x s)
    → (xs : List X) (s : List ℕ) → InParentheses A xs s → InParentheses B xs s
enclosed_still A B still xs s h = then_still (λ s h. h) (listed_still A B still xs) h

listed_all : {X : Type 0} (A : X → List ℕ → Type 0) (P : X → Type 0) → ((x : X) (s : List ℕ) → A x s → P x)
    → (xs : List X) (s : List ℕ) → Listed A xs s → AllByRecursion P xs
listed_all A P means [] s h = tt
listed_all A P means (x ∷ []) s h = (means x h.second.front h.second.first, tt)
listed_all A P means (x ∷ y ∷ xs) s h =
    let rest = h.second.second.second in
    (means x h.second.front h.second.first, listed_all A P means (y ∷ xs) rest.back rest.second)

pub enclosed_all : {X : Type 0} (A : X → List ℕ → Type 0) (P : X → Type 0) → ((x : X) (s : List ℕ) → A x s → P x)
    → (xs : List X) (s : List ℕ) → InParentheses A xs s → AllByRecursion P xs
enclosed_all A P means xs s h = listed_all A P means xs h.back h.second

-- ---- points

abbrev pub ArePlain : RawPoint → Type 0
ArePlain p = IsPlain p.x × IsPlain p.y

module _ (exact scale : Scale) (is : rounding_of exact ≡ Exact) where
  pub point_still : (p : RawPoint) (s : List ℕ) → PointText exact p s → PointText scale p s
  point_still p s h = then_still (number_still exact scale is p.x) (λ t. then_still (λ s h. h) (number_still exact scale is p.y)) h

  pub point_plain : (p : RawPoint) (s : List ℕ) → PointText exact p s → ArePlain p
  point_plain p s h = (number_plain exact scale is p.x h.front h.first, number_plain exact scale is p.y h.second.back h.second.second)

  -- ---- texts

  pub list_still : (ps : List RawPoint) (s : List ℕ) → PointList exact ps s → PointList scale ps s
  list_still = enclosed_still (PointText exact) (PointText scale) point_still

  pub list_plain : (ps : List RawPoint) (s : List ℕ) → PointList exact ps s → AllByRecursion ArePlain ps
  list_plain = enclosed_all (PointText exact) ArePlain point_plain

  body_still : (keyword : Keyword) (lists : List (List RawPoint)) (s : List ℕ) → Body exact keyword lists s → Body scale keyword lists s
  body_still Point [] s h = h
  body_still Point ([] ∷ lists) s h = h
  body_still Point ((p ∷ []) ∷ []) s h = list_still (p ∷ []) s h
  body_still Point ((p ∷ []) ∷ q ∷ lists) s h = h
  body_still Point ((p ∷ q ∷ ps) ∷ lists) s h = h
  body_still LineString [] s h = h
  body_still LineString (ps ∷ []) s h = list_still ps s h
  body_still LineString (ps ∷ qs ∷ lists) s h = h
  body_still Polygon lists s h = enclosed_still (PointList exact) (PointList scale) list_still lists s h

  body_plain : (keyword : Keyword) (lists : List (List RawPoint)) (s : List ℕ) → Body exact keyword lists s → AllByRecursion (AllByRecursion ArePlain) lists
  body_plain Point [] s h = absurd h
  body_plain Point ([] ∷ lists) s h = absurd h
  body_plain Point ((p ∷ []) ∷ []) s h = (list_plain (p ∷ []) s h, tt)
  body_plain Point ((p ∷ []) ∷ q ∷ lists) s h = absurd h
  body_plain Point ((p ∷ q ∷ ps) ∷ lists) s h = absurd h
  body_plain LineString [] s h = absurd h
  body_plain LineString (ps ∷ []) s h = (list_plain ps s h, tt)
  body_plain LineString (ps ∷ qs ∷ lists) s h = absurd h
  body_plain Polygon lists s h = enclosed_all (PointList exact) (AllByRecursion ArePlain) list_plain lists s h

  pub raw_still : (text : List ℕ) (keyword : Keyword) (lists : List (List RawPoint)) → Raw exact text keyword lists → Raw scale text keyword lists
  raw_still text keyword lists h =
      then_still (λ s h. h) (λ t. then_still (λ s h. h) (λ u. then_still (λ s h. h) (λ v. then_still (body_still keyword lists) (λ s h. h)))) h

  pub raw_plain : (text : List ℕ) (keyword : Keyword) (lists : List (List RawPoint)) → Raw exact text keyword lists
      → AllByRecursion (AllByRecursion ArePlain) lists
  raw_plain text keyword lists h = let body = h.second.second.second in body_plain keyword lists body.front body.first

  -- ---- values

  module _ (digits : digits_of scale ≡ digits_of exact) (limits : limits_of scale ≡ limits_of exact) where
    points_alike : (ps : List RawPoint) → AllByRecursion ArePlain ps → AllByRecursion (HasGoodNumbers exact) ps
        → AllByRecursion (HasGoodNumbers scale) ps × (map (position scale) ps ≡ map (position exact) ps)
    points_alike [] plain good = (tt, refl)
    points_alike (p ∷ ps) plain good =
        let rest = points_alike ps plain.1 good.1 in
        let x = value_alike exact scale is digits limits p.x plain.0.0 good.0.0 in
        let y = value_alike exact scale is digits limits p.y plain.0.1 good.0.1 in (
          ((good_alike exact scale is digits limits p.x plain.0.0 good.0.0, good_alike exact scale is digits limits p.y plain.0.1 good.0.1), rest.0),
          ap₂ (λ (q : Position) (qs : List Position). q ∷ qs) (λ i. record { x = x i; y = y i }) rest.1,
        )

    pub lists_alike : (lists : List (List RawPoint)) → AllByRecursion (AllByRecursion ArePlain) lists → AllNumbersGood exact lists
        → AllNumbersGood scale lists × (positions scale lists ≡ positions exact lists)
    lists_alike [] plain good = (tt, refl)
    lists_alike (ps ∷ lists) plain good =
        let first = points_alike ps plain.0 good.0 in
        let rest = lists_alike lists plain.1 good.1 in
        ((first.0, rest.0), ap₂ (λ (qs : List Position) (others : List (List Position)). qs ∷ others) first.1 rest.1)

pub spelled_alike : (exact scale : Scale) (text : List ℕ) (s : Shape) → rounding_of exact ≡ Exact → digits_of scale ≡ digits_of exact → limits_of scale ≡ limits_of exact
    → Spells exact text s → Spells scale text s
spelled_alike exact scale text s is digits limits h =
    let alike = lists_alike exact scale is digits limits h.lists (raw_plain exact scale is text h.keyword h.lists h.raw) h.good in
    record {
      keyword = h.keyword;
      lists = h.lists;
      raw = raw_still exact scale is text h.keyword h.lists h.raw;
      good = alike.0;
      forms = subst (λ ps. Forms h.keyword ps s) (sym alike.1) h.forms;
    }
