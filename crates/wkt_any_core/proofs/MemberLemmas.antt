-- Points of a list of points, polylines and polygons are read by the grammar, in only one way.
use Rattle.std.proofs.Common.{◌≡◌, ℕ, false, List, [], ◌∷◌, ◌++◌, inl, inr, get_or, Option, Some, None, Result, Ok, Err, refl, sym, ◌∙◌, ap}
use Rattle.std.specs.Prelude.{IfOk, IfSome, IfNone}
use Rattle.std.proofs.lemmas.Option.{none-some}
use Rattle.number_core.specs.declared.scale.Rounding.{Rounding}
use Rattle.number_core.specs.declared.scale.Rounding.TheVariants.{Exact, Nearest}
use Rattle.number_core.specs.declared.scale.Scale.{Scale}
use Rattle.number_core.specs.Scales.{rounding_of}
use Rattle.number_core.specs.NumberSteps.{is_taken}
use Rattle.wkt_core.specs.Grammar.{RawPoint, PointList, InParentheses}
use Rattle.wkt_core.specs.PointSteps.{point_at}
use Rattle.wkt_core.specs.TokenSteps.{symbol_at}
use Rattle.wkt_core.specs.ListSteps.{TakesPoint, TakesPoints, TakesLists}
use Rattle.wkt_core.proofs.FrontLemmas.{Stops, NoBlank, Begins, Begins-shorter}
use Rattle.wkt_core.proofs.ItemLemmas.{IsExact}
use Rattle.wkt_core.proofs.ListGrammar.{IsReading, enclosed_reading, enclosed_exact}
use Rattle.wkt_core.proofs.PointLemmas.{points_reading, points_exact, lists_reading, lists_exact, text_lists_reading, text_lists_exact}
use Rattle.wkt_any_core.specs.Grammar.{Member, Polygons}
use Rattle.wkt_any_core.specs.Steps.{TakesMember, TakesMembers, TakesPolygons}

-- ---- what is read

-- the promise of a success with a value, and of one without
pub ok_some : {A E : Type 0} {P Q : A → Type 0} (r : Result (Option A) E) → IfOk r (λ o. IfSome o P) → ((x : A) → P x → Q x) → IfOk r (λ o. IfSome o Q)
ok_some (Ok None) h f = tt
ok_some (Ok (Some x)) h f = f x h
ok_some (Err e) h f = tt

pub ok_none : {A E P Q : Type 0} (r : Result (Option A) E) → IfOk r (λ o. IfNone o P) → (P → Q) → IfOk r (λ o. IfNone o Q)
ok_none (Ok None) h f = f h
ok_none (Ok (Some x)) h f = tt
ok_none (Err e) h f = tt

-- ---- at a scale, by whose rounding numbers are read

module _ (scale : Scale) where
  -- without digits there is no number
  none_taken : (rounding : Rounding) → is_taken rounding [] [] ≡ false
  none_taken Exact = refl
  none_taken Nearest = refl

  -- no point begins with a parenthesis
  no_point_opens : (u : List ℕ) → point_at scale (40 ∷ u) ≡ None
  no_point_opens u = rw (none_taken (rounding_of scale)) refl

  pub bare_or_enclosed : (text : List ℕ) (p : RawPoint) (rest u : List ℕ) → text ≡ 40 ∷ u → TakesPoint scale text p rest → ⊥
  bare_or_enclosed text p rest u open_at h = none-some _ (sym (no_point_opens u) ∙ ap (point_at scale) (sym open_at) ∙ h)

  head_same : (p q : RawPoint) → p ∷ [] ≡ q ∷ [] → p ≡ q
  head_same p q e = ap (λ ps. get_or ps 0 p) e

  member_value : (text : List ℕ) (p q : RawPoint) (r s : List ℕ) → TakesMember scale text p r → TakesMember scale text q s → p ≡ q
  member_value text p q r s (inl h) (inl k) = (points_exact scale).value text p q r s h k
  member_value text p q r s (inl h) (inr (u, k, items)) = absurd (bare_or_enclosed text p r u k h)
  member_value text p q r s (inr (u, h, items)) (inl k) = absurd (bare_or_enclosed text q s u h k)
  member_value text p q r s (inr h) (inr k) = head_same p q ((lists_exact scale).value text (p ∷ []) (q ∷ []) r s h k)

  member_rest : (text : List ℕ) (p q : RawPoint) (r s : List ℕ) → TakesMember scale text p r → TakesMember scale text q s → r ≡ s
  member_rest text p q r s (inl h) (inl k) = (points_exact scale).rest text p q r s h k
  member_rest text p q r s (inl h) (inr (u, k, items)) = absurd (bare_or_enclosed text p r u k h)
  member_rest text p q r s (inr (u, h, items)) (inl k) = absurd (bare_or_enclosed text q s u h k)
  member_rest text p q r s (inr h) (inr k) = (lists_exact scale).rest text (p ∷ []) (q ∷ []) r s h k

  member_begins : (text : List ℕ) (p : RawPoint) (rest : List ℕ) → TakesMember scale text p rest → Begins (Member scale) text p rest
  member_begins text p rest (inl h) = let (s, hs, es) = (points_reading scale).begins text p rest h in (s, inl hs, es)
  member_begins text p rest (inr h) = let (s, hs, es) = (lists_reading scale).begins text (p ∷ []) rest h in (s, inr hs, es)

  pub member_exact : IsExact (TakesMember scale)
  member_exact = record {
    value = member_value;
    rest = member_rest;
    shorter = λ text p r h. Begins-shorter (Member scale) text p r (member_begins text p r h);
  }

  member_front : (p : RawPoint) (s rest : List ℕ) → Member scale p s → Stops rest → TakesMember scale (s ++ rest) p rest
  member_front p s rest (inl h) stop = inl ((points_reading scale).front p s rest h stop)
  member_front p s rest (inr h) stop = inr ((lists_reading scale).front (p ∷ []) s rest h stop)

  member_solid : (p : RawPoint) (s rest : List ℕ) → Member scale p s → NoBlank (s ++ rest)
  member_solid p s rest (inl h) = (points_reading scale).solid p s rest h
  member_solid p s rest (inr h) = (lists_reading scale).solid (p ∷ []) s rest h

  pub member_reading : IsReading (Member scale) (TakesMember scale)
  member_reading = record { begins = member_begins; front = member_front; solid = member_solid }

  pub members_exact : IsExact (TakesMembers scale)
  members_exact = enclosed_exact (Member scale) (TakesMember scale) member_reading member_exact

  pub members_reading : IsReading (InParentheses (Member scale)) (TakesMembers scale)
  members_reading = enclosed_reading (Member scale) (TakesMember scale) member_reading

  pub polygons_exact : IsExact (TakesPolygons scale)
  polygons_exact = enclosed_exact (InParentheses (PointList scale)) (TakesLists scale) (text_lists_reading scale) (text_lists_exact scale)

  pub polygons_reading : IsReading (Polygons scale) (TakesPolygons scale)
  polygons_reading = enclosed_reading (InParentheses (PointList scale)) (TakesLists scale) (text_lists_reading scale)

  -- a text that starts with a parenthesis is no point without parentheses
  pub no_enclosed : (text u : List ℕ) → text ≡ 40 ∷ u → ((p : RawPoint) (rest : List ℕ) → TakesPoints scale text (p ∷ []) rest → ⊥)
      → (p : RawPoint) (rest : List ℕ) → TakesMember scale text p rest → ⊥
  no_enclosed text u open_at none p rest (inl h) = bare_or_enclosed text p rest u open_at h
  no_enclosed text u open_at none p rest (inr h) = none p rest h

  -- and one that doesn't is no point in parentheses
  pub no_bare : (text : List ℕ) → None ≡ symbol_at 40 text → ((p : RawPoint) (rest : List ℕ) → TakesPoint scale text p rest → ⊥)
      → (p : RawPoint) (rest : List ℕ) → TakesMember scale text p rest → ⊥
  no_bare text closed none p rest (inl h) = none p rest h
  no_bare text closed none p rest (inr (u, open_at, items)) = none-some u (closed ∙ ap (symbol_at 40) open_at)
