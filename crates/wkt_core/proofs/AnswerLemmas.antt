-- The shape that a text spells, and the only result of reading it.
use Rattle.std.proofs.Common.{◌≡◌, ℕ, List, [], ◌∷◌, Option, Some, None, IfSome, IfNone, Result, Ok, Err, refl, sym, ◌∙◌, ap, subst, true}
use Rattle.std.specs.List.{list_all}
use Rattle.geom_core.specs.declared.shape.Shape.{Shape}
use Rattle.wkt_core.specs.declared.fault.WktFault.{WktFault}
use Rattle.wkt_core.specs.declared.fault.WktFault.TheVariants.{Text, Number, Form}
use Rattle.wkt_core.specs.declared.keyword.Keyword.{Keyword}
use Rattle.wkt_core.specs.declared.position.Position.{Position}
use Rattle.number_core.specs.declared.scale.Scale.{Scale}
use Rattle.wkt_core.specs.Grammar.{RawPoint, Raw}
use Rattle.wkt_core.specs.Spelling.{AllNumbersGood, positions, Forms, Spells}
use Rattle.wkt_core.specs.Readings.{Reads}
use Rattle.wkt_core.specs.AnswerSteps.{IsAnswerOf, IsReading}
use Rattle.wkt_core.specs.declared.raw.RawText.{RawText}
use Rattle.wkt_core.specs.ListSteps.{TakesText}
use Rattle.wkt_core.specs.ReadLists.{are_whole, are_in_range, AreReadOf}
use Rattle.wkt_core.proofs.DrawnLemmas.{draws_same}
use Rattle.wkt_core.proofs.GoodLemmas.{lists_good, lists_whole, lists_in_range}
use Rattle.wkt_core.proofs.TextLemmas.{raw_taken, taken_raw, one_raw_form}

-- ---- one shape

forms_same : (keyword : Keyword) (lists : List (List Position)) (s t : Shape) → Forms keyword lists s → Forms keyword lists t → s ≡ t
forms_same keyword [] s t h k = absurd h
forms_same keyword (ps ∷ []) s t h k = draws_same keyword ps s t h k
forms_same keyword (ps ∷ qs ∷ lists) s t h k = absurd h

module _ (scale : Scale) where
  -- ---- of a text with a raw form

  module _ (text : List ℕ) (keyword : Keyword) (lists : List (List RawPoint)) (raw : Raw scale text keyword lists) where
    forms_here : (l : Keyword) (ys : List (List RawPoint)) (s : Shape) → Raw scale text l ys → Forms l (positions scale ys) s
        → Forms keyword (positions scale lists) s
    forms_here l ys s h f =
        let same = one_raw_form scale text l keyword ys lists h raw in
        subst (λ v. Forms v (positions scale lists) s) same.0 (subst (λ v. Forms l (positions scale v) s) same.1 f)

    good_here : (l : Keyword) (ys : List (List RawPoint)) → Raw scale text l ys → AllNumbersGood scale ys → AllNumbersGood scale lists
    good_here l ys h g = subst (AllNumbersGood scale) (one_raw_form scale text l keyword ys lists h raw).1 g

    pub spelled : (s : Shape) → Spells scale text s → AllNumbersGood scale lists × Forms keyword (positions scale lists) s
    spelled s h = (good_here h.keyword h.lists h.raw h.good, forms_here h.keyword h.lists s h.raw h.forms)

  -- a text spells one shape
  pub one_shape : (text : List ℕ) (s t : Shape) → Spells scale text s → Spells scale text t → s ≡ t
  one_shape text s t h k = forms_same h.keyword (positions scale h.lists) s t h.forms (spelled text h.keyword h.lists h.raw t k).1

  -- ---- readings

  -- reading a text has only one result
  pub one_reading : (text : List ℕ) (a b : Result Shape WktFault) → Reads scale text a → Reads scale text b → a ≡ b
  one_reading text (Ok s) (Ok t) h k = ap Ok (one_shape text s t h k)
  one_reading text (Ok s) (Err Text) h k = absurd (k h.keyword h.lists h.raw)
  one_reading text (Ok s) (Err Number) h k = absurd (k.bad (spelled text k.keyword k.lists k.raw s h).0)
  one_reading text (Ok s) (Err Form) h k = absurd (k.formless s (spelled text k.keyword k.lists k.raw s h).1)
  one_reading text (Err Text) (Ok t) h k = absurd (h k.keyword k.lists k.raw)
  one_reading text (Err Text) (Err Text) h k = refl
  one_reading text (Err Text) (Err Number) h k = absurd (h k.keyword k.lists k.raw)
  one_reading text (Err Text) (Err Form) h k = absurd (h k.keyword k.lists k.raw)
  one_reading text (Err Number) (Ok t) h k = absurd (h.bad (spelled text h.keyword h.lists h.raw t k).0)
  one_reading text (Err Number) (Err Text) h k = absurd (k h.keyword h.lists h.raw)
  one_reading text (Err Number) (Err Number) h k = refl
  one_reading text (Err Number) (Err Form) h k = absurd (h.bad (good_here text h.keyword h.lists h.raw k.keyword k.lists k.raw k.good))
  one_reading text (Err Form) (Ok t) h k = absurd (h.formless t (spelled text h.keyword h.lists h.raw t k).1)
  one_reading text (Err Form) (Err Text) h k = absurd (k h.keyword h.lists h.raw)
  one_reading text (Err Form) (Err Number) h k = absurd (k.bad (good_here text k.keyword k.lists k.raw h.keyword h.lists h.raw h.good))
  one_reading text (Err Form) (Err Form) h k = refl

  reading : (text : List ℕ) (answer : Result Shape WktFault) → Reads scale text answer → IsReading scale text answer
  reading text answer reads = record { reads = reads; only = λ other. one_reading text answer other reads }

  pub text_reading : (text : List ℕ) → ((keyword : Keyword) (lists : List (List RawPoint)) → TakesText scale text keyword lists → ⊥)
      → IsReading scale text (Err Text)
  text_reading text none = reading text (Err Text) (λ keyword lists raw. none keyword lists (raw_taken scale text keyword lists raw))

  module _ (text : List ℕ) (keyword : Keyword) (lists : List (List RawPoint)) (taken : TakesText scale text keyword lists) where
    raw_form : Raw scale text keyword lists
    raw_form = taken_raw scale text keyword lists taken

    pub number_reading : (list_all (are_whole scale) lists ≡ true → list_all (are_in_range scale) lists ≡ true → ⊥) → IsReading scale text (Err Number)
    number_reading bad = reading text (Err Number) (record {
      keyword = keyword;
      lists = lists;
      raw = raw_form;
      bad = λ good. bad (lists_whole scale lists good) (lists_in_range scale lists good);
    })

    module _ (whole : list_all (are_whole scale) lists ≡ true) (in_range : list_all (are_in_range scale) lists ≡ true) where
      good : AllNumbersGood scale lists
      good = lists_good scale lists whole in_range

      pub shape_reading : (s : Shape) → Forms keyword (positions scale lists) s → IsReading scale text (Ok s)
      shape_reading s forms = reading text (Ok s) (record { keyword = keyword; lists = lists; raw = raw_form; good = good; forms = forms })

      pub form_reading : ((s : Shape) → Forms keyword (positions scale lists) s → ⊥) → IsReading scale text (Err Form)
      form_reading none = reading text (Err Form) (record { keyword = keyword; lists = lists; raw = raw_form; good = good; formless = none })

  -- the result for the raw text is the result of reading the text
  pub answered : (text : List ℕ) (read : Option RawText) (answer : Result Shape WktFault)
      → IfSome read (λ raw. (lists : List (List RawPoint)) × TakesText scale text raw.keyword lists × AreReadOf scale raw.lists lists)
      → IfNone read ((keyword : Keyword) (lists : List (List RawPoint)) → TakesText scale text keyword lists → ⊥)
      → IsAnswerOf read answer → IsReading scale text answer
  answered text None (Ok s) some none h = absurd h
  answered text None (Err Text) some none h = text_reading text none
  answered text None (Err Number) some none h = absurd h
  answered text None (Err Form) some none h = absurd h
  answered text (Some raw) (Ok s) (lists, taken, of) none h =
      shape_reading text raw.keyword lists taken (sym of.whole ∙ h.0.0) (sym of.in_range ∙ h.0.1) s
      (h.1 scale text lists taken of (sym of.in_range ∙ h.0.1))
  answered text (Some raw) (Err Text) some none h = absurd h
  answered text (Some raw) (Err Number) (lists, taken, of) none h =
      number_reading text raw.keyword lists taken (λ whole in_range. h (of.whole ∙ whole, of.in_range ∙ in_range))
  answered text (Some raw) (Err Form) (lists, taken, of) none h =
      form_reading text raw.keyword lists taken (sym of.whole ∙ h.0.0) (sym of.in_range ∙ h.0.1)
      (λ s forms. h.1 scale text lists s taken of (sym of.in_range ∙ h.0.1) forms)
