-- The heading of a text: a keyword, by itself or after "multi".
use Rattle.std.proofs.Common.{◌≡◌, ℕ, true, false, List, [], ◌∷◌, ◌++◌, map, get_or, drop, refl, ap, ap₂, subst, sym, ◌∙◌, arith}
use Rattle.std.specs.Prelude.{Bool, codes}
use Rattle.std.specs.Char.{to_ascii_lowercase}
use Rattle.std.proofs.lemmas.List.{append_assoc, map-append}
use Rattle.wkt_core.specs.declared.keyword.Keyword.{Keyword}
use Rattle.wkt_core.specs.declared.keyword.Keyword.TheVariants.{Point, LineString, Polygon}
use Rattle.wkt_core.specs.Grammar.{spelling as word}
use Rattle.wkt_core.specs.TokenSteps.{TakesLetters}
use Rattle.wkt_core.specs.ListSteps.{TakesWord}
use Rattle.wkt_core.proofs.FrontLemmas.{NoBlank}
use Rattle.wkt_core.proofs.TextLemmas.{letters_rest, apart, word_same, blank_stays, small}
use Rattle.wkt_any_core.specs.declared.heading.Heading.{Heading}
use Rattle.wkt_any_core.specs.Grammar.{Words, spelling_by}
use Rattle.wkt_any_core.specs.Steps.{TakesKind, TakesHeading}

-- no keyword begins as "multi" does
pub multi_or_one : (text : List ℕ) (keyword : Keyword) (m r : List ℕ) → TakesLetters (codes "multi") text m → TakesWord text keyword r → ⊥
multi_or_one text Point m r h k =
    let e : 109 ≡ 112 = apart (codes "multi") (word Point) text m r 0 h k (omega arith) (omega arith) in absurd (omega (arith, e))
multi_or_one text LineString m r h k =
    let e : 109 ≡ 108 = apart (codes "multi") (word LineString) text m r 0 h k (omega arith) (omega arith) in absurd (omega (arith, e))
multi_or_one text Polygon m r h k =
    let e : 109 ≡ 112 = apart (codes "multi") (word Polygon) text m r 0 h k (omega arith) (omega arith) in absurd (omega (arith, e))

kind_same : (text : List ℕ) (a b : Bool) (k l : Keyword) (r s : List ℕ) → TakesKind text a k r → TakesKind text b l s → (a ≡ b) × (k ≡ l) × (r ≡ s)
kind_same text false false k l r s h i = let same = word_same text k l r s h i in (refl, same.0, same.1)
kind_same text false true k l r s h (n, g, i) = absurd (multi_or_one text k n r g h)
kind_same text true false k l r s (m, f, h) i = absurd (multi_or_one text l m s f i)
kind_same text true true k l r s (m, f, h) (n, g, i) =
    let here : n ≡ m = letters_rest (codes "multi") text n m g f in
    let same = word_same m k l r s h (subst (λ t. TakesWord t l s) here i) in
    (refl, same.0, same.1)

pub heading_same : (text : List ℕ) (g h : Heading) (r s : List ℕ) → TakesHeading text g r → TakesHeading text h s → (g ≡ h) × (r ≡ s)
heading_same text g h r s i j =
    let same = kind_same text g.is_multi h.is_multi g.keyword h.keyword r s i j in
    (λ k. record { is_multi = same.0 k; keyword = same.1 k }, same.2)

-- ---- what is read

-- no keyword follows "multi"
pub no_many : (text m : List ℕ) → TakesLetters (codes "multi") text m → ((keyword : Keyword) (rest : List ℕ) → TakesWord m keyword rest → ⊥)
    → (heading : Heading) (rest : List ℕ) → TakesHeading text heading rest → ⊥
no_many text m f none heading rest h = by_kind heading.is_multi heading.keyword h
  where
    by_kind : (b : Bool) (k : Keyword) → TakesKind text b k rest → ⊥
    by_kind false k i = multi_or_one text k m rest f i
    by_kind true k (n, g, i) = none k rest (subst (λ t. TakesWord t k rest) (letters_rest (codes "multi") text n m g f) i)

-- neither "multi" nor a keyword
pub no_heading : (text : List ℕ) → ((m : List ℕ) → TakesLetters (codes "multi") text m → ⊥) → ((keyword : Keyword) (rest : List ℕ) → TakesWord text keyword rest → ⊥)
    → (heading : Heading) (rest : List ℕ) → TakesHeading text heading rest → ⊥
no_heading text no_multi none heading rest h = by_kind heading.is_multi heading.keyword h
  where
    by_kind : (b : Bool) (k : Keyword) → TakesKind text b k rest → ⊥
    by_kind false k i = none k rest i
    by_kind true k (m, g, i) = no_multi m g

-- ---- the grammar

words_solid_by : (b : Bool) (k : Keyword) (s text : List ℕ) → map to_ascii_lowercase s ≡ spelling_by b k → NoBlank (s ++ text)
words_solid_by b k [] text h = absurd (no_letter b k h)
  where
    no_letter : (b : Bool) (k : Keyword) → [] ≡ spelling_by b k → ⊥
    no_letter false Point h = let e : 0 ≡ 112 = ap (λ t. get_or t 0 0) h in omega (arith, e)
    no_letter false LineString h = let e : 0 ≡ 108 = ap (λ t. get_or t 0 0) h in omega (arith, e)
    no_letter false Polygon h = let e : 0 ≡ 112 = ap (λ t. get_or t 0 0) h in omega (arith, e)
    no_letter true k h = let e : 0 ≡ 109 = ap (λ t. get_or t 0 0) h in omega (arith, e)
words_solid_by false Point (b ∷ s) text h = let first : to_ascii_lowercase b ≡ 112 = ap (λ t. get_or t 0 0) h in blank_stays b 112 first (omega arith)
words_solid_by false LineString (b ∷ s) text h = let first : to_ascii_lowercase b ≡ 108 = ap (λ t. get_or t 0 0) h in blank_stays b 108 first (omega arith)
words_solid_by false Polygon (b ∷ s) text h = let first : to_ascii_lowercase b ≡ 112 = ap (λ t. get_or t 0 0) h in blank_stays b 112 first (omega arith)
words_solid_by true k (b ∷ s) text h = let first : to_ascii_lowercase b ≡ 109 = ap (λ t. get_or t 0 0) h in blank_stays b 109 first (omega arith)

pub words_solid : (heading : Heading) (s text : List ℕ) → Words heading s → NoBlank (s ++ text)
words_solid heading s text h = words_solid_by heading.is_multi heading.keyword s text h

split_map : (s v w : List ℕ) → map to_ascii_lowercase s ≡ v ++ w → (f : List ℕ) × (g : List ℕ) × (s ≡ f ++ g) × (map to_ascii_lowercase f ≡ v) × (map to_ascii_lowercase g ≡ w)
split_map s [] w h = ([], s, refl, refl, h)
split_map [] (x ∷ v) w h = absurd (no_nil x (v ++ w) h)
  where
    no_nil : (x : ℕ) (t : List ℕ) → [] ≡ x ∷ t → ⊥
    no_nil x t h = cc
split_map (b ∷ s) (x ∷ v) w h =
    let (f, g, e, p, q) = split_map s v w (ap (λ t. drop 1 t) h) in
    (b ∷ f, g, ap (λ t. b ∷ t) e, ap₂ (λ y t. y ∷ t) (ap (λ t. get_or t 0 0) h) p, q)

words_taken_by : (b : Bool) (k : Keyword) (s text : List ℕ) → map to_ascii_lowercase s ≡ spelling_by b k → TakesKind (s ++ text) b k text
words_taken_by false k s text h = (s, h ∙ sym (small k), refl)
words_taken_by true k s text h =
    let (f, g, e, p, q) = split_map s (codes "multi") (word k) h in
    (g ++ text, (f, p, ap (λ t. t ++ text) e ∙ append_assoc f g text), (g, q ∙ sym (small k), refl))

pub words_taken : (heading : Heading) (s text : List ℕ) → Words heading s → TakesHeading (s ++ text) heading text
words_taken heading s text h = words_taken_by heading.is_multi heading.keyword s text h

taken_words_by : (b : Bool) (k : Keyword) (text rest : List ℕ) → TakesKind text b k rest
    → (s : List ℕ) × (map to_ascii_lowercase s ≡ spelling_by b k) × (text ≡ s ++ rest)
taken_words_by false k text rest (s, h, e) = (s, h ∙ small k, e)
taken_words_by true k text rest (m, (f, p, d), (g, q, e)) =
    (f ++ g, map-append to_ascii_lowercase f g ∙ ap₂ (λ u v. u ++ v) p (q ∙ small k), d ∙ ap (λ t. f ++ t) e ∙ sym (append_assoc f g rest))

pub taken_words : (text : List ℕ) (heading : Heading) (rest : List ℕ) → TakesHeading text heading rest → (s : List ℕ) × Words heading s × (text ≡ s ++ rest)
taken_words text heading rest h = taken_words_by heading.is_multi heading.keyword text rest h
