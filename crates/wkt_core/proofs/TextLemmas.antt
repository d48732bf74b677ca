-- A whole text: the only way to read it, which is that of the grammar.
use Rattle.std.proofs.Common.{◌≡◌, ℕ, ◌<◌, ◌≤◌, false, List, [], ◌∷◌, ◌++◌, map, length, get_or, drop, refl, sym, ◌∙◌, ap, subst, arith}
use Rattle.std.specs.Char.{to_ascii_lowercase}
use Rattle.std.proofs.lemmas.Bool.Decides.{nat_tests}
use Rattle.std.proofs.lemmas.List.{append-nil, length-map, get_or-map, get_or_append_left}
use Rattle.std.proofs.lemmas.List.Prefix.{front_rest}
use Rattle.wkt_core.specs.declared.keyword.Keyword.{Keyword}
use Rattle.wkt_core.specs.declared.keyword.Keyword.TheVariants.{Point, LineString, Polygon}
use Rattle.number_core.specs.declared.scale.Scale.{Scale}
use Rattle.wkt_core.specs.Grammar.{RawPoint, is_blank, PointText, PointList, Body, Word, Raw, spelling}
use Rattle.wkt_core.specs.TokenSteps.{skip, TakesLetters}
use Rattle.wkt_core.specs.ListSteps.{TakesWord, TakesPoint, TakesPoints, TakesBody, TakesText}
use Rattle.wkt_core.proofs.FrontLemmas.{NoBlank, Begins, blanks_skipped, skip_blanks, skip_solid}
use Rattle.wkt_core.proofs.ListGrammar.{enclosed_front}
use Rattle.wkt_core.proofs.PointLemmas.{points_reading, lists_exact, lists_reading, text_lists_exact, text_lists_reading}

-- ---- keywords

-- a letter of a word in any case
letter_at : (word text rest : List ℕ) (i : ℕ) → TakesLetters word text rest → i < length word
    → to_ascii_lowercase (get_or text i 0) ≡ get_or (map to_ascii_lowercase word) i 0
letter_at word text rest i (x, h, e) l =
    let long : length x ≡ length word = sym (length-map x to_ascii_lowercase) ∙ ap length h ∙ length-map word to_ascii_lowercase in
    let inside : i < length x = omega arith in
    ap (λ t. to_ascii_lowercase (get_or t i 0)) e ∙ ap to_ascii_lowercase (get_or_append_left x rest 0 i inside)
    ∙ sym (get_or-map to_ascii_lowercase x i 0 0 inside) ∙ ap (λ t. get_or t i 0) h

pub letters_rest : (word text r s : List ℕ) → TakesLetters word text r → TakesLetters word text s → r ≡ s
letters_rest word text r s (x, h, e) (y, k, f) =
    let long : length x ≡ length y = sym (length-map x to_ascii_lowercase) ∙ ap length (h ∙ sym k) ∙ length-map y to_ascii_lowercase in
    sym (front_rest text x r e) ∙ ap (λ n. drop n text) long ∙ front_rest text y s f

pub apart : (v w text r s : List ℕ) (i : ℕ) → TakesLetters v text r → TakesLetters w text s → i < length v → i < length w
    → get_or (map to_ascii_lowercase v) i 0 ≡ get_or (map to_ascii_lowercase w) i 0
apart v w text r s i h k l m = sym (letter_at v text r i h l) ∙ letter_at w text s i k m

pub word_same : (text : List ℕ) (k l : Keyword) (r s : List ℕ) → TakesWord text k r → TakesWord text l s → (k ≡ l) × (r ≡ s)
word_same text Point Point r s h k = (refl, letters_rest (spelling Point) text r s h k)
word_same text LineString LineString r s h k = (refl, letters_rest (spelling LineString) text r s h k)
word_same text Polygon Polygon r s h k = (refl, letters_rest (spelling Polygon) text r s h k)
word_same text Point LineString r s h k =
    let e : 112 ≡ 108 = apart (spelling Point) (spelling LineString) text r s 0 h k (omega arith) (omega arith) in absurd (omega (arith, e))
word_same text LineString Point r s h k =
    let e : 108 ≡ 112 = apart (spelling LineString) (spelling Point) text r s 0 h k (omega arith) (omega arith) in absurd (omega (arith, e))
word_same text Polygon LineString r s h k =
    let e : 112 ≡ 108 = apart (spelling Polygon) (spelling LineString) text r s 0 h k (omega arith) (omega arith) in absurd (omega (arith, e))
word_same text LineString Polygon r s h k =
    let e : 108 ≡ 112 = apart (spelling LineString) (spelling Polygon) text r s 0 h k (omega arith) (omega arith) in absurd (omega (arith, e))
word_same text Point Polygon r s h k = let e : 105 ≡ 108 = apart (spelling Point) (spelling Polygon) text r s 2 h k (omega arith) (omega arith) in
    absurd (omega (arith, e))
word_same text Polygon Point r s h k = let e : 108 ≡ 105 = apart (spelling Polygon) (spelling Point) text r s 2 h k (omega arith) (omega arith) in
    absurd (omega (arith, e))

pub blank_stays : (b c : ℕ) → to_ascii_lowercase b ≡ c → 97 ≤ c → is_blank b ≡ false
blank_stays b c e h = grind (arith, nat_tests)

word_solid : (keyword : Keyword) (s text : List ℕ) → Word keyword s → NoBlank (s ++ text)
word_solid Point [] text h = absurd (omega (arith, ap length h))
word_solid LineString [] text h = absurd (omega (arith, ap length h))
word_solid Polygon [] text h = absurd (omega (arith, ap length h))
word_solid Point (b ∷ s) text h = let first : to_ascii_lowercase b ≡ 112 = ap (λ t. get_or t 0 0) h in blank_stays b 112 first (omega arith)
word_solid LineString (b ∷ s) text h = let first : to_ascii_lowercase b ≡ 108 = ap (λ t. get_or t 0 0) h in blank_stays b 108 first (omega arith)
word_solid Polygon (b ∷ s) text h = let first : to_ascii_lowercase b ≡ 112 = ap (λ t. get_or t 0 0) h in blank_stays b 112 first (omega arith)

pub small : (keyword : Keyword) → map to_ascii_lowercase (spelling keyword) ≡ spelling keyword
small Point = refl
small LineString = refl
small Polygon = refl

-- at a scale, by whose rounding numbers are read
module _ (scale : Scale) where
  -- ---- what stands behind a keyword

  pub no_single : (text : List ℕ) → ((p : RawPoint) (rest : List ℕ) → TakesPoints scale text (p ∷ []) rest → ⊥)
      → (lists : List (List RawPoint)) (rest : List ℕ) → TakesBody scale Point text lists rest → ⊥
  no_single text none [] rest h = h
  no_single text none ([] ∷ lists) rest h = h
  no_single text none ((p ∷ []) ∷ []) rest h = none p rest h
  no_single text none ((p ∷ []) ∷ q ∷ lists) rest h = h
  no_single text none ((p ∷ q ∷ ps) ∷ lists) rest h = h

  pub no_line : (text : List ℕ) → ((ps : List RawPoint) (rest : List ℕ) → TakesPoints scale text ps rest → ⊥) → (lists : List (List RawPoint)) (rest : List ℕ)
      → TakesBody scale LineString text lists rest → ⊥
  no_line text none [] rest h = h
  no_line text none (ps ∷ []) rest h = none ps rest h
  no_line text none (ps ∷ qs ∷ lists) rest h = h

  -- a body is a list for `POINT` and `LINESTRING`
  single_list : (text : List ℕ) (lists : List (List RawPoint)) (rest : List ℕ) → TakesBody scale Point text lists rest
      → (ps : List RawPoint) × (lists ≡ ps ∷ []) × TakesPoints scale text ps rest
  single_list text [] rest h = absurd h
  single_list text ([] ∷ lists) rest h = absurd h
  single_list text ((p ∷ []) ∷ []) rest h = (p ∷ [], refl, h)
  single_list text ((p ∷ []) ∷ q ∷ lists) rest h = absurd h
  single_list text ((p ∷ q ∷ ps) ∷ lists) rest h = absurd h

  line_list : (text : List ℕ) (lists : List (List RawPoint)) (rest : List ℕ) → TakesBody scale LineString text lists rest
      → (ps : List RawPoint) × (lists ≡ ps ∷ []) × TakesPoints scale text ps rest
  line_list text [] rest h = absurd h
  line_list text (ps ∷ []) rest h = (ps, refl, h)
  line_list text (ps ∷ qs ∷ lists) rest h = absurd h

  one_list : (text : List ℕ) (xs ys : List (List RawPoint)) (r s : List ℕ) → (ps : List RawPoint) × (xs ≡ ps ∷ []) × TakesPoints scale text ps r
      → (qs : List RawPoint) × (ys ≡ qs ∷ []) × TakesPoints scale text qs s → (xs ≡ ys) × (r ≡ s)
  one_list text xs ys r s (ps, e, h) (qs, f, k) =
      (e ∙ ap (λ z. z ∷ []) ((lists_exact scale).value text ps qs r s h k) ∙ sym f, (lists_exact scale).rest text ps qs r s h k)

  pub body_same : (keyword : Keyword) (text : List ℕ) (xs ys : List (List RawPoint)) (r s : List ℕ) → TakesBody scale keyword text xs r
      → TakesBody scale keyword text ys s → (xs ≡ ys) × (r ≡ s)
  body_same Point text xs ys r s h k = one_list text xs ys r s (single_list text xs r h) (single_list text ys s k)
  body_same LineString text xs ys r s h k = one_list text xs ys r s (line_list text xs r h) (line_list text ys s k)
  body_same Polygon text xs ys r s h k = ((text_lists_exact scale).value text xs ys r s h k, (text_lists_exact scale).rest text xs ys r s h k)

  -- ---- whole texts

  -- each reading of a text begins as another does
  pub read_on : (text : List ℕ) (k : Keyword) (m : List ℕ) → TakesWord (skip text) k m → (l : Keyword) (lists : List (List RawPoint))
      → TakesText scale text l lists → (l ≡ k) × ((e : List ℕ) × TakesBody scale k (skip m) lists e × (skip e ≡ []))
  read_on text k m h l lists (n, e, g, b, p) =
      let same = word_same (skip text) l k n m g h in
      let here = subst (λ v. TakesBody scale l (skip v) lists e) same.1 b in
      (same.0, (e, subst (λ v. TakesBody scale v (skip m) lists e) same.0 here, p))

  pub text_same : (text : List ℕ) (k l : Keyword) (xs ys : List (List RawPoint)) → TakesText scale text k xs → TakesText scale text l ys → (k ≡ l) × (xs ≡ ys)
  text_same text k l xs ys (m, e, h, b, p) t =
      let (same, (f, c, q)) = read_on text k m h l ys t in
      (sym same, (body_same k (skip m) xs ys e f b c).0)

  -- ---- from the grammar to what is read, and back

  pub body_solid : (keyword : Keyword) (lists : List (List RawPoint)) (s text : List ℕ) → Body scale keyword lists s → NoBlank (s ++ text)
  body_solid Point [] s text h = absurd h
  body_solid Point ([] ∷ lists) s text h = absurd h
  body_solid Point ((p ∷ []) ∷ []) s text h = (lists_reading scale).solid (p ∷ []) s text h
  body_solid Point ((p ∷ []) ∷ q ∷ lists) s text h = absurd h
  body_solid Point ((p ∷ q ∷ ps) ∷ lists) s text h = absurd h
  body_solid LineString [] s text h = absurd h
  body_solid LineString (ps ∷ []) s text h = (lists_reading scale).solid ps s text h
  body_solid LineString (ps ∷ qs ∷ lists) s text h = absurd h
  body_solid Polygon lists s text h = (text_lists_reading scale).solid lists s text h

  pub body_front : (keyword : Keyword) (lists : List (List RawPoint)) (s text : List ℕ) → Body scale keyword lists s → TakesBody scale keyword (s ++ text) lists text
  body_front Point [] s text h = absurd h
  body_front Point ([] ∷ lists) s text h = absurd h
  body_front Point ((p ∷ []) ∷ []) s text h = enclosed_front (PointText scale) (TakesPoint scale) (points_reading scale) (p ∷ []) s text h
  body_front Point ((p ∷ []) ∷ q ∷ lists) s text h = absurd h
  body_front Point ((p ∷ q ∷ ps) ∷ lists) s text h = absurd h
  body_front LineString [] s text h = absurd h
  body_front LineString (ps ∷ []) s text h = enclosed_front (PointText scale) (TakesPoint scale) (points_reading scale) ps s text h
  body_front LineString (ps ∷ qs ∷ lists) s text h = absurd h
  body_front Polygon lists s text h = enclosed_front (PointList scale) (TakesPoints scale) (lists_reading scale) lists s text h

  pub body_begins : (keyword : Keyword) (text : List ℕ) (lists : List (List RawPoint)) (rest : List ℕ) → TakesBody scale keyword text lists rest
      → Begins (Body scale keyword) text lists rest
  body_begins Point text [] rest h = absurd h
  body_begins Point text ([] ∷ lists) rest h = absurd h
  body_begins Point text ((p ∷ []) ∷ []) rest h = (lists_reading scale).begins text (p ∷ []) rest h
  body_begins Point text ((p ∷ []) ∷ q ∷ lists) rest h = absurd h
  body_begins Point text ((p ∷ q ∷ ps) ∷ lists) rest h = absurd h
  body_begins LineString text [] rest h = absurd h
  body_begins LineString text (ps ∷ []) rest h = (lists_reading scale).begins text ps rest h
  body_begins LineString text (ps ∷ qs ∷ lists) rest h = absurd h
  body_begins Polygon text lists rest h = (text_lists_reading scale).begins text lists rest h

  pub raw_taken : (text : List ℕ) (keyword : Keyword) (lists : List (List RawPoint)) → Raw scale text keyword lists → TakesText scale text keyword lists
  raw_taken text keyword lists h =
      let a = h.second in
      let b = a.second in
      let d = b.second in
      let regrouped : text ≡ h.front ++ (a.front ++ (b.front ++ (d.front ++ d.back))) = rw (h.joined, a.joined, b.joined, d.joined) refl in
      let at_word : skip text ≡ a.front ++ (b.front ++ (d.front ++ d.back)) =
      ap skip regrouped ∙ skip_blanks h.front _ h.first ∙ skip_solid _ (word_solid keyword a.front (b.front ++ (d.front ++ d.back)) a.first) in
      let at_body : skip (b.front ++ (d.front ++ d.back)) ≡ d.front ++ d.back = skip_blanks b.front _ b.first
      ∙ skip_solid _ (body_solid keyword lists d.front d.back d.first) in
      let at_end : skip d.back ≡ [] = ap skip (sym (append-nil d.back)) ∙ skip_blanks d.back [] d.second in (
        b.front ++ (d.front ++ d.back),
        d.back,
        (a.front, a.first ∙ sym (small keyword), at_word),
        rw at_body (body_front keyword lists d.front d.back d.first),
        at_end,
      )

  pub taken_raw : (text : List ℕ) (keyword : Keyword) (lists : List (List RawPoint)) → TakesText scale text keyword lists → Raw scale text keyword lists
  taken_raw text keyword lists (m, e, (w, word, at_word), body, end) =
      let (u, hu, eu) = blanks_skipped text in
      let (v, hv, ev) = blanks_skipped m in
      let (s, hs, es) = body_begins keyword (skip m) lists e body in
      let (z, hz, ez) = blanks_skipped e in
      let ended : e ≡ z = ez ∙ ap (λ t. z ++ t) end ∙ append-nil z in
      record {
        front = u;
        back = w ++ (v ++ (s ++ z));
        first = hu;
        second = record {
          front = w;
          back = v ++ (s ++ z);
          first = word ∙ small keyword;
          second = record {
            front = v;
            back = s ++ z;
            first = hv;
            second = record { front = s; back = z; first = hs; second = hz; joined = refl };
            joined = refl;
          };
          joined = refl;
        };
        joined = eu ∙ ap (λ t. u ++ t) (at_word ∙ ap (λ t. w ++ t) (ev ∙ ap (λ t. v ++ t) (es ∙ ap (λ t. s ++ t) ended)));
      }

  -- a text has at most one raw form
  pub one_raw_form : (text : List ℕ) (k l : Keyword) (xs ys : List (List RawPoint)) → Raw scale text k xs → Raw scale text l ys → (k ≡ l) × (xs ≡ ys)
  one_raw_form text k l xs ys h i = text_same text k l xs ys (raw_taken text k xs h) (raw_taken text l ys i)
