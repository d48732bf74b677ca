-- A whole text: the only way to read it, which is that of the grammar.
use Rattle.std.proofs.Common.{◌≡◌, ℕ, true, false, List, [], ◌∷◌, ◌++◌, refl, sym, ◌∙◌, ap, subst}
use Rattle.std.specs.Prelude.{Bool}
use Rattle.std.proofs.lemmas.List.{append-nil}
use Rattle.wkt_core.specs.declared.keyword.Keyword.{Keyword}
use Rattle.wkt_core.specs.declared.keyword.Keyword.TheVariants.{Point, LineString, Polygon}
use Rattle.number_core.specs.declared.scale.Scale.{Scale}
use Rattle.wkt_core.specs.Grammar.{RawPoint, PointList, InParentheses}
use Rattle.wkt_core.specs.TokenSteps.{skip}
use Rattle.wkt_core.specs.ListSteps.{TakesPoints, TakesLists}
use Rattle.wkt_core.proofs.FrontLemmas.{NoBlank, Begins, blanks_skipped, skip_blanks, skip_solid}
use Rattle.wkt_core.proofs.ListGrammar.{enclosed_front}
use Rattle.wkt_core.proofs.PointLemmas.{lists_reading, text_lists_reading, text_lists_exact}
use Rattle.wkt_core.proofs.TextLemmas.{body_solid as one_solid, body_front as one_front, body_begins as one_begins, body_same as one_same}
use Rattle.wkt_any_core.specs.declared.heading.Heading.{Heading}
use Rattle.wkt_any_core.specs.Grammar.{Member, ManyBody, BodyBy, Raw, joined}
use Rattle.wkt_any_core.specs.Steps.{TakesMember, TakesMembers, TakesMany, TakesBody, TakesBodyBy, TakesHeading, TakesText}
use Rattle.wkt_any_core.proofs.HeadingLemmas.{heading_same, words_solid, words_taken, taken_words}
use Rattle.wkt_any_core.proofs.MemberLemmas.{member_reading, members_exact, members_reading, polygons_exact, polygons_reading}

-- at a scale, by whose rounding numbers are read
module _ (scale : Scale) where
  -- ---- what stands behind a keyword of many

  pub no_members : (text : List ℕ) → ((ps : List RawPoint) (rest : List ℕ) → TakesMembers scale text ps rest → ⊥)
      → (lists : List (List RawPoint)) (rest : List ℕ) → TakesMany scale Point text lists rest → ⊥
  no_members text none [] rest h = h
  no_members text none (ps ∷ []) rest h = none ps rest h
  no_members text none (ps ∷ qs ∷ lists) rest h = h

  many_same : (keyword : Keyword) (text : List ℕ) (xs ys : List (List RawPoint)) (r s : List ℕ) → TakesMany scale keyword text xs r
      → TakesMany scale keyword text ys s → (xs ≡ ys) × (r ≡ s)
  many_same Point text [] ys r s h k = absurd h
  many_same Point text (ps ∷ []) [] r s h k = absurd k
  many_same Point text (ps ∷ []) (qs ∷ []) r s h k = (ap (λ z. z ∷ []) ((members_exact scale).value text ps qs r s h k), (members_exact scale).rest text ps qs r s h k)
  many_same Point text (ps ∷ []) (qs ∷ us ∷ ys) r s h k = absurd k
  many_same Point text (ps ∷ us ∷ xs) ys r s h k = absurd h
  many_same LineString text xs ys r s h k = ((text_lists_exact scale).value text xs ys r s h k, (text_lists_exact scale).rest text xs ys r s h k)
  many_same Polygon text xs ys r s (ps, e, h) (qs, f, k) =
      (e ∙ ap joined ((polygons_exact scale).value text ps qs r s h k) ∙ sym f, (polygons_exact scale).rest text ps qs r s h k)

  body_same_by : (b : Bool) (keyword : Keyword) (text : List ℕ) (xs ys : List (List RawPoint)) (r s : List ℕ) → TakesBodyBy scale b keyword text xs r
      → TakesBodyBy scale b keyword text ys s → (xs ≡ ys) × (r ≡ s)
  body_same_by false keyword text xs ys r s h k = one_same scale keyword text xs ys r s h k
  body_same_by true keyword text xs ys r s h k = many_same keyword text xs ys r s h k

  pub body_same : (heading : Heading) (text : List ℕ) (xs ys : List (List RawPoint)) (r s : List ℕ) → TakesBody scale heading text xs r
      → TakesBody scale heading text ys s → (xs ≡ ys) × (r ≡ s)
  body_same heading = body_same_by heading.is_multi heading.keyword

  many_solid : (keyword : Keyword) (lists : List (List RawPoint)) (s text : List ℕ) → ManyBody scale keyword lists s → NoBlank (s ++ text)
  many_solid Point [] s text h = absurd h
  many_solid Point (ps ∷ []) s text h = (members_reading scale).solid ps s text h
  many_solid Point (ps ∷ qs ∷ lists) s text h = absurd h
  many_solid LineString lists s text h = (text_lists_reading scale).solid lists s text h
  many_solid Polygon lists s text (ps, e, h) = (polygons_reading scale).solid ps s text h

  many_front : (keyword : Keyword) (lists : List (List RawPoint)) (s text : List ℕ) → ManyBody scale keyword lists s → TakesMany scale keyword (s ++ text) lists text
  many_front Point [] s text h = absurd h
  many_front Point (ps ∷ []) s text h = enclosed_front (Member scale) (TakesMember scale) (member_reading scale) ps s text h
  many_front Point (ps ∷ qs ∷ lists) s text h = absurd h
  many_front LineString lists s text h = enclosed_front (PointList scale) (TakesPoints scale) (lists_reading scale) lists s text h
  many_front Polygon lists s text (ps, e, h) = (ps, e, enclosed_front (InParentheses (PointList scale)) (TakesLists scale) (text_lists_reading scale) ps s text h)

  many_begins : (keyword : Keyword) (text : List ℕ) (lists : List (List RawPoint)) (rest : List ℕ) → TakesMany scale keyword text lists rest
      → Begins (ManyBody scale keyword) text lists rest
  many_begins Point text [] rest h = absurd h
  many_begins Point text (ps ∷ []) rest h = (members_reading scale).begins text ps rest h
  many_begins Point text (ps ∷ qs ∷ lists) rest h = absurd h
  many_begins LineString text lists rest h = (text_lists_reading scale).begins text lists rest h
  many_begins Polygon text lists rest (ps, e, h) = let (s, hs, es) = (polygons_reading scale).begins text ps rest h in (s, (ps, e, hs), es)

  solid_by : (b : Bool) (keyword : Keyword) (lists : List (List RawPoint)) (s text : List ℕ) → BodyBy scale b keyword lists s → NoBlank (s ++ text)
  solid_by false keyword lists s text h = one_solid scale keyword lists s text h
  solid_by true keyword lists s text h = many_solid keyword lists s text h

  front_by : (b : Bool) (keyword : Keyword) (lists : List (List RawPoint)) (s text : List ℕ) → BodyBy scale b keyword lists s → TakesBodyBy scale b keyword (s ++ text) lists text
  front_by false keyword lists s text h = one_front scale keyword lists s text h
  front_by true keyword lists s text h = many_front keyword lists s text h

  begins_by : (b : Bool) (keyword : Keyword) (text : List ℕ) (lists : List (List RawPoint)) (rest : List ℕ) → TakesBodyBy scale b keyword text lists rest
      → Begins (BodyBy scale b keyword) text lists rest
  begins_by false keyword text lists rest h = one_begins scale keyword text lists rest h
  begins_by true keyword text lists rest h = many_begins keyword text lists rest h

  -- ---- whole texts

  -- each reading of a text begins as another does
  pub read_on : (text : List ℕ) (g : Heading) (m : List ℕ) → TakesHeading (skip text) g m → (h : Heading) (lists : List (List RawPoint))
      → TakesText scale text h lists → (h ≡ g) × ((e : List ℕ) × TakesBody scale g (skip m) lists e × (skip e ≡ []))
  read_on text g m i h lists (n, e, j, b, p) =
      let same = heading_same (skip text) h g n m j i in
      let here = subst (λ v. TakesBody scale h (skip v) lists e) same.1 b in
      (same.0, (e, subst (λ v. TakesBody scale v (skip m) lists e) same.0 here, p))

  pub text_same : (text : List ℕ) (g h : Heading) (xs ys : List (List RawPoint)) → TakesText scale text g xs → TakesText scale text h ys → (g ≡ h) × (xs ≡ ys)
  text_same text g h xs ys (m, e, i, b, p) t =
      let (same, (f, c, q)) = read_on text g m i h ys t in
      (sym same, (body_same g (skip m) xs ys e f b c).0)

  pub raw_taken : (text : List ℕ) (heading : Heading) (lists : List (List RawPoint)) → Raw scale text heading lists → TakesText scale text heading lists
  raw_taken text heading lists h =
      let a = h.second in
      let b = a.second in
      let d = b.second in
      let regrouped : text ≡ h.front ++ (a.front ++ (b.front ++ (d.front ++ d.back))) = rw (h.joined, a.joined, b.joined, d.joined) refl in
      let at_word : skip text ≡ a.front ++ (b.front ++ (d.front ++ d.back)) =
      ap skip regrouped ∙ skip_blanks h.front _ h.first ∙ skip_solid _ (words_solid heading a.front (b.front ++ (d.front ++ d.back)) a.first) in
      let at_body : skip (b.front ++ (d.front ++ d.back)) ≡ d.front ++ d.back = skip_blanks b.front _ b.first
      ∙ skip_solid _ (solid_by heading.is_multi heading.keyword lists d.front d.back d.first) in
      let at_end : skip d.back ≡ [] = ap skip (sym (append-nil d.back)) ∙ skip_blanks d.back [] d.second in (
        b.front ++ (d.front ++ d.back),
        d.back,
        subst (λ t. TakesHeading t heading (b.front ++ (d.front ++ d.back))) (sym at_word) (words_taken heading a.front (b.front ++ (d.front ++ d.back)) a.first),
        rw at_body (front_by heading.is_multi heading.keyword lists d.front d.back d.first),
        at_end,
      )

  pub taken_raw : (text : List ℕ) (heading : Heading) (lists : List (List RawPoint)) → TakesText scale text heading lists → Raw scale text heading lists
  taken_raw text heading lists (m, e, word, body, end) =
      let (w, hw, at_word) = taken_words (skip text) heading m word in
      let (u, hu, eu) = blanks_skipped text in
      let (v, hv, ev) = blanks_skipped m in
      let (s, hs, es) = begins_by heading.is_multi heading.keyword (skip m) lists e body in
      let (z, hz, ez) = blanks_skipped e in
      let ended : e ≡ z = ez ∙ ap (λ t. z ++ t) end ∙ append-nil z in
      record {
        front = u;
        back = w ++ (v ++ (s ++ z));
        first = hu;
        second = record {
          front = w;
          back = v ++ (s ++ z);
          first = hw;
          second = record {
            front = v;
            back = s ++ z;
            first = hv;
            second = record { front = s; back = z; first = hs; second = hz; joined = refl };
            joined = refl;
          };
          joined = refl;
        };
        joined = eu ∙ ap (λ t. u ++ t) (at_word ∙ ap (λ t. w ++ t) (ev ∙ ap (λ t. v ++ t) (es ∙ ap (λ t. s ++ t) ended)));
      }

  -- a text has at most one raw form
  pub one_raw_form : (text : List ℕ) (g h : Heading) (xs ys : List (List RawPoint)) → Raw scale text g xs → Raw scale text h ys → (g ≡ h) × (xs ≡ ys)
  one_raw_form text g h xs ys i j = text_same text g h xs ys (raw_taken text g xs i) (raw_taken text h ys j)
