-- The geometry that a text spells, and the only result of reading it.
use Rattle.std.proofs.Common.{◌≡◌, ℕ, true, false, List, [], ◌∷◌, map, length, get_or, drop, Result, Ok, Err, ◌⊎◌, inl, inr, ⊎_elim, refl, sym, ◌∙◌, ap, ap₂, subst}
use Rattle.std.specs.Prelude.{Bool, not, Option, Some, None, IfOk, IfErr}
use Rattle.number_core.proofs.NumberLemmas.{by_bool}
use Rattle.std.proofs.Props.{props}
use Rattle.std.proofs.lemmas.List.{append-nil, length-map}
use mathlib.Core.HLevel.{is_prop→PathP}
use Rattle.geom_core.specs.Limits.{IsCoordinate}
use Rattle.plane_core.specs.declared.vertex.Vertex.{Vertex}
use Rattle.plane_core.specs.Figures.{Figure, IsGeometry}
use Rattle.plane_core.specs.Figures.Figure.{Points, Lines, Areas}
use Rattle.plane_core.specs.Outlines.{kind_of}
use Rattle.plane_core.specs.ProperRings.{TakesRings}
use Rattle.plane_core.specs.Stored.{paths_of, stored_figure, AreCuts}
use Rattle.plane_core.specs.Vertices.{paths_in}
use Rattle.wkt_core.specs.declared.keyword.Keyword.{Keyword}
use Rattle.wkt_core.specs.declared.keyword.Keyword.TheVariants.{Point, LineString, Polygon}
use Rattle.wkt_core.specs.declared.position.Position.{Position}
use Rattle.number_core.specs.declared.scale.Scale.{Scale}
use Rattle.wkt_core.specs.Grammar.{RawPoint}
use Rattle.wkt_core.specs.Spelling.{HasGoodNumbers, position}
use Rattle.wkt_core.specs.TokenSteps.{skip}
use Rattle.wkt_core.specs.Drawing.{without_repeats}
use Rattle.wkt_any_core.specs.declared.fault.GeometryFault.{GeometryFault}
use Rattle.wkt_any_core.specs.declared.fault.GeometryFault.TheVariants.{Text, Number, Form, Rings as RingFault}
use Rattle.wkt_any_core.specs.declared.heading.Heading.{Heading}
use Rattle.plane_core.specs.declared.rings.Rings.{Rings}
use Rattle.plane_core.specs.declared.rings.Rings.TheVariants.{Proper, EvenOdd}
use Rattle.wkt_any_core.specs.Drawing.{position_of, positions_of, kind_for, skips_dots, drawn, AreAllowed, Draws}
use Rattle.wkt_any_core.specs.Grammar.{joined}
use Rattle.wkt_any_core.specs.declared.paths.Paths.{Paths}
use Rattle.wkt_any_core.specs.declared.raw.RawGeometry.{RawGeometry}
use Rattle.wkt_any_core.specs.Held.{IsReadBy, IsRead, AreAt, IsWhole, IsRawText}
use Rattle.wkt_any_core.specs.Readings.{Reads, ReadsAs, ReadsBy, Answers, Saying, IsReading}
use Rattle.wkt_any_core.specs.Spelling.{ArePlaced, SaysText}
use Rattle.wkt_any_core.specs.Steps.{TakesBodyBy, TakesText}
use Rattle.wkt_any_core.proofs.CutLemmas.{cut, are_cuts}
use Rattle.wkt_any_core.proofs.TextLemmas.{raw_taken, taken_raw, one_raw_form}

pub not_true : (b : Bool) → not b ≡ true → b ≡ false
not_true true h = cc
not_true false h = refl

pub not_false : (b : Bool) → not b ≡ false → b ≡ true
not_false true h = refl
not_false false h = cc

pub no_true : (b : Bool) → b ≡ false → b ≡ true → ⊥
no_true true f t = cc
no_true false f t = cc

-- ---- one geometry

same_vertex : (v w : Vertex) → v.x ≡ w.x → v.y ≡ w.y → v ≡ w
same_vertex v w p q = λ i. record {
  x = p i;
  y = q i;
  x_in_range = is_prop→PathP (λ j. IsCoordinate (p j)) (λ j. hlevel props) v.x_in_range w.x_in_range i;
  y_in_range = is_prop→PathP (λ j. IsCoordinate (q j)) (λ j. hlevel props) v.y_in_range w.y_in_range i;
}

one_vertex : (v w : Vertex) → position_of v ≡ position_of w → v ≡ w
one_vertex v w e = same_vertex v w (ap (λ p. p.x) e) (ap (λ p. p.y) e)

one_list : {X Y : Type 0} (f : X → Y) → ((x y : X) → f x ≡ f y → x ≡ y) → (xs ys : List X) → map f xs ≡ map f ys → xs ≡ ys
one_list f one [] [] e = refl
one_list f one [] (y ∷ ys) e = absurd cc
one_list f one (x ∷ xs) [] e = absurd cc
one_list f one (x ∷ xs) (y ∷ ys) e =
    ap₂ (λ z zs. z ∷ zs) (one x y (ap (λ ls. get_or ls 0 (f x)) e)) (one_list f one xs ys (ap (λ ls. drop 1 ls) e))

one_path : (vs ws : List Vertex) → map position_of vs ≡ map position_of ws → vs ≡ ws
one_path = one_list position_of one_vertex

one_paths : (vs ws : List (List Vertex)) → positions_of vs ≡ positions_of ws → vs ≡ ws
one_paths = one_list (map position_of) one_path

one_by_paths : (g h : Figure) → kind_of g ≡ kind_of h → paths_in g ≡ paths_in h → g ≡ h
one_by_paths (Points vs) (Points ws) k e = ap Points (ap (λ ls. get_or ls 0 vs) e)
one_by_paths (Points vs) (Lines ws) k e = absurd cc
one_by_paths (Points vs) (Areas ws) k e = absurd cc
one_by_paths (Lines vs) (Points ws) k e = absurd cc
one_by_paths (Lines vs) (Lines ws) k e = ap Lines e
one_by_paths (Lines vs) (Areas ws) k e = absurd cc
one_by_paths (Areas vs) (Points ws) k e = absurd cc
one_by_paths (Areas vs) (Lines ws) k e = absurd cc
one_by_paths (Areas vs) (Areas ws) k e = ap Areas e

-- lists of points draw one geometry
one_figure : (rule : Rings) (keyword : Keyword) (lists : List (List Position)) (g h : Figure) → Draws rule keyword lists g → Draws rule keyword lists h → g ≡ h
one_figure rule keyword lists g h d e = one_by_paths g h (d.kind ∙ sym e.kind) (one_paths (paths_in g) (paths_in h) (d.paths ∙ sym e.paths))

-- ---- what is held

-- the text of points has one list
point_list : (scale : Scale) (b : Bool) (text : List ℕ) (lists : List (List RawPoint)) (rest : List ℕ) → TakesBodyBy scale b Point text lists rest
    → length lists ≡ 1
point_list scale b text [] rest h = absurd (no_list b h)
  where
    no_list : (b : Bool) → TakesBodyBy scale b Point text [] rest → ⊥
    no_list false h = h
    no_list true h = h
point_list scale b text (ps ∷ []) rest h = refl
point_list scale false text ([] ∷ qs ∷ lists) rest h = absurd h
point_list scale false text ((p ∷ []) ∷ qs ∷ lists) rest h = absurd h
point_list scale false text ((p ∷ q ∷ ps) ∷ qs ∷ lists) rest h = absurd h
point_list scale true text (ps ∷ qs ∷ lists) rest h = absurd h

skips_none : (rule : Rings) → skips_dots rule Point ≡ false
skips_none Proper = refl
skips_none EvenOdd = refl

drawn_alone : (rule : Rings) (keyword : Keyword) (lists : List (List Position)) → length lists ≡ 1 → keyword ≡ Point
    → (path : List Position) × (drawn (skips_dots rule keyword) lists ≡ path ∷ [])
drawn_alone rule keyword [] one point = absurd cc
drawn_alone rule keyword (ps ∷ []) one point =
    (without_repeats ps, ap (λ k. drawn (skips_dots rule k) (ps ∷ [])) point ∙ ap (λ b. drawn b (ps ∷ [])) (skips_none rule))
drawn_alone rule keyword (ps ∷ qs ∷ lists) one point = absurd cc

figure_of : (keyword : Keyword) (ends : List ℕ) (vs : List Vertex) (paths : List (List Position)) → positions_of (paths_of 0 ends vs) ≡ paths → map position_of vs ≡ joined paths
    → (keyword ≡ Point → (path : List Position) × (paths ≡ path ∷ []))
    → (kind_of (stored_figure (kind_for keyword) ends vs) ≡ kind_for keyword) × (positions_of (paths_in (stored_figure (kind_for keyword) ends vs)) ≡ paths)
figure_of Point ends vs paths cuts whole alone =
    let (path, one) = alone refl in
    (refl, ap (λ p. p ∷ []) (whole ∙ ap joined one ∙ append-nil path) ∙ sym one)
figure_of LineString ends vs paths cuts whole alone = (refl, cuts)
figure_of Polygon ends vs paths cuts whole alone = (refl, cuts)

-- ---- the geometry of paths that are held

-- lists have places, or they don't
pub placed : {P : Type 0} (Good : P → Type 0) (place : P → Position) (rule : Rings) (keyword : Keyword) (paths : Paths) (lists : List (List P))
    → (keyword ≡ Point → length lists ≡ 1) → IsReadBy Good place (skips_dots rule keyword) paths lists []
    → (places : Option (List (List Position))) × ArePlaced Good place lists places × AreAt rule keyword paths places
placed Good place rule keyword paths lists alone r = by_bool paths.are_good
    (λ t. (Some (map (map place) lists), ((r.good t).0, refl), (t, r.held (r.good t), λ point. length-map lists (map place) ∙ alone point)))
    (λ f. (None, (λ good. r.bad f (good, tt)), f))

module _ (rule : Rings) (keyword : Keyword) (paths : Paths) where
  abbrev figure : Figure
  figure = stored_figure (kind_for keyword) paths.ends.items paths.vertices.items

  pub whole_cuts : IsWhole rule keyword paths → paths.are_good ≡ true → AreCuts 0 paths.ends.items (length paths.vertices.items)
  whole_cuts (Some lists, (t, h, alone)) good = are_cuts paths.vertices.items paths.ends.items _ h.vertices h.ends
  whole_cuts (None, bad) good = absurd cc

  pub bad_number : paths.are_good ≡ false → (places : Option (List (List Position))) → AreAt rule keyword paths places → ReadsAs rule keyword places (Err Number)
  bad_number f (Some lists) (t, h, alone) = absurd cc
  bad_number f None bad = tt

  module _ (lists : List (List Position)) (at : AreAt rule keyword paths (Some lists)) where
    held_figure : (kind_of figure ≡ kind_for keyword) × (positions_of (paths_in figure) ≡ drawn (skips_dots rule keyword) lists)
    held_figure =
        figure_of keyword paths.ends.items paths.vertices.items _
        (cut paths.vertices.items paths.ends.items _ at.1.vertices at.1.ends) at.1.vertices
        (λ point. drawn_alone rule keyword lists (at.2 point) point)

    -- the geometry that the paths form
    drawn_as : IsGeometry figure → AreAllowed rule figure → Draws rule keyword lists figure
    drawn_as geometry allowed = record {
      kind = held_figure.0;
      paths = held_figure.1;
      geometry = geometry;
      allowed = allowed;
    }

    -- nothing else is drawn
    drawn_alike : (g : Figure) → Draws rule keyword lists g → g ≡ figure
    drawn_alike g d = one_by_paths g figure (d.kind ∙ sym held_figure.0) (one_paths (paths_in g) (paths_in figure) (d.paths ∙ sym held_figure.1))

  pub formed : paths.are_good ≡ true → (g : Figure) → (g ≡ figure) × IsGeometry g × AreAllowed rule g → (a : Result Figure GeometryFault)
      → IfOk a (λ h. (h ≡ g) × TakesRings rule h) → IfErr a (λ fault. (fault ≡ RingFault) × ¬ (TakesRings rule g))
      → (places : Option (List (List Position))) → AreAt rule keyword paths places → ReadsAs rule keyword places a
  formed t g is a ok err None bad = absurd cc
  formed t g (same, geometry, allowed) a ok err (Some lists) at =
      let draws : Draws rule keyword lists g = subst (Draws rule keyword lists) (sym same)
      (drawn_as lists at (subst IsGeometry same geometry) (subst (AreAllowed rule) same allowed)) in
      answered a draws ok err
    where
      answered : (a : Result Figure GeometryFault) → Draws rule keyword lists g → IfOk a (λ h. (h ≡ g) × TakesRings rule h)
          → IfErr a (λ fault. (fault ≡ RingFault) × ¬ (TakesRings rule g)) → ReadsAs rule keyword (Some lists) a
      answered (Ok h) draws ok err = (subst (Draws rule keyword lists) (sym ok.0) draws, ok.1)
      answered (Err fault) draws ok err =
          subst (λ f. ReadsAs rule keyword (Some lists) (Err f)) (sym err.0) (g, draws, err.1)

  pub formed_in : {E : Type 0} → paths.are_good ≡ true → (g : Figure) → (g ≡ figure) × IsGeometry g × AreAllowed rule g → (r : Result (Result Figure GeometryFault) E)
      → IfOk r (λ a. IfOk a (λ h. (h ≡ g) × TakesRings rule h)) → IfOk r (λ a. IfErr a (λ fault. (fault ≡ RingFault) × ¬ (TakesRings rule g)))
      → IfOk r (λ a. (places : Option (List (List Position))) → AreAt rule keyword paths places → ReadsAs rule keyword places a)
  formed_in t g is (Ok a) ok err = formed t g is a ok err
  formed_in t g is (Err e) ok err = tt

  pub unformed : paths.are_good ≡ true → (IsGeometry figure → AreAllowed rule figure → ⊥)
      → (places : Option (List (List Position))) → AreAt rule keyword paths places → ReadsAs rule keyword places (Err Form)
  unformed t none None bad = absurd cc
  unformed t none (Some lists) at = λ g d.
      let same = drawn_alike lists at g d in none (subst IsGeometry same d.geometry) (subst (AreAllowed rule) same d.allowed)

-- ---- one answer

none_number : (rule : Rings) (keyword : Keyword) (a : Result Figure GeometryFault) → ReadsAs rule keyword None a → a ≡ Err Number
none_number rule keyword (Ok g) h = absurd h
none_number rule keyword (Err Text) h = absurd h
none_number rule keyword (Err Number) h = refl
none_number rule keyword (Err Form) h = absurd h
none_number rule keyword (Err RingFault) h = absurd h

module _ (rule : Rings) (keyword : Keyword) (lists : List (List Position)) where
  same_answer : (a b : Result Figure GeometryFault) → ReadsAs rule keyword (Some lists) a → ReadsAs rule keyword (Some lists) b → a ≡ b
  same_answer (Ok s) (Ok t) h k = ap Ok (one_figure rule keyword lists s t h.0 k.0)
  same_answer (Ok s) (Err Text) h k = absurd k
  same_answer (Ok s) (Err Number) h k = absurd k
  same_answer (Ok s) (Err Form) h k = absurd (k s h.0)
  same_answer (Ok s) (Err RingFault) h k = absurd (k.2 (subst (TakesRings rule) (one_figure rule keyword lists s k.0 h.0 k.1) h.1))
  same_answer (Err Text) b h k = absurd h
  same_answer (Err Number) b h k = absurd h
  same_answer (Err Form) (Ok t) h k = absurd (h t k.0)
  same_answer (Err Form) (Err Text) h k = absurd k
  same_answer (Err Form) (Err Number) h k = absurd k
  same_answer (Err Form) (Err Form) h k = refl
  same_answer (Err Form) (Err RingFault) h k = absurd (h k.0 k.1)
  same_answer (Err RingFault) (Ok t) h k = absurd (h.2 (subst (TakesRings rule) (one_figure rule keyword lists t h.0 k.0 h.1) k.1))
  same_answer (Err RingFault) (Err Text) h k = absurd k
  same_answer (Err RingFault) (Err Number) h k = absurd k
  same_answer (Err RingFault) (Err Form) h k = absurd (k h.0 h.1)
  same_answer (Err RingFault) (Err RingFault) h k = refl

one_reads_as : (rule : Rings) (keyword : Keyword) (places : Option (List (List Position))) (a b : Result Figure GeometryFault) → ReadsAs rule keyword places a
    → ReadsAs rule keyword places b → a ≡ b
one_reads_as rule keyword None a b h k = none_number rule keyword a h ∙ sym (none_number rule keyword b k)
one_reads_as rule keyword (Some lists) a b h k = same_answer rule keyword lists a b h k

-- a text that says one thing
abbrev pub SaysOne : Saying → Type 0
SaysOne Says = (j k : Keyword) (x y : Option (List (List Position))) → Says j x → Says k y → (j ≡ k) × (x ≡ y)

module _ (Says : Saying) (rule : Rings) where
  -- what a text says is read
  pub said : (keyword : Keyword) (places : Option (List (List Position))) (a : Result Figure GeometryFault) → Says keyword places → ReadsAs rule keyword places a
      → ReadsBy Says rule a
  said keyword places (Ok g) s r = record { keyword = keyword; places = places; says = s; reads = r }
  said keyword None (Err Text) s r = absurd r
  said keyword (Some lists) (Err Text) s r = absurd r
  said keyword places (Err Number) s r = record { keyword = keyword; places = places; says = s; reads = r }
  said keyword places (Err Form) s r = record { keyword = keyword; places = places; says = s; reads = r }
  said keyword places (Err RingFault) s r = record { keyword = keyword; places = places; says = s; reads = r }

  -- a text says nothing, or something that reads as the answer
  pub nothing_or : (a : Result Figure GeometryFault) → ReadsBy Says rule a → ((a ≡ Err Text) × ReadsBy Says rule (Err Text)) ⊎ Answers Says rule a
  nothing_or (Ok g) h = inr h
  nothing_or (Err Text) h = inl (refl, h)
  nothing_or (Err Number) h = inr h
  nothing_or (Err Form) h = inr h
  nothing_or (Err RingFault) h = inr h

  -- a text reads as one thing
  pub one_reading : SaysOne Says → (a b : Result Figure GeometryFault) → ReadsBy Says rule a → ReadsBy Says rule b → a ≡ b
  one_reading one a b h k =
      ⊎_elim
      (λ p. ⊎_elim (λ q. p.0 ∙ sym q.0) (λ q. absurd (p.1 q.keyword q.places q.says)) (nothing_or b k))
      (λ p. ⊎_elim (λ q. absurd (q.1 p.keyword p.places p.says)) (λ q. both p q) (nothing_or b k))
      (nothing_or a h)
    where
      both : Answers Says rule a → Answers Says rule b → a ≡ b
      both p q =
          let same = one p.keyword q.keyword p.places q.places p.says q.says in
          one_reads_as rule q.keyword q.places a b
          (subst (λ k. ReadsAs rule k q.places a) same.0 (subst (λ x. ReadsAs rule p.keyword x a) same.1 p.reads)) q.reads

-- ---- of a text

pub one_placed : {P : Type 0} (Good : P → Type 0) (place : P → Position) (lists : List (List P)) (x y : Option (List (List Position))) → ArePlaced Good place lists x
    → ArePlaced Good place lists y → x ≡ y
one_placed Good place lists (Some xs) (Some ys) p q = ap Some (p.1 ∙ sym q.1)
one_placed Good place lists (Some xs) None p q = absurd (q p.0)
one_placed Good place lists None (Some ys) p q = absurd (p q.0)
one_placed Good place lists None None p q = refl

module _ (scale : Scale) (text : List ℕ) where
  pub text_says_one : SaysOne (SaysText scale text)
  text_says_one j k x y s t =
      let same = one_raw_form scale text s.heading t.heading s.lists t.lists s.raw t.raw in (
        sym s.kind ∙ ap (λ h. h.keyword) same.0 ∙ t.kind,
        one_placed (HasGoodNumbers scale) (position scale) t.lists x y
            (subst (λ ls. ArePlaced (HasGoodNumbers scale) (position scale) ls x) same.1 s.placed) t.placed,
      )

  pub text_reading : (rule : Rings) (a : Result Figure GeometryFault) → Reads scale rule text a → IsReading scale rule text a
  text_reading rule a reads = record { reads = reads; only = λ other. one_reading (SaysText scale text) rule text_says_one a other reads }

  pub read_text : (rule : Rings) (heading : Heading) (lists : List (List RawPoint)) (paths : Paths) → TakesText scale text heading lists
      → IsRead scale (skips_dots rule heading.keyword) paths lists []
      → (places : Option (List (List Position))) × SaysText scale text heading.keyword places × AreAt rule heading.keyword paths places
  read_text rule heading lists paths (m, e, word, body, end) r =
      let alone = λ (point : heading.keyword ≡ Point).
      point_list scale heading.is_multi (skip m) lists e (subst (λ k. TakesBodyBy scale heading.is_multi k (skip m) lists e) point body) in
      let (places, placed, at) = placed (HasGoodNumbers scale) (position scale) rule heading.keyword paths lists alone r in
      let says : SaysText scale text heading.keyword places = record {
        heading = heading;
        lists = lists;
        raw = taken_raw scale text heading lists (m, e, word, body, end);
        kind = refl;
        placed = placed;
      } in
      (places, says, at)

  pub says_taken : (keyword : Keyword) (places : Option (List (List Position))) → ((heading : Heading) (lists : List (List RawPoint)) → TakesText scale text heading lists → ⊥)
      → SaysText scale text keyword places → ⊥
  says_taken keyword places none s = none s.heading s.lists (raw_taken scale text s.heading s.lists s.raw)

-- ---- what is read of a raw text

pub if_ok : {A E : Type 0} (P Q : A → Type 0) (r : Result A E) → ((x : A) → P x → Q x) → IfOk r P → IfOk r Q
if_ok P Q (Ok x) f h = f x h
if_ok P Q (Err e) f h = tt

pub raw_reading : {E : Type 0} (scale : Scale) (rule : Rings) (text : List ℕ) (raw : RawGeometry) (r : Result (Result Figure GeometryFault) E)
    → IsRawText scale rule text raw → IfOk r (λ a. (places : Option (List (List Position))) → AreAt rule raw.keyword raw.paths places → ReadsAs rule raw.keyword places a)
    → IfOk r (IsReading scale rule text)
raw_reading scale rule text raw r t h = if_ok _ _ r (λ a reads. text_reading scale text rule a
    (said (SaysText scale text) rule raw.keyword t.places a t.says (reads t.places t.at))) h
