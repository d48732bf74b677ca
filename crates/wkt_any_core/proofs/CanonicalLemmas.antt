-- The canonical text of a geometry that was read spells it.
use Rattle.std.proofs.Common.{◌≡◌, inr, ℕ, suc, ◌<◌, Bool, true, false, List, [], ◌∷◌, ◌++◌, map, length, All, refl, sym, ◌∙◌, ap, ap₂, subst, arith}
use Rattle.std.specs.Prelude.{◌==◌, codes, if◌then◌else◌, Option, Some, None, Ok}
use Rattle.std.specs.List.{AllByRecursion}
use Rattle.std.proofs.lemmas.List.{append_assoc, append-nil}
use Rattle.plane_core.specs.declared.vertex.Vertex.{Vertex}
use Rattle.plane_core.specs.declared.rings.Rings.{Rings}
use Rattle.plane_core.specs.Figures.{Figure, IsPath, IsRing, IsGeometry}
use Rattle.plane_core.specs.Figures.Figure.{Points, Lines, Areas}
use Rattle.plane_core.specs.Outlines.{kind_of}
use Rattle.plane_core.specs.Vertices.{paths_in}
use Rattle.wkt_core.specs.declared.keyword.Keyword.{Keyword}
use Rattle.wkt_core.specs.declared.keyword.Keyword.TheVariants.{Point, LineString, Polygon}
use Rattle.wkt_core.specs.declared.position.Position.{Position}
use Rattle.number_core.specs.declared.limits.Limits.TheVariants.{Any}
use Rattle.number_core.specs.declared.scale.Scale.{Scale}
use Rattle.number_core.specs.ScaleLimits.{IsWithin}
use Rattle.number_core.specs.Scales.{limits_of, IsInRange}
use Rattle.wkt_core.specs.Drawing.{is_same, without_repeats, without_repeats_of}
use Rattle.wkt_core.specs.Grammar.{RawPoint, Blanks, PointText, PointList, Listed, InParentheses}
use Rattle.wkt_core.specs.Spelling.{HasGoodNumbers, AllNumbersGood, position, positions}
use Rattle.wkt_core.proofs.CanonicalLemmas.{raw, point_printed, position_printed, good_point}
use Rattle.number_core.proofs.NumberLemmas.{by_bool}
use Rattle.wkt_any_core.specs.declared.heading.Heading.{Heading}
use Rattle.wkt_any_core.specs.Canonical.{separated, vertex_text, path_text, point_text, part_text, points_text, lines_text, areas_text, canonical}
use Rattle.wkt_any_core.specs.Drawing.{position_of, positions_of, kind_for, is_kept, skips_dots, drawn, Draws}
use Rattle.wkt_any_core.specs.Grammar.{Member, BodyBy, Words, Raw, joined}
use Rattle.wkt_any_core.specs.Readings.{Reads, ReadsAs}

-- ---- what is drawn is drawn again as it is

one_more : (p : Position) (ps : List Position) → without_repeats_of p (without_repeats_of p ps) ≡ without_repeats_of p ps
one_more p [] = refl
one_more p (q ∷ ps) = by_bool (is_same p q)
    (λ t. rw t (one_more p ps))
    (λ f. rw (f, f) (ap (λ (qs : List Position). q ∷ qs) (one_more q ps)))

no_repeats : (ps : List Position) → without_repeats (without_repeats ps) ≡ without_repeats ps
no_repeats [] = refl
no_repeats (p ∷ ps) = ap (λ (qs : List Position). p ∷ qs) (one_more p ps)

drawn_again : (skips : Bool) (lists : List (List Position)) → drawn skips (drawn skips lists) ≡ drawn skips lists
drawn_again skips [] = refl
drawn_again skips (ps ∷ lists) = by_bool (is_kept skips (without_repeats ps))
    (λ t.
    let again : is_kept skips (without_repeats (without_repeats ps)) ≡ true = ap (is_kept skips) (no_repeats ps) ∙ t in
    rw (t, again) (ap₂ (λ (qs : List Position) (rest : List (List Position)). qs ∷ rest) (no_repeats ps) (drawn_again skips lists)))
    (λ f. rw f (drawn_again skips lists))

-- ---- items in parentheses

module _ {X Y : Type 0} (Item : X → List ℕ → Type 0) (value : Y → X) (spell : Y → List ℕ) (Good : Y → Type 0) (item : (y : Y) → Good y → Item (value y) (spell y)) where
  items_listed : (y : Y) (ys : List Y) (w : List ℕ) → AllByRecursion Good (y ∷ ys) → Blanks w
      → Listed Item (map value (y ∷ ys)) (w ++ (separated spell (y ∷ ys) ++ 41 ∷ []))
  items_listed y [] w h blank = record {
    front = w;
    back = (spell y ++ []) ++ 41 ∷ [];
    first = blank;
    second = record {
      front = spell y;
      back = 41 ∷ [];
      first = item y h.0;
      second = record { front = []; back = 41 ∷ []; first = tt; second = refl; joined = refl };
      joined = ap (λ (t : List ℕ). t ++ 41 ∷ []) (append-nil (spell y));
    };
    joined = refl;
  }
  items_listed y (z ∷ ys) w h blank = record {
    front = w;
    back = (spell y ++ 44 ∷ 32 ∷ separated spell (z ∷ ys)) ++ 41 ∷ [];
    first = blank;
    second = record {
      front = spell y;
      back = 44 ∷ 32 ∷ (separated spell (z ∷ ys) ++ 41 ∷ []);
      first = item y h.0;
      second = record {
        front = [];
        back = 44 ∷ 32 ∷ (separated spell (z ∷ ys) ++ 41 ∷ []);
        first = tt;
        second = record {
          front = codes ",";
          back = 32 ∷ (separated spell (z ∷ ys) ++ 41 ∷ []);
          first = refl;
          second = items_listed z ys (32 ∷ []) h.1 (refl, tt);
          joined = refl;
        };
        joined = refl;
      };
      joined = append_assoc (spell y) (44 ∷ 32 ∷ separated spell (z ∷ ys)) (41 ∷ []);
    };
    joined = refl;
  }

  items_enclosed : (ys : List Y) → 0 < length ys → AllByRecursion Good ys → InParentheses Item (map value ys) (40 ∷ (separated spell ys ++ 41 ∷ []))
  items_enclosed [] some h = absurd (omega (arith, some))
  items_enclosed (y ∷ ys) some h = record {
    front = codes "(";
    back = separated spell (y ∷ ys) ++ 41 ∷ [];
    first = refl;
    second = items_listed y ys [] h tt;
    joined = refl;
  }

all_of : {X : Type 0} (P Q : X → Type 0) (xs : List X) → ((x : X) → P x → Q x) → All P xs → AllByRecursion Q xs
all_of P Q [] f h = tt
all_of P Q (x ∷ xs) f h = (f x (h 0 x (omega arith)), all_of P Q xs f (λ k d lt. h (suc k) d (omega (arith, lt))))

all_any : {X : Type 0} (xs : List X) → AllByRecursion (λ _. Unit {0}) xs
all_any [] = tt
all_any (x ∷ xs) = (tt, all_any xs)

nonempty_path : (path : List Vertex) → IsPath path → 0 < length path
nonempty_path [] h = h.long
nonempty_path (v ∷ vs) h = omega arith

not_one : (n : ℕ) → (suc (suc n) == 1) ≡ false
not_one n = grind arith

abbrev IsFilled : List Vertex → Type 0
IsFilled path = 0 < length path

same_keyword : (k l : Keyword) → kind_for k ≡ kind_for l → k ≡ l
same_keyword Point Point e = refl
same_keyword Point LineString e = absurd cc
same_keyword Point Polygon e = absurd cc
same_keyword LineString Point e = absurd cc
same_keyword LineString LineString e = refl
same_keyword LineString Polygon e = absurd cc
same_keyword Polygon Point e = absurd cc
same_keyword Polygon LineString e = absurd cc
same_keyword Polygon Polygon e = refl

-- a heading, a space and the text after it
text_printed : (scale : Scale) (heading : Heading) (lists : List (List RawPoint)) (word body : List ℕ) → Words heading word
    → BodyBy scale heading.is_multi heading.keyword lists body → Raw scale (word ++ 32 ∷ body) heading lists
text_printed scale heading lists word body h b = record {
  front = [];
  back = word ++ 32 ∷ body;
  first = tt;
  second = record {
    front = word;
    back = 32 ∷ body;
    first = h;
    second = record {
      front = codes " ";
      back = body;
      first = (refl, tt);
      second = record { front = body; back = []; first = b; second = tt; joined = sym (append-nil body) };
      joined = refl;
    };
    joined = refl;
  };
  joined = refl;
}

module _ (scale : Scale) (wide : limits_of scale ≡ Any) where
  in_range : (v : Vertex) → IsInRange scale v.x × IsInRange scale v.y
  in_range v = subst (λ l. IsWithin l v.x × IsWithin l v.y) (sym wide) (v.x_in_range, v.y_in_range)

  abbrev polygon_text : List Vertex → List ℕ
  polygon_text ring = part_text scale true ring

  raw_of : Vertex → RawPoint
  raw_of v = raw scale (position_of v)

  vertex_printed : (v : Vertex) → PointText scale (raw_of v) (vertex_text scale v)
  unfolding raw_of
  vertex_printed v = point_printed scale (position_of v) (in_range v)

  path_printed : (path : List Vertex) → IsFilled path → PointList scale (map raw_of path) (path_text scale path)
  path_printed path some = items_enclosed (PointText scale) raw_of (vertex_text scale) (λ _. Unit {0}) (λ v h. vertex_printed v) path some (all_any path)

  paths_printed : (paths : List (List Vertex)) → 0 < length paths → AllByRecursion IsFilled paths
      → InParentheses (PointList scale) (map (map raw_of) paths) (40 ∷ (separated (path_text scale) paths ++ 41 ∷ []))
  paths_printed paths some h = items_enclosed (PointList scale) (map raw_of) (path_text scale) IsFilled path_printed paths some h

  members_printed : (vs : List Vertex) → 0 < length vs → InParentheses (Member scale) (map raw_of vs) (40 ∷ (separated (point_text scale) vs ++ 41 ∷ []))
  members_printed vs some = items_enclosed (Member scale) raw_of (point_text scale) (λ _. Unit {0}) (λ v h. inr (path_printed (v ∷ []) (omega arith))) vs some (all_any vs)

  polygon_printed : (ring : List Vertex) → IsFilled ring → InParentheses (PointList scale) (map raw_of ring ∷ []) (polygon_text ring)
  polygon_printed ring some =
      subst (λ (t : List ℕ). InParentheses (PointList scale) (map raw_of ring ∷ []) (40 ∷ (t ++ 41 ∷ []))) (append-nil (path_text scale ring))
      (paths_printed (ring ∷ []) (omega arith) (some, tt))

  polygons_printed : (rings : List (List Vertex)) → 0 < length rings → AllByRecursion IsFilled rings
      → InParentheses (InParentheses (PointList scale)) (map (λ ring. map raw_of ring ∷ []) rings) (40 ∷ (separated polygon_text rings ++ 41 ∷ []))
  polygons_printed rings some h = items_enclosed (InParentheses (PointList scale)) (λ ring. map raw_of ring ∷ []) polygon_text IsFilled polygon_printed rings some h

  rings_joined : (rings : List (List Vertex)) → map (map raw_of) rings ≡ joined (map (λ ring. map raw_of ring ∷ []) rings)
  rings_joined [] = refl
  rings_joined (ring ∷ rings) = ap (λ (lists : List (List RawPoint)). map raw_of ring ∷ lists) (rings_joined rings)

  -- ---- texts of one part and of many

  abbrev HasRaw : Keyword → List ℕ → List (List RawPoint) → Type 0
  HasRaw keyword text lists = (is_multi : Bool) × Raw scale text (record { is_multi = is_multi; keyword = keyword }) lists

  one_raw : (keyword : Keyword) (lists : List (List RawPoint)) (word body : List ℕ) → Words (record { is_multi = false; keyword = keyword }) word
      → BodyBy scale false keyword lists body → HasRaw keyword (word ++ 32 ∷ (body ++ [])) lists
  one_raw keyword lists word body h b = (
    false,
    subst (λ (t : List ℕ). Raw scale (word ++ 32 ∷ t) (record { is_multi = false; keyword = keyword }) lists) (sym (append-nil body))
        (text_printed scale (record { is_multi = false; keyword = keyword }) lists word body h b),
  )

  many_raw : (keyword : Keyword) (lists : List (List RawPoint)) (one word body : List ℕ) (n : ℕ) → Words (record { is_multi = true; keyword = keyword }) word
      → BodyBy scale true keyword lists body → HasRaw keyword (if suc (suc n) == 1 then one else word ++ 32 ∷ body) lists
  many_raw keyword lists one word body n h b = (
    true,
    subst (λ (t : Bool). Raw scale (if t then one else word ++ 32 ∷ body) (record { is_multi = true; keyword = keyword }) lists) (sym (not_one n))
        (text_printed scale (record { is_multi = true; keyword = keyword }) lists word body h b),
  )

  points_raw : (vs : List Vertex) → 0 < length vs → HasRaw Point (points_text scale vs) (map raw_of vs ∷ [])
  points_raw [] some = absurd (omega (arith, some))
  points_raw (v ∷ []) some = one_raw Point _ (codes "POINT") (point_text scale v) refl (path_printed (v ∷ []) some)
  points_raw (v ∷ w ∷ vs) some = many_raw Point _ _ (codes "MULTIPOINT") _ (length vs) refl (members_printed (v ∷ w ∷ vs) some)

  lines_raw : (paths : List (List Vertex)) → 0 < length paths → AllByRecursion IsFilled paths → HasRaw LineString (lines_text scale paths) (map (map raw_of) paths)
  lines_raw [] some h = absurd (omega (arith, some))
  lines_raw (path ∷ []) some h = one_raw LineString _ (codes "LINESTRING") (path_text scale path) refl (path_printed path h.0)
  lines_raw (path ∷ other ∷ paths) some h = many_raw LineString _ _ (codes "MULTILINESTRING") _ (length paths) refl (paths_printed (path ∷ other ∷ paths) some h)

  areas_raw : (rings : List (List Vertex)) → 0 < length rings → AllByRecursion IsFilled rings → HasRaw Polygon (areas_text scale rings) (map (map raw_of) rings)
  areas_raw [] some h = absurd (omega (arith, some))
  areas_raw (ring ∷ []) some h = one_raw Polygon _ (codes "POLYGON") (polygon_text ring) refl (polygon_printed ring h.0)
  areas_raw (ring ∷ other ∷ rings) some h =
      let all = ring ∷ other ∷ rings in
      many_raw Polygon _ _ (codes "MULTIPOLYGON") _ (length rings) refl (map (λ r. map raw_of r ∷ []) all, rings_joined all, polygons_printed all some h)

  keyword_of : Figure → Keyword
  keyword_of (Points vs) = Point
  keyword_of (Lines paths) = LineString
  keyword_of (Areas rings) = Polygon

  kind_same : (g : Figure) → kind_of g ≡ kind_for (keyword_of g)
  unfolding keyword_of
  kind_same (Points vs) = refl
  kind_same (Lines paths) = refl
  kind_same (Areas rings) = refl

  canonical_raw : (g : Figure) → IsGeometry g → HasRaw (keyword_of g) (canonical scale g) (map (map raw_of) (paths_in g))
  unfolding keyword_of
  canonical_raw (Points vs) h = points_raw vs h
  canonical_raw (Lines paths) h = lines_raw paths h.0 (all_of IsPath IsFilled paths nonempty_path h.1)
  canonical_raw (Areas rings) h = areas_raw rings h.0 (all_of IsRing IsFilled rings (λ ring r. nonempty_path ring r.path) h.1)

  -- ---- its numbers

  path_positions : (path : List Vertex) → map (position scale) (map raw_of path) ≡ map position_of path
  unfolding raw_of
  path_positions [] = refl
  path_positions (v ∷ vs) = ap₂ (λ (p : Position) (ps : List Position). p ∷ ps) (position_printed scale (position_of v) (in_range v)) (path_positions vs)

  all_positions : (paths : List (List Vertex)) → positions scale (map (map raw_of) paths) ≡ positions_of paths
  all_positions [] = refl
  all_positions (path ∷ paths) = ap₂ (λ (ps : List Position) (rest : List (List Position)). ps ∷ rest) (path_positions path) (all_positions paths)

  path_good : (path : List Vertex) → AllByRecursion (HasGoodNumbers scale) (map raw_of path)
  unfolding raw_of
  path_good [] = tt
  path_good (v ∷ vs) = (good_point scale (position_of v) (in_range v), path_good vs)

  all_good : (paths : List (List Vertex)) → AllNumbersGood scale (map (map raw_of) paths)
  all_good [] = tt
  all_good (path ∷ paths) = (path_good path, all_good paths)

  -- ---- the geometry

  drawn_as : (rule : Rings) (keyword : Keyword) (lists : List (List Position)) (g : Figure) → Draws rule keyword lists g
      → Draws rule (keyword_of g) (positions scale (map (map raw_of) (paths_in g))) g
  drawn_as rule keyword lists g d =
      let skips = skips_dots rule keyword in
      record {
        kind = kind_same g;
        paths = d.paths ∙ sym (drawn_again skips lists) ∙ ap (drawn skips) (sym d.paths) ∙ ap (drawn skips) (sym (all_positions (paths_in g)))
            ∙ ap (λ (k : Keyword). drawn (skips_dots rule k) (positions scale (map (map raw_of) (paths_in g)))) (same_keyword keyword (keyword_of g) (sym d.kind ∙ kind_same g));
        geometry = d.geometry;
        allowed = d.allowed;
      }

  pub canonical_reads : (rule : Rings) (keyword : Keyword) (places : Option (List (List Position))) (g : Figure) → ReadsAs rule keyword places (Ok g)
      → Reads scale rule (canonical scale g) (Ok g)
  canonical_reads rule keyword None g h = absurd h
  canonical_reads rule keyword (Some lists) g (draws, proper) =
      let (is_multi, raw) = canonical_raw g draws.geometry in
      record {
        keyword = keyword_of g;
        places = Some (positions scale (map (map raw_of) (paths_in g)));
        says = record {
          heading = record { is_multi = is_multi; keyword = keyword_of g };
          lists = map (map raw_of) (paths_in g);
          raw = raw;
          kind = refl;
          placed = (all_good (paths_in g), refl);
        };
        reads = (drawn_as rule keyword lists g draws, proper);
      }
