-- The canonical text of a shape spells it.
use Rattle.std.proofs.Common.{◌≡◌, ℕ, ◌+◌, Bool, true, false, cond, eqb, List}
use Rattle.std.proofs.Common.{[], ◌∷◌, ◌++◌, map, refl, sym, ap, ap₂, subst, ◌⊎◌, ⊎_elim, inl, inr, arith}
use Rattle.std.specs.Prelude.{codes, int_lt, ◌<ℤ◌}
use Rattle.std.specs.List.{AllByRecursion}
use Rattle.std.proofs.lemmas.Int.{ints}
use Rattle.std.proofs.lemmas.List.{append_assoc, append-nil}
use Rattle.geom_core.specs.declared.shape.Shape.{Shape}
use Rattle.geom_core.specs.Shapes.{x1, y1, x2, y2}
use Rattle.number_core.specs.declared.scale.Scale.{Scale}
use Rattle.number_core.specs.Scales.{limits_of, IsInRange}
use Rattle.number_core.specs.CanonicalNumbers.{number}
use Rattle.number_core.proofs.PrintedLemmas.{numeral, number_printed, value_printed, good_printed}
use Rattle.wkt_core.specs.declared.keyword.Keyword.{Keyword}
use Rattle.wkt_core.specs.declared.keyword.Keyword.TheVariants.{Point, LineString, Polygon}
use Rattle.wkt_core.specs.declared.position.Position.{Position}
use Rattle.wkt_core.specs.Canonical.{pair, listed, canonical}
use Rattle.wkt_core.specs.Grammar.{RawPoint, Blanks, PointText, Listed, PointList, Body, Word, Raw}
use Rattle.wkt_core.specs.Drawing.{corner, corners, Draws}
use Rattle.wkt_core.specs.DrawnBefore.{DrewBefore}
use Rattle.wkt_core.specs.Spelling.{HasGoodNumbers, IsShapeWithin, position, Spells}
use Rattle.wkt_core.proofs.DrawnLemmas.{drawn_still}

module _ (scale : Scale) where
  -- ---- points

  abbrev pub InRange : Position → Type 0
  InRange p = IsInRange scale p.x × IsInRange scale p.y

  pub raw : Position → RawPoint
  raw p = record { x = numeral scale p.x; y = numeral scale p.y }

  pub point_printed : (p : Position) → InRange p → PointText scale (raw p) (pair scale p)
  unfolding raw
  point_printed p h = record {
    front = number scale p.x;
    back = 32 ∷ number scale p.y;
    first = number_printed scale p.x h.0;
    second = record { front = codes " "; back = number scale p.y; first = (omega arith, (refl, tt)); second = number_printed scale p.y h.1; joined = refl };
    joined = append_assoc (number scale p.x) (codes " ") (number scale p.y);
  }

  pub position_printed : (p : Position) → InRange p → position scale (raw p) ≡ p
  unfolding raw
  position_printed p h = λ i. record { x = value_printed scale p.x h.0 i; y = value_printed scale p.y h.1 i }

  pub good_point : (p : Position) → InRange p → HasGoodNumbers scale (raw p)
  unfolding raw
  good_point p h = (good_printed scale p.x h.0, good_printed scale p.y h.1)

  -- ---- lists of points

  AllInRange : List Position → Type 0
  AllInRange ps = AllByRecursion InRange ps

  points_printed : (p : Position) (ps : List Position) (w : List ℕ) → AllInRange (p ∷ ps) → Blanks w
      → Listed (PointText scale) (map raw (p ∷ ps)) (w ++ (listed scale (p ∷ ps) ++ 41 ∷ []))
  unfolding AllInRange
  points_printed p [] w h blank = record {
    front = w;
    back = (pair scale p ++ []) ++ 41 ∷ [];
    first = blank;
    second = record {
      front = pair scale p;
      back = 41 ∷ [];
      first = point_printed p h.0;
      second = record { front = []; back = 41 ∷ []; first = tt; second = refl; joined = refl };
      joined = ap (λ t. t ++ 41 ∷ []) (append-nil (pair scale p));
    };
    joined = refl;
  }
  points_printed p (q ∷ ps) w h blank = record {
    front = w;
    back = (pair scale p ++ 44 ∷ 32 ∷ listed scale (q ∷ ps)) ++ 41 ∷ [];
    first = blank;
    second = record {
      front = pair scale p;
      back = 44 ∷ 32 ∷ (listed scale (q ∷ ps) ++ 41 ∷ []);
      first = point_printed p h.0;
      second = record {
        front = [];
        back = 44 ∷ 32 ∷ (listed scale (q ∷ ps) ++ 41 ∷ []);
        first = tt;
        second = record {
          front = codes ",";
          back = 32 ∷ (listed scale (q ∷ ps) ++ 41 ∷ []);
          first = refl;
          second = points_printed q ps (32 ∷ []) h.1 (refl, tt);
          joined = refl;
        };
        joined = refl;
      };
      joined = append_assoc (pair scale p) (44 ∷ 32 ∷ listed scale (q ∷ ps)) (41 ∷ []);
    };
    joined = refl;
  }

  list_printed : (p : Position) (ps : List Position) → AllInRange (p ∷ ps) → PointList scale (map raw (p ∷ ps)) (40 ∷ (listed scale (p ∷ ps) ++ 41 ∷ []))
  list_printed p ps h = record {
    front = codes
        "(";
    back = listed scale (p ∷ ps) ++ 41 ∷ [];
    first = refl;
    second = points_printed p ps [] h tt;
    joined = refl;
  }

  ring_printed : (p : Position) (ps : List Position) → AllInRange (p ∷ ps)
      → Body scale Polygon (map raw (p ∷ ps) ∷ []) (40 ∷ 40 ∷ (listed scale (p ∷ ps) ++ 41 ∷ 41 ∷ []))
  ring_printed p ps h =
      let list = 40 ∷ (listed scale (p ∷ ps) ++ 41 ∷ []) in
      record {
        front = codes "(";
        back = 40 ∷ (listed scale (p ∷ ps) ++ 41 ∷ 41 ∷ []);
        first = refl;
        second = record {
          front = [];
          back = 40 ∷ (listed scale (p ∷ ps) ++ 41 ∷ 41 ∷ []);
          first = tt;
          second = record {
            front = list;
            back = 41 ∷ [];
            first = list_printed p ps h;
            second = record { front = []; back = 41 ∷ []; first = tt; second = refl; joined = refl };
            joined = ap (λ t. 40 ∷ t) (sym (append_assoc (listed scale (p ∷ ps)) (41 ∷ []) (41 ∷ [])));
          };
          joined = refl;
        };
        joined = refl;
      }

  -- a keyword, a space and the text after it
  text_printed : (keyword : Keyword) (lists : List (List RawPoint)) (word body : List ℕ) → Word keyword word → Body scale keyword lists body
      → Raw scale (word ++ 32 ∷ body) keyword lists
  text_printed keyword lists word body h b = record {
    front = [];
    back = word ++ 32 ∷ body;
    first = tt;
    second = record {
      front = word;
      back = 32 ∷ body;
      first = h;
      second = record {
        front = codes " ";
        back = body;
        first = (refl, tt);
        second = record { front = body; back = []; first = b; second = tt; joined = sym (append-nil body) };
        joined = refl;
      };
      joined = refl;
    };
    joined = refl;
  }

  -- ---- the shape

  positions_printed : (ps : List Position) → AllInRange ps → map (position scale) (map raw ps) ≡ ps
  unfolding AllInRange
  positions_printed [] h = refl
  positions_printed (p ∷ ps) h = ap₂ (λ q qs. q ∷ qs) (position_printed p h.0) (positions_printed ps h.1)

  good_points : (ps : List Position) → AllInRange ps → AllByRecursion (HasGoodNumbers scale) (map raw ps)
  unfolding AllInRange
  good_points [] h = tt
  good_points (p ∷ ps) h = (good_point p h.0, good_points ps h.1)

  spelled_by : (text : List ℕ) (keyword : Keyword) (ps : List Position) (s : Shape) → AllInRange ps → Raw scale text keyword (map raw ps ∷ [])
      → DrewBefore keyword ps s → Spells scale text s
  spelled_by text keyword ps s h r f = record {
    keyword = keyword;
    lists = map raw ps ∷ [];
    raw = r;
    good = (good_points ps h, tt);
    forms = subst (λ qs. Draws keyword qs s) (sym (positions_printed ps h)) (drawn_still keyword ps s f);
  }

  module _ (s : Shape) (within : IsShapeWithin (limits_of scale) s) where
    low_x : IsInRange scale (x1 s)
    low_x = within.first_x

    low_y : IsInRange scale (y1 s)
    low_y = within.first_y

    high_x : IsInRange scale (x2 s)
    high_x = within.second_x

    high_y : IsInRange scale (y2 s)
    high_y = within.second_y

    point_spelled : x1 s ≡ x2 s → y1 s ≡ y2 s → Spells scale (codes "POINT (" ++ listed scale (corner (x1 s) (y1 s) ∷ []) ++ codes ")") s
    unfolding AllInRange
    point_spelled e f =
        let p = corner (x1 s) (y1 s) in
        spelled_by _ Point (p ∷ []) s ((low_x, low_y), tt)
        (text_printed Point (map raw (p ∷ []) ∷ []) (codes "POINT") _ refl (list_printed p [] ((low_x, low_y), tt)))
        (record { first_x = refl; first_y = refl; second_x = sym e; second_y = sym f })

    segment_spelled : (x1 s ≡ x2 s) ⊎ (y1 s ≡ y2 s) → (x1 s <ℤ x2 s) ⊎ (y1 s <ℤ y2 s)
        → Spells scale (codes "LINESTRING (" ++ listed scale (corner (x1 s) (y1 s) ∷ corner (x2 s) (y2 s) ∷ []) ++ codes ")") s
    unfolding AllInRange
    segment_spelled same apart =
        let p = corner (x1 s) (y1 s) in
        let q = corner (x2 s) (y2 s) in
        spelled_by _ LineString (p ∷ q ∷ []) s ((low_x, low_y), ((high_x, high_y), tt))
        (text_printed LineString (map raw (p ∷ q ∷ []) ∷ []) (codes "LINESTRING") _ refl
        (list_printed p (q ∷ []) ((low_x, low_y), ((high_x, high_y), tt))))
        (record {
          differ = λ e. ⊎_elim (λ l. let k : x1 s ≡ x2 s = ap (λ r. r.x) e in omega (arith, ints))
              (λ l. let k : y1 s ≡ y2 s = ap (λ r. r.y) e in omega (arith, ints)) apart;
          parallel = same;
          ends = inl (record { first_x = refl; first_y = refl; second_x = refl; second_y = refl });
        })

    rectangle_spelled : x1 s <ℤ x2 s → y1 s <ℤ y2 s → Spells scale (codes "POLYGON ((" ++ listed scale (corners s ++ corner (x1 s) (y1 s) ∷ []) ++ codes "))") s
    unfolding AllInRange
    rectangle_spelled wide high =
        let a = corner (x1 s) (y1 s) in
        let rest = corner (x2 s) (y1 s) ∷ corner (x2 s) (y2 s) ∷ corner (x1 s) (y2 s) ∷ a ∷ [] in
        let range : AllInRange (a ∷ rest) = ((low_x, low_y), ((high_x, low_y), ((high_x, high_y), ((low_x, high_y), ((low_x, low_y), tt))))) in
        spelled_by _ Polygon (a ∷ rest) s range
        (text_printed Polygon (map raw (a ∷ rest) ∷ []) (codes "POLYGON") _ refl (ring_printed a rest range))
        (refl, record { wide = wide; high = high; round = (0, omega arith, inl refl) })

    by_sides : (a b : Bool) → int_lt (x1 s) (x2 s) ≡ a → int_lt (y1 s) (y2 s) ≡ b →
        let d = cond a 1 0 + cond b 1 0 in Spells scale (cond (eqb d 0) (codes "POINT (" ++ listed scale (corner (x1 s) (y1 s) ∷ []) ++ codes ")")
        (cond (eqb d 1) (codes "LINESTRING (" ++ listed scale (corner (x1 s) (y1 s) ∷ corner (x2 s) (y2 s) ∷ []) ++ codes ")")
        (codes "POLYGON ((" ++ listed scale (corners s ++ corner (x1 s) (y1 s) ∷ []) ++ codes "))"))) s
    by_sides false false p q = point_spelled (grind (arith, ints)) (grind (arith, ints))
    by_sides true false p q = segment_spelled (inr (grind (arith, ints))) (inl (grind (arith, ints)))
    by_sides false true p q = segment_spelled (inl (grind (arith, ints))) (inr (grind (arith, ints)))
    by_sides true true p q = rectangle_spelled (grind (arith, ints)) (grind (arith, ints))

    pub canonical_spells : Spells scale (canonical scale s) s
    canonical_spells = by_sides (int_lt (x1 s) (x2 s)) (int_lt (y1 s) (y2 s)) refl refl
