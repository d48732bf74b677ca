-- A list of points forms a shape if and only if the kept points of the walk along it do.
use Rattle.std.proofs.Common.{◌≡◌, ℤ, false, List, [], ◌∷◌, ◌++◌, Option, Some, None, length, get_or, drop, refl, sym, ◌∙◌, ap, subst, arith}
use Rattle.std.specs.Prelude.{⊤}
use Rattle.std.proofs.lemmas.List.{length-append}
use Rattle.geom_core.specs.declared.shape.Shape.{Shape}
use Rattle.geom_core.specs.Shapes.{HasCorners}
use Rattle.geom_core.specs.Joined.{same_corners}
use Rattle.wkt_core.specs.declared.keyword.Keyword.{Keyword}
use Rattle.wkt_core.specs.declared.keyword.Keyword.TheVariants.{Point, LineString, Polygon}
use Rattle.wkt_core.specs.declared.position.Position.{Position}
use Rattle.wkt_core.specs.Drawing.{Heads, IsLine, IsRing, IsRectangle, Draws, last_of, without_repeats_of, is_same}
use Rattle.wkt_core.specs.DrawnBefore.{IsSegment, DrewBefore}
use Rattle.wkt_core.specs.Walks.{Way, way_of, DrawnBy, IsDrawnBy}
use Rattle.number_core.proofs.NumberLemmas.{by_bool}
use Rattle.wkt_core.proofs.HeadingLemmas.{same_true, differ_false, heads_differ, heads_parallel, heading_of}
use Rattle.wkt_core.proofs.RunLemmas.{trail, along, run_heads, pass, passed_all}
use Rattle.wkt_core.proofs.WayLemmas.{Ends, way_trail}
use Rattle.wkt_core.proofs.FormLemmas.{spanned_segment, rectangle_corners, from_next}
use Rattle.wkt_core.proofs.RingLemmas.{ring_kept, kept_ring, side_heading}

-- ---- the last of a list

snoc_same : (xs ys : List Position) (x y : Position) → xs ++ x ∷ [] ≡ ys ++ y ∷ [] → (xs ≡ ys) × (x ≡ y)
snoc_same [] [] x y e = (refl, ap (λ l. get_or l 0 x) e)
snoc_same [] (b ∷ ys) x y e = absurd (omega (arith, ap length e, length-append ys (y ∷ [])))
snoc_same (a ∷ xs) [] x y e = absurd (omega (arith, ap length e, length-append xs (x ∷ [])))
snoc_same (a ∷ xs) (b ∷ ys) x y e =
    let first : a ≡ b = ap (λ l. get_or l 0 a) e in
    let (rest, last) = snoc_same xs ys x y (ap (λ l. drop 1 l) e) in
    (cc, last)

-- repeats have no bearing on the last
last_same : (p : Position) (ps : List Position) → last_of p (without_repeats_of p ps) ≡ last_of p ps
last_same p [] = refl
last_same p (q ∷ ps) =
    by_bool (is_same p q) (λ t. rw t (last_same p ps ∙ ap (λ r. last_of r ps) (same_true p q t))) (λ f. rw f (last_same q ps))

-- ---- a walk that ends

module _ (keyword : Keyword) (s : Shape) (w : Way) (vs : List Position) (n : Ends w vs) where
  drawn_way : (turns : List Position) (e : Position) → vs ≡ turns ++ e ∷ [] → DrawnBy keyword turns e s → IsDrawnBy keyword w.turns w.last s
  drawn_way turns e f h =
      let (same, last) = snoc_same w.turns turns n.end e (n.all ∙ f) in
      subst (λ o. IsDrawnBy keyword w.turns o s) (sym n.last)
      (subst (λ q. DrawnBy keyword w.turns q s) (sym last) (subst (λ t. DrawnBy keyword t e s) (sym same) h))

  way_drawn : IsDrawnBy keyword w.turns w.last s → DrawnBy keyword w.turns n.end s
  way_drawn h = subst (λ o. IsDrawnBy keyword w.turns o s) n.last h

-- ---- lines

line_kept : (p : Position) (ps : List Position) (s : Shape) → IsLine (p ∷ ps) s
    → IsDrawnBy LineString (way_of (p ∷ ps)).turns (way_of (p ∷ ps)).last s
line_kept p ps s l =
    let (h, run) = l.straight in
    let first : p ≡ l.first = ap (λ v. get_or v 0 p) l.points in
    let rest : without_repeats_of p ps ≡ l.between ++ (l.last ∷ []) = ap (λ v. drop 1 v) l.points in
    let way : trail l.first (l.between ++ (l.last ∷ [])) ≡ l.last ∷ [] = along h l.first l.between l.last [] run in
    let into : Heads h l.first l.last = run_heads h l.first l.between l.last run in
    let segment : IsSegment l.first l.last s = record {
      differ = heads_differ h l.first l.last into;
      parallel = heads_parallel h l.first l.last into;
      ends = l.ends;
    } in
    let all : p ∷ trail p (without_repeats_of p ps) ≡ (l.first ∷ []) ++ l.last ∷ [] =
    ap (λ v. p ∷ trail p v) rest ∙ ap (λ q. q ∷ trail q (l.between ++ (l.last ∷ []))) first ∙ ap (λ v. l.first ∷ v) way in
    drawn_way LineString s (way_of (p ∷ ps)) (p ∷ trail p (without_repeats_of p ps)) (way_trail p ps) (l.first ∷ []) l.last all segment

one_leg : (turns : List Position) (e p : Position) (xs : List Position) (s : Shape) → turns ++ e ∷ [] ≡ p ∷ trail p xs
    → DrawnBy LineString turns e s → IsSegment p e s × (trail p xs ≡ e ∷ [])
one_leg [] e p xs s f k = absurd k
one_leg (a ∷ []) e p xs s f k =
    let first : a ≡ p = ap (λ l. get_or l 0 a) f in
    (subst (λ q. IsSegment q e s) first k, sym (ap (λ l. drop 1 l) f))
one_leg (a ∷ b ∷ turns) e p xs s f k = absurd k

line_from : (p : Position) (ps : List Position) (s : Shape) (e : Position) → IsSegment p e s → trail p (without_repeats_of p ps) ≡ e ∷ []
    → IsLine (p ∷ ps) s
line_from p ps s e segment f =
    let m = pass p (without_repeats_of p ps) e [] f in
    let (h, k) = heading_of p e segment.parallel segment.differ in
    let points : without_repeats_of p ps ≡ m.inner ++ (e ∷ []) = m.split ∙ ap (λ l. m.inner ++ (e ∷ l)) (passed_all e m.rest m.onward) in
    record { first = p; between = m.inner; last = e; points = ap (λ l. p ∷ l) points; straight = (h, m.straight h k); ends = segment.ends }

kept_line : (p : Position) (ps : List Position) (s : Shape) → IsDrawnBy LineString (way_of (p ∷ ps)).turns (way_of (p ∷ ps)).last s
    → IsLine (p ∷ ps) s
kept_line p ps s h =
    let n = way_trail p ps in
    let (segment, f) = one_leg (way_of (p ∷ ps)).turns n.end p (without_repeats_of p ps) s n.all
    (way_drawn LineString s (way_of (p ∷ ps)) (p ∷ trail p (without_repeats_of p ps)) n h) in
    line_from p ps s n.end segment f

no_line : (s : Shape) → IsLine [] s → ⊥
no_line s l = let e : [] ≡ l.first ∷ (l.between ++ l.last ∷ []) = l.points in cc

-- ---- rings

ring_drawn : (p : Position) (ps : List Position) (s : Shape) → IsRing p ps s
    → IsDrawnBy Polygon (way_of (p ∷ ps)).turns (way_of (p ∷ ps)).last s
ring_drawn p ps s r =
    let k = ring_kept p (without_repeats_of p ps) s (record { closed = last_same p ps ∙ r.closed; start = r.start; round = r.round }) in
    drawn_way Polygon s (way_of (p ∷ ps)) (p ∷ trail p (without_repeats_of p ps)) (way_trail p ps) k.turns p k.all k.drawn

drawn_ring : (p : Position) (ps : List Position) (s : Shape) → IsDrawnBy Polygon (way_of (p ∷ ps)).turns (way_of (p ∷ ps)).last s
    → IsRing p ps s
drawn_ring p ps s h =
    let n = way_trail p ps in
    let r = kept_ring (way_of (p ∷ ps)).turns n.end p (without_repeats_of p ps) s n.all
    (way_drawn Polygon s (way_of (p ∷ ps)) (p ∷ trail p (without_repeats_of p ps)) n h) in
    record { closed = sym (last_same p ps) ∙ r.closed; start = r.start; round = r.round }

-- ---- all kinds

pub draws_kept : (keyword : Keyword) (ps : List Position) (s : Shape) → Draws keyword ps s → IsDrawnBy keyword (way_of ps).turns (way_of ps).last s
draws_kept Point [] s h = absurd h
draws_kept Point (p ∷ []) s h = h
draws_kept Point (p ∷ q ∷ ps) s h = absurd h
draws_kept LineString [] s h = absurd (no_line s h)
draws_kept LineString (p ∷ ps) s h = line_kept p ps s h
draws_kept Polygon [] s h = absurd h
draws_kept Polygon (p ∷ ps) s h = ring_drawn p ps s h

-- a text of this kind has only one point, if it is a point's
abbrev pub IsAlone : Keyword → List Position → Type 0
IsAlone Point (p ∷ []) = ⊤
IsAlone Point _ = ⊥
IsAlone LineString ps = ⊤
IsAlone Polygon ps = ⊤

pub kept_draws : (keyword : Keyword) (ps : List Position) (s : Shape) → IsAlone keyword ps
    → IsDrawnBy keyword (way_of ps).turns (way_of ps).last s → Draws keyword ps s
kept_draws Point [] s a h = absurd a
kept_draws Point (p ∷ []) s a h = h
kept_draws Point (p ∷ q ∷ ps) s a h = absurd a
kept_draws LineString [] s a h = absurd h
kept_draws LineString (p ∷ ps) s a h = kept_line p ps s h
kept_draws Polygon [] s a h = absurd h
kept_draws Polygon (p ∷ ps) s a h = drawn_ring p ps s h

-- ---- one shape

pub corners_same : (a b c d : ℤ) (s t : Shape) → HasCorners a b c d s → HasCorners a b c d t → s ≡ t
corners_same a b c d s t h k =
    same_corners s t (h.first_x ∙ sym k.first_x) (h.first_y ∙ sym k.first_y) (h.second_x ∙ sym k.second_x) (h.second_y ∙ sym k.second_y)

segment_same : (p q : Position) (s t : Shape) → IsSegment p q s → IsSegment p q t → s ≡ t
segment_same p q s t h k = corners_same _ _ _ _ s t (spanned_segment p q s h) (spanned_segment p q t k)

rectangle_same : (a b c d : Position) (s t : Shape) → IsRectangle a b c d s → IsRectangle a b c d t → s ≡ t
rectangle_same a b c d s t h k = corners_same _ _ _ _ s t (rectangle_corners a b c d s h).1 (rectangle_corners a b c d t k).1

drawn_same : (keyword : Keyword) (turns : List Position) (p : Position) (s t : Shape) → DrawnBy keyword turns p s → DrawnBy keyword turns p t → s ≡ t
drawn_same Point [] p s t h k = corners_same _ _ _ _ s t h k
drawn_same Point (a ∷ turns) p s t h k = absurd h
drawn_same LineString [] p s t h k = absurd h
drawn_same LineString (a ∷ []) p s t h k = segment_same a p s t h k
drawn_same LineString (a ∷ b ∷ turns) p s t h k = absurd h
drawn_same Polygon [] p s t h k = absurd h
drawn_same Polygon (a ∷ []) p s t h k = absurd h
drawn_same Polygon (a ∷ b ∷ []) p s t h k = absurd h
drawn_same Polygon (a ∷ b ∷ c ∷ []) p s t h k = absurd h
drawn_same Polygon (a ∷ b ∷ c ∷ d ∷ []) p s t h k = rectangle_same a b c d s t h.1 k.1
drawn_same Polygon (q ∷ a ∷ b ∷ c ∷ d ∷ []) p s t h k = rectangle_same a b c d s t h.2 k.2
drawn_same Polygon (q ∷ a ∷ b ∷ c ∷ d ∷ e ∷ turns) p s t h k = absurd h

kept_same : (keyword : Keyword) (turns : List Position) (last : Option Position) (s t : Shape) → IsDrawnBy keyword turns last s
    → IsDrawnBy keyword turns last t → s ≡ t
kept_same keyword turns None s t h k = absurd h
kept_same keyword turns (Some p) s t h k = drawn_same keyword turns p s t h k

pub draws_same : (keyword : Keyword) (ps : List Position) (s t : Shape) → Draws keyword ps s → Draws keyword ps t → s ≡ t
draws_same keyword ps s t h k = kept_same keyword (way_of ps).turns (way_of ps).last s t (draws_kept keyword ps s h) (draws_kept keyword ps t k)

-- ---- what was drawn before

segment_line : (p q : Position) (s : Shape) → IsSegment p q s → IsLine (p ∷ q ∷ []) s
segment_line p q s h =
    let (g, k) = heading_of p q h.parallel h.differ in
    record { first = p; between = []; last = q; points = rw (differ_false p q h.differ) refl; straight = (g, (k, tt)); ends = h.ends }

rectangle_ring : (a b c d e : Position) (s : Shape) → e ≡ a → IsRectangle a b c d s → IsRing a (b ∷ c ∷ d ∷ e ∷ []) s
rectangle_ring a b c d e s same r0 =
    let r : IsRectangle e b c d s = subst (λ q. IsRectangle q b c d s) (sym same) r0 in
    let r2 = from_next e b c d s r in
    let r3 = from_next b c d e s r2 in
    let r4 = from_next c d e b s r3 in
    let (h1, k1) = side_heading e b c d s r in
    let (h2, k2) = side_heading b c d e s r2 in
    let (h3, k3) = side_heading c d e b s r3 in
    let (h4, k4) = side_heading d e b c s r4 in
    let first : is_same a b ≡ false = differ_false a b (λ f. heads_differ h1 e b k1 (same ∙ f)) in
    let second : is_same b c ≡ false = differ_false b c (heads_differ h2 b c k2) in
    let third : is_same c d ≡ false = differ_false c d (heads_differ h3 c d k3) in
    let fourth : is_same d e ≡ false = differ_false d e (heads_differ h4 d e k4) in
    record {
      closed = same;
      start = 0;
      round = rw (first, second, third, fourth) (record {
        a = b;
        b = c;
        c = d;
        d = e;
        rectangle = r2;
        ab = b ∷ [];
        bc = c ∷ [];
        cd = d ∷ [];
        da = e ∷ [];
        sides = (([], refl, (h2, (k2, tt))), ([], refl, (h3, (k3, tt))), ([], refl, (h4, (k4, tt))), ([], refl, (h1, (k1, tt))));
        points = refl;
      });
    }

pub drawn_still : (keyword : Keyword) (ps : List Position) (s : Shape) → DrewBefore keyword ps s → Draws keyword ps s
drawn_still Point [] s h = absurd h
drawn_still Point (p ∷ []) s h = h
drawn_still Point (p ∷ q ∷ ps) s h = absurd h
drawn_still LineString [] s h = absurd h
drawn_still LineString (p ∷ []) s h = absurd h
drawn_still LineString (p ∷ q ∷ []) s h = segment_line p q s h
drawn_still LineString (p ∷ q ∷ r ∷ ps) s h = absurd h
drawn_still Polygon [] s h = absurd h
drawn_still Polygon (a ∷ []) s h = absurd h
drawn_still Polygon (a ∷ b ∷ []) s h = absurd h
drawn_still Polygon (a ∷ b ∷ c ∷ []) s h = absurd h
drawn_still Polygon (a ∷ b ∷ c ∷ d ∷ []) s h = absurd h
drawn_still Polygon (a ∷ b ∷ c ∷ d ∷ e ∷ []) s h = rectangle_ring a b c d e s h.0 h.1
drawn_still Polygon (a ∷ b ∷ c ∷ d ∷ e ∷ f ∷ ps) s h = absurd h
