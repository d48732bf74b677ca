-- The points of a text form a shape and a geometry with the same parts.
use Rattle.std.proofs.Common.{◌≡◌, ◌≤◌, ◌<◌, arith, refl, ap, ap₂, ◌∙◌, sym, inl, inr, List, [], ◌∷◌, ◌++◌, map, take, drop, length, get_or, length-append, subst, true, false}
use Rattle.std.specs.Prelude.{ℤ, ℕ, ◌+◌, ◌<ℤ◌, ◌⊎◌, Bool, ◌&&◌, All, Option, Some, Ok}
use Rattle.std.specs.List.{filter}
use Rattle.std.proofs.lemmas.Int.{ints}
use Rattle.std.proofs.lemmas.List.{append-nil, append_assoc, map-append, take-append-drop}
use Rattle.std.proofs.lemmas.List.Elements.{All-head}
use Rattle.geom_core.specs.declared.shape.Shape.{Shape}
use Rattle.geom_core.specs.declared.span.Span.{Span}
use Rattle.geom_core.specs.Shapes.{HasCorners, dim_of, span_dim}
use Rattle.relation_core.specs.declared.matrix.Matrix.{Matrix}
use Rattle.relation_core.specs.Matrices.{IsMatrix}
use Rattle.plane_core.specs.declared.vertex.Vertex.{Vertex}
use Rattle.plane_core.specs.declared.rings.Rings.{Rings}
use Rattle.plane_core.specs.Figures.{Figure, Points, Lines, Areas, IsGeometry, IsClosed, IsRing as IsFigureRing, last_or}
use Rattle.plane_core.specs.PlaneMatrices.{IsPlaneMatrix}
use Rattle.plane_core.specs.Vertices.{paths_in}
use Rattle.number_core.specs.declared.scale.Scale.{Scale}
use Rattle.number_core.proofs.NumberLemmas.{by_bool}
use Rattle.wkt_core.specs.declared.keyword.Keyword.{Keyword}
use Rattle.wkt_core.specs.declared.keyword.Keyword.TheVariants.{Point, LineString, Polygon}
use Rattle.wkt_core.specs.declared.position.Position.{Position}
use Rattle.wkt_core.specs.Drawing.{Heading, East, North, West, South, Heads, Runs, IsStraight, IsLine, IsRectangle, IsSide, AreSides, IsRing, Draws as DrawsBox, rotated, without_repeats, without_repeats_of}
use Rattle.wkt_core.specs.Spelling.{Forms, positions}
use Rattle.wkt_core.proofs.FormLemmas.{rectangle_corners}
use Rattle.wkt_core.proofs.RunLemmas.{run_heads}
use Rattle.wkt_any_core.specs.Drawing.{position_of, positions_of, kind_for, skips_dots, is_dot, is_kept, drawn, Draws}
use Rattle.wkt_any_core.specs.Readings.{ReadsAs}
use Rattle.wkt_any_core.specs.Spelling.{SaysText}
use Rattle.geometry_text_core.proofs.TextLemmas.{says_one}
use Rattle.agreement_core.specs.Agreement.{HasPartsOf}
use Rattle.agreement_core.specs.BoxFigures.{AreEndsOf, AreOpposite, AreLevelFirst, AreUprightFirst, LiesWithin, GoesStraight, RunsAlong, IsRingOf, RunsAround}
use Rattle.agreement_core.proofs.AgreementLemmas.{agreement}
use Rattle.agreement_core.proofs.BoxTestLemmas.{opposite}
use Rattle.agreement_core.proofs.CornerLemmas.{point_parts}
use Rattle.agreement_core.proofs.StraightLemmas.{line_parts, around_parts}
use Rattle.relate_any_core.specs.BothFormats.{ReadsBoth}

-- ---- vertices at positions

-- vertices at the positions of two lists
record Split (vs : List Vertex) (ps qs : List Position) : Type 0 where
  front : List Vertex
  back : List Vertex
  joined : vs ≡ front ++ back
  first : map position_of front ≡ ps
  second : map position_of back ≡ qs

split : (vs : List Vertex) (ps qs : List Position) → map position_of vs ≡ ps ++ qs → Split vs ps qs
split vs [] qs e = record { front = []; back = vs; joined = refl; first = refl; second = e }
split [] (p ∷ ps) qs e = absurd cc
split (v ∷ vs) (p ∷ ps) qs e =
    let rest = split vs ps qs (ap (λ ls. drop 1 ls) e) in
    record {
      front = v ∷ rest.front;
      back = rest.back;
      joined = ap (λ (us : List Vertex). v ∷ us) rest.joined;
      first = ap₂ (λ (q : Position) (us : List Position). q ∷ us) (ap (λ ls. get_or ls 0 (position_of v)) e) rest.first;
      second = rest.second;
    }

-- a vertex at a position, and those behind it
record Headed (vs : List Vertex) (p : Position) (ps : List Position) : Type 0 where
  vertex : Vertex
  rest : List Vertex
  joined : vs ≡ vertex ∷ rest
  first : position_of vertex ≡ p
  behind : map position_of rest ≡ ps

headed : (vs : List Vertex) (p : Position) (ps : List Position) → map position_of vs ≡ p ∷ ps → Headed vs p ps
headed [] p ps e = absurd cc
headed (v ∷ vs) p ps e =
    record { vertex = v; rest = vs; joined = refl; first = ap (λ ls. get_or ls 0 (position_of v)) e; behind = ap (λ ls. drop 1 ls) e }

no_vertex : (vs : List Vertex) → map position_of vs ≡ [] → vs ≡ []
no_vertex [] e = refl
no_vertex (v ∷ vs) e = absurd cc

-- ---- points

point_read : (s : Shape) (p : Position) (vs : List Vertex) → HasCorners p.x p.y p.x p.y s → map position_of vs ≡ p ∷ [] → HasPartsOf s (Points vs)
point_read s p vs corners e =
    let one = headed vs p [] e in
    let here : HasCorners one.vertex.x one.vertex.y one.vertex.x one.vertex.y s = subst (λ (q : Position). HasCorners q.x q.y q.x q.y s) (sym one.first) corners in
    subst (λ (us : List Vertex). HasPartsOf s (Points us)) (sym (one.joined ∙ ap (λ (us : List Vertex). one.vertex ∷ us) (no_vertex one.rest one.behind)))
    (point_parts s one.vertex
    (record { along_x = inl (sym here.first_x, sym here.second_x); along_y = inl (sym here.first_y, sym here.second_y) })
    (no_length s.x s.y (here.first_x ∙ sym here.second_x) (here.first_y ∙ sym here.second_y)))
  where
    no_length : (m n : Span) → m.lo ≡ m.hi → n.lo ≡ n.hi → span_dim m + span_dim n ≡ 0
    no_length m n h k = grind (arith, ints, h, k)

-- ---- straight paths

-- from p over q to r in one heading
within : (h : Heading) (a v b : Vertex) → Heads h (position_of a) (position_of v) → Heads h (position_of v) (position_of b) → LiesWithin a v b
within East a v b h k = inl (h.0, k.0, inl (h.1, k.1))
within North a v b h k = inr (h.0, k.0, inl (h.1, k.1))
within West a v b h k = inl (h.0, k.0, inr (k.1, h.1))
within South a v b h k = inr (h.0, k.0, inr (k.1, h.1))

goes_straight : (h : Heading) (a : Vertex) (vs : List Vertex) (b : Vertex) → Runs h (position_of a ∷ map position_of vs ++ position_of b ∷ []) → GoesStraight a vs b
goes_straight h a [] b run = tt
goes_straight h a (v ∷ vs) b run =
    (within h a v b run.0 (run_heads h (position_of v) (map position_of vs) (position_of b) run.1), goes_straight h v vs b run.1)

straight_at : (p q : Position) (ps : List Position) (a b : Vertex) (vs : List Vertex) → position_of a ≡ p → map position_of vs ≡ ps → position_of b ≡ q
    → IsStraight p ps q → IsStraight (position_of a) (map position_of vs) (position_of b)
straight_at p q ps a b vs first behind last straight =
    subst (λ (r : Position). IsStraight r (map position_of vs) (position_of b)) (sym first)
    (subst (λ (rs : List Position). IsStraight p rs (position_of b)) (sym behind) (subst (IsStraight p ps) (sym last) straight))

-- ---- lines

-- the lowest and the highest corner of the shape, in either order
abbrev AreEndsEitherWay : Position → Position → Shape → Type 0
AreEndsEitherWay p q s = HasCorners p.x p.y q.x q.y s ⊎ HasCorners q.x q.y p.x p.y s

opposite_ends : (s : Shape) (a b : Vertex) → AreEndsEitherWay (position_of a) (position_of b) s → AreOpposite s a b
opposite_ends s a b (inl h) = record { along_x = inl (sym h.first_x, sym h.second_x); along_y = inl (sym h.first_y, sym h.second_y) }
opposite_ends s a b (inr h) = record { along_x = inr (sym h.second_x, sym h.first_x); along_y = inr (sym h.second_y, sym h.first_y) }

long : (n : Span) (a b : ℤ) → AreEndsOf n a b → ¬ (a ≡ b) → span_dim n ≡ 1
long n a b ends apart = grind (arith, ints, ends, apart, n.ordered)

flat : (n : Span) (a b : ℤ) → AreEndsOf n a b → a ≡ b → span_dim n ≡ 0
flat n a b ends same = grind (arith, ints, ends, same)

one_dim : (s : Shape) (h : Heading) (a b : Vertex) → Heads h (position_of a) (position_of b) → AreOpposite s a b → dim_of s ≡ 1
one_dim s East a b h ends = omega (arith, long s.x a.x b.x ends.along_x (λ e. omega (arith, ints, e, h)), flat s.y a.y b.y ends.along_y h.0)
one_dim s North a b h ends = omega (arith, flat s.x a.x b.x ends.along_x h.0, long s.y a.y b.y ends.along_y (λ e. omega (arith, ints, e, h)))
one_dim s West a b h ends = omega (arith, long s.x a.x b.x ends.along_x (λ e. omega (arith, ints, e, h)), flat s.y a.y b.y ends.along_y h.0)
one_dim s South a b h ends = omega (arith, flat s.x a.x b.x ends.along_x h.0, long s.y a.y b.y ends.along_y (λ e. omega (arith, ints, e, h)))

line_read : (s : Shape) (ps : List Position) (path : List Vertex) → IsLine ps s → map position_of path ≡ without_repeats ps → HasPartsOf s (Lines (path ∷ []))
line_read s ps path l e =
    let front = headed path l.first (l.between ++ l.last ∷ []) (e ∙ l.points) in
    let on = split front.rest l.between (l.last ∷ []) front.behind in
    let end = headed on.back l.last [] on.second in
    let way = straight_at l.first l.last l.between front.vertex end.vertex on.front front.first on.first end.first l.straight in
    let ends = opposite_ends s front.vertex end.vertex
    (subst (λ (q : Position). AreEndsEitherWay q (position_of end.vertex) s) (sym front.first) (subst (λ (q : Position). AreEndsEitherWay l.first q s) (sym end.first) l.ends)) in
    line_parts s path
    (record {
      first = front.vertex;
      between = on.front;
      last = end.vertex;
      vertices = front.joined ∙ ap (λ (vs : List Vertex). front.vertex ∷ vs)
          (on.joined ∙ ap (λ (vs : List Vertex). on.front ++ vs) (end.joined ∙ ap (λ (vs : List Vertex). end.vertex ∷ vs) (no_vertex end.rest end.behind)));
      straight = goes_straight way.0 front.vertex on.front end.vertex way.1;
      ends = ends;
    })
    (one_dim s way.0 front.vertex end.vertex (run_heads way.0 (position_of front.vertex) (map position_of on.front) (position_of end.vertex) way.1) ends)

-- ---- rings

-- a ring begins with its last vertex
ends_with : (v : Vertex) (vs : List Vertex) → (before : List Vertex) × (v ∷ vs ≡ before ++ last_or v vs ∷ [])
ends_with v [] = ([], refl)
ends_with v (u ∷ vs) = let rest = ends_with u vs in (v ∷ rest.0, ap (λ (us : List Vertex). v ∷ us) rest.1)

last_behind : (v : Vertex) (front : List Vertex) (u : Vertex) (back : List Vertex) → last_or v (front ++ u ∷ back) ≡ last_or u back
last_behind v [] u back = refl
last_behind v (w ∷ front) u back = last_behind w front u back

ring_of : (v : Vertex) (front back : List Vertex) → 0 < length (front ++ back) → last_or v (front ++ back) ≡ v → IsRingOf (back ++ front) (v ∷ (front ++ back))
ring_of v [] [] some closed = absurd (omega (arith, some))
ring_of v (u ∷ front) [] some closed =
    let end = ends_with u front in
    let last : last_or u front ≡ v = ap (λ (vs : List Vertex). last_or u vs) (sym (append-nil front)) ∙ closed in
    let all : u ∷ front ≡ end.0 ++ v ∷ [] = end.1 ∙ ap (λ (w : Vertex). end.0 ++ w ∷ []) last in
    record { before = end.0; start = v; after = []; vertices = all; closed = ap (λ (vs : List Vertex). v ∷ vs) (append-nil (u ∷ front) ∙ all) }
ring_of v front (u ∷ back) some closed =
    let end = ends_with u back in
    let last : last_or u back ≡ v = sym (last_behind v front u back) ∙ closed in
    let all : u ∷ back ≡ end.0 ++ v ∷ [] = end.1 ∙ ap (λ (w : Vertex). end.0 ++ w ∷ []) last in
    record {
      before = end.0;
      start = v;
      after = front;
      vertices = ap (λ (vs : List Vertex). vs ++ front) all ∙ append_assoc end.0 (v ∷ []) front;
      closed = ap (λ (vs : List Vertex). v ∷ (front ++ vs)) all;
    }

-- a side from its corner on
record Side (vs : List Vertex) (p q : Position) : Type 0 where
  corner : Vertex
  between : List Vertex
  joined : vs ≡ corner ∷ between
  first : position_of corner ≡ p
  straight : IsStraight p (map position_of between) q

side : (vs : List Vertex) (p q : Position) (ps : List Position) → IsSide p q ps → map position_of vs ≡ ps → Side vs p q
side vs p q ps (between, e, straight) f =
    let one = headed vs p between (f ∙ e) in
    record {
      corner = one.vertex;
      between = one.rest;
      joined = one.joined;
      first = one.first;
      straight = subst (λ (rs : List Position). IsStraight p rs q) (sym one.behind) straight;
    }

side_straight : (vs us : List Vertex) (p q r : Position) (x : Side vs p q) (y : Side us q r) → GoesStraight x.corner x.between y.corner
side_straight vs us p q r x y =
    let way = straight_at p q (map position_of x.between) x.corner y.corner x.between x.first refl y.first x.straight in
    goes_straight way.0 x.corner x.between y.corner way.1

rectangle_round : (s : Shape) (a b c d : Vertex) → IsRectangle (position_of a) (position_of b) (position_of c) (position_of d) s
    → (AreLevelFirst a b c d ⊎ AreUprightFirst a b c d) × AreOpposite s a c
rectangle_round s a b c d h =
    let ((round, dx, dy), spanned) = rectangle_corners (position_of a) (position_of b) (position_of c) (position_of d) s h in
    (elim round as (λ _. AreLevelFirst a b c d ⊎ AreUprightFirst a b c d) [ inl l ↦ inl l | inr l ↦ inr (l.3, l.0, l.1, l.2) ], opposite s a c spanned)

rectangle_at : (s : Shape) (p q r t : Position) (a b c d : Vertex) → position_of a ≡ p → position_of b ≡ q → position_of c ≡ r → position_of d ≡ t
    → IsRectangle p q r t s → IsRectangle (position_of a) (position_of b) (position_of c) (position_of d) s
rectangle_at s p q r t a b c d ea eb ec ed h =
    subst (λ (z : Position). IsRectangle z (position_of b) (position_of c) (position_of d) s) (sym ea)
    (subst (λ (z : Position). IsRectangle p z (position_of c) (position_of d) s) (sym eb)
    (subst (λ (z : Position). IsRectangle p q z (position_of d) s) (sym ec) (subst (λ (z : Position). IsRectangle p q r z s) (sym ed) h)))

two_dim : (s : Shape) → s.x.lo <ℤ s.x.hi → s.y.lo <ℤ s.y.hi → dim_of s ≡ 2
two_dim s wide high = plain s.x s.y wide high
  where
    plain : (m n : Span) → m.lo <ℤ m.hi → n.lo <ℤ n.hi → span_dim m + span_dim n ≡ 2
    plain m n h k = grind (arith, ints, h, k)

four_joined : (ab bc cd da xs ys zs us : List Vertex) → ab ≡ xs → bc ≡ ys → cd ≡ zs → da ≡ us → ab ++ (bc ++ (cd ++ da)) ≡ xs ++ (ys ++ (zs ++ us))
four_joined ab bc cd da xs ys zs us e f g h = rw (e, f, g, h) refl

around : (s : Shape) (vs : List Vertex) (ps : List Position) → AreSides ps s → map position_of vs ≡ ps → (ring : List Vertex) → IsRingOf vs ring → RunsAround s ring
around s vs ps r e ring of =
    let one = split vs r.ab (r.bc ++ (r.cd ++ r.da)) (e ∙ r.points) in
    let two = split one.back r.bc (r.cd ++ r.da) one.second in
    let three = split two.back r.cd r.da two.second in
    let ab = side one.front r.a r.b r.ab r.sides.0 one.first in
    let bc = side two.front r.b r.c r.bc r.sides.1 two.first in
    let cd = side three.front r.c r.d r.cd r.sides.2 three.first in
    let da = side three.back r.d r.a r.da r.sides.3 three.second in
    let round = rectangle_round s ab.corner bc.corner cd.corner da.corner
    (rectangle_at s r.a r.b r.c r.d ab.corner bc.corner cd.corner da.corner ab.first bc.first cd.first da.first r.rectangle) in
    let all : vs ≡ one.front ++ (two.front ++ (three.front ++ three.back)) =
    one.joined ∙ ap (λ (us : List Vertex). one.front ++ us) (two.joined ∙ ap (λ (us : List Vertex). two.front ++ us) three.joined) in
    record {
      a = ab.corner;
      b = bc.corner;
      c = cd.corner;
      d = da.corner;
      round = record { sides = round.0; end_x = refl; end_y = refl };
      corners = round.1;
      ab = ab.between;
      bc = bc.between;
      cd = cd.between;
      da = da.between;
      sides = (
        side_straight one.front two.front r.a r.b r.c ab bc,
        side_straight two.front three.front r.b r.c r.d bc cd,
        side_straight three.front three.back r.c r.d r.a cd da,
        side_straight three.back one.front r.d r.a r.b da ab,
      );
      vertices = subst (λ (us : List Vertex). IsRingOf us ring) (all ∙ four_joined _ _ _ _ _ _ _ _ ab.joined bc.joined cd.joined da.joined) of;
    }

some_side : (s : Shape) (vs : List Vertex) (ps : List Position) → AreSides ps s → map position_of vs ≡ ps → 0 < length vs
some_side s [] ps r e = let (between, f, straight) = r.sides.0 in let g : [] ≡ (r.a ∷ between) ++ (r.bc ++ (r.cd ++ r.da)) = e ∙ r.points ∙ ap (λ (qs : List Position). qs ++ (r.bc ++ (r.cd ++ r.da))) f in absurd cc
some_side s (v ∷ vs) ps r e = omega arith

ring_read : (s : Shape) (p : Position) (ps : List Position) (ring : List Vertex) → IsRing p ps s → map position_of ring ≡ p ∷ without_repeats_of p ps → IsClosed ring
    → HasPartsOf s (Areas (ring ∷ []))
ring_read s p ps ring r e closed =
    let cycle = without_repeats_of p ps in
    let one = headed ring p cycle e in
    let two = split one.rest (take r.start cycle) (drop r.start cycle) (one.behind ∙ sym (take-append-drop r.start cycle)) in
    let whole : ring ≡ one.vertex ∷ (two.front ++ two.back) = one.joined ∙ ap (λ (vs : List Vertex). one.vertex ∷ vs) two.joined in
    let turned : map position_of (two.back ++ two.front) ≡ rotated r.start cycle =
    map-append position_of two.back two.front ∙ ap₂ (λ (xs ys : List Position). xs ++ ys) two.second two.first in
    let some = some_side s (two.back ++ two.front) (rotated r.start cycle) r.round turned in
    let of = ring_of one.vertex two.front two.back (counted two.back two.front some) (subst IsClosed whole closed) in
    around_parts s ring (around s (two.back ++ two.front) (rotated r.start cycle) r.round turned ring (subst (IsRingOf (two.back ++ two.front)) (sym whole) of))
    (two_dim s r.round.rectangle.wide r.round.rectangle.high)
  where
    counted : (xs ys : List Vertex) → 0 < length (xs ++ ys) → 0 < length (ys ++ xs)
    counted xs ys h = omega (arith, h, length-append xs ys, length-append ys xs)

-- ---- texts

-- the only path of a geometry whose text has one list
record OnlyPath (paths : List (List Vertex)) (ps : List Position) : Type 0 where
  path : List Vertex
  all : paths ≡ path ∷ []
  points : map position_of path ≡ ps

only_path : (skips : Bool) (ps : List Position) (paths : List (List Vertex)) → positions_of paths ≡ filter (is_kept skips) (ps ∷ []) → 0 < length paths → OnlyPath paths ps
only_path skips ps [] e some = absurd (omega (arith, some))
only_path skips ps (path ∷ paths) e some =
    by_bool (skips && is_dot ps)
    (λ t. absurd (none (e ∙ filtered_out t)))
    (λ f. one paths (e ∙ kept_in f))
  where
    filtered_out : (skips && is_dot ps) ≡ true → filter (is_kept skips) (ps ∷ []) ≡ []
    filtered_out t = rw t refl

    kept_in : (skips && is_dot ps) ≡ false → filter (is_kept skips) (ps ∷ []) ≡ ps ∷ []
    kept_in t = rw t refl

    none : positions_of (path ∷ paths) ≡ [] → ⊥
    none h = cc

    one : (more : List (List Vertex)) → positions_of (path ∷ more) ≡ ps ∷ [] → OnlyPath (path ∷ more) ps
    one [] h = record { path = path; all = refl; points = ap (λ ls. get_or ls 0 ps) h }
    one (next ∷ more) h = absurd cc

forms_parts : (rings : Rings) (keyword : Keyword) (ps : List Position) (s : Shape) (g : Figure) → DrawsBox keyword ps s → Draws rings keyword (ps ∷ []) g → HasPartsOf s g
forms_parts rings Point (p ∷ []) s (Points vs) box any =
    let one = only_path (skips_dots rings Point) (p ∷ []) (vs ∷ []) any.paths (omega arith) in
    point_read s p vs box (ap (λ ls. map position_of (get_or ls 0 vs)) one.all ∙ one.points)
forms_parts rings Point [] s (Points vs) box any = elim box [ ]
forms_parts rings Point (p ∷ q ∷ ps) s (Points vs) box any = elim box [ ]
forms_parts rings Point ps s (Lines paths) box any = absurd (let k = any.kind in cc)
forms_parts rings Point ps s (Areas paths) box any = absurd (let k = any.kind in cc)
forms_parts rings LineString ps s (Points vs) box any = absurd (let k = any.kind in cc)
forms_parts rings LineString ps s (Lines paths) box any =
    let one = only_path (skips_dots rings LineString) (without_repeats ps) paths any.paths any.geometry.0 in
    subst (λ (qs : List (List Vertex)). HasPartsOf s (Lines qs)) (sym one.all) (line_read s ps one.path box one.points)
forms_parts rings LineString ps s (Areas paths) box any = absurd (let k = any.kind in cc)
forms_parts rings Polygon ps s (Points vs) box any = absurd (let k = any.kind in cc)
forms_parts rings Polygon ps s (Lines paths) box any = absurd (let k = any.kind in cc)
forms_parts rings Polygon [] s (Areas paths) box any = elim box [ ]
forms_parts rings Polygon (p ∷ ps) s (Areas paths) box any =
    let one = only_path (skips_dots rings Polygon) (without_repeats (p ∷ ps)) paths any.paths any.geometry.0 in
    subst (λ (qs : List (List Vertex)). HasPartsOf s (Areas qs)) (sym one.all)
    (ring_read s p ps one.path box one.points (All-head IsFigureRing one.path [] (subst (λ (qs : List (List Vertex)). All IsFigureRing qs) one.all any.geometry.1)).closed)

lists_parts : (rings : Rings) (keyword : Keyword) (lists : List (List Position)) (s : Shape) (g : Figure) → Forms keyword lists s → Draws rings keyword lists g → HasPartsOf s g
lists_parts rings keyword [] s g box any = elim box [ ]
lists_parts rings keyword (ps ∷ []) s g box any = forms_parts rings keyword ps s g box any
lists_parts rings keyword (ps ∷ qs ∷ lists) s g box any = elim box [ ]

pub text_parts : (scale : Scale) (rings : Rings) (text : List ℕ) (s : Shape) (g : Figure) → ReadsBoth scale rings text s g → HasPartsOf s g
text_parts scale rings text s g both =
    let box = both.shape in
    let any = both.geometry in
    let places : Option (List (List Position)) = Some (positions scale box.lists) in
    let said : SaysText scale text box.keyword places = record {
      heading = record { is_multi = false; keyword = box.keyword };
      lists = box.lists;
      raw = box.raw;
      kind = refl;
      placed = (box.good, refl);
    } in
    let same = says_one scale text box.keyword any.keyword places any.places (inl (inl said)) any.says in
    let reads = subst (λ (k : Keyword). ReadsAs rings k places (Ok g)) (sym same.0)
    (subst (λ (x : Option (List (List Position))). ReadsAs rings any.keyword x (Ok g)) (sym same.1) any.reads) in
    lists_parts rings box.keyword (positions scale box.lists) s g box.forms reads.0

pub text_matrix : (scale : Scale) (rings : Rings) (t u : List ℕ) (a b : Shape) (g h : Figure) (m : Matrix) → ReadsBoth scale rings t a g → ReadsBoth scale rings u b h
    → IsMatrix a b m → IsPlaneMatrix g h m
text_matrix scale rings t u a b g h m x y is = agreement a b g h m (text_parts scale rings t a g x) (text_parts scale rings u b h y) is
