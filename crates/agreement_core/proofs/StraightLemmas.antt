-- Vertices along a side change no part of a geometry, nor does the vertex at which a ring begins: so
-- geometries that are boxes have the parts of their shapes, and their matrix.
use Rattle.std.proofs.Common.{◌≡◌, ◌+◌, arith, refl, ap, ap₂, ◌∙◌, sym, inl, inr, List, [], ◌∷◌, ◌++◌, subst, cond}
use Rattle.std.specs.Prelude.{ℤ, ℕ, pos, ◌-ℤ◌, ◌<ℤ◌, int_lt, int_le, Bool, true, false, ◌&&◌, ◌||◌, if◌then◌else◌, count_by}
use Rattle.std.specs.Ordering.{int_eq}
use Rattle.std.specs.List.{list_any}
use Rattle.std.proofs.lemmas.Int.{ints}
use Rattle.std.proofs.lemmas.List.{append-nil, append_assoc}
use Rattle.std.proofs.lemmas.List.Folds.{list_any-append}
use Rattle.std.proofs.lemmas.List.Sums.{sum_by-cons, sum_by-append}
use Rattle.geom_core.specs.declared.shape.Shape.{Shape}
use Rattle.geom_core.specs.Cells.{line}
use Rattle.geom_core.specs.Shapes.{dim_of}
use Rattle.relation_core.specs.declared.matrix.Matrix.{Matrix}
use Rattle.relation_core.specs.Matrices.{IsMatrix}
use Rattle.plane_core.specs.declared.vertex.Vertex.{Vertex}
use Rattle.plane_core.specs.declared.edge.Edge.{Edge}
use Rattle.plane_core.specs.declared.part.Part.{Part}
use Rattle.plane_core.specs.declared.part.Part.TheVariants.{Interior, Boundary, Exterior}
use Rattle.plane_core.specs.Points.{Point, is_on, is_below, is_at}
use Rattle.plane_core.specs.Figures.{Figure, Points, Lines, Areas, edges, part_of, areas_part, is_odd, last_count, end_count}
use Rattle.plane_core.specs.PlaneMatrices.{IsPlaneMatrix}
use Rattle.agreement_core.specs.Agreement.{IsInCell, HasPartsOf}
use Rattle.agreement_core.specs.BoxFigures.{IsBetween, LiesWithin, GoesStraight, RunsAlong, IsRingOf, RunsAround, IsBoxFigure}
use Rattle.agreement_core.proofs.AgreementLemmas.{agreement}
use Rattle.agreement_core.proofs.BoxLemmas.{between_lines, from_line_to, level_on, upright_on, rightward_below, leftward_below, upright_below}
use Rattle.agreement_core.proofs.FigureLemmas.{moved_part}
use Rattle.agreement_core.proofs.CornerLemmas.{or_swap, point_parts, segment_has_parts, ring_has_parts}

abbrev edge : Vertex → Vertex → Edge
edge a b = record { a = a; b = b }

abbrev any_on : Point → List Edge → Bool
any_on p es = list_any (λ e. is_on e p) es

abbrev times_below : Point → List Edge → ℕ
times_below p es = count_by (λ e. is_below e p) es

-- as many of either list pass below the point, and some of both or of none through it
record LieAlike (p : Point) (es fs : List Edge) : Type 0 where
  on : any_on p es ≡ any_on p fs
  below : times_below p es ≡ times_below p fs

same_part : (p : Point) (es fs : List Edge) → LieAlike p es fs → areas_part es p ≡ areas_part fs p
same_part p es fs h =
    ap (λ (t : Bool). if t then Boundary else (if is_odd (times_below p es) then Interior else Exterior)) h.on
    ∙ ap (λ (n : ℕ). if any_on p fs then Boundary else (if is_odd n then Interior else Exterior)) h.below

below_joined : (p : Point) (es fs : List Edge) → times_below p (es ++ fs) ≡ times_below p es + times_below p fs
below_joined p es fs = sum_by-append (λ (e : Edge). cond {A = ℕ} (is_below e p) 1 0) es fs

on_joined : (p : Point) (es fs : List Edge) → any_on p (es ++ fs) ≡ (any_on p es || any_on p fs)
on_joined p es fs = list_any-append (λ (e : Edge). is_on e p) es fs

joined_alike : (p : Point) (es fs gs hs : List Edge) → LieAlike p es fs → LieAlike p gs hs → LieAlike p (es ++ gs) (fs ++ hs)
joined_alike p es fs gs hs h k = record {
  on = on_joined p es gs ∙ ap (λ (t : Bool). t || any_on p gs) h.on ∙ ap (λ (t : Bool). any_on p fs || t) k.on ∙ sym (on_joined p fs hs);
  below = below_joined p es gs ∙ ap (λ (n : ℕ). n + times_below p gs) h.below ∙ ap (λ (n : ℕ). times_below p fs + n) k.below ∙ sym (below_joined p fs hs);
}

exchanged : (m n : ℕ) → m + n ≡ n + m
exchanged m n = omega arith

exchanged_alike : (p : Point) (es fs : List Edge) → LieAlike p (es ++ fs) (fs ++ es)
exchanged_alike p es fs = record {
  on = on_joined p es fs ∙ or_swap (any_on p es) (any_on p fs) ∙ sym (on_joined p fs es);
  below = below_joined p es fs ∙ exchanged (times_below p es) (times_below p fs) ∙ sym (below_joined p fs es);
}

-- the edges of a path up to a vertex, and from there on
edges_split : (xs : List Vertex) (m : Vertex) (ys : List Vertex) → edges (xs ++ m ∷ ys) ≡ edges (xs ++ m ∷ []) ++ edges (m ∷ ys)
edges_split [] m ys = refl
edges_split (x ∷ []) m ys = refl
edges_split (x ∷ y ∷ xs) m ys = ap (λ (es : List Edge). edge x y ∷ es) (edges_split (y ∷ xs) m ys)

-- ---- a vertex within an edge along an axis

between_differ : (a z b : ℤ) → IsBetween a z b → (¬ (z -ℤ a ≡ pos 0)) × (¬ (b -ℤ z ≡ pos 0)) × (¬ (b -ℤ a ≡ pos 0))
between_differ a z b (inl h) = (λ e. omega (arith, ints, h, e), λ e. omega (arith, ints, h, e), λ e. omega (arith, ints, h, e))
between_differ a z b (inr h) = (λ e. omega (arith, ints, h, e), λ e. omega (arith, ints, h, e), λ e. omega (arith, ints, h, e))

lines_joined : (a z b u : ℤ) → IsBetween a z b → (between_lines a z u || between_lines z b u) ≡ between_lines a b u
lines_joined a z b u (inl h) = up (line a) (line z) (line b) u (omega (arith, ints, h)) (omega (arith, ints, h))
  where
    up : (a z b u : ℤ) → a <ℤ z → z <ℤ b
        → ((int_le a u && int_le u z || int_le z u && int_le u a) || (int_le z u && int_le u b || int_le b u && int_le u z))
        ≡ (int_le a u && int_le u b || int_le b u && int_le u a)
    up a z b u h k = grind (arith, ints, h, k)
lines_joined a z b u (inr h) = down (line a) (line z) (line b) u (omega (arith, ints, h)) (omega (arith, ints, h))
  where
    down : (a z b u : ℤ) → b <ℤ z → z <ℤ a
        → ((int_le a u && int_le u z || int_le z u && int_le u a) || (int_le z u && int_le u b || int_le b u && int_le u z))
        ≡ (int_le a u && int_le u b || int_le b u && int_le u a)
    down a z b u h k = grind (arith, ints, h, k)

on_one_line : (t r s : Bool) → (t && r || t && s) ≡ (t && (r || s))
on_one_line true r s = refl
on_one_line false r s = refl

within_on : (a v b : Vertex) (p : Point) (u w : ℤ) → IsInCell p u w → LiesWithin a v b → (is_on (edge a v) p || is_on (edge v b) p) ≡ is_on (edge a b) p
within_on a v b p u w cell (inl h) =
    let apart = between_differ a.x v.x b.x h.2 in
    ap (λ (t : Bool). t || is_on (edge v b) p) (level_on (edge a v) p u w cell h.0 apart.0)
    ∙ ap (λ (t : Bool). (int_eq w (line a.y) && between_lines a.x v.x u) || t)
    (level_on (edge v b) p u w cell h.1 apart.1 ∙ ap (λ (z : ℤ). int_eq w (line z) && between_lines v.x b.x u) (sym h.0))
    ∙ on_one_line (int_eq w (line a.y)) (between_lines a.x v.x u) (between_lines v.x b.x u)
    ∙ ap (λ (t : Bool). int_eq w (line a.y) && t) (lines_joined a.x v.x b.x u h.2)
    ∙ sym (level_on (edge a b) p u w cell (h.0 ∙ h.1) apart.2)
within_on a v b p u w cell (inr h) =
    let apart = between_differ a.y v.y b.y h.2 in
    ap (λ (t : Bool). t || is_on (edge v b) p) (upright_on (edge a v) p u w cell h.0 apart.0)
    ∙ ap (λ (t : Bool). (int_eq u (line a.x) && between_lines a.y v.y w) || t)
    (upright_on (edge v b) p u w cell h.1 apart.1 ∙ ap (λ (z : ℤ). int_eq u (line z) && between_lines v.y b.y w) (sym h.0))
    ∙ on_one_line (int_eq u (line a.x)) (between_lines a.y v.y w) (between_lines v.y b.y w)
    ∙ ap (λ (t : Bool). int_eq u (line a.x) && t) (lines_joined a.y v.y b.y w h.2)
    ∙ sym (upright_on (edge a b) p u w cell (h.0 ∙ h.1) apart.2)

-- what is above two parts of a segment
abbrev over : ℤ → ℤ → Bool → ℤ → ℕ
over a b t u = cond (from_line_to a b u && t) 1 0

over_joined : (a z b u : ℤ) (t : Bool) → a <ℤ z → z <ℤ b → over a z t u + over z b t u ≡ over a b t u
over_joined a z b u t h k = plain (line a) (line z) (line b) u t (omega (arith, ints, h)) (omega (arith, ints, k))
  where
    counted : (x y z : Bool) → (x && y) ≡ false → (x || y) ≡ z → cond x 1 0 + cond y 1 0 ≡ cond z 1 0
    counted true true z h k = absurd cc
    counted true false z h k = ap (λ (t : Bool). cond {A = ℕ} t 1 0) k
    counted false true z h k = ap (λ (t : Bool). cond {A = ℕ} t 1 0) k
    counted false false z h k = ap (λ (t : Bool). cond {A = ℕ} t 1 0) k

    plain : (a z b u : ℤ) (t : Bool) → a <ℤ z → z <ℤ b
        → cond ((int_le a u && int_lt u z) && t) 1 0 + cond ((int_le z u && int_lt u b) && t) 1 0 ≡ cond ((int_le a u && int_lt u b) && t) 1 0
    plain a z b u t h k =
        counted ((int_le a u && int_lt u z) && t) ((int_le z u && int_lt u b) && t) ((int_le a u && int_lt u b) && t)
        (grind (arith, ints, h, k)) (grind (arith, ints, h, k))

abbrev below_once : Edge → Point → ℕ
below_once e p = cond (is_below e p) 1 0

counted_once : (t s : Bool) → t ≡ s → cond {A = ℕ} t 1 0 ≡ cond s 1 0
counted_once t s h = ap (λ (r : Bool). cond {A = ℕ} r 1 0) h

within_below : (a v b : Vertex) (p : Point) (u w : ℤ) → IsInCell p u w → LiesWithin a v b
    → below_once (edge a v) p + below_once (edge v b) p ≡ below_once (edge a b) p
within_below a v b p u w cell (inl (h, k, inl l)) =
    let t : Bool = int_lt (line a.y) w in
    let first : below_once (edge a v) p ≡ over a.x v.x t u = counted_once _ _ (rightward_below (edge a v) p u w cell h l.0) in
    let second : below_once (edge v b) p ≡ over v.x b.x t u =
    counted_once _ _ (rightward_below (edge v b) p u w cell k l.1 ∙ ap (λ (z : ℤ). from_line_to v.x b.x u && int_lt (line z) w) (sym h)) in
    let whole : below_once (edge a b) p ≡ over a.x b.x t u = counted_once _ _ (rightward_below (edge a b) p u w cell (h ∙ k) (omega (arith, ints, l))) in
    ap₂ (λ (m n : ℕ). m + n) first second ∙ over_joined a.x v.x b.x u t l.0 l.1 ∙ sym whole
within_below a v b p u w cell (inl (h, k, inr l)) =
    let t : Bool = int_lt (line a.y) w in
    let first : below_once (edge a v) p ≡ over v.x a.x t u = counted_once _ _ (leftward_below (edge a v) p u w cell h l.1) in
    let second : below_once (edge v b) p ≡ over b.x v.x t u =
    counted_once _ _ (leftward_below (edge v b) p u w cell k l.0 ∙ ap (λ (z : ℤ). from_line_to b.x v.x u && int_lt (line z) w) (sym h)) in
    let whole : below_once (edge a b) p ≡ over b.x a.x t u = counted_once _ _ (leftward_below (edge a b) p u w cell (h ∙ k) (omega (arith, ints, l))) in
    ap₂ (λ (m n : ℕ). m + n) first second ∙ exchanged (over v.x a.x t u) (over b.x v.x t u) ∙ over_joined b.x v.x a.x u t l.0 l.1 ∙ sym whole
within_below a v b p u w cell (inr h) =
    let first : below_once (edge a v) p ≡ 0 = counted_once _ false (upright_below (edge a v) p u w cell h.0) in
    let second : below_once (edge v b) p ≡ 0 = counted_once _ false (upright_below (edge v b) p u w cell h.1) in
    let whole : below_once (edge a b) p ≡ 0 = counted_once _ false (upright_below (edge a b) p u w cell (h.0 ∙ h.1)) in
    ap₂ (λ (m n : ℕ). m + n) first second ∙ sym whole

-- ---- vertices along an edge

straight_alike : (a : Vertex) (vs : List Vertex) (b : Vertex) (p : Point) (u w : ℤ) → IsInCell p u w → GoesStraight a vs b
    → LieAlike p (edges (a ∷ vs ++ b ∷ [])) (edge a b ∷ [])
straight_alike a [] b p u w cell h = record { on = refl; below = refl }
straight_alike a (v ∷ vs) b p u w cell h =
    let rest = straight_alike v vs b p u w cell h.1 in
    let more = sum_by-cons (λ (e : Edge). cond {A = ℕ} (is_below e p) 1 0) (edge a v) (edges (v ∷ vs ++ b ∷ [])) in
    let once = within_below a v b p u w cell h.0 in
    record {
      on = ap (λ (t : Bool). is_on (edge a v) p || t) rest.on ∙ regroup (is_on (edge a v) p) (is_on (edge v b) p)
          ∙ ap (λ (t : Bool). t || false) (within_on a v b p u w cell h.0);
      below = more ∙ ap (λ (n : ℕ). below_once (edge a v) p + n) rest.below ∙ added (below_once (edge a v) p) (below_once (edge v b) p) (below_once (edge a b) p) once;
    }
  where
    regroup : (t s : Bool) → (t || (s || false)) ≡ ((t || s) || false)
    regroup true s = refl
    regroup false s = refl

    added : (m n k : ℕ) → m + n ≡ k → m + (0 + n) ≡ 0 + k
    added m n k h = omega (arith, h)

-- and after them the rest of a path
side_alike : (a : Vertex) (ab : List Vertex) (b : Vertex) (rest : List Vertex) (es : List Edge) (p : Point) (u w : ℤ) → IsInCell p u w
    → GoesStraight a ab b → LieAlike p (edges (b ∷ rest)) es → LieAlike p (edges (a ∷ ab ++ (b ∷ rest))) (edge a b ∷ es)
side_alike a ab b rest es p u w cell straight h =
    subst (λ (fs : List Edge). LieAlike p fs (edge a b ∷ es)) (sym (edges_split (a ∷ ab) b rest))
    (joined_alike p (edges (a ∷ ab ++ b ∷ [])) (edge a b ∷ []) (edges (b ∷ rest)) es (straight_alike a ab b p u w cell straight) h)

-- ---- lines

last_is : (a : Vertex) (vs : List Vertex) (b : Vertex) (p : Point) → last_count (a ∷ vs ++ b ∷ []) p ≡ cond (is_at b p) 1 0
last_is a [] b p = refl
last_is a (v ∷ vs) b p = last_is v vs b p

abbrev lines_by : ℕ → Bool → Part
lines_by n t = if is_odd n then Boundary else (if t then Interior else Exterior)

line_same : (a : Vertex) (vs : List Vertex) (b : Vertex) (p : Point) (u w : ℤ) → IsInCell p u w → GoesStraight a vs b
    → part_of (Lines ((a ∷ vs ++ b ∷ []) ∷ [])) p ≡ part_of (Lines ((a ∷ b ∷ []) ∷ [])) p
line_same a vs b p u w cell straight =
    ap (λ (es : List Edge). lines_by (0 + end_count p (a ∷ vs ++ b ∷ [])) (any_on p es)) (append-nil (edges (a ∷ vs ++ b ∷ [])))
    ∙ ap (λ (n : ℕ). lines_by (0 + (cond (is_at a p) 1 0 + n)) (any_on p (edges (a ∷ vs ++ b ∷ [])))) (last_is a vs b p)
    ∙ ap (λ (t : Bool). lines_by (0 + (cond (is_at a p) 1 0 + cond (is_at b p) 1 0)) t) (straight_alike a vs b p u w cell straight).on

pub line_parts : (s : Shape) (path : List Vertex) → RunsAlong s path → dim_of s ≡ 1 → HasPartsOf s (Lines (path ∷ []))
line_parts s path h one =
    subst (λ (vs : List Vertex). HasPartsOf s (Lines (vs ∷ []))) (sym h.vertices)
    (record {
      parts = λ p u w cell. moved_part s u w _ _ (line_same h.first h.between h.last p u w cell h.straight)
          ((segment_has_parts s h.first h.last h.ends one).parts p u w cell);
    })

-- ---- rings

abbrev closed : List Vertex → List Vertex
closed [] = []
closed (a ∷ rest) = a ∷ rest ++ a ∷ []

-- a ring has the same edges from any of its vertices
begun_alike : (before : List Vertex) (start : Vertex) (after : List Vertex) (p : Point)
    → LieAlike p (edges (start ∷ after ++ (before ++ start ∷ []))) (edges (closed (before ++ start ∷ after)))
begun_alike [] start after p = record { on = refl; below = refl }
begun_alike (a ∷ before) start after p =
    subst (λ (es : List Edge). LieAlike p es (edges (a ∷ (before ++ start ∷ after) ++ a ∷ []))) (sym (edges_split (start ∷ after) a (before ++ start ∷ [])))
    (subst (λ (es : List Edge). LieAlike p (edges (start ∷ after ++ a ∷ []) ++ edges (a ∷ before ++ start ∷ [])) es)
    (sym (ap (λ (vs : List Vertex). edges (a ∷ vs)) (append_assoc before (start ∷ after) (a ∷ [])) ∙ edges_split (a ∷ before) start (after ++ a ∷ [])))
    (exchanged_alike p (edges (start ∷ after ++ a ∷ [])) (edges (a ∷ before ++ start ∷ []))))

four_sides : (a b c d : Vertex) (ab bc cd da : List Vertex)
    → a ∷ (ab ++ (b ∷ bc ++ (c ∷ cd ++ (d ∷ da)))) ++ a ∷ [] ≡ a ∷ ab ++ (b ∷ bc ++ (c ∷ cd ++ (d ∷ da ++ a ∷ [])))
four_sides a b c d ab bc cd da = simp append_assoc

around_alike : (a b c d : Vertex) (ab bc cd da : List Vertex) (p : Point) (u w : ℤ) → IsInCell p u w
    → GoesStraight a ab b × GoesStraight b bc c × GoesStraight c cd d × GoesStraight d da a
    → LieAlike p (edges (closed (a ∷ ab ++ (b ∷ bc ++ (c ∷ cd ++ (d ∷ da)))))) (edges (a ∷ b ∷ c ∷ d ∷ a ∷ []))
around_alike a b c d ab bc cd da p u w cell h =
    subst (λ (vs : List Vertex). LieAlike p (edges vs) (edges (a ∷ b ∷ c ∷ d ∷ a ∷ []))) (sym (four_sides a b c d ab bc cd da))
    (side_alike a ab b (bc ++ (c ∷ cd ++ (d ∷ da ++ a ∷ []))) (edges (b ∷ c ∷ d ∷ a ∷ [])) p u w cell h.0
    (side_alike b bc c (cd ++ (d ∷ da ++ a ∷ [])) (edges (c ∷ d ∷ a ∷ [])) p u w cell h.1
    (side_alike c cd d (da ++ a ∷ []) (edges (d ∷ a ∷ [])) p u w cell h.2 (straight_alike d da a p u w cell h.3))))

ring_same : (a b c d : Vertex) (ab bc cd da ring : List Vertex) → GoesStraight a ab b × GoesStraight b bc c × GoesStraight c cd d × GoesStraight d da a
    → IsRingOf (a ∷ ab ++ (b ∷ bc ++ (c ∷ cd ++ (d ∷ da)))) ring → (p : Point) (u w : ℤ) → IsInCell p u w
    → part_of (Areas (ring ∷ [])) p ≡ part_of (Areas ((a ∷ b ∷ c ∷ d ∷ a ∷ []) ∷ [])) p
ring_same a b c d ab bc cd da ring straight round p u w cell =
    ap (λ (es : List Edge). areas_part es p) (append-nil (edges ring) ∙ ap edges round.closed)
    ∙ same_part p _ _ (begun_alike round.before round.start round.after p)
    ∙ ap (λ (vs : List Vertex). areas_part (edges (closed vs)) p) (sym round.vertices)
    ∙ same_part p _ _ (around_alike a b c d ab bc cd da p u w cell straight)

pub around_parts : (s : Shape) (ring : List Vertex) → RunsAround s ring → dim_of s ≡ 2 → HasPartsOf s (Areas (ring ∷ []))
around_parts s ring h two = record {
  parts = λ p u w cell. moved_part s u w _ _ (ring_same h.a h.b h.c h.d h.ab h.bc h.cd h.da ring h.sides h.vertices p u w cell)
      ((ring_has_parts s h.a h.b h.c h.d h.a h.round h.corners two).parts p u w cell);
}

-- ---- the law of agreement

pub has_parts : (s : Shape) (g : Figure) → IsBoxFigure s g → HasPartsOf s g
has_parts s (Points (a ∷ [])) h = point_parts s a h.0 h.1
has_parts s (Lines (path ∷ [])) h = line_parts s path h.0 h.1
has_parts s (Areas (ring ∷ [])) h = around_parts s ring h.0 h.1
has_parts s (Points []) h = elim h [ ]
has_parts s (Points (a ∷ (_ ∷ _))) h = elim h [ ]
has_parts s (Lines []) h = elim h [ ]
has_parts s (Lines (path ∷ (_ ∷ _))) h = elim h [ ]
has_parts s (Areas []) h = elim h [ ]
has_parts s (Areas (ring ∷ (_ ∷ _))) h = elim h [ ]

pub agreement_of_boxes : (a b : Shape) (g h : Figure) (m : Matrix) → IsBoxFigure a g → IsBoxFigure b h
    → IsMatrix a b m → IsPlaneMatrix g h m
agreement_of_boxes a b g h m x y is = agreement a b g h m (has_parts a g x) (has_parts b h y) is
