-- The outline of a geometry with its single points as edges, its box, and the nearest of its edges.
use Rattle.std.proofs.Common.{◌≡◌, ◌<◌, ◌≤◌, ◌+◌, ◌⊎◌, ℕ, arith, ap, ◌∙◌, ◌*◌, inl, inr, sym, true, false, refl, subst, List, [], ◌∷◌, ◌++◌, length, get_or, take, map, All}
use Rattle.std.specs.Prelude.{ℤ, pos, ◌-ℤ◌, ◌*ℤ◌, ◌≤ℤ◌, ◌<ℤ◌, int_le, Bool, ◌||◌, ◌&&◌, Option, Some, None}
use Rattle.std.specs.Ordering.{int_eq}
use Rattle.std.specs.List.{list_any, flat_map}
use Rattle.std.proofs.lemmas.Int.{ints}
use Rattle.std.proofs.lemmas.List.{map-append, take_more, take_all}
use Rattle.std.proofs.lemmas.List.Folds.{list_any-append}
use Rattle.geom_core.specs.declared.shape.Shape.{Shape}
use Rattle.geom_core.specs.Shapes.{x1, y1, x2, y2}
use Rattle.plane_core.specs.declared.edge.Edge.{Edge}
use Rattle.plane_core.specs.declared.vertex.Vertex.{Vertex}
use Rattle.plane_core.specs.declared.outline.Outline.{Outline}
use Rattle.plane_core.specs.declared.outline.Kind.{Kind}
use Rattle.plane_core.specs.declared.outline.Kind.TheVariants.{Points as Dots, Lines as Polylines, Areas as Rings}
use Rattle.plane_core.specs.Points.{Point, side, is_on, is_at, is_between}
use Rattle.plane_core.specs.Figures.{Figure, edges}
use Rattle.plane_core.specs.Figures.Figure.{Points, Lines, Areas}
use Rattle.plane_core.specs.Outlines.{IsOutlineOf, part_by}
use Rattle.plane_core.specs.Vertices as vertices
use Rattle.plane_core.specs.Vertices.{vertices_of}
use Rattle.plane_core.proofs.Ring.{monomials}
use Rattle.plane_core.proofs.Signs.{wide_z}
use Rattle.plane_core.proofs.ScaleLemmas.{no_less_scaled}
use Rattle.plane_core.proofs.CrossingLemmas.{along_x_of, along_y_of}
use Rattle.plane_core.proofs.OutlineLemmas.{outline_part-is}
use Rattle.edge_index_core.specs.Bounds.{IsBoxOf}
use Rattle.edge_index_core.proofs.BetweenLemmas.{scaled_in, IsIn, Up, Down}
use Rattle.noding_core.specs.Nodes.{IsAmong}
use Rattle.noding_core.proofs.AmongLemmas.{among_flat}
use Rattle.noding_core.proofs.NodeLemmas.{all_among}
use Rattle.noding_core.proofs.ReadOffLemmas.{among_each}
use Rattle.distance_core.specs.ShapePoints.{HasPoint}
use Rattle.distance_core.specs.Units.{units_of}
use Rattle.distance_core.specs.Distances.{scaled_square, scale_of, IsSquaredDistance}
use Rattle.distance_core.specs.declared.fraction.SquaredFraction.{SquaredFraction}
use Rattle.distance_core.specs.Fractions.{IsNoFarther, numerator_of}
use Rattle.distance_core.proofs.FarLemmas.{far_turned}
use Rattle.distance_core.proofs.LeastLemmas.{from_far, to_far}
use Rattle.distance_core.proofs.MeetingLemmas.{scaled_turned, scale_turned}
use Rattle.geometry_distance_core.specs.declared.nearest.Nearest.{Nearest}
use Rattle.geometry_distance_core.specs.NearestPairs.{IsFound, IsNearest, IsPast, AddsPairs, is_on_any, of_each, of_all}
use Rattle.geometry_distance_core.specs.Skeletons.{is_on_skeleton, IsOnSkeleton}
use Rattle.geometry_distance_core.specs.Measured.{IsSkeletonOf, ArePointEdges, IsMeasured, of_skeletons}
use Rattle.geometry_distance_core.proofs.PairLemmas.{or_left, or_right, by_or, nearest_as, adds_as, adds_both, adds_far, adds_none}
use Rattle.geometry_distance_core.proofs.BoxPointLemmas.{on_in_box, boxes_far}
use Rattle.geometry_distance_core.proofs.SearchLemmas.{and_left, and_right, and_both}
use Rattle.geometry_distance_core.proofs.SharedLemmas.{some_of}

-- ---- single points as edges

abbrev dot : Vertex → Edge
dot v = record { a = v; b = v }

-- a number between a number and itself
itself_between : (m z : ℤ) → (int_le m z && int_le z m || int_le m z && int_le z m) ≡ int_eq z m
itself_between m z = grind (arith, ints)

dot_side : (v : Vertex) (p : Point) → side (dot v) p ≡ pos 0
dot_side v p = plain v.x v.y (p.y -ℤ pos p.w *ℤ v.y) (p.x -ℤ pos p.w *ℤ v.x)
  where
    plain : (a b y x : ℤ) → (a -ℤ a) *ℤ y -ℤ (b -ℤ b) *ℤ x ≡ pos 0
    plain a b y x = simp monomials (omega (arith, ints))

dot_on : (v : Vertex) (p : Point) → is_on (dot v) p ≡ is_at v p
dot_on v p = plain (side (dot v) p) _ _ _ _ (dot_side v p) (itself_between (pos p.w *ℤ v.x) p.x) (itself_between (pos p.w *ℤ v.y) p.y)
  where
    plain : (z : ℤ) (t u a b : Bool) → z ≡ pos 0 → t ≡ a → u ≡ b → (int_eq z (pos 0) && t && u) ≡ (a && b)
    plain z t u a b h k l = rw (h, k, l) refl

dots_on : (vs : List Vertex) (p : Point) → is_on_any (map dot vs) p ≡ list_any (λ v. is_at v p) vs
dots_on [] p = refl
dots_on (v ∷ vs) p = ap (λ (t : Bool). t || is_on_any (map dot vs) p) (dot_on v p) ∙ ap (λ (t : Bool). is_at v p || t) (dots_on vs p)

pub more_dots : (vs : List Vertex) (i : ℕ) (v : Vertex) (old new : List Edge) → i < length vs → v ≡ get_or vs i v → ArePointEdges (take i vs) old → new ≡ old ++ dot v ∷ [] → ArePointEdges (take (i + 1) vs) new
more_dots vs i v old new lt at are pushed =
    pushed ∙ ap (λ (l : List Edge). l ++ dot v ∷ []) are ∙ sym (map-append dot (take i vs) (v ∷ []))
    ∙ ap (λ (l : List Vertex). map dot l) (sym (take_more vs i v lt ∙ ap (λ (y : Vertex). take i vs ++ y ∷ []) (sym at)))

pub all_dots : (vs : List Vertex) (i : ℕ) (es : List Edge) → length vs ≤ i → ArePointEdges (take i vs) es → ArePointEdges vs es
all_dots vs i es le are = subst (λ (l : List Vertex). ArePointEdges l es) (take_all i vs le) are

-- ---- the outline

or_false : (t : Bool) → (t || false) ≡ t
or_false true = refl
or_false false = refl

-- of polylines and rings
pub same_skeleton : (g : Figure) (o : Outline) → ¬ (o.kind ≡ Dots) → IsOutlineOf g o → IsSkeletonOf g o
same_skeleton (Points vs) o lines is = absurd (lines is.kind)
same_skeleton (Lines paths) o lines is = record {
  edges = λ p. ap (λ (es : List Edge). is_on_any es p) is.edges ∙ sym (or_false (is_on_any (flat_map edges paths) p));
  part = λ p. outline_part-is (Lines paths) o p is;
}
same_skeleton (Areas rings) o lines is = record {
  edges = λ p. ap (λ (es : List Edge). is_on_any es p) is.edges ∙ sym (or_false (is_on_any (flat_map edges rings) p));
  part = λ p. outline_part-is (Areas rings) o p is;
}

-- of single points
pub dots_skeleton : (g : Figure) (o r : Outline) → o.kind ≡ Dots → IsOutlineOf g o → r.kind ≡ Dots → ArePointEdges o.ends.items r.edges.items → r.ends.items ≡ o.ends.items → IsSkeletonOf g r
dots_skeleton (Points vs) o r dots is kind edges_are ends_are = record {
  edges = λ p. ap (λ (es : List Edge). is_on_any es p) (edges_are ∙ ap (λ (l : List Vertex). map dot l) is.ends) ∙ dots_on vs p;
  part = λ p. ap (λ (k : Kind). part_by k r.ends.items r.edges.items p) kind
      ∙ ap (λ (l : List Vertex). part_by Dots l r.edges.items p) (ends_are ∙ is.ends);
}
dots_skeleton (Lines paths) o r dots is kind edges_are ends_are = absurd (wrong (sym is.kind ∙ dots))
  where
    wrong : Polylines ≡ Dots → ⊥
    wrong h = cc
dots_skeleton (Areas rings) o r dots is kind edges_are ends_are = absurd (wrong (sym is.kind ∙ dots))
  where
    wrong : Rings ≡ Dots → ⊥
    wrong h = cc

-- ---- the box

edge_first : (path : List Vertex) (e : Edge) → IsAmong e (edges path) → IsAmong e.a path
edge_first [] e h = absurd h
edge_first (a ∷ []) e h = absurd h
edge_first (a ∷ b ∷ rest) e (inl is) = inl (ap (λ (x : Edge). x.a) is)
edge_first (a ∷ b ∷ rest) e (inr k) = inr (edge_first (b ∷ rest) e k)

edge_last : (path : List Vertex) (e : Edge) → IsAmong e (edges path) → IsAmong e.b path
edge_last [] e h = absurd h
edge_last (a ∷ []) e h = absurd h
edge_last (a ∷ b ∷ rest) e (inl is) = inr (inl (ap (λ (x : Edge). x.b) is))
edge_last (a ∷ b ∷ rest) e (inr k) = inr (edge_last (b ∷ rest) e k)

within_ends : (low high a b z : ℤ) (w : ℕ) → 0 < w → low ≤ℤ a → low ≤ℤ b → a ≤ℤ high → b ≤ℤ high → is_between a b w z ≡ true → ((pos w *ℤ low) ≤ℤ z) × (z ≤ℤ (pos w *ℤ high))
within_ends low high a b z w wide la lb ah bh h = by_in (scaled_in a b z w h)
  where
    up : pos 0 <ℤ pos w
    up = wide_z w wide

    trans : (k m n : ℤ) → k ≤ℤ m → m ≤ℤ n → k ≤ℤ n
    trans k m n h l = omega (arith, ints)

    by_in : IsIn (pos w *ℤ a) (pos w *ℤ b) z → ((pos w *ℤ low) ≤ℤ z) × (z ≤ℤ (pos w *ℤ high))
    by_in (Up from to) = (trans _ _ _ (no_less_scaled (pos w) low a up la) from, trans _ _ _ to (no_less_scaled (pos w) b high up bh))
    by_in (Down from to) = (trans _ _ _ (no_less_scaled (pos w) low b up lb) from, trans _ _ _ to (no_less_scaled (pos w) a high up ah))

module _ (s : Shape) (p : Point) (wide : 0 < p.w) where
  edge_held : (e : Edge) → vertices.HoldsVertex s e.a → vertices.HoldsVertex s e.b → is_on e p ≡ true → HasPoint s p
  edge_held e a b on = (
    within_ends (x1 s) (x2 s) e.a.x e.b.x p.x p.w wide a.left b.left a.right b.right (along_x_of e p on),
    within_ends (y1 s) (y2 s) e.a.y e.b.y p.y p.w wide a.low b.low a.high b.high (along_y_of e p on),
  )

  paths_held : (paths : List (List Vertex)) → All (vertices.HoldsVertex s) (flat_map (λ (path : List Vertex). path) paths) → is_on_any (flat_map edges paths) p ≡ true → HasPoint s p
  paths_held paths held on =
      let e = some_of (λ f. is_on f p) (flat_map edges paths) on in
      let one = among_each edges paths e.0 e.1 in
      edge_held e.0 (vertex (one.0) one.1 e.0.a (edge_first one.0 e.0 one.2)) (vertex one.0 one.1 e.0.b (edge_last one.0 e.0 one.2)) e.2
    where
      vertex : (path : List Vertex) → IsAmong path paths → (v : Vertex) → IsAmong v path → vertices.HoldsVertex s v
      vertex path k v l = all_among (vertices.HoldsVertex s) v (flat_map (λ (path : List Vertex). path) paths) held (among_flat (λ (path : List Vertex). path) path v paths k l)

  points_held : (vs : List Vertex) → All (vertices.HoldsVertex s) (flat_map (λ (path : List Vertex). path) (vs ∷ [])) → list_any (λ v. is_at v p) vs ≡ true → HasPoint s p
  points_held vs held on =
      let v = some_of (λ w. is_at w p) vs on in
      let in_ = all_among (vertices.HoldsVertex s) v.0 (flat_map (λ (path : List Vertex). path) (vs ∷ [])) held (among_flat (λ (path : List Vertex). path) vs v.0 (vs ∷ []) (inl refl) v.1) in
      edge_held (dot v.0) in_ in_ (dot_on v.0 p ∙ v.2)

pub skeleton_held : (g : Figure) (s : Shape) → All (vertices.HoldsVertex s) (vertices_of g) → (p : Point) → 0 < p.w → IsOnSkeleton g p → HasPoint s p
skeleton_held (Points vs) s held p wide on = points_held s p wide vs held on
skeleton_held (Lines paths) s held p wide on = paths_held s p wide paths held (sym (or_false (is_on_any (flat_map edges paths) p)) ∙ on)
skeleton_held (Areas rings) s held p wide on = paths_held s p wide rings held (sym (or_false (is_on_any (flat_map edges rings) p)) ∙ on)

-- ---- the edges of one geometry, one after another, and those of another

never : false ≡ true → ⊥
never h = cc

pub all_none : (fs : List Edge) (n : Nearest) → AddsPairs (of_all [] fs) n n
all_none fs n = adds_none n (of_all [] fs) (λ p q h. never (and_left false (is_on_any fs q) h))

pub all_more : (es fs : List Edge) (i : ℕ) (e : Edge) (a b c : Nearest) → i < length es → e ≡ get_or es i e → AddsPairs (of_all (take i es) fs) a b → AddsPairs (of_each e fs) b c
    → AddsPairs (of_all (take (i + 1) es) fs) a c
all_more es fs i e a b c lt at h more =
    subst (λ (l : List Edge). AddsPairs (of_all l fs) a c) (sym (take_more es i e lt ∙ ap (λ (y : Edge). take i es ++ y ∷ []) (sym at)))
    (adds_as (λ p q. of_all (take i es) fs p q || of_each e fs p q) (of_all (take i es ++ e ∷ []) fs) a c there back (adds_both (of_all (take i es) fs) (of_each e fs) a b c h more))
  where
    there : (p q : Point) → of_all (take i es ++ e ∷ []) fs p q ≡ true → (of_all (take i es) fs p q || of_each e fs p q) ≡ true
    there p q k = by_or (is_on_any (take i es) p) (is_on e p || false) (sym (list_any-append (λ f. is_on f p) (take i es) (e ∷ [])) ∙ and_left _ _ k)
        (λ on. or_left _ (of_each e fs p q) (and_both _ _ on (and_right (is_on_any (take i es ++ e ∷ []) p) _ k)))
        (λ on. or_right (of_all (take i es) fs p q) _ (and_both _ _ (sym (or_false (is_on e p)) ∙ on) (and_right (is_on_any (take i es ++ e ∷ []) p) _ k)))

    back : (p q : Point) → (of_all (take i es) fs p q || of_each e fs p q) ≡ true → of_all (take i es ++ e ∷ []) fs p q ≡ true
    back p q k = by_or (of_all (take i es) fs p q) (of_each e fs p q) k
        (λ on. and_both _ _ (list_any-append (λ f. is_on f p) (take i es) (e ∷ []) ∙ or_left _ (is_on e p || false) (and_left _ _ on)) (and_right (is_on_any (take i es) p) _ on))
        (λ on. and_both _ _ (list_any-append (λ f. is_on f p) (take i es) (e ∷ []) ∙ or_right (is_on_any (take i es) p) _ (or_false (is_on e p) ∙ and_left _ _ on)) (and_right (is_on e p) _ on))

pub all_all : (es fs : List Edge) (i : ℕ) (a b : Nearest) → length es ≤ i → AddsPairs (of_all (take i es) fs) a b → AddsPairs (of_all es fs) a b
all_all es fs i a b le h = subst (λ (l : List Edge). AddsPairs (of_all l fs) a b) (take_all i es le) h

-- an edge that is too far from the box of the other geometry
pub box_far : (h : Figure) (o : Outline) (t : Shape) (e : Edge) (s : Shape) (n : ℕ) (a : Nearest) → IsMeasured h o t → IsBoxOf e s → IsPast a n → IsSquaredDistance n (HasPoint s) (HasPoint t)
    → AddsPairs (of_each e o.edges.items) a a
box_far h o t e s n a is own past square = adds_far a (of_each e o.edges.items) (λ p q wide_p wide_q k.
    boxes_far a n s t p q wide_p wide_q past square (on_in_box e s p wide_p own (and_left _ _ k)) (is.box q wide_q (sym (is.skeleton.edges q) ∙ and_right (is_on e p) _ k)))

-- from no pairs to those of two geometries
pub from_none : (g h : Figure) (o r : Outline) (a b : Nearest) → IsSkeletonOf g o → IsSkeletonOf h r → a.square ≡ None → AddsPairs (of_all o.edges.items r.edges.items) a b → IsNearest b (of_skeletons g h)
from_none g h o r a b is_o is_r none is =
    nearest_as b (λ p q. false || of_all o.edges.items r.edges.items p q) (of_skeletons g h)
    (λ p q k. ap_and (sym (is_o.edges p)) (sym (is_r.edges q)) ∙ k)
    (λ p q k. ap_and (is_o.edges p) (is_r.edges q) ∙ k)
    (is.added (λ p q. false) (nothing a.square none))
  where
    ap_and : {t u v w : Bool} → t ≡ u → v ≡ w → (u && w) ≡ (t && v)
    ap_and {t} {u} {v} {w} h k = sym (ap (λ (x : Bool). x && v) h ∙ ap (λ (x : Bool). u && x) k)

    nothing : (found : Option SquaredFraction) → found ≡ None → IsFound (units_of a.distance) found (λ p q. false)
    nothing found is = subst (λ (f : Option SquaredFraction). IsFound (units_of a.distance) f (λ p q. false)) (sym is) (λ p q wide_p wide_q k near. never k)

-- the other way round
flipped_found : (g h : Figure) (units : ℕ) (found : Option SquaredFraction) → IsFound units found (of_skeletons h g) → IsFound units found (of_skeletons g h)
flipped_found g h units None is = λ p q wide_p wide_q one near.
    is q p wide_q wide_p (and_both _ _ (and_right (is_on_skeleton g p) _ one) (and_left _ _ one))
    (subst (λ (n : ℕ). n ≤ (units * units) * scale_of q p) (scaled_turned p q) (subst (λ (n : ℕ). scaled_square p q ≤ (units * units) * n) (scale_turned p q) near))
flipped_found g h units (Some square) is = (
  record {
    first = is.0.second;
    second = is.0.first;
    first_wide = is.0.second_wide;
    second_wide = is.0.first_wide;
    one = and_both _ _ (and_right (is_on_skeleton h is.0.first) _ is.0.one) (and_left _ _ is.0.one);
    near = turned_near (numerator_of square) square.denominator is.0.first is.0.second is.0.near;
    least = λ p q wide_p wide_q one. from_far _ _ p q (far_turned _ _ q p (to_far _ _ q p
        (is.0.least q p wide_q wide_p (and_both _ _ (and_right (is_on_skeleton g p) _ one) (and_left _ _ one)))));
  },
  is.1,
)
  where
    turned_near : (n d : ℕ) (p q : Point) → IsNoFarther n d p q → IsNoFarther n d q p
    turned_near n d p q h = subst (λ (m : ℕ). d * m ≤ n * scale_of q p) (scaled_turned p q) (subst (λ (m : ℕ). d * scaled_square p q ≤ n * m) (scale_turned p q) h)

pub flipped : (g h : Figure) (n : Nearest) → IsNearest n (of_skeletons h g) → IsNearest n (of_skeletons g h)
flipped g h n is = flipped_found g h (units_of n.distance) n.square is

pub not_dots : (kind : Kind) → (kind ≡ Polylines) ⊎ (kind ≡ Rings) → ¬ (kind ≡ Dots)
not_dots kind (inl lines) dots = wrong (sym lines ∙ dots)
  where
    wrong : Polylines ≡ Dots → ⊥
    wrong h = cc
not_dots kind (inr areas) dots = wrong (sym areas ∙ dots)
  where
    wrong : Rings ≡ Dots → ⊥
    wrong h = cc
