-- Two geometries of any two classes that lie far from each other.
use Rattle.std.proofs.Common.{◌≡◌, ◌<◌, ◌≤◌, ◌+◌, inl, inr, refl, sym, subst, ap, ◌∙◌, arith, cond, true, false, List, [], ◌∷◌}
use Rattle.std.specs.Prelude.{ℤ, ℕ, pos, ◌*ℤ◌, ◌+ℤ◌, ◌-ℤ◌, ◌≤ℤ◌, Bool, ◌&&◌, ◌||◌, count_by, sum_by, All, if◌then◌else◌}
use Rattle.std.proofs.lemmas.Int.{ints}
use Rattle.std.proofs.lemmas.List.Sums.{sum_by-cons}
use Rattle.std.proofs.lemmas.List.Elements.{All-nil, All-cons}
use Rattle.std.proofs.lemmas.List.Kept.{AllPairs-cons}
use Rattle.std.specs.Ordering.{int_eq}
use Rattle.geom_core.specs.declared.span.Span.{Span}
use Rattle.geom_core.specs.declared.shape.Shape.{Shape}
use Rattle.geom_core.specs.Limits.{IsCoordinate}
use Rattle.plane_core.specs.declared.vertex.Vertex.{Vertex}
use Rattle.plane_core.specs.declared.edge.Edge.{Edge}
use Rattle.plane_core.specs.declared.part.Part.TheVariants.{Interior, Boundary, Exterior}
use Rattle.plane_core.specs.Points.{Point, at, is_at, is_below, is_on}
use Rattle.plane_core.specs.Figures.{Figure, HasLength, IsPath, IsRing, IsGeometry, edges, edges_of, points_of, is_odd, end_count}
use Rattle.plane_core.specs.Figures.Figure.{Points as Dots, Lines as Polylines, Areas as Regions}
use Rattle.plane_core.specs.PlaneMatrices.{SharePoint}
use Rattle.plane_core.specs.ProperRings.{IsShared, MeetProperly, AreProper, HasProperRings, is_end}
use Rattle.plane_core.proofs.Ring.{monomials}
use Rattle.plane_core.proofs.AvoidLemmas.{same_place_trans}
use Rattle.noding_core.specs.Nodes.{IsAmong}
use Rattle.noding_core.proofs.BoxLemmas.{HoldsVertex, HoldsAll, part_in_box}
use Rattle.noding_core.proofs.FlipLemmas.{is_at-itself, is_below-flip}
use Rattle.any_relation_core.specs.declared.class.Class.{Class}
use Rattle.any_relation_core.specs.declared.class.Class.TheVariants.{Points, OpenLines, ClosedLines, Areas, HollowAreas}
use Rattle.plane_core.specs.declared.rings.Rings.TheVariants.{Proper}
use Rattle.any_relation_core.specs.PlaneRelations.{AreDisjoint}
use Rattle.any_relation_core.proofs.DisjointLemmas.{IsTaken}
use Rattle.any_relation_core.proofs.ProperLemmas.{on_side}
use Rattle.any_relation_core.proofs.PartLemmas.{IsInPart, at_place, not_at, ends_apart}
use Rattle.any_relation_core.proofs.ExtentLemmas.{IsOfClass, points_class, open_class, closed_class, areas_class, hollow_class}

abbrev edge : Vertex → Vertex → Edge
edge a b = record { a = a; b = b }

-- three corners in a box, whose triangle has an interior
record IsTriangle (s : Shape) (a b c : Vertex) : Type 0 where
  ab : HasLength (edge a b)
  ba : HasLength (edge b a)
  bc : HasLength (edge b c)
  ca : HasLength (edge c a)
  in_a : HoldsVertex s a
  in_b : HoldsVertex s b
  in_c : HoldsVertex s c
  inside : SharePoint (IsInPart (Regions ((a ∷ b ∷ c ∷ a ∷ []) ∷ [])) Interior)
  proper : AreProper (edge a b ∷ edge b c ∷ edge c a ∷ [])

-- a geometry of each class with these corners
abbrev sample : Vertex → Vertex → Vertex → Class → Figure
sample a b c Points = Dots (a ∷ [])
sample a b c OpenLines = Polylines ((a ∷ b ∷ []) ∷ [])
sample a b c ClosedLines = Polylines ((a ∷ b ∷ c ∷ a ∷ []) ∷ [])
sample a b c Areas = Regions ((a ∷ b ∷ c ∷ a ∷ []) ∷ [])
sample a b c HollowAreas = Regions ((a ∷ b ∷ a ∷ []) ∷ [])

only : {X : Type 0} (P : X → Type 0) (x : X) → P x → All P (x ∷ [])
only P x h = All-cons P x [] h (All-nil P)

-- one polyline: how often its ends are a point
one_path : (p : Point) (path : List Vertex) → sum_by (end_count p) (path ∷ []) ≡ end_count p path
one_path p path = sum_by-cons (end_count p) path [] ∙ none (end_count p path)
  where
    none : (n : ℕ) → n + 0 ≡ n
    none n = omega arith

twice_even : (t : Bool) → is_odd (cond t 1 0 + cond t 1 0) ≡ false
twice_even true = refl
twice_even false = refl

two_below : (t : Bool) → is_odd (cond t 1 0 + (cond t 1 0 + 0)) ≡ false
two_below true = refl
two_below false = refl

module _ (s : Shape) (a b c : Vertex) (is : IsTriangle s a b c) where
  two_edges : All HasLength (edges (a ∷ b ∷ a ∷ []))
  two_edges = All-cons HasLength (edge a b) (edge b a ∷ []) is.ab (only HasLength (edge b a) is.ba)

  three_edges : All HasLength (edges (a ∷ b ∷ c ∷ a ∷ []))
  three_edges = All-cons HasLength (edge a b) (edge b c ∷ edge c a ∷ []) is.ab (All-cons HasLength (edge b c) (edge c a ∷ []) is.bc (only HasLength (edge c a) is.ca))

  open_path : IsPath (a ∷ b ∷ [])
  open_path = record { long = omega arith; steps = only HasLength (edge a b) is.ab }

  round_path : IsPath (a ∷ b ∷ c ∷ a ∷ [])
  round_path = record { long = omega arith; steps = three_edges }

  flat_path : IsPath (a ∷ b ∷ a ∷ [])
  flat_path = record { long = omega arith; steps = two_edges }

  sample_good : (k : Class) → IsGeometry (sample a b c k)
  sample_good Points = omega arith
  sample_good OpenLines = (omega arith, only IsPath _ open_path)
  sample_good ClosedLines = (omega arith, only IsPath _ round_path)
  sample_good Areas = (omega arith, only IsRing _ (record { path = round_path; closed = refl }))
  sample_good HollowAreas = (omega arith, only IsRing _ (record { path = flat_path; closed = refl }))

  sample_proper : (k : Class) → IsTaken Proper k → HasProperRings (sample a b c k)
  sample_proper Points taken = tt
  sample_proper OpenLines taken = tt
  sample_proper ClosedLines taken = tt
  sample_proper Areas taken = is.proper
  sample_proper HollowAreas taken = absurd taken

  open_end : SharePoint (IsInPart (Polylines ((a ∷ b ∷ []) ∷ [])) Boundary)
  open_end = (at a, omega arith, plain _ _ (ap is_odd (one_path (at a) (a ∷ b ∷ [])) ∙ one _ _ (is_at-itself a) (not_at b (at a) (ends_apart (edge a b) is.ab))))
    where
      one : (t u : Bool) → t ≡ true → u ≡ false → is_odd (cond t 1 0 + cond u 1 0) ≡ true
      one t u h k = rw (h, k) refl

      plain : (odd on : Bool) → odd ≡ true → (if odd then Boundary else (if on then Interior else Exterior)) ≡ Boundary
      plain odd on h = rw h refl

  closed_end : ¬ (SharePoint (IsInPart (Polylines ((a ∷ b ∷ c ∷ a ∷ []) ∷ [])) Boundary))
  closed_end (p, wide, in_) = plain _ _ (ap is_odd (one_path p (a ∷ b ∷ c ∷ a ∷ [])) ∙ twice_even (is_at a p)) in_
    where
      plain : (odd on : Bool) → odd ≡ false → (if odd then Boundary else (if on then Interior else Exterior)) ≡ Boundary → ⊥
      plain true on h k = absurd cc
      plain false true h k = absurd cc
      plain false false h k = absurd cc

  below_twice : (p : Point) → is_odd (count_by (λ e. is_below e p) (edges (a ∷ b ∷ a ∷ []))) ≡ false
  below_twice p =
      ap is_odd (sum_by-cons test (edge a b) (edge b a ∷ []) ∙ ap (λ (n : ℕ). test (edge a b) + n) (sum_by-cons test (edge b a) []))
      ∙ ap (λ (t : Bool). is_odd (cond (is_below (edge a b) p) 1 0 + (cond t 1 0 + 0))) (is_below-flip (edge a b) p)
      ∙ two_below (is_below (edge a b) p)
    where
      test : Edge → ℕ
      test e = cond (is_below e p) 1 0

  hollow : ¬ (SharePoint (IsInPart (Regions ((a ∷ b ∷ a ∷ []) ∷ [])) Interior))
  hollow (p, wide, in_) = plain _ _ (below_twice p) in_
    where
      plain : (on odd : Bool) → odd ≡ false → (if on then Boundary else (if odd then Interior else Exterior)) ≡ Interior → ⊥
      plain true odd h k = absurd cc
      plain false true h k = absurd cc
      plain false false h k = absurd cc

  sample_class : (k : Class) → IsOfClass (sample a b c k) k
  sample_class Points = points_class (a ∷ []) (sample_good Points)
  sample_class OpenLines = open_class ((a ∷ b ∷ []) ∷ []) (sample_good OpenLines) open_end
  sample_class ClosedLines = closed_class ((a ∷ b ∷ c ∷ a ∷ []) ∷ []) (sample_good ClosedLines) closed_end
  sample_class Areas = areas_class ((a ∷ b ∷ c ∷ a ∷ []) ∷ []) (sample_good Areas) is.inside
  sample_class HollowAreas = hollow_class ((a ∷ b ∷ a ∷ []) ∷ []) (sample_good HollowAreas) hollow

  -- ---- all in the box

  held : (P : Vertex → Type 0) → P a → P b → P c → (k : Class) → ((e : Edge) → IsAmong e (edges_of (sample a b c k)) → P e.a × P e.b) × ((v : Vertex) → IsAmong v (points_of (sample a b c k)) → P v)
  held P in_a in_b in_c k = (by_edge k, by_point k)
    where
      from_ : (e f : Edge) → e ≡ f → P f.a → P f.b → P e.a × P e.b
      from_ e f same h l = subst (λ (x : Edge). P x.a × P x.b) (sym same) (h, l)

      by_edge : (k : Class) (e : Edge) → IsAmong e (edges_of (sample a b c k)) → P e.a × P e.b
      by_edge Points e h = absurd h
      by_edge OpenLines e (inl h) = from_ e _ h in_a in_b
      by_edge OpenLines e (inr h) = absurd h
      by_edge ClosedLines e (inl h) = from_ e _ h in_a in_b
      by_edge ClosedLines e (inr (inl h)) = from_ e _ h in_b in_c
      by_edge ClosedLines e (inr (inr (inl h))) = from_ e _ h in_c in_a
      by_edge ClosedLines e (inr (inr (inr h))) = absurd h
      by_edge Areas e (inl h) = from_ e _ h in_a in_b
      by_edge Areas e (inr (inl h)) = from_ e _ h in_b in_c
      by_edge Areas e (inr (inr (inl h))) = from_ e _ h in_c in_a
      by_edge Areas e (inr (inr (inr h))) = absurd h
      by_edge HollowAreas e (inl h) = from_ e _ h in_a in_b
      by_edge HollowAreas e (inr (inl h)) = from_ e _ h in_b in_a
      by_edge HollowAreas e (inr (inr h)) = absurd h

      by_point : (k : Class) (v : Vertex) → IsAmong v (points_of (sample a b c k)) → P v
      by_point Points v (inl h) = subst P (sym h) in_a
      by_point Points v (inr h) = absurd h
      by_point OpenLines v h = absurd h
      by_point ClosedLines v h = absurd h
      by_point Areas v h = absurd h
      by_point HollowAreas v h = absurd h

  sample_held : (k : Class) → HoldsAll s (sample a b c k)
  sample_held k =
      let all = held (HoldsVertex s) is.in_a is.in_b is.in_c k in
      record { firsts = λ e h. (all.0 e h).0; lasts = λ e h. (all.0 e h).1; points = all.1 }

-- ---- two boxes, and triangles in them

from_span : (from : ℕ) → from ≤ 10 → Span
from_span from h = record { lo = pos from; hi = pos (from + 4); ordered = omega (arith, ints); above = omega (arith, ints); below = omega (arith, ints) }

abbrev box : (from : ℕ) → from ≤ 10 → Shape
box from h = record { x = from_span from h; y = from_span 0 (omega arith) }

abbrev corner : (x y : ℕ) → x ≤ 14 → y ≤ 4 → Vertex
corner x y h k = record { x = pos x; y = pos y; x_in_range = coordinate x (omega arith); y_in_range = coordinate y (omega arith) }
  where
    coordinate : (n : ℕ) → n ≤ 14 → IsCoordinate (pos n)
    coordinate n h = (omega (arith, ints), omega (arith, ints))

-- edges that share just one vertex
meet_at : (e f : Edge) (v : Vertex) → ((p : Point) → IsShared e f p → is_at v p ≡ true) → ((p : Point) → is_at v p ≡ true → is_end e p ≡ true) → MeetProperly e f
meet_at e f v there end = record {
  one_place = λ p q h k. same_place_trans p q (at v) (omega arith) (at_place v p (there p h)) (at_place v q (there q k));
  at_end = λ p h. either (is_end e p) (is_end f p) (end p (there p h));
}
  where
    either : (t u : Bool) → t ≡ true → (t || u) ≡ true
    either t u h = rw h refl

ends_first : (t u : Bool) → t ≡ true → (t || u) ≡ true
ends_first t u h = rw h refl

ends_last : (t u : Bool) → u ≡ true → (t || u) ≡ true
ends_last true u h = refl
ends_last false u h = h

-- over plain numbers: the lines of the three sides, and the corners where two of them meet
base_line : (m n x y w : ℤ) → n ≡ m +ℤ pos 4 → (n -ℤ m) *ℤ (y -ℤ w *ℤ pos 0) -ℤ (pos 0 -ℤ pos 0) *ℤ (x -ℤ w *ℤ m) ≡ pos 0 → y ≡ w *ℤ pos 0
base_line m n x y w e h =
    let f : ((m +ℤ pos 4) -ℤ m) *ℤ (y -ℤ w *ℤ pos 0) -ℤ (pos 0 -ℤ pos 0) *ℤ (x -ℤ w *ℤ m) ≡ pos 0 = rw e at h in
    let g : ((m +ℤ pos 4) -ℤ m) *ℤ (y -ℤ w *ℤ pos 0) -ℤ (pos 0 -ℤ pos 0) *ℤ (x -ℤ w *ℤ m) ≡ pos 4 *ℤ y = simp monomials (omega (arith, ints)) in
    quarter y (w *ℤ pos 0) (omega (arith, ints)) (sym g ∙ f)
  where
    quarter : (y z : ℤ) → z ≡ pos 0 → pos 4 *ℤ y ≡ pos 0 → y ≡ z
    quarter y z e h = omega (arith, ints)

slant_line : (m n x y w : ℤ) → n ≡ m +ℤ pos 4 → (m -ℤ n) *ℤ (y -ℤ w *ℤ pos 0) -ℤ (pos 4 -ℤ pos 0) *ℤ (x -ℤ w *ℤ n) ≡ pos 0 → x +ℤ y ≡ w *ℤ n
slant_line m n x y w e h =
    let f : (m -ℤ (m +ℤ pos 4)) *ℤ (y -ℤ w *ℤ pos 0) -ℤ (pos 4 -ℤ pos 0) *ℤ (x -ℤ w *ℤ (m +ℤ pos 4)) ≡ pos 0 = rw e at h in
    let g : (m -ℤ (m +ℤ pos 4)) *ℤ (y -ℤ w *ℤ pos 0) -ℤ (pos 4 -ℤ pos 0) *ℤ (x -ℤ w *ℤ (m +ℤ pos 4)) ≡ pos 4 *ℤ (w *ℤ (m +ℤ pos 4) -ℤ (x +ℤ y)) = simp monomials (omega (arith, ints)) in
    rw e (quarter (x +ℤ y) (w *ℤ (m +ℤ pos 4)) (sym g ∙ f))
  where
    quarter : (u v : ℤ) → pos 4 *ℤ (v -ℤ u) ≡ pos 0 → u ≡ v
    quarter u v h = omega (arith, ints)

upright_line : (m x y w : ℤ) → (m -ℤ m) *ℤ (y -ℤ w *ℤ pos 4) -ℤ (pos 0 -ℤ pos 4) *ℤ (x -ℤ w *ℤ m) ≡ pos 0 → x ≡ w *ℤ m
upright_line m x y w h =
    let g : (m -ℤ m) *ℤ (y -ℤ w *ℤ pos 4) -ℤ (pos 0 -ℤ pos 4) *ℤ (x -ℤ w *ℤ m) ≡ pos 4 *ℤ (x -ℤ w *ℤ m) = simp monomials (omega (arith, ints)) in
    quarter x (w *ℤ m) (sym g ∙ h)
  where
    quarter : (u v : ℤ) → pos 4 *ℤ (u -ℤ v) ≡ pos 0 → u ≡ v
    quarter u v h = omega (arith, ints)

corner_at : (x y u v : ℤ) → x ≡ u → y ≡ v → (int_eq x u && int_eq y v) ≡ true
corner_at x y u v h k = grind (arith, ints)

last_corner : (x y w n : ℤ) → y ≡ w *ℤ pos 0 → x +ℤ y ≡ w *ℤ n → x ≡ w *ℤ n
last_corner x y w n h k = plain x y (w *ℤ pos 0) (w *ℤ n) h k (omega (arith, ints))
  where
    plain : (x y z v : ℤ) → y ≡ z → x +ℤ y ≡ v → z ≡ pos 0 → x ≡ v
    plain x y z v h k l = omega (arith, ints)

top_corner : (x y w m n : ℤ) → n ≡ m +ℤ pos 4 → x ≡ w *ℤ m → x +ℤ y ≡ w *ℤ n → y ≡ w *ℤ pos 4
top_corner x y w m n e h k =
    let f : x +ℤ y ≡ w *ℤ (m +ℤ pos 4) = rw e at k in
    let g : w *ℤ (m +ℤ pos 4) ≡ w *ℤ m +ℤ w *ℤ pos 4 = simp monomials (omega (arith, ints)) in
    plain x y (w *ℤ m) (w *ℤ pos 4) h (f ∙ g)
  where
    plain : (x y u v : ℤ) → x ≡ u → x +ℤ y ≡ u +ℤ v → y ≡ v
    plain x y u v h k = omega (arith, ints)

module _ (from : ℕ) (h : from ≤ 10) where
  abbrev first : Vertex
  first = corner from 0 (omega arith) (omega arith)

  abbrev second : Vertex
  second = corner (from + 4) 0 (omega arith) (omega arith)

  abbrev third : Vertex
  third = corner from 4 (omega arith) (omega arith)

  triangle : SharePoint (IsInPart (Regions ((first ∷ second ∷ third ∷ first ∷ []) ∷ [])) Interior) → IsTriangle (box from h) first second third
  unfolding from_span
  triangle inside = record {
    ab = λ same. far from same.0;
    ba = λ same. near from same.0;
    bc = λ same. near from same.0;
    ca = λ same. high same.1;
    in_a = record { left = omega (arith, ints); right = omega (arith, ints); low = omega (arith, ints); high = omega (arith, ints) };
    in_b = record { left = omega (arith, ints); right = omega (arith, ints); low = omega (arith, ints); high = omega (arith, ints) };
    in_c = record { left = omega (arith, ints); right = omega (arith, ints); low = omega (arith, ints); high = omega (arith, ints) };
    inside = inside;
    proper = AllPairs-cons MeetProperly (edge first second) (edge second third ∷ edge third first ∷ [])
        (All-cons (MeetProperly (edge first second)) (edge second third) (edge third first ∷ []) at_second (only (MeetProperly (edge first second)) (edge third first) at_first))
        (AllPairs-cons MeetProperly (edge second third) (edge third first ∷ []) (only (MeetProperly (edge second third)) (edge third first) at_third)
        (AllPairs-cons MeetProperly (edge third first) [] (All-nil (MeetProperly (edge third first))) (λ i j d less within. absurd (omega arith))));
  }
    where
      length_is : pos (from + 4) ≡ pos from +ℤ pos 4
      length_is = omega (arith, ints)

      base : (p : Point) → is_on (edge first second) p ≡ true → p.y ≡ pos p.w *ℤ pos 0
      base p on = base_line (pos from) (pos (from + 4)) p.x p.y (pos p.w) length_is (on_side (edge first second) p on)

      slant : (p : Point) → is_on (edge second third) p ≡ true → p.x +ℤ p.y ≡ pos p.w *ℤ pos (from + 4)
      slant p on = slant_line (pos from) (pos (from + 4)) p.x p.y (pos p.w) length_is (on_side (edge second third) p on)

      upright : (p : Point) → is_on (edge third first) p ≡ true → p.x ≡ pos p.w *ℤ pos from
      upright p on = upright_line (pos from) p.x p.y (pos p.w) (on_side (edge third first) p on)

      at_second : MeetProperly (edge first second) (edge second third)
      at_second = meet_at (edge first second) (edge second third) second
          (λ p h. corner_at p.x p.y _ _ (last_corner p.x p.y (pos p.w) (pos (from + 4)) (base p h.first) (slant p h.second)) (base p h.first))
          (λ p h. ends_last (is_at first p) (is_at second p) h)

      at_first : MeetProperly (edge first second) (edge third first)
      at_first = meet_at (edge first second) (edge third first) first
          (λ p h. corner_at p.x p.y _ _ (upright p h.second) (base p h.first))
          (λ p h. ends_first (is_at first p) (is_at second p) h)

      at_third : MeetProperly (edge second third) (edge third first)
      at_third = meet_at (edge second third) (edge third first) third
          (λ p h. corner_at p.x p.y _ _ (upright p h.second) (top_corner p.x p.y (pos p.w) (pos from) (pos (from + 4)) length_is (upright p h.second) (slant p h.first)))
          (λ p h. ends_last (is_at second p) (is_at third p) h)

      far : (n : ℕ) → pos n ≡ pos (n + 4) → ⊥
      far n e = omega (arith, ints)

      near : (n : ℕ) → pos (n + 4) ≡ pos n → ⊥
      near n e = omega (arith, ints)

      high : pos 4 ≡ pos 0 → ⊥
      high e = omega (arith, ints)

left_inside : SharePoint (IsInPart (Regions ((first 0 (omega arith) ∷ second 0 (omega arith) ∷ third 0 (omega arith) ∷ first 0 (omega arith) ∷ []) ∷ [])) Interior)
left_inside = (record { x = pos 1; y = pos 1; w = 1 }, omega arith, refl)

right_inside : SharePoint (IsInPart (Regions ((first 10 (omega arith) ∷ second 10 (omega arith) ∷ third 10 (omega arith) ∷ first 10 (omega arith) ∷ []) ∷ [])) Interior)
right_inside = (record { x = pos 11; y = pos 1; w = 1 }, omega arith, refl)

left_triangle : IsTriangle (box 0 (omega arith)) (first 0 (omega arith)) (second 0 (omega arith)) (third 0 (omega arith))
left_triangle = triangle 0 (omega arith) left_inside

right_triangle : IsTriangle (box 10 (omega arith)) (first 10 (omega arith)) (second 10 (omega arith)) (third 10 (omega arith))
right_triangle = triangle 10 (omega arith) right_inside

pub left_sample : Class → Figure
left_sample = sample (first 0 (omega arith)) (second 0 (omega arith)) (third 0 (omega arith))

pub right_sample : Class → Figure
right_sample = sample (first 10 (omega arith)) (second 10 (omega arith)) (third 10 (omega arith))

pub left_good : (k : Class) → IsGeometry (left_sample k)
unfolding left_sample
left_good k = sample_good (box 0 (omega arith)) (first 0 (omega arith)) (second 0 (omega arith)) (third 0 (omega arith)) left_triangle k

pub right_good : (k : Class) → IsGeometry (right_sample k)
unfolding right_sample
right_good k = sample_good (box 10 (omega arith)) (first 10 (omega arith)) (second 10 (omega arith)) (third 10 (omega arith)) right_triangle k

pub left_proper : (k : Class) → IsTaken Proper k → HasProperRings (left_sample k)
unfolding left_sample
left_proper k taken = sample_proper (box 0 (omega arith)) (first 0 (omega arith)) (second 0 (omega arith)) (third 0 (omega arith)) left_triangle k taken

pub right_proper : (k : Class) → IsTaken Proper k → HasProperRings (right_sample k)
unfolding right_sample
right_proper k taken = sample_proper (box 10 (omega arith)) (first 10 (omega arith)) (second 10 (omega arith)) (third 10 (omega arith)) right_triangle k taken

pub left_class : (k : Class) → IsOfClass (left_sample k) k
unfolding left_sample
left_class k = sample_class (box 0 (omega arith)) (first 0 (omega arith)) (second 0 (omega arith)) (third 0 (omega arith)) left_triangle k

pub right_class : (k : Class) → IsOfClass (right_sample k) k
unfolding right_sample
right_class k = sample_class (box 10 (omega arith)) (first 10 (omega arith)) (second 10 (omega arith)) (third 10 (omega arith)) right_triangle k

-- their boxes have no common point, so neither have they
pub samples_apart : (k l : Class) → AreDisjoint (left_sample k) (right_sample l)
unfolding left_sample right_sample from_span
samples_apart k l p wide in_left in_right =
    let here = part_in_box (left_sample k) (box 0 (omega arith)) p (left_good k) wide (sample_held (box 0 (omega arith)) (first 0 (omega arith)) (second 0 (omega arith)) (third 0 (omega arith)) left_triangle k) in_left in
    let there = part_in_box (right_sample l) (box 10 (omega arith)) p (right_good l) wide (sample_held (box 10 (omega arith)) (first 10 (omega arith)) (second 10 (omega arith)) (third 10 (omega arith)) right_triangle l) in_right in
    plain p.x p.w wide here.right there.left
  where
    plain : (x : ℤ) (w : ℕ) → 0 < w → x ≤ℤ (pos w *ℤ pos 4) → (pos w *ℤ pos 10) ≤ℤ x → ⊥
    plain x w some h k = omega (arith, ints)
