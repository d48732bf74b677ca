-- The matrix read off the arrangement is the matrix of the plane.
use Rattle.std.proofs.Common.{◌≡◌, ◌≤◌, ◌<◌, ◌+◌, ◌*◌, ◌⊎◌, inl, inr, arith, refl, sym, subst, ap, true, false, List, [], ◌∷◌}
use Rattle.std.specs.Prelude.{ℕ, ℤ, pos, ◌*ℤ◌, Bool, ◌&&◌}
use Rattle.std.specs.Ordering.{int_eq}
use Rattle.std.proofs.lemmas.Int.{ints}
use Rattle.relation_core.specs.declared.extent.Extent.{Extent}
use Rattle.relation_core.specs.declared.extent.Extent.TheVariants.{Empty, Point as Dot, Line, Area}
use Rattle.relation_core.specs.declared.matrix.Matrix.{Matrix}
use Rattle.plane_core.specs.declared.vertex.Vertex.{Vertex}
use Rattle.plane_core.specs.declared.edge.Edge.{Edge}
use Rattle.plane_core.specs.declared.part.Part.{Part}
use Rattle.plane_core.specs.declared.part.Part.TheVariants.{Exterior}
use Rattle.plane_core.specs.Points.{Point, at, is_on, is_at, IsSamePlace}
use Rattle.plane_core.specs.Figures.{Figure, part_of, IsGeometry}
use Rattle.plane_core.specs.PlaneMatrices.{IsInBoth, SharePoint, ShareSegment, ShareTriangle, IsEntry, entry, IsPlaneMatrix}
use Rattle.plane_core.proofs.LargeLemmas.{Large, large_both, one_large}
use Rattle.plane_core.proofs.AvoidLemmas.{between, segment_avoids}
use Rattle.plane_core.proofs.PartScaleLemmas.{part_of-same_place}
use Rattle.noding_core.specs.Nodes.{IsAmong, NodedEdge}
use Rattle.noding_core.specs.Marks.{all_edges, all_points, rank, HasFace, IsWitnessed, IsReadOff}
use Rattle.noding_core.proofs.AmongLemmas.{large_all}
use Rattle.noding_core.proofs.OffPartLemmas.{IsOffAll}
use Rattle.noding_core.proofs.OpenLemmas.{open_triangle}
use Rattle.noding_core.proofs.OutsideLemmas.{outside_triangle}
use Rattle.noding_core.proofs.TestLemmas.{by_test}
use Rattle.noding_core.proofs.ArrangementLemmas.{IsArrangement, EdgePoint, AtNode, OnPiece, edge_point, edge_point_marked, piece_of_point, piece_segment}
use Rattle.noding_core.proofs.FaceLemmas.{node_wide, face_sound, face_complete}

-- some element has the test, or none
pub some_or_none : {A : Type 0} (p : A → Bool) (xs : List A) → ((x : A) × IsAmong x xs × (p x ≡ true)) ⊎ ((x : A) → IsAmong x xs → p x ≡ false)
some_or_none p [] = inr (λ x k. absurd k)
some_or_none {A} p (x ∷ xs) = by_test (p x)
    (λ here. inl (x, inl refl, here))
    (λ absent. step absent (some_or_none p xs))
  where
    none : p x ≡ false → ((y : A) → IsAmong y xs → p y ≡ false) → (y : A) → IsAmong y (x ∷ xs) → p y ≡ false
    none absent rest y (inl e) = subst (λ (z : A). p z ≡ false) (sym e) absent
    none absent rest y (inr k) = rest y k

    step : p x ≡ false → ((y : A) × IsAmong y xs × (p y ≡ true)) ⊎ ((y : A) → IsAmong y xs → p y ≡ false) → ((y : A) × IsAmong y (x ∷ xs) × (p y ≡ true)) ⊎ ((y : A) → IsAmong y (x ∷ xs) → p y ≡ false)
    step absent (inl (y, k, here)) = inl (y, inr k, here)
    step absent (inr rest) = inr (none absent rest)

-- a vertex at a point has its place
at_place : (v : Vertex) (p : Point) → is_at v p ≡ true → IsSamePlace p (at v)
at_place v p h = (plain p.x (pos p.w) v.x (first p.x (pos p.w *ℤ v.x) (int_eq p.y (pos p.w *ℤ v.y)) h), plain p.y (pos p.w) v.y (second p.y (pos p.w *ℤ v.y) (int_eq p.x (pos p.w *ℤ v.x)) h))
  where
    first : (z a : ℤ) (t : Bool) → (int_eq z a && t) ≡ true → z ≡ a
    first z a t h = grind (arith, ints)

    second : (z a : ℤ) (t : Bool) → (t && int_eq z a) ≡ true → z ≡ a
    second z a t h = grind (arith, ints)

    plain : (x w a : ℤ) → x ≡ w *ℤ a → x *ℤ pos 1 ≡ a *ℤ w
    plain x w a h = omega (arith, ints)

two_rank : (n : ℕ) → 2 ≤ n → 1 ≤ n
two_rank n h = omega arith

three_rank : (n : ℕ) → 3 ≤ n → 2 ≤ n
three_rank n h = omega arith

-- the entry includes the intersection
record AreRead (g h : Figure) (noded : List NodedEdge) (m : Matrix) : Type 0 where
  all : IsArrangement g h noded
  read : IsReadOff g h noded m

area_rank : (m : Matrix) (i j : Part) → entry m Exterior Exterior ≡ Area → i ≡ Exterior → j ≡ Exterior → 3 ≤ rank (entry m i j)
area_rank m i j out first second =
    subst (λ (a : Part). 3 ≤ rank (entry m a j)) (sym first) (subst (λ (b : Part). 3 ≤ rank (entry m Exterior b)) (sym second) (subst (λ (x : Extent). 3 ≤ rank x) (sym out) (omega arith)))

triangle_rank : (g h : Figure) (noded : List NodedEdge) (m : Matrix) (i j : Part) → AreRead g h noded m → ShareTriangle (IsInBoth g h i j) → 3 ≤ rank (entry m i j)
triangle_rank g h noded m i j r share = elim (face_complete g h noded i j r.all share) [
  | inl out ↦ area_rank m i j r.read.outside out.0 out.1
  | inr face ↦ r.read.faces i j face
]

-- a point off all
off_rank : (g h : Figure) (noded : List NodedEdge) (m : Matrix) (p : Point) → AreRead g h noded m → 0 < p.w → IsOffAll (all_edges g h) (all_points g h) p → 3 ≤ rank (entry m (part_of g p) (part_of h p))
off_rank g h noded m p r wide off = triangle_rank g h noded m (part_of g p) (part_of h p) r (open_triangle g h p r.all.first r.all.second wide off)

-- at the place of another point
rank_at : (g h : Figure) (m : Matrix) (p q : Point) → 0 < p.w → 0 < q.w → IsSamePlace p q → 1 ≤ rank (entry m (part_of g q) (part_of h q)) → 1 ≤ rank (entry m (part_of g p) (part_of h p))
rank_at g h m p q wp wq same up =
    subst (λ (i : Part). 1 ≤ rank (entry m i (part_of h p))) (sym (part_of-same_place g p q wp wq same))
    (subst (λ (j : Part). 1 ≤ rank (entry m (part_of g q) j)) (sym (part_of-same_place h p q wp wq same)) up)

-- each point is seen
spot_rank : (g h : Figure) (noded : List NodedEdge) (m : Matrix) (p : Point) → AreRead g h noded m → 0 < p.w → 1 ≤ rank (entry m (part_of g p) (part_of h p))
spot_rank g h noded m p r wide = by_edge (some_or_none (λ e. is_on e p) (all_edges g h))
  where
    by_point : ((e : Edge) → IsAmong e (all_edges g h) → is_on e p ≡ false) → ((v : Vertex) × IsAmong v (all_points g h) × (is_at v p ≡ true)) ⊎ ((v : Vertex) → IsAmong v (all_points g h) → is_at v p ≡ false)
        → 1 ≤ rank (entry m (part_of g p) (part_of h p))
    by_point off (inl (v, k, here)) = rank_at g h m p (at v) wide (omega arith) (at_place v p here) (r.read.points v k)
    by_point off (inr none) = two_rank _ (three_rank _ (off_rank g h noded m p r wide (record { edges = off; points = none })))

    by_edge : ((e : Edge) × IsAmong e (all_edges g h) × (is_on e p ≡ true)) ⊎ ((e : Edge) → IsAmong e (all_edges g h) → is_on e p ≡ false) → 1 ≤ rank (entry m (part_of g p) (part_of h p))
    by_edge (inl (e, k, on)) = edge_point_marked g h noded m e p (part_of g p) (part_of h p) r.all r.read k wide on (record { first = refl; second = refl })
    by_edge (inr off) = by_point off (some_or_none (λ v. is_at v p) (all_points g h))

-- and a point at no node and no single point is in a piece or in a triangle
record IsNoNode (g h : Figure) (noded : List NodedEdge) (p : Point) : Type 0 where
  nodes : (n : NodedEdge) → IsAmong n noded → (d : Point) → IsAmong d n.nodes → ¬ (IsSamePlace p d)
  points : (v : Vertex) → IsAmong v (all_points g h) → ¬ (IsSamePlace p (at v))

inner_rank : (g h : Figure) (noded : List NodedEdge) (m : Matrix) (p : Point) → AreRead g h noded m → 0 < p.w → IsNoNode g h noded p → 2 ≤ rank (entry m (part_of g p) (part_of h p))
inner_rank g h noded m p r wide away = by_edge (some_or_none (λ e. is_on e p) (all_edges g h))
  where
    by_place : (e : Edge) → EdgePoint noded e p → 2 ≤ rank (entry m (part_of g p) (part_of h p))
    by_place e (AtNode n z one_n one_z wz same) = absurd (away.nodes n one_n z one_z same)
    by_place e (OnPiece k l piece in_) =
        r.read.pieces (part_of g p) (part_of h p) (piece_of_point g h noded e k l p (part_of g p) (part_of h p) r.all piece in_ (record { first = refl; second = refl }))

    not_at : (v : Vertex) → IsAmong v (all_points g h) → is_at v p ≡ false
    not_at v k = by_test (is_at v p) (λ here. absurd (away.points v k (at_place v p here))) (λ off. off)

    by_edge : ((e : Edge) × IsAmong e (all_edges g h) × (is_on e p ≡ true)) ⊎ ((e : Edge) → IsAmong e (all_edges g h) → is_on e p ≡ false) → 2 ≤ rank (entry m (part_of g p) (part_of h p))
    by_edge (inl (e, k, on)) = by_place e (edge_point g h noded e p r.all k wide on)
    by_edge (inr off) = three_rank _ (off_rank g h noded m p r wide (record { edges = off; points = not_at }))

-- the entry at the parts that a point has
rank_in : (g h : Figure) (m : Matrix) (i j : Part) (k : ℕ) (p : Point) → IsInBoth g h i j p → k ≤ rank (entry m (part_of g p) (part_of h p)) → k ≤ rank (entry m i j)
rank_in g h m i j k p is up =
    subst (λ (a : Part). k ≤ rank (entry m a j)) is.first (subst (λ (b : Part). k ≤ rank (entry m (part_of g p) b)) is.second up)

point_rank : (g h : Figure) (noded : List NodedEdge) (m : Matrix) (i j : Part) → AreRead g h noded m → SharePoint (IsInBoth g h i j) → 1 ≤ rank (entry m i j)
point_rank g h noded m i j r (p, wide, is) = rank_in g h m i j 1 p is (spot_rank g h noded m p r wide)

no_node_large : (g h : Figure) (noded : List NodedEdge) (m : Matrix) (p q : Point) → AreRead g h noded m → ¬ (IsSamePlace p q)
    → Large (λ n. ((e : NodedEdge) → IsAmong e noded → (d : Point) → IsAmong d e.nodes → ¬ (IsSamePlace (between p q n) d)) × ((v : Vertex) → IsAmong v (all_points g h) → ¬ (IsSamePlace (between p q n) (at v))))
no_node_large g h noded m p q r apart =
    large_both (λ n. (e : NodedEdge) → IsAmong e noded → (d : Point) → IsAmong d e.nodes → ¬ (IsSamePlace (between p q n) d)) (λ n. (v : Vertex) → IsAmong v (all_points g h) → ¬ (IsSamePlace (between p q n) (at v)))
    (large_all (λ e n. (d : Point) → IsAmong d e.nodes → ¬ (IsSamePlace (between p q n) d)) noded
    (λ e k. large_all (λ d n. ¬ (IsSamePlace (between p q n) d)) e.nodes (λ d l. segment_avoids p q d (node_wide g h noded r.all e k d l) apart)))
    (large_all (λ v n. ¬ (IsSamePlace (between p q n) (at v))) (all_points g h) (λ v k. segment_avoids p q (at v) (omega arith) apart))

segment_rank : (g h : Figure) (noded : List NodedEdge) (m : Matrix) (i j : Part) → AreRead g h noded m → ShareSegment (IsInBoth g h i j) → 2 ≤ rank (entry m i j)
segment_rank g h noded m i j r (p, q, wp, wq, apart, all) =
    from_one (one_large (λ n. ((e : NodedEdge) → IsAmong e noded → (d : Point) → IsAmong d e.nodes → ¬ (IsSamePlace (between p q n) d)) × ((v : Vertex) → IsAmong v (all_points g h) → ¬ (IsSamePlace (between p q n) (at v)))) (no_node_large g h noded m p q r apart))
  where
    wide : (n : ℕ) → 0 < 1 * p.w + n * q.w
    wide n = omega arith

    from_one : (n : ℕ) × (0 < n) × (((e : NodedEdge) → IsAmong e noded → (d : Point) → IsAmong d e.nodes → ¬ (IsSamePlace (between p q n) d)) × ((v : Vertex) → IsAmong v (all_points g h) → ¬ (IsSamePlace (between p q n) (at v)))) → 2 ≤ rank (entry m i j)
    from_one (n, some, none) =
        rank_in g h m i j 2 (between p q n) (all 1 n (omega arith))
        (inner_rank g h noded m (between p q n) r (wide n) (record { nodes = none.0; points = none.1 }))

-- each entry
no_rank : (x : Extent) (k : ℕ) (n : ℕ) → rank x ≡ n → n < k → k ≤ rank x → ⊥
no_rank x k n e less up = omega (arith, e)

entry_is : (g h : Figure) (noded : List NodedEdge) (m : Matrix) (i j : Part) → AreRead g h noded m → (x : Extent) → entry m i j ≡ x → IsEntry (IsInBoth g h i j) x
entry_is g h noded m i j r Empty e = λ share. no_rank (entry m i j) 1 0 (ap rank e) (omega arith) (point_rank g h noded m i j r share)
entry_is g h noded m i j r Dot e = (
  subst (IsWitnessed g h noded i j) e (r.read.sound i j),
  λ share. no_rank (entry m i j) 2 1 (ap rank e) (omega arith) (segment_rank g h noded m i j r share),
)
entry_is g h noded m i j r Line e = (
  piece_segment g h noded i j r.all (subst (IsWitnessed g h noded i j) e (r.read.sound i j)),
  λ share. no_rank (entry m i j) 3 2 (ap rank e) (omega arith) (triangle_rank g h noded m i j r share),
)
entry_is g h noded m i j r Area e = by_area (subst (IsWitnessed g h noded i j) e (r.read.sound i j))
  where
    by_area : ((i ≡ Exterior) × (j ≡ Exterior)) ⊎ HasFace g h noded i j → ShareTriangle (IsInBoth g h i j)
    by_area (inl out) =
        subst (λ (a : Part). ShareTriangle (IsInBoth g h a j)) (sym out.0) (subst (λ (b : Part). ShareTriangle (IsInBoth g h Exterior b)) (sym out.1) (outside_triangle g h r.all.first r.all.second))
    by_area (inr face) = face_sound g h noded i j r.all face

pub matrix_law : (g h : Figure) (noded : List NodedEdge) (m : Matrix) → IsGeometry g → IsGeometry h → IsReadOff g h noded m → IsPlaneMatrix g h m
matrix_law g h noded m good_g good_h read =
    let all : IsArrangement g h noded = record { first = good_g; second = good_h; are_noded = read.are_noded } in
    record { is = λ i j. entry_is g h noded m i j (record { all = all; read = read }) (entry m i j) refl }
