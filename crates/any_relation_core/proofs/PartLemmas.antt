-- The dimensions of the parts of a geometry.
use Rattle.std.proofs.Common.{◌≡◌, ◌<◌, ◌+◌, ◌*◌, inl, inr, arith, refl, sym, subst, ap, ◌∙◌, true, false, List, [], ◌∷◌}
use Rattle.std.specs.Prelude.{ℤ, ℕ, pos, neg_ℤ, ◌*ℤ◌, ◌-ℤ◌, Bool, ◌&&◌, All, length, sum_by, count_by, if◌then◌else◌}
use Rattle.std.specs.Ordering.{int_eq}
use Rattle.std.specs.List.{list_any, flat_map}
use Rattle.std.proofs.lemmas.Int.{ints}
use Rattle.plane_core.specs.declared.vertex.Vertex.{Vertex}
use Rattle.plane_core.specs.declared.edge.Edge.{Edge}
use Rattle.plane_core.specs.declared.part.Part.{Part}
use Rattle.plane_core.specs.declared.part.Part.TheVariants.{Interior, Boundary, Exterior}
use Rattle.plane_core.specs.Points.{Point, at, mix, run, turn, is_on, is_at, is_below, IsSamePlace}
use Rattle.plane_core.specs.Figures.{Figure, Points, Lines, Areas, HasLength, IsPath, IsRing, IsGeometry, edges, edges_of, points_of, is_odd, end_count, part_of}
use Rattle.plane_core.specs.PlaneMatrices.{IsInBoth, SharePoint, ShareSegment, ShareTriangle}
use Rattle.plane_core.proofs.FormLemmas.{value, IsLine, Steep, Level, side_form, side_form-is, right_of, right_of-is, by_zero}
use Rattle.plane_core.proofs.LargeLemmas.{Large, large_weaker, large_both, one_large}
use Rattle.plane_core.proofs.AvoidLemmas.{inner, triangle_off, between, segment_avoids}
use Rattle.plane_core.proofs.OffLemmas.{side_off, not_at_column}
use Rattle.noding_core.specs.Nodes.{IsAmong}
use Rattle.noding_core.specs.Marks.{all_edges, all_points}
use Rattle.noding_core.proofs.NodeLemmas.{all_among}
use Rattle.noding_core.proofs.AmongLemmas.{large_all, none_any, among_left, among_either}
use Rattle.noding_core.proofs.TestLemmas.{by_test}
use Rattle.noding_core.proofs.PathLemmas.{ends_none, edge_length}
use Rattle.noding_core.proofs.FlipLemmas.{is_at-itself}
use Rattle.noding_core.proofs.OffPartLemmas.{IsOffAll, off_part, off_part-is}
use Rattle.noding_core.proofs.OpenLemmas.{open_triangle}
use Rattle.any_relation_core.proofs.ShareLemmas.{share_triangle}
use Rattle.any_relation_core.proofs.SpanLemmas.{Close, close_weaker, close_both, close_all, close_avoids, close_segment, on_mix}

-- the point is in this part
abbrev pub IsInPart : Figure → Part → Point → Type 0
IsInPart g i p = part_of g p ≡ i

-- some point is in the interior
abbrev pub HasInterior : Figure → Type 0
HasInterior g = SharePoint (IsInPart g Interior)

-- a vertex at a point has its place
pub at_place : (v : Vertex) (p : Point) → is_at v p ≡ true → IsSamePlace p (at v)
at_place v p h = (plain p.x (pos p.w) v.x (first p.x (pos p.w *ℤ v.x) (int_eq p.y (pos p.w *ℤ v.y)) h), plain p.y (pos p.w) v.y (second p.y (pos p.w *ℤ v.y) (int_eq p.x (pos p.w *ℤ v.x)) h))
  where
    first : (z a : ℤ) (t : Bool) → (int_eq z a && t) ≡ true → z ≡ a
    first z a t h = grind (arith, ints)

    second : (z a : ℤ) (t : Bool) → (t && int_eq z a) ≡ true → z ≡ a
    second z a t h = grind (arith, ints)

    plain : (x w a : ℤ) → x ≡ w *ℤ a → x *ℤ pos 1 ≡ a *ℤ w
    plain x w a h = omega (arith, ints)

pub not_at : (v : Vertex) (p : Point) → ¬ (IsSamePlace p (at v)) → is_at v p ≡ false
not_at v p apart = by_test (is_at v p) (λ here. absurd (apart (at_place v p here))) (λ off. off)

any_true : {A : Type 0} (p : A → Bool) (x : A) (xs : List A) → IsAmong x xs → p x ≡ true → list_any p xs ≡ true
any_true p x [] k h = absurd k
any_true p x (y ∷ ys) (inl e) h = let first : p y ≡ true = subst (λ (z : _). p z ≡ true) e h in rw first
any_true p x (y ∷ ys) (inr k) h = let rest = any_true p x ys k h in by_test (p y) (λ first. rw first) (λ first. rw (first, rest))

-- ---- a triangle has a point off all edges and single points

edge_line : (e : Edge) → HasLength e → IsLine (side_form e)
edge_line e long = by_zero (run e) (λ slanted. Level slanted) (λ vertical. Steep (λ low. long (plain_x e.a.x e.b.x vertical, plain_y e.a.y e.b.y low)))
  where
    plain_x : (a b : ℤ) → b -ℤ a ≡ pos 0 → a ≡ b
    plain_x a b h = omega (arith, ints)

    plain_y : (a b : ℤ) → neg_ℤ (b -ℤ a) ≡ pos 0 → a ≡ b
    plain_y a b h = omega (arith, ints)

place_line : (a : ℤ) → IsLine (right_of a)
place_line a = Steep plain
  where
    plain : ¬ (pos 1 ≡ pos 0)
    plain e = omega (arith, ints)

difference : (v m n : ℤ) → v ≡ m -ℤ n → m ≡ n → v ≡ pos 0
difference v m n e h = omega (arith, ints)

off_large : (g : Figure) (p q r : Point) → IsGeometry g → ¬ (turn p q r ≡ pos 0) → Large (λ n. IsOffAll (edges_of g) (points_of g) (inner p q r n))
off_large g p q r good apart =
    large_weaker (λ n. OffEdges n × OffPoints n) (λ n. IsOffAll (edges_of g) (points_of g) (inner p q r n))
    (λ n k. record {
      edges = λ e l. side_off e (inner p q r n) (λ level. k.0 e l (side_form-is e (inner p q r n) ∙ level));
      points = λ v l. not_at_column v (inner p q r n) (λ level. k.1 v l (difference _ _ _ (right_of-is v.x (inner p q r n)) level));
    })
    (large_both OffEdges OffPoints
    (large_all (λ e n. ¬ (value (side_form e) (inner p q r n) ≡ pos 0)) (edges_of g) (λ e k. triangle_off (side_form e) p q r (edge_line e (edge_length g e good k)) apart))
    (large_all (λ v n. ¬ (value (right_of v.x) (inner p q r n) ≡ pos 0)) (points_of g) (λ v k. triangle_off (right_of v.x) p q r (place_line v.x) apart)))
  where
    OffEdges : ℕ → Type 0
    OffEdges n = (e : Edge) → IsAmong e (edges_of g) → ¬ (value (side_form e) (inner p q r n) ≡ pos 0)

    OffPoints : ℕ → Type 0
    OffPoints n = (v : Vertex) → IsAmong v (points_of g) → ¬ (value (right_of v.x) (inner p q r n) ≡ pos 0)

pub triangle_part : (g : Figure) (i : Part) → IsGeometry g → ShareTriangle (IsInPart g i) → (z : Point) × (i ≡ off_part g (λ e. is_below e z))
triangle_part g i good (p, q, r, wp, wq, wr, apart, all) =
    from_one (one_large (λ n. IsOffAll (edges_of g) (points_of g) (inner p q r n)) (off_large g p q r good apart))
  where
    some : (n : ℕ) → 0 < 1 + n + n * n
    some n = omega arith

    from_one : (n : ℕ) × (0 < n) × IsOffAll (edges_of g) (points_of g) (inner p q r n) → (z : Point) × (i ≡ off_part g (λ e. is_below e z))
    from_one (n, up, off) = (inner p q r n, sym (all 1 n (n * n) (some n)) ∙ off_part-is g (inner p q r n) good off)

-- ---- points

pub first_point : (vs : List Vertex) → 0 < length vs → SharePoint (IsInPart (Points vs) Interior)
first_point [] h = absurd (omega arith)
first_point (v ∷ vs) h = (at v, omega arith, let here = is_at-itself v in rw here)

pub points_no_segment : (vs : List Vertex) → ShareSegment (IsInPart (Points vs) Interior) → ⊥
points_no_segment vs (p, q, wp, wq, apart, all) =
    from_one (one_large (λ n. (v : Vertex) → IsAmong v vs → ¬ (IsSamePlace (between p q n) (at v))) (large_all (λ v n. ¬ (IsSamePlace (between p q n) (at v))) vs (λ v k. segment_avoids p q (at v) (omega arith) apart)))
  where
    plain : (t : Bool) → t ≡ false → (if t then Interior else Exterior) ≡ Interior → ⊥
    plain true h k = absurd cc
    plain false h k = absurd cc

    from_one : (n : ℕ) × (0 < n) × ((v : Vertex) → IsAmong v vs → ¬ (IsSamePlace (between p q n) (at v))) → ⊥
    from_one (n, up, off) = plain _ (none_any (λ v. is_at v (between p q n)) vs (λ v k. not_at v (between p q n) (off v k))) (all 1 n (omega arith))

pub points_no_boundary : (vs : List Vertex) → SharePoint (IsInPart (Points vs) Boundary) → ⊥
points_no_boundary vs (p, wide, is) = plain (list_any (λ v. is_at v p) vs) is
  where
    plain : (t : Bool) → (if t then Interior else Exterior) ≡ Boundary → ⊥
    plain true h = absurd cc
    plain false h = absurd cc

-- ---- lines

head_edge : (es : List Edge) → 0 < length es → (e : Edge) × IsAmong e es
head_edge [] h = absurd (omega arith)
head_edge (e ∷ es) h = (e, inl refl)

some_edge : (paths : List (List Vertex)) → 0 < length paths → ((path : List Vertex) → IsAmong path paths → 0 < length (edges path)) → (e : Edge) × IsAmong e (flat_map edges paths)
some_edge [] h long = absurd (omega arith)
some_edge (path ∷ paths) h long = let e = head_edge (edges path) (long path (inl refl)) in (e.0, among_left e.0 (edges path) (flat_map edges paths) e.1)

pub ends_apart : (e : Edge) → HasLength e → ¬ (IsSamePlace (at e.a) (at e.b))
ends_apart e long same = long (plain e.a.x e.b.x same.0, plain e.a.y e.b.y same.1)
  where
    plain : (m n : ℤ) → m *ℤ pos 1 ≡ n *ℤ pos 1 → m ≡ n
    plain m n h = omega (arith, ints)

abbrev AvoidsEnds : List Edge → Point → Type 0
AvoidsEnds es p = (f : Edge) → IsAmong f es → ¬ (IsSamePlace p (at f.a)) × ¬ (IsSamePlace p (at f.b))

-- a point at no end of an edge isn't in the boundary
no_odd_ends : (paths : List (List Vertex)) (p : Point) → All IsPath paths → AvoidsEnds (flat_map edges paths) p → is_odd (sum_by (end_count p) paths) ≡ false
no_odd_ends paths p good off = ap is_odd (ends_none paths p good (λ f k. record { first = not_at f.a p (off f k).0; last = not_at f.b p (off f k).1 }))

close_ends : (es : List Edge) (p q : Point) → ¬ (IsSamePlace p q) → Close (λ u v. AvoidsEnds es (mix u p v q))
close_ends es p q apart =
    close_all (λ f u v. ¬ (IsSamePlace (mix u p v q) (at f.a)) × ¬ (IsSamePlace (mix u p v q) (at f.b))) es
    (λ f k. close_both (λ u v. ¬ (IsSamePlace (mix u p v q) (at f.a))) (λ u v. ¬ (IsSamePlace (mix u p v q) (at f.b)))
    (close_avoids p q (at f.a) (omega arith) apart) (close_avoids p q (at f.b) (omega arith) apart))

pub lines_segment : (paths : List (List Vertex)) → IsGeometry (Lines paths) → ShareSegment (IsInPart (Lines paths) Interior)
lines_segment paths good =
    from_edge (some_edge paths good.0 (λ path k. (all_among IsPath path paths good.1 k).long))
  where
    plain : (odd on : Bool) → odd ≡ false → on ≡ true → (if odd then Boundary else (if on then Interior else Exterior)) ≡ Interior
    plain odd on h k = rw (h, k) refl

    from_edge : (e : Edge) × IsAmong e (flat_map edges paths) → ShareSegment (IsInPart (Lines paths) Interior)
    from_edge (e, k) =
        let apart = ends_apart e (edge_length (Lines paths) e good k) in
        close_segment (IsInPart (Lines paths) Interior) (at e.a) (at e.b) (omega arith) (omega arith) apart
        (close_weaker (λ u v. AvoidsEnds (flat_map edges paths) (mix u (at e.a) v (at e.b))) (λ u v. IsInPart (Lines paths) Interior (mix u (at e.a) v (at e.b)))
        (λ u v off. plain _ _ (no_odd_ends paths (mix u (at e.a) v (at e.b)) good.1 off) (any_true (λ f. is_on f (mix u (at e.a) v (at e.b))) e (flat_map edges paths) k (on_mix e u v)))
        (close_ends (flat_map edges paths) (at e.a) (at e.b) apart))

pub lines_no_segment : (paths : List (List Vertex)) → IsGeometry (Lines paths) → ShareSegment (IsInPart (Lines paths) Boundary) → ⊥
lines_no_segment paths good (p, q, wp, wq, apart, all) = from_close (close_ends (flat_map edges paths) p q apart)
  where
    plain : (odd on : Bool) → odd ≡ false → (if odd then Boundary else (if on then Interior else Exterior)) ≡ Boundary → ⊥
    plain true on h k = absurd cc
    plain false true h k = absurd cc
    plain false false h k = absurd cc

    from_close : Close (λ u v. AvoidsEnds (flat_map edges paths) (mix u p v q)) → ⊥
    from_close (k, off) = plain _ _ (no_odd_ends paths (mix 1 p k q) good.1 (off 1 k (omega arith) (omega arith))) (all 1 k (omega arith))

pub lines_no_triangle : (paths : List (List Vertex)) → IsGeometry (Lines paths) → ShareTriangle (IsInPart (Lines paths) Interior) → ⊥
lines_no_triangle paths good share = let h = (triangle_part (Lines paths) Interior good share).1 in absurd cc

-- ---- areas

pub areas_segment : (rings : List (List Vertex)) → IsGeometry (Areas rings) → ShareSegment (IsInPart (Areas rings) Boundary)
areas_segment rings good =
    from_edge (some_edge rings good.0 (λ ring k. (all_among IsRing ring rings good.1 k).path.long))
  where
    plain : (on odd : Bool) → on ≡ true → (if on then Boundary else (if odd then Interior else Exterior)) ≡ Boundary
    plain on odd h = rw h refl

    from_edge : (e : Edge) × IsAmong e (flat_map edges rings) → ShareSegment (IsInPart (Areas rings) Boundary)
    from_edge (e, k) = (
      at e.a,
      at e.b,
      omega arith,
      omega arith,
      ends_apart e (edge_length (Areas rings) e good k),
      λ s t some. plain _ _ (any_true (λ f. is_on f (mix s (at e.a) t (at e.b))) e (flat_map edges rings) k (on_mix e s t)),
    )

pub areas_no_triangle : (rings : List (List Vertex)) → IsGeometry (Areas rings) → ShareTriangle (IsInPart (Areas rings) Boundary) → ⊥
areas_no_triangle rings good share =
    let h = triangle_part (Areas rings) Boundary good share in plain (is_odd (count_by (λ e. is_below e h.0) (flat_map edges rings))) h.1
  where
    plain : (odd : Bool) → Boundary ≡ (if odd then Interior else Exterior) → ⊥
    plain true h = absurd cc
    plain false h = absurd cc

pub areas_triangle : (rings : List (List Vertex)) → IsGeometry (Areas rings) → SharePoint (IsInPart (Areas rings) Interior) → ShareTriangle (IsInPart (Areas rings) Interior)
areas_triangle rings good (z, wide, is) =
    subst (λ (i : Part). ShareTriangle (IsInPart (Areas rings) i)) is
    (share_triangle (IsInBoth g g (part_of g z) (part_of g z)) (IsInPart g (part_of g z)) (λ p w both. both.first) (open_triangle g g z good good wide off))
  where
    g : Figure
    g = Areas rings

    plain : (on odd : Bool) → on ≡ true → (if on then Boundary else (if odd then Interior else Exterior)) ≡ Interior → ⊥
    plain true odd h k = absurd cc
    plain false odd h k = absurd cc

    off_edge : (e : Edge) → IsAmong e (flat_map edges rings) → is_on e z ≡ false
    off_edge e k = by_test (is_on e z) (λ on. absurd (plain _ _ (any_true (λ f. is_on f z) e (flat_map edges rings) k on) is)) (λ no. no)

    off : IsOffAll (all_edges g g) (all_points g g) z
    off = record {
      edges = λ e k. elim (among_either e (edges_of g) (edges_of g) k) [ inl l ↦ off_edge e l | inr l ↦ off_edge e l ];
      points = λ v k. absurd k;
    }
