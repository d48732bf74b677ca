-- Geometries whose edges and single points are apart share a point only if one of them is an area
-- that has a single point, or the first vertex of a path, of the other.
use Rattle.std.proofs.Common.{◌≡◌, ◌<◌, ◌+◌, ◌⊎◌, inl, inr, ℕ, arith, ap, ◌∙◌, ◌*◌, sym, true, false, refl, subst, List, [], ◌∷◌, ◌++◌, length, take}
use Rattle.std.specs.Prelude.{ℤ, pos, ◌+ℤ◌, ◌*ℤ◌, ◌-ℤ◌, ◌≤ℤ◌, ◌<ℤ◌, int_le, Bool, ◌||◌, ◌&&◌, if◌then◌else◌}
use Rattle.std.specs.Ordering.{int_eq}
use Rattle.std.specs.Int.{int_min, int_max}
use Rattle.std.specs.List.{list_any, flat_map}
use Rattle.std.proofs.lemmas.Int.{ints, clamps, by_lt_z}
use Rattle.plane_core.specs.declared.edge.Edge.{Edge}
use Rattle.plane_core.specs.declared.vertex.Vertex.{Vertex}
use Rattle.plane_core.specs.declared.part.Part.{Part}
use Rattle.plane_core.specs.declared.part.Part.TheVariants.{Interior, Boundary, Exterior}
use Rattle.plane_core.specs.Points.{Point, at, side, is_on, is_at, is_between, is_below, is_at_or_below, IsSamePlace}
use Rattle.plane_core.specs.Figures.{Figure, edges, edges_of, points_of, part_of, part_above, HasLength, IsGeometry, IsPath, IsRing}
use Rattle.plane_core.specs.Figures.Figure.{Points, Lines, Areas}
use Rattle.plane_core.proofs.Ring.{monomials}
use Rattle.plane_core.proofs.Signs.{times_not_negative, wide_z}
use Rattle.plane_core.proofs.CrossingLemmas.{along_x_of, along_y_of}
use Rattle.plane_core.proofs.PartScaleLemmas.{part_of-same_place}
use Rattle.edge_index_core.proofs.BetweenLemmas.{scaled_in, low_of, high_of}
use Rattle.noding_core.specs.Nodes.{IsAmong, NodedEdge, AreNoded, middle}
use Rattle.noding_core.specs.Marks.{all_edges, all_points, HasFace, IsPiece}
use Rattle.noding_core.proofs.AmongLemmas.{among_either, among_flat}
use Rattle.noding_core.proofs.ArrangementLemmas.{IsArrangement, middle_in_piece, Straight, Turned, taken_of, piece_flip}
use Rattle.noding_core.proofs.ExistLemmas.{nodes_exist}
use Rattle.noding_core.proofs.FaceLemmas.{face_complete}
use Rattle.noding_core.proofs.FlipLemmas.{flip, is_on-flip, is_below-flip, is_at_or_below-flip, forward_or_flipped, is_at-itself}
use Rattle.noding_core.proofs.NodeLemmas.{all_among, edge_in}
use Rattle.noding_core.proofs.OffPartLemmas.{IsOffAll, off_part-is, off_part-same, above_part-is, first_on, last_on}
use Rattle.noding_core.proofs.OpenLemmas.{open_triangle}
use Rattle.noding_core.proofs.PassLemmas.{at_or_below_off}
use Rattle.noding_core.proofs.PathLemmas.{edge_length, all_length}
use Rattle.noding_core.proofs.PieceLemmas.{level_mix, piece_on}
use Rattle.noding_core.proofs.ReadOffLemmas.{among_each}
use Rattle.noding_core.proofs.TestLemmas.{by_test}
use Rattle.distance_core.specs.ShapePoints.{IsPointOf}
use Rattle.geometry_distance_core.specs.Measured.{HasStartIn, HasStartInArea, is_within}
use Rattle.geometry_distance_core.specs.Skeletons.{is_on_skeleton, IsOnSkeleton}
use Rattle.noding_core.proofs.WayLemmas.{IsOnWay, on_way_wide}
use Rattle.noding_core.proofs.MetLemmas.{met_or_same}
use Rattle.geometry_distance_core.proofs.SkeletonLemmas.{some_any, off_all}

-- ---- the points between two points of an edge are on it

between_low : (a b : ℤ) (w : ℕ) (z : ℤ) → 0 < w → is_between a b w z ≡ true → (pos w *ℤ int_min a b) ≤ℤ z
between_low a b w z wide h = low_of a b z (pos w) (wide_z w wide) (scaled_in a b z w h)

between_high : (a b : ℤ) (w : ℕ) (z : ℤ) → 0 < w → is_between a b w z ≡ true → z ≤ℤ (pos w *ℤ int_max a b)
between_high a b w z wide h = high_of a b z (pos w) (wide_z w wide) (scaled_in a b z w h)

not_negative : (n : ℕ) → pos 0 ≤ℤ pos n
not_negative n = omega (arith, ints)

mixed_low : (s t w v a y z m : ℤ) → m ≡ s *ℤ w +ℤ t *ℤ v → pos 0 ≤ℤ s → pos 0 ≤ℤ t → (w *ℤ a) ≤ℤ y → (v *ℤ a) ≤ℤ z → (m *ℤ a) ≤ℤ (s *ℤ y +ℤ t *ℤ z)
mixed_low s t w v a y z m e hs ht h k = from_rest (s *ℤ (y -ℤ w *ℤ a) +ℤ t *ℤ (z -ℤ v *ℤ a)) _ _ (rw e (simp monomials (omega (arith, ints))))
    (sum _ _ (times_not_negative s _ hs (rest _ _ h)) (times_not_negative t _ ht (rest _ _ k)))
  where
    rest : (m n : ℤ) → m ≤ℤ n → pos 0 ≤ℤ (n -ℤ m)
    rest m n h = omega (arith, ints)

    from_rest : (z m n : ℤ) → z ≡ n -ℤ m → pos 0 ≤ℤ z → m ≤ℤ n
    from_rest z m n e h = omega (arith, ints)

    sum : (m n : ℤ) → pos 0 ≤ℤ m → pos 0 ≤ℤ n → pos 0 ≤ℤ (m +ℤ n)
    sum m n h k = omega (arith, ints)

mixed_high : (s t w v b y z m : ℤ) → m ≡ s *ℤ w +ℤ t *ℤ v → pos 0 ≤ℤ s → pos 0 ≤ℤ t → y ≤ℤ (w *ℤ b) → z ≤ℤ (v *ℤ b) → (s *ℤ y +ℤ t *ℤ z) ≤ℤ (m *ℤ b)
mixed_high s t w v b y z m e hs ht h k = from_rest (s *ℤ (w *ℤ b -ℤ y) +ℤ t *ℤ (v *ℤ b -ℤ z)) _ _ (rw e (simp monomials (omega (arith, ints))))
    (sum _ _ (times_not_negative s _ hs (rest _ _ h)) (times_not_negative t _ ht (rest _ _ k)))
  where
    rest : (m n : ℤ) → m ≤ℤ n → pos 0 ≤ℤ (n -ℤ m)
    rest m n h = omega (arith, ints)

    from_rest : (z m n : ℤ) → z ≡ n -ℤ m → pos 0 ≤ℤ z → m ≤ℤ n
    from_rest z m n e h = omega (arith, ints)

    sum : (m n : ℤ) → pos 0 ≤ℤ m → pos 0 ≤ℤ n → pos 0 ≤ℤ (m +ℤ n)
    sum m n h k = omega (arith, ints)

test_between : (a b m z : ℤ) → (m *ℤ int_min a b) ≤ℤ z → z ≤ℤ (m *ℤ int_max a b) → (int_le (m *ℤ a) z && int_le z (m *ℤ b) || int_le (m *ℤ b) z && int_le z (m *ℤ a)) ≡ true
test_between a b m z low high = by_lt_z b a
    (λ down. second (m *ℤ a) (m *ℤ b) z (subst (λ (k : ℤ). (m *ℤ k) ≤ℤ z) (least_b down) low) (subst (λ (k : ℤ). z ≤ℤ (m *ℤ k)) (most_a down) high))
    (λ up. first (m *ℤ a) (m *ℤ b) z (subst (λ (k : ℤ). (m *ℤ k) ≤ℤ z) (least_a up) low) (subst (λ (k : ℤ). z ≤ℤ (m *ℤ k)) (most_b up) high))
  where
    least_b : b <ℤ a → int_min a b ≡ b
    least_b h = omega (arith, ints, clamps)

    most_a : b <ℤ a → int_max a b ≡ a
    most_a h = omega (arith, ints, clamps)

    least_a : a ≤ℤ b → int_min a b ≡ a
    least_a h = omega (arith, ints, clamps)

    most_b : a ≤ℤ b → int_max a b ≡ b
    most_b h = omega (arith, ints, clamps)

    first : (k l z : ℤ) → k ≤ℤ z → z ≤ℤ l → (int_le k z && int_le z l || int_le l z && int_le z k) ≡ true
    first k l z h g = grind (arith, ints)

    second : (k l z : ℤ) → l ≤ℤ z → z ≤ℤ k → (int_le k z && int_le z l || int_le l z && int_le z k) ≡ true
    second k l z h g = grind (arith, ints)

between_mix : (a b : ℤ) (s w t v : ℕ) (y z : ℤ) → 0 < w → 0 < v → is_between a b w y ≡ true → is_between a b v z ≡ true → is_between a b (s * w + t * v) (pos s *ℤ y +ℤ pos t *ℤ z) ≡ true
between_mix a b s w t v y z wide_w wide_v h k = test_between a b (pos (s * w + t * v)) (pos s *ℤ y +ℤ pos t *ℤ z)
    (mixed_low (pos s) (pos t) (pos w) (pos v) (int_min a b) y z _ (weight s w t v) (not_negative s) (not_negative t) (between_low a b w y wide_w h) (between_low a b v z wide_v k))
    (mixed_high (pos s) (pos t) (pos w) (pos v) (int_max a b) y z _ (weight s w t v) (not_negative s) (not_negative t) (between_high a b w y wide_w h) (between_high a b v z wide_v k))
  where
    weight : (s w t v : ℕ) → pos (s * w + t * v) ≡ pos s *ℤ pos w +ℤ pos t *ℤ pos v
    weight s w t v = omega (arith, ints)

level_of : (e : Edge) (p : Point) → is_on e p ≡ true → side e p ≡ pos 0
level_of e p h = plain (side e p) _ _ h
  where
    plain : (z : ℤ) (t u : Bool) → (int_eq z (pos 0) && t && u) ≡ true → z ≡ pos 0
    plain z t u h = grind (arith, ints)

three : (z : ℤ) (t u : Bool) → z ≡ pos 0 → t ≡ true → u ≡ true → (int_eq z (pos 0) && t && u) ≡ true
three z t u h k l = grind (arith, ints)

on_way : (e : Edge) (p q z : Point) → 0 < p.w → 0 < q.w → is_on e p ≡ true → is_on e q ≡ true → IsOnWay p q z → is_on e z ≡ true
on_way e p q z wide_p wide_q on_p on_q way = subst (λ (x : Point). is_on e x ≡ true) (sym way.is)
    (three _ _ _ (level_mix e way.s p way.t q (level_of e p on_p) (level_of e q on_q))
    (between_mix e.a.x e.b.x way.s p.w way.t q.w p.x q.x wide_p wide_q (along_x_of e p on_p) (along_x_of e q on_q))
    (between_mix e.a.y e.b.y way.s p.w way.t q.w p.y q.y wide_p wide_q (along_y_of e p on_p) (along_y_of e q on_q)))

-- ---- along the edges of a path

-- no point is on the edges or single points of both
abbrev pub AreClear : Figure → Figure → Type 0
AreClear g h = (p : Point) → 0 < p.w → IsOnSkeleton g p → IsOnSkeleton h p → ⊥

or_true : (b c : Bool) → b ≡ true → (b || c) ≡ true
or_true b c h = ap (λ (t : Bool). t || c) h

true_or : (b c : Bool) → c ≡ true → (b || c) ≡ true
true_or true c h = refl
true_or false c h = h

edge_on : (g : Figure) (e : Edge) (p : Point) → IsAmong e (edges_of g) → is_on e p ≡ true → IsOnSkeleton g p
edge_on g e p k on = or_true _ _ (some_any (λ f. is_on f p) e (edges_of g) k on)

point_on : (g : Figure) (v : Vertex) (p : Point) → IsAmong v (points_of g) → is_at v p ≡ true → IsOnSkeleton g p
point_on g v p k here = true_or _ _ (some_any (λ w. is_at w p) v (points_of g) k here)

-- both ends of an edge of the one geometry are in one part of an area, and so is each of its points
module _ (g : Figure) (rings : List (List Vertex)) (good : IsGeometry (Areas rings)) (clear : AreClear g (Areas rings)) where
  stays : (e : Edge) (p q : Point) → IsAmong e (edges_of g) → 0 < p.w → 0 < q.w → is_on e p ≡ true → is_on e q ≡ true → part_of (Areas rings) p ≡ part_of (Areas rings) q
  stays e p q k wide_p wide_q on_p on_q = elim (met_or_same rings p q wide_p wide_q good) [
    | inl some ↦ absurd (clear some.met.point (on_way_wide p q some.met.point wide_p wide_q some.met.way)
        (edge_on g e some.met.point k (on_way e p q some.met.point wide_p wide_q on_p on_q some.met.way)) (edge_on (Areas rings) some.edge some.met.point some.one some.met.on))
    | inr same ↦ same
  ]

  abbrev part_at : Vertex → Part
  part_at v = part_of (Areas rings) (at v)

  ends_alike : (e : Edge) → IsAmong e (edges_of g) → part_at e.a ≡ part_at e.b
  ends_alike e k = stays e (at e.a) (at e.b) k (omega arith) (omega arith) (first_on e (at e.a) (is_at-itself e.a)) (last_on e (at e.b) (is_at-itself e.b))

  -- back to the first vertex of a path
  back : (path : List Vertex) → ((e : Edge) → IsAmong e (edges path) → part_at e.a ≡ part_at e.b) → (e : Edge) → IsAmong e (edges path)
      → (v : Vertex) × IsAmong v (take 1 path) × (part_at e.a ≡ part_at v)
  back [] alike e k = absurd k
  back (a ∷ []) alike e k = absurd k
  back (a ∷ b ∷ rest) alike e (inl is) = (a, inl refl, ap (λ (x : Edge). part_at x.a) is)
  back (a ∷ b ∷ rest) alike e (inr k) = first (back (b ∷ rest) (λ x l. alike x (inr l)) e k)
    where
      first : (v : Vertex) × IsAmong v (take 1 (b ∷ rest)) × (part_at e.a ≡ part_at v) → (v : Vertex) × IsAmong v (take 1 (a ∷ b ∷ rest)) × (part_at e.a ≡ part_at v)
      first (v, inl is, same) = (a, inl refl, same ∙ ap part_at is ∙ sym (alike (record { a = a; b = b }) (inl refl)))
      first (v, inr none, same) = absurd none

  still_in : (x y : Part) → x ≡ y → ¬ (x ≡ Exterior) → ¬ (y ≡ Exterior)
  still_in x y same in_ out = in_ (same ∙ out)

  path_start : (paths : List (List Vertex)) (e : Edge) (p : Point) → ((f : Edge) → IsAmong f (flat_map edges paths) → IsAmong f (edges_of g)) → IsAmong e (flat_map edges paths) → 0 < p.w
      → is_on e p ≡ true → IsPointOf (Areas rings) p
      → (path : List Vertex) × (v : Vertex) × IsAmong path paths × IsAmong v (take 1 path) × IsPointOf (Areas rings) (at v)
  path_start paths e p own k wide on in_ =
      let one = among_each edges paths e k in
      let start = back one.0 (λ f l. ends_alike f (own f (among_flat edges one.0 f paths one.1 l))) e one.2 in
      let there = stays e p (at e.a) (own e k) wide (omega arith) on (first_on e (at e.a) (is_at-itself e.a)) in
      (one.0, start.0, one.1, start.1, still_in _ _ (there ∙ start.2) in_)

at_place : (v : Vertex) (p : Point) → is_at v p ≡ true → IsSamePlace p (at v)
at_place v p h = (plain p.x (pos p.w) v.x (first p.x (pos p.w *ℤ v.x) (int_eq p.y (pos p.w *ℤ v.y)) h), plain p.y (pos p.w) v.y (second p.y (pos p.w *ℤ v.y) (int_eq p.x (pos p.w *ℤ v.x)) h))
  where
    first : (z a : ℤ) (t : Bool) → (int_eq z a && t) ≡ true → z ≡ a
    first z a t h = grind (arith, ints)

    second : (z a : ℤ) (t : Bool) → (t && int_eq z a) ≡ true → z ≡ a
    second z a t h = grind (arith, ints)

    plain : (z w a : ℤ) → z ≡ w *ℤ a → z *ℤ pos 1 ≡ a *ℤ w
    plain z w a h = rw h (simp monomials)

or_none : (b : Bool) → (b || false) ≡ true → b ≡ true
or_none true h = refl
or_none false h = h

pub some_of : {X : Type 0} (t : X → Bool) (xs : List X) → list_any t xs ≡ true → (x : X) × IsAmong x xs × (t x ≡ true)
some_of t [] h = absurd (never h)
  where
    never : false ≡ true → ⊥
    never h = cc
some_of t (x ∷ xs) h = by_test (t x)
    (λ here. (x, inl refl, here))
    (λ off. let rest = some_of t xs (later (t x) (list_any t xs) off h) in (rest.0, inr rest.1, rest.2))
  where
    later : (b c : Bool) → b ≡ false → (b || c) ≡ true → c ≡ true
    later b c h k = sym (ap (λ (t : Bool). t || c) h) ∙ k

pub tested_in : (x : Part) → ¬ (x ≡ Exterior) → is_within x ≡ true
tested_in Interior h = refl
tested_in Boundary h = refl
tested_in Exterior h = absurd (h refl)

pub in_tested : (x : Part) → is_within x ≡ true → ¬ (x ≡ Exterior)
in_tested x h out = never (subst (λ (y : Part). is_within y ≡ true) out h)
  where
    never : false ≡ true → ⊥
    never e = cc

-- a point of the edges or single points of the one geometry, in an area
module _ (rings : List (List Vertex)) (good : IsGeometry (Areas rings)) where
  start_of : (g : Figure) → AreClear g (Areas rings) → (p : Point) → 0 < p.w → IsOnSkeleton g p → IsPointOf (Areas rings) p → HasStartIn g (Areas rings)
  start_of (Points vs) clear p wide on in_ =
      let v = some_of (λ w. is_at w p) vs on in
      let same = part_of-same_place (Areas rings) p (at v.0) wide (omega arith) (at_place v.0 p v.2) in
      record { path = vs; start = v.0; one = inl refl; first = v.1; within = tested_in _ (λ out. in_ (same ∙ out)) }
  start_of (Lines paths) clear p wide on in_ =
      let e = some_of (λ f. is_on f p) (flat_map edges paths) (or_none _ on) in
      let start = path_start (Lines paths) rings good clear paths e.0 p (λ f k. k) e.1 wide e.2 in_ in
      record { path = start.0; start = start.1; one = start.2; first = start.3; within = tested_in _ start.4 }
  start_of (Areas own) clear p wide on in_ =
      let e = some_of (λ f. is_on f p) (flat_map edges own) (or_none _ on) in
      let start = path_start (Areas own) rings good clear own e.0 p (λ f k. k) e.1 wide e.2 in_ in
      record { path = start.0; start = start.1; one = start.2; first = start.3; within = tested_in _ start.4 }

-- ---- a point within both areas: an edge of one of them has a point in the other

noded_exist : (es : List Edge) (vs : List Vertex) (listed : List Edge) → ((e : Edge) → IsAmong e listed → HasLength e) → (ms : List NodedEdge) × AreNoded es vs listed ms
noded_exist es vs [] long = ([], tt)
noded_exist es vs (e ∷ rest) long =
    let n = nodes_exist es vs e (long e (inl refl)) in
    let more = noded_exist es vs rest (λ f k. long f (inr k)) in
    (record { edge = e; nodes = n.nodes } ∷ more.0, (refl, n.are, more.1))

arrangement_of : (g h : Figure) → IsGeometry g → IsGeometry h → (noded : List NodedEdge) × IsArrangement g h noded
arrangement_of g h good_g good_h =
    let noded = noded_exist (all_edges g h) (all_points g h) (all_edges g h) (λ e k. all_length g h e good_g good_h k) in
    (noded.0, record { first = good_g; second = good_h; are_noded = record { listed = all_edges g h; are = noded.1; all = λ e k. k; only = λ e k. k } })

-- off an edge, nothing of it is just below
below_same : (e : Edge) (p : Point) → HasLength e → 0 < p.w → is_on e p ≡ false → is_at_or_below e p ≡ is_below e p
below_same e p long wide off = elim (forward_or_flipped e long) [
  | inl fw ↦ at_or_below_off e p fw wide off
  | inr fw ↦ sym (is_at_or_below-flip e p) ∙ at_or_below_off (flip e) p fw wide (is_on-flip e p ∙ off) ∙ is_below-flip e p
]

above_is : (h : Figure) (p : Point) → IsGeometry h → 0 < p.w → is_on_skeleton h p ≡ false → part_above h p ≡ part_of h p
above_is h p good wide off =
    let all = off_all h p off in
    above_part-is h p ∙ off_part-same h (λ e. is_at_or_below e p) (λ e. is_below e p) (λ e k. below_same e p (edge_length h e good k) wide (all.edges e k)) ∙ sym (off_part-is h p good all)

-- the middle of a piece is on its edge
middle_on : (g h : Figure) (noded : List NodedEdge) (e : Edge) (k l : Point) → IsArrangement g h noded → IsPiece noded e k l → is_on e (middle k l) ≡ true
middle_on g h noded e k l a piece =
    let m = middle_in_piece g h noded e k l a piece in
    elim (taken_of g h noded e k l a piece) [
      | Straight s ↦ piece_on (all_edges g h) (all_points g h) e k l (middle k l) s m
      | Turned s ↦ sym (is_on-flip e (middle k l)) ∙ piece_on (all_edges g h) (all_points g h) (flip e) k l (middle k l) s (piece_flip e k l (middle k l) m)
    ]

-- a point of an edge of the one in the other, or the other way round
pub data MeetsOther (g h : Figure) : Type 0 where
  First : (p : Point) → 0 < p.w → IsOnSkeleton g p → IsPointOf h p → MeetsOther g h
  Second : (p : Point) → 0 < p.w → IsOnSkeleton h p → IsPointOf g p → MeetsOther g h

both_off : (g h : Figure) (p : Point) → is_on_skeleton g p ≡ false → is_on_skeleton h p ≡ false → IsOffAll (all_edges g h) (all_points g h) p
both_off g h p off_g off_h = record {
  edges = λ e k. elim (among_either e (edges_of g) (edges_of h) k) [ inl one ↦ (off_all g p off_g).edges e one | inr one ↦ (off_all h p off_h).edges e one ];
  points = λ v k. elim (among_either v (points_of g) (points_of h) k) [ inl one ↦ (off_all g p off_g).points v one | inr one ↦ (off_all h p off_h).points v one ];
}

inner_meets : (g h : Figure) (p : Point) → IsGeometry g → IsGeometry h → AreClear g h → 0 < p.w → is_on_skeleton g p ≡ false → is_on_skeleton h p ≡ false → IsPointOf g p → IsPointOf h p → MeetsOther g h
inner_meets g h p good_g good_h clear wide off_g off_h in_g in_h = from_face (arrangement_of g h good_g good_h)
  where
    by_edge : (noded : List NodedEdge) → IsArrangement g h noded → (face : HasFace g h noded (part_of g p) (part_of h p)) → MeetsOther g h
    by_edge noded a face =
        let m = middle face.from_ face.to_ in
        let on = middle_on g h noded face.edge face.from_ face.to_ a face.piece in
        let wide_m : 0 < (middle face.from_ face.to_).w = (middle_in_piece g h noded face.edge face.from_ face.to_ a face.piece).wide in
        elim (among_either face.edge (edges_of g) (edges_of h) (edge_in (all_edges g h) (all_points g h) noded (record { edge = face.edge; nodes = face.piece.nodes }) a.are_noded face.piece.one).edge) [
          | inl one ↦ First m wide_m (edge_on g face.edge m one on)
              (λ out. in_h (sym face.above_both.second ∙ above_is h m good_h wide_m (not_on h (λ also. clear m wide_m (edge_on g face.edge m one on) also)) ∙ out))
          | inr one ↦ Second m wide_m (edge_on h face.edge m one on)
              (λ out. in_g (sym face.above_both.first ∙ above_is g m good_g wide_m (not_on g (λ also. clear m wide_m also (edge_on h face.edge m one on))) ∙ out))
        ]
      where
        not_on : (k : Figure) → ¬ (IsOnSkeleton k (middle face.from_ face.to_)) → is_on_skeleton k (middle face.from_ face.to_) ≡ false
        not_on k none = by_test (is_on_skeleton k (middle face.from_ face.to_)) (λ on. absurd (none on)) (λ off. off)

    from_face : (noded : List NodedEdge) × IsArrangement g h noded → MeetsOther g h
    from_face (noded, a) = elim (face_complete g h noded (part_of g p) (part_of h p) a (open_triangle g h p good_g good_h wide (both_off g h p off_g off_h))) [
      | inl out ↦ absurd (in_g out.0)
      | inr face ↦ by_edge noded a face
    ]

-- ---- a shared point

not_also : (g h : Figure) → AreClear g h → (p : Point) → 0 < p.w → IsOnSkeleton g p → is_on_skeleton h p ≡ false
not_also g h clear p wide on = by_test (is_on_skeleton h p) (λ also. absurd (clear p wide on also)) (λ off. off)

in_area : (g h : Figure) → IsGeometry h → AreClear g h → (p : Point) → 0 < p.w → IsOnSkeleton g p → IsPointOf h p → HasStartInArea g h
in_area g (Points vs) good clear p wide on in_ = absurd (in_ (off_part-is (Points vs) p good (off_all (Points vs) p (not_also g (Points vs) clear p wide on))))
in_area g (Lines paths) good clear p wide on in_ = absurd (in_ (off_part-is (Lines paths) p good (off_all (Lines paths) p (not_also g (Lines paths) clear p wide on))))
in_area g (Areas rings) good clear p wide on in_ = record { area = refl; start = start_of rings good g clear p wide on in_ }

turned_clear : (g h : Figure) → AreClear g h → AreClear h g
turned_clear g h clear = λ p wide on_h on_g. clear p wide on_g on_h

from_meeting : (g h : Figure) → IsGeometry g → IsGeometry h → AreClear g h → MeetsOther g h → HasStartInArea g h ⊎ HasStartInArea h g
from_meeting g h good_g good_h clear (First p wide on in_) = inl (in_area g h good_h clear p wide on in_)
from_meeting g h good_g good_h clear (Second p wide on in_) = inr (in_area h g good_g (turned_clear g h clear) p wide on in_)

pub shared_start : (g h : Figure) → IsGeometry g → IsGeometry h → AreClear g h → (p : Point) → 0 < p.w → IsPointOf g p → IsPointOf h p → HasStartInArea g h ⊎ HasStartInArea h g
shared_start g h good_g good_h clear p wide in_g in_h = from_meeting g h good_g good_h clear (by_test (is_on_skeleton g p)
    (λ on. First p wide on in_h)
    (λ off_g. by_test (is_on_skeleton h p)
    (λ on. Second p wide on in_g)
    (λ off_h. inner_meets g h p good_g good_h clear wide off_g off_h in_g in_h)))

-- ---- a start is a point of its own geometry

path_first : (path : List Vertex) (v : Vertex) → 0 < length (edges path) → IsAmong v (take 1 path) → (e : Edge) × IsAmong e (edges path) × (is_on e (at v) ≡ true)
path_first [] v long k = absurd k
path_first (a ∷ []) v long k = absurd (omega (arith, long))
path_first (a ∷ b ∷ rest) v long (inl is) =
    (record { a = a; b = b }, inl refl, subst (λ (w : Vertex). is_on (record { a = a; b = b }) (at w) ≡ true) (sym is) (first_on (record { a = a; b = b }) (at a) (is_at-itself a)))
path_first (a ∷ b ∷ rest) v long (inr none) = absurd none

pub start_on : (g h : Figure) → IsGeometry g → (start : HasStartIn g h) → IsOnSkeleton g (at start.start)
start_on (Points vs) h good start = point_on (Points vs) start.start (at start.start) (own start.path start.one start.first) (is_at-itself start.start)
  where
    own : (path : List Vertex) → IsAmong path (vs ∷ []) → IsAmong start.start path → IsAmong start.start vs
    own path (inl is) k = subst (λ (l : List Vertex). IsAmong start.start l) is k
    own path (inr none) k = absurd none
start_on (Lines paths) h good start =
    let e = path_first start.path start.start (all_among IsPath start.path paths good.1 start.one).long start.first in
    edge_on (Lines paths) e.0 (at start.start) (among_flat edges start.path e.0 paths start.one e.1) e.2
start_on (Areas rings) h good start =
    let e = path_first start.path start.start (all_among IsRing start.path rings good.1 start.one).path.long start.first in
    edge_on (Areas rings) e.0 (at start.start) (among_flat edges start.path e.0 rings start.one e.1) e.2
