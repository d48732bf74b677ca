-- The space above pieces: each face contains a triangle, and each triangle that isn't outside lies in
-- part above some piece.
use Rattle.std.proofs.Common.{◌≡◌, ◌<◌, ◌+◌, ◌*◌, ◌⊎◌, inl, inr, arith, refl, sym, subst, ◌∙◌, true, false, List}
use Rattle.std.specs.Prelude.{ℕ, ℤ, pos, ◌*ℤ◌, ◌-ℤ◌, neg_ℤ, ◌≢◌}
use Rattle.std.proofs.lemmas.Int.{ints}
use Rattle.plane_core.specs.declared.vertex.Vertex.{Vertex}
use Rattle.plane_core.specs.declared.edge.Edge.{Edge}
use Rattle.plane_core.specs.declared.part.Part.{Part}
use Rattle.plane_core.specs.declared.part.Part.TheVariants.{Exterior}
use Rattle.plane_core.specs.Points.{Point, run, rise, turn, turn_of, is_on, is_below}
use Rattle.plane_core.specs.Figures.{Figure, edges_of, part_of, part_above, HasLength}
use Rattle.plane_core.specs.PlaneMatrices.{IsInBoth, ShareTriangle}
use Rattle.plane_core.proofs.FormLemmas.{value, IsLine, Steep, Level, side_form, side_form-is, right_of, right_of-is, by_zero, no_zero_divisor}
use Rattle.plane_core.proofs.LargeLemmas.{Large, large_weaker, large_both, one_large}
use Rattle.plane_core.proofs.AvoidLemmas.{inner, triangle_off, across}
use Rattle.plane_core.proofs.OffLemmas.{side_off, not_at_column}
use Rattle.plane_core.proofs.AroundLemmas.{column, column-is}
use Rattle.plane_core.proofs.FootLemmas.{foot_on, below_slanted}
use Rattle.noding_core.specs.Nodes.{IsAmong, IsPointOf, NodedEdge, middle}
use Rattle.noding_core.specs.Marks.{all_edges, all_points, IsPiece, HasFace}
use Rattle.noding_core.proofs.NodeLemmas.{all_among, edge_in}
use Rattle.noding_core.proofs.AmongLemmas.{among_left, among_right, large_all}
use Rattle.noding_core.proofs.FlipLemmas.{flip, turn_of-flip, turn_of-turned}
use Rattle.noding_core.proofs.PieceLemmas.{IsInPiece}
use Rattle.noding_core.proofs.ArrangementLemmas.{IsArrangement, Straight, Turned, taken_of, piece_flip, middle_in_piece, EdgePoint, AtNode, OnPiece, edge_point, face_of_point}
use Rattle.noding_core.proofs.OffPartLemmas.{IsOffAll, off_part-is, off_part-none}
use Rattle.noding_core.proofs.PathLemmas.{all_length}
use Rattle.noding_core.proofs.OpenLemmas.{face_triangle, over_parts, off_first, off_second}
use Rattle.noding_core.proofs.TopmostLemmas.{IsTop, topmost, below_agrees}

-- a vertical edge isn't parallel to one that isn't
upright : (e f : Edge) → HasLength f → run e ≢ pos 0 → turn_of e f ≡ pos 0 → ¬ (run f ≡ pos 0)
upright e f long slanted level vertical = no_zero_divisor (run e) (rise f) slanted (rises (run f) (rise f) vertical refl refl) (plain (run e) (rise f) (run f) (rise e) vertical level)
  where
    plain : (r d q c : ℤ) → q ≡ pos 0 → r *ℤ d -ℤ q *ℤ c ≡ pos 0 → r *ℤ d ≡ pos 0
    plain r d q c h e = let k : r *ℤ d -ℤ pos 0 *ℤ c ≡ pos 0 = rw h at e in omega (arith, ints)

    rises : (q d : ℤ) → q ≡ pos 0 → run f ≡ q → rise f ≡ d → ¬ (d ≡ pos 0)
    rises q d h eq ed low = long (omega (arith, ints), omega (arith, ints))

-- an edge through a point of a piece is parallel to the piece's edge
pub piece_parallel : (g h : Figure) (noded : List NodedEdge) (e : Edge) (k l p : Point) (f : Edge) → IsArrangement g h noded → IsPiece noded e k l → IsInPiece e k l p → IsAmong f (all_edges g h) → is_on f p ≡ true → turn_of e f ≡ pos 0
piece_parallel g h noded e k l p f a piece in_ one on = elim (taken_of g h noded e k l a piece) [
  | Straight s ↦ s.crossing f p in_ one on
  | Turned s ↦ plain (turn_of (flip e) f) (turn_of f (flip e)) (turn_of f e) (turn_of e f) (turn_of-turned (flip e) f) (turn_of-flip f e) (turn_of-turned f e) (s.crossing f p (piece_flip e k l p in_) one on)
]
  where
    plain : (t u v w : ℤ) → u ≡ neg_ℤ t → u ≡ neg_ℤ v → w ≡ neg_ℤ v → t ≡ pos 0 → w ≡ pos 0
    plain t u v w h k m e = omega (arith, ints)

pub face_sound : (g h : Figure) (noded : List NodedEdge) (i j : Part) → IsArrangement g h noded → HasFace g h noded i j → ShareTriangle (IsInBoth g h i j)
face_sound g h noded i j a face =
    subst (λ (b : Part). ShareTriangle (IsInBoth g h b j)) face.above_both.first
    (subst (λ (c : Part). ShareTriangle (IsInBoth g h (part_above g (middle face.from_ face.to_)) c)) face.above_both.second
    (face_triangle g h (middle face.from_ face.to_) a.first a.second in_piece.wide
    (λ f k on. upright face.edge f (all_length g h f a.first a.second k) face.slanted (piece_parallel g h noded face.edge face.from_ face.to_ (middle face.from_ face.to_) f a face.piece in_piece k on))))
  where
    in_piece : IsInPiece face.edge face.from_ face.to_ (middle face.from_ face.to_)
    in_piece = middle_in_piece g h noded face.edge face.from_ face.to_ a face.piece

-- in no column of a node
abbrev pub IsOffNodes : List NodedEdge → Point → Type 0
IsOffNodes noded p = (n : NodedEdge) → IsAmong n noded → (m : Point) → IsAmong m n.nodes → ¬ (p.x *ℤ pos m.w ≡ m.x *ℤ pos p.w)

-- a point off all edges is in both exteriors, or some face is in its parts
pub face_found : (g h : Figure) (noded : List NodedEdge) (p : Point) → IsArrangement g h noded → 0 < p.w → IsOffAll (all_edges g h) (all_points g h) p → IsOffNodes noded p
    → ((part_of g p ≡ Exterior) × (part_of h p ≡ Exterior)) ⊎ HasFace g h noded (part_of g p) (part_of h p)
face_found g h noded p a wide off apart = by_top (topmost p (all_edges g h) wide)
  where
    off_wide : (n : ℕ) → 0 < n → ¬ (pos n ≡ pos 0)
    off_wide n h e = omega (arith, ints)

    by_point : (top : IsTop p (all_edges g h)) → EdgePoint noded top.edge top.point → HasFace g h noded (part_of g p) (part_of h p)
    by_point top (AtNode n z one_n one_z wz same) =
        absurd (apart n one_n z one_z (across p.x z.x top.point.x (pos p.w) (pos z.w) (pos top.point.w) (off_wide top.point.w top.is_foot.wide) (sym top.is_foot.straight) (sym same.0)))
    by_point top (OnPiece k l piece in_) =
        let parts = over_parts g h top.point p a.first a.second off (below_agrees p (all_edges g h) wide top) in
        face_of_point g h noded top.edge k l top.point (part_of g p) (part_of h p) a piece (below_slanted top.edge p wide top.below) in_
        (record { first = sym parts.first; second = sym parts.second })

    by_top : ((f : Edge) → IsAmong f (all_edges g h) → is_below f p ≡ false) ⊎ IsTop p (all_edges g h)
        → ((part_of g p ≡ Exterior) × (part_of h p ≡ Exterior)) ⊎ HasFace g h noded (part_of g p) (part_of h p)
    by_top (inl none) = inl (
      off_part-is g p a.first (off_first g h p off) ∙ off_part-none g (λ e. is_below e p) (λ e k. none e (among_left e (edges_of g) (edges_of h) k)),
      off_part-is h p a.second (off_second g h p off) ∙ off_part-none h (λ e. is_below e p) (λ e k. none e (among_right e (edges_of g) (edges_of h) k)),
    )
    by_top (inr top) = inr (by_point top
        (edge_point g h noded top.edge top.point a top.one top.is_foot.wide (foot_on top.edge p top.point wide top.is_foot top.below)))

-- the line of an edge, and the column of a point
edge_line : (e : Edge) → HasLength e → IsLine (side_form e)
edge_line e long = by_zero (run e) (λ slanted. Level slanted) (λ vertical. Steep (λ low. long (plain_x e.a.x e.b.x vertical, plain_y e.a.y e.b.y low)))
  where
    plain_x : (a b : ℤ) → b -ℤ a ≡ pos 0 → a ≡ b
    plain_x a b h = omega (arith, ints)

    plain_y : (a b : ℤ) → neg_ℤ (b -ℤ a) ≡ pos 0 → a ≡ b
    plain_y a b h = omega (arith, ints)

column_line : (p : Point) → 0 < p.w → IsLine (column p)
column_line p wide = Steep (plain p.w wide)
  where
    plain : (n : ℕ) → 0 < n → ¬ (pos n ≡ pos 0)
    plain n h e = omega (arith, ints)

place_line : (a : ℤ) → IsLine (right_of a)
place_line a = Steep plain
  where
    plain : ¬ (pos 1 ≡ pos 0)
    plain e = omega (arith, ints)

difference : (v m n : ℤ) → v ≡ m -ℤ n → m ≡ n → v ≡ pos 0
difference v m n e h = omega (arith, ints)

-- a point of a triangle that avoids all that is drawn
pub record IsClear (g h : Figure) (noded : List NodedEdge) (p : Point) : Type 0 where
  pub off : IsOffAll (all_edges g h) (all_points g h) p
  pub apart : IsOffNodes noded p

-- each node has a place
pub node_wide : (g h : Figure) (noded : List NodedEdge) → IsArrangement g h noded → (n : NodedEdge) → IsAmong n noded → (m : Point) → IsAmong m n.nodes → 0 < m.w
node_wide g h noded a n k m l =
    let noded_n = edge_in (all_edges g h) (all_points g h) noded n a.are_noded k in
    (all_among (IsPointOf n.edge) m n.nodes noded_n.are.points l).wide

clear_large : (g h : Figure) (noded : List NodedEdge) (p q r : Point) → IsArrangement g h noded → ¬ (turn p q r ≡ pos 0)
    → Large (λ n. IsClear g h noded (inner p q r n))
clear_large g h noded p q r a apart =
    large_weaker (λ n. (OffEdges n × OffPoints n) × OffNodes n) (λ n. IsClear g h noded (inner p q r n))
    (λ n k. record {
      off = record {
        edges = λ e l. side_off e (inner p q r n) (λ level. k.0.0 e l (side_form-is e (inner p q r n) ∙ level));
        points = λ v l. not_at_column v (inner p q r n) (λ level. k.0.1 v l (difference _ _ _ (right_of-is v.x (inner p q r n)) level));
      };
      apart = λ m l d b level. k.1 m l d b (difference _ _ _ (column-is d (inner p q r n)) level);
    })
    (large_both (λ n. OffEdges n × OffPoints n) OffNodes
    (large_both OffEdges OffPoints
    (large_all (λ e n. ¬ (value (side_form e) (inner p q r n) ≡ pos 0)) (all_edges g h) (λ e k. triangle_off (side_form e) p q r (edge_line e (all_length g h e a.first a.second k)) apart))
    (large_all (λ v n. ¬ (value (right_of v.x) (inner p q r n) ≡ pos 0)) (all_points g h) (λ v k. triangle_off (right_of v.x) p q r (place_line v.x) apart)))
    (large_all (λ m n. (d : Point) → IsAmong d m.nodes → ¬ (value (column d) (inner p q r n) ≡ pos 0)) noded
    (λ m k. large_all (λ d n. ¬ (value (column d) (inner p q r n) ≡ pos 0)) m.nodes (λ d l. triangle_off (column d) p q r (column_line d (node_wide g h noded a m k d l)) apart))))
  where
    OffEdges : ℕ → Type 0
    OffEdges n = (e : Edge) → IsAmong e (all_edges g h) → ¬ (value (side_form e) (inner p q r n) ≡ pos 0)

    OffPoints : ℕ → Type 0
    OffPoints n = (v : Vertex) → IsAmong v (all_points g h) → ¬ (value (right_of v.x) (inner p q r n) ≡ pos 0)

    OffNodes : ℕ → Type 0
    OffNodes n = (m : NodedEdge) → IsAmong m noded → (d : Point) → IsAmong d m.nodes → ¬ (value (column d) (inner p q r n) ≡ pos 0)

-- a shared triangle is outside both, or in the parts of a face
pub face_complete : (g h : Figure) (noded : List NodedEdge) (i j : Part) → IsArrangement g h noded → ShareTriangle (IsInBoth g h i j) → ((i ≡ Exterior) × (j ≡ Exterior)) ⊎ HasFace g h noded i j
face_complete g h noded i j a (p, q, r, wp, wq, wr, apart, all) =
    from_one (one_large (λ n. IsClear g h noded (inner p q r n)) (clear_large g h noded p q r a apart))
  where
    wide_inner : (n : ℕ) → 0 < 1 * (1 * p.w + n * q.w) + n * n * r.w
    wide_inner n = omega arith

    some : (n : ℕ) → 0 < 1 + n + n * n
    some n = omega arith

    from_found : (z : Point) → IsInBoth g h i j z → ((part_of g z ≡ Exterior) × (part_of h z ≡ Exterior)) ⊎ HasFace g h noded (part_of g z) (part_of h z) → ((i ≡ Exterior) × (j ≡ Exterior)) ⊎ HasFace g h noded i j
    from_found z is (inl out) = inl (sym is.first ∙ out.0, sym is.second ∙ out.1)
    from_found z is (inr face) = inr (subst (λ (b : Part). HasFace g h noded b j) is.first (subst (λ (c : Part). HasFace g h noded (part_of g z) c) is.second face))

    from_one : (n : ℕ) × (0 < n) × IsClear g h noded (inner p q r n) → ((i ≡ Exterior) × (j ≡ Exterior)) ⊎ HasFace g h noded i j
    from_one (n, up, clear) = from_found (inner p q r n) (all 1 n (n * n) (some n)) (face_found g h noded (inner p q r n) a (wide_inner n) clear.off clear.apart)
