-- All points of a piece lie in one part of a geometry, and so do all points just above them.
use Rattle.std.proofs.Common.{◌≡◌, inl, inr, refl, sym, ap, ◌∙◌, false, arith, List}
use Rattle.std.specs.Prelude.{ℤ, ℕ, pos, ◌*ℤ◌, ◌≤ℤ◌, ◌<ℤ◌, Bool, count_by, sum_by, if◌then◌else◌}
use Rattle.std.specs.List.{list_any, flat_map}
use Rattle.std.proofs.lemmas.Int.{ints, by_lt_z}
use Rattle.plane_core.specs.declared.vertex.Vertex.{Vertex}
use Rattle.plane_core.specs.declared.edge.Edge.{Edge}
use Rattle.plane_core.specs.declared.part.Part.TheVariants.{Interior, Boundary, Exterior}
use Rattle.plane_core.specs.Points.{Point, is_on, is_at, is_below, is_at_or_below}
use Rattle.plane_core.specs.Figures.{Figure, Points, Lines, Areas, edges, edges_of, points_of, HasLength, IsGeometry, is_odd, end_count, part_of, part_above}
use Rattle.noding_core.specs.Nodes.{IsAmong, FirstEnd, LastEnd, Single}
use Rattle.noding_core.proofs.FlipLemmas.{flip, is_on-flip}
use Rattle.noding_core.proofs.PieceLemmas.{IsInPiece, IsPieceOf, forward_of, on_kept}
use Rattle.noding_core.proofs.TestLemmas.{by_test}
use Rattle.noding_core.proofs.PassLemmas.{passes, passes_or_meets, pass, pass_or_meet}
use Rattle.noding_core.proofs.RingLemmas.{any_same, rings_parity}
use Rattle.noding_core.proofs.PathLemmas.{edge_length, ends_none}

-- the edges and the single points of a geometry are among those of an arrangement
pub record IsPartOf (es : List Edge) (vs : List Vertex) (g : Figure) : Type 0 where
  pub geometry : IsGeometry g
  pub edges : (f : Edge) → IsAmong f (edges_of g) → IsAmong f es
  pub points : (v : Vertex) → IsAmong v (points_of g) → IsAmong v vs

-- no point of a piece is a single point, or an end of an edge
not_single : (es : List Edge) (vs : List Vertex) (e : Edge) (k l p : Point) (v : Vertex) → IsPieceOf es vs e k l → IsInPiece e k l p → IsAmong v vs → is_at v p ≡ false
not_single es vs e k l p v piece in_ one = by_test (is_at v p) (λ at_v. absurd (piece.clear p in_ (Single v one at_v))) (λ off. off)

not_first : (es : List Edge) (vs : List Vertex) (e f : Edge) (k l p : Point) → IsPieceOf es vs e k l → IsInPiece e k l p → IsAmong f es → is_at f.a p ≡ false
not_first es vs e f k l p piece in_ one = by_test (is_at f.a p) (λ at_v. absurd (piece.clear p in_ (FirstEnd f one at_v))) (λ off. off)

not_last : (es : List Edge) (vs : List Vertex) (e f : Edge) (k l p : Point) → IsPieceOf es vs e k l → IsInPiece e k l p → IsAmong f es → is_at f.b p ≡ false
not_last es vs e f k l p piece in_ one = by_test (is_at f.b p) (λ at_v. absurd (piece.clear p in_ (LastEnd f one at_v))) (λ off. off)

on_each : (es : List Edge) (vs : List Vertex) (e f : Edge) (k l p q : Point) → IsPieceOf es vs e k l → HasLength f → IsAmong f es → IsInPiece e k l p → IsInPiece e k l q → is_on f p ≡ is_on f q
on_each es vs e f k l p q piece long one in_p in_q = elim (forward_of es vs f long one) [
  | inl fw ↦ on_kept es vs e f k l p q piece fw in_p in_q
  | inr fw ↦ sym (is_on-flip f p) ∙ on_kept es vs e (flip f) k l p q piece fw in_p in_q ∙ is_on-flip f q
]

-- rings pass below both of two points, or below neither, up to an even number
below_right : (es : List Edge) (vs : List Vertex) (e : Edge) (rings : List (List Vertex)) (k l p q : Point) → IsPieceOf es vs e k l → IsPartOf es vs (Areas rings)
    → IsInPiece e k l p → IsInPiece e k l q → (p.x *ℤ pos q.w) ≤ℤ (q.x *ℤ pos p.w)
    → is_odd (count_by (λ f. is_below f p) (flat_map edges rings)) ≡ is_odd (count_by (λ f. is_below f q) (flat_map edges rings))
below_right es vs e rings k l p q piece part in_p in_q order =
    rings_parity (λ f. is_below f p) (λ f. is_below f q) (passes e p q) rings part.geometry.1
    (λ f one. pass es vs e f k l p q piece (edge_length (Areas rings) f part.geometry one) (part.edges f one) in_p in_q order)

below_kept : (es : List Edge) (vs : List Vertex) (e : Edge) (rings : List (List Vertex)) (k l p q : Point) → IsPieceOf es vs e k l → IsPartOf es vs (Areas rings)
    → IsInPiece e k l p → IsInPiece e k l q
    → is_odd (count_by (λ f. is_below f p) (flat_map edges rings)) ≡ is_odd (count_by (λ f. is_below f q) (flat_map edges rings))
below_kept es vs e rings k l p q piece part in_p in_q = by_lt_z (p.x *ℤ pos q.w) (q.x *ℤ pos p.w)
    (λ right. below_right es vs e rings k l p q piece part in_p in_q (weak _ _ right))
    (λ left. sym (below_right es vs e rings k l q p piece part in_q in_p left))
  where
    weak : (m n : ℤ) → m <ℤ n → m ≤ℤ n
    weak m n h = omega (arith, ints)

at_or_below_right : (es : List Edge) (vs : List Vertex) (e : Edge) (rings : List (List Vertex)) (k l p q : Point) → e.a.x <ℤ e.b.x → IsPieceOf es vs e k l → IsPartOf es vs (Areas rings)
    → IsInPiece e k l p → IsInPiece e k l q → (p.x *ℤ pos q.w) ≤ℤ (q.x *ℤ pos p.w)
    → is_odd (count_by (λ f. is_at_or_below f p) (flat_map edges rings)) ≡ is_odd (count_by (λ f. is_at_or_below f q) (flat_map edges rings))
at_or_below_right es vs e rings k l p q right piece part in_p in_q order =
    rings_parity (λ f. is_at_or_below f p) (λ f. is_at_or_below f q) (passes_or_meets e p q) rings part.geometry.1
    (λ f one. pass_or_meet es vs e f k l p q right piece (edge_length (Areas rings) f part.geometry one) (part.edges f one) in_p in_q order)

at_or_below_kept : (es : List Edge) (vs : List Vertex) (e : Edge) (rings : List (List Vertex)) (k l p q : Point) → e.a.x <ℤ e.b.x → IsPieceOf es vs e k l → IsPartOf es vs (Areas rings)
    → IsInPiece e k l p → IsInPiece e k l q
    → is_odd (count_by (λ f. is_at_or_below f p) (flat_map edges rings)) ≡ is_odd (count_by (λ f. is_at_or_below f q) (flat_map edges rings))
at_or_below_kept es vs e rings k l p q right piece part in_p in_q = by_lt_z (p.x *ℤ pos q.w) (q.x *ℤ pos p.w)
    (λ order. at_or_below_right es vs e rings k l p q right piece part in_p in_q (weak _ _ order))
    (λ order. sym (at_or_below_right es vs e rings k l q p right piece part in_q in_p order))
  where
    weak : (m n : ℤ) → m <ℤ n → m ≤ℤ n
    weak m n h = omega (arith, ints)

pub part_kept : (g : Figure) (es : List Edge) (vs : List Vertex) (e : Edge) (k l p q : Point) → IsPieceOf es vs e k l → IsPartOf es vs g → IsInPiece e k l p → IsInPiece e k l q → part_of g p ≡ part_of g q
part_kept (Points ps) es vs e k l p q piece part in_p in_q =
    ap (λ (t : Bool). if t then Interior else Exterior) (any_same (λ v. is_at v p) (λ v. is_at v q) ps
    (λ v one. not_single es vs e k l p v piece in_p (part.points v one) ∙ sym (not_single es vs e k l q v piece in_q (part.points v one))))
part_kept (Lines paths) es vs e k l p q piece part in_p in_q =
    ap (λ (n : ℕ). if is_odd n then Boundary else (if list_any (λ f. is_on f p) (flat_map edges paths) then Interior else Exterior)) (none p in_p ∙ sym (none q in_q))
    ∙ ap (λ (t : Bool). if is_odd (sum_by (end_count q) paths) then Boundary else (if t then Interior else Exterior))
    (any_same (λ f. is_on f p) (λ f. is_on f q) (flat_map edges paths)
    (λ f one. on_each es vs e f k l p q piece (edge_length (Lines paths) f part.geometry one) (part.edges f one) in_p in_q))
  where
    none : (z : Point) → IsInPiece e k l z → sum_by (end_count z) paths ≡ 0
    none z in_z = ends_none paths z part.geometry.1 (λ f one. record {
      first = not_first es vs e f k l z piece in_z (part.edges f one);
      last = not_last es vs e f k l z piece in_z (part.edges f one);
    })
part_kept (Areas rings) es vs e k l p q piece part in_p in_q =
    ap (λ (t : Bool). if t then Boundary else (if is_odd (count_by (λ f. is_below f p) (flat_map edges rings)) then Interior else Exterior))
    (any_same (λ f. is_on f p) (λ f. is_on f q) (flat_map edges rings)
    (λ f one. on_each es vs e f k l p q piece (edge_length (Areas rings) f part.geometry one) (part.edges f one) in_p in_q))
    ∙ ap (λ (t : Bool). if list_any (λ f. is_on f q) (flat_map edges rings) then Boundary else (if t then Interior else Exterior)) (below_kept es vs e rings k l p q piece part in_p in_q)

pub part_above_kept : (g : Figure) (es : List Edge) (vs : List Vertex) (e : Edge) (k l p q : Point) → e.a.x <ℤ e.b.x → IsPieceOf es vs e k l → IsPartOf es vs g → IsInPiece e k l p → IsInPiece e k l q
    → part_above g p ≡ part_above g q
part_above_kept (Points ps) es vs e k l p q right piece part in_p in_q = refl
part_above_kept (Lines paths) es vs e k l p q right piece part in_p in_q = refl
part_above_kept (Areas rings) es vs e k l p q right piece part in_p in_q =
    ap (λ (t : Bool). if t then Interior else Exterior) (at_or_below_kept es vs e rings k l p q right piece part in_p in_q)
