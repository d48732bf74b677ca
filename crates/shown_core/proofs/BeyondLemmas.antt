-- An edge beyond the box of the other geometry lies in its exterior, and so does the space just above
-- the edge.
use Rattle.std.proofs.Common.{◌≡◌, ◌<◌, inl, inr, arith, refl, sym, subst, ap, ◌∙◌, true, false, List, [], ◌∷◌}
use Rattle.std.specs.Prelude.{ℤ, pos, ◌*ℤ◌, ◌<ℤ◌, Bool, ◌&&◌, ◌||◌, int_lt, int_le, if◌then◌else◌, All, count_by}
use Rattle.std.specs.List.{list_any, flat_map}
use Rattle.std.proofs.lemmas.Int.{ints}
use Rattle.geom_core.specs.declared.shape.Shape.{Shape}
use Rattle.geom_core.specs.Shapes.{x1, y1, x2, y2}
use Rattle.plane_core.specs.declared.part.Part.TheVariants.{Interior, Boundary, Exterior}
use Rattle.plane_core.specs.declared.vertex.Vertex.{Vertex}
use Rattle.plane_core.specs.declared.edge.Edge.{Edge}
use Rattle.plane_core.specs.declared.outline.Outline.{Outline}
use Rattle.plane_core.specs.Points.{Point, is_on, is_below, is_at_or_below, is_between}
use Rattle.plane_core.specs.Figures.{Figure, IsGeometry, HasLength, edges, edges_of, points_of, part_of, part_above, is_odd}
use Rattle.plane_core.specs.Figures.Figure.{Points, Lines, Areas}
use Rattle.plane_core.specs.Outlines.{outline_part, outline_above}
use Rattle.plane_core.specs.Vertices as vertices
use Rattle.plane_core.specs.Vertices.{vertices_of}
use Rattle.plane_core.proofs.OutlineLemmas.{outline_part-is, outline_above-is}
use Rattle.plane_core.proofs.ScaleLemmas.{less_scaled}
use Rattle.noding_core.specs.Nodes.{IsAmong}
use Rattle.edge_index_core.specs.Beyond.{is_beyond}
use Rattle.shown_core.specs.Beyond.{IsBounded}
use Rattle.shown_core.specs.Lying.{LiesIn}
use Rattle.noding_core.proofs.AmongLemmas.{among_flat}
use Rattle.noding_core.proofs.NodeLemmas.{all_among}
use Rattle.noding_core.proofs.PathLemmas.{edge_length}
use Rattle.noding_core.proofs.FlipLemmas.{flip, is_on-flip, is_below-flip, is_at_or_below-flip, forward_or_flipped}
use Rattle.noding_core.proofs.PassLemmas.{at_or_below_off}
use Rattle.noding_core.proofs.OffPartLemmas.{off_part-same}
use Rattle.noding_core.proofs.BoxApartLemmas.{less_of}
use Rattle.noding_core.proofs.NearLemmas.{or_four}
use Rattle.noding_core.proofs.BoxLemmas.{HoldsVertex, HoldsAll, left_exterior, right_exterior, low_exterior, high_outside}
use Rattle.noding_core.proofs.OrderLemmas.{wide_z}
use Rattle.noding_core.proofs.TestLemmas.{by_test, clash}
use Rattle.noding_core.proofs.ReadOffLemmas.{among_each}
use Rattle.shown_core.proofs.ShownLemmas.{any_among}

-- the box of a geometry's vertices holds the ends of its edges and its points
edge_first : (path : List Vertex) (e : Edge) → IsAmong e (edges path) → IsAmong e.a path
edge_first [] e h = absurd h
edge_first (a ∷ []) e h = absurd h
edge_first (a ∷ b ∷ rest) e (inl is) = inl (ap (λ (x : Edge). x.a) is)
edge_first (a ∷ b ∷ rest) e (inr k) = inr (edge_first (b ∷ rest) e k)

edge_last : (path : List Vertex) (e : Edge) → IsAmong e (edges path) → IsAmong e.b path
edge_last [] e h = absurd h
edge_last (a ∷ []) e h = absurd h
edge_last (a ∷ b ∷ rest) e (inl is) = inr (inl (ap (λ (x : Edge). x.b) is))
edge_last (a ∷ b ∷ rest) e (inr k) = inr (edge_last (b ∷ rest) e k)

in_path : (f : Edge → Vertex) (paths : List (List Vertex)) (e : Edge) → ((path : List Vertex) → IsAmong e (edges path) → IsAmong (f e) path)
    → IsAmong e (flat_map edges paths) → IsAmong (f e) (flat_map (λ (path : List Vertex). path) paths)
in_path f paths e in_ h =
    let k = among_each edges paths e h in
    among_flat (λ (path : List Vertex). path) k.0 (f e) paths k.1 (in_ k.0 k.2)

edge_end : (g : Figure) (f : Edge → Vertex) (e : Edge) → ((path : List Vertex) → IsAmong e (edges path) → IsAmong (f e) path) → IsAmong e (edges_of g) → IsAmong (f e) (vertices_of g)
edge_end (Points vs) f e in_ h = absurd h
edge_end (Lines paths) f e in_ h = in_path f paths e in_ h
edge_end (Areas rings) f e in_ h = in_path f rings e in_ h

single : (g : Figure) (v : Vertex) → IsAmong v (points_of g) → IsAmong v (vertices_of g)
single (Points vs) v h = among_flat (λ (path : List Vertex). path) vs v (vs ∷ []) (inl refl) h
single (Lines paths) v h = absurd h
single (Areas rings) v h = absurd h

held : (s : Shape) (g : Figure) (v : Vertex) → All (vertices.HoldsVertex s) (vertices_of g) → IsAmong v (vertices_of g) → HoldsVertex s v
held s g v all one =
    let h = all_among (vertices.HoldsVertex s) v (vertices_of g) all one in
    record { left = h.left; right = h.right; low = h.low; high = h.high }

pub holds_all : (s : Shape) (g : Figure) → All (vertices.HoldsVertex s) (vertices_of g) → HoldsAll s g
holds_all s g all = record {
  firsts = λ e one. held s g e.a all (edge_end g (λ (x : Edge). x.a) e (λ path k. edge_first path e k) one);
  lasts = λ e one. held s g e.b all (edge_end g (λ (x : Edge). x.b) e (λ path k. edge_last path e k) one);
  points = λ v one. held s g v all (single g v one);
}

-- a point of an edge on one side of a box is on that side
pub data IsAside (s : Shape) (p : Point) : Type 0 where
  Left : p.x <ℤ (pos p.w *ℤ x1 s) → IsAside s p
  Right : (pos p.w *ℤ x2 s) <ℤ p.x → IsAside s p
  Low : p.y <ℤ (pos p.w *ℤ y1 s) → IsAside s p
  High : (pos p.w *ℤ y2 s) <ℤ p.y → IsAside s p

pub between_less : (m n z k : ℤ) → ((int_le m z && int_le z n) || (int_le n z && int_le z m)) ≡ true → m <ℤ k → n <ℤ k → z <ℤ k
between_less m n z k h a b = grind (arith, ints)

pub between_more : (m n z k : ℤ) → ((int_le m z && int_le z n) || (int_le n z && int_le z m)) ≡ true → k <ℤ m → k <ℤ n → k <ℤ z
between_more m n z k h a b = grind (arith, ints)

and_left : (t u : Bool) → (t && u) ≡ true → t ≡ true
and_left true u h = refl
and_left false u h = cc

and_right : (t u : Bool) → (t && u) ≡ true → u ≡ true
and_right true u h = h
and_right false u h = cc

pub columns_of : (e : Edge) (p : Point) → is_on e p ≡ true → is_between e.a.x e.b.x p.w p.x ≡ true
columns_of e p h = and_right _ _ (and_left _ _ h)

pub rows_of : (e : Edge) (p : Point) → is_on e p ≡ true → is_between e.a.y e.b.y p.w p.y ≡ true
rows_of e p h = and_right _ _ h

pub aside : (s : Shape) (e : Edge) (p : Point) → 0 < p.w → is_on e p ≡ true → is_beyond s e ≡ true → IsAside s p
aside s e p wide on h =
    let up = wide_z p.w wide in
    or_four (int_lt e.a.x (x1 s) && int_lt e.b.x (x1 s)) (int_lt (x2 s) e.a.x && int_lt (x2 s) e.b.x) (int_lt e.a.y (y1 s) && int_lt e.b.y (y1 s)) (int_lt (y2 s) e.a.y && int_lt (y2 s) e.b.y) h
    (λ k. Left (between_less _ _ p.x _ (columns_of e p on) (less_scaled (pos p.w) e.a.x (x1 s) up (less_of _ _ (and_left _ _ k))) (less_scaled (pos p.w) e.b.x (x1 s) up (less_of _ _ (and_right _ _ k)))))
    (λ k. Right (between_more _ _ p.x _ (columns_of e p on) (less_scaled (pos p.w) (x2 s) e.a.x up (less_of _ _ (and_left _ _ k))) (less_scaled (pos p.w) (x2 s) e.b.x up (less_of _ _ (and_right _ _ k)))))
    (λ k. Low (between_less _ _ p.y _ (rows_of e p on) (less_scaled (pos p.w) e.a.y (y1 s) up (less_of _ _ (and_left _ _ k))) (less_scaled (pos p.w) e.b.y (y1 s) up (less_of _ _ (and_right _ _ k)))))
    (λ k. High (between_more _ _ p.y _ (rows_of e p on) (less_scaled (pos p.w) (y2 s) e.a.y up (less_of _ _ (and_left _ _ k))) (less_scaled (pos p.w) (y2 s) e.b.y up (less_of _ _ (and_right _ _ k)))))

-- and so the point is exterior, and on no edge
pub aside_part : (g : Figure) (s : Shape) (p : Point) → IsGeometry g → 0 < p.w → HoldsAll s g → IsAside s p → part_of g p ≡ Exterior
aside_part g s p good wide all (Left h) = left_exterior g s p good (wide_z p.w wide) all h
aside_part g s p good wide all (Right h) = right_exterior g s p good (wide_z p.w wide) all h
aside_part g s p good wide all (Low h) = low_exterior g s p good (wide_z p.w wide) all h
aside_part g s p good wide all (High h) = high_outside g s p good (wide_z p.w wide) all h

pub none_on : {A : Type 0} (q : A → Bool) (xs : List A) (x : A) → list_any q xs ≡ false → IsAmong x xs → q x ≡ false
none_on q xs x off k = by_test (q x) (λ yes. clash (list_any q xs) (any_among q xs x k yes) off) (λ no_. no_)

pub below_same : (e : Edge) (p : Point) → HasLength e → 0 < p.w → is_on e p ≡ false → is_at_or_below e p ≡ is_below e p
below_same e p long wide off = elim (forward_or_flipped e long) [
  | inl fw ↦ at_or_below_off e p fw wide off
  | inr fw ↦ sym (is_at_or_below-flip e p) ∙ at_or_below_off (flip e) p fw wide (is_on-flip e p ∙ off) ∙ is_below-flip e p
]

not_exterior : Boundary ≡ Exterior → ⊥
not_exterior h = cc

pub above_exterior : (g : Figure) (p : Point) → IsGeometry g → 0 < p.w → part_of g p ≡ Exterior → part_above g p ≡ Exterior
above_exterior (Points vs) p good wide out = refl
above_exterior (Lines paths) p good wide out = refl
above_exterior (Areas rings) p good wide out =
    let es = flat_map edges rings in
    let below = is_odd (count_by (λ e. is_below e p) es) in
    by_test (list_any (λ e. is_on e p) es)
    (λ on. absurd (not_exterior (subst (λ (t : Bool). (if t then Boundary else (if below then Interior else Exterior)) ≡ Exterior) on out)))
    (λ off.
    off_part-same (Areas rings) (λ e. is_at_or_below e p) (λ e. is_below e p)
    (λ e one. below_same e p (edge_length (Areas rings) e good one) wide (none_on (λ f. is_on f p) es e off one))
    ∙ subst (λ (t : Bool). (if t then Boundary else (if below then Interior else Exterior)) ≡ Exterior) off out)

-- the parts of the points of such an edge in the other geometry
beyond_part : (o : Outline) (s : Shape) (e : Edge) (p : Point) → IsBounded o s → is_beyond s e ≡ true → 0 < p.w → is_on e p ≡ true → outline_part o p ≡ Exterior
beyond_part o s e p b beyond wide on =
    outline_part-is b.figure o p b.outline ∙ aside_part b.figure s p b.geometry wide (holds_all s b.figure b.box) (aside s e p wide on beyond)

beyond_above : (o : Outline) (s : Shape) (e : Edge) (p : Point) → IsBounded o s → is_beyond s e ≡ true → 0 < p.w → is_on e p ≡ true → outline_above o p ≡ Exterior
beyond_above o s e p b beyond wide on =
    outline_above-is b.figure o p b.outline
    ∙ above_exterior b.figure p b.geometry wide (aside_part b.figure s p b.geometry wide (holds_all s b.figure b.box) (aside s e p wide on beyond))

pub lies_beyond : (o : Outline) (s : Shape) (e : Edge) → IsBounded o s → is_beyond s e ≡ true → LiesIn o e Exterior
lies_beyond o s e b beyond = record {
  on = λ p wide on. beyond_part o s e p b beyond wide on;
  above = λ p wide on. beyond_above o s e p b beyond wide on;
}
