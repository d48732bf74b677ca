-- Paths: their edges have length, and a point that is no end of an edge is no end of a path.
use Rattle.std.proofs.Common.{◌≡◌, ◌<◌, ◌+◌, inl, inr, refl, ap, ◌∙◌, false, arith, cond, List, [], ◌∷◌}
use Rattle.std.specs.Prelude.{ℕ, Bool, All, length, sum_by}
use Rattle.std.specs.List.{flat_map}
use Rattle.plane_core.specs.declared.vertex.Vertex.{Vertex}
use Rattle.plane_core.specs.declared.edge.Edge.{Edge}
use Rattle.plane_core.specs.Points.{Point, is_at}
use Rattle.plane_core.specs.Figures.{Figure, Points, Lines, Areas, edges, edges_of, HasLength, IsPath, IsRing, IsGeometry, last_count, end_count}
use Rattle.noding_core.specs.Nodes.{IsAmong}
use Rattle.noding_core.specs.Marks.{all_edges}
use Rattle.noding_core.proofs.NodeLemmas.{all_among}
use Rattle.noding_core.proofs.AmongLemmas.{among_either, among_flat, sum_none}

-- a point at no end of an edge is no end of a path
pub record IsOffEnds (p : Point) (f : Edge) : Type 0 where
  pub first : is_at f.a p ≡ false
  pub last : is_at f.b p ≡ false

last_none : (b : Vertex) (rest : List Vertex) (p : Point) → is_at b p ≡ false → ((f : Edge) → IsAmong f (edges (b ∷ rest)) → IsOffEnds p f) → last_count (b ∷ rest) p ≡ 0
last_none b [] p h k = ap (λ (t : Bool). cond t 1 0) h
last_none b (c ∷ rest) p h k = last_none c rest p (k (record { a = b; b = c }) (inl refl)).last (λ f one. k f (inr one))

end_none : (path : List Vertex) (p : Point) → 0 < length (edges path) → ((f : Edge) → IsAmong f (edges path) → IsOffEnds p f) → end_count p path ≡ 0
end_none [] p long h = refl
end_none (a ∷ []) p long h = absurd (none long)
  where
    none : 0 < 0 → ⊥
    none h = omega arith
end_none (a ∷ b ∷ rest) p long h =
    let first : IsOffEnds p (record { a = a; b = b }) = h (record { a = a; b = b }) (inl refl) in
    ap (λ (t : Bool). cond t 1 0 + last_count (b ∷ rest) p) first.first ∙ ap (λ (n : ℕ). 0 + n) (last_none b rest p first.last (λ f one. h f (inr one)))

pub ends_none : (paths : List (List Vertex)) (p : Point) → All IsPath paths → ((e : Edge) → IsAmong e (flat_map edges paths) → IsOffEnds p e) → sum_by (end_count p) paths ≡ 0
ends_none paths p h off = sum_none (end_count p) paths (λ path k. end_none path p (all_among IsPath path paths h k).long (λ e l. off e (among_flat edges path e paths k l)))

-- the edges of a geometry have length
flat_all : (P : Edge → Type 0) (paths : List (List Vertex)) → ((path : List Vertex) → IsAmong path paths → All P (edges path)) → (e : Edge) → IsAmong e (flat_map edges paths) → P e
flat_all P [] f e h = absurd h
flat_all P (path ∷ paths) f e h = elim (among_either e (edges path) (flat_map edges paths) h) [
  | inl k ↦ all_among P e (edges path) (f path (inl refl)) k
  | inr k ↦ flat_all P paths (λ q l. f q (inr l)) e k
]

pub edge_length : (g : Figure) (e : Edge) → IsGeometry g → IsAmong e (edges_of g) → HasLength e
edge_length (Points vs) e good h = absurd h
edge_length (Lines paths) e good h = flat_all HasLength paths (λ path k. (all_among IsPath path paths good.1 k).steps) e h
edge_length (Areas rings) e good h = flat_all HasLength rings (λ ring k. (all_among IsRing ring rings good.1 k).path.steps) e h

pub all_length : (g h : Figure) (e : Edge) → IsGeometry g → IsGeometry h → IsAmong e (all_edges g h) → HasLength e
all_length g h e good_g good_h k = elim (among_either e (edges_of g) (edges_of h) k) [
  | inl m ↦ edge_length g e good_g m
  | inr m ↦ edge_length h e good_h m
]
