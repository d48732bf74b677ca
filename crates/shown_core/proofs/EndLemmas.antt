-- The ends of polylines in pairs: equal vertices count twice, and those in a box are at no point beyond it.
use Rattle.std.proofs.Common.{◌≡◌, ◌<◌, ◌+◌, ◌*◌, arith, inl, inr, refl, sym, subst, ap, ◌∙◌, true, false, cond, List, [], ◌∷◌, ◌++◌, take, get_or, length}
use Rattle.std.specs.Prelude.{ℕ, ℤ, ◌*ℤ◌, pos, Bool, ◌&&◌, ◌||◌, int_le, if◌then◌else◌, count_by}
use Rattle.std.specs.Ordering.{int_eq}
use Rattle.std.proofs.lemmas.Int.{ints}
use Rattle.std.proofs.lemmas.List.{take_more}
use Rattle.std.proofs.lemmas.List.Sums.{sum_by_push}
use Rattle.geom_core.specs.declared.shape.Shape.{Shape}
use Rattle.geom_core.specs.Shapes.{x1, y1, x2}
use Rattle.plane_core.specs.declared.part.Part.TheVariants.{Interior, Exterior}
use Rattle.plane_core.specs.declared.edge.Edge.{Edge}
use Rattle.plane_core.specs.declared.vertex.Vertex.{Vertex}
use Rattle.plane_core.specs.Points.{Point, is_on, is_at}
use Rattle.plane_core.specs.Figures.{is_odd, part_of}
use Rattle.plane_core.specs.Figures.Figure.{Points}
use Rattle.edge_index_core.specs.Beyond.{is_beyond}
use Rattle.noding_core.specs.Nodes.{IsAmong}
use Rattle.noding_core.proofs.BoxLemmas.{HoldsVertex, HoldsAll}
use Rattle.noding_core.proofs.TestLemmas.{by_test, first_holds, second_holds, true_le}
use Rattle.shown_core.specs.Ends.{is_held, are_settled, HasNoOuterEnd}
use Rattle.shown_core.proofs.BeyondLemmas.{aside, aside_part}

holds : (s : Shape) (v : Vertex) → is_held s v ≡ true → HoldsVertex s v
holds s v h =
    let x = first_holds (int_le (x1 s) v.x && int_le v.x (x2 s)) _ h in
    let y = second_holds (int_le (x1 s) v.x && int_le v.x (x2 s)) _ h in
    record {
      left = true_le _ _ (first_holds _ _ x);
      right = true_le _ _ (second_holds (int_le (x1 s) v.x) _ x);
      low = true_le _ _ (first_holds _ _ y);
      high = true_le _ _ (second_holds (int_le (y1 s) v.y) _ y);
    }

-- a vertex in the box is at no point beyond it
not_beyond : (s : Shape) (e : Edge) (p : Point) (v : Vertex) → is_beyond s e ≡ true → 0 < p.w → is_on e p ≡ true → is_held s v ≡ true → is_at v p ≡ false
not_beyond s e p v beyond wide on held = by_test (is_at v p) (λ here. absurd (inner (is_at v p) here outer)) (λ off. off)
  where
    all : HoldsAll s (Points (v ∷ []))
    all = record { firsts = λ f k. absurd k; lasts = λ f k. absurd k; points = points }
      where
        points : (u : Vertex) → IsAmong u (v ∷ []) → HoldsVertex s u
        points u (inl is) = subst (HoldsVertex s) (sym is) (holds s v held)
        points u (inr k) = absurd k

    outer : part_of (Points (v ∷ [])) p ≡ Exterior
    outer = aside_part (Points (v ∷ [])) s p (omega arith) wide all (aside s e p wide on beyond)

    inner : (t : Bool) → t ≡ true → (if (t || false) then Interior else Exterior) ≡ Exterior → ⊥
    inner true h k = cc
    inner false h k = cc

same_at : (u v : Vertex) (p : Point) → (int_eq u.x v.x && int_eq u.y v.y) ≡ true → is_at u p ≡ is_at v p
same_at u v p h =
    ap (λ (z : ℤ). int_eq p.x (pos p.w *ℤ z) && int_eq p.y (pos p.w *ℤ u.y)) (level u.x v.x (first_holds _ _ h))
    ∙ ap (λ (z : ℤ). int_eq p.x (pos p.w *ℤ v.x) && int_eq p.y (pos p.w *ℤ z)) (level u.y v.y (second_holds (int_eq u.x v.x) _ h))
  where
    level : (m n : ℤ) → int_eq m n ≡ true → m ≡ n
    level m n h = grind (arith, ints)

-- a pair more
twice : (n : ℕ) → is_odd ((n + 1) + 1) ≡ is_odd n
twice n = grind (arith)

same_twice : (n : ℕ) (t u : Bool) → t ≡ u → is_odd ((n + cond {A = ℕ} t 1 0) + cond {A = ℕ} u 1 0) ≡ is_odd n
same_twice n true u h = subst (λ (v : Bool). is_odd ((n + 1) + cond {A = ℕ} v 1 0) ≡ is_odd n) h (twice n)
same_twice n false u h = subst (λ (v : Bool). is_odd ((n + 0) + cond {A = ℕ} v 1 0) ≡ is_odd n) h (ap is_odd (plain n))
  where
    plain : (n : ℕ) → (n + 0) + 0 ≡ n
    plain n = omega arith

settled_same : (s : Shape) (e : Edge) (p : Point) (u v : Vertex) → is_beyond s e ≡ true → 0 < p.w → is_on e p ≡ true → are_settled s u v ≡ true → is_at u p ≡ is_at v p
settled_same s e p u v beyond wide on h = by_test (int_eq u.x v.x && int_eq u.y v.y)
    (λ same. same_at u v p same)
    (λ differ. let both = second_of (int_eq u.x v.x && int_eq u.y v.y) (is_held s u && is_held s v) differ h in
    not_beyond s e p u beyond wide on (first_holds _ _ both) ∙ sym (not_beyond s e p v beyond wide on (second_holds (is_held s u) _ both)))
  where
    second_of : (t w : Bool) → t ≡ false → (t || w) ≡ true → w ≡ true
    second_of true w h k = cc
    second_of false w h k = k

pub no_end : (s : Shape) → HasNoOuterEnd s []
no_end s e p beyond wide on = refl

pub pair_more : (s : Shape) (ends : List Vertex) (i : ℕ) (u v : Vertex) → 2 * i + 1 < length ends → u ≡ get_or ends (2 * i) u → v ≡ get_or ends (2 * i + 1) v → are_settled s u v ≡ true
    → HasNoOuterEnd s (take (2 * i) ends) → HasNoOuterEnd s (take (2 * (i + 1)) ends)
pair_more s ends i u v lt at_u at_v settled h e p beyond wide on =
    let f : Vertex → ℕ = λ w. cond {A = ℕ} (is_at w p) 1 0 in
    let first : take (2 * i + 1) ends ≡ take (2 * i) ends ++ u ∷ [] = take_more ends (2 * i) u (omega arith) ∙ ap (λ (w : Vertex). take (2 * i) ends ++ w ∷ []) (sym at_u) in
    let last : take (2 * i + 1 + 1) ends ≡ take (2 * i + 1) ends ++ v ∷ [] = take_more ends (2 * i + 1) v lt ∙ ap (λ (w : Vertex). take (2 * i + 1) ends ++ w ∷ []) (sym at_v) in
    let next : 2 * (i + 1) ≡ 2 * i + 1 + 1 = omega arith in
    let list : take (2 * (i + 1)) ends ≡ (take (2 * i) ends ++ u ∷ []) ++ v ∷ [] = ap (λ (n : ℕ). take n ends) next ∙ last ∙ ap (λ (xs : List Vertex). xs ++ v ∷ []) first in
    ap (λ (xs : List Vertex). is_odd (count_by (λ w. is_at w p) xs)) list
    ∙ ap is_odd (sum_by_push f (take (2 * i) ends ++ u ∷ []) v ∙ ap (λ (n : ℕ). n + f v) (sum_by_push f (take (2 * i) ends) u))
    ∙ same_twice (count_by (λ w. is_at w p) (take (2 * i) ends)) (is_at u p) (is_at v p) (settled_same s e p u v beyond wide on settled)
    ∙ h e p beyond wide on
