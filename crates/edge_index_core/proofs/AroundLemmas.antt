-- Edges that don't lie on one side of a box have boxes that meet it, so that trees and boxes of runs
-- find them.
use Rattle.std.proofs.Common.{◌≡◌, ◌<◌, ◌+◌, arith, ℕ, zero, suc, true, false, List, [], ◌∷◌, ◌++◌, length, get_or, map, take, drop, refl, sym, subst, ap, ◌∙◌, append_assoc, append-nil}
use Rattle.std.specs.Prelude.{ℤ, ◌≤ℤ◌, ◌<ℤ◌, Bool, ◌||◌, ◌&&◌, int_lt, All, Any, Contains, Result, Ok, Err, IfOk}
use Rattle.std.specs.declared.alloc.AllocError.{AllocError}
use Rattle.std.specs.declared.alloc.Global.{Global}
use Rattle.std.specs.declared.vec.Vec.{Vec}
use Rattle.std.specs.Int.{int_min, int_max}
use Rattle.std.proofs.lemmas.Int.{ints, clamps, by_lt_z}
use Rattle.std.proofs.lemmas.List.{take_more, get_or_default, map-append}
use Rattle.std.proofs.lemmas.List.Elements.{All-nil, All-push, All-head, All-tail, All-map, All-weaker, All-contains, Contains-get_or, Contains-append_left, Contains-push}
use Rattle.geom_core.specs.declared.shape.Shape.{Shape}
use Rattle.geom_core.specs.Shapes.{x1, y1, x2, y2}
use Rattle.geom_core.specs.Cells.{Meets}
use Rattle.geom_core.proofs.SpanLemmas.{common_line}
use Rattle.plane_core.specs.declared.edge.Edge.{Edge}
use Rattle.rtree_core.specs.declared.node.Entry.{Entry}
use Rattle.rtree_core.specs.Windows.{AllMet, AllFound}
use Rattle.edge_index_core.specs.Around.{IsKept, AreAround, AddsAround}
use Rattle.edge_index_core.specs.Beyond.{is_left, is_right, is_low, is_high, is_beyond}
use Rattle.edge_index_core.specs.Bounds.{IsBoxOf}
use Rattle.edge_index_core.specs.Runs.{run_len, HoldsEdge}
use Rattle.edge_index_core.specs.Trees.{IsEntryIn, HoldsEdges}
use Rattle.edge_index_core.proofs.EntryLemmas.{tree_holds}
use Rattle.edge_index_core.proofs.RunLemmas.{run_off}
use Rattle.edge_index_core.proofs.TreeLemmas.{all_in}

-- the edges of a list, one after another
pub adds_no_edge : (s : Shape) (near : List Edge) → AddsAround s [] near near
adds_no_edge s near = λ done h. subst (λ (l : List Edge). AreAround s l near) (sym (append-nil done)) h

-- one more edge, which is on one side of the box
one_beyond : (s : Shape) (done near : List Edge) (e : Edge) → is_beyond s e ≡ true → AreAround s done near → AreAround s (done ++ e ∷ []) near
one_beyond s done near e beyond h = record {
  own = All-weaker (Contains done) (Contains (done ++ e ∷ [])) (λ f k. Contains-append_left done (e ∷ []) f k) near h.own;
  kept = All-push (IsKept s near) done e h.kept (λ no. absurd (clash (is_beyond s e) beyond no));
}
  where
    clash : (t : Bool) → t ≡ true → t ≡ false → ⊥
    clash t h k = cc

one_around : (s : Shape) (done near : List Edge) (e : Edge) → AreAround s done near → AreAround s (done ++ e ∷ []) (near ++ e ∷ [])
one_around s done near e h = record {
  own = All-push (Contains (done ++ e ∷ [])) near e
      (All-weaker (Contains done) (Contains (done ++ e ∷ [])) (λ f k. Contains-append_left done (e ∷ []) f k) near h.own) (Contains-push done e);
  kept = All-push (IsKept s (near ++ e ∷ [])) done e
      (All-weaker (IsKept s near) (IsKept s (near ++ e ∷ [])) (λ f k no. Contains-append_left near (e ∷ []) f (k no)) done h.kept) (λ no. Contains-push near e);
}

next_edge : (done es : List Edge) (i : ℕ) (e : Edge) → i < length es → e ≡ get_or es i e → (done ++ take i es) ++ e ∷ [] ≡ done ++ take (i + 1) es
next_edge done es i e lt is =
    append_assoc done (take i es) (e ∷ []) ∙ ap (λ (l : List Edge). done ++ l) (sym (take_more es i e lt ∙ ap (λ (x : Edge). take i es ++ x ∷ []) (sym is)))

pub adds_beyond : (s : Shape) (es old near : List Edge) (i : ℕ) (e : Edge) → i < length es → e ≡ get_or es i e → is_beyond s e ≡ true
    → AddsAround s (take i es) old near → AddsAround s (take (i + 1) es) old near
adds_beyond s es old near i e lt is beyond h = λ done k.
    subst (λ (l : List Edge). AreAround s l near) (next_edge done es i e lt is) (one_beyond s (done ++ take i es) near e beyond (h done k))

pub adds_kept : (s : Shape) (es old near new : List Edge) (i : ℕ) (e : Edge) → i < length es → e ≡ get_or es i e → new ≡ near ++ e ∷ []
    → AddsAround s (take i es) old near → AddsAround s (take (i + 1) es) old new
adds_kept s es old near new i e lt is pushed h = λ done k.
    subst (λ (l : List Edge). AreAround s l new) (next_edge done es i e lt is)
    (subst (λ (ns : List Edge). AreAround s ((done ++ take i es) ++ e ∷ []) ns) (sym pushed) (one_around s (done ++ take i es) near e (h done k)))

-- from no edges on
none_around : (s : Shape) (near : List Edge) → near ≡ [] → AreAround s [] near
none_around s near is = record {
  own = subst (All (Contains [])) (sym is) (All-nil (Contains []));
  kept = All-nil (IsKept s near);
}

pub around_all : (s : Shape) (es near new : List Edge) → near ≡ [] → AddsAround s es near new → AreAround s es new
around_all s es near new is h = h [] (none_around s near is)

-- on no side of a box
or_first : (t u : Bool) → (t || u) ≡ false → t ≡ false
or_first true u h = cc
or_first false u h = refl

or_second : (t u : Bool) → (t || u) ≡ false → u ≡ false
or_second true u h = cc
or_second false u h = h

reaches_low : (a b limit : ℤ) → (int_lt a limit && int_lt b limit) ≡ false → limit ≤ℤ int_max a b
reaches_low a b limit h = by_lt_z a limit
    (λ la. by_lt_z b limit (λ lb. absurd (both a b limit la lb h)) (λ kb. omega (arith, ints, clamps)))
    (λ ka. omega (arith, ints, clamps))
  where
    both : (a b limit : ℤ) → a <ℤ limit → b <ℤ limit → (int_lt a limit && int_lt b limit) ≡ false → ⊥
    both a b limit la lb h = grind (arith, ints)

reaches_high : (a b limit : ℤ) → (int_lt limit a && int_lt limit b) ≡ false → int_min a b ≤ℤ limit
reaches_high a b limit h = by_lt_z limit a
    (λ la. by_lt_z limit b (λ lb. absurd (both a b limit la lb h)) (λ kb. omega (arith, ints, clamps)))
    (λ ka. omega (arith, ints, clamps))
  where
    both : (a b limit : ℤ) → limit <ℤ a → limit <ℤ b → (int_lt limit a && int_lt limit b) ≡ false → ⊥
    both a b limit la lb h = grind (arith, ints)

moved_high : (m n k : ℤ) → m ≡ n → n ≤ℤ k → m ≤ℤ k
moved_high m n k h le = omega (arith, ints)

moved_low : (m n k : ℤ) → m ≡ n → k ≤ℤ n → k ≤ℤ m
moved_low m n k h le = omega (arith, ints)

pub box_meets : (s t : Shape) (e : Edge) → IsBoxOf e t → is_beyond s e ≡ false → Meets t s
box_meets s t e box off =
    let left_right = or_first (is_left s e || is_right s e) (is_low s e) (or_first (is_left s e || is_right s e || is_low s e) (is_high s e) off) in
    let left = or_first (is_left s e) (is_right s e) left_right in
    let right = or_second (is_left s e) (is_right s e) left_right in
    let low = or_second (is_left s e || is_right s e) (is_low s e) (or_first (is_left s e || is_right s e || is_low s e) (is_high s e) off) in
    let high = or_second (is_left s e || is_right s e || is_low s e) (is_high s e) off in
    let x = common_line t.x s.x
    (moved_high _ _ _ box.first_x (reaches_high e.a.x e.b.x (x2 s) right))
    (moved_low _ _ _ box.second_x (reaches_low e.a.x e.b.x (x1 s) left)) in
    let y = common_line t.y s.y
    (moved_high _ _ _ box.first_y (reaches_high e.a.y e.b.y (y2 s) high))
    (moved_low _ _ _ box.second_y (reaches_low e.a.y e.b.y (y1 s) low)) in
    (x.0, y.0, (x.1, y.1), (x.2, y.2))

-- a list up to its rest, by runs
pub record IsAroundTo (s : Shape) (es rest near : List Edge) : Type 0 where
  pub done : List Edge
  pub whole : es ≡ done ++ rest
  pub around : AreAround s done near

pub none_to : (s : Shape) (es near : List Edge) → near ≡ [] → IsAroundTo s es es near
none_to s es near is = record { done = []; whole = refl; around = none_around s near is }

pub run_to : (s : Shape) (es rest run after old new : List Edge) → run ≡ take run_len rest → after ≡ drop run_len rest → AddsAround s run old new
    → IsAroundTo s es rest old → IsAroundTo s es after new
run_to s es rest run after old new run_is is adds h = subst (λ (l : List Edge). IsAroundTo s es l new) (sym is) (record {
  done = h.done ++ take run_len rest;
  whole = run_off es h.done rest h.whole;
  around = subst (λ (l : List Edge). AreAround s (h.done ++ l) new) run_is (adds h.done h.around);
})

-- edges in a box that doesn't meet another lie on one side of that
held_beyond : (s t : Shape) (e : Edge) → ¬ (Meets t s) → HoldsEdge t e → is_beyond s e ≡ true
held_beyond s t e off held = by_test (is_beyond s e) (λ yes. yes)
    (λ no. let m = box_meets s held.own e held.own_is no in absurd (off (m.0, m.1, held.within m.0 m.1 m.2, m.3)))
  where
    by_test : {P : Type 0} (b : Bool) → (b ≡ true → P) → (b ≡ false → P) → P
    by_test true f g = f refl
    by_test false f g = g refl

adds_apart : (s t : Shape) (es near : List Edge) → ¬ (Meets t s) → All (HoldsEdge t) es → AddsAround s es near near
adds_apart s t [] near off held = adds_no_edge s near
adds_apart s t (e ∷ es) near off held = λ done h.
    subst (λ (l : List Edge). AreAround s l near) (append_assoc done (e ∷ []) es)
    (adds_apart s t es near off (All-tail (HoldsEdge t) e es held) (done ++ e ∷ [])
    (one_beyond s done near e (held_beyond s t e off (All-head (HoldsEdge t) e es held)) h))

pub run_off_to : (s : Shape) (es rest after : List Edge) (t : Shape) (near : List Edge) → after ≡ drop run_len rest → ¬ (Meets t s) → All (HoldsEdge t) (take run_len rest)
    → IsAroundTo s es rest near → IsAroundTo s es after near
run_off_to s es rest after t near is off held h = run_to s es rest (take run_len rest) after near near refl is (adds_apart s t (take run_len rest) near off held) h

pub whole_around : (s : Shape) (es rest near : List Edge) → rest ≡ [] → IsAroundTo s es rest near → AreAround s es near
whole_around s es rest near none h =
    subst (λ (l : List Edge). AreAround s l near) (sym (h.whole ∙ ap (λ (l : List Edge). h.done ++ l) none ∙ append-nil h.done)) h.around

-- the numbers that a tree finds
pub numbers_within : (s : Shape) (es : List Edge) (entries : List Entry) (numbers : List ℕ) → HoldsEdges es entries → AllMet s entries numbers → All (λ k. k < length es) numbers
numbers_within s es entries numbers holds met =
    All-weaker (λ k. Any (λ (x : Entry). (x.number ≡ k) × Meets x.shape s) entries) (λ k. k < length es)
    (λ k h. subst (λ (n : ℕ). n < length es) h.4.0 (All-contains (IsEntryIn es) entries h.1 (all_in es entries holds) (h.0, h.2, h.3)).within) numbers met

contains_mapped : (f : ℕ → Edge) (ks : List ℕ) (k : ℕ) → Contains ks k → Contains (map f ks) (f k)
contains_mapped f [] k h = absurd (none h.0 h.1)
  where
    none : (n : ℕ) → n < 0 → ⊥
    none n l = omega arith
contains_mapped f (x ∷ ks) k (zero, lt, is) = (0, omega arith, λ i. f (is i))
contains_mapped f (x ∷ ks) k (suc n, lt, is) =
    let r = contains_mapped f ks k (n, omega (arith, lt), is) in
    (suc r.0, omega (arith, r.1), r.2)

pub numbers_around : (s : Shape) (es : List Edge) (entries : List Entry) (numbers : List ℕ) (near : List Edge) → HoldsEdges es entries → AllMet s entries numbers → AllFound s entries numbers
    → ((d : Edge) → near ≡ map (λ k. get_or es k d) numbers) → AreAround s es near
numbers_around s es entries numbers near holds met found is = record {
  own = λ i d lt. subst (All (Contains es)) (sym (is d))
      (All-map (Contains es) (λ k. get_or es k d) numbers
      (All-weaker (λ k. k < length es) (λ k. Contains es (get_or es k d)) (λ k within. Contains-get_or es k d within) numbers (numbers_within s es entries numbers holds met))) i d lt;
  kept = λ k d lt off.
      let x = tree_holds es holds.entries entries holds.are holds.same k lt d in
      let there = All-contains (λ y. Meets y.shape s → Contains numbers y.number) entries x.0 found x.2 (box_meets s x.0.shape (get_or es k d) x.1.box_is off) in
      subst (λ (n : ℕ). Contains near (get_or es n d)) x.1.number_is
      (subst (λ (ns : List Edge). Contains ns (get_or es x.0.number d)) (sym (is d)) (contains_mapped (λ m. get_or es m d) numbers x.0.number there));
}

pub found_around : (s : Shape) (es : List Edge) (entries : List Entry) (numbers : List ℕ) (r : Result (Vec Edge Global) AllocError) → HoldsEdges es entries → AllMet s entries numbers → AllFound s entries numbers
    → IfOk r (λ v. (d : Edge) → v.items ≡ map (λ k. get_or es k d) numbers) → IfOk r (λ v. AreAround s es v.items)
found_around s es entries numbers (Ok v) holds met found h = numbers_around s es entries numbers v.items holds met found h
found_around s es entries numbers (Err e) holds met found h = tt

-- one more edge, by its number
pub item_more : (es : List Edge) (ks : List ℕ) (found new : List Edge) (i : ℕ) (e d : Edge) → i < length ks → get_or ks i 0 < length es → e ≡ get_or es (get_or ks i 0) e → new ≡ found ++ e ∷ []
    → found ≡ map (λ n. get_or es n d) (take i ks) → new ≡ map (λ n. get_or es n d) (take (i + 1) ks)
item_more es ks found new i e d lt within is pushed h =
    let f : ℕ → Edge = λ n. get_or es n d in
    let item : e ≡ f (get_or ks i 0) = is ∙ get_or_default es (get_or ks i 0) e d within in
    pushed ∙ ap (λ (xs : List Edge). xs ++ e ∷ []) h ∙ ap (λ (x : Edge). map f (take i ks) ++ x ∷ []) item
    ∙ sym (ap (map f) (take_more ks i 0 lt) ∙ map-append f (take i ks) (get_or ks i 0 ∷ []))
