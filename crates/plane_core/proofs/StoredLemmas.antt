-- The paths of a stored geometry, one by one.
use Rattle.std.proofs.Common.{◌≡◌, ◌≤◌, ◌<◌, ◌+◌, ◌-◌, ℕ, arith, true, false, refl, sym, subst, ap, ◌∙◌, List, [], ◌∷◌, ◌++◌, length, get_or, take, drop, suc, zero, append_assoc}
use Rattle.std.specs.Prelude.{Bool, ◌&&◌}
use Rattle.std.specs.List.{flat_map, slice_range, list_all}
use Rattle.std.proofs.lemmas.List.{drop_more, take_more}
use Rattle.plane_core.specs.declared.vertex.Vertex.{Vertex}
use Rattle.plane_core.specs.declared.edge.Edge.{Edge}
use Rattle.plane_core.specs.Figures.{edges, last_or}
use Rattle.plane_core.specs.Paths.{IsEdgeAt}
use Rattle.plane_core.specs.declared.outline.Kind.{Kind}
use Rattle.plane_core.specs.declared.outline.Kind.TheVariants.{Points as Dots, Lines as Polylines, Areas as RingKind}
use Rattle.plane_core.specs.Stored.{paths_of, AreCuts, AreCutsFor}

edges_step : (path : List Vertex) (j : ℕ) (a b : Vertex) → suc j < length path → a ≡ get_or path j a → b ≡ get_or path (suc j) b
    → edges (take (suc (suc j)) path) ≡ edges (take (suc j) path) ++ record { a = a; b = b } ∷ []
edges_step [] j a b lt ea eb = absurd (none lt)
  where
    none : suc j < 0 → ⊥
    none h = omega arith
edges_step (v ∷ []) j a b lt ea eb = absurd (none lt)
  where
    none : suc j < length (v ∷ []) → ⊥
    none h = omega arith
edges_step (v ∷ w ∷ rest) zero a b lt ea eb =
    ap (λ (x : Vertex). record { a = x; b = w } ∷ []) (sym ea) ∙ ap (λ (x : Vertex). record { a = a; b = x } ∷ []) (sym eb)
edges_step (v ∷ w ∷ rest) (suc j) a b lt ea eb =
    ap (λ (es : List Edge). record { a = v; b = w } ∷ es) (edges_step (w ∷ rest) j a b (less lt) ea eb)
  where
    less : suc (suc j) < length (v ∷ w ∷ rest) → suc j < length (w ∷ rest)
    less h = omega arith

pub edges_more : (path : List Vertex) (i : ℕ) (a b : Vertex) → 1 ≤ i → i < length path → a ≡ get_or path (i - 1) a → b ≡ get_or path i b
    → edges (take (i + 1) path) ≡ edges (take i path) ++ record { a = a; b = b } ∷ []
edges_more path zero a b one lt ea eb = absurd (none one)
  where
    none : 1 ≤ 0 → ⊥
    none h = omega arith
edges_more path (suc j) a b one lt ea eb =
    let back : suc j - 1 ≡ j = omega arith in
    let more : suc j + 1 ≡ suc (suc j) = omega arith in
    subst (λ (i : ℕ). edges (take i path) ≡ edges (take (suc j) path) ++ record { a = a; b = b } ∷ []) (sym more)
    (edges_step path j a b lt (subst (λ (i : ℕ). a ≡ get_or path i a) back ea) eb)

pub edges_pushed : (old mid new es : List Edge) (path : List Vertex) (i : ℕ) (a b : Vertex) → 1 ≤ i → i < length path → a ≡ get_or path (i - 1) a → b ≡ get_or path i b
    → mid ≡ old ++ edges (take i path) → new ≡ mid ++ record { a = a; b = b } ∷ [] → new ≡ old ++ edges (take (i + 1) path)
edges_pushed old mid new es path i a b one lt ea eb h k =
    k ∙ ap (λ (xs : List Edge). xs ++ record { a = a; b = b } ∷ []) h ∙ append_assoc old (edges (take i path)) (record { a = a; b = b } ∷ [])
    ∙ ap (λ (xs : List Edge). old ++ xs) (sym (edges_more path i a b one lt ea eb))

-- the ends of the paths of a kind
pub cuts_for : (kind : Kind) (ends : List ℕ) (n : ℕ) → AreCuts 0 ends n → AreCutsFor kind ends n
cuts_for Dots ends n h = tt
cuts_for Polylines ends n h = h
cuts_for RingKind ends n h = h

pub lines_cut : (kind : Kind) (ends : List ℕ) (n : ℕ) → kind ≡ Polylines → AreCutsFor kind ends n → AreCuts 0 ends n
lines_cut kind ends n is h = subst (λ (k : Kind). AreCutsFor k ends n) is h

pub rings_cut : (kind : Kind) (ends : List ℕ) (n : ℕ) → kind ≡ RingKind → AreCutsFor kind ends n → AreCuts 0 ends n
rings_cut kind ends n is h = subst (λ (k : Kind). AreCutsFor k ends n) is h

-- the start of the remaining paths
pub cuts_below : (start : ℕ) (ends : List ℕ) (n : ℕ) → AreCuts start ends n → start ≤ n
cuts_below start [] n h = omega (arith, h)
cuts_below start (end ∷ ends) n h = let k = cuts_below end ends n h.1 in omega (arith, h.0, k)

pub next_cut : (start : ℕ) (ends : List ℕ) (n i end : ℕ) → i < length ends → end ≡ get_or ends i end → AreCuts start (drop i ends) n
    → AreCuts start (end ∷ drop (i + 1) ends) n
next_cut start ends n i end lt is h =
    subst (λ (xs : List ℕ). AreCuts start xs n) (drop_more ends i end lt ∙ ap (λ (x : ℕ). x ∷ drop (i + 1) ends) (sym is)) h

pub next_paths : {A : Type 0} (f : List Vertex → List A) (all old mid new : List A) (start : ℕ) (ends : List ℕ) (vs : List Vertex) (i end : ℕ)
    → i < length ends → end ≡ get_or ends i end
    → all ≡ mid ++ flat_map f (paths_of start (drop i ends) vs) → new ≡ mid ++ f (slice_range vs start end)
    → all ≡ new ++ flat_map f (paths_of end (drop (i + 1) ends) vs)
next_paths f all old mid new start ends vs i end lt is h k =
    h ∙ ap (λ (xs : List ℕ). mid ++ flat_map f (paths_of start xs vs)) (drop_more ends i end lt ∙ ap (λ (x : ℕ). x ∷ drop (i + 1) ends) (sym is))
    ∙ sym (append_assoc mid (f (slice_range vs start end)) (flat_map f (paths_of end (drop (i + 1) ends) vs)))
    ∙ ap (λ (xs : List _). xs ++ flat_map f (paths_of end (drop (i + 1) ends) vs)) (sym k)

pub cut_bound : (start : ℕ) (ends : List ℕ) (n i : ℕ) → i < length ends → AreCuts start (drop i ends) n → get_or ends i 0 ≤ n
cut_bound start ends n i lt h =
    let k = subst (λ (xs : List ℕ). AreCuts start xs n) (drop_more ends i 0 lt) h in
    cuts_below (get_or ends i 0) (drop (i + 1) ends) n k.1

pub edge_more : (old mid new : List Edge) (path : List Vertex) (i : ℕ) (e : Edge) → 1 ≤ i → i < length path → IsEdgeAt path i e
    → mid ≡ old ++ edges (take i path) → new ≡ mid ++ e ∷ [] → new ≡ old ++ edges (take (i + 1) path)
edge_more old mid new path i e one lt is h k = edges_pushed old mid new [] path i e.a e.b one lt is.a is.b h k

list_all-push : {A : Type 0} (f : A → Bool) (xs : List A) (x : A) → list_all f (xs ++ x ∷ []) ≡ (list_all f xs && f x)
list_all-push f [] x = last (f x)
  where
    last : (t : Bool) → (t && true) ≡ (true && t)
    last true = refl
    last false = refl
list_all-push f (y ∷ xs) x = ap (λ (t : Bool). f y && t) (list_all-push f xs x) ∙ regroup (f y) (list_all f xs) (f x)
  where
    regroup : (a b c : Bool) → (a && (b && c)) ≡ (a && b && c)
    regroup true b c = refl
    regroup false b c = refl

pub steps_more : (f : Edge → Bool) (all step : Bool) (path : List Vertex) (i : ℕ) (e : Edge) → 1 ≤ i → i < length path → IsEdgeAt path i e
    → all ≡ list_all f (edges (take i path)) → step ≡ f e → (all && step) ≡ list_all f (edges (take (i + 1) path))
steps_more f all step path i e one lt is h k =
    ap (λ (t : Bool). t && step) h ∙ ap (λ (t : Bool). list_all f (edges (take i path)) && t) k
    ∙ sym (ap (list_all f) (edges_more path i e.a e.b one lt is.a is.b) ∙ list_all-push f (edges (take i path)) e)

last_or-push : (a : Vertex) (xs : List Vertex) (v : Vertex) → last_or a (xs ++ v ∷ []) ≡ v
last_or-push a [] v = refl
last_or-push a (x ∷ xs) v = last_or-push x xs v

pub last_more : (a : Vertex) (xs : List Vertex) (i : ℕ) (v : Vertex) → i < length xs → v ≡ get_or xs i v → v ≡ last_or a (take (i + 1) xs)
last_more a xs i v lt is = sym (ap (last_or a) (take_more xs i v lt ∙ ap (λ (x : Vertex). take i xs ++ x ∷ []) (sym is)) ∙ last_or-push a (take i xs) v)
