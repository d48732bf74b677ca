-- Items that are printed one after another.
use Rattle.std.proofs.Common.{◌≡◌, ℕ, zero, suc, ◌+◌, ◌<◌, ◌≤◌, List, [], ◌∷◌, ◌++◌, length, get_or, take, refl, sym, ◌∙◌, ap, subst, arith}
use Rattle.std.specs.Prelude.{◌==◌, false, Result, OnOk, codes, if◌then◌else◌}
use Rattle.std.specs.List.{flat_map}
use Rattle.std.proofs.lemmas.List.{append_assoc, append-nil, take_all, take_more}
use Rattle.std.proofs.lemmas.List.Concat.{flat_map-append}
use Rattle.plane_core.specs.declared.vertex.Vertex.{Vertex}
use Rattle.plane_core.specs.Figures.{Figure, dim_of}
use Rattle.plane_core.specs.Figures.Figure.{Points, Lines, Areas}
use Rattle.plane_core.specs.Vertices.{paths_in}
use Rattle.number_core.specs.declared.scale.Scale.{Scale}
use Rattle.wkt_any_core.specs.Canonical.{separated, separator, points_text, lines_text, areas_text, canonical}

module _ {X : Type 0} (spell : X → List ℕ) where
  abbrev further : X → List ℕ
  further x = codes ", " ++ spell x

  separated_more : (xs : List X) (i : ℕ) (x : X) → i < length xs → x ≡ get_or xs i x
      → separated spell (take (i + 1) xs) ≡ separated spell (take i xs) ++ (separator i ++ spell x)
  separated_more [] i x lt is = absurd (omega (arith, lt))
  separated_more (y ∷ ys) zero x lt is = append-nil (spell y) ∙ ap spell (sym is)
  separated_more (y ∷ ys) (suc j) x lt is =
      let next : suc j + 1 ≡ suc (suc j) = omega arith in
      ap (λ (n : ℕ). separated spell (take n (y ∷ ys))) next
      ∙ ap (λ (zs : List X). spell y ++ flat_map further zs) (more j lt is)
      ∙ ap (λ (t : List ℕ). spell y ++ t) (flat_map-append further (take j ys) (x ∷ []) ∙ ap (λ (t : List ℕ). flat_map further (take j ys) ++ t) (append-nil (further x)))
      ∙ sym (append_assoc (spell y) (flat_map further (take j ys)) (further x))
    where
      more : (j : ℕ) → suc j < length (y ∷ ys) → x ≡ get_or (y ∷ ys) (suc j) x → take (suc j) ys ≡ take j ys ++ x ∷ []
      more j lt is =
          let one : j + 1 ≡ suc j = omega arith in
          subst (λ (n : ℕ). take n ys ≡ take j ys ++ x ∷ []) one (take_more ys j x (omega (arith, lt)) ∙ ap (λ (z : X). take j ys ++ z ∷ []) (sym is))

  -- the separator before an item, and the item
  pub item_added : (xs : List X) (i : ℕ) (x : X) (start before between after : List ℕ) → i < length xs → x ≡ get_or xs i x
      → before ≡ start ++ separated spell (take i xs) → between ≡ before ++ separator i → after ≡ between ++ spell x
      → after ≡ start ++ separated spell (take (i + 1) xs)
  item_added xs i x start before between after lt is e f g =
      let done = separated spell (take i xs) in
      g ∙ ap (λ (t : List ℕ). t ++ spell x) (f ∙ ap (λ (t : List ℕ). t ++ separator i) e)
      ∙ append_assoc (start ++ done) (separator i) (spell x) ∙ append_assoc start done (separator i ++ spell x)
      ∙ ap (λ (t : List ℕ). start ++ t) (sym (separated_more xs i x lt is))

  pub items_none : (xs : List X) (start : List ℕ) → start ≡ start ++ separated spell (take 0 xs)
  items_none xs start = sym (append-nil start)

  pub items_all : (xs : List X) (i : ℕ) (start end : List ℕ) → length xs ≤ i → end ≡ start ++ separated spell (take i xs) → end ≡ start ++ separated spell xs
  items_all xs i start end le e = e ∙ ap (λ (ys : List X). start ++ separated spell ys) (take_all i xs le)

-- ---- the spelling by the dimension

module _ (scale : Scale) where
  pub points_canonical : (g : Figure) (vs : List Vertex) → dim_of g ≡ 0 → ((none : List Vertex) → vs ≡ get_or (paths_in g) 0 none)
      → points_text scale vs ≡ canonical scale g
  points_canonical (Points ws) vs d is = ap (points_text scale) (is [])
  points_canonical (Lines paths) vs d is = absurd (omega (arith, d))
  points_canonical (Areas rings) vs d is = absurd (omega (arith, d))

  pub lines_canonical : (g : Figure) → dim_of g ≡ 1 → lines_text scale (paths_in g) ≡ canonical scale g
  lines_canonical (Points vs) d = absurd (omega (arith, d))
  lines_canonical (Lines paths) d = refl
  lines_canonical (Areas rings) d = absurd (omega (arith, d))

  pub areas_canonical : (g : Figure) → ¬ (dim_of g ≡ 0) → ¬ (dim_of g ≡ 1) → areas_text scale (paths_in g) ≡ canonical scale g
  areas_canonical (Points vs) m n = absurd (m refl)
  areas_canonical (Lines paths) m n = absurd (n refl)
  areas_canonical (Areas rings) m n = refl

pub has_path : (g : Figure) → dim_of g ≡ 0 → 0 < length (paths_in g)
has_path (Points vs) d = omega arith
has_path (Lines paths) d = absurd (omega (arith, d))
has_path (Areas rings) d = absurd (omega (arith, d))

-- ---- what stands before an item

pub separator_first : (i : ℕ) (start end : List ℕ) → i ≡ 0 → end ≡ start → end ≡ start ++ separator i
separator_first zero start end h e = e ∙ sym (append-nil start)
separator_first (suc i) start end h e = absurd (omega (arith, h))

pub separator_later : (i : ℕ) (start end : List ℕ) → ¬ (i ≡ 0) → end ≡ start ++ codes ", " → end ≡ start ++ separator i
separator_later zero start end h e = absurd (h refl)
separator_later (suc i) start end h e = e

-- the separator before an item, by the index
pub ruleset before_item = (separator_first, separator_later)

-- ---- the spelling by how many parts there are

pub one_text : {A E : Type 0} (r : Result A E) (n : ℕ) (start end one many : List ℕ) → n ≡ 1 → OnOk r (end ≡ start ++ one)
    → OnOk r (end ≡ start ++ (if n == 1 then one else many))
one_text r n start end one many h k = rw h k

pub many_text : {A E : Type 0} (r : Result A E) (n : ℕ) (start end one many : List ℕ) → ¬ (n ≡ 1) → OnOk r (end ≡ start ++ many)
    → OnOk r (end ≡ start ++ (if n == 1 then one else many))
many_text r n start end one many h k = rw (other n h) k
  where
    other : (n : ℕ) → ¬ (n ≡ 1) → (n == 1) ≡ false
    other n h = grind (arith, h)
