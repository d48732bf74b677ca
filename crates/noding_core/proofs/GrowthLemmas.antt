-- Matrices to which marks were added.
use Rattle.std.proofs.Common.{◌≡◌, ◌≤◌, ◌<◌, ◌+◌, ◌-◌, ◌⊎◌, inl, inr, arith, refl, sym, subst, ap, ◌∙◌, List, [], ◌∷◌, ◌++◌, length, get_or, take, map, append_assoc, suc, zero}
use Rattle.std.specs.Prelude.{ℕ, ℤ, pos, Bool, ◌≢◌, true, false, if◌then◌else◌}
use Rattle.std.proofs.lemmas.Int.{ints}
use Rattle.std.specs.Ordering.{int_eq}
use Rattle.std.proofs.lemmas.List.{take_more, take_all, append-nil, map-append}
use Rattle.relation_core.specs.declared.extent.Extent.{Extent}
use Rattle.relation_core.specs.declared.extent.Extent.TheVariants.{Point as Dot, Line, Area}
use Rattle.relation_core.specs.declared.part.Parts.{Parts}
use Rattle.relation_core.specs.declared.matrix.Matrix.{Matrix}
use Rattle.plane_core.specs.declared.part.Part.{Part}
use Rattle.plane_core.specs.declared.part.Part.TheVariants.{Interior, Boundary, Exterior}
use Rattle.plane_core.specs.declared.edge.Edge.{Edge}
use Rattle.plane_core.specs.declared.node.Node.{Node}
use Rattle.plane_core.specs.declared.outline.Outline.{Outline}
use Rattle.plane_core.specs.Points.{Point, run}
use Rattle.plane_core.specs.Places.{node_point}
use Rattle.plane_core.specs.Outlines.{outline_part, outline_above}
use Rattle.plane_core.specs.PlaneMatrices.{entry, pick}
use Rattle.noding_core.specs.Nodes.{IsAmong}
use Rattle.noding_core.specs.Marks.{rank}
use Rattle.noding_core.specs.Growth.{Mark, HasGrownBy, with_part, mark_at, mark_above, piece_marks, gap_marks, gaps_marks, edge_marks}
use Rattle.noding_core.proofs.AmongLemmas.{among_left, among_right, among_either}

level_zero : (z : ℤ) → int_eq z (pos 0) ≡ true → z ≡ pos 0
level_zero z h = grind (arith, ints)

by_level : (t : Bool) → (t ≡ true → ⊥) → t ≡ false
by_level true f = absurd (f refl)
by_level false f = refl

pub level_not : (z : ℤ) → z ≢ pos 0 → int_eq z (pos 0) ≡ false
level_not z some = by_level (int_eq z (pos 0)) (λ h. some (level_zero z h))

-- one of three values in place of another
pick-with_same : {A : Type 0} (p : Part) (v : A) (r : Parts A) → pick p (with_part p v r) ≡ v
pick-with_same Interior v r = refl
pick-with_same Boundary v r = refl
pick-with_same Exterior v r = refl

pick-with_other : {A : Type 0} (j p : Part) (v : A) (r : Parts A) → (j ≡ p) ⊎ (pick j (with_part p v r) ≡ pick j r)
pick-with_other Interior Interior v r = inl refl
pick-with_other Interior Boundary v r = inr refl
pick-with_other Interior Exterior v r = inr refl
pick-with_other Boundary Interior v r = inr refl
pick-with_other Boundary Boundary v r = inl refl
pick-with_other Boundary Exterior v r = inr refl
pick-with_other Exterior Interior v r = inr refl
pick-with_other Exterior Boundary v r = inr refl
pick-with_other Exterior Exterior v r = inl refl

-- a matrix with one other entry
abbrev pub with_mark : Matrix → Mark → Matrix
with_mark m k = record { rows = with_part k.first (with_part k.second k.extent (pick k.first m.rows)) m.rows }

record IsChanged (m : Matrix) (k : Mark) (i j : Part) : Type 0 where
  pub first : i ≡ k.first
  pub second : j ≡ k.second
  pub value : entry (with_mark m k) i j ≡ k.extent

entry-with : (m : Matrix) (k : Mark) (i j : Part) → (entry (with_mark m k) i j ≡ entry m i j) ⊎ IsChanged m k i j
entry-with m k i j =
    let row : Parts Extent = with_part k.second k.extent (pick k.first m.rows) in
    elim (pick-with_other i k.first row m.rows) [
      | inr e ↦ inl (ap (λ (r : Parts Extent). pick j r) e)
      | inl e ↦
          let here : pick i (with_part k.first row m.rows) ≡ row = subst (λ (p : Part). pick p (with_part k.first row m.rows) ≡ row) (sym e) (pick-with_same k.first row m.rows) in
          elim (pick-with_other j k.second k.extent (pick k.first m.rows)) [
            | inr g ↦ inl (ap (λ (r : Parts Extent). pick j r) here ∙ g ∙ ap (λ (p : Part). pick j (pick p m.rows)) (sym e))
            | inl g ↦ inr (record {
              first = e;
              second = g;
              value = ap (λ (r : Parts Extent). pick j r) here
                  ∙ subst (λ (p : Part). pick p row ≡ k.extent) (sym g) (pick-with_same k.second k.extent (pick k.first m.rows));
            })
          ]
    ]

same_mark : (k n : Mark) → k.first ≡ n.first → k.second ≡ n.second → k.extent ≡ n.extent → k ≡ n
same_mark k n f s x = λ t. record { first = f t; second = s t; extent = x t }

pub grown_one : (k : Mark) (m : Matrix) → rank (entry m k.first k.second) < rank k.extent → HasGrownBy (k ∷ []) m (with_mark m k)
grown_one k m h = record {
  kept = λ i j. elim (entry-with m k i j) [
    | inl e ↦ same (rank (entry m i j)) (rank (entry (with_mark m k) i j)) (ap rank e)
    | inr c ↦ raised (rank (entry m i j)) (rank (entry (with_mark m k) i j)) (rank (entry m k.first k.second)) (rank k.extent)
        (ap (λ (p : Part). rank (entry m p j)) c.first ∙ ap (λ (p : Part). rank (entry m k.first p)) c.second) (ap rank c.value) h
  ];
  reached = λ n one. elim one [
    | inl e ↦ subst (λ (n : Mark). rank n.extent ≤ rank (entry (with_mark m k) n.first n.second)) (sym e) (there (rank k.extent) _ (ap rank at_mark))
    | inr none ↦ absurd none
  ];
  sound = λ i j. elim (entry-with m k i j) [
    | inl e ↦ inl e
    | inr c ↦ inr (inl (same_mark _ _ c.first c.second c.value))
  ];
}
  where
    same : (n l : ℕ) → l ≡ n → n ≤ l
    same n l e = omega arith

    raised : (n l p q : ℕ) → n ≡ p → l ≡ q → p < q → n ≤ l
    raised n l p q e f g = omega arith

    there : (n l : ℕ) → l ≡ n → n ≤ l
    there n l e = omega arith

    at_mark : entry (with_mark m k) k.first k.second ≡ k.extent
    at_mark = ap (λ (r : Parts Extent). pick k.second r) (pick-with_same k.first (with_part k.second k.extent (pick k.first m.rows)) m.rows)
        ∙ pick-with_same k.second k.extent (pick k.first m.rows)

pub grown_none : (k : Mark) (m : Matrix) → rank k.extent ≤ rank (entry m k.first k.second) → HasGrownBy (k ∷ []) m m
grown_none k m h = record {
  kept = λ i j. itself (rank (entry m i j));
  reached = λ n one. elim one [
    | inl e ↦ subst (λ (n : Mark). rank n.extent ≤ rank (entry m n.first n.second)) (sym e) h
    | inr none ↦ absurd none
  ];
  sound = λ i j. inl refl;
}
  where
    itself : (n : ℕ) → n ≤ n
    itself n = omega arith

pub grown-refl : (m : Matrix) → HasGrownBy [] m m
grown-refl m = record { kept = λ i j. itself (rank (entry m i j)); reached = λ n one. absurd one; sound = λ i j. inl refl }
  where
    itself : (n : ℕ) → n ≤ n
    itself n = omega arith

pub grown-trans : (xs ys : List Mark) (a b c : Matrix) → HasGrownBy xs a b → HasGrownBy ys b c → HasGrownBy (xs ++ ys) a c
grown-trans xs ys a b c h k = record {
  kept = λ i j. through _ _ _ (h.kept i j) (k.kept i j);
  reached = λ n one. elim (among_either n xs ys one) [
    | inl l ↦ through _ _ _ (h.reached n l) (k.kept n.first n.second)
    | inr r ↦ k.reached n r
  ];
  sound = λ i j. elim (k.sound i j) [
    | inl e ↦ elim (h.sound i j) [
      | inl g ↦ inl (e ∙ g)
      | inr g ↦ inr (among_left _ xs ys (subst (λ (x : Extent). IsAmong (record { first = i; second = j; extent = x }) xs) (sym e) g))
    ]
    | inr g ↦ inr (among_right _ xs ys g)
  ];
}
  where
    through : (m n l : ℕ) → m ≤ n → n ≤ l → m ≤ l
    through m n l h k = omega arith

pub grown_as : (xs ys : List Mark) (a b : Matrix) → xs ≡ ys → HasGrownBy xs a b → HasGrownBy ys a b
grown_as xs ys a b e h = subst (λ (zs : List Mark). HasGrownBy zs a b) e h

-- one more element's marks
pub grown_more : {A : Type 0} (f : A → Mark) (xs : List A) (i : ℕ) (x : A) (a b c : Matrix) → i < length xs → x ≡ get_or xs i x
    → HasGrownBy (map f (take i xs)) a b → HasGrownBy (f x ∷ []) b c → HasGrownBy (map f (take (i + 1) xs)) a c
grown_more f xs i x a b c lt is h k =
    grown_as (map f (take i xs) ++ f x ∷ []) (map f (take (i + 1) xs)) a c
    (sym (ap (map f) (take_more xs i x lt) ∙ map-append f (take i xs) (get_or xs i x ∷ []) ∙ ap (λ (y : _). map f (take i xs) ++ f y ∷ []) (sym is)))
    (grown-trans (map f (take i xs)) (f x ∷ []) a b c h k)

-- one more gap's marks
gaps_step : (a b : Outline) (e : Edge) (ns : List Node) (j : ℕ) (k l : Node) → suc j < length ns → k ≡ get_or ns j k → l ≡ get_or ns (suc j) l
    → gaps_marks a b e (map node_point (take (suc (suc j)) ns)) ≡ gaps_marks a b e (map node_point (take (suc j) ns)) ++ gap_marks a b e (node_point k) (node_point l)
gaps_step a b e [] j k l lt ek el = absurd (none lt)
  where
    none : suc j < 0 → ⊥
    none h = omega arith
gaps_step a b e (m ∷ []) j k l lt ek el = absurd (none lt)
  where
    none : suc j < length (m ∷ []) → ⊥
    none h = omega arith
gaps_step a b e (m ∷ n ∷ ns) zero k l lt ek el =
    append-nil (gap_marks a b e (node_point m) (node_point n))
    ∙ ap (λ (p : Node). gap_marks a b e (node_point p) (node_point n)) (sym ek) ∙ ap (λ (p : Node). gap_marks a b e (node_point k) (node_point p)) (sym el)
gaps_step a b e (m ∷ n ∷ ns) (suc j) k l lt ek el =
    ap (λ (xs : List Mark). gap_marks a b e (node_point m) (node_point n) ++ xs) (gaps_step a b e (n ∷ ns) j k l (less lt) ek el)
    ∙ sym (append_assoc (gap_marks a b e (node_point m) (node_point n)) (gaps_marks a b e (map node_point (take (suc j) (n ∷ ns)))) (gap_marks a b e (node_point k) (node_point l)))
  where
    less : suc (suc j) < length (m ∷ n ∷ ns) → suc j < length (n ∷ ns)
    less h = omega arith

-- the same marks in another order
pub grown_same : (xs ys : List Mark) (a b : Matrix) → ((k : Mark) → IsAmong k xs → IsAmong k ys) → ((k : Mark) → IsAmong k ys → IsAmong k xs) → HasGrownBy xs a b → HasGrownBy ys a b
grown_same xs ys a b there back h = record {
  kept = h.kept;
  reached = λ k one. h.reached k (back k one);
  sound = λ i j. elim (h.sound i j) [ inl e ↦ inl e | inr one ↦ inr (there _ one) ];
}

four_turned : (ps gs qs xs : List Mark) (k : Mark) → IsAmong k ((ps ++ gs) ++ (qs ++ xs)) → IsAmong k ((ps ++ xs) ++ (gs ++ qs))
four_turned ps gs qs xs k one = elim (among_either k (ps ++ gs) (qs ++ xs) one) [
  | inl first ↦ elim (among_either k ps gs first) [
    | inl p ↦ among_left k (ps ++ xs) (gs ++ qs) (among_left k ps xs p)
    | inr g ↦ among_right k (ps ++ xs) (gs ++ qs) (among_left k gs qs g)
  ]
  | inr last ↦ elim (among_either k qs xs last) [
    | inl q ↦ among_right k (ps ++ xs) (gs ++ qs) (among_right k gs qs q)
    | inr x ↦ among_left k (ps ++ xs) (gs ++ qs) (among_right k ps xs x)
  ]
]

four_back : (ps gs qs xs : List Mark) (k : Mark) → IsAmong k ((ps ++ xs) ++ (gs ++ qs)) → IsAmong k ((ps ++ gs) ++ (qs ++ xs))
four_back ps gs qs xs k one = elim (among_either k (ps ++ xs) (gs ++ qs) one) [
  | inl first ↦ elim (among_either k ps xs first) [
    | inl p ↦ among_left k (ps ++ gs) (qs ++ xs) (among_left k ps gs p)
    | inr x ↦ among_right k (ps ++ gs) (qs ++ xs) (among_right k qs xs x)
  ]
  | inr last ↦ elim (among_either k gs qs last) [
    | inl g ↦ among_left k (ps ++ gs) (qs ++ xs) (among_right k ps gs g)
    | inr q ↦ among_right k (ps ++ gs) (qs ++ xs) (among_left k qs xs q)
  ]
]

-- the first node, and one more node with the gap before it
pub grown_first : (a b : Outline) (e : Edge) (ns : List Node) (n : Node) (old new : Matrix) → 0 < length ns → n ≡ get_or ns 0 n
    → HasGrownBy (mark_at a b Dot (node_point n) ∷ []) old new → HasGrownBy (edge_marks a b (record { edge = e; nodes = map node_point (take 1 ns) })) old new
grown_first a b e [] n old new some is h = absurd (none some)
  where
    none : 0 < 0 → ⊥
    none h = omega arith
grown_first a b e (m ∷ ns) n old new some is h = subst (λ (x : Node). HasGrownBy (mark_at a b Dot (node_point x) ∷ []) old new) is h

pub grown_next : (a b : Outline) (e : Edge) (ns : List Node) (i : ℕ) (k l : Node) (old mid new : Matrix) → 1 ≤ i → i < length ns
    → k ≡ get_or ns (i - 1) k → l ≡ get_or ns i l
    → HasGrownBy (edge_marks a b (record { edge = e; nodes = map node_point (take i ns) })) old mid
    → HasGrownBy (gap_marks a b e (node_point k) (node_point l) ++ mark_at a b Dot (node_point l) ∷ []) mid new
    → HasGrownBy (edge_marks a b (record { edge = e; nodes = map node_point (take (i + 1) ns) })) old new
grown_next a b e ns zero k l old mid new one lt ek el h g = absurd (none one)
  where
    none : 1 ≤ 0 → ⊥
    none h = omega arith
grown_next a b e ns (suc j) k l old mid new one lt ek el h g =
    let back : suc j - 1 ≡ j = omega arith in
    let more : suc j + 1 ≡ suc (suc j) = omega arith in
    let f : Point → Mark = mark_at a b Dot in
    let ps : List Point = map node_point (take (suc j) ns) in
    let gap : List Mark = gap_marks a b e (node_point k) (node_point l) in
    let points : map node_point (take (suc j + 1) ns) ≡ ps ++ node_point l ∷ [] =
    ap (map node_point) (take_more ns (suc j) l lt) ∙ map-append node_point (take (suc j) ns) (get_or ns (suc j) l ∷ []) ∙ ap (λ (x : Node). ps ++ node_point x ∷ []) (sym el) in
    let nodes : map f (map node_point (take (suc j + 1) ns)) ≡ map f ps ++ f (node_point l) ∷ [] = ap (map f) points ∙ map-append f ps (node_point l ∷ []) in
    let gaps : gaps_marks a b e (map node_point (take (suc j + 1) ns)) ≡ gaps_marks a b e ps ++ gap =
    ap (λ (i : ℕ). gaps_marks a b e (map node_point (take i ns))) more ∙ gaps_step a b e ns j k l lt (subst (λ (i : ℕ). k ≡ get_or ns i k) back ek) el in
    subst (λ (xs : List Mark). HasGrownBy (xs ++ gaps_marks a b e (map node_point (take (suc j + 1) ns))) old new) (sym nodes)
    (subst (λ (ys : List Mark). HasGrownBy ((map f ps ++ f (node_point l) ∷ []) ++ ys) old new) (sym gaps)
    (grown_same ((map f ps ++ gaps_marks a b e ps) ++ (gap ++ f (node_point l) ∷ [])) ((map f ps ++ f (node_point l) ∷ []) ++ (gaps_marks a b e ps ++ gap)) old new
    (four_turned (map f ps) (gaps_marks a b e ps) gap (f (node_point l) ∷ [])) (four_back (map f ps) (gaps_marks a b e ps) gap (f (node_point l) ∷ []))
    (grown-trans (map f ps ++ gaps_marks a b e ps) (gap ++ f (node_point l) ∷ []) old mid new h g)))

pub grown_whole : {A : Type 0} (f : A → Mark) (xs : List A) (i : ℕ) (a b : Matrix) → length xs ≤ i → HasGrownBy (map f (take i xs)) a b → HasGrownBy (map f xs) a b
grown_whole f xs i a b h k = grown_as (map f (take i xs)) (map f xs) a b (ap (map f) (take_all i xs h)) k

pub grown_nodes : (a b : Outline) (e : Edge) (ns : List Node) (i : ℕ) (old new : Matrix) → length ns ≤ i
    → HasGrownBy (edge_marks a b (record { edge = e; nodes = map node_point (take i ns) })) old new → HasGrownBy (edge_marks a b (record { edge = e; nodes = map node_point ns })) old new
grown_nodes a b e ns i old new h k = subst (λ (xs : List Node). HasGrownBy (edge_marks a b (record { edge = e; nodes = map node_point xs })) old new) (take_all i ns h) k

-- what raises an entry
pub raised_then : (m : Matrix) (k : Mark) (row changed : Parts Extent) (rows : Parts (Parts Extent)) (known : Extent) (r s : ℕ)
    → row ≡ pick k.first m.rows → known ≡ pick k.second row → changed ≡ with_part k.second k.extent row → rows ≡ with_part k.first changed m.rows
    → r ≡ rank known → s ≡ rank k.extent → r < s → HasGrownBy (k ∷ []) m (record { rows = rows })
raised_then m k row changed rows known r s e f g h i j lt =
    subst (λ (x : Parts (Parts Extent)). HasGrownBy (k ∷ []) m (record { rows = x }))
    (sym (h ∙ ap (λ (x : Parts Extent). with_part k.first x m.rows) (g ∙ ap (with_part k.second k.extent) e)))
    (grown_one k m (less r s (rank (entry m k.first k.second)) (rank k.extent) (i ∙ ap rank (f ∙ ap (pick k.second) e)) j lt))
  where
    less : (r s p q : ℕ) → r ≡ p → s ≡ q → r < s → p < q
    less r s p q e f h = omega arith

pub raised_else : (m : Matrix) (k : Mark) (row : Parts Extent) (known : Extent) (r s : ℕ)
    → row ≡ pick k.first m.rows → known ≡ pick k.second row → r ≡ rank known → s ≡ rank k.extent → s ≤ r → HasGrownBy (k ∷ []) m m
raised_else m k row known r s e f i j le =
    grown_none k m (no_less r s (rank (entry m k.first k.second)) (rank k.extent) (i ∙ ap rank (f ∙ ap (pick k.second) e)) j le)
  where
    no_less : (r s p q : ℕ) → r ≡ p → s ≡ q → s ≤ r → q ≤ p
    no_less r s p q e f h = omega arith

-- a piece and the face above it
pub piece_both : (a b : Outline) (e : Edge) (p : Point) (f s i j : Part) (old mid new : Matrix) (t : Bool) → f ≡ outline_part a p → s ≡ outline_part b p
    → i ≡ outline_above a p → j ≡ outline_above b p → (run e ≡ pos 0 → t ≡ true) → t ≡ false
    → HasGrownBy (record { first = f; second = s; extent = Line } ∷ []) old mid → HasGrownBy (record { first = i; second = j; extent = Area } ∷ []) mid new
    → HasGrownBy (piece_marks a b e p) old new
piece_both a b e p f s i j old mid new t ef es ei ej vertical slanted h k =
    subst (λ (t : Bool). HasGrownBy (mark_at a b Line p ∷ (if t then [] else mark_above a b p ∷ [])) old new) (sym (level_not (run e) (λ z. clash t (vertical z) slanted)))
    (grown-trans (mark_at a b Line p ∷ []) (mark_above a b p ∷ []) old mid new
    (grown_as _ (mark_at a b Line p ∷ []) old mid (ap (λ (m : Mark). m ∷ []) (same_mark _ (mark_at a b Line p) ef es refl)) h)
    (grown_as _ (mark_above a b p ∷ []) mid new (ap (λ (m : Mark). m ∷ []) (same_mark _ (mark_above a b p) ei ej refl)) k))
  where
    clash : (t : Bool) → t ≡ true → t ≡ false → ⊥
    clash t h k = cc
