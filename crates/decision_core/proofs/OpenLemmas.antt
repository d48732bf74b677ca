-- For the masks of a relation, bounds leave open only what they don't tell: of masks that differ in
-- what must not be empty alone, one that fits the lower bound fits the upper one too.
use Rattle.std.proofs.Common.{◌≡◌, ◌≤◌, ◌==◌, ◌↔◌, ℕ, inl, inr, refl, sym, subst, ◌∙◌, arith, List, [], ◌∷◌}
use Rattle.std.specs.Prelude.{Bool, true, false, ◌&&◌, nat_lt, if◌then◌else◌}
use Rattle.relation_core.specs.declared.extent.Extent.{Extent}
use Rattle.relation_core.specs.declared.extent.Extent.TheVariants.{Empty, Point, Line, Area}
use Rattle.relation_core.specs.declared.part.Parts.{Parts}
use Rattle.relation_core.specs.declared.matrix.Matrix.{Matrix}
use Rattle.relation_core.specs.declared.pattern_value.PatternValue.{PatternValue}
use Rattle.relation_core.specs.declared.pattern_value.PatternValue.TheVariants.{Any, NotEmpty, Exactly}
use Rattle.relation_core.specs.declared.mask.Mask.{Mask as MaskType}
use Rattle.relation_core.specs.declared.relation.Relation.{Relation}
use Rattle.relation_core.specs.declared.relation.Relation.TheVariants.{Mask, Disjoint, Intersects, Touches, Crosses, Within, Contains, Overlaps, Equals, Covers, CoveredBy, ContainsProperly}
use Rattle.relation_core.specs.Masks.{Allows, Fits, FitsRow}
use Rattle.relation_core.specs.Relations.{FitsOne, masks}
use Rattle.noding_core.specs.Marks.{rank}
use Rattle.decision_core.specs.Orders.{IsRowBelow, IsBelow}
use Rattle.decision_core.specs.Decisions.{FitsEach, SomeMask, FitsBoth}
use Rattle.decision_core.proofs.DecisionLemmas.{same_rank, empty_below, at_least}

-- an extent that the first value allows, raised to one that the second allows, is one that the first
-- allows
abbrev carries_value : PatternValue → PatternValue → Bool
carries_value Any w = true
carries_value NotEmpty w = true
carries_value (Exactly x) Any = false
carries_value (Exactly x) NotEmpty = false
carries_value (Exactly x) (Exactly y) = rank x == rank y

abbrev carries_row : Parts PatternValue → Parts PatternValue → Bool
carries_row r s = carries_value r.interior s.interior && (carries_value r.boundary s.boundary && carries_value r.exterior s.exterior)

abbrev carries : MaskType → MaskType → Bool
carries m n = carries_row m.rows.interior n.rows.interior && (carries_row m.rows.boundary n.rows.boundary && carries_row m.rows.exterior n.rows.exterior)

abbrev carries_each : MaskType → List MaskType → Bool
carries_each m [] = true
carries_each m (n ∷ ns) = carries m n && carries_each m ns

abbrev carries_all : List MaskType → List MaskType → Bool
carries_all [] ns = true
carries_all (m ∷ ms) ns = carries_each m ns && carries_all ms ns

first_of : (s t : Bool) → (s && t) ≡ true → s ≡ true
first_of true t h = refl
first_of false t h = cc

second_of : (s t : Bool) → (s && t) ≡ true → t ≡ true
second_of true t h = h
second_of false t h = absurd cc

equal_ranks : (m n : ℕ) → (m == n) ≡ true → m ≡ n
equal_ranks m n h = grind arith

value_carried : (v w : PatternValue) (d e : Extent) → carries_value v w ≡ true → rank d ≤ rank e → Allows v d → Allows w e → Allows v e
value_carried Any w d e c h p q = tt
value_carried NotEmpty w d e c h p q = λ is. p (empty_below d e h is)
value_carried (Exactly x) Any d e c h p q = absurd cc
value_carried (Exactly x) NotEmpty d e c h p q = absurd cc
value_carried (Exactly x) (Exactly y) d e c h p q = q ∙ sym (same_rank x y (equal_ranks (rank x) (rank y) c))

row_carried : (r s : Parts PatternValue) (d e : Parts Extent) → carries_row r s ≡ true → IsRowBelow d e → FitsRow r d → FitsRow s e → FitsRow r e
row_carried r s d e c h p q =
    let i : Bool = carries_value r.interior s.interior in
    let b : Bool = carries_value r.boundary s.boundary in
    let x : Bool = carries_value r.exterior s.exterior in
    let rest = second_of i (b && x) c in
    record {
      interior = value_carried r.interior s.interior d.interior e.interior (first_of i (b && x) c) h.interior p.interior q.interior;
      boundary = value_carried r.boundary s.boundary d.boundary e.boundary (first_of b x rest) h.boundary p.boundary q.boundary;
      exterior = value_carried r.exterior s.exterior d.exterior e.exterior (second_of b x rest) h.exterior p.exterior q.exterior;
    }

carried : (m n : MaskType) (x y : Matrix) → carries m n ≡ true → IsBelow x y → Fits m x → Fits n y → Fits m y
carried m n x y c h p q =
    let i : Bool = carries_row m.rows.interior n.rows.interior in
    let b : Bool = carries_row m.rows.boundary n.rows.boundary in
    let e : Bool = carries_row m.rows.exterior n.rows.exterior in
    let rest = second_of i (b && e) c in
    record {
      interior = row_carried m.rows.interior n.rows.interior x.rows.interior y.rows.interior (first_of i (b && e) c) h.interior p.interior q.interior;
      boundary = row_carried m.rows.boundary n.rows.boundary x.rows.boundary y.rows.boundary (first_of b e rest) h.boundary p.boundary q.boundary;
      exterior = row_carried m.rows.exterior n.rows.exterior x.rows.exterior y.rows.exterior (second_of b e rest) h.exterior p.exterior q.exterior;
    }

each_carried : (m : MaskType) (ns : List MaskType) (x y : Matrix) → carries_each m ns ≡ true → IsBelow x y → Fits m x → FitsOne ns y → Fits m y
each_carried m [] x y c h p q = absurd q
each_carried m (n ∷ ns) x y c h p (inl q) = carried m n x y (first_of (carries m n) (carries_each m ns) c) h p q
each_carried m (n ∷ ns) x y c h p (inr q) = each_carried m ns x y (second_of (carries m n) (carries_each m ns) c) h p q

both_fit : (ms ns : List MaskType) (x y : Matrix) → carries_all ms ns ≡ true → IsBelow x y → FitsOne ms x → FitsOne ns y → SomeMask (FitsBoth x y) ms
both_fit [] ns x y c h p q = absurd p
both_fit (m ∷ ms) ns x y c h (inl p) q = inl (record { first = p; last = each_carried m ns x y (first_of (carries_each m ns) (carries_all ms ns) c) h p q })
both_fit (m ∷ ms) ns x y c h (inr p) q = inr (both_fit ms ns x y (second_of (carries_each m ns) (carries_all ms ns) c) h p q)

-- one mask
both_hold : (s t : Bool) → s ≡ true → t ≡ true → (s && t) ≡ true
both_hold true t h k = k
both_hold false t h k = h

carries_itself : (v : PatternValue) → carries_value v v ≡ true
carries_itself Any = refl
carries_itself NotEmpty = refl
carries_itself (Exactly Empty) = refl
carries_itself (Exactly Point) = refl
carries_itself (Exactly Line) = refl
carries_itself (Exactly Area) = refl

row_itself : (r : Parts PatternValue) → carries_row r r ≡ true
row_itself r = both_hold (carries_value r.interior r.interior) _ (carries_itself r.interior)
    (both_hold (carries_value r.boundary r.boundary) (carries_value r.exterior r.exterior) (carries_itself r.boundary) (carries_itself r.exterior))

mask_itself : (m : MaskType) → carries m m ≡ true
mask_itself m = both_hold (carries_row m.rows.interior m.rows.interior) _ (row_itself m.rows.interior)
    (both_hold (carries_row m.rows.boundary m.rows.boundary) (carries_row m.rows.exterior m.rows.exterior) (row_itself m.rows.boundary) (row_itself m.rows.exterior))

-- the masks of a relation
abbrev CarryAll : List MaskType → Type 0
CarryAll ms = carries_all ms ms ≡ true

by_test : (t : Bool) (xs ys : List MaskType) → CarryAll xs → CarryAll ys → CarryAll (if t then xs else ys)
by_test true xs ys h k = h
by_test false xs ys h k = k

carry_all : (r : Relation) (c d : ℕ) → CarryAll (masks r c d)
carry_all (Mask m) c d = both_hold (carries m m && true) true (both_hold (carries m m) true (mask_itself m) refl) refl
carry_all Disjoint c d = refl
carry_all Intersects c d = refl
carry_all Touches c d = by_test ((c == 0) && (d == 0)) [] _ refl refl
carry_all Crosses c d = by_test (nat_lt c d) _ _ refl (by_test (nat_lt d c) _ _ refl (by_test (c == 1) _ [] refl refl))
carry_all Within c d = refl
carry_all Contains c d = refl
carry_all Overlaps c d = by_test (c == d) _ [] (by_test (c == 1) _ _ refl refl) refl
carry_all Equals c d = refl
carry_all Covers c d = refl
carry_all CoveredBy c d = refl
carry_all ContainsProperly c d = refl

both_bounds : (r : Relation) (c d : ℕ) (least greatest : Matrix) → IsBelow least greatest → FitsEach (masks r c d) least greatest → SomeMask (FitsBoth least greatest) (masks r c d)
both_bounds r c d least greatest h each =
    both_fit (masks r c d) (masks r c d) least greatest (carry_all r c d) h
    (each least (record { above = at_least least; below = h }))
    (each greatest (record { above = h; below = at_least greatest }))

-- so where the two bounds aren't both fitted, some matrix between them isn't
pub not_each : (ms : List MaskType) (least greatest : Matrix) (found : Bool) → (found ≡ true) ↔ SomeMask (FitsBoth least greatest) ms → found ≡ false
    → (r : Relation) (c d : ℕ) → ms ≡ masks r c d → IsBelow least greatest → ¬ (FitsEach ms least greatest)
not_each ms least greatest found test none r c d is h each =
    let some = subst (SomeMask (FitsBoth least greatest)) (sym is)
    (both_bounds r c d least greatest h (subst (λ (xs : List MaskType). FitsEach xs least greatest) is each)) in
    let found_it = test.1 some in absurd cc
