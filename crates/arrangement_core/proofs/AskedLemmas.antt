-- Entries that no mask asks for may have any extent: the same masks fit, and marks that are added to
-- two matrices that agree elsewhere leave them so.
use Rattle.std.proofs.Common.{◌≡◌, ◌≤◌, ◌<◌, ℕ, inl, inr, refl, sym, subst, ap, ◌∙◌, arith, true, false, List, [], ◌∷◌}
use Rattle.std.specs.Prelude.{Bool, pos, if◌then◌else◌}
use Rattle.std.specs.List.{list_all}
use Rattle.std.proofs.lemmas.Int.{ints, by_lt_z}
use Rattle.relation_core.specs.declared.extent.Extent.{Extent}
use Rattle.relation_core.specs.declared.extent.Extent.TheVariants.{Empty, Point as Dot, Line, Area}
use Rattle.relation_core.specs.declared.mask.Mask.{Mask}
use Rattle.relation_core.specs.declared.matrix.Matrix.{Matrix}
use Rattle.relation_core.specs.declared.pattern_value.PatternValue.{PatternValue}
use Rattle.relation_core.specs.declared.pattern_value.PatternValue.TheVariants.{Any, NotEmpty, Exactly}
use Rattle.relation_core.specs.Masks.{Allows, Fits}
use Rattle.relation_core.specs.Relations.{FitsOne}
use Rattle.decision_core.specs.Orders.{IsBelow}
use Rattle.decision_core.proofs.DecisionLemmas.{same_rank}
use Rattle.plane_core.specs.declared.part.Part.{Part}
use Rattle.plane_core.specs.declared.part.Part.TheVariants.{Interior, Boundary, Exterior}
use Rattle.plane_core.specs.PlaneMatrices.{entry, pick}
use Rattle.noding_core.specs.Nodes.{IsAmong}
use Rattle.noding_core.specs.Marks.{rank}
use Rattle.noding_core.specs.Growth.{Mark, HasGrownBy, outside, transposed}
use Rattle.noding_core.proofs.GrowthLemmas.{with_mark, grown_one, grown_none, grown-refl, grown-trans}
use Rattle.noding_core.proofs.TestLemmas.{by_test, first_holds, second_holds}
use Rattle.noding_core.proofs.TurnLemmas.{entry-transposed}
use Rattle.arrangement_core.specs.declared.wanted.Wanted.{Wanted}
use Rattle.arrangement_core.specs.declared.wanted.Wanted.TheVariants.{Whole, Fitting, Answer}
use Rattle.arrangement_core.specs.Answers.{in_order}
use Rattle.arrangement_core.specs.Asked.{is_any, is_unasked, loose_entry, loosened, is_free, start_of, Agree}

-- ---- entries

-- matrices with the same entries are the same
same_entries : (m n : Matrix) → ((i j : Part) → entry m i j ≡ entry n i j) → m ≡ n
same_entries m n h = λ k. record {
  rows = record {
    interior = record { interior = h Interior Interior k; boundary = h Interior Boundary k; exterior = h Interior Exterior k };
    boundary = record { interior = h Boundary Interior k; boundary = h Boundary Boundary k; exterior = h Boundary Exterior k };
    exterior = record { interior = h Exterior Interior k; boundary = h Exterior Boundary k; exterior = h Exterior Exterior k };
  };
}

pub below_by_entries : (m n : Matrix) → ((i j : Part) → rank (entry m i j) ≤ rank (entry n i j)) → IsBelow m n
below_by_entries m n h = record {
  interior = record { interior = h Interior Interior; boundary = h Interior Boundary; exterior = h Interior Exterior };
  boundary = record { interior = h Boundary Interior; boundary = h Boundary Boundary; exterior = h Boundary Exterior };
  exterior = record { interior = h Exterior Interior; boundary = h Exterior Boundary; exterior = h Exterior Exterior };
}

pub transposed_twice : (m : Matrix) → transposed (transposed m) ≡ m
transposed_twice m = same_entries (transposed (transposed m)) m (λ i j. entry-transposed (transposed m) i j ∙ entry-transposed m j i)

-- so are those of which each entry is wanted
pub whole_agrees : (m n : Matrix) → Agree Whole m n → m ≡ n
whole_agrees m n agree = same_entries m n (λ i j. agree i j refl)

pub fitting_agrees : (w : Wanted) (m n : Matrix) → ((i j : Part) → is_free w i j ≡ false) → Agree w m n → m ≡ n
fitting_agrees w m n all agree = same_entries m n (λ i j. agree i j (all i j))

-- ---- growth

by_order : {P : Type 0} (m n : ℕ) → (m < n → P) → (n ≤ m → P) → P
by_order m n below above = by_lt_z (pos m) (pos n) (λ h. below (omega (arith, ints))) (λ h. above (omega (arith, ints)))

-- any marks can be added
pub record CanGrow (ks : List Mark) (old : Matrix) : Type 0 where
  pub new : Matrix
  pub grown : HasGrownBy ks old new

grow_one : (k : Mark) (m : Matrix) → CanGrow (k ∷ []) m
grow_one k m = by_order (rank (entry m k.first k.second)) (rank k.extent)
    (λ lower. record { new = with_mark m k; grown = grown_one k m lower })
    (λ higher. record { new = m; grown = grown_none k m higher })

pub grow : (ks : List Mark) (m : Matrix) → CanGrow ks m
grow [] m = record { new = m; grown = grown-refl m }
grow (k ∷ ks) m =
    let one = grow_one k m in
    let rest = grow ks one.new in
    record { new = rest.new; grown = grown-trans (k ∷ []) ks m one.new rest.new one.grown rest.grown }

-- entries that were the same still are
grown_up : (ks : List Mark) (old new was is : Matrix) (i j : Part) → HasGrownBy ks old new → HasGrownBy ks was is → entry old i j ≡ entry was i j
    → rank (entry new i j) ≤ rank (entry is i j)
grown_up ks old new was is i j h k same = elim (h.sound i j) [
  | inl e ↦ subst (λ (x : Extent). rank x ≤ rank (entry is i j)) (sym (e ∙ same)) (k.kept i j)
  | inr one ↦ k.reached _ one
]

same_growth : (ks : List Mark) (old new was is : Matrix) (i j : Part) → HasGrownBy ks old new → HasGrownBy ks was is → entry old i j ≡ entry was i j
    → entry new i j ≡ entry is i j
same_growth ks old new was is i j h k same = same_rank (entry new i j) (entry is i j)
    (equal _ _ (grown_up ks old new was is i j h k same) (grown_up ks was is old new i j k h (sym same)))
  where
    equal : (r s : ℕ) → r ≤ s → s ≤ r → r ≡ s
    equal r s h k = omega arith

pub agree_grown : (t : Bool) (w : Wanted) (ks : List Mark) (old new was is : Matrix) → HasGrownBy ks old new → HasGrownBy ks was is
    → Agree w (in_order t old) (in_order t was) → Agree w (in_order t new) (in_order t is)
agree_grown false w ks old new was is h k agree = λ i j wanted. same_growth ks old new was is i j h k (agree i j wanted)
agree_grown true w ks old new was is h k agree = λ i j wanted.
    entry-transposed new i j
    ∙ same_growth ks old new was is j i h k (sym (entry-transposed old i j) ∙ agree i j wanted ∙ entry-transposed was i j)
    ∙ sym (entry-transposed is i j)

-- in reverse order and back
pub agree_turned : (w : Wanted) (m n : Matrix) → Agree w m n → Agree w (transposed (transposed m)) (transposed (transposed n))
agree_turned w m n agree = λ i j wanted. ap (λ (x : Matrix). entry x i j) (transposed_twice m) ∙ agree i j wanted ∙ sym (ap (λ (x : Matrix). entry x i j) (transposed_twice n))

-- ---- masks

any_allows : (v : PatternValue) (e : Extent) → is_any v ≡ true → Allows v e
any_allows Any e h = tt
any_allows NotEmpty e h = absurd cc
any_allows (Exactly wanted) e h = absurd cc

all_hold : {A : Type 0} (f : A → Bool) (x : A) (xs : List A) → list_all f xs ≡ true → IsAmong x xs → f x ≡ true
all_hold f x [] h one = absurd one
all_hold f x (y ∷ ys) h (inl is) = ap f is ∙ first_holds (f y) (list_all f ys) h
all_hold f x (y ∷ ys) h (inr one) = all_hold f x ys (second_holds (f y) (list_all f ys) h) one

module _ (masks : List Mask) (m n : Matrix) (agree : (i j : Part) → is_unasked masks i j ≡ false → entry m i j ≡ entry n i j) where
  value_fits : (mask : Mask) (i j : Part) → IsAmong mask masks → Allows (pick j (pick i mask.rows)) (entry m i j) → Allows (pick j (pick i mask.rows)) (entry n i j)
  value_fits mask i j one h = by_test (is_unasked masks i j)
      (λ free. any_allows (pick j (pick i mask.rows)) (entry n i j) (all_hold (λ (x : Mask). is_any (pick j (pick i x.rows))) mask masks free one))
      (λ asked. subst (Allows (pick j (pick i mask.rows))) (agree i j asked) h)

  mask_fits : (mask : Mask) → IsAmong mask masks → Fits mask m → Fits mask n
  mask_fits mask one h = record {
    interior = record {
      interior = value_fits mask Interior Interior one h.interior.interior;
      boundary = value_fits mask Interior Boundary one h.interior.boundary;
      exterior = value_fits mask Interior Exterior one h.interior.exterior;
    };
    boundary = record {
      interior = value_fits mask Boundary Interior one h.boundary.interior;
      boundary = value_fits mask Boundary Boundary one h.boundary.boundary;
      exterior = value_fits mask Boundary Exterior one h.boundary.exterior;
    };
    exterior = record {
      interior = value_fits mask Exterior Interior one h.exterior.interior;
      boundary = value_fits mask Exterior Boundary one h.exterior.boundary;
      exterior = value_fits mask Exterior Exterior one h.exterior.exterior;
    };
  }

  some_fit : (ms : List Mask) → ((mask : Mask) → IsAmong mask ms → IsAmong mask masks) → FitsOne ms m → FitsOne ms n
  some_fit [] among h = absurd h
  some_fit (mask ∷ ms) among (inl h) = inl (mask_fits mask (among mask (inl refl)) h)
  some_fit (mask ∷ ms) among (inr h) = inr (some_fit ms (λ x one. among x (inr one)) h)

-- masks that fit a matrix fit each that agrees with it where they ask
pub masks_fit : (masks : List Mask) (m n : Matrix) → ((i j : Part) → is_unasked masks i j ≡ false → entry m i j ≡ entry n i j) → FitsOne masks m → FitsOne masks n
masks_fit masks m n agree h = some_fit masks m n agree masks (λ mask one. one) h

-- ---- loosened matrices

entry-loosened : (masks : List Mask) (m : Matrix) (i j : Part) → entry (loosened masks m) i j ≡ loose_entry masks m i j
entry-loosened masks m Interior Interior = refl
entry-loosened masks m Interior Boundary = refl
entry-loosened masks m Interior Exterior = refl
entry-loosened masks m Boundary Interior = refl
entry-loosened masks m Boundary Boundary = refl
entry-loosened masks m Boundary Exterior = refl
entry-loosened masks m Exterior Interior = refl
entry-loosened masks m Exterior Boundary = refl
entry-loosened masks m Exterior Exterior = refl

loose_asked : (masks : List Mask) (m : Matrix) (i j : Part) → is_unasked masks i j ≡ false → entry (loosened masks m) i j ≡ entry m i j
loose_asked masks m i j asked = entry-loosened masks m i j ∙ ap (λ (t : Bool). if t then Area else entry m i j) asked

loose_free : (masks : List Mask) (m : Matrix) (i j : Part) → is_unasked masks i j ≡ true → entry (loosened masks m) i j ≡ Area
loose_free masks m i j free = entry-loosened masks m i j ∙ ap (λ (t : Bool). if t then Area else entry m i j) free

pub start_agrees : (w : Wanted) → Agree w (start_of w) outside
start_agrees Whole = λ i j wanted. refl
start_agrees (Fitting q) = λ i j wanted. refl
start_agrees (Answer q) = loose_asked q.masks.now outside

at_most : (e : Extent) → rank e ≤ rank Area
at_most Empty = omega arith
at_most Dot = omega arith
at_most Line = omega arith
at_most Area = omega arith

-- a matrix that is below another where masks ask is below the loosened one
pub below_loosened : (masks : List Mask) (m n : Matrix) → ((i j : Part) → is_unasked masks i j ≡ false → rank (entry m i j) ≤ rank (entry n i j)) → IsBelow m (loosened masks n)
below_loosened masks m n h = below_by_entries m (loosened masks n) (λ i j. by_test (is_unasked masks i j)
    (λ free. subst (λ (x : Extent). rank (entry m i j) ≤ rank x) (sym (loose_free masks n i j free)) (at_most (entry m i j)))
    (λ asked. subst (λ (x : Extent). rank (entry m i j) ≤ rank x) (sym (loose_asked masks n i j asked)) (h i j asked)))

entries_below : (m n : Matrix) (i j : Part) → IsBelow m n → rank (entry m i j) ≤ rank (entry n i j)
entries_below m n Interior Interior h = h.interior.interior
entries_below m n Interior Boundary h = h.interior.boundary
entries_below m n Interior Exterior h = h.interior.exterior
entries_below m n Boundary Interior h = h.boundary.interior
entries_below m n Boundary Boundary h = h.boundary.boundary
entries_below m n Boundary Exterior h = h.boundary.exterior
entries_below m n Exterior Interior h = h.exterior.interior
entries_below m n Exterior Boundary h = h.exterior.boundary
entries_below m n Exterior Exterior h = h.exterior.exterior

pub both_loosened : (masks : List Mask) (m n : Matrix) → IsBelow m n → IsBelow (loosened masks m) (loosened masks n)
both_loosened masks m n h = below_loosened masks (loosened masks m) n
    (λ i j asked. subst (λ (x : Extent). rank x ≤ rank (entry n i j)) (sym (loose_asked masks m i j asked)) (entries_below m n i j h))

-- masks that fit the loosened matrix fit the matrix, and the other way round
pub loose_fits : (masks : List Mask) (m : Matrix) → FitsOne masks (loosened masks m) → FitsOne masks m
loose_fits masks m h = masks_fit masks (loosened masks m) m (loose_asked masks m) h

pub fits_loose : (masks : List Mask) (m : Matrix) → FitsOne masks m → FitsOne masks (loosened masks m)
fits_loose masks m h = masks_fit masks m (loosened masks m) (λ i j asked. sym (loose_asked masks m i j asked)) h
