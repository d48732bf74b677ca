-- What fits bounds of a matrix fits each matrix between them, and what fits a matrix between them
-- allows some entry between theirs in each place.
use Rattle.std.proofs.Common.{◌≡◌, ◌≤◌, ◌<◌, ◌↔◌, ℕ, inl, inr, refl, ap, subst, arith, List, [], ◌∷◌, zero, suc}
use Rattle.std.specs.Prelude.{Bool, true, false, length, MatchBool}
use Rattle.std.specs.List.{HoldsAt, AllWithin}
use Rattle.relation_core.specs.declared.extent.Extent.{Extent}
use Rattle.relation_core.specs.declared.extent.Extent.TheVariants.{Empty, Point, Line, Area}
use Rattle.relation_core.specs.declared.part.Parts.{Parts}
use Rattle.relation_core.specs.declared.matrix.Matrix.{Matrix}
use Rattle.relation_core.specs.declared.pattern_value.PatternValue.{PatternValue}
use Rattle.relation_core.specs.declared.pattern_value.PatternValue.TheVariants.{Any, NotEmpty, Exactly}
use Rattle.relation_core.specs.declared.mask.Mask.{Mask}
use Rattle.relation_core.specs.Masks.{Allows, Fits, FitsRow}
use Rattle.relation_core.specs.Relations.{FitsOne}
use Rattle.noding_core.specs.Marks.{rank}
use Rattle.decision_core.specs.Orders.{IsRowBelow, IsBelow, IsBetween}
use Rattle.decision_core.specs.Decisions.{FitsEach, FitsNone, SomeMask, FitsBoth, AllowsSome, AllowsSomeRow, FitsSome}

-- extents of one rank are the same
pub same_rank : (d e : Extent) → rank d ≡ rank e → d ≡ e
same_rank Empty Empty h = refl
same_rank Empty Point h = absurd (omega arith)
same_rank Empty Line h = absurd (omega arith)
same_rank Empty Area h = absurd (omega arith)
same_rank Point Empty h = absurd (omega arith)
same_rank Point Point h = refl
same_rank Point Line h = absurd (omega arith)
same_rank Point Area h = absurd (omega arith)
same_rank Line Empty h = absurd (omega arith)
same_rank Line Point h = absurd (omega arith)
same_rank Line Line h = refl
same_rank Line Area h = absurd (omega arith)
same_rank Area Empty h = absurd (omega arith)
same_rank Area Point h = absurd (omega arith)
same_rank Area Line h = absurd (omega arith)
same_rank Area Area h = refl

-- nothing is below an empty intersection
pub empty_below : (d e : Extent) → rank d ≤ rank e → e ≡ Empty → d ≡ Empty
empty_below d e h is = same_rank d Empty (none (rank d) (rank e) h (ap rank is))
  where
    none : (m n : ℕ) → m ≤ n → n ≡ 0 → m ≡ 0
    none m n h k = omega arith

-- what allows two extents allows those between them
between_allowed : (value : PatternValue) (d e f : Extent) → rank d ≤ rank e → rank e ≤ rank f → Allows value d → Allows value f → Allows value e
between_allowed Any d e f l h p q = tt
between_allowed NotEmpty d e f l h p q = λ is. p (empty_below d e l is)
between_allowed (Exactly wanted) d e f l h p q = same_rank e wanted (squeezed (rank d) (rank e) (rank f) (rank wanted) l h (ap rank p) (ap rank q))
  where
    squeezed : (m n l w : ℕ) → m ≤ n → n ≤ l → m ≡ w → l ≡ w → n ≡ w
    squeezed m n l w h k p q = omega arith

between_row : (row : Parts PatternValue) (d e f : Parts Extent) → IsRowBelow d e → IsRowBelow e f → FitsRow row d → FitsRow row f → FitsRow row e
between_row row d e f l h p q = record {
  interior = between_allowed row.interior d.interior e.interior f.interior l.interior h.interior p.interior q.interior;
  boundary = between_allowed row.boundary d.boundary e.boundary f.boundary l.boundary h.boundary p.boundary q.boundary;
  exterior = between_allowed row.exterior d.exterior e.exterior f.exterior l.exterior h.exterior p.exterior q.exterior;
}

-- a mask that fits both bounds fits what is between them
between_fits : (mask : Mask) (least greatest m : Matrix) → FitsBoth least greatest mask → IsBetween least greatest m → Fits mask m
between_fits mask least greatest m both b = record {
  interior = between_row mask.rows.interior _ m.rows.interior _ b.above.interior b.below.interior both.first.interior both.last.interior;
  boundary = between_row mask.rows.boundary _ m.rows.boundary _ b.above.boundary b.below.boundary both.first.boundary both.last.boundary;
  exterior = between_row mask.rows.exterior _ m.rows.exterior _ b.above.exterior b.below.exterior both.first.exterior both.last.exterior;
}

pub each_fits : (masks : List Mask) (least greatest : Matrix) → SomeMask (FitsBoth least greatest) masks → FitsEach masks least greatest
each_fits [] least greatest some m b = absurd some
each_fits (mask ∷ masks) least greatest (inl both) m b = inl (between_fits mask least greatest m both b)
each_fits (mask ∷ masks) least greatest (inr some) m b = inr (each_fits masks least greatest some m b)

-- an extent between two that a value allows
record IsAllowed (least greatest : Extent) (value : PatternValue) : Type 0 where
  extent : Extent
  above : rank least ≤ rank extent
  below : rank extent ≤ rank greatest
  allowed : Allows value extent

allowed_some : (value : PatternValue) (least greatest : Extent) → rank least ≤ rank greatest → AllowsSome least greatest value → IsAllowed least greatest value
allowed_some Any d f h k = record { extent = d; above = omega arith; below = h; allowed = tt }
allowed_some NotEmpty d f h k = record { extent = f; above = h; below = omega arith; allowed = k }
allowed_some (Exactly wanted) d f h k = record { extent = wanted; above = k.0; below = k.1; allowed = refl }

some_allowed : (value : PatternValue) (d e f : Extent) → rank d ≤ rank e → rank e ≤ rank f → Allows value e → AllowsSome d f value
some_allowed Any d e f l h k = tt
some_allowed NotEmpty d e f l h k = λ is. k (empty_below e f h is)
some_allowed (Exactly wanted) d e f l h k = subst (λ x. (rank d ≤ rank x) × (rank x ≤ rank f)) k (l, h)

some_row : (row : Parts PatternValue) (d e f : Parts Extent) → IsRowBelow d e → IsRowBelow e f → FitsRow row e → AllowsSomeRow d f row
some_row row d e f l h k = record {
  interior = some_allowed row.interior d.interior e.interior f.interior l.interior h.interior k.interior;
  boundary = some_allowed row.boundary d.boundary e.boundary f.boundary l.boundary h.boundary k.boundary;
  exterior = some_allowed row.exterior d.exterior e.exterior f.exterior l.exterior h.exterior k.exterior;
}

-- a mask that fits a matrix between the bounds is one that may fit
some_fits : (mask : Mask) (least greatest m : Matrix) → IsBetween least greatest m → Fits mask m → FitsSome least greatest mask
some_fits mask least greatest m b k = record {
  interior = some_row mask.rows.interior _ m.rows.interior _ b.above.interior b.below.interior k.interior;
  boundary = some_row mask.rows.boundary _ m.rows.boundary _ b.above.boundary b.below.boundary k.boundary;
  exterior = some_row mask.rows.exterior _ m.rows.exterior _ b.above.exterior b.below.exterior k.exterior;
}

one_may_fit : (masks : List Mask) (least greatest m : Matrix) → IsBetween least greatest m → FitsOne masks m → SomeMask (FitsSome least greatest) masks
one_may_fit [] least greatest m b k = absurd k
one_may_fit (mask ∷ masks) least greatest m b (inl k) = inl (some_fits mask least greatest m b k)
one_may_fit (mask ∷ masks) least greatest m b (inr k) = inr (one_may_fit masks least greatest m b k)

-- a row between two that fits
record IsFittingRow (least greatest : Parts Extent) (row : Parts PatternValue) : Type 0 where
  entries : Parts Extent
  above : IsRowBelow least entries
  below : IsRowBelow entries greatest
  fits : FitsRow row entries

fitting_row : (row : Parts PatternValue) (d f : Parts Extent) → IsRowBelow d f → AllowsSomeRow d f row → IsFittingRow d f row
fitting_row row d f h k =
    let i = allowed_some row.interior d.interior f.interior h.interior k.interior in
    let b = allowed_some row.boundary d.boundary f.boundary h.boundary k.boundary in
    let e = allowed_some row.exterior d.exterior f.exterior h.exterior k.exterior in
    record {
      entries = record { interior = i.extent; boundary = b.extent; exterior = e.extent };
      above = record { interior = i.above; boundary = b.above; exterior = e.above };
      below = record { interior = i.below; boundary = b.below; exterior = e.below };
      fits = record { interior = i.allowed; boundary = b.allowed; exterior = e.allowed };
    }

-- a matrix between two that fits
record IsFitting (least greatest : Matrix) (mask : Mask) : Type 0 where
  matrix : Matrix
  between : IsBetween least greatest matrix
  fits : Fits mask matrix

fitting : (mask : Mask) (least greatest : Matrix) → IsBelow least greatest → FitsSome least greatest mask → IsFitting least greatest mask
fitting mask least greatest h k =
    let i = fitting_row mask.rows.interior least.rows.interior greatest.rows.interior h.interior k.interior in
    let b = fitting_row mask.rows.boundary least.rows.boundary greatest.rows.boundary h.boundary k.boundary in
    let e = fitting_row mask.rows.exterior least.rows.exterior greatest.rows.exterior h.exterior k.exterior in
    record {
      matrix = record { rows = record { interior = i.entries; boundary = b.entries; exterior = e.entries } };
      between = record {
        above = record { interior = i.above; boundary = b.above; exterior = e.above };
        below = record { interior = i.below; boundary = b.below; exterior = e.below };
      };
      fits = record { interior = i.fits; boundary = b.fits; exterior = e.fits };
    }

-- a matrix between two that one of the masks fits
record IsOneFitting (least greatest : Matrix) (masks : List Mask) : Type 0 where
  matrix : Matrix
  between : IsBetween least greatest matrix
  fits : FitsOne masks matrix

one_fitting : (masks : List Mask) (least greatest : Matrix) → IsBelow least greatest → SomeMask (FitsSome least greatest) masks → IsOneFitting least greatest masks
one_fitting [] least greatest h some = absurd some
one_fitting (mask ∷ masks) least greatest h (inl k) =
    let f = fitting mask least greatest h k in
    record { matrix = f.matrix; between = f.between; fits = inl f.fits }
one_fitting (mask ∷ masks) least greatest h (inr some) =
    let f = one_fitting masks least greatest h some in
    record { matrix = f.matrix; between = f.between; fits = inr f.fits }

-- if a mask may fit, some matrix between the bounds is one that it fits
pub not_none : (masks : List Mask) (least greatest : Matrix) → IsBelow least greatest → SomeMask (FitsSome least greatest) masks → ¬ (FitsNone masks least greatest)
not_none masks least greatest h some none = let f = one_fitting masks least greatest h some in none f.matrix f.between f.fits

pub none_fits : (masks : List Mask) (least greatest : Matrix) → ¬ (SomeMask (FitsSome least greatest) masks) → FitsNone masks least greatest
none_fits masks least greatest none m b k = none (one_may_fit masks least greatest m b k)

-- a mask that fits both bounds fits some matrix between them
pub at_least : (m : Matrix) → IsBelow m m
at_least m = record { interior = same m.rows.interior; boundary = same m.rows.boundary; exterior = same m.rows.exterior }
  where
    same : (row : Parts Extent) → IsRowBelow row row
    same row = record { interior = omega arith; boundary = omega arith; exterior = omega arith }

pub each_not_none : (masks : List Mask) (least greatest : Matrix) → IsBelow least greatest → FitsEach masks least greatest → ¬ (FitsNone masks least greatest)
each_not_none masks least greatest h each none =
    let b : IsBetween least greatest least = record { above = at_least least; below = h } in
    none least b (each least b)

some_at : (P : Mask → Type 0) (ms : List Mask) (k : ℕ) → k < length ms → HoldsAt P ms k → SomeMask P ms
some_at P [] k h w = absurd (omega arith)
some_at P (m ∷ ms) zero h w = inl (w m)
some_at P (m ∷ ms) (suc k) h w = inr (some_at P ms k (omega arith) (λ d. w d))

none_within : (P : Mask → Type 0) (ms : List Mask) → AllWithin (λ m. ¬ (P m)) ms 0 (length ms) → SomeMask P ms → ⊥
none_within P [] h f = f
none_within P (m ∷ ms) h f = elim f [
  | inl has ↦ h 0 m (omega arith) (omega arith) has
  | inr g ↦ none_within P ms (λ k d low high. h (suc k) d (omega arith) (omega arith)) g
]

-- the answer of a search through the masks
pub some_from_cases : (found : Bool) (P : Mask → Type 0) (ms : List Mask) →
    MatchBool found ((k : ℕ) × (k < length ms) × HoldsAt P ms k) (AllWithin (λ m. ¬ (P m)) ms 0 (length ms)) →
    (found ≡ true) ↔ SomeMask P ms
some_from_cases true P ms (k, h, w) = (λ _. some_at P ms k h w, λ _. refl)
some_from_cases false P ms h = (λ e. absurd cc, λ f. absurd (none_within P ms h f))

-- what the two searches tell
pub is_holds : (masks : List Mask) (least greatest : Matrix) (found : Bool) → (found ≡ true) ↔ SomeMask (FitsBoth least greatest) masks → found ≡ true → FitsEach masks least greatest
is_holds masks least greatest found test found_it = each_fits masks least greatest (test.0 found_it)

pub holds_not_none : (masks : List Mask) (least greatest : Matrix) (found : Bool) → IsBelow least greatest → (found ≡ true) ↔ SomeMask (FitsBoth least greatest) masks → found ≡ true → ¬ (FitsNone masks least greatest)
holds_not_none masks least greatest found h test found_it = each_not_none masks least greatest h (is_holds masks least greatest found test found_it)

pub open_not_none : (masks : List Mask) (least greatest : Matrix) (found : Bool) → IsBelow least greatest → (found ≡ true) ↔ SomeMask (FitsSome least greatest) masks → found ≡ true → ¬ (FitsNone masks least greatest)
open_not_none masks least greatest found h test found_it = not_none masks least greatest h (test.0 found_it)

pub is_fails : (masks : List Mask) (least greatest : Matrix) (found : Bool) → (found ≡ true) ↔ SomeMask (FitsSome least greatest) masks → found ≡ false → FitsNone masks least greatest
is_fails masks least greatest found test none = none_fits masks least greatest (λ some. let found_it = test.1 some in absurd cc)
