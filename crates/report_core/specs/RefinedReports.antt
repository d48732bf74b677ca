-- The report of those candidates that satisfy a condition.
use Rattle.std.specs.Prelude.{ℕ, List}
use Rattle.refine_core.specs.declared.refined.Refined.{Refined}
use Rattle.refine_core.specs.Refinements.{AreRefined, IsPairIn, pairs_of}
use Rattle.report_core.specs.ReportRows.{AreRows}

-- each pair that satisfies the condition, with an answer of its own, is a match
abbrev pub AreMatches : {A : Type 0} → (ℕ → ℕ → Type 0) → (ℕ → ℕ → A → Type 0)
    → (Refined A → Type 0) → Type 0
AreMatches {A} stands answers IsMatch =
    (found : Refined A) → IsPairIn stands found.pair
    → answers found.pair.0 found.pair.1 found.answer → IsMatch found

-- the text has one record for each candidate that satisfies the condition, in order
pub record AreRefinedRows {A : Type 0} (stands : ℕ → ℕ → Type 0) (answers : ℕ → ℕ → A → Type 0)
    (IsRecord : Refined A → List (List ℕ) → Type 0) (candidates : List (ℕ × ℕ)) (text : List ℕ)
    : Type 0 where
  pub refined : List (Refined A)
  pub are_refined : AreRefined stands answers candidates refined
  pub rows : AreRows IsRecord refined text

-- the text is the report of the candidates that satisfy the condition, in order
pub record IsRefinedReport {A : Type 0} (stands : ℕ → ℕ → Type 0) (answers : ℕ → ℕ → A → Type 0)
    (IsReport : List (ℕ × ℕ) → List ℕ → Type 0) (candidates : List (ℕ × ℕ)) (text : List ℕ)
    : Type 0 where
  pub refined : List (Refined A)
  pub are_refined : AreRefined stands answers candidates refined
  pub report : IsReport (pairs_of refined) text
