-- The answers of a refined join list.
use Rattle.std.specs.Prelude.{ℕ}
use Rattle.refine_core.specs.declared.refined.Refined.{Refined}

-- the answer is one that is correct for the pair
abbrev pub HasAnswer : {A : Type 0} → (ℕ → ℕ → A → Type 0) → Refined A → Type 0
HasAnswer answers found = answers found.pair.0 found.pair.1 found.answer
