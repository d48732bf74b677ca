-- A table of the values of a function.
use Rattle.std.proofs.Common.{◌≡◌, ◌+◌, ◌≤◌, ◌<◌, ◌^◌, ◌∙◌, ℕ, zero, suc, List, [], ◌∷◌, get_or, refl, ap, arith}

-- so many values of a function, from a place on
unfoldable pub values : (ℕ → ℕ) → ℕ → ℕ → List ℕ
values f k zero = []
values f k (suc n) = f k ∷ values f (suc k) n

pub value_at : (f : ℕ → ℕ) (k n i d : ℕ) → i < n → get_or (values f k n) i d ≡ f (k + i)
unfolding values
value_at f k zero i d h = absurd (omega arith)
value_at f k (suc n) zero d h = ap f (omega arith)
value_at f k (suc n) (suc i) d h = value_at f (suc k) n i d (omega arith) ∙ ap f (omega arith)

-- the powers of ten
abbrev powers : List ℕ
powers = 1 ∷ 10 ∷ 100 ∷ 1000 ∷ 10000 ∷ 100000 ∷ 1000000 ∷ 10000000 ∷ 100000000 ∷ 1000000000 ∷ 10000000000 ∷ 100000000000 ∷ 1000000000000 ∷ 10000000000000 ∷ 100000000000000
    ∷ 1000000000000000 ∷ 10000000000000000 ∷ []

powers_are : powers ≡ values (λ k. 10 ^ k) 0 17
unfolding values
powers_are = refl

pub power_at : (k : ℕ) → k ≤ 16 → get_or powers k 0 ≡ 10 ^ k
power_at k h = ap (λ (l : List ℕ). get_or l k 0) powers_are ∙ value_at (λ k. 10 ^ k) 0 17 k 0 (omega arith) ∙ ap (λ (e : ℕ). 10 ^ e) (omega arith)
