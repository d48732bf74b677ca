-- The search for the seeds of a split, pair by pair.
use Rattle.std.proofs.Common.{arith, ◌≡◌, ℕ, ◌+◌, ◌<◌, ◌≤◌, List, length, ◌⊎◌, inl, inr, subst, refl}
use Rattle.std.specs.Prelude.{Bool, true, false, cond, if◌then◌else◌, ◌≤ℤ◌, ◌<ℤ◌, int_lt}
use Rattle.std.proofs.lemmas.Bool.{cases_lt}
use Rattle.std.proofs.lemmas.Int.{ints}
use Rattle.geom_core.specs.declared.shape.Shape.{Shape}
use Rattle.split_core.specs.declared.choices.Seeds.{Seeds}
use Rattle.split_core.specs.Choices.{waste_at, IsBefore, AreSeeds}
use Rattle.split_core.specs.Seeds.{IsBestBefore}

-- no ordered pair precedes the first
before_first : (k l : ℕ) → k < l → IsBefore k l 0 1 → ⊥
before_first k l o (inl h) = omega arith
before_first k l o (inr h) = omega (arith, h.0, h.1)

before_none : (k l : ℕ) → IsBefore k l 0 0 → ⊥
before_none k l (inl h) = omega arith
before_none k l (inr h) = omega (arith, h.0, h.1)

-- no pair in order begins a row before the place after the row's own
before_row : (i k l : ℕ) → k < l → IsBefore k l i (i + 1) → IsBefore k l i 0
before_row i k l o (inl h) = inl h
before_row i k l o (inr h) = absurd (omega (arith, h.0, h.1))

below_or_at : (k i : ℕ) → k < i + 1 → (k < i) ⊎ (k ≡ i)
below_or_at k i h = elim (cases_lt k i) [ inl p ↦ inl p | inr q ↦ inr (omega arith) ]

-- a pair before the next row precedes the end of this one
before_next_row : (i j k l : ℕ) → l < j → IsBefore k l (i + 1) 0 → IsBefore k l i j
before_next_row i j k l h (inl p) = elim (below_or_at k i p) [ inl q ↦ inl q | inr q ↦ inr (q, h) ]
before_next_row i j k l h (inr p) = absurd (omega (arith, p.1))

before_more : (i j k l : ℕ) → IsBefore k l i (j + 1) → IsBefore k l i j ⊎ ((k ≡ i) × (l ≡ j))
before_more i j k l (inl h) = inl (inl h)
before_more i j k l (inr h) = elim (below_or_at l j h.1) [ inl q ↦ inl (inr (h.0, q)) | inr q ↦ inr (h.0, q) ]

module _ {T : Type 0} (cover : T → Shape) (items : List T) where
  pub best_none : (s : Seeds) →
      s.first ≡ 0 →
      s.second ≡ 1 →
      2 ≤ length items →
      ((d : T) → s.waste ≡ waste_at cover items d 0 1) →
      IsBestBefore cover items 0 0 s
  best_none s f t n w = record {
    ordered = omega arith;
    in_range = omega arith;
    waste = λ d. rw (f, t) (w d);
    greatest = λ d k l o h b. absurd (before_none k l b);
    first = λ d k l o h b. absurd (before_first k l o (rw (f, t) at b));
  }

  pub best_row : (i : ℕ) (s : Seeds) → IsBestBefore cover items i 0 s → IsBestBefore cover items i (i + 1) s
  best_row i s h = record {
    ordered = h.ordered;
    in_range = h.in_range;
    waste = h.waste;
    greatest = λ d k l o r b. h.greatest d k l o r (before_row i k l o b);
    first = h.first;
  }

  pub best_next_row : (i j : ℕ) (s : Seeds) → length items ≤ j → IsBestBefore cover items i j s → IsBestBefore cover items (i + 1) 0 s
  best_next_row i j s n h = record {
    ordered = h.ordered;
    in_range = h.in_range;
    waste = h.waste;
    greatest = λ d k l o r b. h.greatest d k l o r (before_next_row i j k l (omega arith) b);
    first = h.first;
  }

  best_keeps : (i j : ℕ) (s t : Seeds) →
      IsBestBefore cover items i j s →
      ((d : T) → t.waste ≡ waste_at cover items d i j) →
      t.waste ≤ℤ s.waste →
      IsBestBefore cover items i (j + 1) s
  best_keeps i j s t h at le = record {
    ordered = h.ordered;
    in_range = h.in_range;
    waste = h.waste;
    greatest = λ d k l o r b.
        elim (before_more i j k l b) [
          | inl q ↦ h.greatest d k l o r q
          | inr q ↦ rw (q.0, q.1) (subst (λ z. z ≤ℤ s.waste) (at d) le)
        ];
    first = h.first;
  }

  best_takes : (i j : ℕ) (s t : Seeds) →
      IsBestBefore cover items i j s →
      t.first ≡ i →
      t.second ≡ j →
      i < j →
      j < length items →
      ((d : T) → t.waste ≡ waste_at cover items d i j) →
      s.waste <ℤ t.waste →
      IsBestBefore cover items i (j + 1) t
  best_takes i j s t h f g o n at lt = record {
    ordered = omega arith;
    in_range = omega arith;
    waste = λ d. rw (f, g) (at d);
    greatest = λ d k l o r b.
        elim (before_more i j k l b) [
          | inl q ↦ omega (arith, ints, h.greatest d k l o r q)
          | inr q ↦ rw (q.0, q.1) (omega (arith, ints, at d))
        ];
    first = λ d k l o r b. omega (arith, ints, h.greatest d k l o r (rw (f, g) at b));
  }

  -- one pair more, by the test of the two wastes
  best_more : (b : Bool) (i j : ℕ) (s t : Seeds) →
      b ≡ int_lt s.waste t.waste →
      IsBestBefore cover items i j s →
      t.first ≡ i →
      t.second ≡ j →
      i < j →
      j < length items →
      ((d : T) → t.waste ≡ waste_at cover items d i j) →
      IsBestBefore cover items i (j + 1) (cond b t s)
  best_more true i j s t e h f g o n at = best_takes i j s t h f g o n at (omega (arith, ints))
  best_more false i j s t e h f g o n at = best_keeps i j s t h at (omega (arith, ints))

  pub best_pair : (i j : ℕ) (s t r : Seeds) →
      r ≡ (if int_lt s.waste t.waste then t else s) →
      IsBestBefore cover items i j s →
      t.first ≡ i →
      t.second ≡ j →
      i < j →
      j < length items →
      ((d : T) → t.waste ≡ waste_at cover items d i j) →
      IsBestBefore cover items i (j + 1) r
  best_pair i j s t r e h f g o n at = rw e (best_more (int_lt s.waste t.waste) i j s t refl h f g o n at)

  pub best_all : (n : ℕ) (s : Seeds) → length items ≤ n → IsBestBefore cover items n 0 s → AreSeeds cover items s.first s.second
  best_all n s le h = record {
    ordered = h.ordered;
    in_range = h.in_range;
    greatest = λ d k l o r. subst (λ z. waste_at cover items d k l ≤ℤ z) (h.waste d) (h.greatest d k l o r (inl (omega arith)));
    first = λ d k l o r b. subst (λ z. waste_at cover items d k l <ℤ z) (h.waste d) (h.first d k l o r b);
  }
