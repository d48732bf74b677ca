-- The order of neighbours: by their distances, and then by their numbers.
use Rattle.std.specs.Prelude.{ℕ, ◌<◌, ◌≤◌, ◌⊎◌}
use Rattle.std.specs.Ordering.{nat_cmp, ordering_then, eq_by_cmp, as_partial_cmp}
use Rattle.std.specs.Cmp.{IsTotalOrder, IsPartialOrder, IsEquivalence, IsPartialEquivalence}
use Rattle.std.specs.Cmp.{eq_by_cmp_equiv, partial_equiv_from_equiv}
use Rattle.std.specs.Cmp.{partial_order_from_total, on_total, then_total, nat_cmp_total}
use Rattle.std.specs.declared.cmp.Ordering.{Ordering}
use Rattle.planar_core.specs.Squares.{IsLess, IsEqual, order_of}
use Rattle.planar_core.proofs.FractionLemmas.{fraction_total}
use Rattle.nearest_core.specs.declared.neighbour.Neighbour.{Neighbour}

module _ {S : Type 0} (fraction : S → ℕ × ℕ) where
  abbrev pub Precedes : Neighbour S → Neighbour S → Type 0
  Precedes m n = IsLess (fraction m.square) (fraction n.square)
      ⊎ (IsEqual (fraction m.square) (fraction n.square) × (m.number < n.number))

  -- the same, or with one distance and one number
  abbrev pub IsNoLater : Neighbour S → Neighbour S → Type 0
  IsNoLater m n = IsLess (fraction m.square) (fraction n.square)
      ⊎ (IsEqual (fraction m.square) (fraction n.square) × (m.number ≤ n.number))

  abbrev pub neighbour_order : Neighbour S → Neighbour S → Ordering
  neighbour_order m n = ordering_then (order_of (fraction m.square) (fraction n.square))
      (nat_cmp m.number n.number)

  module _ (positive : (s : S) → 0 < (fraction s).1) where
    -- it is an order, with what std asks of one
    pub neighbours_total : IsTotalOrder neighbour_order
    neighbours_total = then_total
        (on_total (λ (n : Neighbour S). n.square) (fraction_total fraction positive))
        (on_total (λ (n : Neighbour S). n.number) nat_cmp_total)

    pub neighbours_equal : IsEquivalence (eq_by_cmp neighbour_order)
    neighbours_equal = eq_by_cmp_equiv neighbours_total

    pub neighbours_alike : IsPartialEquivalence (eq_by_cmp neighbour_order)
    neighbours_alike = partial_equiv_from_equiv neighbours_equal

    pub neighbours_partial : IsPartialOrder (eq_by_cmp neighbour_order)
        (as_partial_cmp neighbour_order)
    neighbours_partial = partial_order_from_total neighbours_total
