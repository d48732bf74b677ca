-- Fractions of natural numbers, compared by products.
use Rattle.std.proofs.Common.{◌≡◌, ℕ, ◌*◌, ◌≤◌, ◌<◌, sym, arith}
use Rattle.std.specs.declared.cmp.Ordering.{Ordering}
use Rattle.std.specs.declared.cmp.Ordering.TheVariants.{Less, Equal, Greater}
use Rattle.std.specs.Ordering.{MatchOrdering}
use Rattle.std.specs.Cmp.{IsTotalOrder, nat_cmp_is, nat_cmp_total, ranked, ranks}
use Rattle.std.proofs.Math.Nat.{le_of_mul-le-mul_right, lt_of_mul-lt-mul_right, mul-le-mul_right, mul-lt-mul_of_pos_right}
use Rattle.planar_core.specs.Squares.{IsLess, IsEqual, IsNoMore, order_of}

-- of three fractions a / b, c / d and e / f
le_le : (a b c d e f : ℕ) → 0 < d → a * d ≤ c * b → c * f ≤ e * d → a * f ≤ e * b
le_le a b c d e f wide h k =
    let x = mul-le-mul_right {m = a * d} {n = c * b} f h in
    let y = mul-le-mul_right {m = c * f} {n = e * d} b k in
    le_of_mul-le-mul_right {m = a * f} {n = e * b} {k = d} (omega (arith, x, y)) wide

le_lt : (a b c d e f : ℕ) → 0 < b → a * d ≤ c * b → c * f < e * d → a * f < e * b
le_lt a b c d e f wide h k =
    let x = mul-le-mul_right {m = a * d} {n = c * b} f h in
    let y = mul-lt-mul_of_pos_right {m = c * f} {n = e * d} {k = b} k wide in
    lt_of_mul-lt-mul_right d {m = a * f} {n = e * b} (omega (arith, x, y))

lt_le : (a b c d e f : ℕ) → 0 < f → a * d < c * b → c * f ≤ e * d → a * f < e * b
lt_le a b c d e f wide h k =
    let x = mul-lt-mul_of_pos_right {m = a * d} {n = c * b} {k = f} h wide in
    let y = mul-le-mul_right {m = c * f} {n = e * d} b k in
    lt_of_mul-lt-mul_right d {m = a * f} {n = e * b} (omega (arith, x, y))

pub no_more_chain : (f g h : ℕ × ℕ) → 0 < g.1 → IsNoMore f g → IsNoMore g h → IsNoMore f h
no_more_chain f g h wide p q = le_le f.0 f.1 g.0 g.1 h.0 h.1 wide p q

pub no_more_less : (f g h : ℕ × ℕ) → 0 < f.1 → IsNoMore f g → IsLess g h → IsLess f h
no_more_less f g h wide p q = le_lt f.0 f.1 g.0 g.1 h.0 h.1 wide p q

pub less_no_more : (f g h : ℕ × ℕ) → 0 < h.1 → IsLess f g → IsNoMore g h → IsLess f h
less_no_more f g h wide p q = lt_le f.0 f.1 g.0 g.1 h.0 h.1 wide p q

squeezed : (a b : ℕ) → a ≤ b → b ≤ a → a ≡ b
squeezed a b h k = omega (arith, h, k)

at_most : (a b : ℕ) → a ≡ b → a ≤ b
at_most a b h = omega (arith, h)

at_least : (a b : ℕ) → a ≡ b → b ≤ a
at_least a b h = omega (arith, h)

pub equal_no_more : (f g : ℕ × ℕ) → IsEqual f g → IsNoMore f g
equal_no_more f g e = at_most (f.0 * g.1) (g.0 * f.1) e

pub equal_back : (f g : ℕ × ℕ) → IsEqual f g → IsNoMore g f
equal_back f g e = at_least (f.0 * g.1) (g.0 * f.1) e

pub equal_chain : (f g h : ℕ × ℕ) → 0 < g.1 → IsEqual f g → IsEqual g h → IsEqual f h
equal_chain f g h wide p q =
    squeezed (f.0 * h.1) (h.0 * f.1)
    (no_more_chain f g h wide (equal_no_more f g p) (equal_no_more g h q))
    (no_more_chain h g f wide (equal_back g h q) (equal_back f g p))

-- an answer of a comparison, as it is of others
answers_as : (r : Ordering) (A B C D E F : Type 0) → (A → D) → (B → E) → (C → F) → MatchOrdering r A B C → MatchOrdering r D E F
answers_as Less A B C D E F p q s h = p h
answers_as Equal A B C D E F p q s h = q h
answers_as Greater A B C D E F p q s h = s h

-- the squares of some type, which are such fractions, are in one order
module _ {S : Type 0} (fraction : S → ℕ × ℕ) (positive : (s : S) → 0 < (fraction s).1) where
  pub fraction_total : IsTotalOrder (λ (s t : S). order_of (fraction s) (fraction t))
  fraction_total = record {
    antisymm = λ s t. nat_cmp_total.antisymm ((fraction s).0 * (fraction t).1) ((fraction t).0 * (fraction s).1);
    trans = λ s t u p q.
        let f = fraction s in
        let g = fraction t in
        let h = fraction u in
        let less : IsLess f g = ranked (f.0 * g.1) (g.0 * f.1) Less (sym p) in
        let more : IsLess g h = ranked (g.0 * h.1) (h.0 * g.1) Less (sym q) in
        sym (nat_cmp_is (f.0 * h.1) (h.0 * f.1) Less (less_no_more f g h (positive u) less (below g h more)));
    congr = λ s t u p.
        let f = fraction s in
        let g = fraction t in
        let h = fraction u in
        let same : IsEqual f g = ranked (f.0 * g.1) (g.0 * f.1) Equal (sym p) in
        sym (nat_cmp_is (f.0 * h.1) (h.0 * f.1) (order_of g h)
        (answers_as (order_of g h) (IsLess g h) (IsEqual g h) (IsLess h g) (IsLess f h) (IsEqual f h) (IsLess h f)
        (no_more_less f g h (positive s) (equal_no_more f g same))
        (equal_chain f g h (positive t) same)
        (λ back. less_no_more h g f (positive s) back (equal_back f g same))
        (ranks (g.0 * h.1) (h.0 * g.1))));
  }
    where
      below : (f g : ℕ × ℕ) → IsLess f g → IsNoMore f g
      below f g h = omega (arith, h)
