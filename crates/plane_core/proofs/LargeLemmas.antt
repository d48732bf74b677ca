-- Facts that hold for all large numbers n, as for a point that is moved by 1 / n.
use Rattle.std.proofs.Common.{◌≡◌, ◌≤◌, ◌<◌, ◌+◌, arith, ◌∙◌, sym}
use Rattle.std.specs.Prelude.{ℤ, ℕ, pos, ◌*ℤ◌, ◌+ℤ◌, neg_ℤ, ◌≤ℤ◌, ◌<ℤ◌, nat_abs}
use Rattle.std.proofs.lemmas.Int.{ints}
use Rattle.plane_core.proofs.Ring.{monomials}
use Rattle.plane_core.proofs.FormLemmas.{by_sign, by_zero, scaled_not_negative}

-- from some k on
abbrev pub Large : (ℕ → Type 0) → Type 0
Large P = (k : ℕ) × ((n : ℕ) → k ≤ n → P n)

pub large_weaker : (P Q : ℕ → Type 0) → ((n : ℕ) → P n → Q n) → Large P → Large Q
large_weaker P Q f (k, h) = (k, λ n le. f n (h n le))

pub large_both : (P Q : ℕ → Type 0) → Large P → Large Q → Large (λ n. P n × Q n)
large_both P Q (k, f) (m, g) = (k + m, λ n le. (f n (omega arith), g n (omega arith)))

pub large_from : (P : ℕ → Type 0) (k : ℕ) → ((n : ℕ) → k ≤ n → P n) → Large P
large_from P k f = (k, f)

-- one of them, and a positive one
pub one_large : (P : ℕ → Type 0) → Large P → (n : ℕ) × (0 < n) × P n
one_large P (k, f) = (k + 1, omega arith, f (k + 1) (omega arith))

-- n times a positive number outweighs another number
pub outweighs : (v b : ℤ) (n : ℕ) → pos 0 <ℤ v → nat_abs b < n → pos 0 <ℤ (pos n *ℤ v +ℤ b)
outweighs v b n h small = plain (pos n *ℤ v) b n (scaled_not_negative n v h) small
  where
    plain : (m b : ℤ) (n : ℕ) → pos n ≤ℤ m → nat_abs b < n → pos 0 <ℤ (m +ℤ b)
    plain m b n h k = omega (arith, ints)

-- b + n v isn't 0 for large n, unless both are 0
pub line_large : (b v : ℤ) → (v ≡ pos 0 → b ≡ pos 0 → ⊥) → Large (λ n. ¬ (b +ℤ pos n *ℤ v ≡ pos 0))
line_large b v apart = by_sign v
    (λ up. large_from _ (nat_abs b + 1) (λ n le e. plain_up (pos n *ℤ v) b (outweighs v b n up (omega arith)) e))
    (λ down. large_from _ (nat_abs b + 1) (λ n le e. plain_down (pos n *ℤ v) (pos n *ℤ neg_ℤ v) b (turned (pos n) v) (outweighs (neg_ℤ v) (neg_ℤ b) n (omega (arith, ints)) (less b n le)) e))
    (λ level. large_from _ 0 (λ n le e. apart level (plain_level n v b level e)))
  where
    less : (b : ℤ) (n : ℕ) → nat_abs b + 1 ≤ n → nat_abs (neg_ℤ b) < n
    less b n h = omega (arith, ints)

    turned : (n v : ℤ) → n *ℤ neg_ℤ v ≡ neg_ℤ (n *ℤ v)
    turned n v = simp monomials

    plain_up : (m b : ℤ) → pos 0 <ℤ (m +ℤ b) → b +ℤ m ≡ pos 0 → ⊥
    plain_up m b h e = omega (arith, ints)

    plain_down : (m k b : ℤ) → k ≡ neg_ℤ m → pos 0 <ℤ (k +ℤ neg_ℤ b) → b +ℤ m ≡ pos 0 → ⊥
    plain_down m k b f h e = omega (arith, ints)

    plain_level : (n : ℕ) (v b : ℤ) → v ≡ pos 0 → b +ℤ pos n *ℤ v ≡ pos 0 → b ≡ pos 0
    plain_level n v b h e = let f : b +ℤ pos n *ℤ pos 0 ≡ pos 0 = rw h at e in omega (arith, ints)

-- nor is a + n (b + n c)
pub curve_large : (a b c : ℤ) → (a ≡ pos 0 → b ≡ pos 0 → c ≡ pos 0 → ⊥) → Large (λ n. ¬ (a +ℤ pos n *ℤ (b +ℤ pos n *ℤ c) ≡ pos 0))
curve_large a b c apart = by_zero c
    (λ off. both (line_large b c (λ e f. off e)))
    (λ level. by_zero b
    (λ off. both (line_large b c (λ e f. off f)))
    (λ low. large_from _ 0 (λ n le e. apart (plain (pos n) a b c low level e) low level)))
  where
    plain : (n a b c : ℤ) → b ≡ pos 0 → c ≡ pos 0 → a +ℤ n *ℤ (b +ℤ n *ℤ c) ≡ pos 0 → a ≡ pos 0
    plain n a b c hb hc e =
        let f : a +ℤ n *ℤ (pos 0 +ℤ n *ℤ pos 0) ≡ pos 0 = rw (hb, hc) at e in
        let g : a +ℤ n *ℤ (pos 0 +ℤ n *ℤ pos 0) ≡ a = simp monomials (omega (arith, ints)) in
        sym g ∙ f

    one : (n : ℕ) (v : ℤ) → nat_abs a < n → ¬ (v ≡ pos 0) → ¬ (a +ℤ pos n *ℤ v ≡ pos 0)
    one n v small off e = by_sign v
        (λ up. plain_up (pos n *ℤ v) (outweighs v a n up small) e)
        (λ down. plain_down (pos n *ℤ v) (pos n *ℤ neg_ℤ v) (turned (pos n) v) (outweighs (neg_ℤ v) (neg_ℤ a) n (omega (arith, ints)) (omega (arith, ints))) e)
        off
      where
        turned : (n v : ℤ) → n *ℤ neg_ℤ v ≡ neg_ℤ (n *ℤ v)
        turned n v = simp monomials

        plain_up : (m : ℤ) → pos 0 <ℤ (m +ℤ a) → a +ℤ m ≡ pos 0 → ⊥
        plain_up m h e = omega (arith, ints)

        plain_down : (m k : ℤ) → k ≡ neg_ℤ m → pos 0 <ℤ (k +ℤ neg_ℤ a) → a +ℤ m ≡ pos 0 → ⊥
        plain_down m k f h e = omega (arith, ints)

    both : Large (λ n. ¬ (b +ℤ pos n *ℤ c ≡ pos 0)) → Large (λ n. ¬ (a +ℤ pos n *ℤ (b +ℤ pos n *ℤ c) ≡ pos 0))
    both (k, f) = (k + (nat_abs a + 1), λ n le. one n (b +ℤ pos n *ℤ c) (omega arith) (f n (omega arith)))
