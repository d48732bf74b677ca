-- A quotient by the leading bits of its divisor.
use Rattle.std.proofs.Common.{◌≡◌, ◌≤◌, ◌<◌, ◌+◌, ◌*◌, ◌/◌, ◌%◌, ◌-◌, ◌^◌, ℕ, suc, arith, subst, sym, inl, inr}
use Rattle.std.proofs.lemmas.Nat.{mul-le, leading_top, shr_below, le-div, div_below, pow-add, pow_pos}
use Rattle.std.proofs.lemmas.Bool.{cases_lt}
use Rattle.std.proofs.Math.Nat.{pow-le-pow_right}
use Rattle.wide_core.specs.Quotients.{IsFloor, IsCeiling}
use lib.Count.{count_leading_zeros}

-- a shift by so many bits leaves the 63 leading bits
abbrev pub shift_of : ℕ → ℕ
shift_of c = 65 - count_leading_zeros 128 c

pub record IsLeading (c : ℕ) : Type 0 where
  pub few : count_leading_zeros 128 c ≤ 65
  pub from : 2 ^ 62 ≤ c / 2 ^ shift_of c
  pub below : c / 2 ^ shift_of c < 2 ^ 63

-- a number of more than 64 bits
long : (c j : ℕ) → 2 ^ 64 ≤ c → c < 2 ^ suc j → 63 < j
long c j from below = elim (cases_lt 63 j) [
  | inl over ↦ over
  | inr short ↦ absurd (no c (2 ^ suc j) from below (pow-le-pow_right (omega arith) (next j short)))
]
  where
    next : (j : ℕ) → j ≤ 63 → suc j ≤ 64
    next j h = omega arith

    no : (c n : ℕ) → 2 ^ 64 ≤ c → c < n → n ≤ 2 ^ 64 → ⊥
    no c n h k l = omega arith

pub leading : (c : ℕ) → 2 ^ 64 ≤ c → c < 2 ^ 127 → IsLeading c
leading c from narrow =
    let top = leading_top 128 c (omega arith) (omega arith) in
    let over = long c top.0 from top.3 in
    let s = shift_of c in
    let lower : top.0 ≡ 62 + s = omega (arith, top.1) in
    let upper : suc top.0 ≡ 63 + s = omega (arith, top.1) in
    record {
      few = omega (arith, top.1);
      from = le-div (2 ^ 62) c (2 ^ s) (pow_pos s) (subst (λ n. n ≤ c) (pow-add 2 62 s) (subst (λ j. 2 ^ j ≤ c) lower top.2));
      below = shr_below c 63 s (subst (λ j. c < 2 ^ j) upper top.3);
    }

-- the quotient of the leading bits
abbrev pub estimate_of : ℕ → ℕ → ℕ → ℕ → ℕ
estimate_of a b c k = a / k * b / (c / k + 1)

pub record IsEstimate (a b c k : ℕ) : Type 0 where
  pub fits : a / k * b < 2 ^ 128
  pub small : estimate_of a b c k ≤ b
  pub low : estimate_of a b c k * c ≤ a * b
  pub high : a * b < (estimate_of a b c k + 2) * c

-- a part of a number
part : (a k : ℕ) → 0 < k → (a / k * k ≤ a) × (a < (a / k + 1) * k)
part a k h = (low a k h, high a k h)
  where
    low : (a k : ℕ) → 0 < k → a / k * k ≤ a
    low a k h = omega arith

    high : (a k : ℕ) → 0 < k → a < (a / k + 1) * k
    high a k h = omega arith

part_below : (a c k : ℕ) → 0 < k → a ≤ c → a / k ≤ c / k
part_below a c k h le = plain _ _ (div_below a k (c / k + 1) h (through a c _ le (part c k h).1))
  where
    through : (a c m : ℕ) → a ≤ c → c < m → a < m
    through a c m h k = omega arith

    plain : (x y : ℕ) → x < y + 1 → x ≤ y
    plain x y h = omega arith

within : (x y b : ℕ) → x ≤ y → x * b / (y + 1) ≤ b
within x y b h = plain _ (div_below (x * b) (y + 1) (b + 1) (omega arith) (less x y b (mul-le x b y b h (omega arith))))
  where
    less : (x y b : ℕ) → x * b ≤ y * b → x * b < (b + 1) * (y + 1)
    less x y b h = omega arith

    plain : (q : ℕ) → q < b + 1 → q ≤ b
    plain q h = omega arith

-- the estimate is not above the quotient
not_above : (a b c k x y q : ℕ) → x * k ≤ a → c < (y + 1) * k → q * (y + 1) ≤ x * b → q * c ≤ a * b
not_above a b c k x y q part over est =
    plain _ _ _ _ _ _
    (mul-le q c q ((y + 1) * k) (omega arith) (weak _ _ over)) (turned q y k)
    (mul-le (q * (y + 1)) k (x * b) k est (omega arith)) (round x b k)
    (mul-le (x * k) b a b part (omega arith))
  where
    weak : (m n : ℕ) → m < n → m ≤ n
    weak m n h = omega arith

    turned : (q y k : ℕ) → q * ((y + 1) * k) ≡ q * (y + 1) * k
    turned q y k = omega arith

    round : (x b k : ℕ) → x * b * k ≡ x * k * b
    round x b k = omega arith

    plain : (m n o p q r : ℕ) → m ≤ n → n ≡ o → o ≤ p → p ≡ q → q ≤ r → m ≤ r
    plain m n o p q r h i j k l = omega arith

-- and at most one below it
not_far : (a b c k x y q : ℕ) → 0 < k → a < (x + 1) * k → y * k ≤ c → x * b < (q + 1) * (y + 1) → q ≤ b → 2 * b + 1 ≤ y → a * b < (q + 2) * c
not_far a b c k x y q positive over part est small wide =
    plain _ _ _ _ _ _ k positive
    (mul-le a b ((x + 1) * k) b (weak _ _ over) (omega arith)) (turned x k b)
    (mul-le ((x + 1) * b + 1) k ((q + 2) * y) k (less x b q y est small wide) (omega arith)) (round x b k)
    (mul-le (q + 2) (y * k) (q + 2) c (omega arith) part) (last q y k)
  where
    weak : (m n : ℕ) → m < n → m ≤ n
    weak m n h = omega arith

    turned : (x k b : ℕ) → (x + 1) * k * b ≡ (x + 1) * b * k
    turned x k b = omega arith

    round : (x b k : ℕ) → ((x + 1) * b + 1) * k ≡ (x + 1) * b * k + k
    round x b k = omega arith

    last : (q y k : ℕ) → (q + 2) * (y * k) ≡ (q + 2) * y * k
    last q y k = omega arith

    less : (x b q y : ℕ) → x * b < (q + 1) * (y + 1) → q ≤ b → 2 * b + 1 ≤ y → (x + 1) * b + 1 ≤ (q + 2) * y
    less x b q y h i j = omega arith

    plain : (m n o p r t k : ℕ) → 0 < k → m ≤ n → n ≡ o → p ≤ r → p ≡ o + k → t ≤ (q + 2) * c → t ≡ r → m < (q + 2) * c
    plain m n o p r t k h i j l u v w = omega arith

pub estimate : (a b c k : ℕ) → 0 < k → a ≤ c → b < 2 ^ 61 → 2 ^ 62 ≤ c / k → c / k < 2 ^ 63 → IsEstimate a b c k
estimate a b c k positive le factor from below =
    let less = part_below a c k positive le in
    let q = part (a / k * b) (c / k + 1) (omega arith) in
    let small = within (a / k) (c / k) b less in
    record {
      fits = fits (a / k) less;
      small = small;
      low = not_above a b c k (a / k) (c / k) _ (part a k positive).0 (part c k positive).1 q.0;
      high = not_far a b c k (a / k) (c / k) _ positive (part a k positive).1 (part c k positive).0 q.1 small (omega arith);
    }
  where
    fits : (x : ℕ) → x ≤ c / k → x * b < 2 ^ 128
    fits x h = let product = mul-le x b (2 ^ 63) (2 ^ 61) (omega arith) (omega arith) in omega arith

-- what 128 bits tell of a difference that they hold
abbrev pub rest_of : ℕ → ℕ → ℕ
rest_of z y = (z % 2 ^ 128 + (2 ^ 128 - y % 2 ^ 128)) % 2 ^ 128

wrapped : (z y : ℕ) → y ≤ z → z < y + 2 ^ 128 → rest_of z y + y ≡ z
wrapped z y h k = omega arith

pub left : (z w q : ℕ) → q * w ≤ z → z < (q + 2) * w → w < 2 ^ 127 → rest_of z (q * w) + q * w ≡ z
left z w q low high divisor = wrapped z (q * w) low (near z w q high divisor)
  where
    near : (z w q : ℕ) → z < (q + 2) * w → w < 2 ^ 127 → z < q * w + 2 ^ 128
    near z w q h k = omega arith

pub next_left : (z w q r : ℕ) → r + q * w ≡ z → w ≤ r → r - w + (q + 1) * w ≡ z
next_left z w q r e h = omega arith

pub next_small : (z w q r : ℕ) → r + q * w ≡ z → z < (q + 2) * w → w ≤ r → r - w < w
next_small z w q r e h k = omega arith

-- the whole numbers next to a quotient, by what is left
pub floor_left : (z w f r : ℕ) → r + f * w ≡ z → r < w → IsFloor z w f
floor_left z w f r e h = (omega arith, omega arith)

pub ceiling_left : (z w f r k : ℕ) → r + f * w ≡ z → r < w → (r ≡ 0 → k ≡ f) → (0 < r → k ≡ f + 1) → IsCeiling z w k
ceiling_left z w f r k e h whole part = elim (cases_lt 0 r) [
  | inl some ↦ subst (IsCeiling z w) (sym (part some)) (over z w f r e h some)
  | inr none ↦ subst (IsCeiling z w) (sym (whole (omega arith))) (at z w f r e h none)
]
  where
    over : (z w f r : ℕ) → r + f * w ≡ z → r < w → 0 < r → IsCeiling z w (f + 1)
    over z w f r e h some = (omega arith, omega arith)

    at : (z w f r : ℕ) → r + f * w ≡ z → r < w → r ≤ 0 → IsCeiling z w f
    at z w f r e h none = (omega arith, omega arith)
