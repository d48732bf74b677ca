-- Products and differences that fit into 128 bits equal their 128-bit values.
use Rattle.std.proofs.Common.{◌≡◌, ◌≤◌, ◌<◌, ◌*◌, ◌^◌, ℕ, pos, negsuc, w64, to_z, of_z, arith, FitsSigned, ◌∙◌}
use Rattle.std.specs.Prelude.{ℤ, ◌*ℤ◌, nat_abs}
use Rattle.std.specs.Int.{w128}
use Rattle.std.specs.Ordering.{int_cmp}
use Rattle.std.specs.declared.cmp.Ordering.{Ordering}
use Rattle.std.proofs.Math.Nat.{mul-le-mul}
use Rattle.std.proofs.lemmas.Int.{to_z-of_z, fits_signed_from_abs, unsigned_abs-mul}

pub held : (a : ℤ) → FitsSigned w128 a → to_z w128 (of_z w128 a) ≡ a
held a h = to_z-of_z w128 a h

pub product_below : (a b : ℤ) (m n : ℕ) → nat_abs a ≤ m → nat_abs b ≤ n → nat_abs (a *ℤ b) ≤ m * n
product_below a b m n h k = let l = mul-le-mul h k in omega (arith, unsigned_abs-mul a b)

pub product_fits : (a b : ℤ) (m n : ℕ) → nat_abs a ≤ m → nat_abs b ≤ n → m * n ≤ 2 ^ 126 → FitsSigned w128 (a *ℤ b)
product_fits a b m n h k l = let p = product_below a b m n h k in fits_signed_from_abs w128 (a *ℤ b) (omega arith)

-- numbers of 64 bits
small : (a : ℤ) → FitsSigned w64 a → nat_abs a ≤ 2 ^ 63
small (pos n) h = omega (arith, h.sfits)
small (negsuc n) h = omega (arith, h.sfits)

-- such a number, cast to 128 bits and from 128 bits
widened : (a p : ℤ) → FitsSigned w64 a → p ≡ to_z w64 (of_z w64 a) → to_z w128 (of_z w128 p) ≡ a
widened a p fa e = rw (e, to_z-of_z w64 a fa) (held a (fits_signed_from_abs w128 a (wide (nat_abs a) (small a fa))))
  where
    wide : (n : ℕ) → n ≤ 2 ^ 63 → n < 2 ^ 127
    wide n h = omega arith

pub narrowed : (a : ℤ) → FitsSigned w128 a → FitsSigned w64 (to_z w128 (of_z w128 a)) → to_z w64 (of_z w64 (to_z w128 (of_z w128 a))) ≡ a
narrowed a fa h = to_z-of_z w64 (to_z w128 (of_z w128 a)) h ∙ held a fa

narrow_product : (a b : ℤ) → FitsSigned w64 a → FitsSigned w64 b → FitsSigned w128 (a *ℤ b)
narrow_product a b fa fb = product_fits a b (2 ^ 63) (2 ^ 63) (small a fa) (small b fb) (omega arith)

-- the order of two products of numbers of 64 bits
pub narrow_order : (r : Ordering) (a b c d p q s t : ℤ) → FitsSigned w64 a → FitsSigned w64 b → FitsSigned w64 c → FitsSigned w64 d
    → p ≡ to_z w64 (of_z w64 a) → q ≡ to_z w64 (of_z w64 b) → s ≡ to_z w64 (of_z w64 c) → t ≡ to_z w64 (of_z w64 d)
    → r ≡ int_cmp
    (to_z w128 (of_z w128 (to_z w128 (of_z w128 p) *ℤ to_z w128 (of_z w128 q))))
    (to_z w128 (of_z w128 (to_z w128 (of_z w128 s) *ℤ to_z w128 (of_z w128 t))))
    → r ≡ int_cmp (a *ℤ b) (c *ℤ d)
narrow_order r a b c d p q s t fa fb fc fd ea eb ec ed e =
    e ∙ (λ i. int_cmp
    (to_z w128 (of_z w128 (widened a p fa ea i *ℤ widened b q fb eb i)))
    (to_z w128 (of_z w128 (widened c s fc ec i *ℤ widened d t fd ed i))))
    ∙ (λ i. int_cmp (held (a *ℤ b) (narrow_product a b fa fb) i) (held (c *ℤ d) (narrow_product c d fc fd) i))
