use Rattle.std.proofs.Common.{◌≡◌, ◌*◌, pos, negsuc, not, arith}
use Rattle.std.specs.Prelude.{ℤ, ◌*ℤ◌, nat_abs}
use lib.Signed.{lt_z}
use mathlib.Core.Bool.{beq}
use Rattle.wide_core.specs.Wides.{signed}
use Rattle.wide_core.proofs.HeldLemmas.{held}
use Rattle.wide_core.proofs.product.compare_wide.Goals as goal

-- a product by its factors' signs and absolute values
signed_product : (a b : ℤ) → signed (not (beq (lt_z a (pos 0)) (lt_z b (pos 0)))) (nat_abs a * nat_abs b) ≡ a *ℤ b
signed_product (pos a) (pos b) = grind arith
signed_product (pos a) (negsuc b) = grind arith
signed_product (negsuc a) (pos b) = grind arith
signed_product (negsuc a) (negsuc b) = grind arith

pub returns : goal.returns
returns c =
    rw (
      c.product-left.ensures,
      c.product-right.ensures,
      c.unsigned_abs.ensures.value,
      c.unsigned_abs-2.ensures.value,
      c.unsigned_abs-3.ensures.value,
      c.unsigned_abs-4.ensures.value,
      held c.args.a c.ranges.a,
      held c.args.b c.ranges.b,
      held c.args.c c.ranges.c,
      held c.args.d c.ranges.d,
      signed_product c.args.a c.args.b,
      signed_product c.args.c c.args.d,
    ) at c.compare_signed.ensures
