use Rattle.std.proofs.Common.{◌*ℤ◌, ◌∙◌, refl, int_cmp}
use Rattle.wide_core.proofs.HeldLemmas.{narrowed}
use Rattle.wide_core.proofs.product.compare_products.Goals as goal

pub returns-then-is_narrow-4 : goal.returns-then-is_narrow-4
returns-then-is_narrow-4 c =
    let a = narrowed c.args.a c.ranges.a (c.if-is_narrow.ensures refl) in
    let b = narrowed c.args.b c.ranges.b (c.if-is_narrow-2.ensures refl) in
    let d = narrowed c.args.c c.ranges.c (c.if-is_narrow-3.ensures refl) in
    let e = narrowed c.args.d c.ranges.d (c.if-is_narrow-4.ensures refl) in
    c.compare_narrow.ensures ∙ (λ i. int_cmp (a i *ℤ b i) (d i *ℤ e i))
