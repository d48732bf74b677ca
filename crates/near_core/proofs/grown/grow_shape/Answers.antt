use Rattle.std.proofs.Common.{◌≡◌, ℕ, arith, ap, ◌∙◌}
use Rattle.near_core.specs.Growth.{grown, growth_of}
use Rattle.near_core.proofs.GrowthLemmas.{box_of_ends}
use Rattle.near_core.proofs.grown.grow_shape.Goals as goal

pub returns : goal.returns
returns c =
    let by = growth_of c.args.distance in
    let half : c.div_ceil-by.result ≡ by = omega arith in
    box_of_ends c.args.distance c.args.shape.now c.grow-x.result c.grow-y.result c.in-Some.shape
    (c.grow-x.ensures ∙ ap (λ (n : ℕ). grown n c.x.result.now) half ∙ ap (grown by) c.x.ensures)
    (c.grow-y.ensures ∙ ap (λ (n : ℕ). grown n c.y.result.now) half ∙ ap (grown by) c.y.ensures)
    c.in-Some.ensures.corners
