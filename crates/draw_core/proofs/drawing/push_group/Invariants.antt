use Rattle.std.proofs.Common.{◌≡◌, ◌++◌, flat_map, string_bytes}
use Rattle.std.specs.Ordering.{nat_cmp}
use Rattle.std.specs.BTreeSet.{contains}
use Rattle.draw_core.specs.Drawings.{drawing_by}
use Rattle.draw_core.specs.Pictures.{element}
use Rattle.draw_core.proofs.drawing.push_group.Given as goal

abbrev pub invariant-loop-feature : goal.invariant-loop-feature
invariant-loop-feature g l =
    let drawing = drawing_by g.G.Geometry.box_of g.G.Drawn.start_of g.G.Drawn.path_of in
    string_bytes l.text ++ flat_map (λ f. element drawing l.frame (contains nat_cmp l.matches f.number) f) l.feature-iterator
    ≡ string_bytes l.initial.text ++ flat_map (λ f. element drawing l.frame (contains nat_cmp l.matches f.number) f) l.initial.feature-iterator
