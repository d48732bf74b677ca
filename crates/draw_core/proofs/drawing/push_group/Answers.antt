use Rattle.std.proofs.Common.{codes, flat_map, string_bytes}
use Rattle.std.specs.Ordering.{nat_cmp}
use Rattle.std.specs.BTreeSet.{contains}
use Rattle.layer_core.specs.Layers.{Feature}
use Rattle.layer_core.specs.Walks.{feature_read}
use Rattle.draw_core.specs.Drawings.{drawing_by}
use Rattle.draw_core.specs.Pictures.{element}
use Rattle.draw_core.proofs.PictureLemmas.{all_added, fifth_pushed, next_added}
use Rattle.draw_core.proofs.drawing.push_group.Goals as goal

pub loop-feature-preserved : goal.loop-feature-preserved
loop-feature-preserved g c =
    let drawing = drawing_by g.G.Geometry.box_of g.G.Drawn.start_of g.G.Drawn.path_of in
    next_added (λ f. element drawing c.args.frame.now (contains nat_cmp c.args.matches.now f.number) f) (feature_read c.in-Some.feature)
    c.loop-feature.feature-iterator _ (string_bytes c.loop-feature.text) _ _ c.in-Some.ensures.steps
    (rw c.contains.ensures at c.in_ok-push_element.ensures) c.loop-feature.invariant

pub returns : goal.returns
returns g c =
    let drawing = drawing_by g.G.Geometry.box_of g.G.Drawn.start_of g.G.Drawn.path_of in
    let each = λ (f : Feature _). element drawing c.args.frame.now (contains nat_cmp c.args.matches.now f.number) f in
    let features = c.args.layer.now.list.features in
    let begun = string_bytes c.push_str-3.new.self in
    let filled = string_bytes c.loop-feature.text in
    fifth_pushed c.push_str-4.result (codes "<g class=\"") c.args.side.now (codes "\">\n") (flat_map each features) (codes "</g>\n")
    (string_bytes c.args.text.now) (string_bytes c.push_str.new.self) (string_bytes c.push_str-2.new.self) begun filled
    (string_bytes c.push_str-4.new.self) c.in_ok-push_str.ensures.bytes c.in_ok-push_str-2.ensures.bytes c.in_ok-push_str-3.ensures.bytes
    (all_added each c.loop-feature.feature-iterator c.into_iter-feature-iterator.result features filled begun c.in-None.ensures.steps.0 (cc)
    c.loop-feature.invariant)
    c.push_str-4.ensures.bytes
