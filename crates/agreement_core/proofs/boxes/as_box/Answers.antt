use Rattle.std.proofs.Common.{◌∙◌, sym}
use Rattle.agreement_core.proofs.BoxTestLemmas.{as_points, as_lines, as_areas, of_same}
use Rattle.agreement_core.proofs.boxes.as_box.Goals as goal

pub returns-then-dim-eq0 : goal.returns-then-dim-eq0
returns-then-dim-eq0 c =
    let path = c.path-path.result.now in
    of_same _ _ _
    (as_points c.args.geometry.now path (sym c.path_count.ensures ∙ c.if-path_count-ne1.false) (sym (c.path-path.ensures path)) (sym c.dim-dim.ensures ∙ c.if-dim-eq0.true))
    c.as_point.ensures

pub returns-then-dim-eq1 : goal.returns-then-dim-eq1
returns-then-dim-eq1 c =
    let path = c.path-path.result.now in
    of_same _ _ _
    (as_lines c.args.geometry.now path (sym c.path_count.ensures ∙ c.if-path_count-ne1.false) (sym (c.path-path.ensures path)) (sym c.dim-dim.ensures ∙ c.if-dim-eq1.true))
    c.as_segment.ensures

pub returns-else-dim-eq1 : goal.returns-else-dim-eq1
returns-else-dim-eq1 c =
    let path = c.path-path.result.now in
    of_same _ _ _
    (as_areas c.args.geometry.now path (sym c.path_count.ensures ∙ c.if-path_count-ne1.false) (sym (c.path-path.ensures path)) (λ e. c.if-dim-eq0.false (c.dim-dim.ensures ∙ e))
    (λ e. c.if-dim-eq1.false (c.dim-dim.ensures ∙ e)))
    c.as_rectangle.ensures
