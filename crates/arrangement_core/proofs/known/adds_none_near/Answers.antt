use Rattle.std.proofs.Common.{subst}
use Rattle.std.specs.Prelude.{Option, IfSome}
use Rattle.plane_core.specs.Figures.{HasLength}
use Rattle.plane_core.specs.declared.part.Part.{Part}
use Rattle.shown_core.specs.Lying.{LiesIn}
use Rattle.noding_core.specs.ReadOffs.{outline_edges}
use Rattle.noding_core.proofs.NodeLemmas.{all_among}
use Rattle.arrangement_core.proofs.KnownLemmas.{part_adds_none, full_adds_none, all_add_none}
use Rattle.arrangement_core.proofs.known.adds_none_near.Goals as goal

pub returns-else-is_part_full : goal.returns-else-is_part_full
returns-else-is_part_full c = λ points holds.
    let a = c.args.pair.now.first.now in
    let b = c.args.pair.now.second.now in
    let e = c.args.course.now.edge in
    let one = c.requires.one in
    part_adds_none c.args.matrix.now a b (outline_edges a b) points e _
    (subst (λ (s : Option Part). IfSome s (LiesIn b e)) c.in-Some.is c.requires.known) (c.is_edge_shown.ensures holds)
    one.one (all_among HasLength e (outline_edges a b) one.edges.long (one.edges.first e one.one))

pub returns-then-is_part_full : goal.returns-then-is_part_full
returns-then-is_part_full c = λ points holds.
    let a = c.args.pair.now.first.now in
    let b = c.args.pair.now.second.now in
    let e = c.args.course.now.edge in
    let one = c.requires.one in
    full_adds_none c.args.matrix.now a b (outline_edges a b) points e _
    (subst (λ (s : Option Part). IfSome s (LiesIn b e)) c.in-Some.is c.requires.known) (c.is_part_full.ensures c.if-is_part_full.true)
    (all_among HasLength e (outline_edges a b) one.edges.long (one.edges.first e one.one))

pub returns-then-course : goal.returns-then-course
returns-then-course c = λ points holds.
    let a = c.args.pair.now.first.now in
    let b = c.args.pair.now.second.now in
    all_add_none c.args.matrix.now a b (outline_edges a b) points c.args.pair.now.second_box c.args.course.now.edge c.args.near.now
    c.requires.bounded c.requires.one c.requires.found (c.requires.apart c.if-course.true) (c.is_all_shown.ensures holds)
