use Rattle.std.proofs.Common.{rules, ◌≡◌, ◌+◌, ◌-◌, ℕ, arith, refl, subst}
use Rattle.std.specs.Prelude.{IfSome}
use Rattle.plane_core.specs.declared.node.Node.{Node}
use Rattle.plane_core.specs.Places.{node_point}
use Rattle.noding_core.specs.Gathered.{IsOn}
use Rattle.noding_core.proofs.GrowthLemmas.{grown_first, grown_next, grown_nodes}
use Rattle.shown_core.proofs.ShownLemmas.{node_on}
use Rattle.arrangement_core.specs.Crossed.{LiesAfter}
use Rattle.arrangement_core.proofs.WalkLemmas.{all_item, some_nodes, first_among, same_item, last_here, next_at}
use Rattle.arrangement_core.proofs.walk.mark_noded.Goals as goal

more_less : (i : ℕ) → (i + 1) - 1 ≡ i
more_less i = omega arith

pub node_at-first-requires : goal.node_at-first-requires
node_at-first-requires c = some_nodes c.args.pair.now.first.now c.args.pair.now.second.now c.args.course.now.edge c.args.nodes.now c.requires.cuts

pub add_node-walk-requires-clause-on : goal.add_node-walk-requires-clause-on
add_node-walk-requires-clause-on c =
    let a = c.args.pair.now.first.now in
    let b = c.args.pair.now.second.now in
    let ns = c.args.nodes.now in
    node_on a b c.args.course.now _ (node_point c.node_at-first.result) c.requires.cuts
    (first_among ns c.node_at-first.result (some_nodes a b c.args.course.now.edge ns c.requires.cuts) c.node_at-first.ensures)

pub loop-i-init : goal.loop-i-init
loop-i-init c =
    let a = c.args.pair.now.first.now in
    let b = c.args.pair.now.second.now in
    let e = c.args.course.now.edge in
    let ns = c.args.nodes.now in
    let some = some_nodes a b e ns c.requires.cuts in
    record {
      grown = grown_first a b e ns c.node_at-first.result _ _ some c.node_at-first.ensures c.add_node-walk.ensures.grown;
      after = λ k is. subst (λ (n : Node). IfSome c.add_node-walk.result.part (LiesAfter a b e (node_point n))) (same_item ns 0 0 k c.node_at-first.result refl some is c.node_at-first.ensures) c.add_node-walk.ensures.after;
    }

pub step-walk-requires-clause-next : goal.step-walk-requires-clause-next
step-walk-requires-clause-next c =
    next_at c.args.pair.now.first.now c.args.pair.now.second.now c.args.course.now.edge c.args.nodes.now c.loop-i.i c.node_at-k.result c.node_at-l.result c.requires.cuts (search rules) (search rules)
    c.node_at-k.ensures c.node_at-l.ensures

pub step-walk-requires-clause-here : goal.step-walk-requires-clause-here
step-walk-requires-clause-here c =
    last_here c.args.pair.now.first.now c.args.pair.now.second.now c.args.course.now.edge c.args.nodes.now c.loop-i.i c.node_at-k.result _ _ (search rules) (search rules)
    c.node_at-k.ensures c.loop-i.invariant.grown

pub step-walk-requires-clause-after : goal.step-walk-requires-clause-after
step-walk-requires-clause-after c = c.loop-i.invariant.after c.node_at-k.result c.node_at-k.ensures

pub loop-i-preserved : goal.loop-i-preserved
loop-i-preserved c =
    let a = c.args.pair.now.first.now in
    let b = c.args.pair.now.second.now in
    let e = c.args.course.now.edge in
    let ns = c.args.nodes.now in
    let i = c.loop-i.i in
    record {
      grown = grown_next a b e ns i c.node_at-k.result c.node_at-l.result _ _ _ (search rules) (search rules) c.node_at-k.ensures c.node_at-l.ensures
          c.loop-i.invariant.grown c.step-walk.ensures.grown;
      after = λ n is. subst (λ (x : Node). IfSome c.step-walk.result.part (LiesAfter a b e (node_point x)))
          (same_item ns ((i + 1) - 1) i n c.node_at-l.result (more_less i) c.loop-i-test.true is c.node_at-l.ensures) c.step-walk.ensures.after;
    }

pub returns : goal.returns
returns c =
    grown_nodes c.args.pair.now.first.now c.args.pair.now.second.now c.args.course.now.edge c.args.nodes.now c.loop-i.i _ _ (search rules) c.loop-i.invariant.grown

pub step-walk-requires-clause-first : goal.step-walk-requires-clause-first
step-walk-requires-clause-first c = all_item (IsOn c.args.course.now.edge) c.args.nodes.now (c.loop-i.i - 1) c.node_at-k.result c.requires.on (search rules) c.node_at-k.ensures

pub step-walk-requires-clause-second : goal.step-walk-requires-clause-second
step-walk-requires-clause-second c = all_item (IsOn c.args.course.now.edge) c.args.nodes.now c.loop-i.i c.node_at-l.result c.requires.on c.loop-i-test.true c.node_at-l.ensures
