use Rattle.std.proofs.Common.{arith, rules, ◌≡◌, ◌-◌, ◌+◌, ◌++◌, [], ◌∷◌, length, ap, ◌∙◌, append_assoc, length-append}
use Rattle.std.proofs.lemmas.List.Concat.{flat_map-append}
use Rattle.std.proofs.lemmas.List.{append-nil}
use Rattle.std.specs.Vec.Iter.{into_iter_items}
use Rattle.std.specs.List.{flat_map}
use Rattle.split_core.proofs.CoverLemmas.{All-mid}
use Rattle.rtree_core.proofs.EditableTreeLemmas.{can_take_less, took_none, took_both}
use Rattle.rtree_core.proofs.editable_tree.EditableTree.insert_all.Goals as goal

pub insert-requires-clause-can_take : goal.insert-requires-clause-can_take
insert-requires-clause-can_take g c =
    let done = length c.loop-item.yielded in
    let left = length c.args.items.items - done in
    let all = ap length c.loop-item.invariant.parts in
    let next = ap length c.in-Some.ensures.steps.0 in
    let parts = length-append c.loop-item.yielded (into_iter_items c.loop-item.item-iterator) in
    can_take_less 1 left c.loop-item.self (omega (arith, all, next, parts))
    (c.loop-item.invariant.taken_in.spent left (can_take_less (done + left) _ c.args.self.now (omega (arith, all, next, parts, c.args.items.ok.0))
    c.requires.can_take))

pub insert-requires-clause-fits : goal.insert-requires-clause-fits
insert-requires-clause-fits g c =
    let here : c.loop-item.yielded ++ c.in-Some.item ∷ into_iter_items c.next.new.self ≡ c.args.items.items = rw (← c.in-Some.ensures.steps.0)
    c.loop-item.invariant.parts in
    All-mid (g.T.Item.fits c.args.level) c.loop-item.yielded c.in-Some.item (into_iter_items c.next.new.self) (rw here c.requires.fit)

pub loop-item-preserved : goal.loop-item-preserved
loop-item-preserved g c =
    let steps = c.in-Some.ensures.steps.0 in
    let item = c.in-Some.item in
    let yielded = c.loop-item.yielded in
    let entries = g.T.Item.entries in
    let more : flat_map entries (yielded ++ item ∷ []) ≡ flat_map entries yielded ++ entries item = flat_map-append entries yielded (item ∷ []) ∙ ap
    (λ es. flat_map entries yielded ++ es) (append-nil (entries item)) in
    record {
      parts = append_assoc yielded (item ∷ []) _ ∙ rw (← steps) c.loop-item.invariant.parts;
      left = omega (arith, c.loop-item.invariant.left, c.in-Some.ensures.steps.1, ap length steps);
      taken_in =
          rw (length-append yielded (item ∷ []), more)
          (took_both (length yielded) 1 (flat_map entries yielded) (entries item) _ _ _ c.loop-item.invariant.taken_in c.insert.ensures);
    }

pub loop-item-init : goal.loop-item-init
loop-item-init g c = record { parts = search rules; left = search rules; taken_in = took_none c.args.self.now c.requires.sound }
