use Rattle.std.proofs.Common.{◌≡◌, ◌++◌, ◌∷◌, [], ℕ, ◌<◌, Contains, ◌∙◌, append_assoc, subst, arith}
use Rattle.std.specs.Vec.Iter.{into_iter_items}
use Rattle.std.proofs.lemmas.List.{length-set}
use Rattle.refine_core.specs.Parts.{numbers_of, HasRow}
use Rattle.refine_core.proofs.PartLemmas.{all_yielded, item_of, row_more}
use Rattle.refine_core.proofs.in_order.rows_of.Goals as goal

pub index_mut-requires : goal.index_mut-requires
index_mut-requires g c =
    let before = c.loop-part.invariant in
    let part = c.in-Some.part in
    let yielded = c.loop-part.yielded in
    let split : yielded ++ part ∷ into_iter_items c.next.new.self ≡ c.args.parts.items = rw (← c.in-Some.ensures.steps.0) before.parts in
    let below = item_of (λ p. p.chunk < c.args.chunks) c.args.parts.items yielded (into_iter_items c.next.new.self) part split c.requires in
    omega (arith, below, before.len)

pub loop-part-preserved : goal.loop-part-preserved
loop-part-preserved g c =
    let before = c.loop-part.invariant in
    let part = c.in-Some.part in
    let yielded = c.loop-part.yielded in
    let split : yielded ++ part ∷ into_iter_items c.next.new.self ≡ c.args.parts.items = rw (← c.in-Some.ensures.steps.0) before.parts in
    let below = item_of (λ p. p.chunk < c.args.chunks) c.args.parts.items yielded (into_iter_items c.next.new.self) part split c.requires in
    record {
      parts = append_assoc yielded (part ∷ []) _ ∙ split;
      len = length-set c.loop-part.rows.items part.chunk part.refined ∙ before.len;
      rows = row_more yielded c.loop-part.rows.items part (omega (arith, below, before.len)) before.rows;
    }

pub returns-clause-rows : goal.returns-clause-rows
returns-clause-rows g c =
    let all = all_yielded c.loop-part.yielded (into_iter_items c.loop-part.part-iterator) c.args.parts.items c.loop-part.invariant.parts
    (omega (arith, c.loop-part.part-iterator.rest.ok, c.in-None.ensures.steps.0)) in
    subst (λ parts. (number : ℕ) → Contains (numbers_of parts) number → HasRow parts c.loop-part.rows.items number) all c.loop-part.invariant.rows
