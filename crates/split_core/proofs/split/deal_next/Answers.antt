use Rattle.std.proofs.Common.{arith, refl, sym, ◌∙◌, vec_len, length}
use Rattle.std.specs.declared.alloc.Global.{Global}
use Rattle.std.specs.declared.vec.Vec.{Vec}
use Rattle.split_core.specs.Splits.{CanChoose, group}
use Rattle.split_core.proofs.SplitLemmas.{step_to_one, step_to_two}
use Rattle.split_core.proofs.split.deal_next.Goals as goal

still_can : {T : Type 0} (rest one two : Vec T Global) → CanChoose (vec_len rest) (vec_len one) (vec_len two)
    → CanChoose (length rest.items) (length one.items) (length two.items)
still_can rest one two can = record {
  some = omega (arith, can.some, rest.ok.0);
  one_can_wait = λ e. can.one_can_wait (omega (arith, e, rest.ok.0, one.ok.0));
  two_can_wait = λ e. can.two_can_wait (omega (arith, e, rest.ok.0, two.ok.0));
}

pub returns-then-is_less : goal.returns-then-is_less
returns-then-is_less g c =
    let covers = c.args.covers.now in
    record {
      step = step_to_two g.T.Covered.cover c.args.rest.now.items (group c.args.one.now.items covers.one) (group c.args.two.now.items covers.two)
          c.pick_next-next.result c.remove-item.result
          (record {
            can_choose = still_can c.args.rest.now c.args.one.now c.args.two.now c.requires.can_choose;
            next = rw c.deref.ensures.value at c.pick_next-next.ensures;
            item = c.remove-item.ensures.value;
          })
          c.of-cost_one.result c.of-cost_two.result
          (record {
            enlargement = rw (← c.cover-shape.ensures) c.of-cost_one.ensures.enlargement;
            area = c.of-cost_one.ensures.area;
            size = omega (arith, c.of-cost_one.ensures.size, c.len.ensures, c.args.one.now.ok.0);
          })
          (record {
            enlargement = rw (← c.cover-shape.ensures) c.of-cost_two.ensures.enlargement;
            area = c.of-cost_two.ensures.area;
            size = omega (arith, c.of-cost_two.ensures.size, c.len-2.ensures, c.args.two.now.ok.0);
          })
          _ _ _ (sym c.is_less.ensures ∙ c.if-is_less.true) c.remove-item.ensures.items c.push_reserved.ensures.items
          (rw (← c.cover-shape.ensures) c.cover-covers.ensures.corners);
      smaller = omega (arith, c.remove-item.ensures.len);
      larger = omega (arith, c.push_reserved.ensures.len);
      rest_capacity = c.remove-item.ensures.capacity;
      one_capacity = refl;
      two_capacity = c.push_reserved.ensures.capacity;
    }

pub returns-else-is_less : goal.returns-else-is_less
returns-else-is_less g c =
    let covers = c.args.covers.now in
    record {
      step = step_to_one g.T.Covered.cover c.args.rest.now.items (group c.args.one.now.items covers.one) (group c.args.two.now.items covers.two)
          c.pick_next-next.result c.remove-item.result
          (record {
            can_choose = still_can c.args.rest.now c.args.one.now c.args.two.now c.requires.can_choose;
            next = rw c.deref.ensures.value at c.pick_next-next.ensures;
            item = c.remove-item.ensures.value;
          })
          c.of-cost_one.result c.of-cost_two.result
          (record {
            enlargement = rw (← c.cover-shape.ensures) c.of-cost_one.ensures.enlargement;
            area = c.of-cost_one.ensures.area;
            size = omega (arith, c.of-cost_one.ensures.size, c.len.ensures, c.args.one.now.ok.0);
          })
          (record {
            enlargement = rw (← c.cover-shape.ensures) c.of-cost_two.ensures.enlargement;
            area = c.of-cost_two.ensures.area;
            size = omega (arith, c.of-cost_two.ensures.size, c.len-2.ensures, c.args.two.now.ok.0);
          })
          _ _ _ (sym c.is_less.ensures ∙ c.if-is_less.false) c.remove-item.ensures.items c.push_reserved-else-is_less.ensures.items
          (rw (← c.cover-shape.ensures) c.cover-covers-else-is_less.ensures.corners);
      smaller = omega (arith, c.remove-item.ensures.len);
      larger = omega (arith, c.push_reserved-else-is_less.ensures.len);
      rest_capacity = c.remove-item.ensures.capacity;
      one_capacity = c.push_reserved-else-is_less.ensures.capacity;
      two_capacity = refl;
    }
