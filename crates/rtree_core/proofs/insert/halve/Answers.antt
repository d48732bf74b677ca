use Rattle.std.proofs.Common.{arith}
use Rattle.std.proofs.lemmas.List.Elements.{All-push}
use Rattle.split_core.specs.Splits.{IsRoom}
use Rattle.rtree_core.proofs.insert.halve.Goals as goal

pub split-requires : goal.split-requires
split-requires g c = record {
  nine = c.requires.nine;
  one_room = c.take_list-one.ensures.list;
  two_room = c.take_list-two.ensures.list;
}

pub node_of-second-requires : goal.node_of-second-requires
node_of-second-requires g c =
    let groups = c.split.ensures.groups in
    record {
      some = omega (arith, groups.two_enough, c.split.new.two.ok.0);
      few = omega (arith, groups.one_enough, groups.all, c.requires.nine, c.args.list.now.ok.0, c.split.new.two.ok.0);
      room = omega (arith, c.take_list-two.ensures.list.room, c.split.ensures.two_capacity);
    }

pub returns-clause-halved : goal.returns-clause-halved
returns-clause-halved g c = record {
  two = c.split.new.two.items;
  groups = rw c.replace-emptied.ensures.after c.split.ensures.groups;
  node = c.node_of-second.ensures.node;
}

pub take_list-one-requires-clause-some : goal.take_list-one-requires-clause-some
take_list-one-requires-clause-some g c = omega (arith, c.requires.free.enough)

pub take_list-one-requires-clause-free : goal.take_list-one-requires-clause-free
take_list-one-requires-clause-free g c = c.requires.free.free

pub take_list-two-requires-clause-some : goal.take_list-two-requires-clause-some
take_list-two-requires-clause-some g c = omega (arith, c.requires.free.enough, c.take_list-one.ensures.len)

pub take_list-two-requires-clause-free : goal.take_list-two-requires-clause-free
take_list-two-requires-clause-free g c = c.take_list-one.ensures.free

pub push_reserved-requires : goal.push_reserved-requires
push_reserved-requires g c = omega (
  arith,
  c.args.free.now.ok.1,
  c.take_list-one.ensures.len,
  c.take_list-one.ensures.capacity,
  c.take_list-two.ensures.len,
  c.take_list-two.ensures.capacity,
)

pub returns-clause-list : goal.returns-clause-list
returns-clause-list g c =
    let groups = c.split.ensures.groups in
    rw c.replace-emptied.ensures.after (record {
      some = omega (arith, groups.one_enough, c.split.new.one.ok.0);
      few = omega (arith, groups.two_enough, groups.all, c.requires.nine, c.args.list.now.ok.0, c.split.new.one.ok.0);
      room = omega (arith, c.take_list-one.ensures.list.room, c.split.ensures.one_capacity);
    })

pub returns-clause-spent : goal.returns-clause-spent
returns-clause-spent g c = record {
  free = rw (c.push_reserved.ensures.items, c.replace-emptied.ensures.value)
      (All-push (λ v. IsRoom v) c.take_list-two.new.free.items c.split.new.rest c.take_list-two.ensures.free (record {
        empty = c.split.ensures.emptied;
        room = omega (arith, c.requires.nine, c.args.list.now.ok.1, c.split.ensures.rest_capacity);
      }));
  len = omega (arith, c.take_list-one.ensures.len, c.take_list-two.ensures.len, c.push_reserved.ensures.len);
}
