use Rattle.std.proofs.Common.{◌≡◌, ◌+◌, ◌^◌, ◌≤◌, map, vec_len}
use Rattle.std.specs.List.{enumerate_from}
use Rattle.rtree_core.proofs.PackLemmas.{IsRow}
use Rattle.rtree_core.proofs.pack.pack_entries.Given as goal

abbrev pub invariant-loop-alloc : goal.invariant-loop-alloc
invariant-loop-alloc l = record {
  row : IsRow l.fn.entries.items (map (λ p. p.node) l.nodes.items) l.height;
  places : map (λ p. (p.place, p.node)) l.nodes.items ≡ enumerate_from 0 (map (λ p. p.node) l.nodes.items);
  small : l.height + vec_len l.nodes ≤ 2 ^ 31;
}

abbrev pub decreases-loop-alloc : goal.decreases-loop-alloc
decreases-loop-alloc l = vec_len l.nodes
