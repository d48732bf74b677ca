use Rattle.std.proofs.Common.{arith, ◌≡◌, ◌≤◌, [], ◌∷◌, map, length}
use Rattle.std.proofs.lemmas.List.{length-map, map-id}
use Rattle.rtree_core.specs.declared.pack.Placed.{Placed}
use Rattle.rtree_core.proofs.PackingLemmas.{leaves_of, nodes_above}
use Rattle.rtree_core.proofs.PackLemmas.{row_first, row_next, row_root_is, small_above, only_one, few_entries}
use Rattle.rtree_core.proofs.pack.pack_entries.Goals as goal

pub loop-alloc-init : goal.loop-alloc-init
loop-alloc-init c =
    let made = rw map-id at c.in_ok-nodes.ensures.nodes in
    let few = few_entries _ c.requires.distinct (rw map-id at c.in_ok-nodes.ensures.in_range) in
    record {
      row = row_first _ _ (omega (arith, c.requires.some, c.args.entries.ok.0)) made
          (leaves_of _ _ c.requires.order (rw map-id at c.in_ok-nodes.ensures.pages));
      places = c.in_ok-nodes.ensures.places;
      small = omega (arith, made.count, few, c.args.entries.ok.0, c.in_ok-nodes.nodes.ok.0, length-map c.in_ok-nodes.nodes.items (λ (p : Placed). p.node));
    }

pub loop-alloc-preserved : goal.loop-alloc-preserved
loop-alloc-preserved c =
    let many : 2 ≤ length (map (λ (p : Placed). p.node) c.loop-alloc.nodes.items) = omega
    (arith, c.loop-alloc-test.true, c.loop-alloc.nodes.ok.0, length-map c.loop-alloc.nodes.items (λ (p : Placed). p.node)) in
    record {
      row = row_next _ _ _ _ many c.loop-alloc.invariant.row c.in_ok-above.ensures.nodes (nodes_above _ _ _ c.loop-alloc.invariant.places c.in_ok-above.ensures.tiles);
      places = c.in_ok-above.ensures.places;
      small = small_above _ c.loop-alloc.nodes c.in_ok-above.above many c.in_ok-above.ensures.nodes c.loop-alloc.invariant.small;
    }

pub returns : goal.returns
returns c =
    let one : c.loop-alloc.nodes.items ≡ c.in-Some.root ∷ [] = only_one _ _ _ c.in-Some.ensures.items (omega (arith, c.loop-alloc-test.false, c.loop-alloc.nodes.ok.0)) in
    row_root_is _ c.in-Some.root.node _ _ (cc) c.requires.distinct (rw map-id at c.in_ok-nodes.ensures.in_range) (rw one at c.loop-alloc.invariant.row)
