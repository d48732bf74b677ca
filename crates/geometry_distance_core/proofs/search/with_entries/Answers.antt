use Rattle.std.proofs.Common.{sym, subst}
use Rattle.edge_index_core.specs.Trees.{IsEntryIn}
use Rattle.geometry_distance_core.proofs.SearchLemmas.{entries_none, entries_more, entries_all}
use Rattle.geometry_distance_core.proofs.search.with_entries.Goals as goal

pub loop-entry-init : goal.loop-entry-init
loop-entry-init c = entries_none c.args.e.now c.args.fs.now c.args.nearest

pub loop-entry-preserved : goal.loop-entry-preserved
loop-entry-preserved c =
    let xs = c.args.entries.now in
    let i = c.loop-entry.entry-index in
    let x = c.entry-item.result in
    let entry = subst (IsEntryIn c.args.fs.now) (sym c.entry-item.is) (c.requires.entries i x c.loop-entry-test.true) in
    entries_more c.args.e.now c.args.fs.now xs i x c.index-fs-entry.result _ _ _ c.loop-entry-test.true c.entry-item.is c.loop-entry.invariant
    entry.within c.index-fs-entry.is c.with_edges-found.ensures

pub returns : goal.returns
returns c = entries_all c.args.e.now c.args.fs.now c.args.entries.now c.loop-entry.entry-index _ _ c.loop-entry-test.false c.loop-entry.invariant
