use Rattle.std.proofs.Common.{sym, subst, ◌∙◌}
use Rattle.plane_core.specs.Places.{point_of}
use Rattle.edge_index_core.specs.Trees.{IsEntryIn}
use Rattle.edge_index_core.proofs.TreeLemmas.{place_wide}
use Rattle.edge_index_core.proofs.ScanLemmas.{adds_nothing, adds_more_met, adds_more_missed}
use Rattle.edge_index_core.proofs.scan.scan_entries.Goals as goal

pub loop-entry-init : goal.loop-entry-init
loop-entry-init c = adds_nothing _ _ _

pub loop-entry-preserved-then-not-is_over : goal.loop-entry-preserved-then-not-is_over
loop-entry-preserved-then-not-is_over c =
    let xs = c.args.entries.now in
    let i = c.loop-entry.entry-index in
    let x = c.entry-item.result in
    adds_more_missed c.args.edges.now (point_of c.args.p.now.place) xs i x _ _ (place_wide c.args.p.now.place) c.loop-entry-test.true c.entry-item.is c.loop-entry.invariant
    (subst (IsEntryIn c.args.edges.now) (sym c.entry-item.is) (c.requires i x c.loop-entry-test.true))
    (sym c.is_over_box-is_over.ensures ∙ c.if-not-is_over.true)

pub loop-entry-preserved : goal.loop-entry-preserved
loop-entry-preserved c =
    let es = c.args.edges.now in
    let xs = c.args.entries.now in
    let i = c.loop-entry.entry-index in
    let x = c.entry-item.result in
    let entry = subst (IsEntryIn es) (sym c.entry-item.is) (c.requires i x c.loop-entry-test.true) in
    adds_more_met es (point_of c.args.p.now.place) xs i x c.index-edges-entry.result _ _ _ c.loop-entry-test.true c.entry-item.is c.loop-entry.invariant
    entry.within c.index-edges-entry.is c.with-grown.ensures
