use Rattle.std.proofs.Common.{All, sym, subst, ◌∙◌}
use Rattle.std.proofs.lemmas.List.{get_or_default, take_all}
use Rattle.std.proofs.lemmas.List.Elements.{All-nil}
use Rattle.edge_index_core.specs.Trees.{IsEntryIn}
use Rattle.noding_core.specs.Near.{IsFound, IsEntryFound}
use Rattle.noding_core.proofs.GatherLemmas.{extends-refl, extends-push, extends-trans}
use Rattle.noding_core.proofs.NearLemmas.{adds-none, adds-trans, adds_pushed, entries_more, entry_apart, found_pushed}
use Rattle.noding_core.proofs.near.push_entries.Goals as goal

pub loop-entry-init : goal.loop-entry-init
loop-entry-init c = record { kept = extends-refl _; own = adds-none _ _; found = λ e box. All-nil _ }

pub loop-entry-preserved-then-not-meets : goal.loop-entry-preserved-then-not-meets
loop-entry-preserved-then-not-meets c =
    let es = c.args.edges.now in
    let xs = c.args.entries.now in
    let i = c.loop-entry.entry-index in
    let x = c.entry-item.result in
    let ns = c.loop-entry.near.items in
    record {
      kept = c.loop-entry.invariant.kept;
      own = c.loop-entry.invariant.own;
      found = λ e box. entries_more e es ns ns xs i x c.loop-entry-test.true c.entry-item.is (extends-refl ns) (c.loop-entry.invariant.found e box)
          (entry_apart e es ns c.args.bounds.now x box (subst (IsEntryIn es) (sym c.entry-item.is) (c.requires i x c.loop-entry-test.true))
          (λ m. cc (c.meets-meets.ensures.1 m)));
    }

pub loop-entry-preserved : goal.loop-entry-preserved
loop-entry-preserved c =
    let es = c.args.edges.now in
    let i = c.loop-entry.entry-index in
    let x = c.entry-item.result in
    let entry = subst (IsEntryIn es) (sym c.entry-item.is) (c.requires i x c.loop-entry-test.true) in
    let pushed = extends-push _ _ _ c.in_ok-push.ensures.items in
    record {
      kept = extends-trans _ _ _ c.loop-entry.invariant.kept pushed;
      own = adds-trans _ _ _ _ c.loop-entry.invariant.own (adds_pushed es _ _ x.number _ _ entry.within c.index-edges-entry.is c.in_ok-push.ensures.items);
      found = λ e box. entries_more e es _ _ c.args.entries.now i x c.loop-entry-test.true c.entry-item.is pushed (c.loop-entry.invariant.found e box)
          (λ d. subst (IsFound e _) (c.index-edges-entry.is ∙ get_or_default es x.number _ d entry.within)
          (found_pushed e _ _ _ c.in_ok-push.ensures.items));
    }

pub returns-clause-found : goal.returns-clause-found
returns-clause-found c = λ e box.
    subst (All (IsEntryFound e c.args.edges.now c.loop-entry.near.items)) (take_all c.loop-entry.entry-index c.args.entries.now c.loop-entry-test.false)
    (c.loop-entry.invariant.found e box)
