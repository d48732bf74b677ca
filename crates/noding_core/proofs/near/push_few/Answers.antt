use Rattle.std.proofs.Common.{All, inr, sym, subst, ◌∙◌}
use Rattle.std.proofs.lemmas.List.{take_all}
use Rattle.std.proofs.lemmas.List.Elements.{All-nil}
use Rattle.noding_core.specs.Near.{IsFound}
use Rattle.noding_core.proofs.GatherLemmas.{extends-refl, extends-push, extends-trans}
use Rattle.noding_core.proofs.NearLemmas.{adds-none, adds-trans, adds_pushed, found_more, found_pushed}
use Rattle.noding_core.proofs.BoxApartLemmas.{beyond_apart}
use Rattle.noding_core.proofs.near.push_few.Goals as goal

pub loop-f-init : goal.loop-f-init
loop-f-init c = record { kept = extends-refl _; own = adds-none _ _; found = All-nil _ }

pub loop-f-preserved-then-beyond : goal.loop-f-preserved-then-beyond
loop-f-preserved-then-beyond c = record {
  kept = c.loop-f.invariant.kept;
  own = c.loop-f.invariant.own;
  found = found_more c.args.e.now _ _ _ c.args.edges.now c.loop-f.f-index c.loop-f-test.true c.f-item.is (extends-refl _) c.loop-f.invariant.found
      (inr (beyond_apart c.bounds_of-bounds.result c.args.e.now c.f-item.result c.bounds_of-bounds.ensures (sym c.is_beyond-beyond.ensures ∙ c.if-beyond.true)));
}

pub loop-f-preserved : goal.loop-f-preserved
loop-f-preserved c =
    let pushed = extends-push _ _ _ c.in_ok-push.ensures.items in
    record {
      kept = extends-trans _ _ _ c.loop-f.invariant.kept pushed;
      own = adds-trans _ _ _ _ c.loop-f.invariant.own (adds_pushed c.args.edges.now _ _ c.loop-f.f-index _ _ c.loop-f-test.true c.f-item.is c.in_ok-push.ensures.items);
      found = found_more c.args.e.now _ _ _ c.args.edges.now c.loop-f.f-index c.loop-f-test.true c.f-item.is pushed c.loop-f.invariant.found
          (found_pushed c.args.e.now _ _ _ c.in_ok-push.ensures.items);
    }

pub returns-clause-found : goal.returns-clause-found
returns-clause-found c = subst (All (IsFound c.args.e.now _)) (take_all c.loop-f.f-index c.args.edges.now c.loop-f-test.false) c.loop-f.invariant.found
