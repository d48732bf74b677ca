use Rattle.std.proofs.lemmas.List.Sorted.{IsNonDecreasingBy-from_sort}
use Rattle.rtree_core.specs.Trees.{entries_in}
use Rattle.rtree_core.proofs.WindowLemmas.{ran, found_in, window_met, window_all, window_rises}
use Rattle.rtree_core.proofs.tree.RTree.window.Goals as goal

pub returns-clause-rising : goal.returns-clause-rising
returns-clause-rising g c =
    window_rises (g.W.Window.shape_of c.args.window.now) (entries_in c.args.self.now) _ _ (found_in (g.W.Window.shape_of c.args.window.now) _ c.in-Some.root c.new-found.result.items _ (cc) c.new-found.ensures.items (search ran)) c.sort_unstable.ensures.permutation
    (rw (← c.self.view_is) c.self.invariant.tree.distinct) (IsNonDecreasingBy-from_sort (λ n. n) _ c.sort_unstable.ensures.sorted)

pub returns-clause-met : goal.returns-clause-met
returns-clause-met g c =
    window_met (g.W.Window.shape_of c.args.window.now) (entries_in c.args.self.now) _ _ (found_in (g.W.Window.shape_of c.args.window.now) _ c.in-Some.root c.new-found.result.items _ (cc) c.new-found.ensures.items (search ran)) c.sort_unstable.ensures.permutation

pub returns-clause-all : goal.returns-clause-all
returns-clause-all g c =
    window_all (g.W.Window.shape_of c.args.window.now) (entries_in c.args.self.now) _ _ (found_in (g.W.Window.shape_of c.args.window.now) _ c.in-Some.root c.new-found.result.items _ (cc) c.new-found.ensures.items (search ran)) c.sort_unstable.ensures.permutation
