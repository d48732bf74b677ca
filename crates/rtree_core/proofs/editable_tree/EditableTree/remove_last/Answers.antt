use Rattle.std.proofs.Common.{refl, sym, ◌∙◌}
use Rattle.rtree_core.proofs.RemovalLemmas.{only_there, other_there, holds_only}
use Rattle.rtree_core.proofs.editable_tree.EditableTree.remove_last.Goals as goal

pub returns-then-ne-clause-held : goal.returns-then-ne-clause-held
returns-then-ne-clause-held c =
    other_there _ c.in-Some.leaf c.index-entries-0.result c.args.entry.now _ c.in-Some.is c.requires.leaf c.entries.ensures.entries
    c.index-entries-0.is (sym c.ne.ensures ∙ c.if-ne.true)

pub returns-clause-last : goal.returns-clause-last
returns-clause-last c = λ h.
    only_there _ c.in-Some.leaf c.index-entries-0.result c.args.entry.now _ c.in-Some.is c.requires.leaf c.entries.ensures.entries
    c.index-entries-0.is (sym c.ne.ensures ∙ c.if-ne.false)

pub returns-clause-held : goal.returns-clause-held
returns-clause-held c = (λ h. holds_only _ _ (returns-clause-last c refl), λ h. refl)
