use Rattle.std.proofs.Common.{[], ◌∷◌}
use Rattle.std.proofs.lemmas.List.Elements.{All-head}
use Rattle.split_core.specs.Splits.{IsRoom}
use Rattle.split_core.proofs.CoverLemmas.{All-front, All-back}
use Rattle.rtree_core.proofs.free_lists.take_list.Goals as goal

pub returns-clause-list : goal.returns-clause-list
returns-clause-list g c =
    All-head (λ v. IsRoom v) c.in-Some.list []
    (All-back (λ v. IsRoom v) _ (c.in-Some.list ∷ []) (rw c.in-Some.ensures.items at c.requires.free))

pub returns-clause-free : goal.returns-clause-free
returns-clause-free g c =
    All-front (λ v. IsRoom v) _ (c.in-Some.list ∷ []) (rw c.in-Some.ensures.items at c.requires.free)
