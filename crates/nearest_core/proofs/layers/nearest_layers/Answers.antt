use denote.Param.Send.{sendable}
use Rattle.std.proofs.Common.{◌∙◌, subst, sym}
use Rattle.layer_core.specs.Layers.{Contents}
use Rattle.nearest_core.specs.Matches.{AreMatches, AreMatchesOf}
use Rattle.nearest_core.proofs.MatchLemmas.{from_both, if_ok, of_features}
use Rattle.nearest_core.proofs.SyncLemmas.{search_sync}
use Rattle.nearest_core.proofs.layers.nearest_layers.Goals as goal

pub returns-then-workers-le1 : goal.returns-then-workers-le1
returns-then-workers-le1 g c =
    if_ok c.matches_of.result _ _ (λ matches are.
    subst (λ (right : Contents g.row.G.Denot).
    AreMatches g.G.Square.Square.fraction g.G.Planar.has_point c.args.query.now right c.args.left.now.list.features matches.items) c.in_ok-right.ensures
    (of_features g.G.Square.Square.fraction g.G.Planar.has_point _ _ c.args.left.now.list c.in_ok-numbers.ensures.layer c.deref.result.now matches.items
    (c.deref.ensures.value ∙ c.in_ok-numbers.ensures.numbers) are))
    c.matches_of.ensures

pub returns : goal.returns
returns g c =
    from_both c.concatenated.result _ _ _ c.concatenated.ensures.all c.concatenated.ensures.matches (λ matches whole all.
    subst (λ (right : Contents g.row.G.Denot).
    AreMatches g.G.Square.Square.fraction g.G.Planar.has_point c.args.query.now right c.args.left.now.list.features matches.items) c.in_ok-right.ensures
    (of_features g.G.Square.Square.fraction g.G.Planar.has_point _ _ c.args.left.now.list c.in_ok-numbers.ensures.layer c.deref-2.result.now matches.items
    (c.deref-2.ensures.value ∙ c.in_ok-numbers.ensures.numbers)
    (subst (AreMatchesOf g.G.Square.Square.fraction g.G.Planar.has_point c.args.query.now c.in_ok-right.right c.args.left.now.list c.deref-2.result.now) (sym all)
    (c.in_ok-parts.ensures whole))))

pub matches_by_chunks-requires-sync-C : goal.matches_by_chunks-requires-sync-C
matches_by_chunks-requires-sync-C g c κs within = search (sendable, search_sync) depth 10
