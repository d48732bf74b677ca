use Rattle.nearest_core.proofs.MatchLemmas.{matches_more}
use Rattle.nearest_core.proofs.matches.matches_of.Goals as goal

pub loop-number-preserved : goal.loop-number-preserved
loop-number-preserved g c =
    matches_more g.G.Square.Square.fraction g.G.Planar.has_point c.args.query.now c.args.right.now c.args.left.now.list c.args.numbers.now _ _ _ _
    c.loop-number-test.true c.loop-number.invariant c.in_ok-push_matches.ensures
