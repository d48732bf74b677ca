use Rattle.std.proofs.Common.{ap, rules}
use Rattle.draw_core.proofs.PictureLemmas.{held_more, held_all}
use Rattle.draw_core.proofs.marks.Marks.new.Goals as goal

pub loop-found-preserved : goal.loop-found-preserved
loop-found-preserved g c =
    let pair_of = g.M.AsPair.pair_of in
    let found = c.found-item in
    let pair = c.as_pair-first in
    let i = c.loop-found.found-index in
    record {
      left = held_more (λ a. (pair_of a).0) _ _ c.args.matches.now i found.result pair.result.0 c.loop-found-test.true found.is
          (ap (λ p. p.0) pair.ensures) (search rules) c.loop-found.invariant.left;
      right = held_more (λ a. (pair_of a).1) _ _ c.args.matches.now i found.result pair.result.1 c.loop-found-test.true found.is
          (ap (λ p. p.1) pair.ensures) (search rules) c.loop-found.invariant.right;
    }

pub returns : goal.returns
returns g c =
    let matches = c.args.matches.now in
    let i = c.loop-found.found-index in
    record {
      left = held_all g.M.AsPair.pair_of (λ p. p.0) _ matches i c.loop-found-test.false c.loop-found.invariant.left;
      right = held_all g.M.AsPair.pair_of (λ p. p.1) _ matches i c.loop-found-test.false c.loop-found.invariant.right;
    }
