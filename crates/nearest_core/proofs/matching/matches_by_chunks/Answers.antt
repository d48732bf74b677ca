use Rattle.std.proofs.Common.{IfOk, get_or, arith, rules, of_calls}
use Rattle.nearest_core.specs.Matches.{AreRows}
use Rattle.nearest_core.proofs.MatchLemmas.{chunks_joined, chunk_matched, no_part, from_both}
use Rattle.nearest_core.proofs.matching.matches_by_chunks.Goals as goal

pub returns : goal.returns
returns g c = from_both c.map_chunks.result _ _ _ c.map_chunks.ensures.len c.map_chunks.ensures.each (λ parts len each. λ ok.
    let row = g.C.Matching.is_row c.args.search.now in
    chunks_joined row c.args.size c.args.numbers.now parts.items no_part
    (λ n l. let k = (each n no_part l).1 in
    let rows : IfOk (get_or parts.items n no_part) (λ matches. AreRows row k.argument.now matches.items) =
    first_of (search rules, search of_calls, assumption k) in
    chunk_matched row c.args.numbers.now k.argument.now c.args.size n _ k.argument_is (ok n no_part l) rows)
    c.requires (omega arith))
