use Rattle.std.proofs.Common.{ℕ, List, [], ◌∷◌}
use Rattle.wkt_core.specs.Grammar.{RawPoint}
use Rattle.wkt_core.specs.ListSteps.{TakesBody}
use Rattle.wkt_core.proofs.PointLemmas.{if_none}
use Rattle.wkt_core.proofs.TextLemmas.{no_single, no_line}
use Rattle.wkt_core.proofs.raw.RawText.read_body.Goals as goal

pub returns-in_err-rest-in-Point-clause-none : goal.returns-in_err-rest-in-Point-clause-none
returns-in_err-rest-in-Point-clause-none c =
    let none : (lists : List (List RawPoint)) (rest : List ℕ) → TakesBody c.args.scale c.args.keyword c.args.text.now lists rest → ⊥ =
    rw c.in-Point.is (no_single c.args.scale c.args.text.now c.in_err-rest-in-Point.ensures.none) in
    if_none _ none

pub returns-in_err-rest-in-LineString-clause-none : goal.returns-in_err-rest-in-LineString-clause-none
returns-in_err-rest-in-LineString-clause-none c =
    let none : (lists : List (List RawPoint)) (rest : List ℕ) → TakesBody c.args.scale c.args.keyword c.args.text.now lists rest → ⊥ =
    rw c.in-LineString.is (no_line c.args.scale c.args.text.now c.in_err-rest-in-LineString.ensures.none) in
    if_none _ none

pub returns-in_ok-rest-in-Point-clause-some : goal.returns-in_ok-rest-in-Point-clause-some
returns-in_ok-rest-in-Point-clause-some c =
    let (p, taken, firsts) = c.in_ok-rest-in-Point.ensures.some in
    ((p ∷ []) ∷ [], rw c.in-Point.is taken, c.first_was_read.ensures c.args.scale (p ∷ []) firsts)

pub returns-in-Polygon-clause-none : goal.returns-in-Polygon-clause-none
returns-in-Polygon-clause-none c = rw c.in-Polygon.is (search)
