use Rattle.std.proofs.Common.{refl}
use Rattle.noding_core.proofs.TestLemmas.{clash}
use Rattle.geometry_distance_core.proofs.PairLemmas.{adds_lesser, adds_first, adds_more}
use Rattle.geometry_distance_core.proofs.nearest.Nearest.with.Goals as goal

pub returns-in-Some : goal.returns-in-Some
returns-in-Some c = λ pairs is.
    adds_lesser c.args.self _ c.in-Some.least c.args.square c.lesser.result pairs refl c.in-Some.is refl c.lesser.ensures.one c.lesser.ensures.first c.lesser.ensures.second is

pub returns-in-None : goal.returns-in-None
returns-in-None c = λ pairs is. adds_first c.args.self _ c.args.square pairs refl c.in-None.is refl (c.is_within.ensures.0 c.if-is_within.true) is

pub returns-in-None-2 : goal.returns-in-None-2
returns-in-None-2 c = λ pairs is.
    adds_more c.args.self _ c.args.square pairs refl c.in-None.is refl (λ few. clash c.is_within.result (c.is_within.ensures.1 few) c.if-is_within.false) is
