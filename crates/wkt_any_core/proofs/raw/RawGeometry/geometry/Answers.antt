use Rattle.wkt_any_core.proofs.AnswerLemmas.{bad_number, whole_cuts, formed_in, unformed, not_true, not_false}
use Rattle.wkt_any_core.proofs.raw.RawGeometry.geometry.Goals as goal

pub returns-then-not-self : goal.returns-then-not-self
returns-then-not-self c = bad_number _ _ _ (not_true _ c.if-not-self.true)

pub geometry_of-requires : goal.geometry_of-requires
geometry_of-requires c = whole_cuts _ _ _ c.requires (not_false _ c.if-not-self.false)

pub returns-in-Some : goal.returns-in-Some
returns-in-Some c =
    formed_in c.args.rings c.args.self.keyword c.args.self.paths (not_false _ c.if-not-self.false) c.in-Some.geometry c.in-Some.ensures.some
    c.answer.result c.answer.ensures.ok c.answer.ensures.err

pub returns-in-None : goal.returns-in-None
returns-in-None c = unformed c.args.rings c.args.self.keyword c.args.self.paths (not_false _ c.if-not-self.false) c.in-None.ensures.none
