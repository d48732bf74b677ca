use Rattle.std.specs.Str.Parse.{ParsesUnsigned, ExplainsUnsignedError, HasUnsignedDigitsIfOk}
use Rattle.words_core.proofs.ReadingLemmas.{number_found}
use Rattle.words_core.proofs.reading.arguments.number.Goals as goal

pub returns-in-Some-clause-ok : goal.returns-in-Some-clause-ok
returns-in-Some-clause-ok c =
    number_found (λ bs x. ParsesUnsigned 32 10 bs x × ExplainsUnsignedError 10 bs x × HasUnsignedDigitsIfOk bs x) (λ bs x gives. gives.0)
    c.args.given.now c.args.name.now _ c.in-Some.ensures.none c.in-Some.ensures.value

pub returns-in-None-clause-none : goal.returns-in-None-clause-none
returns-in-None-clause-none c =
    number_found (λ bs x. ParsesUnsigned 32 10 bs x × ExplainsUnsignedError 10 bs x × HasUnsignedDigitsIfOk bs x) (λ bs x gives. gives.0)
    c.args.given.now c.args.name.now _ c.in-None.ensures.none c.in-None.ensures.value
