use Rattle.std.proofs.Common.{Some, None, arith, refl}
use Rattle.std.proofs.lemmas.Str.Pattern.{split_parts}
use Rattle.words_core.proofs.reading.layout.named_columns.Goals as goal

pub returns-in-Some : goal.returns-in-Some
returns-in-Some c =
    let parts = split_parts 44 c.args.names.now (Some (c.in-Some.id, c.in-Some.geometry)) c.in-Some.ensures.cases (omega arith) in
    record { parted = parts.0; first = parts.1 }

pub returns-in-None : goal.returns-in-None
returns-in-None c = (split_parts 44 c.args.names.now None c.in-None.ensures.cases (omega arith), refl)
