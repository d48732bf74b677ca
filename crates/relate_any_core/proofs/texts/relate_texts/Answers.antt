use Rattle.std.proofs.Common.{refl}
use Rattle.relate_any_core.proofs.TextLemmas.{first_at_fault, second_at_fault, none_at_fault}
use Rattle.relate_any_core.proofs.texts.relate_texts.Goals as goal

pub returns-in-Err-clause-fault : goal.returns-in-Err-clause-fault
returns-in-Err-clause-fault c =
    first_at_fault c.args.scale c.args.rings _ _ _ _ _ c.in_ok-first_read.ensures.reads c.in_ok-first_read.ensures.only c.in-Err.is refl

pub returns-in-Err-second_read-clause-fault : goal.returns-in-Err-second_read-clause-fault
returns-in-Err-second_read-clause-fault c =
    second_at_fault c.args.scale c.args.rings _ _ _ _ _ _ _ c.in_ok-first_read.ensures.reads c.in_ok-first_read.ensures.only
    c.in_ok-second_read.ensures.reads c.in_ok-second_read.ensures.only c.in-Ok.is c.in-Err-second_read.is refl

pub returns-clause-fault : goal.returns-clause-fault
returns-clause-fault c =
    none_at_fault c.args.scale c.args.rings _ _ _ _ _ _ _ _ c.in_ok-first_read.ensures.only c.in_ok-second_read.ensures.only c.in-Ok.is
    c.in-Ok-second_read.is refl
