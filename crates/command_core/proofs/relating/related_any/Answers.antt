use Rattle.std.proofs.Common.{rules}
use Rattle.relate_any_core.specs.declared.texts.TextFault.TheVariants.{First, Second}
use Rattle.command_core.proofs.CommandLemmas.{text_blamed}
use Rattle.command_core.proofs.relating.related_any.Goals as goal

pub returns-in-Err-First-clause-fault : goal.returns-in-Err-First-clause-fault
returns-in-Err-First-clause-fault c = λ blame.
    text_blamed c.args.request.now.scale c.args.rings _ _ _ _ _ (First c.in-Err-First.fault) c.as_bytes-a.ensures.value c.as_bytes-b.ensures.value
    c.in_ok-related.ensures.fault (first_of (cc, search rules))

pub returns-in-Err-Second-clause-fault : goal.returns-in-Err-Second-clause-fault
returns-in-Err-Second-clause-fault c = λ blame.
    text_blamed c.args.request.now.scale c.args.rings _ _ _ _ _ (Second c.in-Err-Second.fault) c.as_bytes-a.ensures.value c.as_bytes-b.ensures.value
    c.in_ok-related.ensures.fault (first_of (cc, search rules))
