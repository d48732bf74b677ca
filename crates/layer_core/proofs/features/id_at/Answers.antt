use Rattle.std.proofs.Common.{◌∙◌, sym}
use Rattle.layer_core.proofs.TableLemmas.{id_read}
use Rattle.layer_core.proofs.features.id_at.Goals as goal

pub returns-in-Some-clause-text : goal.returns-in-Some-clause-text
returns-in-Some-clause-text c =
    let read = c.in-Some.ensures.lookup in
    c.as_str.ensures ∙ sym (id_read c.args.ids.now c.args.place c.in-Some.field-0.now read.3.0 read.1)
