use Rattle.wkt_any_core.proofs.AnswerLemmas.{if_ok}
use Rattle.geometry_text_core.proofs.TextLemmas.{srid_read, text_read}
use Rattle.geometry_text_core.proofs.reader.read_words.Goals as goal

pub returns-in-Some : goal.returns-in-Some
returns-in-Some c =
    if_ok _ _ c.read.result (λ a r. srid_read c.args.scale c.args.text.now c.args.rings a c.in-Some.rest.now c.in-Some.ensures.some r) c.read.ensures.reads

pub returns-in-None : goal.returns-in-None
returns-in-None c =
    if_ok _ _ c.read-in-None.result (λ a r. text_read c.args.scale c.args.text.now c.args.rings a c.in-None.ensures.none r) c.read-in-None.ensures.reads
