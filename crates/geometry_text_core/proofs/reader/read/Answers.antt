use Rattle.std.proofs.Common.{sym, ◌∙◌}
use Rattle.wkt_any_core.proofs.AnswerLemmas.{if_ok}
use Rattle.geometry_text_core.proofs.TextLemmas.{bytes_read, words_read, only_reading}
use Rattle.geometry_text_core.proofs.reader.read.Goals as goal

pub returns-then-is_binary-clause-reads : goal.returns-then-is_binary-clause-reads
returns-then-is_binary-clause-reads c =
    if_ok _ _ c.read_bytes.result (λ a r. bytes_read c.args.scale c.args.text.now c.args.rings a (sym c.is_binary.ensures ∙ c.if-is_binary.true) r) c.read_bytes.ensures

pub returns-then-is_binary-clause-only : goal.returns-then-is_binary-clause-only
returns-then-is_binary-clause-only c =
    if_ok _ _ c.read_bytes.result
    (λ a r other. only_reading c.args.scale c.args.text.now c.args.rings a other
    (bytes_read c.args.scale c.args.text.now c.args.rings a (sym c.is_binary.ensures ∙ c.if-is_binary.true) r)) c.read_bytes.ensures

pub returns-else-is_binary-clause-reads : goal.returns-else-is_binary-clause-reads
returns-else-is_binary-clause-reads c =
    if_ok _ _ c.read_words.result (λ a r. words_read c.args.scale c.args.text.now c.args.rings a (sym c.is_binary.ensures ∙ c.if-is_binary.false) r) c.read_words.ensures

pub returns-else-is_binary-clause-only : goal.returns-else-is_binary-clause-only
returns-else-is_binary-clause-only c =
    if_ok _ _ c.read_words.result
    (λ a r other. only_reading c.args.scale c.args.text.now c.args.rings a other
    (words_read c.args.scale c.args.text.now c.args.rings a (sym c.is_binary.ensures ∙ c.if-is_binary.false) r)) c.read_words.ensures
