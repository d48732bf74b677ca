use Rattle.std.proofs.Common.{◌≡◌, subst, sym, rules}
use Rattle.report_core.specs.ReportRows.{header_line, name_in}
use Rattle.report_core.proofs.ReportLemmas.{header_made, pair_header_made}
use Rattle.report_core.proofs.report.header_text.Goals as goal

pub returns-in_default : goal.returns-in_default
returns-in_default c =
    subst (λ name. c.extend_from_slice.new.self.items ≡ header_line (name_in name)) (sym c.in_default.is)
    (pair_header_made c.new-text.result.items c.extend_from_slice.new.self.items c.new-text.ensures.items (search rules))

pub returns : goal.returns
returns c = search (header_made, rules)
