use Rattle.row_core.specs.Beginnings.{line_text}
use Rattle.run_core.proofs.LineLemmas.{two_pieces}
use Rattle.run_core.proofs.fault_text.push_beginning_hint.Goals as goal

pub returns-in-Line-clause-text : goal.returns-in-Line-clause-text
returns-in-Line-clause-text c = rw c.in-Line.is (two_pieces _ _ _ _ _ c.push.ensures.text (two_pieces _ c.push-in-Line.new.self _ (line_text c.in-Line.first) _ (cc) c.push-in-Line-2.ensures.text))

pub returns-in-GeoPackage-clause-text : goal.returns-in-GeoPackage-clause-text
returns-in-GeoPackage-clause-text c = rw c.in-GeoPackage.is c.push-in-GeoPackage.ensures.text

pub returns-in-Gzip-clause-text : goal.returns-in-Gzip-clause-text
returns-in-Gzip-clause-text c = rw c.in-Gzip.is c.push-in-Gzip.ensures.text

pub returns-in-Json-clause-text : goal.returns-in-Json-clause-text
returns-in-Json-clause-text c = rw c.in-Json.is c.push-in-Json.ensures.text
