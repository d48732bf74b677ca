use Rattle.run_core.specs.FaultTexts.{input_word}
use Rattle.run_core.proofs.LineLemmas.{two_pieces}
use Rattle.run_core.proofs.fault_text.push_run_text.Goals as goal

pub returns-in-NoFile-clause-text : goal.returns-in-NoFile-clause-text
returns-in-NoFile-clause-text c = rw c.in-NoFile.is (two_pieces _ _ _ (input_word c.in-NoFile.input) _ (cc) c.push-in-NoFile.ensures.text)

pub returns-in-NoKeys-clause-text : goal.returns-in-NoKeys-clause-text
returns-in-NoKeys-clause-text c = rw c.in-NoKeys.is (search)
