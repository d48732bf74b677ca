use Rattle.std.proofs.Common.{arith}
use Rattle.deliver_core.proofs.Scripts.{pairs_in-script, marks_in-script, length-piece_of, length-full_piece}
use Rattle.deliver_core.proofs.script.script_law.Goals as goal

pub returns-clause-pairs : goal.returns-clause-pairs
returns-clause-pairs c = pairs_in-script c.args.task c.args.size c.args.row.now c.requires

pub returns-clause-marks : goal.returns-clause-marks
returns-clause-marks c = marks_in-script c.args.task c.args.size c.args.row.now

pub returns-clause-full : goal.returns-clause-full
returns-clause-full c = length-full_piece c.args.size c.args.row.now c.requires

pub returns-clause-last : goal.returns-clause-last
returns-clause-last c = λ number last. length-piece_of c.args.size c.args.row.now c.requires number (omega arith)
