use Rattle.command_core.proofs.nearest.nearest_request_text.Goals as goal

pub returns-in-Box : goal.returns-in-Box
returns-in-Box g c = rw c.in-Box.is c.nearest_text.ensures

pub returns-in-Any : goal.returns-in-Any
returns-in-Any g c = rw c.in-Any.is c.nearest_text-in-Any.ensures
