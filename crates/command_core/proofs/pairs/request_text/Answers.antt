use Rattle.command_core.proofs.pairs.request_text.Goals as goal

pub returns-in-Join : goal.returns-in-Join
returns-in-Join g c = rw c.in-Join.is c.join_request_text.ensures

pub returns-in-Near : goal.returns-in-Near
returns-in-Near g c = rw c.in-Near.is c.near_request_text.ensures

pub returns-in-Nearest : goal.returns-in-Nearest
returns-in-Nearest g c = rw c.in-Nearest.is c.nearest_request_text.ensures
