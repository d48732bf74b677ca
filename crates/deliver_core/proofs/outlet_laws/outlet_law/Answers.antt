use Rattle.deliver_core.proofs.OutletLaws.{lawful}
use Rattle.deliver_core.proofs.outlet_laws.outlet_law.Goals as goal

pub returns : goal.returns
returns c = lawful
