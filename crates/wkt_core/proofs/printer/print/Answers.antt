use Rattle.wkt_core.proofs.CanonicalLemmas.{canonical_spells}
use Rattle.wkt_core.proofs.printer.print.Goals as goal

pub returns-in_err-text-clause-spells : goal.returns-in_err-text-clause-spells
returns-in_err-text-clause-spells c = canonical_spells c.args.scale c.args.shape.now

pub returns-in_err-push_shape-clause-spells : goal.returns-in_err-push_shape-clause-spells
returns-in_err-push_shape-clause-spells c = canonical_spells c.args.scale c.args.shape.now

pub returns-clause-spells : goal.returns-clause-spells
returns-clause-spells c = canonical_spells c.args.scale c.args.shape.now
