use Rattle.wkt_core.specs.Spelling.{HasGoodNumbers, position}
use Rattle.wkt_any_core.proofs.PathLemmas.{on_ok, added}
use Rattle.wkt_any_core.proofs.paths.Paths.push.Goals as goal

pub returns : goal.returns
returns c = on_ok c.add.result c.add.ensures (λ step scale p read skips before ps held.
    added (HasGoodNumbers scale) (position scale) skips before _ _ ps p _ (c.vertex_of-vertex.ensures scale p read) step held)
