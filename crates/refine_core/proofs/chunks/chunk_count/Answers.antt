use Rattle.std.proofs.Common.{arith, rules}
use Rattle.refine_core.specs.Chunks.{chunk_size}
use Rattle.refine_core.proofs.ChunkLemmas.{begins_within}
use Rattle.refine_core.proofs.chunks.chunk_count.Goals as goal

pub returns-clause-numbers : goal.returns-clause-numbers
returns-clause-numbers c = λ number below.
    begins_within number c.args.len (chunk_size c.args.len) (omega arith) (search rules)
