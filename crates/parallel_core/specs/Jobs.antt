-- What the workers of a join share, as contracts speak of it.
use Rattle.std.specs.Prelude.{ℕ, List}
use Rattle.relation_core.specs.declared.relation.Relation.{Relation}
use Rattle.relation_core.specs.JoinRelations.{relation_of}
use Rattle.rtree_core.specs.declared.node.Node.{Node}
use Rattle.deliver_core.specs.declared.outlet.Outlet.{Outlet}
use Rattle.deliver_core.specs.Boards.{BoardValue}
use Rattle.parallel_core.specs.declared.job.Job.{Job}

-- the relation, the tasks of the plan and the most pairs of a batch, and where tasks are drawn and
-- messages put
pub record JobValue : Type 0 where
  pub relation : Relation
  pub plan : List (Node × Node)
  pub size : ℕ
  pub board : BoardValue
  pub outlet : Outlet

-- what is shared, where what gives the rows has these tasks
abbrev pub job_of : {P : Type 0} → (P → List (Node × Node)) → Job P → JobValue
job_of tasks job = record {
  relation = relation_of job.relation.now;
  plan = tasks job.rows.now;
  size = job.batch;
  board = job.board.now;
  outlet = job.outlet.now;
}
