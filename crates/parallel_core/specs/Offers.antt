-- The scripts that the only worker of a join has offered to a collector.
use Rattle.std.specs.Prelude.{◌≡◌, ℕ, List, ◌++◌, All, map}
use Rattle.relation_core.specs.declared.relation.Relation.{Relation}
use Rattle.rtree_core.specs.declared.node.Node.{Node}
use Rattle.deliver_core.specs.declared.message.Message.{Message}
use Rattle.deliver_core.specs.Draws.{AreNumbersBelow}
use Rattle.deliver_core.specs.Scripts.{Content, content_of}
use Rattle.parallel_core.specs.declared.fused_collector.FusedCollector.{FusedCollector}
use Rattle.parallel_core.specs.FusedCollectors.{HasTakenIn}
use Rattle.parallel_core.specs.Workers.{AreScripts}

-- the collector was also offered messages of port 0 with these contents
pub record Offers (contents : List Content) (old new : FusedCollector) : Type 0 where
  pub messages : List Message
  pub own : All (λ m. m.port ≡ 0) messages
  pub contents_are : map content_of messages ≡ contents
  pub tasks : new.collector.tasks ≡ old.collector.tasks
  pub taken_in : (before : List Content) → HasTakenIn before old.collector old.accepted
      → HasTakenIn (before ++ contents) new.collector new.accepted

-- a new collector was offered the scripts of the first tasks of the plan, all of them by port 0
pub record HasOffered (relation : Relation) (plan : List (Node × Node)) (size count : ℕ)
    (fused : FusedCollector) : Type 0 where
  pub numbers : List ℕ
  pub numbers_are : AreNumbersBelow count numbers
  pub messages : List Message
  pub own : All (λ m. m.port ≡ 0) messages
  pub scripts : AreScripts relation plan size numbers (map content_of messages)
  pub taken_in : HasTakenIn (map content_of messages) fused.collector fused.accepted
