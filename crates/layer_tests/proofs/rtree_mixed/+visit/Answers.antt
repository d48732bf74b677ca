use Rattle.std.proofs.Common.{arith, sym}
use Rattle.layer_tests.proofs.rtree_mixed.+visit.Goals as goal

pub visit-requires : goal.visit-requires
visit-requires t c =
    let level = rw (sym c.child-item.is) at ((c.children-children.ensures.lawful c.requires).levels c.loop-child.child-index c.child-item.result
    c.loop-child-test.true) in (
      omega (arith, c.decreases, level),
      rw (sym c.child-item.is) at ((c.children-children.ensures.lawful c.requires).lawful c.loop-child.child-index
          c.child-item.result c.loop-child-test.true),
    )
