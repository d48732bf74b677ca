use Rattle.plane_core.proofs.NodeLemmas.{middle_n, middle_w, middle_point, sum_positive, sum_not_before, sum_not_beyond, sum_wide}
use Rattle.plane_core.proofs.node.Node.middle.Goals as goal

pub invariant_of-result : goal.invariant_of-result
invariant_of-result c =
    let k = c.args.self.now in
    let l = c.args.other.now in
    record {
      positive = rw (middle_w k l) (sum_positive k l);
      not_before = rw (middle_n k l) (sum_not_before k l);
      not_beyond = rw (middle_n k l, middle_w k l) (sum_not_beyond k l);
      w_in_range = rw (middle_w k l) (sum_wide k l);
    }

pub returns : goal.returns
returns c =
    let k = c.args.self.now in
    let l = c.args.other.now in
    middle_point k l _ _ c.requires (middle_n k l) (middle_w k l)
