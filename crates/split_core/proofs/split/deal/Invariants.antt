use Rattle.std.proofs.Common.{◌≡◌, ◌≤◌, ◌+◌, List, vec_len, vec_capacity}
use Rattle.split_core.specs.Dealing.{dealing, EndsWith}
use Rattle.split_core.specs.Limits.{most}
use Rattle.split_core.proofs.split.deal.Given as goal

abbrev pub invariant-loop-covers : goal.invariant-loop-covers
invariant-loop-covers g l = record {
  so_far : (a b : List g.row.T.Denot) →
      EndsWith g.T.Covered.cover (dealing l.rest l.one l.two l.covers) a b →
      EndsWith g.T.Covered.cover (dealing l.initial.rest l.initial.one l.initial.two l.initial.covers) a b;
  few : vec_len l.one + vec_len l.two + vec_len l.rest ≤ most + 1;
  rest_capacity : vec_capacity l.rest ≡ vec_capacity l.initial.rest;
  one_capacity : vec_capacity l.one ≡ vec_capacity l.initial.one;
  two_capacity : vec_capacity l.two ≡ vec_capacity l.initial.two;
}

abbrev pub decreases-loop-covers : goal.decreases-loop-covers
decreases-loop-covers g l = vec_len l.rest
