use Rattle.std.proofs.Common.{arith}
use Rattle.std.proofs.lemmas.Bool.{false≢true}
use Rattle.std.proofs.lemmas.Bool.Decides.{nat_tests}
use Rattle.split_core.specs.Splits.{rest_to_one}
use Rattle.split_core.proofs.SplitLemmas.{deal_ends}
use Rattle.split_core.proofs.split.deal.Goals as goal

pub returns-then-one_needs_all-clause-dealt : goal.returns-then-one_needs_all-clause-dealt
returns-then-one_needs_all-clause-dealt g c =
    c.loop-covers.invariant.so_far _ _ (rw c.append_reserved.ensures.items
    (rest_to_one {rest = c.loop-covers.rest.items} {one = record { items = c.loop-covers.one.items; cover = c.loop-covers.covers.one }}
    (grind (arith, nat_tests, c.if-one_needs_all.true, c.loop-covers.one.ok.0, c.loop-covers.rest.ok.0))))

pub returns-else-one_needs_all-clause-dealt : goal.returns-else-one_needs_all-clause-dealt
returns-else-one_needs_all-clause-dealt g c =
    let closed = rw c.loop-covers-test.false at c.can_choose.ensures.1 in
    c.loop-covers.invariant.so_far _ _ (rw c.append_reserved-else-one_needs_all.ensures.items
    (deal_ends g.T.Covered.cover c.loop-covers.rest.items (record { items = c.loop-covers.one.items; cover = c.loop-covers.covers.one })
    (record { items = c.loop-covers.two.items; cover = c.loop-covers.covers.two })
    (λ h. false≢true (closed (rw
    (c.len.ensures, c.len-in-loop-covers.ensures, c.len-in-loop-covers-2.ensures, c.loop-covers.one.ok.0, c.loop-covers.rest.ok.0, c.loop-covers.two.ok.0)
    h)))
    (λ e. absurd (grind (arith, nat_tests, c.if-one_needs_all.false, e, c.loop-covers.one.ok.0, c.loop-covers.rest.ok.0)))))
