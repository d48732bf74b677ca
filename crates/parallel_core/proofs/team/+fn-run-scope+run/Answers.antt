use Rattle.std.proofs.Common.{rules, arith, ◌+◌, ◌&&◌, length, vec_capacity, map, refl, sym, ap, ◌∙◌}
use Rattle.deliver_core.specs.Byes.{has_bye}
use Rattle.deliver_core.specs.Outlets.{of_port}
use Rattle.deliver_core.specs.Ports.{taken_by}
use Rattle.deliver_core.specs.Scripts.{content_of}
use Rattle.parallel_core.specs.declared.team.Team.{Team}
use Rattle.parallel_core.specs.Workers.{ComesBack}
use Rattle.parallel_core.proofs.Teams.{none_run, has_run, not_started, as_begun}
use Rattle.parallel_core.proofs.team.+fn-run-scope+run.Goals as goal

pub scope-take_until_bye-requires : goal.scope-take_until_bye-requires
scope-take_until_bye-requires g t c =
    let run = c.run-team.ensures.receiver in
    record {
      receives = rw c.requires.outlet run.receives;
      port = omega (arith, run.ports, c.requires.index, c.requires.beside.index, c.requires.beside.below);
    }

pub scope-meet-requires : goal.scope-meet-requires
scope-meet-requires g t c =
    let job = g.W.Work.job c.captures.work.now in
    let back : ComesBack job c.captures.index c.join-worked.result =
    rw (c.in-Some.ensures.job, c.in-Some.ensures.index, ← c.requires.index) at c.join-worked.ensures in
    record {
      receives = c.take_until_bye.ensures.continues.receives;
      port = rw c.requires.outlet (record { ended = back.port.ended; unmet = back.port.unmet; index_is = refl });
      bye = ap (λ n. has_bye (of_port n (taken_by c.take_until_bye.new.self.tap))) back.port.index_is ∙ c.take_until_bye.ensures.bye;
    }

pub scope-push_reserved-requires : goal.scope-push_reserved-requires
scope-push_reserved-requires g t c =
    let run = c.run-team.ensures in
    omega (arith, run.few, run.room_is, c.requires.beside.room, c.run-team.result.seats.ok.0)

pub scope-returns-in_default : goal.scope-returns-in_default
scope-returns-in_default g t c =
    let job = g.W.Work.job c.captures.work.now in
    let ready = c.requires.beside.ready in
    let many = ready.as_many in
    not_started job (length c.captures.team.ports.items + 1) (vec_capacity c.captures.team.seats) c.captures.team.receiver _
    ready.receives refl refl (omega arith) refl

pub scope-returns : goal.scope-returns
scope-returns g t c =
    let job = g.W.Work.job c.captures.work.now in
    let back : ComesBack job c.captures.index c.join-worked.result =
    rw (c.in-Some.ensures.job, c.in-Some.ensures.index, ← c.requires.index) at c.join-worked.ensures in
    let team : Team = record {
      seats = c.push_reserved.new.self;
      ports = c.run-team.result.ports;
      receiver = c.meet.new.self;
      all_started = c.run-team.result.all_started;
      all_ok = c.run-team.result.all_ok && c.join-worked.result.ok;
    } in
    has_run job (length c.captures.team.ports.items)
    (vec_capacity c.captures.team.seats) c.captures.index
    c.captures.team.receiver c.run-team.result c.take_until_bye.new.self c.meet.new.self c.join-worked.result team
    c.run-team.ensures (rw c.requires.outlet at c.take_until_bye.ensures.continues) (rw c.requires.outlet at c.meet.ensures.continues)
    (c.requires.index ∙ c.requires.beside.index) back c.take_until_bye.ensures.bye
    (ap (λ n. map content_of (of_port n (taken_by c.meet.new.self.tap))) (sym back.port.index_is) ∙ c.meet.ensures.whole)
    refl c.push_reserved.ensures.items c.push_reserved.ensures.capacity refl refl

pub returns-in_default : goal.returns-in_default
returns-in_default g t c =
    none_run (g.W.Work.job c.args.work.now) c.args.team _ c.requires.ready c.in_default.ensures.none c.in_default.ensures.seats
    c.in_default.ensures.before

pub scoped-requires : goal.scoped-requires
scoped-requires g t c =
    let beside = c.in-Some.ensures.beside (g.W.Work.job c.args.work.now).board (g.W.Work.job c.args.work.now).outlet c.requires.ready in
    let count = c.in-Some.ensures.count in
    search rules

pub returns : goal.returns
returns g t c =
    as_begun (g.W.Work.job c.args.work.now) c.args.team _ _ c.in-Some.ensures.count c.in-Some.ensures.before (search rules)
