use Rattle.std.proofs.Common.{◌≡◌, ◌≤◌, length, map, vec_capacity, sym, ap, ◌∙◌, arith, rules}
use Rattle.relation_core.specs.JoinRelations.{relation_of}
use Rattle.deliver_core.specs.Ports.{index_of, port_count}
use Rattle.parallel_core.specs.Jobs.{JobValue}
use Rattle.parallel_core.proofs.TeamEndings.{first_ready, all_own, all_end}
use Rattle.parallel_core.proofs.delivery.run_team.Goals as goal

pub run-ended-requires-clause-ready : goal.run-ended-requires-clause-ready
run-ended-requires-clause-ready g c κs within =
    let count = c.in_ok-outlet.ensures.count.0 in
    let fits = c.in_ok-outlet.ports.ok in
    let many : length c.new-team.result.ports.items ≡ c.workers-workers.result = ap (λ v. length v.items) c.new-team.ensures.lists.1 ∙ omega arith in
    first_ready c.in_ok-board.board c.in_ok-outlet.outlet c.workers-workers.result c.new-team.result
    (ap (λ v. v.items) c.new-team.ensures.lists.0 ∙ c.in_ok-board.ensures.seats) many
    (ap (λ v. map index_of v.items) c.new-team.ensures.lists.1 ∙ c.in_ok-outlet.ensures.indexes)
    (rw c.new-team.ensures.lists.1 c.in_ok-outlet.ensures.fresh)
    (ap (λ v. port_count v.tap) c.new-team.ensures.receiver ∙ c.in_ok-receiver.ensures.ports)
    (rw c.new-team.ensures.receiver c.in_ok-receiver.ensures.receives)

pub close-requires-clause-own : goal.close-requires-clause-own
close-requires-clause-own g c = all_own _ _ _ _ c.run-ended.result c.run-ended.ensures (search rules)

pub returns-clause-ok : goal.returns-clause-ok
returns-clause-ok g c =
    let count = c.in_ok-outlet.ensures.count.0 in
    let fits = c.in_ok-outlet.ports.ok in
    let workers = c.workers-workers.result in
    let many : length c.new-team.result.ports.items ≡ workers = ap (λ v. length v.items) c.new-team.ensures.lists.1 ∙ omega arith in
    let ports : port_count c.new-team.result.receiver.tap ≡ workers = ap (λ v. port_count v.tap) c.new-team.ensures.receiver
    ∙ c.in_ok-receiver.ensures.ports in
    let tasks = ap (λ v. v.fused.collector.tasks) c.new-team.ensures.receiver ∙ c.in_ok-receiver.ensures.tasks ∙ sym c.in_ok-board.ensures.board.0 in
    let some : 1 ≤ workers = omega (arith, c.workers-workers.ensures, c.args.options.now.some_workers) in
    let some_pairs : 1 ≤ c.batch.result = omega (arith, c.batch.ensures, c.args.options.now.some_batch) in
    let job : JobValue = record {
      relation = relation_of c.args.relation.now;
      plan = g.P.Rows.tasks c.args.rows.now;
      size = c.batch.result;
      board = c.in_ok-board.board;
      outlet = c.in_ok-outlet.outlet;
    } in
    rw c.batch.ensures at (all_end job (length c.new-team.result.ports.items) (vec_capacity c.new-team.result.seats) c.new-team.result.receiver
    c.run-ended.result c.finish.result (omega arith) some_pairs (c.in_ok-board.ensures.board.0 ∙ c.len-tasks.ensures.len) (ports ∙ sym many) tasks c.run-ended.ensures
    (search rules) (search rules) (search rules) (search rules)).0

pub returns-clause-err : goal.returns-clause-err
returns-clause-err g c =
    let count = c.in_ok-outlet.ensures.count.0 in
    let fits = c.in_ok-outlet.ports.ok in
    let workers = c.workers-workers.result in
    let many : length c.new-team.result.ports.items ≡ workers = ap (λ v. length v.items) c.new-team.ensures.lists.1 ∙ omega arith in
    let ports : port_count c.new-team.result.receiver.tap ≡ workers = ap (λ v. port_count v.tap) c.new-team.ensures.receiver
    ∙ c.in_ok-receiver.ensures.ports in
    let tasks = ap (λ v. v.fused.collector.tasks) c.new-team.ensures.receiver ∙ c.in_ok-receiver.ensures.tasks ∙ sym c.in_ok-board.ensures.board.0 in
    let some : 1 ≤ workers = omega (arith, c.workers-workers.ensures, c.args.options.now.some_workers) in
    let some_pairs : 1 ≤ c.batch.result = omega (arith, c.batch.ensures, c.args.options.now.some_batch) in
    let job : JobValue = record {
      relation = relation_of c.args.relation.now;
      plan = g.P.Rows.tasks c.args.rows.now;
      size = c.batch.result;
      board = c.in_ok-board.board;
      outlet = c.in_ok-outlet.outlet;
    } in
    (all_end job (length c.new-team.result.ports.items) (vec_capacity c.new-team.result.seats) c.new-team.result.receiver
    c.run-ended.result c.finish.result (omega arith) some_pairs (c.in_ok-board.ensures.board.0 ∙ c.len-tasks.ensures.len) (ports ∙ sym many) tasks c.run-ended.ensures
    (search rules) (search rules) (search rules) (search rules)).1
