use Rattle.std.proofs.Common.{sym, ◌∙◌}
use Rattle.plane_core.proofs.PlaceLemmas.{ahead_of, back_of, level_of_ends, order_ahead, order_back, order_level}
use Rattle.plane_core.proofs.node.Node.compare.Goals as goal

pub returns-in-Less : goal.returns-in-Less
returns-in-Less c =
    let p = c.args.self.now.place in
    c.compare_along.ensures ∙ sym (order_ahead p c.args.other.now.place c.requires (ahead_of p.edge c.in-Less.ensures))

pub returns-in-Equal : goal.returns-in-Equal
returns-in-Equal c =
    let p = c.args.self.now.place in
    sym (order_level p c.args.other.now.place c.requires (level_of_ends p.edge c.in-Equal.ensures))

pub returns-in-Greater : goal.returns-in-Greater
returns-in-Greater c =
    let p = c.args.self.now.place in
    c.compare_along-in-Greater.ensures ∙ sym (order_back p c.args.other.now.place c.requires (back_of p.edge c.in-Greater.ensures))
