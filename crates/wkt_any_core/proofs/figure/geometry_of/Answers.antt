use Rattle.std.proofs.Common.{sym}
use Rattle.wkt_any_core.proofs.WideLemmas.{allowed_fact, refused_fact, made_some, made_none}
use Rattle.wkt_any_core.proofs.figure.geometry_of.Goals as goal

pub returns-then-is_allowed-clause-some : goal.returns-then-is_allowed-clause-some
returns-then-is_allowed-clause-some c =
    let is = rw (c.deref.ensures.value, c.deref-2.ensures.value) at c.if-is_allowed.ensures in
    let allowed = allowed_fact c.kind_for-kind.result c.args.rings c.args.paths.ends.items c.args.paths.vertices.items (sym is) in
    let made = made_some c.kind_for-kind.result c.args.rings c.args.paths.ends.items c.args.paths.vertices.items c.requires c.new.result c.new.ensures.some
    c.new.ensures.figure allowed in
    rw c.kind_for-kind.ensures at made

pub returns-then-is_allowed-clause-none : goal.returns-then-is_allowed-clause-none
returns-then-is_allowed-clause-none c =
    let made = made_none c.kind_for-kind.result c.args.rings c.args.paths.ends.items c.args.paths.vertices.items c.requires c.new.result c.new.ensures.some in
    rw c.kind_for-kind.ensures at made

pub returns-else-is_allowed-clause-none : goal.returns-else-is_allowed-clause-none
returns-else-is_allowed-clause-none c =
    let is = rw (c.deref.ensures.value, c.deref-2.ensures.value) at c.if-is_allowed.ensures in
    let refused = refused_fact c.kind_for-kind.result c.args.rings c.args.paths.ends.items c.args.paths.vertices.items (sym is) in
    rw c.kind_for-kind.ensures at refused
