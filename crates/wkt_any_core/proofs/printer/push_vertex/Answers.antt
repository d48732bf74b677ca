use Rattle.std.proofs.Common.{◌≡◌, rules, arith, to_z, of_z, w64}
use Rattle.std.proofs.lemmas.Grind.{common_steps}
use Rattle.wkt_any_core.proofs.printer.push_vertex.Goals as goal

pub returns : goal.returns
returns c =
    let x : to_z w64 (of_z w64 c.args.vertex.now.x) ≡ c.args.vertex.now.x = search rules in
    let y : to_z w64 (of_z w64 c.args.vertex.now.y) ≡ c.args.vertex.now.y = search rules in
    grind (arith, common_steps, x, y)
