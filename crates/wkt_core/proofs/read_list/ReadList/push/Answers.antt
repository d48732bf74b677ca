use Rattle.std.proofs.Common.{refl}
use Rattle.wkt_core.proofs.ReadListLemmas.{IsMarked, marked_bad, marked_good, read_within, read_beyond}
use Rattle.wkt_core.proofs.read_list.ReadList.push.Goals as goal
use Rattle.wkt_core.proofs.read_list.ReadList.push.Goals.{then-not-point, else-not-point}

pub returns-in-Some : goal.returns-in-Some
returns-in-Some c =
    let mark : IsMarked c.args.self.now c.args.point.whole c.if-not-point.self = elim c.if-not-point.branch [
      | then-not-point w ↦ marked_bad _ _ _ w.if-not-point.true w.self-is
      | else-not-point w ↦ marked_good _ _ _ w.if-not-point.false w.self-is
    ] in
    λ scale ps p read is. read_within scale ps p c.args.point _ _ _ read is mark refl c.in-Some.position c.in-Some.is refl c.push.ensures

pub returns-in-None : goal.returns-in-None
returns-in-None c =
    let mark : IsMarked c.args.self.now c.args.point.whole c.if-not-point.self = elim c.if-not-point.branch [
      | then-not-point w ↦ marked_bad _ _ _ w.if-not-point.true w.self-is
      | else-not-point w ↦ marked_good _ _ _ w.if-not-point.false w.self-is
    ] in
    λ scale ps p read is. read_beyond scale ps p c.args.point _ _ _ read is mark refl c.in-None.is refl
