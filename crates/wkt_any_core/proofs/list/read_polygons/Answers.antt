use Rattle.std.proofs.Common.{◌≡◌, ◌∷◌, sym}
use Rattle.wkt_core.specs.TokenSteps.{skip}
use Rattle.wkt_core.specs.ListSteps.{TakesLists}
use Rattle.wkt_core.proofs.FrontLemmas.{symbol_begins}
use Rattle.wkt_core.proofs.ItemLemmas.{behind_item}
use Rattle.wkt_core.proofs.PointLemmas.{text_lists_exact}
use Rattle.wkt_core.specs.Spelling.{HasGoodNumbers, position}
use Rattle.wkt_any_core.specs.Held.{AddsPaths}
use Rattle.wkt_any_core.specs.Grammar.{joined}
use Rattle.wkt_any_core.proofs.LoopLemmas.{so_far_none, so_far_more, so_far_ended, so_far_no_item, so_far_no_end}
use Rattle.wkt_any_core.proofs.PathLemmas.{paths_none, polygons_more}
use Rattle.wkt_any_core.proofs.list.read_polygons.Goals as goal

pub loop-after-init : goal.loop-after-init
loop-after-init c = so_far_none (TakesLists c.args.scale) (λ xs. AddsPaths c.args.scale c.args.paths.now (joined xs) c.args.paths.now) _ (paths_none (HasGoodNumbers c.args.scale) (position c.args.scale) c.args.paths.now)

pub returns-in_default-2-clause-none : goal.returns-in_default-2-clause-none
returns-in_default-2-clause-none c =
    let none = rw (c.in_default-2.is, c.skip_blanks-start.ensures) at c.in_ok-after.ensures.none in
    so_far_no_item (TakesLists c.args.scale) (λ xs. AddsPaths c.args.scale c.args.paths.now (joined xs) c.loop-after.paths) (text_lists_exact c.args.scale) _ _ _ (symbol_begins 40 _ _ (sym c.in-Some.ensures)) c.loop-after.invariant none

pub returns-in_default-read_next-clause-none : goal.returns-in_default-read_next-clause-none
returns-in_default-read_next-clause-none c =
    let (x, taken, adds) = rw (c.in-Some-2.is, c.skip_blanks-start.ensures) at c.in_ok-after.ensures.some in
    so_far_no_end (TakesLists c.args.scale) (λ xs. AddsPaths c.args.scale c.args.paths.now (joined xs) c.loop-after.paths) (text_lists_exact c.args.scale) _ _ _ (symbol_begins 40 _ _ (sym c.in-Some.ensures)) c.loop-after.invariant x _ taken
    c.in_default-read_next.ensures

pub loop-after-smaller : goal.loop-after-smaller
loop-after-smaller c =
    let (x, taken, adds) = rw (c.in-Some-2.is, c.skip_blanks-start.ensures) at c.in_ok-after.ensures.some in
    let next : skip c.in-Some-2.after.now ≡ 44 ∷ c.in-Item.behind.now = rw c.in-Item.is at c.in-Some-read_next.ensures in
    behind_item (TakesLists c.args.scale) (text_lists_exact c.args.scale) _ x _ _ taken next

pub loop-after-preserved : goal.loop-after-preserved
loop-after-preserved c =
    let (x, taken, adds) = rw (c.in-Some-2.is, c.skip_blanks-start.ensures) at c.in_ok-after.ensures.some in
    let next : skip c.in-Some-2.after.now ≡ 44 ∷ c.in-Item.behind.now = rw c.in-Item.is at c.in-Some-read_next.ensures in
    so_far_more (TakesLists c.args.scale) (λ xs. AddsPaths c.args.scale c.args.paths.now (joined xs) c.loop-after.paths) (λ xs. AddsPaths c.args.scale c.args.paths.now (joined xs) c.read_lists.new.paths) x _ _ _ _ taken
    (λ done held. polygons_more (HasGoodNumbers c.args.scale) (position c.args.scale) _ _ _ done x held adds) c.loop-after.invariant next

pub returns-in-End-clause-some : goal.returns-in-End-clause-some
returns-in-End-clause-some c =
    let (x, taken, adds) = rw (c.in-Some-2.is, c.skip_blanks-start.ensures) at c.in_ok-after.ensures.some in
    let next : skip c.in-Some-2.after.now ≡ 41 ∷ c.in-End.behind.now = rw c.in-End.is at c.in-Some-read_next.ensures in
    let (xs, enclosed, held) = so_far_ended (TakesLists c.args.scale) (λ xs. AddsPaths c.args.scale c.args.paths.now (joined xs) c.loop-after.paths) (λ xs. AddsPaths c.args.scale c.args.paths.now (joined xs) c.read_lists.new.paths) x _ _ _ _ taken
    (λ done held. polygons_more (HasGoodNumbers c.args.scale) (position c.args.scale) _ _ _ done x held adds) c.loop-after.invariant _ (symbol_begins 40 _ _ (sym c.in-Some.ensures)) next in
    (xs, enclosed, held)
