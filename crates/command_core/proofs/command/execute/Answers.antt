use Rattle.std.proofs.Common.{refl}
use Rattle.command_core.proofs.SkipLemmas.{no_rows, noted, of_request, on_ok, skips_none, with_none}
use Rattle.command_core.proofs.command.execute.Goals as goal

pub returns-in-Relate-clause-ends : goal.returns-in-Relate-clause-ends
returns-in-Relate-clause-ends g c = rw c.in-Relate.is (c.execute_relate.ensures.ends _)

pub returns-in-Relate-clause-skips : goal.returns-in-Relate-clause-skips
returns-in-Relate-clause-skips g c =
    rw c.in-Relate.is (
      no_rows,
      skips_none _ _ _ no_rows c.execute_relate.result tt refl,
      noted c.execute_relate.result _ _ no_rows _ c.execute_relate.ensures.improper (on_ok c.execute_relate.result _ c.requires.none.skipped)
          (on_ok c.execute_relate.result _ (c.requires.none.layers, c.requires.none.layer)),
    )

pub returns-in-Join-clause-ends : goal.returns-in-Join-clause-ends
returns-in-Join-clause-ends g c = rw c.in-Join.is c.execute_pairs.ensures.ends

pub returns-in-Join-clause-skips : goal.returns-in-Join-clause-skips
returns-in-Join-clause-skips g c =
    let skips = c.execute_pairs.ensures.skips in
    rw c.in-Join.is (
      skips.0,
      skips.1,
      noted c.execute_pairs.result _ _ skips.0 _ (on_ok c.execute_pairs.result _ c.requires.none.improper) skips.2
          (with_none c.execute_pairs.result _ _ c.execute_pairs.ensures.rows c.requires.none.layer),
    )

pub returns-in-Near-clause-ends : goal.returns-in-Near-clause-ends
returns-in-Near-clause-ends g c = rw c.in-Near.is c.execute_pairs-in-Near.ensures.ends

pub returns-in-Near-clause-skips : goal.returns-in-Near-clause-skips
returns-in-Near-clause-skips g c =
    let skips = c.execute_pairs-in-Near.ensures.skips in
    rw c.in-Near.is (
      skips.0,
      skips.1,
      noted c.execute_pairs-in-Near.result _ _ skips.0 _ (on_ok c.execute_pairs-in-Near.result _ c.requires.none.improper) skips.2
          (with_none c.execute_pairs-in-Near.result _ _ c.execute_pairs-in-Near.ensures.rows c.requires.none.layer),
    )

pub returns-in-Nearest-clause-ends : goal.returns-in-Nearest-clause-ends
returns-in-Nearest-clause-ends g c = rw c.in-Nearest.is c.execute_pairs-in-Nearest.ensures.ends

pub returns-in-Nearest-clause-skips : goal.returns-in-Nearest-clause-skips
returns-in-Nearest-clause-skips g c =
    let skips = c.execute_pairs-in-Nearest.ensures.skips in
    rw c.in-Nearest.is (
      skips.0,
      skips.1,
      noted c.execute_pairs-in-Nearest.result _ _ skips.0 _ (on_ok c.execute_pairs-in-Nearest.result _ c.requires.none.improper) skips.2
          (with_none c.execute_pairs-in-Nearest.result _ _ c.execute_pairs-in-Nearest.ensures.rows c.requires.none.layer),
    )

pub returns-in-Window-clause-ends : goal.returns-in-Window-clause-ends
returns-in-Window-clause-ends g c = rw c.in-Window.is c.execute_window.ensures.ends

pub returns-in-Window-clause-skips : goal.returns-in-Window-clause-skips
returns-in-Window-clause-skips g c =
    rw c.in-Window.is (
      no_rows,
      skips_none _ _ _ no_rows c.execute_window.result tt refl,
      noted c.execute_window.result _ _ no_rows _ (on_ok c.execute_window.result _ c.requires.none.improper) (on_ok c.execute_window.result _ c.requires.none.skipped)
          (of_request c.execute_window.result _ _ _ c.requires.none.layers c.execute_window.ensures.rows),
    )

pub returns-in-Stats-clause-ends : goal.returns-in-Stats-clause-ends
returns-in-Stats-clause-ends g c = rw c.in-Stats.is c.execute_stats.ensures.ends

pub returns-in-Stats-clause-skips : goal.returns-in-Stats-clause-skips
returns-in-Stats-clause-skips g c =
    rw c.in-Stats.is (
      no_rows,
      skips_none _ _ _ no_rows c.execute_stats.result tt refl,
      noted c.execute_stats.result _ _ no_rows _ (on_ok c.execute_stats.result _ c.requires.none.improper) (on_ok c.execute_stats.result _ c.requires.none.skipped)
          (of_request c.execute_stats.result _ _ _ c.requires.none.layers c.execute_stats.ensures.rows),
    )

pub returns-in-Bounds-clause-ends : goal.returns-in-Bounds-clause-ends
returns-in-Bounds-clause-ends g c = rw c.in-Bounds.is c.execute_bounds.ensures.ends

pub returns-in-Bounds-clause-skips : goal.returns-in-Bounds-clause-skips
returns-in-Bounds-clause-skips g c =
    rw c.in-Bounds.is (
      no_rows,
      skips_none _ _ _ no_rows c.execute_bounds.result tt refl,
      noted c.execute_bounds.result _ _ no_rows _ (on_ok c.execute_bounds.result _ c.requires.none.improper) (on_ok c.execute_bounds.result _ c.requires.none.skipped)
          (of_request c.execute_bounds.result _ _ _ c.requires.none.layers c.execute_bounds.ensures.rows),
    )
