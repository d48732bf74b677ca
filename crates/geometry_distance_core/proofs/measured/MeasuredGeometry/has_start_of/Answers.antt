use Rattle.std.proofs.Common.{◌<◌, ◌≤◌, ℕ, length, refl, sym, subst, ◌∙◌}
use Rattle.plane_core.specs.Figures.{Figure}
use Rattle.plane_core.specs.Vertices.{paths_in}
use Rattle.geometry_distance_core.proofs.StartLemmas.{start_at, none_more, none_at_all}
use Rattle.geometry_distance_core.proofs.measured.MeasuredGeometry.has_start_of.Goals as goal

pub returns-then-has_any : goal.returns-then-has_any
returns-then-has_any c =
    let within = subst (λ (g : Figure). c.loop-i.i < length (paths_in g)) c.other.view_is (subst (λ (n : ℕ). c.loop-i.i < n) c.path_count-i-end.ensures c.loop-i-test.true) in (
      λ found. start_at c.args.other.now c.args.self.now c.loop-i.i c.starts.result.now within c.starts.ensures (sym c.has_any.ensures ∙ c.if-has_any.true),
      λ start. refl,
    )

pub loop-i-preserved : goal.loop-i-preserved
loop-i-preserved c =
    none_more c.args.other.now c.args.self.now c.loop-i.i c.starts.result.now c.starts.ensures (sym c.has_any.ensures ∙ c.if-has_any.false) c.loop-i.invariant

pub returns : goal.returns
returns c =
    let whole = subst (λ (g : Figure). length (paths_in g) ≤ c.loop-i.i) c.other.view_is (subst (λ (n : ℕ). n ≤ c.loop-i.i) c.path_count-i-end.ensures c.loop-i-test.false) in (
      λ found. absurd (let wrong = found in cc),
      λ start. absurd (none_at_all c.args.other.now c.args.self.now c.loop-i.i whole c.loop-i.invariant start),
    )
