use Rattle.std.proofs.Common.{rules, ap, refl, subst}
use Rattle.std.specs.Prelude.{◌&&◌, ◌==◌}
use Rattle.wkt_any_core.specs.Held.{IsTaken}
use Rattle.wkt_any_core.proofs.paths.Paths.end_path.Goals as goal

pub returns : goal.returns
returns c = record {
  mid = c.keep_unless.new.self;
  taken = subst (λ b. IsTaken c.args.self.now b c.keep_unless.new.self)
      (ap (λ n. c.args.self.now.skips_dots && (n == 1)) (search rules)) c.in_ok-keep_unless.ensures;
  vertices = refl;
  ends = refl;
  last = c.clear.ensures.items;
  good = refl;
  skips = refl;
}
