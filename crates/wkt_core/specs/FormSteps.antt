-- The meaning of the tests of two and of four positions.
use Rattle.std.specs.Prelude.{◌≡◌, ◌≢◌, ◌⊎◌}
use Rattle.std.specs.Int.{int_min, int_max}
use Rattle.geom_core.specs.declared.shape.Shape.{Shape}
use Rattle.geom_core.specs.Shapes.{HasCorners}
use Rattle.wkt_core.specs.declared.position.Position.{Position}

-- the smallest shape that contains both points
abbrev pub IsSpanned : Position → Position → Shape → Type 0
IsSpanned p q s =
    HasCorners (int_min p.x q.x) (int_min p.y q.y) (int_max p.x q.x) (int_max p.y q.y) s

abbrev pub AreParallel : Position → Position → Type 0
AreParallel p q = (p.x ≡ q.x) ⊎ (p.y ≡ q.y)

-- along the first axis, along the second, and along both again
abbrev pub LeadsRound : Position → Position → Position → Position → Type 0
LeadsRound a b c d = (a.y ≡ b.y) × (b.x ≡ c.x) × (c.y ≡ d.y) × (d.x ≡ a.x)

abbrev pub HasFourCorners : Position → Position → Position → Position → Type 0
HasFourCorners a b c d = (LeadsRound a b c d ⊎ LeadsRound b c d a) × (a.x ≢ c.x) × (a.y ≢ c.y)

-- four corners, and the cover of the first and the third
abbrev pub AreCornersOf : Position → Position → Position → Position → Shape → Type 0
AreCornersOf a b c d s = HasFourCorners a b c d × IsSpanned a c s
