-- Pairs of features whose numbers have an even sum.
use Rattle.std.specs.Prelude.{◌≡◌, ℕ, ◌+◌, ◌%◌}
use Rattle.layer_core.specs.Layers.{Contents}
use Rattle.report_core.specs.Reports.{IsHeld}
use Rattle.any_geometry_core.specs.declared.geometry.AnyGeometry.{AnyGeometry}

abbrev pub AreHeld : Contents AnyGeometry → Contents AnyGeometry → ℕ → ℕ → Type 0
AreHeld left right i j = IsHeld left right (i, j)

abbrev pub HaveEvenSum : Contents AnyGeometry → Contents AnyGeometry → ℕ → ℕ → Type 0
HaveEvenSum left right i j = AreHeld left right i j × ((i + j) % 2 ≡ 0)
