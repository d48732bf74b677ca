-- Rings that only the even-odd rule takes.
use Rattle.std.specs.Prelude.{Bool, true, false}
use Rattle.plane_core.specs.declared.rings.Rings.{Rings}
use Rattle.plane_core.specs.declared.rings.Rings.TheVariants.{Proper, EvenOdd}
use Rattle.plane_core.specs.Figures.{Figure}
use Rattle.plane_core.specs.ProperRings.{HasProperRings}
use Rattle.any_geometry_core.specs.declared.geometry.AnyGeometry.{AnyGeometry}
use Rattle.any_geometry_core.specs.AnyGeometries.{figure_of}

abbrev pub takes_improper : Rings → Bool
takes_improper Proper = false
takes_improper EvenOdd = true

-- the geometry, read by this rule, has rings that the rule for proper rings refuses
abbrev pub IsImproper : Rings → Figure → Type 0
IsImproper Proper g = ⊥
IsImproper EvenOdd g = ¬ (HasProperRings g)

abbrev pub AreRingsImproper : Rings → AnyGeometry → Type 0
AreRingsImproper rings g = IsImproper rings (figure_of g)
