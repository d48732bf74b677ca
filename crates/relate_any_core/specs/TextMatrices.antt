-- The results of relating two texts, by the geometries that they spell.
use Rattle.std.specs.Prelude.{ℕ, List, Ok, Err, IsTrue, ◌↔◌}
use Rattle.plane_core.specs.Figures.{Figure}
use Rattle.plane_core.specs.PlaneMatrices.{IsPlaneMatrix}
use Rattle.plane_core.specs.ProperRings.{HasProperRings}
use Rattle.number_core.specs.declared.scale.Scale.{Scale}
use Rattle.plane_core.specs.declared.rings.Rings.{Rings}
use Rattle.plane_core.specs.declared.rings.Rings.TheVariants.{Proper, EvenOdd}
use Rattle.geometry_text_core.specs.Texts.{Reads}
use Rattle.relate_any_core.specs.declared.texts.Related.{Related}
use Rattle.relate_any_core.specs.declared.texts.TextFault.{TextFault}
use Rattle.relate_any_core.specs.declared.texts.TextFault.TheVariants.{First, Second}

-- the geometry, read by this rule, has rings that the other rule refuses
abbrev pub IsImproper : Rings → Figure → Type 0
IsImproper Proper g = ⊥
IsImproper EvenOdd g = ¬ (HasProperRings g)

-- the matrix of the geometries that the two texts spell, and which of them have improper rings
pub record IsRelated (scale : Scale) (rings : Rings) (a b : List ℕ) (r : Related) : Type 0 where
  pub first : Figure
  pub second : Figure
  pub first_read : Reads scale rings a (Ok first)
  pub second_read : Reads scale rings b (Ok second)
  pub matrix : IsPlaneMatrix first second r.matrix
  pub first_improper : IsTrue r.improper.first ↔ IsImproper rings first
  pub second_improper : IsTrue r.improper.second ↔ IsImproper rings second

-- the first text that spells no geometry, and its fault
abbrev pub HasTextFault : Scale → Rings → List ℕ → List ℕ → TextFault → Type 0
HasTextFault scale rings a b (First fault) = Reads scale rings a (Err fault)
HasTextFault scale rings a b (Second fault) =
    ((g : Figure) × Reads scale rings a (Ok g)) × Reads scale rings b (Err fault)
