-- The result of reading the text of a geometry at a scale: a shape, or its first fault.
use Rattle.std.specs.Prelude.{ℕ, List, Result, Ok, Err}
use Rattle.geom_core.specs.declared.shape.Shape.{Shape}
use Rattle.wkt_core.specs.declared.fault.WktFault.{WktFault}
use Rattle.wkt_core.specs.declared.fault.WktFault.TheVariants.{Text, Number, Form}
use Rattle.number_core.specs.declared.scale.Scale.{Scale}
use Rattle.wkt_core.specs.Spelling.{Spells, HasNoRawForm, HasBadNumber, HasNoShape}

abbrev pub Reads : Scale → List ℕ → Result Shape WktFault → Type 0
Reads scale text (Ok shape) = Spells scale text shape
Reads scale text (Err Text) = HasNoRawForm scale text
Reads scale text (Err Number) = HasBadNumber scale text
Reads scale text (Err Form) = HasNoShape scale text
