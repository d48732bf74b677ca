-- The text of each fault.
use Rattle.std.specs.Prelude.{ℕ, List, codes}
use Rattle.wkt_any_core.specs.declared.fault.GeometryFault.{GeometryFault}
use Rattle.wkt_any_core.specs.declared.fault.GeometryFault.TheVariants.{Text, Number, Form, Rings}

abbrev pub geometry_text : GeometryFault → List ℕ
geometry_text Text = codes "not a geometry text"
geometry_text Number = codes "number not whole or out of range"
geometry_text Form = codes "a line without length, or a ring that is not closed or is flat"
geometry_text Rings = codes "rings cross or overlap"
