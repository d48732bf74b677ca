-- The text of each fault.
use Rattle.std.specs.Prelude.{ℕ, List, codes}
use Rattle.wkt_core.specs.declared.fault.WktFault.{WktFault}
use Rattle.wkt_core.specs.declared.fault.WktFault.TheVariants.{Text, Number, Form}

abbrev pub wkt_text : WktFault → List ℕ
wkt_text Text = codes "not a geometry text"
wkt_text Number = codes "number not whole or out of range"
wkt_text Form = codes "not a point, axis-parallel segment or rectangle"
