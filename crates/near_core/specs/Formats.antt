-- How the files of layers and the texts of their geometries read for a join by distance.
use Rattle.std.specs.Prelude.{◌≡◌, Ok, Err}
use Rattle.format_core.specs.Layouts.{Reading, TextReading}
use Rattle.distance_core.specs.declared.distance.Distance.{Distance}
use Rattle.near_core.specs.declared.grown.Grown.{Grown}

-- the geometry as which the text reads, with this distance, or the text's fault
abbrev pub GrownText : {G : Type 0} → TextReading G → Distance → TextReading (Grown G)
GrownText reads distance text (Ok g) = reads text (Ok g.geometry) × (g.distance ≡ distance)
GrownText reads distance text (Err fault) = reads text (Err fault)

-- the same files, whose geometries all have this distance
abbrev pub ReadsGrown : {G : Type 0} → Reading G → Distance → Reading (Grown G)
ReadsGrown reads distance =
    record { layout = reads.layout; limits = reads.limits; text = GrownText reads.text distance }
