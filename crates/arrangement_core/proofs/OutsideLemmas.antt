-- A point outside the box of a geometry is in its exterior.
use Rattle.std.proofs.Common.{◌≡◌, ◌<◌, arith, true}
use Rattle.geom_core.specs.declared.shape.Shape.{Shape}
use Rattle.plane_core.specs.declared.part.Part.TheVariants.{Boundary, Exterior}
use Rattle.plane_core.specs.declared.outline.Kind.TheVariants.{Areas as Rings}
use Rattle.plane_core.specs.declared.outline.Outline.{Outline}
use Rattle.plane_core.specs.declared.vertex.Vertex.{Vertex}
use Rattle.plane_core.specs.Points.{Point, at, is_at}
use Rattle.plane_core.specs.Outlines.{outline_part}
use Rattle.edge_index_core.specs.Beyond.{is_beyond}
use Rattle.noding_core.proofs.GatherLemmas.{at_first}
use Rattle.noding_core.proofs.OffPartLemmas.{first_on}
use Rattle.shown_core.specs.Beyond.{IsBounded}
use Rattle.shown_core.specs.Lying.{LiesOff}
use Rattle.shown_core.proofs.BeyondLemmas.{lies_beyond}
use Rattle.arrangement_core.specs.Seen.{IsOutside}
use Rattle.arrangement_core.proofs.WalkLemmas.{lies_off}

pub outside_at : (s : Shape) (v : Vertex) (p : Point) → is_at v p ≡ true → is_beyond s (record { a = v; b = v }) ≡ true → IsOutside s p
outside_at s v p here beyond = record { vertex = v; here = here; beyond = beyond }

outside_part : (o : Outline) (s : Shape) (p : Point) → IsBounded o s → 0 < p.w → IsOutside s p → outline_part o p ≡ Exterior
outside_part o s p b wide h = (lies_beyond o s (record { a = h.vertex; b = h.vertex }) b h.beyond).on p wide (first_on (record { a = h.vertex; b = h.vertex }) p h.here)

pub vertex_part : (o : Outline) (s : Shape) (v : Vertex) → IsBounded o s → is_beyond s (record { a = v; b = v }) ≡ true → outline_part o (at v) ≡ Exterior
vertex_part o s v b beyond = outside_part o s (at v) b (omega arith) (record { vertex = v; here = at_first v; beyond = beyond })

pub outside_off : (o : Outline) (s : Shape) (p : Point) → IsBounded o s → 0 < p.w → o.kind ≡ Rings → IsOutside s p → LiesOff o p Exterior
outside_off o s p b wide area h = lies_off o s p Exterior b wide area not_boundary (outside_part o s p b wide h)
  where
    not_boundary : ¬ (Exterior ≡ Boundary)
    not_boundary is = cc
