-- An edge that shares no point with the edges of polylines lies in their exterior.
use Rattle.std.proofs.Common.{◌≡◌, arith, subst, true, List, All, ◌<◌}
use Rattle.std.specs.List.{list_all}
use Rattle.geom_core.specs.declared.shape.Shape.{Shape}
use Rattle.plane_core.specs.declared.edge.Edge.{Edge}
use Rattle.plane_core.specs.declared.outline.Kind.TheVariants.{Lines as Polylines}
use Rattle.plane_core.specs.declared.outline.Outline.{Outline}
use Rattle.plane_core.specs.declared.part.Part.TheVariants.{Exterior}
use Rattle.plane_core.specs.Figures.{HasLength}
use Rattle.plane_core.specs.Outlines.{outline_part}
use Rattle.plane_core.specs.Points.{at, is_on}
use Rattle.noding_core.specs.Near.{IsFound}
use Rattle.noding_core.specs.Nodes.{IsAmong}
use Rattle.noding_core.proofs.AmongLemmas.{none_any}
use Rattle.noding_core.proofs.GatherLemmas.{at_first}
use Rattle.noding_core.proofs.NearLemmas.{near_of}
use Rattle.noding_core.proofs.NodeLemmas.{all_among}
use Rattle.noding_core.proofs.OffPartLemmas.{first_on}
use Rattle.noding_core.proofs.PathLemmas.{edge_length}
use Rattle.noding_core.proofs.TestLemmas.{by_test}
use Rattle.shown_core.specs.Beyond.{IsBounded}
use Rattle.arrangement_core.specs.Aside.{are_aside}
use Rattle.arrangement_core.proofs.ClearLemmas.{aside_clear, each_holds}
use Rattle.arrangement_core.proofs.WalkLemmas.{lines_off}

pub beside_lines : (o : Outline) (s : Shape) (e : Edge) (near : List Edge) → IsBounded o s → HasLength e → o.kind ≡ Polylines → list_all (λ f. are_aside e f) near ≡ true
    → All (IsFound e near) o.edges.items → outline_part o (at e.a) ≡ Exterior
beside_lines o s e near b long lines none found =
    lines_off o s (at e.a) b lines (none_any (λ f. is_on f (at e.a)) o.edges.items (λ f one. by_test (is_on f (at e.a)) (λ yes. absurd (met f one yes)) (λ no_. no_)))
  where
    here : is_on e (at e.a) ≡ true
    here = first_on e (at e.a) (at_first e.a)

    wide : 0 < (at e.a).w
    wide = omega arith

    met : (f : Edge) → IsAmong f o.edges.items → is_on f (at e.a) ≡ true → ⊥
    met f one on_f = aside_clear e f (at e.a) long (edge_length b.figure f b.geometry (subst (IsAmong f) b.outline.edges one)) wide
        (each_holds (λ f. are_aside e f) near f none (near_of e f near (at e.a) wide here on_f (all_among (IsFound e near) f o.edges.items found one)))
        here on_f
