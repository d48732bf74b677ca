use Rattle.plane_core.specs.Places.{point_of}
use Rattle.shown_core.proofs.ShownLemmas.{piece_shown}
use Rattle.shown_core.proofs.shown.is_piece_shown.Goals as goal

pub returns-then-is_face_shown : goal.returns-then-is_face_shown
returns-then-is_face_shown c = λ yes. piece_shown c.args.matrix.now _ c.args.own.now c.args.other.now c.args.course.now.edge (point_of c.args.p.now) c.part_on_edge-part.ensures (c.is_line_shown.ensures yes)
    (rw (c.outline.ensures, c.outline-2.ensures) at c.is_face_shown.ensures c.if-is_face_shown.true)
