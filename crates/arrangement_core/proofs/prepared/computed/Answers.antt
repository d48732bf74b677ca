use Rattle.std.proofs.lemmas.Result.{err_from_is_err_and}
use Rattle.noding_core.proofs.LawLemmas.{outlines_long}
use Rattle.arrangement_core.proofs.SettledLemmas.{end_of, matrix_read}
use Rattle.arrangement_core.proofs.prepared.computed.Goals as goal

pub read_off-requires-clause-long : goal.read_off-requires-clause-long
read_off-requires-clause-long c =
    let f = c.a.invariant in
    let s = c.b.invariant in
    outlines_long c.a.inside.geometry.now c.b.inside.geometry.now _ _ f.outline s.outline f.geometry s.geometry

pub returns-clause-matrix : goal.returns-clause-matrix
returns-clause-matrix c =
    let f = c.a.invariant in
    let s = c.b.invariant in
    rw (← c.a.view_is, ← c.b.view_is)
    (matrix_read c.args.wanted.now _ _ c.a.inside.geometry.now c.b.inside.geometry.now _ f.outline s.outline f.geometry s.geometry c.in_ok-matrix.ensures.read)

pub returns-in_err-matrix-clause-end : goal.returns-in_err-matrix-clause-end
returns-in_err-matrix-clause-end c =
    let f = c.a.invariant in
    let s = c.b.invariant in
    let p = err_from_is_err_and c.from_residual-in_err-matrix.result c.from_residual-in_err-matrix.ensures.1 in
    rw (p.1, p.2, ← c.a.view_is, ← c.b.view_is)
    (end_of _ _ c.a.inside.geometry.now c.b.inside.geometry.now f.outline s.outline f.geometry s.geometry c.args.wanted.now _ c.in_err-matrix.ensures.stop)
