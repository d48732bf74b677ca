use Rattle.std.proofs.Common.{◌∙◌, sym, ap, subst, length, arith}
use Rattle.wkt_core.specs.TokenSteps.{skip}
use Rattle.geometry_text_core.specs.Binary.{TakesEach}
use Rattle.geometry_text_core.specs.Hexadecimal.{TakesPair}
use Rattle.geometry_text_core.proofs.EachLemmas.{each_more}
use Rattle.geometry_text_core.proofs.HexadecimalLemmas.{no_bytes}
use Rattle.geometry_text_core.proofs.hexadecimal.decode.Goals as goal

pub loop-byte-preserved : goal.loop-byte-preserved
loop-byte-preserved c =
    subst (λ bytes. TakesEach TakesPair (skip c.args.text.now) bytes c.in-Some.behind.now) (sym c.in_ok-push.ensures.items)
    (each_more TakesPair c.loop-byte.bytes.items c.in-Some.byte (skip c.args.text.now) c.loop-byte.rest.now c.in-Some.behind.now c.loop-byte.invariant c.in-Some.ensures.some)

pub returns-in_default-end-clause-none : goal.returns-in_default-end-clause-none
returns-in_default-end-clause-none c =
    let none = rw c.in_default.is at c.read_pair.ensures.none in
    no_bytes c.args.text.now c.loop-byte.bytes.items c.loop-byte.rest.now c.loop-byte.invariant (λ n. none n.0 n.1 n.2)
    (λ e. omega (arith, c.in_default-end.len_at_least, ap length (c.skip_blanks-end.ensures ∙ e)))
