use Rattle.std.proofs.Common.{subst, sym}
use Rattle.wkt_any_core.proofs.MemberLemmas.{ok_some, ok_none}
use Rattle.geometry_text_core.specs.Binary.{IsBinary}
use Rattle.geometry_text_core.specs.Held.{IsRawBinary}
use Rattle.geometry_text_core.specs.Positions.{TakesPosition}
use Rattle.geometry_text_core.proofs.HeldLemmas.{raw_bytes}
use Rattle.geometry_text_core.proofs.HexadecimalLemmas.{bytes_one}
use Rattle.geometry_text_core.proofs.reader.read_raw.Goals as goal

pub returns-in_default-clause-none : goal.returns-in_default-clause-none
returns-in_default-clause-none c = λ k places s. let none = rw c.in_default.is at c.in_ok-bytes.ensures.none in none s.bytes s.spelled

pub returns-clause-some : goal.returns-clause-some
returns-clause-some c =
    let spelled = rw c.in-Some.is at c.in_ok-bytes.ensures.some in
    ok_some c.read_binary.result c.read_binary.ensures.some
    (λ raw b. raw_bytes c.args.scale c.args.rings c.args.text.now c.in-Some.bytes.items raw spelled
    (subst (λ bytes. IsRawBinary c.args.scale c.args.rings bytes raw) c.deref.ensures.value b))

pub returns-clause-none : goal.returns-clause-none
returns-clause-none c =
    let spelled = rw c.in-Some.is at c.in_ok-bytes.ensures.some in
    ok_none c.read_binary.result c.read_binary.ensures.none
    (λ none k places s. none k s.lists (subst (λ bytes. IsBinary (TakesPosition c.args.scale) bytes k s.lists) (sym c.deref.ensures.value)
    (subst (λ bytes. IsBinary (TakesPosition c.args.scale) bytes k s.lists) (bytes_one c.args.text.now s.bytes c.in-Some.bytes.items s.spelled spelled) s.binary)))
