use Rattle.std.proofs.Common.{◌≡◌, ◌<◌, ℕ, List, [], ◌∷◌, length, refl, ap, subst, arith}
use Rattle.geometry_text_core.specs.Binary.{TakesLists}
use Rattle.geometry_text_core.specs.Positions.{TakesPosition}
use Rattle.geometry_text_core.proofs.HeldLemmas.{raw_binary}
use Rattle.geometry_text_core.proofs.OnlyLemmas.{no_binary, no_end_of_bytes, position_only}
use Rattle.geometry_text_core.proofs.reader.read_binary.Goals as goal

pub returns-in_default-clause-none : goal.returns-in_default-clause-none
returns-in_default-clause-none c = λ k lists b. let none = rw c.in_default.is at c.read_head.ensures.none in none _ b.body b.head

pub returns-in_default-2-clause-none : goal.returns-in_default-2-clause-none
returns-in_default-2-clause-none c =
    let none = rw c.in_default-2.is at c.in_ok-rest.ensures.none in
    no_binary (TakesPosition c.args.scale) c.args.bytes.now c.in-Some.body.now c.in-Some.order c.in-Some.heading c.in-Some.ensures.some none

nothing : (text : List ℕ) → length text < 1 → text ≡ []
nothing [] h = refl
nothing (b ∷ text) h = absurd (omega (arith, h))

pub returns-in_ok-close-in-empty-clause-some : goal.returns-in_ok-close-in-empty-clause-some
returns-in_ok-close-in-empty-clause-some c =
    let (raw, taken, adds) = rw c.in-Some-2.is at c.in_ok-rest.ensures.some in
    raw_binary c.args.scale c.args.rings c.args.bytes.now c.in-Some.heading.keyword _ _ _ c.new-paths.ensures
    (c.in_ok-close-in-empty.ensures _ raw adds)
    (record {
      order = c.in-Some.order;
      is_multi = c.in-Some.heading.is_multi;
      body = c.in-Some.body.now;
      raw = raw;
      head = c.in-Some.ensures.some;
      taken = subst (TakesLists (TakesPosition c.args.scale) c.in-Some.order c.in-Some.heading.is_multi c.in-Some.heading.keyword c.in-Some.body.now raw)
          (nothing c.in-Some-2.rest.now c.in-empty.len_below) taken;
      same = refl;
    })

pub returns-in_default-rest-clause-none : goal.returns-in_default-rest-clause-none
returns-in_default-rest-clause-none c =
    let (raw, taken, adds) = rw c.in-Some-2.is at c.in_ok-rest.ensures.some in
    no_end_of_bytes (TakesPosition c.args.scale) (position_only c.args.scale) c.args.bytes.now c.in-Some.body.now c.in-Some-2.rest.now c.in-Some.order c.in-Some.heading
    c.in-Some.ensures.some raw taken (λ e. omega (arith, c.in_default-rest.len_at_least, ap length e))
