-- When intervals share a number, when one lies in another, and when their inner parts meet.
use Rattle.std.proofs.Common.{◌≡◌, ◌↔◌, IsTrue, Bool, true, false, refl, subst, arith, inl, inr, ◌⊎◌, to_z, of_z, w64}
use Rattle.std.specs.Prelude.{ℤ, pos, ◌+ℤ◌, ◌≤ℤ◌, ◌<ℤ◌, int_le}
use Rattle.std.proofs.lemmas.Int.{ints, by_lt_z}
use Rattle.geom_core.specs.declared.span.Span.{Span}
use Rattle.geom_core.specs.declared.shape.Shape.{Shape}
use Rattle.geom_core.specs.Cells.{line, IsWithin, IsInner, IsIn}
use Rattle.geom_core.specs.Sets.{LiesInside}
use Rattle.geom_core.specs.Joined.{same_ends}
use Rattle.geom_core.proofs.HeldLemmas.{begins_within, within_begins, no_later_lo, no_later_hi, lo_no_later, hi_no_later}
use Rattle.geom_core.proofs.SpanLemmas.{common_line, common_order, within_ends}

-- a test after one that succeeded
pub both_hold : {P Q : Type 0} (t r : Bool) → t ≡ true → IsTrue t ↔ P → IsTrue r ↔ Q → IsTrue r ↔ (P × Q)
both_hold t r e p q = (λ f. (p.0 e, q.0 f), λ h. q.1 h.1)

-- an interval has an inner place
pub some_inner : (s : Span) → (u : ℤ) × IsInner s u
some_inner s = by_lt_z s.lo s.hi
    (λ long. (line s.lo +ℤ pos 1, inl (omega (arith, ints), omega (arith, ints))))
    (λ short. (line s.lo, inr (omega (arith, ints), refl)))

-- an interval in another ends no further out
pub ends_in : (a b : Span) → ((u : ℤ) → IsWithin a u → IsWithin b u) → (b.lo ≤ℤ a.lo) × (a.hi ≤ℤ b.hi)
ends_in a b f =
    let low = f (line a.lo) (omega (arith, ints), omega (arith, ints)) in
    let high = f (line a.hi) (omega (arith, ints), omega (arith, ints)) in
    (omega (arith, ints), omega (arith, ints))

-- the stored ends of two intervals decide if they share a number
pub meeting_held : (a b : Span) → int_le (to_z w64 (of_z w64 a.lo)) (to_z w64 (of_z w64 b.hi)) ≡ true → int_le (to_z w64 (of_z w64 b.lo)) (to_z w64 (of_z w64 a.hi)) ≡ true
    → (u : ℤ) × IsWithin a u × IsWithin b u
meeting_held a b h k = common_line a b (begins_within a b h) (begins_within b a k)

pub held_meeting : (a b : Span) (u : ℤ) → IsWithin a u → IsWithin b u → int_le (to_z w64 (of_z w64 a.lo)) (to_z w64 (of_z w64 b.hi)) ≡ true
held_meeting a b u h k = within_begins a b (common_order a b u h k)

pub ruleset meeting = (meeting_held, held_meeting)

-- and whether one lies in the other
pub inside_held : (a b : Span) (u : ℤ) → int_le (to_z w64 (of_z w64 b.lo)) (to_z w64 (of_z w64 a.lo)) ≡ true → int_le (to_z w64 (of_z w64 a.hi)) (to_z w64 (of_z w64 b.hi)) ≡ true
    → IsWithin a u → IsWithin b u
inside_held a b u h k within = within_ends a b (no_later_lo b a h) (no_later_hi a b k) u within

pub held_lo_inside : (a b : Span) → ((u : ℤ) → IsWithin a u → IsWithin b u) → int_le (to_z w64 (of_z w64 b.lo)) (to_z w64 (of_z w64 a.lo)) ≡ true
held_lo_inside a b f = lo_no_later b a (ends_in a b f).0

pub held_hi_inside : (a b : Span) → ((u : ℤ) → IsWithin a u → IsWithin b u) → int_le (to_z w64 (of_z w64 a.hi)) (to_z w64 (of_z w64 b.hi)) ≡ true
held_hi_inside a b f = hi_no_later a b (ends_in a b f).1

pub ruleset inside = (inside_held, held_lo_inside, held_hi_inside)

-- a shape in another is so along each axis
pub axes_in : (a b : Shape) → IsIn a b → ((u : ℤ) → IsWithin a.x u → IsWithin b.x u) × ((v : ℤ) → IsWithin a.y v → IsWithin b.y v)
axes_in a b f = (
  λ u h. (f u (line a.y.lo) (h, (omega (arith, ints), omega (arith, ints)))).0,
  λ v h. (f (line a.x.lo) v ((omega (arith, ints), omega (arith, ints)), h)).1,
)

-- if each interval begins before the other ends, or both have the same ends, their inner parts meet
pub crossing_inner : (a b : Span) → a.lo <ℤ b.hi → b.lo <ℤ a.hi → (u : ℤ) × IsInner a u × IsInner b u
crossing_inner a b h k =
    by_lt_z a.lo a.hi
    (λ long. by_lt_z b.lo b.hi
    (λ long'. by_lt_z a.lo b.lo
    (λ l. (line b.lo +ℤ pos 1, inl (omega (arith, ints), omega (arith, ints)), inl (omega (arith, ints), omega (arith, ints))))
    (λ l. (line a.lo +ℤ pos 1, inl (omega (arith, ints), omega (arith, ints)), inl (omega (arith, ints), omega (arith, ints)))))
    (λ short. (line b.lo, inl (omega (arith, ints), omega (arith, ints)), inr (omega (arith, ints), refl))))
    (λ short. (line a.lo, inr (omega (arith, ints), refl), inl (omega (arith, ints), omega (arith, ints))))

pub same_inner : (a b : Span) → a.lo ≡ b.lo → a.hi ≡ b.hi → (u : ℤ) × IsInner a u × IsInner b u
same_inner a b p q = let w = some_inner a in
    let I : Span → Type 0 = λ s. IsInner s w.0 in (w.0, w.1, subst I (same_ends a b p q) w.1)

-- and they don't if neither holds
pub apart_inner : (a b : Span) (u : ℤ) → IsInner a u → IsInner b u → ((a.lo <ℤ b.hi) × (b.lo <ℤ a.hi)) ⊎ ((a.lo ≡ b.lo) × (a.hi ≡ b.hi))
apart_inner a b u h k =
    by_lt_z a.lo b.hi
    (λ l. by_lt_z b.lo a.hi (λ r. inl (l, r)) (λ r. inr (grind (arith, ints), grind (arith, ints))))
    (λ l. inr (grind (arith, ints), grind (arith, ints)))

pub ruleset inner_meeting = (crossing_inner, same_inner, apart_inner)

-- an interval is in the inner part of another if its ends are between those of the other, or both
-- are the same single number
pub between_inner : (a b : Span) (u : ℤ) → b.lo <ℤ a.lo → a.hi <ℤ b.hi → IsWithin a u → IsInner b u
between_inner a b u h k within = inl (omega (arith, ints), omega (arith, ints))

pub number_inner : (a b : Span) (u : ℤ) → a.lo ≡ a.hi → a.lo ≡ b.lo → a.hi ≡ b.hi → IsWithin a u → IsInner b u
number_inner a b u e l h within = inr (omega (arith, ints), omega (arith, ints))

-- and not if neither holds
pub inner_ends : (a b : Span) → ((u : ℤ) → IsWithin a u → IsInner b u)
    → ((b.lo <ℤ a.lo) × (a.hi <ℤ b.hi)) ⊎ ((a.lo ≡ a.hi) × (a.lo ≡ b.lo) × (a.hi ≡ b.hi))
inner_ends a b f =
    let low = f (line a.lo) (omega (arith, ints), omega (arith, ints)) in
    let high = f (line a.hi) (omega (arith, ints), omega (arith, ints)) in
    by_lt_z b.lo a.lo
    (λ l. inl (l, grind (arith, ints)))
    (λ l. inr (grind (arith, ints), grind (arith, ints), grind (arith, ints)))

pub ruleset inside_inner = (between_inner, number_inner, inner_ends)

-- each number of an interval is in the inner part of another
abbrev IsInsideOf : Span → Span → Type 0
IsInsideOf a b = (u : ℤ) → IsWithin a u → IsInner b u

-- a shape in the interior of another is so along each axis
axes_inside : (a b : Shape) → LiesInside a b → IsInsideOf a.x b.x × IsInsideOf a.y b.y
axes_inside a b f = (
  λ u h. (f u (line a.y.lo) (h, (omega (arith, ints), omega (arith, ints)))).0,
  λ v h. (f (line a.x.lo) v ((omega (arith, ints), omega (arith, ints)), h)).1,
)

-- so the tests of both axes, one after the other, decide it
module _ (a b : Shape) (across : Bool) (test : IsTrue across ↔ IsInsideOf a.x b.x) where
  pub inside_along : (along : Bool) → across ≡ true → IsTrue along ↔ IsInsideOf a.y b.y → IsTrue along ↔ LiesInside a b
  inside_along along e next = (λ t u v c. (test.0 e u c.0, next.0 t v c.1), λ f. next.1 (axes_inside a b f).1)

  pub not_inside : across ≡ false → IsTrue across ↔ LiesInside a b
  not_inside e = (λ t. absurd cc, λ f. test.1 (axes_inside a b f).0)
