-- The zones of one axis: the inner part of an interval, its ends, and its outside.
use Rattle.std.proofs.Common.{arith, ◌≡◌, refl, inl, inr}
use Rattle.std.specs.Prelude.{◌≤◌, zero, suc, ◌+◌, ℤ, pos, negsuc, ◌+ℤ◌, ◌-ℤ◌, ◌<ℤ◌, ◌⊎◌}
use Rattle.std.proofs.lemmas.Int.{ints}
use Rattle.geom_core.specs.declared.span.Span.{Span}
use Rattle.relation_core.specs.declared.meeting.Shared.{Shared}
use Rattle.relation_core.specs.declared.meeting.Shared.TheVariants.{Nothing, Point, Interval}
use Rattle.geom_core.specs.Cells.{line, parity, IsInner}

-- one of the two ends of an interval that has a length
abbrev pub IsEnd : Span → ℤ → Type 0
IsEnd s u = (s.lo <ℤ s.hi) × ((u ≡ line s.lo) ⊎ (u ≡ line s.hi))

abbrev pub IsOutside : Span → ℤ → Type 0
IsOutside s u = (u <ℤ line s.lo) ⊎ (line s.hi <ℤ u)

-- the intersection of two sets of places on an axis
abbrev pub IsShared : (ℤ → Type 0) → (ℤ → Type 0) → Shared → Type 0
IsShared S T Nothing = (u : ℤ) → S u → T u → ⊥
IsShared S T Point = ((u : ℤ) × S u × T u) × ((u : ℤ) → S u → T u → parity u ≡ 0)
IsShared S T Interval = (u : ℤ) × S u × T u × (parity u ≡ 1)

pub line_even : (c : ℤ) → parity (line c) ≡ 0
line_even (pos n) = omega arith
line_even (negsuc n) = omega arith

pub gap_right : (c : ℤ) → parity (line c +ℤ pos 1) ≡ 1
gap_right (pos n) = omega arith
gap_right (negsuc n) =
    let e : line (negsuc n) +ℤ pos 1 ≡ negsuc (n + n) = omega (arith, ints) in
    rw e (omega arith)

pub gap_left : (c : ℤ) → parity (line c -ℤ pos 1) ≡ 1
gap_left (pos zero) = refl
gap_left (pos (suc n)) =
    let e : line (pos (suc n)) -ℤ pos 1 ≡ pos (n + n + 1) = omega (arith, ints) in
    rw e (omega arith)
gap_left (negsuc n) = omega arith

pub end_is_line : (s : Span) (u : ℤ) → IsEnd s u → parity u ≡ 0
end_is_line s u h = elim h.1 [ inl e ↦ rw e (line_even s.lo) | inr e ↦ rw e (line_even s.hi) ]

pub point_is_line : (s : Span) (u : ℤ) → s.lo ≡ s.hi → IsInner s u → parity u ≡ 0
point_is_line s u e h = elim h [ inl i ↦ absurd (omega (arith, ints)) | inr i ↦ rw (i.1) (line_even s.lo) ]

pub parity_le : (u : ℤ) → parity u ≤ 1
parity_le (pos n) = omega arith
parity_le (negsuc n) = omega arith
