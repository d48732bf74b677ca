-- The points of a text and the shapes that they form.
use Rattle.std.proofs.Common.{◌≡◌, ◌≢◌, ℕ, zero, suc, ◌<◌, ◌≤◌, true, length, List, [], ◌∷◌, ◌⊎◌, inl, inr, get_or, reverse, sym, ◌∙◌, ap, subst, ⊎_elim, arith}
use Rattle.std.proofs.Common.{ℤ, pos}
use Rattle.std.specs.Prelude.{◌<ℤ◌, ◌≤ℤ◌, ◌↔◌, Option, Some, None, IsSome, IfSome, IfNone}
use Rattle.std.specs.Int.{int_min, int_max}
use Rattle.std.proofs.lemmas.Bool.{false≢true}
use Rattle.std.proofs.lemmas.Int.{ints, clamps, by_lt_z}
use Rattle.std.proofs.lemmas.Option.{IfSome_then}
use Rattle.geom_core.specs.declared.shape.Shape.{Shape}
use Rattle.geom_core.specs.Shapes.{x1, y1, x2, y2, HasCorners}
use Rattle.wkt_core.specs.declared.position.Position.{Position}
use Rattle.wkt_core.specs.declared.keyword.Keyword.{Keyword}
use Rattle.wkt_core.specs.Drawing.{IsRectangle, RunsRound, corner, corners, rotated}
use Rattle.wkt_core.specs.DrawnBefore.{IsSegment}
use Rattle.wkt_core.specs.FormSteps.{IsSpanned, LeadsRound, HasFourCorners, AreCornersOf}
use Rattle.wkt_core.specs.Walks.{is_straight, DrawnBy, IsDrawnBy}
use Rattle.wkt_core.specs.declared.keyword.Keyword.TheVariants.{Point, LineString, Polygon}
use Rattle.wkt_core.proofs.HeadingLemmas.{same_position}

-- ---- the ends of what two numbers span

ends_up : (a c lo hi : ℤ) → a ≤ℤ c → lo ≡ int_min a c → hi ≡ int_max a c → (lo ≡ a) × (hi ≡ c)
ends_up a c lo hi h e f = (omega (arith, ints, clamps), omega (arith, ints, clamps))

ends_down : (a c lo hi : ℤ) → c ≤ℤ a → lo ≡ int_min a c → hi ≡ int_max a c → (lo ≡ c) × (hi ≡ a)
ends_down a c lo hi h e f = (omega (arith, ints, clamps), omega (arith, ints, clamps))

up_ends : (a c lo hi : ℤ) → lo ≤ℤ hi → lo ≡ a → hi ≡ c → (lo ≡ int_min a c) × (hi ≡ int_max a c)
up_ends a c lo hi h e f = (omega (arith, ints, clamps), omega (arith, ints, clamps))

down_ends : (a c lo hi : ℤ) → lo ≤ℤ hi → lo ≡ c → hi ≡ a → (lo ≡ int_min a c) × (hi ≡ int_max a c)
down_ends a c lo hi h e f = (omega (arith, ints, clamps), omega (arith, ints, clamps))

below_is_at_most : (a c : ℤ) → a <ℤ c → a ≤ℤ c
below_is_at_most a c h = omega (arith, ints)

-- ---- segments

-- the points that span a shape: its lowest and its highest corner, in either order
spanned_up : (p q : Position) (s : Shape) → HasCorners p.x p.y q.x q.y s → IsSpanned p q s
spanned_up p q s h =
    let x = up_ends p.x q.x (x1 s) (x2 s) (omega (arith, ints)) h.first_x h.second_x in
    let y = up_ends p.y q.y (y1 s) (y2 s) (omega (arith, ints)) h.first_y h.second_y in
    record { first_x = x.0; first_y = y.0; second_x = x.1; second_y = y.1 }

spanned_down : (p q : Position) (s : Shape) → HasCorners q.x q.y p.x p.y s → IsSpanned p q s
spanned_down p q s h =
    let x = down_ends p.x q.x (x1 s) (x2 s) (omega (arith, ints)) h.first_x h.second_x in
    let y = down_ends p.y q.y (y1 s) (y2 s) (omega (arith, ints)) h.first_y h.second_y in
    record { first_x = x.0; first_y = y.0; second_x = x.1; second_y = y.1 }

pub spanned_segment : (p q : Position) (s : Shape) → IsSegment p q s → IsSpanned p q s
spanned_segment p q s h = ⊎_elim (spanned_up p q s) (spanned_down p q s) h.ends

-- ---- rectangles

-- four positions in a row
abbrev four : Position → Position → Position → Position → List Position
four a b c d = a ∷ b ∷ c ∷ d ∷ []

-- the corners at these numbers, first along the first axis, or first along the second
abbrev across : ℤ → ℤ → ℤ → ℤ → List Position
across u v w z = four (corner u w) (corner v w) (corner v z) (corner u z)

abbrev upward : ℤ → ℤ → ℤ → ℤ → List Position
upward u v w z = four (corner u w) (corner u z) (corner v z) (corner v w)

four_same : (a b c d p q r t : Position) → a ≡ p → b ≡ q → c ≡ r → d ≡ t → four a b c d ≡ four p q r t
four_same a b c d p q r t e f g h = cc

-- the first and the third of four positions
abbrev AreOpposite : Position → Position → ℤ → ℤ → ℤ → ℤ → Type 0
AreOpposite a c u v w z = (a.x ≡ u) × (c.x ≡ v) × (a.y ≡ w) × (c.y ≡ z)

across_from : (a b c d : Position) (u v w z : ℤ) → LeadsRound a b c d → AreOpposite a c u v w z → four a b c d ≡ across u v w z
across_from a b c d u v w z (ab, bc, cd, da) (au, cv, aw, cz) =
    four_same a b c d (corner u w) (corner v w) (corner v z) (corner u z)
    (same_position a (corner u w) au aw) (same_position b (corner v w) (bc ∙ cv) (sym ab ∙ aw))
    (same_position c (corner v z) cv cz) (same_position d (corner u z) (da ∙ au) (sym cd ∙ cz))

upward_from : (a b c d : Position) (u v w z : ℤ) → LeadsRound b c d a → AreOpposite a c u v w z → four a b c d ≡ upward u v w z
upward_from a b c d u v w z (bc, cd, da, ab) (au, cv, aw, cz) =
    four_same a b c d (corner u w) (corner u z) (corner v z) (corner v w)
    (same_position a (corner u w) au aw) (same_position b (corner u z) (sym ab ∙ au) (bc ∙ cz))
    (same_position c (corner v z) cv cz) (same_position d (corner v w) (sym cd ∙ cv) (da ∙ aw))

abbrev Turns : Position → Position → Position → Position → Shape → Type 0
Turns a b c d s = RunsRound (four a b c d) s

module _ (a b c d : Position) (s : Shape) (spanned : IsSpanned a c s) where
  -- by the direction of the third position from the first
  by_side : {P : Type 0} → a.x ≢ c.x → a.y ≢ c.y
      → (AreOpposite a c (x1 s) (x2 s) (y1 s) (y2 s) → P) → (AreOpposite a c (x2 s) (x1 s) (y1 s) (y2 s) → P)
      → (AreOpposite a c (x2 s) (x1 s) (y2 s) (y1 s) → P) → (AreOpposite a c (x1 s) (x2 s) (y2 s) (y1 s) → P) → P
  by_side dx dy f g h k =
      let right = λ (l : a.x <ℤ c.x). ends_up a.x c.x (x1 s) (x2 s) (below_is_at_most a.x c.x l) spanned.first_x spanned.second_x in
      let left = λ (l : c.x ≤ℤ a.x). ends_down a.x c.x (x1 s) (x2 s) l spanned.first_x spanned.second_x in
      let up = λ (l : a.y <ℤ c.y). ends_up a.y c.y (y1 s) (y2 s) (below_is_at_most a.y c.y l) spanned.first_y spanned.second_y in
      let down = λ (l : c.y ≤ℤ a.y). ends_down a.y c.y (y1 s) (y2 s) l spanned.first_y spanned.second_y in
      by_lt_z a.x c.x
      (λ r. by_lt_z a.y c.y
      (λ u. f (sym (right r).0, sym (right r).1, sym (up u).0, sym (up u).1))
      (λ v. k (sym (right r).0, sym (right r).1, sym (down v).1, sym (down v).0)))
      (λ l. by_lt_z a.y c.y
      (λ u. g (sym (left l).1, sym (left l).0, sym (up u).0, sym (up u).1))
      (λ v. h (sym (left l).1, sym (left l).0, sym (down v).1, sym (down v).0)))

  round_first : LeadsRound a b c d → a.x ≢ c.x → a.y ≢ c.y → Turns a b c d s
  round_first l dx dy =
      by_side dx dy
      (λ o. (0, omega arith, inl (across_from a b c d (x1 s) (x2 s) (y1 s) (y2 s) l o)))
      (λ o. (2, omega arith, inr (across_from a b c d (x2 s) (x1 s) (y1 s) (y2 s) l o)))
      (λ o. (2, omega arith, inl (across_from a b c d (x2 s) (x1 s) (y2 s) (y1 s) l o)))
      (λ o. (0, omega arith, inr (across_from a b c d (x1 s) (x2 s) (y2 s) (y1 s) l o)))

  round_second : LeadsRound b c d a → a.x ≢ c.x → a.y ≢ c.y → Turns a b c d s
  round_second l dx dy =
      by_side dx dy
      (λ o. (3, omega arith, inr (upward_from a b c d (x1 s) (x2 s) (y1 s) (y2 s) l o)))
      (λ o. (1, omega arith, inl (upward_from a b c d (x2 s) (x1 s) (y1 s) (y2 s) l o)))
      (λ o. (1, omega arith, inr (upward_from a b c d (x2 s) (x1 s) (y2 s) (y1 s) l o)))
      (λ o. (3, omega arith, inl (upward_from a b c d (x1 s) (x2 s) (y2 s) (y1 s) l o)))

  pub rectangle_spanned : HasFourCorners a b c d → IsRectangle a b c d s
  rectangle_spanned (round, dx, dy) = record {
    wide = omega (arith, ints, clamps, dx);
    high = omega (arith, ints, clamps, dy);
    round = ⊎_elim (λ l. round_first l dx dy) (λ l. round_second l dx dy) round;
  }

-- the numbers of four positions in a row
record SameFour (a b c d p q r t : Position) : Type 0 where
  first : a ≡ p
  second : b ≡ q
  third : c ≡ r
  fourth : d ≡ t

same_four : (a b c d p q r t : Position) → four a b c d ≡ four p q r t → SameFour a b c d p q r t
same_four a b c d p q r t e = record {
  first = ap (λ l. get_or l 0 a) e;
  second = ap (λ l. get_or l 1 a) e;
  third = ap (λ l. get_or l 2 a) e;
  fourth = ap (λ l. get_or l 3 a) e;
}

x_of : (p q : Position) → p ≡ q → p.x ≡ q.x
x_of p q e = ap (λ r. r.x) e

y_of : (p q : Position) → p ≡ q → p.y ≡ q.y
y_of p q e = ap (λ r. r.y) e

opposite_from : (a c : Position) (u v w z : ℤ) → a ≡ corner u w → c ≡ corner v z → AreOpposite a c u v w z
opposite_from a c u v w z e f = (x_of a (corner u w) e, x_of c (corner v z) f, y_of a (corner u w) e, y_of c (corner v z) f)

from_across : (a b c d : Position) (u v w z : ℤ) → four a b c d ≡ across u v w z → LeadsRound a b c d × AreOpposite a c u v w z
from_across a b c d u v w z e =
    let f = same_four a b c d (corner u w) (corner v w) (corner v z) (corner u z) e in
    let o = opposite_from a c u v w z f.first f.third in
    let bx = x_of b (corner v w) f.second in
    let by = y_of b (corner v w) f.second in
    let dx = x_of d (corner u z) f.fourth in
    let dy = y_of d (corner u z) f.fourth in
    ((o.2 ∙ sym by, bx ∙ sym o.1, o.3 ∙ sym dy, dx ∙ sym o.0), o)

from_upward : (a b c d : Position) (u v w z : ℤ) → four a b c d ≡ upward u v w z → LeadsRound b c d a × AreOpposite a c u v w z
from_upward a b c d u v w z e =
    let f = same_four a b c d (corner u w) (corner u z) (corner v z) (corner v w) e in
    let o = opposite_from a c u v w z f.first f.third in
    let bx = x_of b (corner u z) f.second in
    let by = y_of b (corner u z) f.second in
    let dx = x_of d (corner v w) f.fourth in
    let dy = y_of d (corner v w) f.fourth in
    ((by ∙ sym o.3, o.1 ∙ sym dx, dy ∙ sym o.2, o.0 ∙ sym bx), o)

-- the least and the greatest of two different numbers
record AreEndsOf (a c lo hi : ℤ) : Type 0 where
  least : lo ≡ int_min a c
  greatest : hi ≡ int_max a c
  apart : a ≢ c

ends_of_up : (a c lo hi : ℤ) → lo <ℤ hi → lo ≡ a → hi ≡ c → AreEndsOf a c lo hi
ends_of_up a c lo hi h e f =
    let ends = up_ends a c lo hi (below_is_at_most lo hi h) e f in
    record { least = ends.0; greatest = ends.1; apart = λ same. absurd (omega (arith, ints, same)) }

ends_of_down : (a c lo hi : ℤ) → lo <ℤ hi → lo ≡ c → hi ≡ a → AreEndsOf a c lo hi
ends_of_down a c lo hi h e f =
    let ends = down_ends a c lo hi (below_is_at_most lo hi h) e f in
    record { least = ends.0; greatest = ends.1; apart = λ same. absurd (omega (arith, ints, same)) }

corners_of : (a b c d : Position) (s : Shape) → LeadsRound a b c d ⊎ LeadsRound b c d a
    → AreEndsOf a.x c.x (x1 s) (x2 s) → AreEndsOf a.y c.y (y1 s) (y2 s) → AreCornersOf a b c d s
corners_of a b c d s round x y = (
  (round, x.apart, y.apart),
  record { first_x = x.least; first_y = y.least; second_x = x.greatest; second_y = y.greatest },
)

module _ (a b c d : Position) (s : Shape) (wide : x1 s <ℤ x2 s) (high : y1 s <ℤ y2 s) where
  right : a.x ≡ x1 s → c.x ≡ x2 s → AreEndsOf a.x c.x (x1 s) (x2 s)
  right e f = ends_of_up a.x c.x (x1 s) (x2 s) wide (sym e) (sym f)

  left : a.x ≡ x2 s → c.x ≡ x1 s → AreEndsOf a.x c.x (x1 s) (x2 s)
  left e f = ends_of_down a.x c.x (x1 s) (x2 s) wide (sym f) (sym e)

  up : a.y ≡ y1 s → c.y ≡ y2 s → AreEndsOf a.y c.y (y1 s) (y2 s)
  up e f = ends_of_up a.y c.y (y1 s) (y2 s) high (sym e) (sym f)

  down : a.y ≡ y2 s → c.y ≡ y1 s → AreEndsOf a.y c.y (y1 s) (y2 s)
  down e f = ends_of_down a.y c.y (y1 s) (y2 s) high (sym f) (sym e)

  turned : (n : ℕ) → n < 4 → (four a b c d ≡ rotated n (corners s)) ⊎ (four a b c d ≡ rotated n (reverse (corners s)))
      → AreCornersOf a b c d s
  turned zero l (inl e) =
      let (r, (au, cv, aw, cz)) = from_across a b c d (x1 s) (x2 s) (y1 s) (y2 s) e in
      corners_of a b c d s (inl r) (right au cv) (up aw cz)
  turned zero l (inr e) =
      let (r, (au, cv, aw, cz)) = from_across a b c d (x1 s) (x2 s) (y2 s) (y1 s) e in
      corners_of a b c d s (inl r) (right au cv) (down aw cz)
  turned (suc zero) l (inl e) =
      let (r, (au, cv, aw, cz)) = from_upward a b c d (x2 s) (x1 s) (y1 s) (y2 s) e in
      corners_of a b c d s (inr r) (left au cv) (up aw cz)
  turned (suc zero) l (inr e) =
      let (r, (au, cv, aw, cz)) = from_upward a b c d (x2 s) (x1 s) (y2 s) (y1 s) e in
      corners_of a b c d s (inr r) (left au cv) (down aw cz)
  turned (suc (suc zero)) l (inl e) =
      let (r, (au, cv, aw, cz)) = from_across a b c d (x2 s) (x1 s) (y2 s) (y1 s) e in
      corners_of a b c d s (inl r) (left au cv) (down aw cz)
  turned (suc (suc zero)) l (inr e) =
      let (r, (au, cv, aw, cz)) = from_across a b c d (x2 s) (x1 s) (y1 s) (y2 s) e in
      corners_of a b c d s (inl r) (left au cv) (up aw cz)
  turned (suc (suc (suc zero))) l (inl e) =
      let (r, (au, cv, aw, cz)) = from_upward a b c d (x1 s) (x2 s) (y2 s) (y1 s) e in
      corners_of a b c d s (inr r) (right au cv) (down aw cz)
  turned (suc (suc (suc zero))) l (inr e) =
      let (r, (au, cv, aw, cz)) = from_upward a b c d (x1 s) (x2 s) (y1 s) (y2 s) e in
      corners_of a b c d s (inr r) (right au cv) (up aw cz)
  turned (suc (suc (suc (suc n)))) l e = absurd (omega arith)

pub rectangle_corners : (a b c d : Position) (s : Shape) → IsRectangle a b c d s → AreCornersOf a b c d s
rectangle_corners a b c d s h = turned a b c d s h.wide h.high h.round.0 h.round.1 h.round.2

-- ---- begun at the next corner

along_first : (a b c d : Position) (s : Shape) → LeadsRound a b c d → a.x ≢ c.x → a.y ≢ c.y → IsSpanned a c s → AreCornersOf b c d a s
along_first a b c d s l dx dy h = (
  (inr (l.2, l.3, l.0, l.1), (λ e. dx (sym l.3 ∙ (sym e ∙ l.1))), (λ e. dy (l.0 ∙ (e ∙ sym l.2)))),
  record {
    first_x = omega (arith, ints, clamps);
    first_y = omega (arith, ints, clamps);
    second_x = omega (arith, ints, clamps);
    second_y = omega (arith, ints, clamps);
  },
)

along_second : (a b c d : Position) (s : Shape) → LeadsRound b c d a → a.x ≢ c.x → a.y ≢ c.y → IsSpanned a c s → AreCornersOf b c d a s
along_second a b c d s l dx dy h = (
  (inl l, (λ e. dx (l.3 ∙ (e ∙ sym l.1))), (λ e. dy (sym l.2 ∙ (sym e ∙ l.0)))),
  record {
    first_x = omega (arith, ints, clamps);
    first_y = omega (arith, ints, clamps);
    second_x = omega (arith, ints, clamps);
    second_y = omega (arith, ints, clamps);
  },
)

pub from_next : (a b c d : Position) (s : Shape) → IsRectangle a b c d s → IsRectangle b c d a s
from_next a b c d s h =
    let ((round, dx, dy), spanned) = rectangle_corners a b c d s h in
    let (four, span) : AreCornersOf b c d a s =
    ⊎_elim (λ l. along_first a b c d s l dx dy spanned) (λ l. along_second a b c d s l dx dy spanned) round in
    rectangle_spanned b c d a s span four

-- ---- answers

-- there is no value if its condition cannot hold
pub none_unless : {X Q : Type 0} (r : Option X) (F : X → Type 0) → (IsSome r ↔ Q) → ((x : X) → F x → Q) → IfNone r ((x : X) → F x → ⊥)
none_unless None F iff from = λ x h. false≢true (iff.1 (from x h))
none_unless (Some y) F iff from = tt

pub none_weaker : {X P Q : Type 0} (r : Option X) → IfNone r P → (P → Q) → IfNone r Q
none_weaker None h f = f h
none_weaker (Some x) h f = tt

-- no shape spans two points that are the ends of a segment
pub no_segment : (p q : Position) (r : Option Shape) → IfNone r ((s : Shape) → IsSpanned p q s → ⊥) → IfNone r ((s : Shape) → IsSegment p q s → ⊥)
no_segment p q r none = none_weaker r none (λ no s h. no s (spanned_segment p q s h))

-- if nothing is spanned, nothing is within corners
pub none_within : (a b c d : Position) (r : Option Shape) → IfNone r ((s : Shape) → IsSpanned a c s → ⊥)
    → IfNone r ((s : Shape) → AreCornersOf a b c d s → ⊥)
none_within a b c d r none = none_weaker r none (λ no s h. no s h.1)

-- a rectangle is the cover of its first and third corner, if there are four
pub rectangle_some : (a b c d : Position) (r : Option Shape) → IfSome r (AreCornersOf a b c d) → IfSome r (IsRectangle a b c d)
rectangle_some a b c d None h = h
rectangle_some a b c d (Some s) h = rectangle_spanned a b c d s h.1 h.0

pub no_rectangle : (a b c d : Position) (r : Option Shape) → IfNone r ((s : Shape) → AreCornersOf a b c d s → ⊥)
    → IfNone r ((s : Shape) → IsRectangle a b c d s → ⊥)
no_rectangle a b c d r none = none_weaker r none (λ no s h. no s (rectangle_corners a b c d s h))

pub ruleset rectangles = (rectangle_some, no_rectangle)

-- ---- turns of the right count

module _ (o : Position) where
  pub four_drawn : (xs : List Position) (e : Position) (s : Shape) → 4 ≤ length xs → length xs < 5 → e ≡ get_or xs 0 o
      → IsRectangle (get_or xs 0 o) (get_or xs 1 o) (get_or xs 2 o) (get_or xs 3 o) s → DrawnBy Polygon xs e s
  four_drawn [] e s l u f h = absurd (omega arith)
  four_drawn (a ∷ []) e s l u f h = absurd (omega arith)
  four_drawn (a ∷ b ∷ []) e s l u f h = absurd (omega arith)
  four_drawn (a ∷ b ∷ c ∷ []) e s l u f h = absurd (omega arith)
  four_drawn (a ∷ b ∷ c ∷ d ∷ []) e s l u f h = (f, h)
  four_drawn (a ∷ b ∷ c ∷ d ∷ g ∷ xs) e s l u f h = absurd (omega arith)

  pub drawn_four : (xs : List Position) (e : Position) (s : Shape) → 4 ≤ length xs → length xs < 5 → DrawnBy Polygon xs e s
      → IsRectangle (get_or xs 0 o) (get_or xs 1 o) (get_or xs 2 o) (get_or xs 3 o) s
  drawn_four [] e s l u h = absurd (omega arith)
  drawn_four (a ∷ []) e s l u h = absurd (omega arith)
  drawn_four (a ∷ b ∷ []) e s l u h = absurd (omega arith)
  drawn_four (a ∷ b ∷ c ∷ []) e s l u h = absurd (omega arith)
  drawn_four (a ∷ b ∷ c ∷ d ∷ []) e s l u h = h.1
  drawn_four (a ∷ b ∷ c ∷ d ∷ g ∷ xs) e s l u h = absurd (omega arith)

  pub five_drawn : (xs : List Position) (e : Position) (s : Shape) → 5 ≤ length xs → length xs < 6 → e ≡ get_or xs 0 o
      → is_straight (get_or xs 4 o) (get_or xs 0 o) (get_or xs 1 o) ≡ true
      → IsRectangle (get_or xs 1 o) (get_or xs 2 o) (get_or xs 3 o) (get_or xs 4 o) s → DrawnBy Polygon xs e s
  five_drawn [] e s l u f t h = absurd (omega arith)
  five_drawn (a ∷ []) e s l u f t h = absurd (omega arith)
  five_drawn (a ∷ b ∷ []) e s l u f t h = absurd (omega arith)
  five_drawn (a ∷ b ∷ c ∷ []) e s l u f t h = absurd (omega arith)
  five_drawn (a ∷ b ∷ c ∷ d ∷ []) e s l u f t h = absurd (omega arith)
  five_drawn (p ∷ a ∷ b ∷ c ∷ d ∷ []) e s l u f t h = (f, t, h)
  five_drawn (p ∷ a ∷ b ∷ c ∷ d ∷ g ∷ xs) e s l u f t h = absurd (omega arith)

  pub drawn_five : (xs : List Position) (e : Position) (s : Shape) → 5 ≤ length xs → length xs < 6 → DrawnBy Polygon xs e s
      → IsRectangle (get_or xs 1 o) (get_or xs 2 o) (get_or xs 3 o) (get_or xs 4 o) s
  drawn_five [] e s l u h = absurd (omega arith)
  drawn_five (a ∷ []) e s l u h = absurd (omega arith)
  drawn_five (a ∷ b ∷ []) e s l u h = absurd (omega arith)
  drawn_five (a ∷ b ∷ c ∷ []) e s l u h = absurd (omega arith)
  drawn_five (a ∷ b ∷ c ∷ d ∷ []) e s l u h = absurd (omega arith)
  drawn_five (p ∷ a ∷ b ∷ c ∷ d ∷ []) e s l u h = h.2
  drawn_five (p ∷ a ∷ b ∷ c ∷ d ∷ g ∷ xs) e s l u h = absurd (omega arith)

  pub drawn_point : (xs : List Position) (p : Position) (s : Shape) → length xs < 1 → DrawnBy Point xs p s → IsSpanned p p s
  drawn_point [] p s l h = spanned_up p p s h
  drawn_point (a ∷ xs) p s l h = absurd h

  pub drawn_segment : (xs : List Position) (p : Position) (s : Shape) → 1 ≤ length xs → DrawnBy LineString xs p s → IsSegment (get_or xs 0 o) p s
  drawn_segment [] p s l h = absurd h
  drawn_segment (a ∷ []) p s l h = h
  drawn_segment (a ∷ b ∷ xs) p s l h = absurd h

pub drawn_at : (keyword kind : Keyword) (turns xs : List Position) (last : Option Position) (p : Position) (s : Shape) → keyword ≡ kind → xs ≡ turns
    → Some p ≡ last → IsDrawnBy keyword turns last s → DrawnBy kind xs p s
drawn_at keyword kind turns xs last p s e f g h =
    subst (λ k. DrawnBy k xs p s) e (subst (λ t. DrawnBy keyword t p s) (sym f) (subst (λ o. IsDrawnBy keyword turns o s) (sym g) h))

-- ---- what is answered for turns of the right count

-- the value used for an index past the end
abbrev pub origin : Position
origin = record { x = pos 0; y = pos 0 }

module _ (r : Option Shape) (xs : List Position) (e : Position) where
  pub some_four : 4 ≤ length xs → length xs < 5 → e ≡ get_or xs 0 origin
      → IfSome r (λ s. IsRectangle (get_or xs 0 origin) (get_or xs 1 origin) (get_or xs 2 origin) (get_or xs 3 origin) s)
      → IfSome r (λ s. DrawnBy Polygon xs e s)
  some_four l u closed some = IfSome_then r some (λ s h. four_drawn origin xs e s l u closed h)

  pub none_four : 4 ≤ length xs → length xs < 5
      → IfNone r ((s : Shape) → IsRectangle (get_or xs 0 origin) (get_or xs 1 origin) (get_or xs 2 origin) (get_or xs 3 origin) s → ⊥)
      → IfNone r ((s : Shape) → DrawnBy Polygon xs e s → ⊥)
  none_four l u none = none_weaker r none (λ no s h. no s (drawn_four origin xs e s l u h))

  pub some_five : 5 ≤ length xs → length xs < 6 → e ≡ get_or xs 0 origin
      → is_straight (get_or xs 4 origin) (get_or xs 0 origin) (get_or xs 1 origin) ≡ true
      → IfSome r (λ s. IsRectangle (get_or xs 1 origin) (get_or xs 2 origin) (get_or xs 3 origin) (get_or xs 4 origin) s)
      → IfSome r (λ s. DrawnBy Polygon xs e s)
  some_five l u closed straight some = IfSome_then r some (λ s h. five_drawn origin xs e s l u closed straight h)

  pub none_five : 5 ≤ length xs → length xs < 6
      → IfNone r ((s : Shape) → IsRectangle (get_or xs 1 origin) (get_or xs 2 origin) (get_or xs 3 origin) (get_or xs 4 origin) s → ⊥)
      → IfNone r ((s : Shape) → DrawnBy Polygon xs e s → ⊥)
  none_five l u none = none_weaker r none (λ no s h. no s (drawn_five origin xs e s l u h))

module _ (r : Option Shape) (keyword : Keyword) (turns xs : List Position) (last : Option Position) (p : Position) where
  pub none_point : keyword ≡ Point → xs ≡ turns → Some p ≡ last → length xs < 1 → IfNone r ((s : Shape) → IsSpanned p p s → ⊥)
      → IfNone r ((s : Shape) → IsDrawnBy keyword turns last s → ⊥)
  none_point e f g few none =
      none_weaker r none (λ no s h. no s (drawn_point origin xs p s few (drawn_at keyword Point turns xs last p s e f g h)))

  pub none_segment : keyword ≡ LineString → xs ≡ turns → Some p ≡ last → 1 ≤ length xs
      → IfNone r ((s : Shape) → IsSegment (get_or xs 0 origin) p s → ⊥) → IfNone r ((s : Shape) → IsDrawnBy keyword turns last s → ⊥)
  none_segment e f g some none =
      none_weaker r none (λ no s h. no s (drawn_segment origin xs p s some (drawn_at keyword LineString turns xs last p s e f g h)))
