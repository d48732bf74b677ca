-- The shapes that lists of points form: a point, a line along an axis, or the ring of a rectangle,
-- with any number of points along them.
use Rattle.std.specs.Prelude.{◌≡◌, ℕ, ℤ, ◌<◌, ◌<ℤ◌, ⊤, Bool, ◌&&◌, List, []}
use Rattle.std.specs.Prelude.{◌∷◌, ◌++◌, ◌⊎◌, take, drop, reverse, if◌then◌else◌}
use Rattle.std.specs.Ordering.{int_eq}
use Rattle.geom_core.specs.declared.shape.Shape.{Shape}
use Rattle.geom_core.specs.Shapes.{x1, y1, x2, y2, HasCorners}
use Rattle.wkt_core.specs.declared.keyword.Keyword.{Keyword}
use Rattle.wkt_core.specs.declared.keyword.Keyword.TheVariants.{Point, LineString, Polygon}
use Rattle.wkt_core.specs.declared.position.Position.{Position}

abbrev pub corner : ℤ → ℤ → Position
corner x y = record { x = x; y = y }

-- ---- points one after another

abbrev pub is_same : Position → Position → Bool
is_same p q = int_eq p.x q.x && int_eq p.y q.y

-- the points that follow p, without those that are equal to the one before
abbrev pub without_repeats_of : Position → List Position → List Position
without_repeats_of p [] = []
without_repeats_of p (q ∷ ps) =
    if is_same p q then without_repeats_of p ps else q ∷ without_repeats_of q ps

abbrev pub without_repeats : List Position → List Position
without_repeats [] = []
without_repeats (p ∷ ps) = p ∷ without_repeats_of p ps

-- the last of p and the points that follow it
abbrev pub last_of : Position → List Position → Position
last_of p [] = p
last_of p (q ∷ ps) = last_of q ps

-- a list rotated to start at another of its items
abbrev pub rotated : {X : Type 0} → ℕ → List X → List X
rotated n xs = drop n xs ++ take n xs

-- ---- straight on

-- the four directions along an axis
pub data Heading : Type 0 where
  East : Heading
  North : Heading
  West : Heading
  South : Heading

-- q is in this direction from p
abbrev pub Heads : Heading → Position → Position → Type 0
Heads East p q = (p.y ≡ q.y) × (p.x <ℤ q.x)
Heads North p q = (p.x ≡ q.x) × (p.y <ℤ q.y)
Heads West p q = (p.y ≡ q.y) × (q.x <ℤ p.x)
Heads South p q = (p.x ≡ q.x) × (q.y <ℤ p.y)

-- each point is in this direction from the one before it
abbrev pub Runs : Heading → List Position → Type 0
Runs h [] = ⊤
Runs h (p ∷ []) = ⊤
Runs h (p ∷ q ∷ ps) = Heads h p q × Runs h (q ∷ ps)

-- from a through these points to b, all in one direction
abbrev pub IsStraight : Position → List Position → Position → Type 0
IsStraight a between b = (h : Heading) × Runs h (a ∷ between ++ b ∷ [])

-- ---- lines

-- the points, without repeats, go straight from one end of the shape to the other
pub record IsLine (ps : List Position) (s : Shape) : Type 0 where
  pub first : Position
  pub between : List Position
  pub last : Position
  pub points : without_repeats ps ≡ first ∷ between ++ last ∷ []
  pub straight : IsStraight first between last
  pub ends : HasCorners first.x first.y last.x last.y s ⊎ HasCorners last.x last.y first.x first.y s

-- ---- rings

-- the four corners in order around the shape, starting at the lowest
abbrev pub corners : Shape → List Position
corners s =
    corner (x1 s) (y1 s) ∷ corner (x2 s) (y1 s) ∷ corner (x2 s) (y2 s) ∷ corner (x1 s) (y2 s) ∷ []

-- the corners in order around the shape, from any of them, in either direction
abbrev pub RunsRound : List Position → Shape → Type 0
RunsRound ps s =
    (n : ℕ) × (n < 4) × ((ps ≡ rotated n (corners s)) ⊎ (ps ≡ rotated n (reverse (corners s))))

-- the rectangle with these corners, in order around it
pub record IsRectangle (a b c d : Position) (s : Shape) : Type 0 where
  pub wide : x1 s <ℤ x2 s
  pub high : y1 s <ℤ y2 s
  pub round : RunsRound (a ∷ b ∷ c ∷ d ∷ []) s

-- the corner a and points strictly between it and the corner b, in order from a to b
abbrev pub IsSide : Position → Position → List Position → Type 0
IsSide a b ps = (between : List Position) × (ps ≡ a ∷ between) × IsStraight a between b

-- four consecutive sides, around the rectangle
pub record AreSides (ps : List Position) (s : Shape) : Type 0 where
  pub a : Position
  pub b : Position
  pub c : Position
  pub d : Position
  pub rectangle : IsRectangle a b c d s
  pub ab : List Position
  pub bc : List Position
  pub cd : List Position
  pub da : List Position
  pub sides : IsSide a b ab × IsSide b c bc × IsSide c d cd × IsSide d a da
  pub points : ps ≡ ab ++ (bc ++ (cd ++ da))

-- The last point is the first, so the points after the first are the whole cycle. Without repeats,
-- and rotated to start at one of them, they are the sides of the rectangle; a ring may start within
-- one.
pub record IsRing (first : Position) (ps : List Position) (s : Shape) : Type 0 where
  pub closed : last_of first ps ≡ first
  pub start : ℕ
  pub round : AreSides (rotated start (without_repeats_of first ps)) s

-- the shape that one list of points forms
abbrev pub Draws : Keyword → List Position → Shape → Type 0
Draws Point (p ∷ []) s = HasCorners p.x p.y p.x p.y s
Draws LineString ps s = IsLine ps s
Draws Polygon (p ∷ ps) s = IsRing p ps s
Draws _ _ s = ⊥
