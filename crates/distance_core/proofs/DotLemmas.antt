-- Dot products of vectors between vertices fit into 128 bits.
use Rattle.std.proofs.Common.{◌≡◌, ◌≤◌, ◌*◌, ◌+◌, ◌^◌, ℕ, to_z, of_z, arith, ◌∙◌, FitsSigned}
use Rattle.std.specs.Prelude.{ℤ, pos, ◌*ℤ◌, ◌+ℤ◌, ◌-ℤ◌, nat_abs}
use Rattle.std.specs.Int.{w128}
use Rattle.std.proofs.Math.Nat.{mul-le-mul}
use Rattle.std.proofs.lemmas.Int.{ints, fits_signed_from_abs, unsigned_abs-mul}
use Rattle.plane_core.specs.declared.vertex.Vertex.{Vertex}
use Rattle.plane_core.specs.declared.edge.Edge.{Edge}
use Rattle.plane_core.specs.Limits.{greatest_coordinate, greatest_turn}
use Rattle.plane_core.specs.Points.{at, run, rise}
use Rattle.plane_core.proofs.HeldLemmas.{held, held_way, held_turn, product_fits}
use Rattle.distance_core.specs.Frames.{along}

product_below : (a b : ℤ) → nat_abs a ≤ 2 * greatest_coordinate → nat_abs b ≤ 2 * greatest_coordinate → nat_abs a * nat_abs b ≤ (2 * greatest_coordinate) * (2 * greatest_coordinate)
product_below a b ha hb = mul-le-mul ha hb

narrow : (a b : ℤ) → nat_abs a ≤ 2 * greatest_coordinate → nat_abs b ≤ 2 * greatest_coordinate → nat_abs a * nat_abs b ≤ 2 ^ 125
narrow a b ha hb = omega (arith, product_below a b ha hb)

sum_below : (m n : ℤ) (k l : ℕ) → nat_abs m ≤ k → nat_abs n ≤ l → nat_abs (m +ℤ n) ≤ k + l
sum_below m n k l h g = omega (arith, ints)

module _ (a b c d : ℤ) (ha : nat_abs a ≤ 2 * greatest_coordinate) (hb : nat_abs b ≤ 2 * greatest_coordinate)
    (hc : nat_abs c ≤ 2 * greatest_coordinate) (hd : nat_abs d ≤ 2 * greatest_coordinate) where
  pub dot_below : nat_abs (a *ℤ b +ℤ c *ℤ d) ≤ greatest_turn
  dot_below =
      sum_below (a *ℤ b) (c *ℤ d) ((2 * greatest_coordinate) * (2 * greatest_coordinate)) ((2 * greatest_coordinate) * (2 * greatest_coordinate))
      (omega (arith, unsigned_abs-mul a b, product_below a b ha hb)) (omega (arith, unsigned_abs-mul c d, product_below c d hc hd))

  held_sum : to_z w128 (of_z w128 (to_z w128 (of_z w128 a) *ℤ to_z w128 (of_z w128 b)))
      +ℤ to_z w128 (of_z w128 (to_z w128 (of_z w128 c) *ℤ to_z w128 (of_z w128 d))) ≡ a *ℤ b +ℤ c *ℤ d
  held_sum = rw (
    held_way a ha,
    held_way b hb,
    held_way c hc,
    held_way d hd,
    held (a *ℤ b) (product_fits a b (narrow a b ha hb)),
    held (c *ℤ d) (product_fits c d (narrow c d hc hd)),
  )

  dot_fits : FitsSigned w128 (a *ℤ b +ℤ c *ℤ d)
  dot_fits = fits_signed_from_abs w128 (a *ℤ b +ℤ c *ℤ d) (omega (arith, dot_below))

  pub held_sum_fits : FitsSigned w128 (to_z w128 (of_z w128 (to_z w128 (of_z w128 a) *ℤ to_z w128 (of_z w128 b)))
      +ℤ to_z w128 (of_z w128 (to_z w128 (of_z w128 c) *ℤ to_z w128 (of_z w128 d))))
  held_sum_fits = rw held_sum dot_fits

  pub dot_value : to_z w128 (of_z w128 (to_z w128 (of_z w128 (to_z w128 (of_z w128 a) *ℤ to_z w128 (of_z w128 b)))
      +ℤ to_z w128 (of_z w128 (to_z w128 (of_z w128 c) *ℤ to_z w128 (of_z w128 d))))) ≡ a *ℤ b +ℤ c *ℤ d
  dot_value = held _ held_sum_fits ∙ held_sum

-- the dot product of two vectors from the start of an edge
pub along_from : (e : Edge) (v : Vertex) (r d x y k : ℤ) → r ≡ e.b.x -ℤ e.a.x → d ≡ e.b.y -ℤ e.a.y → x ≡ v.x -ℤ e.a.x → y ≡ v.y -ℤ e.a.y
    → k ≡ r *ℤ x +ℤ d *ℤ y → nat_abs k ≤ greatest_turn → to_z w128 (of_z w128 k) ≡ along e (at v)
along_from e v r d x y k hr hd hx hy hk bound = held_turn k bound ∙ hk ∙ rw (hr, hd, hx, hy) (plain (run e) (rise e) v.x v.y e.a.x e.a.y (omega (arith, ints)) (omega (arith, ints)))
  where
    plain : (r d x y a b : ℤ) → x -ℤ a ≡ x -ℤ pos 1 *ℤ a → y -ℤ b ≡ y -ℤ pos 1 *ℤ b → r *ℤ (x -ℤ a) +ℤ d *ℤ (y -ℤ b) ≡ r *ℤ (x -ℤ pos 1 *ℤ a) +ℤ d *ℤ (y -ℤ pos 1 *ℤ b)
    plain r d x y a b h k = cc
