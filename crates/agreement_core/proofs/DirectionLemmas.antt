-- From a corner of a triangle some point of it differs along both axes, and from an end of a segment
-- the other end differs along one.
use Rattle.std.proofs.Common.{◌≡◌, ◌<◌, ◌*◌, ◌+◌, arith, refl, ◌∙◌, sym, inl, inr, zero, suc}
use Rattle.std.specs.Prelude.{ℤ, ℕ, pos, negsuc, ◌*ℤ◌, ◌+ℤ◌, ◌-ℤ◌, ◌⊎◌}
use Rattle.std.proofs.lemmas.Int.{ints}
use Rattle.plane_core.specs.Points.{Point, mix, turn}
use Rattle.plane_core.proofs.Ring.{monomials}

-- level along an axis
abbrev pub AreLevel : ℤ → ℕ → ℤ → ℕ → Type 0
AreLevel a w b v = a *ℤ pos v ≡ b *ℤ pos w

pub level_or_not : (a b : ℤ) (w v : ℕ) → AreLevel a w b v ⊎ ¬ (AreLevel a w b v)
level_or_not a b w v = same_or_not (a *ℤ pos v) (b *ℤ pos w)
  where
    same_or_not : (y z : ℤ) → (y ≡ z) ⊎ ¬ (y ≡ z)
    same_or_not y z = grind (arith, ints)

-- the point differs along both axes
pub record DiffersFrom (p q : Point) : Type 0 where
  pub along_x : ¬ (AreLevel p.x p.w q.x q.w)
  pub along_y : ¬ (AreLevel p.y p.w q.y q.w)

-- a positive multiple is 0 only if the number is
zero_of : (w : ℕ) (z : ℤ) → 0 < w → pos w *ℤ z ≡ pos 0 → z ≡ pos 0
zero_of w z h e = product_zero w z h e
  where
    product_zero : (w : ℕ) (z : ℤ) → 0 < w → pos w *ℤ z ≡ pos 0 → z ≡ pos 0
    product_zero (suc w) (pos zero) h e = refl
    product_zero (suc w) (pos (suc z)) h e = absurd (omega (arith, ints, e))
    product_zero (suc w) (negsuc z) h e = absurd (omega (arith, ints, e))
    product_zero zero z h e = absurd (omega (arith, h))

-- three points level along an axis have no turn
flat_x : (p q r : Point) → 0 < p.w → AreLevel p.x p.w q.x q.w → AreLevel p.x p.w r.x r.w → turn p q r ≡ pos 0
flat_x p q r h e f = zero_of p.w (turn p q r) h (flat p.x p.y (pos p.w) q.x q.y (pos q.w) r.x r.y (pos r.w) e f)
  where
    flat : (px py pv qx qy qv rx ry rv : ℤ) → px *ℤ qv ≡ qx *ℤ pv → px *ℤ rv ≡ rx *ℤ pv
        → pv *ℤ (px *ℤ (qy *ℤ rv -ℤ qv *ℤ ry) -ℤ py *ℤ (qx *ℤ rv -ℤ qv *ℤ rx) +ℤ pv *ℤ (qx *ℤ ry -ℤ qy *ℤ rx)) ≡ pos 0
    flat px py pv qx qy qv rx ry rv e f =
        let e1 : pv *ℤ (px *ℤ (qy *ℤ rv -ℤ qv *ℤ ry) -ℤ py *ℤ (qx *ℤ rv -ℤ qv *ℤ rx) +ℤ pv *ℤ (qx *ℤ ry -ℤ qy *ℤ rx))
        ≡ pv *ℤ (px *ℤ (qy *ℤ rv -ℤ qv *ℤ ry)) +ℤ (qx *ℤ pv) *ℤ (pv *ℤ ry -ℤ py *ℤ rv) +ℤ (rx *ℤ pv) *ℤ (py *ℤ qv -ℤ pv *ℤ qy)
        = simp monomials (omega (arith, ints)) in
        e1 ∙ rw (sym e, sym f) (simp monomials (omega (arith, ints)))

-- the same along the other axis
flat_y : (p q r : Point) → 0 < p.w → AreLevel p.y p.w q.y q.w → AreLevel p.y p.w r.y r.w → turn p q r ≡ pos 0
flat_y p q r h e f = zero_of p.w (turn p q r) h (flat p.x p.y (pos p.w) q.x q.y (pos q.w) r.x r.y (pos r.w) e f)
  where
    flat : (px py pv qx qy qv rx ry rv : ℤ) → py *ℤ qv ≡ qy *ℤ pv → py *ℤ rv ≡ ry *ℤ pv
        → pv *ℤ (px *ℤ (qy *ℤ rv -ℤ qv *ℤ ry) -ℤ py *ℤ (qx *ℤ rv -ℤ qv *ℤ rx) +ℤ pv *ℤ (qx *ℤ ry -ℤ qy *ℤ rx)) ≡ pos 0
    flat px py pv qx qy qv rx ry rv e f =
        let e1 : pv *ℤ (px *ℤ (qy *ℤ rv -ℤ qv *ℤ ry) -ℤ py *ℤ (qx *ℤ rv -ℤ qv *ℤ rx) +ℤ pv *ℤ (qx *ℤ ry -ℤ qy *ℤ rx))
        ≡ (qy *ℤ pv) *ℤ (px *ℤ rv -ℤ pv *ℤ rx) +ℤ (ry *ℤ pv) *ℤ (pv *ℤ qx -ℤ px *ℤ qv) -ℤ pv *ℤ (py *ℤ (qx *ℤ rv -ℤ qv *ℤ rx))
        = simp monomials (omega (arith, ints)) in
        e1 ∙ rw (sym e, sym f) (simp monomials (omega (arith, ints)))

-- a point with the first at both axes has no turn with any
flat_same : (p q r : Point) → 0 < p.w → AreLevel p.x p.w q.x q.w → AreLevel p.y p.w q.y q.w → turn p q r ≡ pos 0
flat_same p q r h e f = zero_of p.w (turn p q r) h (flat p.x p.y (pos p.w) q.x q.y (pos q.w) r.x r.y (pos r.w) e f)
  where
    flat : (px py pv qx qy qv rx ry rv : ℤ) → px *ℤ qv ≡ qx *ℤ pv → py *ℤ qv ≡ qy *ℤ pv
        → pv *ℤ (px *ℤ (qy *ℤ rv -ℤ qv *ℤ ry) -ℤ py *ℤ (qx *ℤ rv -ℤ qv *ℤ rx) +ℤ pv *ℤ (qx *ℤ ry -ℤ qy *ℤ rx)) ≡ pos 0
    flat px py pv qx qy qv rx ry rv e f =
        let e1 : pv *ℤ (px *ℤ (qy *ℤ rv -ℤ qv *ℤ ry) -ℤ py *ℤ (qx *ℤ rv -ℤ qv *ℤ rx) +ℤ pv *ℤ (qx *ℤ ry -ℤ qy *ℤ rx))
        ≡ (qy *ℤ pv) *ℤ (px *ℤ rv -ℤ pv *ℤ rx) +ℤ (qx *ℤ pv) *ℤ (pv *ℤ ry -ℤ py *ℤ rv) -ℤ (pv *ℤ (px *ℤ (qv *ℤ ry)) -ℤ pv *ℤ (py *ℤ (qv *ℤ rx)))
        = simp monomials (omega (arith, ints)) in
        e1 ∙ rw (sym e, sym f) (simp monomials (omega (arith, ints)))

-- ---- a point of the triangle that differs from a corner along both axes

first_of_two : (a b c : ℤ) (w v x : ℕ) → AreLevel a w (pos 1 *ℤ b +ℤ pos 0 *ℤ c) (1 * v + 0 * x) → AreLevel a w b v
first_of_two a b c w v x e =
    let f : 1 * v + 0 * x ≡ v = omega arith in
    let g : pos 1 *ℤ b +ℤ pos 0 *ℤ c ≡ b = omega (arith, ints) in
    rw (f, g) at e

second_of_two : (a b c : ℤ) (w v x : ℕ) → AreLevel a w (pos 0 *ℤ b +ℤ pos 1 *ℤ c) (0 * v + 1 * x) → AreLevel a w c x
second_of_two a b c w v x e =
    let f : 0 * v + 1 * x ≡ x = omega arith in
    let g : pos 0 *ℤ b +ℤ pos 1 *ℤ c ≡ c = omega (arith, ints) in
    rw (f, g) at e

both_level : (a b c : ℤ) (w v x : ℕ) → AreLevel a w (pos 1 *ℤ b +ℤ pos 1 *ℤ c) (1 * v + 1 * x)
    → a *ℤ pos v +ℤ a *ℤ pos x ≡ b *ℤ pos w +ℤ c *ℤ pos w
both_level a b c w v x e =
    let f : pos (1 * v + 1 * x) ≡ pos v +ℤ pos x = omega (arith, ints) in
    let g : a *ℤ (pos v +ℤ pos x) ≡ (pos 1 *ℤ b +ℤ pos 1 *ℤ c) *ℤ pos w = rw (sym f) e in
    let l : a *ℤ (pos v +ℤ pos x) ≡ a *ℤ pos v +ℤ a *ℤ pos x = simp monomials (omega (arith, ints)) in
    let r : (pos 1 *ℤ b +ℤ pos 1 *ℤ c) *ℤ pos w ≡ b *ℤ pos w +ℤ c *ℤ pos w = simp monomials (omega (arith, ints)) in
    sym l ∙ g ∙ r

rest_level : (y z u v : ℤ) → y +ℤ z ≡ u +ℤ v → y ≡ u → z ≡ v
rest_level y z u v e f = omega (arith, ints, e, f)

rest_level_back : (y z u v : ℤ) → y +ℤ z ≡ u +ℤ v → z ≡ v → y ≡ u
rest_level_back y z u v e f = omega (arith, ints, e, f)

-- weights of the two other corners
pub record HasDirection (p q r : Point) : Type 0 where
  pub first : ℕ
  pub second : ℕ
  pub some : 0 < first * q.w + second * r.w
  pub differs : DiffersFrom p (mix first q second r)

to_first : (p q r : Point) → 0 < q.w → ¬ (AreLevel p.x p.w q.x q.w) → ¬ (AreLevel p.y p.w q.y q.w) → HasDirection p q r
to_first p q r h a b = record {
  first = 1;
  second = 0;
  some = omega (arith, h);
  differs = record {
    along_x = λ e. a (first_of_two p.x q.x r.x p.w q.w r.w e);
    along_y = λ e. b (first_of_two p.y q.y r.y p.w q.w r.w e);
  };
}

to_second : (p q r : Point) → 0 < r.w → ¬ (AreLevel p.x p.w r.x r.w) → ¬ (AreLevel p.y p.w r.y r.w) → HasDirection p q r
to_second p q r h a b = record {
  first = 0;
  second = 1;
  some = omega (arith, h);
  differs = record {
    along_x = λ e. a (second_of_two p.x q.x r.x p.w q.w r.w e);
    along_y = λ e. b (second_of_two p.y q.y r.y p.w q.w r.w e);
  };
}

-- if the first is level along one axis and the second along the other
to_both_x : (p q r : Point) → 0 < q.w → AreLevel p.x p.w q.x q.w → ¬ (AreLevel p.x p.w r.x r.w)
    → AreLevel p.y p.w r.y r.w → ¬ (AreLevel p.y p.w q.y q.w) → HasDirection p q r
to_both_x p q r h a b c d = record {
  first = 1;
  second = 1;
  some = omega (arith, h);
  differs = record {
    along_x = λ e. b (rest_level _ _ _ _ (both_level p.x q.x r.x p.w q.w r.w e) a);
    along_y = λ e. d (rest_level_back _ _ _ _ (both_level p.y q.y r.y p.w q.w r.w e) c);
  };
}

to_both_y : (p q r : Point) → 0 < q.w → AreLevel p.y p.w q.y q.w → ¬ (AreLevel p.y p.w r.y r.w)
    → AreLevel p.x p.w r.x r.w → ¬ (AreLevel p.x p.w q.x q.w) → HasDirection p q r
to_both_y p q r h a b c d = record {
  first = 1;
  second = 1;
  some = omega (arith, h);
  differs = record {
    along_x = λ e. d (rest_level_back _ _ _ _ (both_level p.x q.x r.x p.w q.w r.w e) c);
    along_y = λ e. b (rest_level _ _ _ _ (both_level p.y q.y r.y p.w q.w r.w e) a);
  };
}

pub triangle_direction : (p q r : Point) → 0 < p.w → 0 < q.w → 0 < r.w → ¬ (turn p q r ≡ pos 0) → HasDirection p q r
triangle_direction p q r hp hq hr turns =
    choose (level_or_not p.x q.x p.w q.w) (level_or_not p.y q.y p.w q.w) (level_or_not p.x r.x p.w r.w) (level_or_not p.y r.y p.w r.w)
  where
    choose : AreLevel p.x p.w q.x q.w ⊎ ¬ (AreLevel p.x p.w q.x q.w) → AreLevel p.y p.w q.y q.w ⊎ ¬ (AreLevel p.y p.w q.y q.w)
        → AreLevel p.x p.w r.x r.w ⊎ ¬ (AreLevel p.x p.w r.x r.w) → AreLevel p.y p.w r.y r.w ⊎ ¬ (AreLevel p.y p.w r.y r.w)
        → HasDirection p q r
    choose (inl a) (inl b) c d = absurd (turns (flat_same p q r hp a b))
    choose (inr a) (inr b) c d = to_first p q r hq a b
    choose a b (inr c) (inr d) = to_second p q r hr c d
    choose (inl a) (inr b) (inl c) d = absurd (turns (flat_x p q r hp a c))
    choose (inr a) (inl b) c (inl d) = absurd (turns (flat_y p q r hp b d))
    choose (inl a) (inr b) (inr c) (inl d) = to_both_x p q r hq a c d b
    choose (inr a) (inl b) (inl c) (inr d) = to_both_y p q r hq b d c a
