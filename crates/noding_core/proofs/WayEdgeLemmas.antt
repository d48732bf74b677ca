-- On the way from one point to another, an edge is met, or it is below both where neither of its ends is passed.
use Rattle.std.proofs.Common.{◌≡◌, ◌<◌, ◌⊎◌, ℕ, arith, ap, ◌∙◌, sym, true, false, subst, inl, inr}
use Rattle.std.specs.Prelude.{ℤ, pos, ◌-ℤ◌, ◌*ℤ◌, ◌≤ℤ◌, ◌<ℤ◌, nat_abs, int_le, int_lt, Bool, ◌&&◌, not}
use Rattle.std.proofs.lemmas.Int.{ints, by_lt_z}
use Rattle.plane_core.specs.declared.edge.Edge.{Edge}
use Rattle.plane_core.specs.declared.vertex.Vertex.{Vertex}
use Rattle.plane_core.specs.Points.{Point, side, is_below, mix}
use Rattle.plane_core.specs.Figures.{HasLength}
use Rattle.plane_core.proofs.Ring.{monomials}
use Rattle.plane_core.proofs.Signs.{times_not_negative, weak, wide_z}
use Rattle.noding_core.proofs.TestLemmas.{true_le, false_le}
use Rattle.noding_core.proofs.LineLemmas.{IsForward, Rightward, Vertical, on_vertical_up}
use Rattle.noding_core.proofs.FlipLemmas.{flip, is_on-flip, is_below-flip, forward_or_flipped}
use Rattle.noding_core.proofs.RingLemmas.{differ, differ_turned, table}
use Rattle.noding_core.proofs.WayLemmas.{way_first, way_last, IsMet, InColumns, same_or_met, over, over_way, over_column, is_under, IsBetween, under_first, under_second, by_signs, when_true, when_false, four, spanned, column_later}

-- the vertex is in the columns after p, up to q, and below the way
abbrev pub is_passed : Point → Point → Vertex → Bool
is_passed p q v = (not (int_le (pos p.w *ℤ v.x) p.x) && int_le (pos q.w *ℤ v.x) q.x) && is_under p q v

less_back : (w a b x : ℤ) → pos 0 <ℤ w → (w *ℤ a) ≤ℤ x → x <ℤ (w *ℤ b) → a <ℤ b
less_back w a b x hw h k = by_lt_z a b (λ yes. yes) (λ no. absurd (wrong _ _ _ _ (ring w a b) (times_not_negative w (a -ℤ b) (weak _ _ hw) (rest a b no)) h k))
  where
    rest : (a b : ℤ) → b ≤ℤ a → pos 0 ≤ℤ (a -ℤ b)
    rest a b h = omega (arith, ints)

    ring : (w a b : ℤ) → w *ℤ (a -ℤ b) ≡ w *ℤ a -ℤ w *ℤ b
    ring w a b = simp monomials (omega (arith, ints))

    wrong : (z m n x : ℤ) → z ≡ m -ℤ n → pos 0 ≤ℤ z → m ≤ℤ x → x <ℤ n → ⊥
    wrong z m n x e h k l = omega (arith, ints)

no_longer : (w a b x : ℤ) → pos 0 <ℤ w → a ≤ℤ b → (w *ℤ b) ≤ℤ x → (w *ℤ a) ≤ℤ x
no_longer w a b x hw h k = plain _ _ _ _ (ring w a b) (times_not_negative w (b -ℤ a) (weak _ _ hw) (rest a b h)) k
  where
    rest : (a b : ℤ) → a ≤ℤ b → pos 0 ≤ℤ (b -ℤ a)
    rest a b h = omega (arith, ints)

    ring : (w a b : ℤ) → w *ℤ (b -ℤ a) ≡ w *ℤ b -ℤ w *ℤ a
    ring w a b = simp monomials (omega (arith, ints))

    plain : (z m n x : ℤ) → z ≡ m -ℤ n → pos 0 ≤ℤ z → m ≤ℤ x → n ≤ℤ x
    plain z m n x e h k = omega (arith, ints)

tested_le : (m n : ℤ) → m ≤ℤ n → int_le m n ≡ true
tested_le m n h = grind (arith, ints)

forward_columns : (f : Edge) → IsForward f → f.a.x ≤ℤ f.b.x
forward_columns f (Rightward h) = weak _ _ h
forward_columns f (Vertical h k) = alike _ _ h
  where
    alike : (m n : ℤ) → m ≡ n → m ≤ℤ n
    alike m n h = omega (arith, ints)

module _ (p q : Point) (wide_p : 0 < p.w) (wide_q : 0 < q.w) (ahead : (p.x *ℤ pos q.w) ≤ℤ (q.x *ℤ pos p.w)) where
  module _ (f : Edge) where
    abbrev a_p : Bool
    a_p = int_le (pos p.w *ℤ f.a.x) p.x

    abbrev b_p : Bool
    b_p = int_le (pos p.w *ℤ f.b.x) p.x

    abbrev a_q : Bool
    a_q = int_le (pos q.w *ℤ f.a.x) q.x

    abbrev b_q : Bool
    b_q = int_le (pos q.w *ℤ f.b.x) q.x

    above_p : a_p ≡ true → b_p ≡ false → InColumns f p
    above_p h k = record { from = true_le _ _ h; to = weak _ _ (false_le _ _ k) }

    above_q : a_q ≡ true → b_q ≡ false → InColumns f q
    above_q h k = record { from = true_le _ _ h; to = weak _ _ (false_le _ _ k) }

    right_p : a_p ≡ true → b_p ≡ false → f.a.x <ℤ f.b.x
    right_p h k = less_back (pos p.w) f.a.x f.b.x p.x (wide_z p.w wide_p) (true_le _ _ h) (false_le _ _ k)

    right_q : a_q ≡ true → b_q ≡ false → f.a.x <ℤ f.b.x
    right_q h k = less_back (pos q.w) f.a.x f.b.x q.x (wide_z q.w wide_q) (true_le _ _ h) (false_le _ _ k)

    first_between : a_p ≡ false → a_q ≡ true → IsBetween p q f.a
    first_between h k = record { after = false_le _ _ h; to = true_le _ _ k }

    second_between : b_p ≡ false → b_q ≡ true → IsBetween p q f.b
    second_between h k = record { after = false_le _ _ h; to = true_le _ _ k }

    at_first : f.a.x <ℤ f.b.x → IsBetween p q f.a → InColumns f (over p q f.a)
    at_first right is = plain (over p q f.a) (over_column p q f.a is)
      where
        plain : (z : Point) → z.x ≡ pos z.w *ℤ f.a.x → InColumns f z
        plain z h = record { from = alike _ _ (sym h); to = subst (λ (x : ℤ). x ≤ℤ (pos z.w *ℤ f.b.x)) (sym h) (times (pos z.w) f.a.x f.b.x (not_negative z.w) (weak _ _ right)) }
          where
            alike : (m n : ℤ) → m ≡ n → m ≤ℤ n
            alike m n h = omega (arith, ints)

            not_negative : (n : ℕ) → pos 0 ≤ℤ pos n
            not_negative n = omega (arith, ints)

            times : (w a b : ℤ) → pos 0 ≤ℤ w → a ≤ℤ b → (w *ℤ a) ≤ℤ (w *ℤ b)
            times w a b hw h = le_from (w *ℤ (b -ℤ a)) _ _ (simp monomials (omega (arith, ints))) (times_not_negative w (b -ℤ a) hw (omega (arith, ints)))
              where
                le_from : (z m n : ℤ) → z ≡ n -ℤ m → pos 0 ≤ℤ z → m ≤ℤ n
                le_from z m n e h = omega (arith, ints)

    at_second : f.a.x <ℤ f.b.x → IsBetween p q f.b → InColumns f (over p q f.b)
    at_second right is = plain (over p q f.b) (over_column p q f.b is)
      where
        plain : (z : Point) → z.x ≡ pos z.w *ℤ f.b.x → InColumns f z
        plain z h = record { from = subst (λ (x : ℤ). (pos z.w *ℤ f.a.x) ≤ℤ x) (sym h) (times (pos z.w) f.a.x f.b.x (not_negative z.w) (weak _ _ right)); to = alike _ _ h }
          where
            alike : (m n : ℤ) → m ≡ n → m ≤ℤ n
            alike m n h = omega (arith, ints)

            not_negative : (n : ℕ) → pos 0 ≤ℤ pos n
            not_negative n = omega (arith, ints)

            times : (w a b : ℤ) → pos 0 ≤ℤ w → a ≤ℤ b → (w *ℤ a) ≤ℤ (w *ℤ b)
            times w a b hw h = le_from (w *ℤ (b -ℤ a)) _ _ (simp monomials (omega (arith, ints))) (times_not_negative w (b -ℤ a) hw (omega (arith, ints)))
              where
                le_from : (z m n : ℤ) → z ≡ n -ℤ m → pos 0 ≤ℤ z → m ≤ℤ n
                le_from z m n e h = omega (arith, ints)

    both_columns : IsMet f p q ⊎ (a_p ≡ true → b_p ≡ false → a_q ≡ true → b_q ≡ false → int_lt (pos 0) (side f p) ≡ int_lt (pos 0) (side f q))
    both_columns = when_true a_p (λ h. when_false b_p (λ k. when_true a_q (λ l. when_false b_q (λ m.
        same_or_met f p q p q (right_p h k) (way_first p q) (way_last p q) (above_p h k) (above_q l m)))))

    last_end : IsMet f p q ⊎ (a_p ≡ true → b_p ≡ false → b_q ≡ true → int_lt (pos 0) (side f p) ≡ is_under p q f.b)
    last_end = when_true a_p (λ h. when_false b_p (λ k. when_true b_q (λ l.
        elim (same_or_met f p q p (over p q f.b) (right_p h k) (way_first p q) (over_way p q f.b (second_between k l)) (above_p h k) (at_second (right_p h k) (second_between k l))) [
          | inl met ↦ inl met
          | inr e ↦ inr (e ∙ under_second p q f (right_p h k) (second_between k l))
        ])))

    first_end : IsMet f p q ⊎ (a_p ≡ false → a_q ≡ true → b_q ≡ false → is_under p q f.a ≡ int_lt (pos 0) (side f q))
    first_end = when_false a_p (λ h. when_true a_q (λ k. when_false b_q (λ l.
        elim (same_or_met f p q (over p q f.a) q (right_q k l) (over_way p q f.a (first_between h k)) (way_last p q) (at_first (right_q k l) (first_between h k)) (above_q k l)) [
          | inl met ↦ inl met
          | inr e ↦ inr (sym (under_first p q f (right_q k l) (first_between h k)) ∙ e)
        ])))

    -- a vertical edge
    upright : f.a.x ≡ f.b.x → f.a.y <ℤ f.b.y → IsBetween p q f.a → IsMet f p q ⊎ (is_under p q f.a ≡ is_under p q f.b)
    upright same up is = elim (by_signs ((over p q f.a).y -ℤ pos (over p q f.a).w *ℤ f.a.y) ((over p q f.a).y -ℤ pos (over p q f.a).w *ℤ f.b.y) met (λ h k. absurd (wrong (pos (over p q f.a).w) (over p q f.a).y f.a.y f.b.y (not_negative (over p q f.a).w) up h k))) [
      | inl m ↦ inl m
      | inr e ↦ inr (e ∙ ap (λ (x : ℤ). int_lt (pos 0)
          ((mix (nat_abs (q.x -ℤ pos q.w *ℤ x)) p (nat_abs (pos p.w *ℤ x -ℤ p.x)) q).y -ℤ pos (mix (nat_abs (q.x -ℤ pos q.w *ℤ x)) p (nat_abs (pos p.w *ℤ x -ℤ p.x)) q).w *ℤ f.b.y)) same)
    ]
      where
        not_negative : (n : ℕ) → pos 0 ≤ℤ pos n
        not_negative n = omega (arith, ints)

        low : (m n : ℤ) → pos 0 <ℤ (m -ℤ n) → n ≤ℤ m
        low m n h = omega (arith, ints)

        high : (m n : ℤ) → (m -ℤ n) ≤ℤ pos 0 → m ≤ℤ n
        high m n h = omega (arith, ints)

        met : pos 0 <ℤ ((over p q f.a).y -ℤ pos (over p q f.a).w *ℤ f.a.y) → ((over p q f.a).y -ℤ pos (over p q f.a).w *ℤ f.b.y) ≤ℤ pos 0 → IsMet f p q
        met h k = record {
          point = over p q f.a;
          way = over_way p q f.a is;
          on = on_vertical_up f (over p q f.a) same (over_column p q f.a is) (low (over p q f.a).y (pos (over p q f.a).w *ℤ f.a.y) h) (high (over p q f.a).y (pos (over p q f.a).w *ℤ f.b.y) k);
        }

        wrong : (w y a b : ℤ) → pos 0 ≤ℤ w → a <ℤ b → pos 0 <ℤ (y -ℤ w *ℤ b) → (y -ℤ w *ℤ a) ≤ℤ pos 0 → ⊥
        wrong w y a b hw h k l = plain _ _ _ y (ring w a b) (times_not_negative w (b -ℤ a) hw (rest a b h)) k l
          where
            rest : (a b : ℤ) → a <ℤ b → pos 0 ≤ℤ (b -ℤ a)
            rest a b h = omega (arith, ints)

            ring : (w a b : ℤ) → w *ℤ (b -ℤ a) ≡ w *ℤ b -ℤ w *ℤ a
            ring w a b = simp monomials (omega (arith, ints))

            plain : (z m n y : ℤ) → z ≡ m -ℤ n → pos 0 ≤ℤ z → pos 0 <ℤ (y -ℤ m) → (y -ℤ n) ≤ℤ pos 0 → ⊥
            plain z m n y e h k l = omega (arith, ints)

    ends_between : IsForward f → IsBetween p q f.a → IsBetween p q f.b → IsMet f p q ⊎ (is_under p q f.a ≡ is_under p q f.b)
    ends_between (Rightward right) is also =
        elim (same_or_met f p q (over p q f.a) (over p q f.b) right (over_way p q f.a is) (over_way p q f.b also) (at_first right is) (at_second right also)) [
          | inl met ↦ inl met
          | inr e ↦ inr (sym (under_first p q f right is) ∙ e ∙ under_second p q f right also)
        ]
    ends_between (Vertical same up) is also = upright same up is

    both_ends : IsForward f → IsMet f p q ⊎ (a_p ≡ false → a_q ≡ true → b_p ≡ false → b_q ≡ true → is_under p q f.a ≡ is_under p q f.b)
    both_ends forward = when_false a_p (λ h. when_true a_q (λ k. when_false b_p (λ l. when_true b_q (λ m. ends_between forward (first_between h k) (second_between l m)))))

    way_forward : IsForward f → IsMet f p q ⊎ (differ (is_below f p) (is_below f q) ≡ differ (is_passed p q f.a) (is_passed p q f.b))
    way_forward forward = four both_columns last_end first_end (both_ends forward) (λ e5 e6 e7 e8.
        ap (λ (t : Bool). differ t (is_below f q)) (spanned (pos p.w *ℤ f.a.x) (pos p.w *ℤ f.b.x) p.x (int_lt (pos 0) (side f p)) (int_lt (side f p) (pos 0)) (columns p wide_p))
        ∙ ap (differ ((a_p && not b_p) && int_lt (pos 0) (side f p))) (spanned (pos q.w *ℤ f.a.x) (pos q.w *ℤ f.b.x) q.x (int_lt (pos 0) (side f q)) (int_lt (side f q) (pos 0)) (columns q wide_q))
        ∙ table a_p b_p a_q b_q (int_lt (pos 0) (side f p)) (int_lt (pos 0) (side f q)) (is_under p q f.a) (is_under p q f.b)
        (λ h. tested_le _ _ (no_longer (pos p.w) f.a.x f.b.x p.x (wide_z p.w wide_p) (forward_columns f forward) (true_le _ _ h)))
        (λ h. tested_le _ _ (no_longer (pos q.w) f.a.x f.b.x q.x (wide_z q.w wide_q) (forward_columns f forward) (true_le _ _ h)))
        (λ h. tested_le _ _ (column_later (pos p.w) (pos q.w) f.a.x p.x q.x (wide_z p.w wide_p) (wide_z q.w wide_q) ahead (true_le _ _ h)))
        (λ h. tested_le _ _ (column_later (pos p.w) (pos q.w) f.b.x p.x q.x (wide_z p.w wide_p) (wide_z q.w wide_q) ahead (true_le _ _ h)))
        e5 e6 e7 e8)
      where
        columns : (z : Point) → 0 < z.w → (pos z.w *ℤ f.a.x) ≤ℤ (pos z.w *ℤ f.b.x)
        columns z wide = no_longer (pos z.w) f.a.x f.b.x (pos z.w *ℤ f.b.x) (wide_z z.w wide) (forward_columns f forward) (alike (pos z.w *ℤ f.b.x))
          where
            alike : (m : ℤ) → m ≤ℤ m
            alike m = omega (arith, ints)

  pub way_edge : (f : Edge) → HasLength f → IsMet f p q ⊎ (differ (is_below f p) (is_below f q) ≡ differ (is_passed p q f.a) (is_passed p q f.b))
  way_edge f long = elim (forward_or_flipped f long) [
    | inl forward ↦ way_forward f forward
    | inr back ↦ elim (way_forward (flip f) back) [
      | inl met ↦ inl (record { point = met.point; way = met.way; on = sym (is_on-flip f met.point) ∙ met.on })
      | inr e ↦ inr (ap (λ (t : Bool). differ t (is_below f q)) (sym (is_below-flip f p)) ∙ ap (differ (is_below (flip f) p)) (sym (is_below-flip f q)) ∙ e ∙ differ_turned (is_passed p q f.b) (is_passed p q f.a))
    ]
  ]
