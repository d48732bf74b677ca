-- Two edges meet properly if and only if they neither cross inside nor run along each other.
use Rattle.std.proofs.Common.{◌≡◌, ◌<◌, inl, inr, true, false, arith, refl, sym, ap, subst, ◌∙◌}
use Rattle.std.specs.Prelude.{ℕ, ℤ, pos, neg_ℤ, ◌+ℤ◌, ◌-ℤ◌, ◌*ℤ◌, ◌≤ℤ◌, ◌<ℤ◌, nat_abs, Bool, ◌&&◌, ◌||◌, not, IsTrue, ◌↔◌}
use Rattle.std.specs.Ordering.{int_eq}
use Rattle.std.proofs.lemmas.Int.{ints}
use Rattle.plane_core.specs.declared.vertex.Vertex.{Vertex}
use Rattle.plane_core.specs.declared.edge.Edge.{Edge}
use Rattle.plane_core.specs.Points.{Point, at, side, turn_of, run, rise, is_on, is_at, is_between}
use Rattle.plane_core.specs.Crossings.{is_zero_between, is_not_zero, do_cross}
use Rattle.plane_core.specs.Meetings.{divided, IsMeeting}
use Rattle.plane_core.specs.ProperRings.{IsShared, is_end, MeetProperly}
use Rattle.plane_core.proofs.Ring.{monomials}
use Rattle.plane_core.proofs.Signs.{wide_z, times_positive}
use Rattle.plane_core.proofs.HeldLemmas.{abs_positive}
use Rattle.plane_core.proofs.FormLemmas.{by_zero, by_sign}
use Rattle.plane_core.proofs.CrossingLemmas.{crossed, side_last, turn-flip, level_of, along_x_of, along_y_of, meeting_up, meeting_down, divided_on, or_either}
use Rattle.plane_core.proofs.CheckLemmas.{and_first, and_second}
use Rattle.ring_core.specs.PairTests.{are_opposite, share_interval, do_cross_inside, do_run_along}
use Rattle.edge_index_core.proofs.BetweenLemmas.{IsIn, Up, Down, scaled_in, in_scaled, in_times}
use Rattle.ring_core.proofs.IntervalLemmas.{IsCommon, common, at_start, start_of, start_pick}
use Rattle.ring_core.proofs.LineLemmas.{zero_factor, at_true, same_at, at_zero, first_level, last_level, one_place, on_by_x, on_by_y, IsDivision, division, divided_level}

-- numbers on different sides of 0
opposite_between : (a b : ℤ) → are_opposite a b ≡ true → is_zero_between a b ≡ true
opposite_between a b h = grind (arith, ints)

opposite_first : (a b : ℤ) → are_opposite a b ≡ true → ¬ (a ≡ pos 0)
opposite_first a b h k = grind (arith, ints)

opposite_last : (a b : ℤ) → are_opposite a b ≡ true → ¬ (b ≡ pos 0)
opposite_last a b h k = grind (arith, ints)

opposite_differ : (a b t : ℤ) → are_opposite a b ≡ true → b ≡ a -ℤ t → ¬ (t ≡ pos 0)
opposite_differ a b t h e k = grind (arith, ints)

between_opposite : (a b : ℤ) → is_zero_between a b ≡ true → ¬ (a ≡ pos 0) → ¬ (b ≡ pos 0) → are_opposite a b ≡ true
between_opposite a b h k l = grind (arith, ints)

not_zero : (z : ℤ) → ¬ (z ≡ pos 0) → is_not_zero z ≡ true
not_zero z h = grind (arith, ints)

true_or_false : (t : Bool) → t ≡ true → t ≡ false → ⊥
true_or_false t h k = cc

or_left : (a b : Bool) → a ≡ true → (a || b) ≡ true
or_left a b h = rw h refl

or_right : (a b : Bool) → b ≡ true → (a || b) ≡ true
or_right true b h = refl
or_right false b h = h

-- an end of either
first_of : (e f : Edge) (p : Point) → is_at e.a p ≡ true → (is_end e p || is_end f p) ≡ true
first_of e f p h = or_left (is_end e p) (is_end f p) (or_left (is_at e.a p) (is_at e.b p) h)

last_of : (e f : Edge) (p : Point) → is_at e.b p ≡ true → (is_end e p || is_end f p) ≡ true
last_of e f p h = or_left (is_end e p) (is_end f p) (or_right (is_at e.a p) (is_at e.b p) h)

other_first_of : (e f : Edge) (p : Point) → is_at f.a p ≡ true → (is_end e p || is_end f p) ≡ true
other_first_of e f p h = or_right (is_end e p) (is_end f p) (or_left (is_at f.a p) (is_at f.b p) h)

other_last_of : (e f : Edge) (p : Point) → is_at f.b p ≡ true → (is_end e p || is_end f p) ≡ true
other_last_of e f p h = or_right (is_end e p) (is_end f p) (or_right (is_at f.a p) (is_at f.b p) h)

-- edges that cross inside share a point that is an end of neither
turning : (e f : Edge) → do_cross_inside e f ≡ true → ¬ (turn_of e f ≡ pos 0)
turning e f h = opposite_differ _ _ _ (and_first _ _ h) (side_last e f)

crosses : (e f : Edge) → do_cross_inside e f ≡ true → do_cross e f ≡ true
crosses e f h =
    let first = not_zero (turn_of e f) (turning e f h) in
    let second = opposite_between (side f (at e.a)) (side f (at e.b)) (and_first _ _ h) in
    let third = opposite_between (side e (at f.a)) (side e (at f.b)) (and_second (are_opposite (side f (at e.a)) (side f (at e.b))) _ h) in
    rw (first, second, third) refl

wide_abs : (w : ℤ) → pos 0 <ℤ w → 0 < nat_abs w
wide_abs w h = omega (arith, ints)

shared_of : (e f : Edge) (n w : ℤ) → pos 0 <ℤ w → IsMeeting e f (divided e n w) → IsShared e f (divided e n w)
shared_of e f n w hw m = record { wide = wide_abs w hw; first = m.first; second = m.second }

crossing_point : (e f : Edge) → do_cross_inside e f ≡ true → (p : Point) × IsShared e f p
crossing_point e f h =
    by_sign (turn_of e f)
    (λ up. (divided e (side f (at e.a)) (turn_of e f), shared_of e f _ _ up (meeting_up e f (crosses e f h) up)))
    (λ down. (divided e (neg_ℤ (side f (at e.a))) (neg_ℤ (turn_of e f)), shared_of e f _ _ (opposite _ down) (meeting_down e f (crosses e f h) down)))
    (λ none. absurd (turning e f h none))
  where
    opposite : (z : ℤ) → z <ℤ pos 0 → pos 0 <ℤ neg_ℤ z
    opposite z h = omega (arith, ints)

pub crossing_improper : (e f : Edge) → do_cross_inside e f ≡ true → ¬ (MeetProperly e f)
crossing_improper e f h m =
    let c = crossing_point e f h in
    ends c.0 c.1 (m.at_end c.0 c.1)
  where
    first : are_opposite (side f (at e.a)) (side f (at e.b)) ≡ true
    first = and_first _ _ h

    second : are_opposite (side e (at f.a)) (side e (at f.b)) ≡ true
    second = and_second (are_opposite (side f (at e.a)) (side f (at e.b))) _ h

    ends : (p : Point) → IsShared e f p → (is_end e p || is_end f p) ≡ true → ⊥
    ends p s k = elim (or_either (is_end e p) (is_end f p) k) [
      | inl l ↦ elim (or_either (is_at e.a p) (is_at e.b p) l) [
        | inl a ↦ opposite_first (side f (at e.a)) (side f (at e.b)) first (at_zero f e.a p s.wide a (level_of f p s.second))
        | inr b ↦ opposite_last (side f (at e.a)) (side f (at e.b)) first (at_zero f e.b p s.wide b (level_of f p s.second))
      ]
      | inr l ↦ elim (or_either (is_at f.a p) (is_at f.b p) l) [
        | inl a ↦ opposite_first (side e (at f.a)) (side e (at f.b)) second (at_zero e f.a p s.wide a (level_of e p s.first))
        | inr b ↦ opposite_last (side e (at f.a)) (side e (at f.b)) second (at_zero e f.b p s.wide b (level_of e p s.first))
      ]
    ]

-- edges on one line that have an interval in common share two places
record IsSharedAt (e f : Edge) (z : ℤ) (along : Point → ℤ) (p : Point) : Type 0 where
  pub shared : IsShared e f p
  pub at_ : along p ≡ pos p.w *ℤ z

module _ (e f : Edge) (first : side f (at e.a) ≡ pos 0) (last : side f (at e.b) ≡ pos 0) where
  shared_x : (z : ℤ) → ¬ (e.a.x ≡ e.b.x) → ¬ (f.a.x ≡ f.b.x) → IsIn e.a.x e.b.x z → IsIn f.a.x f.b.x z → (p : Point) × IsSharedAt e f z (λ q. q.x) p
  shared_x z e_long f_long in_e in_f =
      let c = division e.a.x e.b.x z e_long in_e in
      let n = c.0 in
      let w = c.1 in
      let d : IsDivision e.a.x e.b.x z n w = c.2 in
      let wide : 0 < nat_abs w = wide_abs w d.wide in
      let at_ : (divided e n w).x ≡ pos (nat_abs w) *ℤ z = d.at_ ∙ ap (λ (k : ℤ). k *ℤ z) (sym (abs_positive w d.wide)) in (
        divided e n w,
        record {
          shared = record {
            wide = wide;
            first = divided_on e n w d.from_ d.to_ d.wide;
            second = on_by_x f (divided e n w) wide f_long (divided_level e f n w d.wide first last)
                (in_scaled f.a.x f.b.x _ (nat_abs w) (subst (IsIn _ _) (sym at_) (in_times f.a.x f.b.x z (pos (nat_abs w)) (wide_z _ wide) in_f)));
          };
          at_ = at_;
        },
      )

  shared_y : (z : ℤ) → ¬ (e.a.y ≡ e.b.y) → ¬ (f.a.y ≡ f.b.y) → IsIn e.a.y e.b.y z → IsIn f.a.y f.b.y z → (p : Point) × IsSharedAt e f z (λ q. q.y) p
  shared_y z e_long f_long in_e in_f =
      let c = division e.a.y e.b.y z e_long in_e in
      let n = c.0 in
      let w = c.1 in
      let d : IsDivision e.a.y e.b.y z n w = c.2 in
      let wide : 0 < nat_abs w = wide_abs w d.wide in
      let at_ : (divided e n w).y ≡ pos (nat_abs w) *ℤ z = d.at_ ∙ ap (λ (k : ℤ). k *ℤ z) (sym (abs_positive w d.wide)) in (
        divided e n w,
        record {
          shared = record {
            wide = wide;
            first = divided_on e n w d.from_ d.to_ d.wide;
            second = on_by_y f (divided e n w) wide f_long (divided_level e f n w d.wide first last)
                (in_scaled f.a.y f.b.y _ (nat_abs w) (subst (IsIn _ _) (sym at_) (in_times f.a.y f.b.y z (pos (nat_abs w)) (wide_z _ wide) in_f)));
          };
          at_ = at_;
        },
      )

-- over plain numbers: points at different numbers along an axis are different places
places_differ : (x y m n v w : ℤ) → pos 0 <ℤ v → pos 0 <ℤ w → x ≡ v *ℤ m → y ≡ w *ℤ n → m <ℤ n → x *ℤ w ≡ y *ℤ v → ⊥
places_differ x y m n v w hv hw ex ey less same =
    clash _ (times_positive (v *ℤ w) (n -ℤ m) (times_positive v w hv hw) (way m n less)) (ring ∙ level _ _ (sym (rw (ex, ey) at same)))
  where
    way : (m n : ℤ) → m <ℤ n → pos 0 <ℤ (n -ℤ m)
    way m n h = omega (arith, ints)

    clash : (z : ℤ) → pos 0 <ℤ z → z ≡ pos 0 → ⊥
    clash z h k = omega (arith, ints)

    level : (k l : ℤ) → k ≡ l → k -ℤ l ≡ pos 0
    level k l h = omega (arith, ints)

    ring : (v *ℤ w) *ℤ (n -ℤ m) ≡ (w *ℤ n) *ℤ v -ℤ (v *ℤ m) *ℤ w
    ring = simp monomials (omega (arith, ints))

pub along_improper : (e f : Edge) → do_run_along e f ≡ true → ¬ (MeetProperly e f)
along_improper e f h m = elim (or_either (share_interval e.a.x e.b.x f.a.x f.b.x) (share_interval e.a.y e.b.y f.a.y f.b.y) overlap) [
  | inl k ↦ by_x (common e.a.x e.b.x f.a.x f.b.x k)
  | inr k ↦ by_y (common e.a.y e.b.y f.a.y f.b.y k)
]
  where
    level : (z : ℤ) → int_eq z (pos 0) ≡ true → z ≡ pos 0
    level z h = grind (arith, ints)

    both : (int_eq (side f (at e.a)) (pos 0) && int_eq (side f (at e.b)) (pos 0)) ≡ true
    both = and_first _ _ h

    first : side f (at e.a) ≡ pos 0
    first = level _ (and_first _ _ both)

    last : side f (at e.b) ≡ pos 0
    last = level _ (and_second (int_eq (side f (at e.a)) (pos 0)) _ both)

    overlap : (share_interval e.a.x e.b.x f.a.x f.b.x || share_interval e.a.y e.b.y f.a.y f.b.y) ≡ true
    overlap = and_second (int_eq (side f (at e.a)) (pos 0) && int_eq (side f (at e.b)) (pos 0)) _ h

    by_x : IsCommon e.a.x e.b.x f.a.x f.b.x → ⊥
    by_x k =
        let s = shared_x e f first last _ k.first_long k.second_long k.first_start k.second_start in
        let t = shared_x e f first last _ k.first_long k.second_long k.first_end k.second_end in
        places_differ s.0.x t.0.x _ _ (pos s.0.w) (pos t.0.w) (wide_z s.0.w s.1.shared.wide) (wide_z t.0.w t.1.shared.wide) s.1.at_ t.1.at_ k.ordered (m.one_place s.0 t.0 s.1.shared t.1.shared).0

    by_y : IsCommon e.a.y e.b.y f.a.y f.b.y → ⊥
    by_y k =
        let s = shared_y e f first last _ k.first_long k.second_long k.first_start k.second_start in
        let t = shared_y e f first last _ k.first_long k.second_long k.first_end k.second_end in
        places_differ s.0.y t.0.y _ _ (pos s.0.w) (pos t.0.w) (wide_z s.0.w s.1.shared.wide) (wide_z t.0.w t.1.shared.wide) s.1.at_ t.1.at_ k.ordered (m.one_place s.0 t.0 s.1.shared t.1.shared).1

-- edges that aren't parallel and don't cross inside meet properly
pub turning_proper : (e f : Edge) → ¬ (turn_of e f ≡ pos 0) → do_cross_inside e f ≡ false → MeetProperly e f
turning_proper e f turns fails = record {
  one_place = λ p q s t. one_place e f p q turns (level_of e p s.first) (level_of f p s.second) (level_of e q t.first) (level_of f q t.second);
  at_end = ends;
}
  where
    back : (d t : ℤ) → t ≡ neg_ℤ d → t ≡ pos 0 → d ≡ pos 0
    back d t h k = omega (arith, ints)

    flipped : ¬ (turn_of f e ≡ pos 0)
    flipped k = turns (back (turn_of e f) (turn_of f e) (turn-flip e f) k)

    ends : (p : Point) → IsShared e f p → (is_end e p || is_end f p) ≡ true
    ends p s =
        let le = level_of e p s.first in
        let lf = level_of f p s.second in
        by_zero (side f (at e.a))
        (λ a. by_zero (side f (at e.b))
        (λ b. by_zero (side e (at f.a))
        (λ c. by_zero (side e (at f.b))
        (λ d. absurd (clash a b c d (crossed e f p s.wide s.first lf turns) (crossed f e p s.wide s.second le flipped)))
        (λ d. other_last_of e f p (same_at f.b p (one_place e f p (at f.b) turns le lf d (last_level f)))))
        (λ c. other_first_of e f p (same_at f.a p (one_place e f p (at f.a) turns le lf c (first_level f)))))
        (λ b. last_of e f p (same_at e.b p (one_place e f p (at e.b) turns le lf (last_level e) b))))
        (λ a. first_of e f p (same_at e.a p (one_place e f p (at e.a) turns le lf (first_level e) a)))
      where
        clash : ¬ (side f (at e.a) ≡ pos 0) → ¬ (side f (at e.b) ≡ pos 0) → ¬ (side e (at f.a) ≡ pos 0) → ¬ (side e (at f.b) ≡ pos 0)
            → is_zero_between (side f (at e.a)) (side f (at e.b)) ≡ true → is_zero_between (side e (at f.a)) (side e (at f.b)) ≡ true → ⊥
        clash a b c d h k =
            let first = between_opposite (side f (at e.a)) (side f (at e.b)) h a b in
            let second = between_opposite (side e (at f.a)) (side e (at f.b)) k c d in
            true_or_false (do_cross_inside e f) (rw (first, second) refl) fails

-- over plain numbers: r and d are an edge's run and rise, R and D another's, u and v the way from the
-- first end of the edge to a point, k the other edge's side of that end times a width
parallel_run : (r d R D u v k : ℤ) → r *ℤ v -ℤ d *ℤ u ≡ pos 0 → r *ℤ D -ℤ R *ℤ d ≡ pos 0 → D *ℤ u -ℤ R *ℤ v ≡ k → r *ℤ k ≡ pos 0
parallel_run r d R D u v k h flat is = ap (λ (z : ℤ). r *ℤ z) (sym is) ∙ ring ∙ rw (flat, h) none
  where
    ring : r *ℤ (D *ℤ u -ℤ R *ℤ v) ≡ (r *ℤ D -ℤ R *ℤ d) *ℤ u -ℤ R *ℤ (r *ℤ v -ℤ d *ℤ u)
    ring = simp monomials (omega (arith, ints))

    none : pos 0 *ℤ u -ℤ R *ℤ pos 0 ≡ pos 0
    none = simp monomials (omega (arith, ints))

parallel_rise : (r d R D u v k : ℤ) → r *ℤ v -ℤ d *ℤ u ≡ pos 0 → r *ℤ D -ℤ R *ℤ d ≡ pos 0 → D *ℤ u -ℤ R *ℤ v ≡ k → d *ℤ k ≡ pos 0
parallel_rise r d R D u v k h flat is = ap (λ (z : ℤ). d *ℤ z) (sym is) ∙ ring ∙ rw (flat, h) none
  where
    ring : d *ℤ (D *ℤ u -ℤ R *ℤ v) ≡ (r *ℤ D -ℤ R *ℤ d) *ℤ v -ℤ D *ℤ (r *ℤ v -ℤ d *ℤ u)
    ring = simp monomials (omega (arith, ints))

    none : pos 0 *ℤ v -ℤ D *ℤ pos 0 ≡ pos 0
    none = simp monomials (omega (arith, ints))

-- a number between two that are one
alone : (a b z : ℤ) (w : ℕ) → b -ℤ a ≡ pos 0 → is_between a b w z ≡ true → z ≡ pos w *ℤ a
alone a b z w e h = plain (subst (λ (c : ℤ). IsIn (pos w *ℤ a) (pos w *ℤ c) z) (same a b e) (scaled_in a b z w h))
  where
    same : (a b : ℤ) → b -ℤ a ≡ pos 0 → b ≡ a
    same a b e = omega (arith, ints)

    meet : (m z : ℤ) → m ≤ℤ z → z ≤ℤ m → z ≡ m
    meet m z h k = omega (arith, ints)

    plain : IsIn (pos w *ℤ a) (pos w *ℤ a) z → z ≡ pos w *ℤ a
    plain (Up h k) = meet _ _ h k
    plain (Down h k) = meet _ _ h k

alone_last : (a b z : ℤ) (w : ℕ) → b -ℤ a ≡ pos 0 → is_between a b w z ≡ true → z ≡ pos w *ℤ b
alone_last a b z w e h = alone a b z w e h ∙ ap (λ (c : ℤ). pos w *ℤ c) (same a b e)
  where
    same : (a b : ℤ) → b -ℤ a ≡ pos 0 → a ≡ b
    same a b e = omega (arith, ints)

-- the point on an edge without length
at_first : (e : Edge) (p : Point) → run e ≡ pos 0 → rise e ≡ pos 0 → is_on e p ≡ true → is_at e.a p ≡ true
at_first e p r d on = at_true e.a p (alone e.a.x e.b.x p.x p.w r (along_x_of e p on)) (alone e.a.y e.b.y p.y p.w d (along_y_of e p on))

-- parallel edges that share a point lie on one line
one_line : (e f : Edge) (p : Point) → turn_of e f ≡ pos 0 → IsShared e f p → side f (at e.a) ≡ pos 0
one_line e f p flat s =
    zero_factor (pos p.w) (side f (at e.a)) (some p.w s.wide)
    (by_zero (run e)
    (λ long. zero_factor (run e) _ long (parallel_run (run e) (rise e) (run f) (rise f) _ _ _ (level_of e p s.first) flat other))
    (λ r. by_zero (rise e)
    (λ long. zero_factor (rise e) _ long (parallel_rise (run e) (rise e) (run f) (rise f) _ _ _ (level_of e p s.first) flat other))
    (λ d. sym other ∙ rw (none _ _ (alone e.a.x e.b.x p.x p.w r (along_x_of e p s.first)), none _ _ (alone e.a.y e.b.y p.y p.w d (along_y_of e p s.first))) (no_way (rise f) (run f)))))
  where
    some : (w : ℕ) → 0 < w → ¬ (pos w ≡ pos 0)
    some w h k = omega (arith, ints)

    none : (m n : ℤ) → m ≡ n → m -ℤ n ≡ pos 0
    none m n h = omega (arith, ints)

    no_way : (D R : ℤ) → D *ℤ pos 0 -ℤ R *ℤ pos 0 ≡ pos 0
    no_way D R = simp monomials (omega (arith, ints))

    shifted : (R D x y w ax ay cx cy : ℤ) → R *ℤ (y -ℤ w *ℤ cy) -ℤ D *ℤ (x -ℤ w *ℤ cx) ≡ pos 0
        → D *ℤ (x -ℤ w *ℤ ax) -ℤ R *ℤ (y -ℤ w *ℤ ay) ≡ w *ℤ (R *ℤ (ay -ℤ pos 1 *ℤ cy) -ℤ D *ℤ (ax -ℤ pos 1 *ℤ cx))
    shifted R D x y w ax ay cx cy h =
        let e : D *ℤ (x -ℤ w *ℤ ax) -ℤ R *ℤ (y -ℤ w *ℤ ay)
        ≡ w *ℤ (R *ℤ (ay -ℤ pos 1 *ℤ cy) -ℤ D *ℤ (ax -ℤ pos 1 *ℤ cx)) -ℤ (R *ℤ (y -ℤ w *ℤ cy) -ℤ D *ℤ (x -ℤ w *ℤ cx)) = simp monomials (omega (arith, ints)) in
        e ∙ ap (λ (z : ℤ). w *ℤ (R *ℤ (ay -ℤ pos 1 *ℤ cy) -ℤ D *ℤ (ax -ℤ pos 1 *ℤ cx)) -ℤ z) h ∙ drop (w *ℤ (R *ℤ (ay -ℤ pos 1 *ℤ cy) -ℤ D *ℤ (ax -ℤ pos 1 *ℤ cx)))
      where
        drop : (m : ℤ) → m -ℤ pos 0 ≡ m
        drop m = omega (arith, ints)

    other : rise f *ℤ (p.x -ℤ pos p.w *ℤ e.a.x) -ℤ run f *ℤ (p.y -ℤ pos p.w *ℤ e.a.y) ≡ pos p.w *ℤ side f (at e.a)
    other = shifted (run f) (rise f) p.x p.y (pos p.w) e.a.x e.a.y f.a.x f.a.y (level_of f p s.second)

-- a point on a slanted line is known by its place along the first axis
at_by_x : (e : Edge) (p : Point) (v : Vertex) → ¬ (run e ≡ pos 0) → side e p ≡ pos 0 → side e (at v) ≡ pos 0 → p.x ≡ pos p.w *ℤ v.x → is_at v p ≡ true
at_by_x e p v long level_p level_v h =
    at_true v p h (equal _ _ (zero_factor (run e) _ long (ring (run e) (rise e) e.a.x e.a.y p.x p.y (pos p.w) v.x v.y ∙ rw (level_p, level_v, none _ _ h) (no_way (pos p.w) (rise e)))))
  where
    none : (m n : ℤ) → m ≡ n → m -ℤ n ≡ pos 0
    none m n h = omega (arith, ints)

    equal : (m n : ℤ) → m -ℤ n ≡ pos 0 → m ≡ n
    equal m n h = omega (arith, ints)

    no_way : (w d : ℤ) → (pos 0 -ℤ w *ℤ pos 0) +ℤ d *ℤ pos 0 ≡ pos 0
    no_way w d = simp monomials (omega (arith, ints))

    ring : (r d a b x y w k l : ℤ) → r *ℤ (y -ℤ w *ℤ l)
        ≡ ((r *ℤ (y -ℤ w *ℤ b) -ℤ d *ℤ (x -ℤ w *ℤ a)) -ℤ w *ℤ (r *ℤ (l -ℤ pos 1 *ℤ b) -ℤ d *ℤ (k -ℤ pos 1 *ℤ a))) +ℤ d *ℤ (x -ℤ w *ℤ k)
    ring r d a b x y w k l = simp monomials (omega (arith, ints))

-- edges on one line that don't run along each other
module _ (e f : Edge) (flat : turn_of e f ≡ pos 0) (not_x : share_interval e.a.x e.b.x f.a.x f.b.x ≡ false) (not_y : share_interval e.a.y e.b.y f.a.y f.b.y ≡ false) where
  x_is : (p : Point) → IsShared e f p → p.x ≡ pos p.w *ℤ start_of e.a.x e.b.x f.a.x f.b.x
  x_is p s = at_start e.a.x e.b.x f.a.x f.b.x p.x (pos p.w) (wide_z p.w s.wide) not_x (scaled_in _ _ _ p.w (along_x_of e p s.first)) (scaled_in _ _ _ p.w (along_x_of f p s.second))

  y_is : (p : Point) → IsShared e f p → p.y ≡ pos p.w *ℤ start_of e.a.y e.b.y f.a.y f.b.y
  y_is p s = at_start e.a.y e.b.y f.a.y f.b.y p.y (pos p.w) (wide_z p.w s.wide) not_y (scaled_in _ _ _ p.w (along_y_of e p s.first)) (scaled_in _ _ _ p.w (along_y_of f p s.second))

  same_spot : (x y v w m : ℤ) → x ≡ v *ℤ m → y ≡ w *ℤ m → x *ℤ w ≡ y *ℤ v
  same_spot x y v w m h k = rw (h, k) (simp monomials)

  slanted : (p : Point) → IsShared e f p → ¬ (run e ≡ pos 0) → ¬ (run f ≡ pos 0) → (is_end e p || is_end f p) ≡ true
  slanted p s r R = elim (start_pick e.a.x e.b.x f.a.x f.b.x) [
    | inl h ↦ elim h [
      | inl k ↦ first_of e f p (at_by_x e p e.a r (level_of e p s.first) (first_level e) (x_is p s ∙ ap (λ (m : ℤ). pos p.w *ℤ m) k))
      | inr k ↦ last_of e f p (at_by_x e p e.b r (level_of e p s.first) (last_level e) (x_is p s ∙ ap (λ (m : ℤ). pos p.w *ℤ m) k))
    ]
    | inr h ↦ elim h [
      | inl k ↦ other_first_of e f p (at_by_x f p f.a R (level_of f p s.second) (first_level f) (x_is p s ∙ ap (λ (m : ℤ). pos p.w *ℤ m) k))
      | inr k ↦ other_last_of e f p (at_by_x f p f.b R (level_of f p s.second) (last_level f) (x_is p s ∙ ap (λ (m : ℤ). pos p.w *ℤ m) k))
    ]
  ]

  vertical : (p : Point) → IsShared e f p → run e ≡ pos 0 → run f ≡ pos 0 → (is_end e p || is_end f p) ≡ true
  vertical p s r R = elim (start_pick e.a.y e.b.y f.a.y f.b.y) [
    | inl h ↦ elim h [
      | inl k ↦ first_of e f p (at_true e.a p (alone e.a.x e.b.x p.x p.w r (along_x_of e p s.first)) (y_is p s ∙ ap (λ (m : ℤ). pos p.w *ℤ m) k))
      | inr k ↦ last_of e f p (at_true e.b p (alone_last e.a.x e.b.x p.x p.w r (along_x_of e p s.first)) (y_is p s ∙ ap (λ (m : ℤ). pos p.w *ℤ m) k))
    ]
    | inr h ↦ elim h [
      | inl k ↦ other_first_of e f p (at_true f.a p (alone f.a.x f.b.x p.x p.w R (along_x_of f p s.second)) (y_is p s ∙ ap (λ (m : ℤ). pos p.w *ℤ m) k))
      | inr k ↦ other_last_of e f p (at_true f.b p (alone_last f.a.x f.b.x p.x p.w R (along_x_of f p s.second)) (y_is p s ∙ ap (λ (m : ℤ). pos p.w *ℤ m) k))
    ]
  ]

  other_flat : ¬ (run e ≡ pos 0) → run f ≡ pos 0 → rise f ≡ pos 0
  other_flat r R = zero_factor (run e) (rise f) r (plain (run e) (rise e) (run f) (rise f) R flat)
    where
      plain : (r d R D : ℤ) → R ≡ pos 0 → r *ℤ D -ℤ R *ℤ d ≡ pos 0 → r *ℤ D ≡ pos 0
      plain r d R D h k = let g : r *ℤ D -ℤ pos 0 *ℤ d ≡ pos 0 = rw h at k in omega (arith, ints)

  own_flat : run e ≡ pos 0 → ¬ (run f ≡ pos 0) → rise e ≡ pos 0
  own_flat r R = zero_factor (run f) (rise e) R (plain (run e) (rise e) (run f) (rise f) r flat)
    where
      plain : (r d R D : ℤ) → r ≡ pos 0 → r *ℤ D -ℤ R *ℤ d ≡ pos 0 → R *ℤ d ≡ pos 0
      plain r d R D h k = let g : pos 0 *ℤ D -ℤ R *ℤ d ≡ pos 0 = rw h at k in omega (arith, ints)

  touching : MeetProperly e f
  touching = record {
    one_place = λ p q s t. (same_spot _ _ (pos p.w) (pos q.w) _ (x_is p s) (x_is q t), same_spot _ _ (pos p.w) (pos q.w) _ (y_is p s) (y_is q t));
    at_end = λ p s.
        by_zero (run e)
        (λ r. by_zero (run f) (λ R. slanted p s r R) (λ R. other_first_of e f p (at_first f p R (other_flat r R) s.second)))
        (λ r. by_zero (run f) (λ R. first_of e f p (at_first e p r (own_flat r R) s.first)) (λ R. vertical p s r R));
  }

pub parallel_proper : (e f : Edge) → turn_of e f ≡ pos 0 → do_run_along e f ≡ false → MeetProperly e f
parallel_proper e f flat fails = by_zero (side f (at e.a))
    (λ off. record {
      one_place = λ p q s t. absurd (off (one_line e f p flat s));
      at_end = λ p s. absurd (off (one_line e f p flat s));
    })
    (λ first.
    let last : side f (at e.b) ≡ pos 0 = side_last e f ∙ rw (first, flat) refl in
    let none = intervals (int_eq (side f (at e.a)) (pos 0)) (int_eq (side f (at e.b)) (pos 0)) _ _ (level _ first) (level _ last) fails in
    touching e f flat none.0 none.1)
  where
    level : (z : ℤ) → z ≡ pos 0 → int_eq z (pos 0) ≡ true
    level z h = rw h refl

    intervals : (a b c d : Bool) → a ≡ true → b ≡ true → (a && b && (c || d)) ≡ false → (c ≡ false) × (d ≡ false)
    intervals true true false false h k l = (refl, refl)
    intervals true true false true h k l = cc
    intervals true true true d h k l = cc
    intervals true false c d h k l = cc
    intervals false b c d h k l = cc

pub proper_test : (e f : Edge) → IsTrue (not (do_cross_inside e f || do_run_along e f)) ↔ MeetProperly e f
proper_test e f = decide (do_cross_inside e f) (do_run_along e f)
    (λ h. crossing_improper e f h) (λ h. along_improper e f h)
    (λ h k. by_zero (turn_of e f) (λ turns. turning_proper e f turns h) (λ flat. parallel_proper e f flat k))
  where
    decide : {P : Type 0} (a b : Bool) → (a ≡ true → ¬ P) → (b ≡ true → ¬ P) → (a ≡ false → b ≡ false → P) → IsTrue (not (a || b)) ↔ P
    decide true b f g h = (λ k. absurd (false_not k), λ k. absurd (f refl k))
      where
        false_not : IsTrue false → ⊥
        false_not k = cc
    decide false true f g h = (λ k. absurd (false_not k), λ k. absurd (g refl k))
      where
        false_not : IsTrue false → ⊥
        false_not k = cc
    decide false false f g h = (λ k. h refl refl, λ k. refl)
