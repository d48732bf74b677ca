-- Points on the lines of edges: where two lines that aren't parallel meet, and the points that two
-- edges on one line share.
use Rattle.std.proofs.Common.{◌≡◌, ◌<◌, true, arith, refl, sym, ap, ◌∙◌}
use Rattle.std.specs.Prelude.{ℕ, ℤ, pos, neg_ℤ, ◌-ℤ◌, ◌*ℤ◌, ◌≤ℤ◌, ◌<ℤ◌, int_le, nat_abs, Bool, ◌&&◌, ◌||◌}
use Rattle.std.specs.Ordering.{int_eq}
use Rattle.std.proofs.lemmas.Int.{ints, by_lt_z}
use Rattle.plane_core.specs.declared.vertex.Vertex.{Vertex}
use Rattle.plane_core.specs.declared.edge.Edge.{Edge}
use Rattle.plane_core.specs.Points.{Point, at, side, turn_of, run, rise, is_on, is_at, is_between, IsSamePlace}
use Rattle.plane_core.specs.Meetings.{divided}
use Rattle.plane_core.proofs.Ring.{monomials}
use Rattle.plane_core.proofs.Signs.{wide_z}
use Rattle.plane_core.proofs.HeldLemmas.{abs_positive}
use Rattle.plane_core.proofs.ScaleLemmas.{less_scaled}
use Rattle.plane_core.proofs.FormLemmas.{by_zero, no_zero_divisor}
use Rattle.plane_core.proofs.LevelLemmas.{level_test}
use Rattle.plane_core.proofs.CheckLemmas.{and_first, and_second}
use Rattle.edge_index_core.proofs.BetweenLemmas.{IsIn, Up, Down, scaled_in}

pub zero_factor : (t x : ℤ) → ¬ (t ≡ pos 0) → t *ℤ x ≡ pos 0 → x ≡ pos 0
zero_factor t x some h = by_zero x (λ k. absurd (no_zero_divisor t x some k h)) (λ k. k)

eq_true : (m n : ℤ) → m ≡ n → int_eq m n ≡ true
eq_true m n h = grind (arith, ints)

true_eq : (m n : ℤ) → int_eq m n ≡ true → m ≡ n
true_eq m n h = grind (arith, ints)

-- a vertex at a point
pub at_true : (v : Vertex) (p : Point) → p.x ≡ pos p.w *ℤ v.x → p.y ≡ pos p.w *ℤ v.y → is_at v p ≡ true
at_true v p h k = rw (eq_true p.x (pos p.w *ℤ v.x) h, eq_true p.y (pos p.w *ℤ v.y) k) refl

pub at_x : (v : Vertex) (p : Point) → is_at v p ≡ true → p.x ≡ pos p.w *ℤ v.x
at_x v p h = true_eq _ _ (and_first (int_eq p.x (pos p.w *ℤ v.x)) _ h)

pub at_y : (v : Vertex) (p : Point) → is_at v p ≡ true → p.y ≡ pos p.w *ℤ v.y
at_y v p h = true_eq _ _ (and_second (int_eq p.x (pos p.w *ℤ v.x)) _ h)

pub same_at : (v : Vertex) (p : Point) → IsSamePlace p (at v) → is_at v p ≡ true
same_at v p h = at_true v p (plain p.x v.x (pos p.w) h.0) (plain p.y v.y (pos p.w) h.1)
  where
    plain : (z c w : ℤ) → z *ℤ pos 1 ≡ c *ℤ w → z ≡ w *ℤ c
    plain z c w h = let e : c *ℤ w ≡ w *ℤ c = simp monomials in omega (arith, ints)

-- the side of a vertex at a point
pub at_zero : (f : Edge) (v : Vertex) (p : Point) → 0 < p.w → is_at v p ≡ true → side f p ≡ pos 0 → side f (at v) ≡ pos 0
at_zero f v p wide h level =
    zero_factor (pos p.w) _ (some p.w wide) (sym (plain (run f) (rise f) f.a.x f.a.y v.x v.y p.x p.y (pos p.w) (at_x v p h) (at_y v p h)) ∙ level)
  where
    some : (w : ℕ) → 0 < w → ¬ (pos w ≡ pos 0)
    some w h k = omega (arith, ints)

    plain : (R D cx cy vx vy x y w : ℤ) → x ≡ w *ℤ vx → y ≡ w *ℤ vy
        → R *ℤ (y -ℤ w *ℤ cy) -ℤ D *ℤ (x -ℤ w *ℤ cx) ≡ w *ℤ (R *ℤ (vy -ℤ pos 1 *ℤ cy) -ℤ D *ℤ (vx -ℤ pos 1 *ℤ cx))
    plain R D cx cy vx vy x y w h k = rw (h, k) (simp monomials (omega (arith, ints)))

-- both ends are on an edge's line
pub first_level : (e : Edge) → side e (at e.a) ≡ pos 0
first_level e = plain (run e) (rise e) e.a.x e.a.y
  where
    plain : (r d x y : ℤ) → r *ℤ (y -ℤ pos 1 *ℤ y) -ℤ d *ℤ (x -ℤ pos 1 *ℤ x) ≡ pos 0
    plain r d x y = simp monomials (omega (arith, ints))

pub last_level : (e : Edge) → side e (at e.b) ≡ pos 0
last_level e = plain e.a.x e.a.y e.b.x e.b.y
  where
    plain : (ax ay bx by : ℤ) → (bx -ℤ ax) *ℤ (by -ℤ pos 1 *ℤ ay) -ℤ (by -ℤ ay) *ℤ (bx -ℤ pos 1 *ℤ ax) ≡ pos 0
    plain ax ay bx by = simp monomials (omega (arith, ints))

-- over plain numbers: two points on a line of run r and rise d
ways : (r d a b x y w k l m : ℤ) → r *ℤ (y -ℤ w *ℤ b) -ℤ d *ℤ (x -ℤ w *ℤ a) ≡ pos 0 → r *ℤ (l -ℤ m *ℤ b) -ℤ d *ℤ (k -ℤ m *ℤ a) ≡ pos 0
    → r *ℤ (y *ℤ m -ℤ l *ℤ w) ≡ d *ℤ (x *ℤ m -ℤ k *ℤ w)
ways r d a b x y w k l m h g =
    let e : r *ℤ (y *ℤ m -ℤ l *ℤ w) -ℤ d *ℤ (x *ℤ m -ℤ k *ℤ w) ≡ m *ℤ (r *ℤ (y -ℤ w *ℤ b) -ℤ d *ℤ (x -ℤ w *ℤ a)) -ℤ w *ℤ (r *ℤ (l -ℤ m *ℤ b) -ℤ d *ℤ (k -ℤ m *ℤ a)) = simp monomials (omega (arith, ints)) in
    equal _ _ (e ∙ rw (h, g) none)
  where
    none : m *ℤ pos 0 -ℤ w *ℤ pos 0 ≡ pos 0
    none = simp monomials (omega (arith, ints))

    equal : (n q : ℤ) → n -ℤ q ≡ pos 0 → n ≡ q
    equal n q h = omega (arith, ints)

-- how far two points on two lines lie apart
turned_x : (r d R D X Y : ℤ) → r *ℤ Y ≡ d *ℤ X → R *ℤ Y ≡ D *ℤ X → (r *ℤ D -ℤ R *ℤ d) *ℤ X ≡ pos 0
turned_x r d R D X Y h k = first ∙ ap (λ (z : ℤ). r *ℤ z -ℤ R *ℤ (d *ℤ X)) (sym k) ∙ ap (λ (z : ℤ). r *ℤ (R *ℤ Y) -ℤ R *ℤ z) (sym h) ∙ last
  where
    first : (r *ℤ D -ℤ R *ℤ d) *ℤ X ≡ r *ℤ (D *ℤ X) -ℤ R *ℤ (d *ℤ X)
    first = simp monomials (omega (arith, ints))

    last : r *ℤ (R *ℤ Y) -ℤ R *ℤ (r *ℤ Y) ≡ pos 0
    last = simp monomials (omega (arith, ints))

turned_y : (r d R D X Y : ℤ) → r *ℤ Y ≡ d *ℤ X → R *ℤ Y ≡ D *ℤ X → (r *ℤ D -ℤ R *ℤ d) *ℤ Y ≡ pos 0
turned_y r d R D X Y h k = first ∙ ap (λ (z : ℤ). D *ℤ z -ℤ d *ℤ (R *ℤ Y)) h ∙ ap (λ (z : ℤ). D *ℤ (d *ℤ X) -ℤ d *ℤ z) k ∙ last
  where
    first : (r *ℤ D -ℤ R *ℤ d) *ℤ Y ≡ D *ℤ (r *ℤ Y) -ℤ d *ℤ (R *ℤ Y)
    first = simp monomials (omega (arith, ints))

    last : D *ℤ (d *ℤ X) -ℤ d *ℤ (D *ℤ X) ≡ pos 0
    last = simp monomials (omega (arith, ints))

-- lines that aren't parallel share one place
pub one_place : (e f : Edge) (p q : Point) → ¬ (turn_of e f ≡ pos 0) → side e p ≡ pos 0 → side f p ≡ pos 0 → side e q ≡ pos 0 → side f q ≡ pos 0 → IsSamePlace p q
one_place e f p q turning ep fp eq fq =
    let h = ways (run e) (rise e) e.a.x e.a.y p.x p.y (pos p.w) q.x q.y (pos q.w) ep eq in
    let k = ways (run f) (rise f) f.a.x f.a.y p.x p.y (pos p.w) q.x q.y (pos q.w) fp fq in (
      equal _ _ (zero_factor (turn_of e f) _ turning (turned_x (run e) (rise e) (run f) (rise f) _ _ h k)),
      equal _ _ (zero_factor (turn_of e f) _ turning (turned_y (run e) (rise e) (run f) (rise f) _ _ h k)),
    )
  where
    equal : (n m : ℤ) → n -ℤ m ≡ pos 0 → n ≡ m
    equal n m h = omega (arith, ints)

-- over plain numbers: a point on the line of an edge that runs along the first axis, and between its
-- ends there, is between them along the second axis
beside : (w : ℕ) (ax bx ay by x y : ℤ) → 0 < w → ¬ (ax ≡ bx)
    → (bx -ℤ ax) *ℤ (y -ℤ pos w *ℤ ay) -ℤ (by -ℤ ay) *ℤ (x -ℤ pos w *ℤ ax) ≡ pos 0
    → is_between ax bx w x ≡ true → is_between ay by w y ≡ true
beside w ax bx ay by x y wide long level h = by_lt_z ax bx
    (λ up. forth up (scaled_in ax bx x w h))
    (λ not_up. by_lt_z bx ax (λ down. back down (scaled_in ax bx x w h)) (λ no. absurd (long (same ax bx not_up no))))
  where
    same : (m n : ℤ) → n ≤ℤ m → m ≤ℤ n → m ≡ n
    same m n h k = omega (arith, ints)

    clash : (m n z : ℤ) → m <ℤ n → n ≤ℤ z → z ≤ℤ m → ⊥
    clash m n z h k l = omega (arith, ints)

    way : (m n : ℤ) → m <ℤ n → pos 0 <ℤ (n -ℤ m)
    way m n h = omega (arith, ints)

    forth : ax <ℤ bx → IsIn (pos w *ℤ ax) (pos w *ℤ bx) x → is_between ay by w y ≡ true
    forth up (Up l m) = level_test (pos w) ax bx ay by x y l m (way ax bx up) level
    forth up (Down l m) = absurd (clash _ _ x (less_scaled (pos w) ax bx (wide_z w wide) up) l m)

    turned : (w ax bx ay by x y : ℤ) → (ax -ℤ bx) *ℤ (y -ℤ w *ℤ by) -ℤ (ay -ℤ by) *ℤ (x -ℤ w *ℤ bx) ≡ neg_ℤ ((bx -ℤ ax) *ℤ (y -ℤ w *ℤ ay) -ℤ (by -ℤ ay) *ℤ (x -ℤ w *ℤ ax))
    turned w ax bx ay by x y = simp monomials (omega (arith, ints))

    either_way : (a b c d : Bool) → (a && b || c && d) ≡ true → (c && d || a && b) ≡ true
    either_way a b c d h = grind (arith, ints)

    back : bx <ℤ ax → IsIn (pos w *ℤ ax) (pos w *ℤ bx) x → is_between ay by w y ≡ true
    back down (Up l m) = absurd (clash _ _ x (less_scaled (pos w) bx ax (wide_z w wide) down) l m)
    back down (Down l m) = either_way (int_le (pos w *ℤ by) y) (int_le y (pos w *ℤ ay)) (int_le (pos w *ℤ ay) y) (int_le y (pos w *ℤ by))
        (level_test (pos w) bx ax by ay x y l m (way bx ax down) (turned (pos w) ax bx ay by x y ∙ ap neg_ℤ level))

all_three : (a b c : Bool) → a ≡ true → b ≡ true → c ≡ true → (a && b && c) ≡ true
all_three a b c h k l = rw (h, k, l) refl

-- a point on an edge's line, and between its ends along an axis on which they differ, is on the edge
pub on_by_x : (f : Edge) (p : Point) → 0 < p.w → ¬ (f.a.x ≡ f.b.x) → side f p ≡ pos 0 → is_between f.a.x f.b.x p.w p.x ≡ true → is_on f p ≡ true
on_by_x f p wide long level h =
    all_three _ _ _ (eq_true (side f p) (pos 0) level) h (beside p.w f.a.x f.b.x f.a.y f.b.y p.x p.y wide long level h)

pub on_by_y : (f : Edge) (p : Point) → 0 < p.w → ¬ (f.a.y ≡ f.b.y) → side f p ≡ pos 0 → is_between f.a.y f.b.y p.w p.y ≡ true → is_on f p ≡ true
on_by_y f p wide long level h =
    all_three _ _ _ (eq_true (side f p) (pos 0) level)
    (beside p.w f.a.y f.b.y f.a.x f.b.x p.y p.x wide long (swapped (run f) (rise f) (p.x -ℤ pos p.w *ℤ f.a.x) (p.y -ℤ pos p.w *ℤ f.a.y) level) h) h
  where
    swapped : (r d u v : ℤ) → r *ℤ v -ℤ d *ℤ u ≡ pos 0 → d *ℤ u -ℤ r *ℤ v ≡ pos 0
    swapped r d u v h = plain (r *ℤ v) (d *ℤ u) h
      where
        plain : (m n : ℤ) → m -ℤ n ≡ pos 0 → n -ℤ m ≡ pos 0
        plain m n h = omega (arith, ints)

-- where a number between two others divides the distance from the one to the other
pub record IsDivision (a b z n w : ℤ) : Type 0 where
  pub from_ : pos 0 ≤ℤ n
  pub to_ : n ≤ℤ w
  pub wide : pos 0 <ℤ w
  pub at_ : w *ℤ a -ℤ n *ℤ (a -ℤ b) ≡ w *ℤ z

pub division : (a b z : ℤ) → ¬ (a ≡ b) → IsIn a b z → (n : ℤ) × (w : ℤ) × IsDivision a b z n w
division a b z long (Up h k) = (z -ℤ a, b -ℤ a, record { from_ = omega (arith, ints); to_ = omega (arith, ints); wide = strict a b z long h k; at_ = ring a b z })
  where
    strict : (a b z : ℤ) → ¬ (a ≡ b) → a ≤ℤ z → z ≤ℤ b → pos 0 <ℤ (b -ℤ a)
    strict a b z long h k = by_lt_z a b (λ l. omega (arith, ints)) (λ l. absurd (long (omega (arith, ints))))

    ring : (a b z : ℤ) → (b -ℤ a) *ℤ a -ℤ (z -ℤ a) *ℤ (a -ℤ b) ≡ (b -ℤ a) *ℤ z
    ring a b z = simp monomials (omega (arith, ints))
division a b z long (Down h k) = (a -ℤ z, a -ℤ b, record { from_ = omega (arith, ints); to_ = omega (arith, ints); wide = strict a b z long h k; at_ = ring a b z })
  where
    strict : (a b z : ℤ) → ¬ (a ≡ b) → b ≤ℤ z → z ≤ℤ a → pos 0 <ℤ (a -ℤ b)
    strict a b z long h k = by_lt_z b a (λ l. omega (arith, ints)) (λ l. absurd (long (omega (arith, ints))))

    ring : (a b z : ℤ) → (a -ℤ b) *ℤ a -ℤ (a -ℤ z) *ℤ (a -ℤ b) ≡ (a -ℤ b) *ℤ z
    ring a b z = simp monomials (omega (arith, ints))

-- a point that divides an edge is on each line on which both ends are
pub divided_level : (e f : Edge) (n w : ℤ) → pos 0 <ℤ w → side f (at e.a) ≡ pos 0 → side f (at e.b) ≡ pos 0 → side f (divided e n w) ≡ pos 0
divided_level e f n w hw first last =
    plain (run f) (rise f) f.a.x f.a.y e.a.x e.a.y e.b.x e.b.y n w (pos (nat_abs w)) (abs_positive w hw)
    ∙ rw (first, last) none
  where
    none : w *ℤ pos 0 -ℤ n *ℤ (pos 0 -ℤ pos 0) ≡ pos 0
    none = simp monomials (omega (arith, ints))

    moved : (a b c n w : ℤ) → (w *ℤ a -ℤ n *ℤ (a -ℤ b)) -ℤ w *ℤ c ≡ w *ℤ (a -ℤ pos 1 *ℤ c) -ℤ n *ℤ ((a -ℤ pos 1 *ℤ c) -ℤ (b -ℤ pos 1 *ℤ c))
    moved a b c n w = simp monomials (omega (arith, ints))

    spread : (R D ax ay bx by n w : ℤ) → R *ℤ (w *ℤ ay -ℤ n *ℤ (ay -ℤ by)) -ℤ D *ℤ (w *ℤ ax -ℤ n *ℤ (ax -ℤ bx))
        ≡ w *ℤ (R *ℤ ay -ℤ D *ℤ ax) -ℤ n *ℤ ((R *ℤ ay -ℤ D *ℤ ax) -ℤ (R *ℤ by -ℤ D *ℤ bx))
    spread R D ax ay bx by n w = simp monomials (omega (arith, ints))

    plain : (R D cx cy ax ay bx by n w v : ℤ) → v ≡ w
        → R *ℤ ((w *ℤ ay -ℤ n *ℤ (ay -ℤ by)) -ℤ v *ℤ cy) -ℤ D *ℤ ((w *ℤ ax -ℤ n *ℤ (ax -ℤ bx)) -ℤ v *ℤ cx)
        ≡ w *ℤ (R *ℤ (ay -ℤ pos 1 *ℤ cy) -ℤ D *ℤ (ax -ℤ pos 1 *ℤ cx))
        -ℤ n *ℤ ((R *ℤ (ay -ℤ pos 1 *ℤ cy) -ℤ D *ℤ (ax -ℤ pos 1 *ℤ cx)) -ℤ (R *ℤ (by -ℤ pos 1 *ℤ cy) -ℤ D *ℤ (bx -ℤ pos 1 *ℤ cx)))
    plain R D cx cy ax ay bx by n w v h = rw (h, moved ay by cy n w, moved ax bx cx n w) (spread R D (ax -ℤ pos 1 *ℤ cx) (ay -ℤ pos 1 *ℤ cy) (bx -ℤ pos 1 *ℤ cx) (by -ℤ pos 1 *ℤ cy) n w)
