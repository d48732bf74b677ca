-- An edge that has no point of a piece is below all points of the piece in its columns, or below none;
-- and it is below the point over one of its ends just where the piece's line passes over that end.
use Rattle.std.proofs.Common.{◌≡◌, ◌<◌, ◌+◌, inl, sym, ◌∙◌, false, arith}
use Rattle.std.specs.Prelude.{ℤ, ℕ, pos, neg_ℤ, nat_abs, ◌*ℤ◌, ◌-ℤ◌, ◌+ℤ◌, ◌≤ℤ◌, ◌<ℤ◌, int_lt}
use Rattle.std.proofs.lemmas.Int.{ints, by_lt_z}
use Rattle.plane_core.specs.declared.edge.Edge.{Edge}
use Rattle.plane_core.specs.declared.vertex.Vertex.{Vertex}
use Rattle.plane_core.specs.Points.{Point, at, mix, side, is_on, run, rise, IsSamePlace}
use Rattle.plane_core.proofs.Ring.{monomials, times-zero}
use Rattle.plane_core.proofs.Signs.{times_positive, times_not_negative}
use Rattle.plane_core.proofs.ScaleLemmas.{less_scaled, no_less_scaled}
use Rattle.noding_core.proofs.OrderLemmas.{across, wide_z, zero_factor, before_trans, same_before, width_mix}
use Rattle.noding_core.proofs.LineLemmas.{on_from_columns}
use Rattle.noding_core.proofs.TestLemmas.{clash, lt_true, lt_false}
use Rattle.noding_core.proofs.PieceLemmas.{IsInPiece, side-way, side-mix, piece_mix}

weak : (m n : ℤ) → m <ℤ n → m ≤ℤ n
weak m n h = omega (arith, ints)

longer : (a b : ℤ) → a <ℤ b → pos 0 <ℤ (b -ℤ a)
longer a b h = omega (arith, ints)

-- over plain numbers: s parts of a number that isn't below and t of one that isn't
pub mixed_columns : (s t a x w y z m : ℤ) → pos 0 ≤ℤ s → pos 0 ≤ℤ t → m ≡ s *ℤ w +ℤ t *ℤ z → (w *ℤ a) ≤ℤ x → (z *ℤ a) ≤ℤ y → (m *ℤ a) ≤ℤ (s *ℤ x +ℤ t *ℤ y)
mixed_columns s t a x w y z m hs ht e h k =
    let up = times_not_negative s (x -ℤ w *ℤ a) hs (apart _ _ h) in
    let down = times_not_negative t (y -ℤ z *ℤ a) ht (apart _ _ k) in
    let ring : (s *ℤ x +ℤ t *ℤ y) -ℤ m *ℤ a ≡ s *ℤ (x -ℤ w *ℤ a) +ℤ t *ℤ (y -ℤ z *ℤ a) = rw e (simp monomials (omega (arith, ints))) in
    back _ _ _ _ ring up down
  where
    apart : (m n : ℤ) → m ≤ℤ n → pos 0 ≤ℤ (n -ℤ m)
    apart m n h = omega (arith, ints)

    back : (m n k l : ℤ) → n -ℤ m ≡ k +ℤ l → pos 0 ≤ℤ k → pos 0 ≤ℤ l → m ≤ℤ n
    back m n k l e h g = omega (arith, ints)

pub mixed_columns_below : (s t b x w y z m : ℤ) → pos 0 ≤ℤ s → pos 0 ≤ℤ t → m ≡ s *ℤ w +ℤ t *ℤ z → x ≤ℤ (w *ℤ b) → y ≤ℤ (z *ℤ b) → (s *ℤ x +ℤ t *ℤ y) ≤ℤ (m *ℤ b)
mixed_columns_below s t b x w y z m hs ht e h k =
    let up = times_not_negative s (w *ℤ b -ℤ x) hs (apart _ _ h) in
    let down = times_not_negative t (z *ℤ b -ℤ y) ht (apart _ _ k) in
    let ring : m *ℤ b -ℤ (s *ℤ x +ℤ t *ℤ y) ≡ s *ℤ (w *ℤ b -ℤ x) +ℤ t *ℤ (z *ℤ b -ℤ y) = rw e (simp monomials (omega (arith, ints))) in
    back _ _ _ _ ring up down
  where
    apart : (m n : ℤ) → m ≤ℤ n → pos 0 ≤ℤ (n -ℤ m)
    apart m n h = omega (arith, ints)

    back : (m n k l : ℤ) → n -ℤ m ≡ k +ℤ l → pos 0 ≤ℤ k → pos 0 ≤ℤ l → m ≤ℤ n
    back m n k l e h g = omega (arith, ints)

-- the columns from the one end of an edge to the other
pub record IsOver (f : Edge) (p : Point) : Type 0 where
  pub left : (pos p.w *ℤ f.a.x) ≤ℤ p.x
  pub right : p.x ≤ℤ (pos p.w *ℤ f.b.x)

over_mix : (f : Edge) (p q : Point) (s t : ℕ) → IsOver f p → IsOver f q → IsOver f (mix s p t q)
over_mix f p q s t h k = record {
  left = mixed_columns (pos s) (pos t) f.a.x p.x (pos p.w) q.x (pos q.w) _ (up_z s) (up_z t) (width_mix s p t q) h.left k.left;
  right = mixed_columns_below (pos s) (pos t) f.b.x p.x (pos p.w) q.x (pos q.w) _ (up_z s) (up_z t) (width_mix s p t q) h.right k.right;
}
  where
    up_z : (n : ℕ) → pos 0 ≤ℤ pos n
    up_z n = omega (arith, ints)

-- an edge that is below one point of a piece and not below another has a point of the piece between them
some_weight : (m n : ℤ) → pos 0 <ℤ m → 0 < nat_abs n + nat_abs m
some_weight m n h = omega (arith, ints)

balanced : (m n : ℤ) → pos 0 <ℤ m → n ≤ℤ pos 0 → pos (nat_abs n) *ℤ m +ℤ pos (nat_abs m) *ℤ n ≡ pos 0
balanced m n h k =
    let e : pos (nat_abs n) ≡ neg_ℤ n = omega (arith, ints) in
    let f : pos (nat_abs m) ≡ m = omega (arith, ints) in
    rw (e, f) (ring m n)
  where
    ring : (m n : ℤ) → neg_ℤ n *ℤ m +ℤ m *ℤ n ≡ pos 0
    ring m n = simp monomials (omega (arith, ints))

no_change : (e f : Edge) (k l p q : Point) → f.a.x <ℤ f.b.x → ((z : Point) → IsInPiece e k l z → is_on f z ≡ false)
    → IsInPiece e k l p → IsInPiece e k l q → IsOver f p → IsOver f q → pos 0 <ℤ side f p → side f q ≤ℤ pos 0 → ⊥
no_change e f k l p q long off in_p in_q over_p over_q up down =
    let s = nat_abs (side f q) in
    let t = nat_abs (side f p) in
    let in_ : IsInPiece e k l (mix s p t q) = piece_mix e k l p q s t (some_weight (side f p) (side f q) up) in_p in_q in
    let over : IsOver f (mix s p t q) = over_mix f p q s t over_p over_q in
    clash (is_on f (mix s p t q))
    (on_from_columns f (mix s p t q) long (side-mix f s p t q ∙ balanced (side f p) (side f q) up down) over.left over.right)
    (off (mix s p t q) in_)

-- so an edge that has none is below all points of the piece in its columns, or below none
pub one_side : (e f : Edge) (k l p q : Point) → f.a.x <ℤ f.b.x → ((z : Point) → IsInPiece e k l z → is_on f z ≡ false)
    → IsInPiece e k l p → IsInPiece e k l q → IsOver f p → IsOver f q → int_lt (pos 0) (side f p) ≡ int_lt (pos 0) (side f q)
one_side e f k l p q long off in_p in_q over_p over_q = by_lt_z (pos 0) (side f p)
    (λ up_p. by_lt_z (pos 0) (side f q)
    (λ up_q. lt_true _ _ up_p ∙ sym (lt_true _ _ up_q))
    (λ down_q. absurd (no_change e f k l p q long off in_p in_q over_p over_q up_p down_q)))
    (λ down_p. by_lt_z (pos 0) (side f q)
    (λ up_q. absurd (no_change e f k l q p long off in_q in_p over_q over_p up_q down_p))
    (λ down_q. lt_false _ _ down_p ∙ sym (lt_false _ _ down_q)))

-- two points of a line that isn't vertical, in one column, are one place
pub same_column : (e : Edge) (p q : Point) → e.a.x <ℤ e.b.x → side e p ≡ pos 0 → side e q ≡ pos 0 → p.x *ℤ pos q.w ≡ q.x *ℤ pos p.w → IsSamePlace p q
same_column e p q long lp lq x = (x, plain (run e) (rise e) _ _ (pos p.w) (pos q.w) _ _ (longer _ _ long) (side-way e p q) lp lq (level _ _ x))
  where
    level : (m n : ℤ) → m ≡ n → n -ℤ m ≡ pos 0
    level m n h = omega (arith, ints)

    plain : (r d m n w z s t : ℤ) → pos 0 <ℤ r → w *ℤ s ≡ z *ℤ t +ℤ (r *ℤ (n -ℤ m) -ℤ d *ℤ (across p q)) → t ≡ pos 0 → s ≡ pos 0 → across p q ≡ pos 0 → m ≡ n
    plain r d m n w z s t hr e ht hs hx =
        let g : w *ℤ pos 0 ≡ z *ℤ pos 0 +ℤ (r *ℤ (n -ℤ m) -ℤ d *ℤ pos 0) = rw (hs, ht, hx) at e in
        let zero_w : w *ℤ pos 0 ≡ pos 0 = times-zero w in
        let zero_z : z *ℤ pos 0 ≡ pos 0 = times-zero z in
        let zero_d : d *ℤ pos 0 ≡ pos 0 = times-zero d in
        let k : r *ℤ (n -ℤ m) ≡ pos 0 = omega (arith, ints) in
        equal _ _ (zero_factor r (n -ℤ m) hr k)
      where
        equal : (m n : ℤ) → n -ℤ m ≡ pos 0 → m ≡ n
        equal m n h = omega (arith, ints)

-- a point of the line from the one column to the other is in the piece
pub strip : (e : Edge) (k l p q z : Point) → e.a.x <ℤ e.b.x → 0 < k.w → 0 < l.w → IsInPiece e k l p → IsInPiece e k l q → 0 < z.w → side e z ≡ pos 0
    → (p.x *ℤ pos z.w) <ℤ (z.x *ℤ pos p.w) → (z.x *ℤ pos q.w) ≤ℤ (q.x *ℤ pos z.w) → IsInPiece e k l z
strip e k l p q z long wk wl in_p in_q wz level from_ to_ = record {
  wide = wz;
  level = level;
  after = before_trans k p z wk in_p.wide wz in_p.after (inl from_);
  before = by_lt_z (z.x *ℤ pos q.w) (q.x *ℤ pos z.w)
      (λ less. before_trans z q l wz in_q.wide wl (inl less) in_q.before)
      (λ not_less. same_before z q l wz in_q.wide (same_column e z q long level in_q.level (meet _ _ to_ not_less)) in_q.before);
}
  where
    meet : (m n : ℤ) → m ≤ℤ n → n ≤ℤ m → m ≡ n
    meet m n h k = omega (arith, ints)

-- the point of an edge's line in a column
abbrev pub over : Edge → ℤ → Point
over e x = record { x = run e *ℤ x; y = run e *ℤ e.a.y +ℤ rise e *ℤ (x -ℤ e.a.x); w = nat_abs (run e) }

over_width : (e : Edge) → e.a.x <ℤ e.b.x → pos (nat_abs (run e)) ≡ run e
over_width e h = plain e.a.x e.b.x h
  where
    plain : (a b : ℤ) → a <ℤ b → pos (nat_abs (b -ℤ a)) ≡ b -ℤ a
    plain a b h = omega (arith, ints)

pub over_wide : (e : Edge) → e.a.x <ℤ e.b.x → 0 < nat_abs (run e)
over_wide e h = plain e.a.x e.b.x h
  where
    plain : (a b : ℤ) → a <ℤ b → 0 < nat_abs (b -ℤ a)
    plain a b h = omega (arith, ints)

over_level : (e : Edge) (x : ℤ) → e.a.x <ℤ e.b.x → side e (over e x) ≡ pos 0
over_level e x h = rw (over_width e h) (plain (run e) (rise e) e.a.x e.a.y x)
  where
    plain : (r d a b x : ℤ) → r *ℤ ((r *ℤ b +ℤ d *ℤ (x -ℤ a)) -ℤ r *ℤ b) -ℤ d *ℤ (r *ℤ x -ℤ r *ℤ a) ≡ pos 0
    plain r d a b x = simp monomials (omega (arith, ints))

-- how far the line passes over or under a vertex
pub over_height : (e : Edge) (v : Vertex) → e.a.x <ℤ e.b.x → (over e v.x).y -ℤ pos (over e v.x).w *ℤ v.y ≡ neg_ℤ (side e (at v))
over_height e v h = rw (over_width e h) (plain (run e) (rise e) e.a.x e.a.y v.x v.y)
  where
    plain : (r d a b x y : ℤ) → (r *ℤ b +ℤ d *ℤ (x -ℤ a)) -ℤ r *ℤ y ≡ neg_ℤ (r *ℤ (y -ℤ pos 1 *ℤ b) -ℤ d *ℤ (x -ℤ pos 1 *ℤ a))
    plain r d a b x y = simp monomials (omega (arith, ints))

pub over_column : (e : Edge) (x : ℤ) → e.a.x <ℤ e.b.x → (over e x).x ≡ pos (over e x).w *ℤ x
over_column e x h = rw (over_width e h)

-- an edge's side at the point over its end
side_over : (R D a b y w u : ℤ) → u ≡ w *ℤ a → R *ℤ (y -ℤ w *ℤ b) -ℤ D *ℤ (u -ℤ w *ℤ a) ≡ R *ℤ (y -ℤ w *ℤ b)
side_over R D a b y w u h = rw h (simp monomials (omega (arith, ints)))

side_over_last : (ax ay bx by y w u : ℤ) → u ≡ w *ℤ bx → (bx -ℤ ax) *ℤ (y -ℤ w *ℤ ay) -ℤ (by -ℤ ay) *ℤ (u -ℤ w *ℤ ax) ≡ (bx -ℤ ax) *ℤ (y -ℤ w *ℤ by)
side_over_last ax ay bx by y w u h = rw h (simp monomials (omega (arith, ints)))

-- its sign is the sign of the other edge's side at the end, turned
sign_over : (r s h z : ℤ) → pos 0 <ℤ r → z ≡ r *ℤ h → h ≡ neg_ℤ s → int_lt (pos 0) z ≡ int_lt s (pos 0)
sign_over r s h z hr e g = by_lt_z s (pos 0)
    (λ down. lt_true _ _ (up z (r *ℤ h) e (times_positive r h hr (turned s h g down))) ∙ sym (lt_true _ _ down))
    (λ no. lt_false _ _ (low r h z (times_not_negative r (neg_ℤ h) (weak _ _ hr) (back s h g no)) e) ∙ sym (lt_false _ _ no))
  where
    up : (m n : ℤ) → m ≡ n → pos 0 <ℤ n → pos 0 <ℤ m
    up m n e h = omega (arith, ints)

    turned : (s h : ℤ) → h ≡ neg_ℤ s → s <ℤ pos 0 → pos 0 <ℤ h
    turned s h e k = omega (arith, ints)

    back : (s h : ℤ) → h ≡ neg_ℤ s → pos 0 ≤ℤ s → pos 0 ≤ℤ neg_ℤ h
    back s h e k = omega (arith, ints)

    low : (r h z : ℤ) → pos 0 ≤ℤ (r *ℤ neg_ℤ h) → z ≡ r *ℤ h → z ≤ℤ pos 0
    low r h z k e =
        let ring : r *ℤ neg_ℤ h ≡ neg_ℤ (r *ℤ h) = simp monomials in
        omega (arith, ints)

pub sign_first : (e f : Edge) → e.a.x <ℤ e.b.x → f.a.x <ℤ f.b.x → int_lt (pos 0) (side f (over e f.a.x)) ≡ int_lt (side e (at f.a)) (pos 0)
sign_first e f le lf = sign_over (run f) (side e (at f.a)) _ _ (longer _ _ lf) (side_over (run f) (rise f) f.a.x f.a.y (over e f.a.x).y (pos (over e f.a.x).w) (over e f.a.x).x (over_column e f.a.x le)) (over_height e f.a le)

pub sign_last : (e f : Edge) → e.a.x <ℤ e.b.x → f.a.x <ℤ f.b.x → int_lt (pos 0) (side f (over e f.b.x)) ≡ int_lt (side e (at f.b)) (pos 0)
sign_last e f le lf = sign_over (run f) (side e (at f.b)) _ _ (longer _ _ lf) (side_over_last f.a.x f.a.y f.b.x f.b.y (over e f.b.x).y (pos (over e f.b.x).w) (over e f.b.x).x (over_column e f.b.x le)) (over_height e f.b le)

pub over_first : (e f : Edge) → e.a.x <ℤ e.b.x → f.a.x <ℤ f.b.x → IsOver f (over e f.a.x)
over_first e f le lf = record {
  left = alike _ _ (sym (over_column e f.a.x le));
  right = rw (over_column e f.a.x le) (no_less_scaled (pos (nat_abs (run e))) f.a.x f.b.x (wide_z _ (over_wide e le)) (weak _ _ lf));
}
  where
    alike : (m n : ℤ) → m ≡ n → m ≤ℤ n
    alike m n h = omega (arith, ints)

pub over_last : (e f : Edge) → e.a.x <ℤ e.b.x → f.a.x <ℤ f.b.x → IsOver f (over e f.b.x)
over_last e f le lf = record {
  left = rw (over_column e f.b.x le) (no_less_scaled (pos (nat_abs (run e))) f.a.x f.b.x (wide_z _ (over_wide e le)) (weak _ _ lf));
  right = alike _ _ (over_column e f.b.x le);
}
  where
    alike : (m n : ℤ) → m ≡ n → m ≤ℤ n
    alike m n h = omega (arith, ints)

-- a vertex in a column after the one point's, up to the other's
pub record IsPassed (p q : Point) (v : Vertex) : Type 0 where
  pub from_ : p.x <ℤ (pos p.w *ℤ v.x)
  pub to_ : (pos q.w *ℤ v.x) ≤ℤ q.x

pub over_piece : (e : Edge) (k l p q : Point) (v : Vertex) → e.a.x <ℤ e.b.x → 0 < k.w → 0 < l.w → IsInPiece e k l p → IsInPiece e k l q → IsPassed p q v → IsInPiece e k l (over e v.x)
over_piece e k l p q v long wk wl in_p in_q passed =
    strip e k l p q (over e v.x) long wk wl in_p in_q (over_wide e long) (over_level e v.x long)
    (rw (over_width e long) (left p.x (pos p.w) v.x (run e) (longer _ _ long) passed.from_))
    (rw (over_width e long) (right q.x (pos q.w) v.x (run e) (longer _ _ long) passed.to_))
  where
    left : (x w v r : ℤ) → pos 0 <ℤ r → x <ℤ (w *ℤ v) → (x *ℤ r) <ℤ (r *ℤ v *ℤ w)
    left x w v r hr h =
        let k : (r *ℤ x) <ℤ (r *ℤ (w *ℤ v)) = less_scaled r x (w *ℤ v) hr h in
        let e : r *ℤ x ≡ x *ℤ r = simp monomials in
        let f : r *ℤ (w *ℤ v) ≡ r *ℤ v *ℤ w = simp monomials in
        omega (arith, ints)

    right : (x w v r : ℤ) → pos 0 <ℤ r → (w *ℤ v) ≤ℤ x → (r *ℤ v *ℤ w) ≤ℤ (x *ℤ r)
    right x w v r hr h =
        let k : (r *ℤ (w *ℤ v)) ≤ℤ (r *ℤ x) = no_less_scaled r (w *ℤ v) x hr h in
        let e : r *ℤ x ≡ x *ℤ r = simp monomials in
        let f : r *ℤ (w *ℤ v) ≡ r *ℤ v *ℤ w = simp monomials in
        omega (arith, ints)
