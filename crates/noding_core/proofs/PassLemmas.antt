-- From one point of a piece to another further right: an edge changes from below to not below just
-- where one of its ends is passed, and that end lies below the piece.
use Rattle.std.proofs.Common.{◌≡◌, ◌<◌, inl, inr, sym, ap, ◌∙◌, true, false, arith, List}
use Rattle.std.specs.Prelude.{ℤ, pos, neg_ℤ, ◌*ℤ◌, ◌-ℤ◌, ◌≤ℤ◌, ◌<ℤ◌, Bool, ◌&&◌, ◌||◌, not, int_lt, int_le}
use Rattle.std.proofs.lemmas.Int.{ints, by_lt_z}
use Rattle.plane_core.specs.declared.edge.Edge.{Edge}
use Rattle.plane_core.specs.declared.vertex.Vertex.{Vertex}
use Rattle.plane_core.specs.Points.{Point, at, side, is_on, is_below, is_at_or_below, is_from_to, run, rise, IsBefore}
use Rattle.plane_core.specs.Figures.{HasLength}
use Rattle.plane_core.proofs.Ring.{monomials, zero-times}
use Rattle.plane_core.proofs.ScaleLemmas.{less_scaled, no_less_scaled}
use Rattle.noding_core.specs.Nodes.{IsAmong, IsNode}
use Rattle.noding_core.proofs.OrderLemmas.{wide_z, zero_factor, up_to_before}
use Rattle.noding_core.proofs.LineLemmas.{IsForward, Rightward, Vertical, on_from_columns, on_vertical_up, on_vertical_down, up_to_x, end_from, end_to}
use Rattle.noding_core.proofs.FlipLemmas.{flip, is_below-flip, is_at_or_below-flip}
use Rattle.noding_core.proofs.PieceLemmas.{IsInPiece, IsPieceOf, IsForwardOf, forward_of, IsAlong, Along, Off, lies}
use Rattle.noding_core.proofs.CrossLemmas.{IsOver, one_side, same_column, strip, over, over_column, over_height, sign_first, sign_last, over_first, over_last, IsPassed, over_piece}
use Rattle.noding_core.proofs.TestLemmas.{clash, le_true, le_false, lt_true, lt_false, true_le, false_le, lt_not, and_false, or_false, guarded, first_holds, second_holds, not_true}
use Rattle.noding_core.proofs.RingLemmas.{differ, differ_turned, table}

weak : (m n : ℤ) → m <ℤ n → m ≤ℤ n
weak m n h = omega (arith, ints)

reversed : (m n : ℤ) → m <ℤ n → n ≤ℤ m → ⊥
reversed m n h k = omega (arith, ints)

up_to : (m n k : ℤ) → m ≤ℤ n → n ≤ℤ k → m ≤ℤ k
up_to m n k h g = omega (arith, ints)

within : (m n k : ℤ) → m ≤ℤ n → n <ℤ k → m <ℤ k
within m n k h g = omega (arith, ints)

less_back : (w a b : ℤ) → pos 0 <ℤ w → (w *ℤ a) <ℤ (w *ℤ b) → a <ℤ b
less_back w a b hw h = by_lt_z a b (λ y. y) (λ n. absurd (reversed _ _ h (no_less_scaled w b a hw n)))

le_back : (w a b : ℤ) → pos 0 <ℤ w → (w *ℤ a) ≤ℤ (w *ℤ b) → a ≤ℤ b
le_back w a b hw h = by_lt_z b a (λ y. absurd (reversed _ _ (less_scaled w b a hw y) h)) (λ n. n)

-- an edge from its lesser end reaches over a column where the one end isn't after it and the other is
spanned : (a b x : ℤ) (t u : Bool) → a ≤ℤ b → ((int_le a x && int_lt x b) && t || (int_le b x && int_lt x a) && u) ≡ ((int_le a x && not (int_le b x)) && t)
spanned a b x t u h = by_lt_z x a
    (λ left. rw (le_false a x left, le_false b x (longer left)))
    (λ right. rw (lt_false x a right, lt_not x b, and_false (int_le b x)) (or_false ((int_le a x && not (int_le b x)) && t)))
  where
    longer : x <ℤ a → x <ℤ b
    longer k = omega (arith, ints)

abbrev pub is_spanned : Edge → Point → Bool
is_spanned f p = int_le (pos p.w *ℤ f.a.x) p.x && not (int_le (pos p.w *ℤ f.b.x) p.x)

forward_columns : (f : Edge) → IsForward f → f.a.x ≤ℤ f.b.x
forward_columns f (Rightward h) = weak _ _ h
forward_columns f (Vertical h k) = alike _ _ h
  where
    alike : (m n : ℤ) → m ≡ n → m ≤ℤ n
    alike m n h = omega (arith, ints)

columns : (f : Edge) (p : Point) → IsForward f → 0 < p.w → (pos p.w *ℤ f.a.x) ≤ℤ (pos p.w *ℤ f.b.x)
columns f p fw wp = no_less_scaled (pos p.w) f.a.x f.b.x (wide_z p.w wp) (forward_columns f fw)

below_spanned : (f : Edge) (p : Point) → IsForward f → 0 < p.w → is_below f p ≡ (is_spanned f p && int_lt (pos 0) (side f p))
below_spanned f p fw wp = spanned (pos p.w *ℤ f.a.x) (pos p.w *ℤ f.b.x) p.x (int_lt (pos 0) (side f p)) (int_lt (side f p) (pos 0)) (columns f p fw wp)

at_or_below_spanned : (f : Edge) (p : Point) → IsForward f → 0 < p.w → is_at_or_below f p ≡ (is_spanned f p && int_le (pos 0) (side f p))
at_or_below_spanned f p fw wp = spanned (pos p.w *ℤ f.a.x) (pos p.w *ℤ f.b.x) p.x (int_le (pos 0) (side f p)) (int_le (side f p) (pos 0)) (columns f p fw wp)

rightward : (f : Edge) (p : Point) → 0 < p.w → int_le (pos p.w *ℤ f.a.x) p.x ≡ true → int_le (pos p.w *ℤ f.b.x) p.x ≡ false → f.a.x <ℤ f.b.x
rightward f p wp h k = less_back (pos p.w) f.a.x f.b.x (wide_z p.w wp) (within _ p.x _ (true_le _ _ h) (false_le _ _ k))

is_over : (f : Edge) (p : Point) → int_le (pos p.w *ℤ f.a.x) p.x ≡ true → int_le (pos p.w *ℤ f.b.x) p.x ≡ false → IsOver f p
is_over f p h k = record { left = true_le _ _ h; right = weak _ _ (false_le _ _ k) }

-- a vertex in the columns after the one point, up to the other, below the line of the piece, or on it
abbrev pub is_passed : Point → Point → Vertex → Bool
is_passed p q v = not (int_le (pos p.w *ℤ v.x) p.x) && int_le (pos q.w *ℤ v.x) q.x

abbrev pub passes : Edge → Point → Point → Vertex → Bool
passes e p q v = is_passed p q v && int_lt (side e (at v)) (pos 0)

abbrev pub passes_or_meets : Edge → Point → Point → Vertex → Bool
passes_or_meets e p q v = is_passed p q v && int_le (side e (at v)) (pos 0)

passed : (p q : Point) (v : Vertex) → int_le (pos p.w *ℤ v.x) p.x ≡ false → int_le (pos q.w *ℤ v.x) q.x ≡ true → IsPassed p q v
passed p q v h k = record { from_ = false_le _ _ h; to_ = true_le _ _ k }

-- all points of a vertical line are in one column
vertical_column : (e : Edge) (p : Point) → e.a.x ≡ e.b.x → e.a.y <ℤ e.b.y → side e p ≡ pos 0 → p.x ≡ pos p.w *ℤ e.a.x
vertical_column e p h k level = plain (run e) (rise e) (p.y -ℤ pos p.w *ℤ e.a.y) p.x (pos p.w *ℤ e.a.x) (none _ _ h) (some _ _ k) level
  where
    none : (a b : ℤ) → a ≡ b → b -ℤ a ≡ pos 0
    none a b h = omega (arith, ints)

    some : (a b : ℤ) → a <ℤ b → pos 0 <ℤ (b -ℤ a)
    some a b h = omega (arith, ints)

    plain : (r d u x y : ℤ) → r ≡ pos 0 → pos 0 <ℤ d → r *ℤ u -ℤ d *ℤ (x -ℤ y) ≡ pos 0 → x ≡ y
    plain r d u x y h hd e =
        let f : pos 0 *ℤ u -ℤ d *ℤ (x -ℤ y) ≡ pos 0 = rw h at e in
        let g : pos 0 *ℤ u ≡ pos 0 = zero-times u in
        equal x y (zero_factor d (x -ℤ y) hd (omega (arith, ints)))
      where
        equal : (m n : ℤ) → m -ℤ n ≡ pos 0 → m ≡ n
        equal m n h = omega (arith, ints)

passed_rightward : (e : Edge) (k l p q : Point) (v : Vertex) → IsForward e → IsInPiece e k l p → IsInPiece e k l q → IsPassed p q v → e.a.x <ℤ e.b.x
passed_rightward e k l p q v (Rightward h) in_p in_q passed = h
passed_rightward e k l p q v (Vertical h g) in_p in_q passed = absurd (reversed e.a.x v.x
    (less_back (pos p.w) e.a.x v.x (wide_z p.w in_p.wide) (rw (vertical_column e p h g in_p.level) at passed.from_))
    (le_back (pos q.w) v.x e.a.x (wide_z q.w in_q.wide) (rw (vertical_column e q h g in_q.level) at passed.to_)))

-- both ends of a vertical edge lie below the piece, or neither
vertical_ends : (e f : Edge) (k l p : Point) → e.a.x <ℤ e.b.x → f.a.x ≡ f.b.x → ((z : Point) → IsInPiece e k l z → is_on f z ≡ false) → IsInPiece e k l (over e f.a.x)
    → int_lt (side e (at f.a)) (pos 0) ≡ int_lt (side e (at f.b)) (pos 0)
vertical_ends e f k l p long h off in_ = by_lt_z (side e (at f.a)) (pos 0)
    (λ down_a. by_lt_z (side e (at f.b)) (pos 0)
    (λ down_b. lt_true _ _ down_a ∙ sym (lt_true _ _ down_b))
    (λ up_b. clash _ (on_vertical_up f (over e f.a.x) h (over_column e f.a.x long) (above _ _ _ (over_height e f.a long) down_a) (below _ _ _ height_b up_b)) (off _ in_)))
    (λ up_a. by_lt_z (side e (at f.b)) (pos 0)
    (λ down_b. clash _ (on_vertical_down f (over e f.a.x) h (over_column e f.a.x long) (above _ _ _ height_b down_b) (below _ _ _ (over_height e f.a long) up_a)) (off _ in_))
    (λ up_b. lt_false _ _ up_a ∙ sym (lt_false _ _ up_b)))
  where
    height_b : (over e f.a.x).y -ℤ pos (over e f.a.x).w *ℤ f.b.y ≡ neg_ℤ (side e (at f.b))
    height_b = rw h (over_height e f.b long)

    above : (m n s : ℤ) → m -ℤ n ≡ neg_ℤ s → s <ℤ pos 0 → n ≤ℤ m
    above m n s e h = omega (arith, ints)

    below : (m n s : ℤ) → m -ℤ n ≡ neg_ℤ s → pos 0 ≤ℤ s → m ≤ℤ n
    below m n s e h = omega (arith, ints)

-- further right
step_right : (a x w y z : ℤ) → pos 0 <ℤ w → pos 0 <ℤ z → (w *ℤ a) ≤ℤ x → (x *ℤ z) ≤ℤ (y *ℤ w) → (z *ℤ a) ≤ℤ y
step_right a x w y z hw hz h k =
    let up : (z *ℤ (w *ℤ a)) ≤ℤ (z *ℤ x) = no_less_scaled z (w *ℤ a) x hz h in
    let e : w *ℤ (z *ℤ a) ≡ z *ℤ (w *ℤ a) = simp monomials in
    let f : x *ℤ z ≡ z *ℤ x = simp monomials in
    let g : y *ℤ w ≡ w *ℤ y = simp monomials in
    le_back w (z *ℤ a) y hw (omega (arith, ints))

pub pass_off : (es : List Edge) (vs : List Vertex) (e f : Edge) (k l p q : Point) → IsPieceOf es vs e k l → IsForwardOf es vs f
    → ((z : Point) → IsInPiece e k l z → is_on f z ≡ false) → IsInPiece e k l p → IsInPiece e k l q → (p.x *ℤ pos q.w) ≤ℤ (q.x *ℤ pos p.w)
    → differ (is_below f p) (is_below f q) ≡ differ (passes e p q f.a) (passes e p q f.b)
pass_off es vs e f k l p q piece fw off in_p in_q order =
    ap (λ (t : Bool). differ t (is_below f q)) (below_spanned f p fw.forward in_p.wide)
    ∙ ap (differ (is_spanned f p && int_lt (pos 0) (side f p))) (below_spanned f q fw.forward in_q.wide)
    ∙ table (int_le (pos p.w *ℤ f.a.x) p.x) (int_le (pos p.w *ℤ f.b.x) p.x) (int_le (pos q.w *ℤ f.a.x) q.x) (int_le (pos q.w *ℤ f.b.x) q.x)
    (int_lt (pos 0) (side f p)) (int_lt (pos 0) (side f q)) (int_lt (side e (at f.a)) (pos 0)) (int_lt (side e (at f.b)) (pos 0))
    (λ h. le_true _ _ (up_to _ _ _ (columns f p fw.forward in_p.wide) (true_le _ _ h)))
    (λ h. le_true _ _ (up_to _ _ _ (columns f q fw.forward in_q.wide) (true_le _ _ h)))
    (λ h. le_true _ _ (step_right f.a.x p.x (pos p.w) q.x (pos q.w) wide_p wide_q (true_le _ _ h) order))
    (λ h. le_true _ _ (step_right f.b.x p.x (pos p.w) q.x (pos q.w) wide_p wide_q (true_le _ _ h) order))
    (λ ap_ bp aq bq. one_side e f k l p q (rightward f p in_p.wide ap_ bp) off in_p in_q (is_over f p ap_ bp) (is_over f q aq bq))
    (λ ap_ bp bq. last_passed ap_ bp (passed p q f.b bp bq))
    (λ ap_ aq bq. first_passed aq bq (passed p q f.a ap_ aq))
    (λ ap_ aq bp bq. both_passed fw.forward (passed p q f.a ap_ aq) (passed p q f.b bp bq))
  where
    wide_p : pos 0 <ℤ pos p.w
    wide_p = wide_z p.w in_p.wide

    wide_q : pos 0 <ℤ pos q.w
    wide_q = wide_z q.w in_q.wide

    last_passed : int_le (pos p.w *ℤ f.a.x) p.x ≡ true → int_le (pos p.w *ℤ f.b.x) p.x ≡ false → IsPassed p q f.b → int_lt (pos 0) (side f p) ≡ int_lt (side e (at f.b)) (pos 0)
    last_passed h g passed =
        let le = passed_rightward e k l p q f.b piece.forward in_p in_q passed in
        let lf = rightward f p in_p.wide h g in
        one_side e f k l p (over e f.b.x) lf off in_p (over_piece e k l p q f.b le piece.wide_k piece.wide_l in_p in_q passed) (is_over f p h g) (over_last e f le lf) ∙ sign_last e f le lf

    first_passed : int_le (pos q.w *ℤ f.a.x) q.x ≡ true → int_le (pos q.w *ℤ f.b.x) q.x ≡ false → IsPassed p q f.a → int_lt (side e (at f.a)) (pos 0) ≡ int_lt (pos 0) (side f q)
    first_passed h g passed =
        let le = passed_rightward e k l p q f.a piece.forward in_p in_q passed in
        let lf = rightward f q in_q.wide h g in
        sym (sign_first e f le lf) ∙ one_side e f k l (over e f.a.x) q lf off (over_piece e k l p q f.a le piece.wide_k piece.wide_l in_p in_q passed) in_q (over_first e f le lf) (is_over f q h g)

    both_passed : IsForward f → IsPassed p q f.a → IsPassed p q f.b → int_lt (side e (at f.a)) (pos 0) ≡ int_lt (side e (at f.b)) (pos 0)
    both_passed (Rightward lf) pa pb =
        let le = passed_rightward e k l p q f.a piece.forward in_p in_q pa in
        sym (sign_first e f le lf)
        ∙ one_side e f k l (over e f.a.x) (over e f.b.x) lf off (over_piece e k l p q f.a le piece.wide_k piece.wide_l in_p in_q pa) (over_piece e k l p q f.b le piece.wide_k piece.wide_l in_p in_q pb) (over_first e f le lf) (over_last e f le lf)
        ∙ sign_last e f le lf
    both_passed (Vertical h g) pa pb =
        let le = passed_rightward e k l p q f.a piece.forward in_p in_q pa in
        vertical_ends e f k l p le h off (over_piece e k l p q f.a le piece.wide_k piece.wide_l in_p in_q pa)

-- off an edge, at or below is below
at_least : (s : ℤ) → ¬ (s ≡ pos 0) → int_le (pos 0) s ≡ int_lt (pos 0) s
at_least s h = by_lt_z (pos 0) s (λ up. le_true _ _ (weak _ _ up) ∙ sym (lt_true _ _ up))
    (λ no. le_false _ _ (down s no h) ∙ sym (lt_false _ _ no))
  where
    down : (s : ℤ) → s ≤ℤ pos 0 → ¬ (s ≡ pos 0) → s <ℤ pos 0
    down s h k = by_lt_z s (pos 0) (λ y. y) (λ n. absurd (k (meet s h n)))
      where
        meet : (s : ℤ) → s ≤ℤ pos 0 → pos 0 ≤ℤ s → s ≡ pos 0
        meet s h k = omega (arith, ints)

at_most : (s : ℤ) → ¬ (s ≡ pos 0) → int_le s (pos 0) ≡ int_lt s (pos 0)
at_most s h = by_lt_z s (pos 0) (λ down. le_true _ _ (weak _ _ down) ∙ sym (lt_true _ _ down))
    (λ no. le_false _ _ (up s no h) ∙ sym (lt_false _ _ no))
  where
    up : (s : ℤ) → pos 0 ≤ℤ s → ¬ (s ≡ pos 0) → pos 0 <ℤ s
    up s h k = by_lt_z (pos 0) s (λ y. y) (λ n. absurd (k (meet s n h)))
      where
        meet : (s : ℤ) → s ≤ℤ pos 0 → pos 0 ≤ℤ s → s ≡ pos 0
        meet s h k = omega (arith, ints)

pub at_or_below_off : (f : Edge) (p : Point) → IsForward f → 0 < p.w → is_on f p ≡ false → is_at_or_below f p ≡ is_below f p
at_or_below_off f p fw wp off =
    at_or_below_spanned f p fw wp
    ∙ guarded (is_spanned f p) _ _ (λ h. at_least (side f p) (λ level. on h level))
    ∙ sym (below_spanned f p fw wp)
  where
    on : is_spanned f p ≡ true → side f p ≡ pos 0 → ⊥
    on h level =
        let a = first_holds _ _ h in
        let b = not_true _ (second_holds (int_le (pos p.w *ℤ f.a.x) p.x) _ h) in
        clash (is_on f p) (on_from_columns f p (rightward f p wp a b) level (true_le _ _ a) (weak _ _ (false_le _ _ b))) off

-- a vertex beside a point, at the scale of both
vertex_after : (x w v : ℤ) → x <ℤ (w *ℤ v) → (x *ℤ pos 1) <ℤ (v *ℤ w)
vertex_after x w v h = let e : w *ℤ v ≡ v *ℤ w = simp monomials in omega (arith, ints)

vertex_up_to : (x w v : ℤ) → (w *ℤ v) ≤ℤ x → (v *ℤ w) ≤ℤ (x *ℤ pos 1)
vertex_up_to x w v h = let e : w *ℤ v ≡ v *ℤ w = simp monomials in omega (arith, ints)

-- no node that is passed lies on the piece
passes_clear : (es : List Edge) (vs : List Vertex) (e : Edge) (k l p q : Point) (v : Vertex) → IsPieceOf es vs e k l → IsInPiece e k l p → IsInPiece e k l q → IsNode es vs (at v)
    → passes_or_meets e p q v ≡ passes e p q v
passes_clear es vs e k l p q v piece in_p in_q node =
    guarded (is_passed p q v) _ _ (λ h. at_most (side e (at v)) (λ level. meets h level))
  where
    meets : is_passed p q v ≡ true → side e (at v) ≡ pos 0 → ⊥
    meets h level =
        let pass : IsPassed p q v = passed p q v (not_true _ (first_holds _ _ h)) (second_holds (not (int_le (pos p.w *ℤ v.x) p.x)) _ h) in
        piece.clear (at v) (strip e k l p q (at v) (passed_rightward e k l p q v piece.forward in_p in_q pass) piece.wide_k piece.wide_l in_p in_q (omega arith) level
        (vertex_after p.x (pos p.w) v.x pass.from_) (vertex_up_to q.x (pos q.w) v.x pass.to_)) node

pub pass_or_meet_off : (es : List Edge) (vs : List Vertex) (e f : Edge) (k l p q : Point) → IsPieceOf es vs e k l → IsForwardOf es vs f
    → ((z : Point) → IsInPiece e k l z → is_on f z ≡ false) → IsInPiece e k l p → IsInPiece e k l q → (p.x *ℤ pos q.w) ≤ℤ (q.x *ℤ pos p.w)
    → differ (is_at_or_below f p) (is_at_or_below f q) ≡ differ (passes_or_meets e p q f.a) (passes_or_meets e p q f.b)
pass_or_meet_off es vs e f k l p q piece fw off in_p in_q order =
    ap (λ (t : Bool). differ t (is_at_or_below f q)) (at_or_below_off f p fw.forward in_p.wide (off p in_p))
    ∙ ap (differ (is_below f p)) (at_or_below_off f q fw.forward in_q.wide (off q in_q))
    ∙ pass_off es vs e f k l p q piece fw off in_p in_q order
    ∙ ap (λ (t : Bool). differ t (passes e p q f.b)) (sym (passes_clear es vs e k l p q f.a piece in_p in_q fw.first))
    ∙ ap (differ (passes_or_meets e p q f.a)) (sym (passes_clear es vs e k l p q f.b piece in_p in_q fw.last))

-- an edge along the piece is below none of its points, and at all of them
level_below : (t u : Bool) (s : ℤ) → s ≡ pos 0 → (t && int_lt (pos 0) s || u && int_lt s (pos 0)) ≡ false
level_below t u s h = rw (h, and_false t, and_false u)

level_passes : (t : Bool) (s : ℤ) → s ≡ pos 0 → (t && int_lt s (pos 0)) ≡ false
level_passes t s h = rw (h, and_false t)

pub pass_along : (e f : Edge) (k l p q : Point) → IsAlong e k l f → IsInPiece e k l p → IsInPiece e k l q
    → differ (is_below f p) (is_below f q) ≡ differ (passes e p q f.a) (passes e p q f.b)
pass_along e f k l p q lie in_p in_q =
    ap (λ (t : Bool). differ t (is_below f q)) (level_below (is_from_to f.a.x f.b.x p.w p.x) (is_from_to f.b.x f.a.x p.w p.x) (side f p) (lie.level p in_p))
    ∙ level_below (is_from_to f.a.x f.b.x q.w q.x) (is_from_to f.b.x f.a.x q.w q.x) (side f q) (lie.level q in_q)
    ∙ sym (ap (λ (t : Bool). differ t (passes e p q f.b)) (level_passes (is_passed p q f.a) (side e (at f.a)) lie.first)
    ∙ level_passes (is_passed p q f.b) (side e (at f.b)) lie.last)

-- on a line that isn't vertical, what is before is further left
before_column : (e : Edge) (p q : Point) → e.a.x <ℤ e.b.x → side e p ≡ pos 0 → side e q ≡ pos 0 → IsBefore p q → (p.x *ℤ pos q.w) <ℤ (q.x *ℤ pos p.w)
before_column e p q long lp lq (inl h) = h
before_column e p q long lp lq (inr h) = absurd (apart _ _ h.1 (same_column e p q long lp lq h.0).1)
  where
    apart : (m n : ℤ) → m <ℤ n → m ≡ n → ⊥
    apart m n h k = omega (arith, ints)

pub along_first : (es : List Edge) (vs : List Vertex) (e f : Edge) (k l p : Point) → IsPieceOf es vs e k l → IsAlong e k l f → IsInPiece e k l p → int_le (pos p.w *ℤ f.a.x) p.x ≡ true
along_first es vs e f k l p piece lie in_ =
    le_true _ _ (end_from f.a.x p.x (pos p.w) (up_to_x (at f.a) p (inl (up_to_before (at f.a) k p (omega arith) piece.wide_k in_.wide lie.from_ in_.after))))

pub along_last : (es : List Edge) (vs : List Vertex) (e f : Edge) (k l p : Point) → e.a.x <ℤ e.b.x → IsPieceOf es vs e k l → IsAlong e k l f → IsInPiece e k l p → int_le (pos p.w *ℤ f.b.x) p.x ≡ false
along_last es vs e f k l p long piece lie in_ =
    le_false _ _ (short f.b.x p.x (pos p.w) l.x (pos l.w) (wide_z p.w in_.wide) (wide_z l.w piece.wide_l)
    (before_column e p l long in_.level piece.last.level in_.before) (end_to f.b.x l.x (pos l.w) (up_to_x l (at f.b) lie.to_)))
  where
    short : (b x w y z : ℤ) → pos 0 <ℤ w → pos 0 <ℤ z → (x *ℤ z) <ℤ (y *ℤ w) → y ≤ℤ (z *ℤ b) → x <ℤ (w *ℤ b)
    short b x w y z hw hz h k =
        let up : (w *ℤ y) ≤ℤ (w *ℤ (z *ℤ b)) = no_less_scaled w y (z *ℤ b) hw k in
        let e : w *ℤ (z *ℤ b) ≡ z *ℤ (w *ℤ b) = simp monomials in
        let f : x *ℤ z ≡ z *ℤ x = simp monomials in
        let g : y *ℤ w ≡ w *ℤ y = simp monomials in
        less_back z x (w *ℤ b) hz (omega (arith, ints))

pub at_along : (es : List Edge) (vs : List Vertex) (e f : Edge) (k l p : Point) → e.a.x <ℤ e.b.x → IsPieceOf es vs e k l → IsForwardOf es vs f → IsAlong e k l f → IsInPiece e k l p → is_at_or_below f p ≡ true
at_along es vs e f k l p long piece fw lie in_ =
    at_or_below_spanned f p fw.forward in_.wide
    ∙ plain _ _ _ (along_first es vs e f k l p piece lie in_) (along_last es vs e f k l p long piece lie in_) (lie.level p in_)
  where
    plain : (t u : Bool) (s : ℤ) → t ≡ true → u ≡ false → s ≡ pos 0 → ((t && not u) && int_le (pos 0) s) ≡ true
    plain t u s h k g = rw (h, k, g)

pub pass_or_meet_along : (es : List Edge) (vs : List Vertex) (e f : Edge) (k l p q : Point) → e.a.x <ℤ e.b.x → IsPieceOf es vs e k l → IsForwardOf es vs f → IsAlong e k l f
    → IsInPiece e k l p → IsInPiece e k l q
    → differ (is_at_or_below f p) (is_at_or_below f q) ≡ differ (passes_or_meets e p q f.a) (passes_or_meets e p q f.b)
pass_or_meet_along es vs e f k l p q long piece fw lie in_p in_q =
    ap (λ (t : Bool). differ t (is_at_or_below f q)) (at_along es vs e f k l p long piece fw lie in_p)
    ∙ ap (differ true) (at_along es vs e f k l q long piece fw lie in_q)
    ∙ sym (plain (int_le (pos p.w *ℤ f.a.x) p.x) (int_le (pos q.w *ℤ f.a.x) q.x) (int_le (side e (at f.a)) (pos 0))
    (int_le (pos p.w *ℤ f.b.x) p.x) (int_le (pos q.w *ℤ f.b.x) q.x) (int_le (side e (at f.b)) (pos 0))
    (along_first es vs e f k l p piece lie in_p) (along_last es vs e f k l q long piece lie in_q))
  where
    plain : (t u v t' u' v' : Bool) → t ≡ true → u' ≡ false → differ ((not t && u) && v) ((not t' && u') && v') ≡ false
    plain t u v t' u' v' h k = rw (h, k, and_false (not t'))

-- for each edge, from point to point of a piece
pub pass : (es : List Edge) (vs : List Vertex) (e f : Edge) (k l p q : Point) → IsPieceOf es vs e k l → HasLength f → IsAmong f es → IsInPiece e k l p → IsInPiece e k l q
    → (p.x *ℤ pos q.w) ≤ℤ (q.x *ℤ pos p.w) → differ (is_below f p) (is_below f q) ≡ differ (passes e p q f.a) (passes e p q f.b)
pass es vs e f k l p q piece long one in_p in_q order = elim (forward_of es vs f long one) [
  | inl fw ↦ forward f fw
  | inr fw ↦ ap (λ (t : Bool). differ t (is_below f q)) (sym (is_below-flip f p))
      ∙ ap (differ (is_below (flip f) p)) (sym (is_below-flip f q))
      ∙ forward (flip f) fw
      ∙ differ_turned (passes e p q f.b) (passes e p q f.a)
]
  where
    forward : (f : Edge) → IsForwardOf es vs f → differ (is_below f p) (is_below f q) ≡ differ (passes e p q f.a) (passes e p q f.b)
    forward f fw = elim (lies es vs e f k l p piece fw in_p) [
      | Along h ↦ pass_along e f k l p q h in_p in_q
      | Off h ↦ pass_off es vs e f k l p q piece fw h in_p in_q order
    ]

pub pass_or_meet : (es : List Edge) (vs : List Vertex) (e f : Edge) (k l p q : Point) → e.a.x <ℤ e.b.x → IsPieceOf es vs e k l → HasLength f → IsAmong f es → IsInPiece e k l p → IsInPiece e k l q
    → (p.x *ℤ pos q.w) ≤ℤ (q.x *ℤ pos p.w) → differ (is_at_or_below f p) (is_at_or_below f q) ≡ differ (passes_or_meets e p q f.a) (passes_or_meets e p q f.b)
pass_or_meet es vs e f k l p q right piece long one in_p in_q order = elim (forward_of es vs f long one) [
  | inl fw ↦ forward f fw
  | inr fw ↦ ap (λ (t : Bool). differ t (is_at_or_below f q)) (sym (is_at_or_below-flip f p))
      ∙ ap (differ (is_at_or_below (flip f) p)) (sym (is_at_or_below-flip f q))
      ∙ forward (flip f) fw
      ∙ differ_turned (passes_or_meets e p q f.b) (passes_or_meets e p q f.a)
]
  where
    forward : (f : Edge) → IsForwardOf es vs f → differ (is_at_or_below f p) (is_at_or_below f q) ≡ differ (passes_or_meets e p q f.a) (passes_or_meets e p q f.b)
    forward f fw = elim (lies es vs e f k l p piece fw in_p) [
      | Along h ↦ pass_or_meet_along es vs e f k l p q right piece fw h in_p in_q
      | Off h ↦ pass_or_meet_off es vs e f k l p q piece fw h in_p in_q order
    ]
