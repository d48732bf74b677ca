-- A piece of an edge, between two nodes in a row: each edge has all points of it, or none.
use Rattle.std.proofs.Common.{◌≡◌, ◌<◌, ◌⊎◌, inl, inr, sym, ap, ◌∙◌, true, false, arith, List}
use Rattle.std.specs.Prelude.{ℤ, ℕ, pos, neg_ℤ, ◌*ℤ◌, ◌-ℤ◌, ◌+ℤ◌, ◌<ℤ◌, ◌+◌}
use Rattle.std.proofs.lemmas.Int.{ints}
use Rattle.plane_core.specs.declared.edge.Edge.{Edge}
use Rattle.plane_core.specs.declared.vertex.Vertex.{Vertex}
use Rattle.plane_core.specs.Points.{Point, at, mix, side, is_on, run, rise, turn_of, IsBefore}
use Rattle.plane_core.specs.Figures.{HasLength}
use Rattle.plane_core.proofs.FormLemmas.{by_zero, no_zero_divisor}
use Rattle.plane_core.proofs.Ring.{monomials, times-zero}
use Rattle.noding_core.specs.Nodes.{IsAmong, IsNode, FirstEnd, LastEnd, IsUpTo}
use Rattle.noding_core.proofs.OrderLemmas.{across, upward, wide_z, zero_factor, up_to_before, before_up_to, up_to_or_after, before_mix, mix_before, mix_wide, width_mix}
use Rattle.noding_core.proofs.LineLemmas.{IsForward, Rightward, Vertical, IsWithin, within_from_on, on_from_within}
use Rattle.noding_core.proofs.FlipLemmas.{flip, turn_of-flip, turn_of-turned, is_on-flip, forward_or_flipped, is_at-itself, first_level, last_level}
use Rattle.noding_core.proofs.TestLemmas.{by_test, clash}

-- a point of an edge's line strictly between two points
pub record IsInPiece (e : Edge) (k l p : Point) : Type 0 where
  pub wide : 0 < p.w
  pub level : side e p ≡ pos 0
  pub after : IsBefore k p
  pub before : IsBefore p l

-- a piece of an edge that is taken from its lesser end
pub record IsPieceOf (es : List Edge) (vs : List Vertex) (e : Edge) (k l : Point) : Type 0 where
  pub forward : IsForward e
  pub wide_k : 0 < k.w
  pub wide_l : 0 < l.w
  pub first : IsWithin e k
  pub last : IsWithin e l
  pub order : IsBefore k l
  pub clear : (p : Point) → IsInPiece e k l p → IsNode es vs p → ⊥
  pub crossing : (f : Edge) (p : Point) → IsInPiece e k l p → IsAmong f es → is_on f p ≡ true → turn_of e f ≡ pos 0

-- an edge, or an edge flipped, that begins at its lesser end
pub record IsForwardOf (es : List Edge) (vs : List Vertex) (f : Edge) : Type 0 where
  pub forward : IsForward f
  pub one : IsAmong f es ⊎ IsAmong (flip f) es
  pub first : IsNode es vs (at f.a)
  pub last : IsNode es vs (at f.b)

pub forward_of : (es : List Edge) (vs : List Vertex) (f : Edge) → HasLength f → IsAmong f es → IsForwardOf es vs f ⊎ IsForwardOf es vs (flip f)
forward_of es vs f long one = elim (forward_or_flipped f long) [
  | inl h ↦ inl (record { forward = h; one = inl one; first = FirstEnd f one (is_at-itself f.a); last = LastEnd f one (is_at-itself f.b) })
  | inr h ↦ inr (record { forward = h; one = inr one; first = LastEnd f one (is_at-itself f.b); last = FirstEnd f one (is_at-itself f.a) })
]

pub forward_long : (e : Edge) → IsForward e → HasLength e
forward_long e (Rightward h) = λ k. plain _ _ h k.0
  where
    plain : (m n : ℤ) → m <ℤ n → m ≡ n → ⊥
    plain m n h k = omega (arith, ints)
forward_long e (Vertical g h) = λ k. plain _ _ h k.1
  where
    plain : (m n : ℤ) → m <ℤ n → m ≡ n → ⊥
    plain m n h k = omega (arith, ints)

turned_zero : (m n : ℤ) → n ≡ neg_ℤ m → m ≡ pos 0 → n ≡ pos 0
turned_zero m n h k = omega (arith, ints)

turned_back : (m n : ℤ) → n ≡ neg_ℤ m → n ≡ pos 0 → m ≡ pos 0
turned_back m n h k = omega (arith, ints)

-- a product that is 0 has a factor that is
other_factor : (a b : ℤ) → ¬ (a ≡ pos 0) → a *ℤ b ≡ pos 0 → b ≡ pos 0
other_factor a b some h = by_zero b (λ more. absurd (no_zero_divisor a b some more h)) (λ none. none)

-- the side of an edge changes from point to point by the cross product with the way between them
side_way : (R D a b x y w u v z : ℤ) →
    w *ℤ (R *ℤ (v -ℤ z *ℤ b) -ℤ D *ℤ (u -ℤ z *ℤ a)) ≡ z *ℤ (R *ℤ (y -ℤ w *ℤ b) -ℤ D *ℤ (x -ℤ w *ℤ a)) +ℤ (R *ℤ (v *ℤ w -ℤ y *ℤ z) -ℤ D *ℤ (u *ℤ w -ℤ x *ℤ z))
side_way R D a b x y w u v z = simp monomials (omega (arith, ints))

pub side-way : (f : Edge) (p z : Point) → pos p.w *ℤ side f z ≡ pos z.w *ℤ side f p +ℤ (run f *ℤ upward p z -ℤ rise f *ℤ across p z)
side-way f p z = side_way (run f) (rise f) f.a.x f.a.y p.x p.y (pos p.w) z.x z.y (pos z.w)

turn_by_run : (r d R D u v : ℤ) → r *ℤ (R *ℤ v -ℤ D *ℤ u) ≡ R *ℤ (r *ℤ v -ℤ d *ℤ u) -ℤ u *ℤ (r *ℤ D -ℤ R *ℤ d)
turn_by_run r d R D u v = simp monomials (omega (arith, ints))

turn_by_rise : (r d R D u v : ℤ) → d *ℤ (R *ℤ v -ℤ D *ℤ u) ≡ D *ℤ (r *ℤ v -ℤ d *ℤ u) -ℤ v *ℤ (r *ℤ D -ℤ R *ℤ d)
turn_by_rise r d R D u v = simp monomials (omega (arith, ints))

none_of : (n a b m k : ℤ) → n ≡ a *ℤ m -ℤ b *ℤ k → m ≡ pos 0 → k ≡ pos 0 → n ≡ pos 0
none_of n a b m k e h g =
    let f : a *ℤ pos 0 ≡ pos 0 = times-zero a in
    let i : b *ℤ pos 0 ≡ pos 0 = times-zero b in
    let j : n ≡ a *ℤ pos 0 -ℤ b *ℤ pos 0 = rw (h, g) at e in
    omega (arith, ints)

none_more : (n a m k : ℤ) → n ≡ a *ℤ m +ℤ k → m ≡ pos 0 → k ≡ pos 0 → n ≡ pos 0
none_more n a m k e h g =
    let f : a *ℤ pos 0 ≡ pos 0 = times-zero a in
    let j : n ≡ a *ℤ pos 0 +ℤ k = rw h at e in
    omega (arith, ints)

none_left : (n a m k : ℤ) → n ≡ a *ℤ m +ℤ k → n ≡ pos 0 → m ≡ pos 0 → k ≡ pos 0
none_left n a m k e h g =
    let f : a *ℤ pos 0 ≡ pos 0 = times-zero a in
    let j : n ≡ a *ℤ pos 0 +ℤ k = rw g at e in
    omega (arith, ints)

-- parallel edges that share a point of a line share the line
pub line_shared : (e f : Edge) (p z : Point) → HasLength e → 0 < p.w → turn_of e f ≡ pos 0 → side e p ≡ pos 0 → side e z ≡ pos 0 → side f p ≡ pos 0 → side f z ≡ pos 0
line_shared e f p z long wp turn ep ez fp =
    let along : run e *ℤ upward p z -ℤ rise e *ℤ across p z ≡ pos 0 =
    none_left (pos p.w *ℤ side e z) (pos z.w) (side e p) _ (side-way e p z) (ap (λ (n : ℤ). pos p.w *ℤ n) ez ∙ times-zero (pos p.w)) ep in
    let way : run f *ℤ upward p z -ℤ rise f *ℤ across p z ≡ pos 0 = by_zero (run e)
    (λ some. other_factor (run e) _ some (none_of _ (run f) (across p z) _ _ (turn_by_run (run e) (rise e) (run f) (rise f) (across p z) (upward p z)) along turn))
    (λ zero_run. other_factor (rise e) _ (λ zero_rise. long (coordinate _ _ zero_run, coordinate _ _ zero_rise))
    (none_of _ (rise f) (upward p z) _ _ (turn_by_rise (run e) (rise e) (run f) (rise f) (across p z) (upward p z)) along turn)) in
    zero_factor (pos p.w) (side f z) (wide_z p.w wp) (none_more _ (pos z.w) (side f p) _ (side-way f p z) fp way)
  where
    coordinate : (a b : ℤ) → b -ℤ a ≡ pos 0 → a ≡ b
    coordinate a b h = omega (arith, ints)

-- the points of a piece are on its edge
pub piece_within : (es : List Edge) (vs : List Vertex) (e : Edge) (k l p : Point) → IsPieceOf es vs e k l → IsInPiece e k l p → IsWithin e p
piece_within es vs e k l p piece in_ = record {
  level = in_.level;
  from_ = inl (up_to_before (at e.a) k p one piece.wide_k in_.wide piece.first.from_ in_.after);
  to_ = inl (before_up_to p l (at e.b) in_.wide piece.wide_l one in_.before piece.last.to_);
}
  where
    one : 0 < 1
    one = omega arith

pub piece_on : (es : List Edge) (vs : List Vertex) (e : Edge) (k l p : Point) → IsPieceOf es vs e k l → IsInPiece e k l p → is_on e p ≡ true
piece_on es vs e k l p piece in_ = on_from_within e p piece.forward (piece_within es vs e k l p piece in_)

-- an edge along the whole of a piece
pub record IsAlong (e : Edge) (k l : Point) (f : Edge) : Type 0 where
  pub level : (z : Point) → IsInPiece e k l z → side f z ≡ pos 0
  pub from_ : IsUpTo (at f.a) k
  pub to_ : IsUpTo l (at f.b)
  pub first : side e (at f.a) ≡ pos 0
  pub last : side e (at f.b) ≡ pos 0

pub parallel : (es : List Edge) (vs : List Vertex) (e f : Edge) (k l p : Point) → IsPieceOf es vs e k l → IsForwardOf es vs f → IsInPiece e k l p → is_on f p ≡ true → turn_of e f ≡ pos 0
parallel es vs e f k l p piece fw in_ on = elim (fw.one) [
  | inl one ↦ piece.crossing f p in_ one on
  | inr one ↦ turned_back _ _ (turn_of-flip e f) (piece.crossing (flip f) p in_ one (is_on-flip f p ∙ on))
]

pub along : (es : List Edge) (vs : List Vertex) (e f : Edge) (k l p : Point) → IsPieceOf es vs e k l → IsForwardOf es vs f → IsInPiece e k l p → is_on f p ≡ true → IsAlong e k l f
along es vs e f k l p piece fw in_ on = record {
  level = λ z in_z. line_shared e f p z (forward_long e piece.forward) in_.wide turn in_.level in_z.level within.level;
  from_ = elim (up_to_or_after (at f.a) k) [
    | inl h ↦ h
    | inr h ↦ absurd (piece.clear (at f.a) (record { wide = one; level = first; after = h; before = up_to_before (at f.a) p l one in_.wide piece.wide_l within.from_ in_.before }) fw.first)
  ];
  to_ = elim (up_to_or_after l (at f.b)) [
    | inl h ↦ h
    | inr h ↦ absurd (piece.clear (at f.b) (record { wide = one; level = last; after = before_up_to k p (at f.b) piece.wide_k in_.wide one in_.after within.to_; before = h }) fw.last)
  ];
  first = first;
  last = last;
}
  where
    one : 0 < 1
    one = omega arith

    within : IsWithin f p
    within = within_from_on f p fw.forward in_.wide on

    turn : turn_of e f ≡ pos 0
    turn = parallel es vs e f k l p piece fw in_ on

    back : turn_of f e ≡ pos 0
    back = turned_zero (turn_of e f) (turn_of f e) (turn_of-turned e f) turn

    first : side e (at f.a) ≡ pos 0
    first = line_shared f e p (at f.a) (forward_long f fw.forward) in_.wide back within.level (first_level f) in_.level

    last : side e (at f.b) ≡ pos 0
    last = line_shared f e p (at f.b) (forward_long f fw.forward) in_.wide back within.level (last_level f) in_.level

pub on_along : (es : List Edge) (vs : List Vertex) (e f : Edge) (k l z : Point) → IsPieceOf es vs e k l → IsForwardOf es vs f → IsAlong e k l f → IsInPiece e k l z → is_on f z ≡ true
on_along es vs e f k l z piece fw lies in_ = on_from_within f z fw.forward (record {
  level = lies.level z in_;
  from_ = inl (up_to_before (at f.a) k z one piece.wide_k in_.wide lies.from_ in_.after);
  to_ = inl (before_up_to z l (at f.b) in_.wide piece.wide_l one in_.before lies.to_);
})
  where
    one : 0 < 1
    one = omega arith

-- each edge has all points of a piece or none
pub data Lies (e : Edge) (k l : Point) (f : Edge) : Type 0 where
  Along : IsAlong e k l f → Lies e k l f
  Off : ((z : Point) → IsInPiece e k l z → is_on f z ≡ false) → Lies e k l f

pub lies : (es : List Edge) (vs : List Vertex) (e f : Edge) (k l p : Point) → IsPieceOf es vs e k l → IsForwardOf es vs f → IsInPiece e k l p → Lies e k l f
lies es vs e f k l p piece fw in_ = by_test (is_on f p) (λ on. Along (along es vs e f k l p piece fw in_ on))
    (λ off. Off (λ z in_z. by_test (is_on f z)
    (λ on. clash (is_on f p) (on_along es vs e f k l p piece fw (along es vs e f k l z piece fw in_z on) in_) off)
    (λ none. none)))

-- so whether a point of a piece is on an edge doesn't depend on the point
pub on_kept : (es : List Edge) (vs : List Vertex) (e f : Edge) (k l p q : Point) → IsPieceOf es vs e k l → IsForwardOf es vs f → IsInPiece e k l p → IsInPiece e k l q → is_on f p ≡ is_on f q
on_kept es vs e f k l p q piece fw in_p in_q = elim (lies es vs e f k l p piece fw in_p) [
  | Along h ↦ on_along es vs e f k l p piece fw h in_p ∙ sym (on_along es vs e f k l q piece fw h in_q)
  | Off h ↦ h p in_p ∙ sym (h q in_q)
]

-- a mix of two points of a piece is a point of it
side_mix : (R D a b s t x y w u v z m : ℤ) → m ≡ s *ℤ w +ℤ t *ℤ z →
    R *ℤ ((s *ℤ y +ℤ t *ℤ v) -ℤ m *ℤ b) -ℤ D *ℤ ((s *ℤ x +ℤ t *ℤ u) -ℤ m *ℤ a) ≡ s *ℤ (R *ℤ (y -ℤ w *ℤ b) -ℤ D *ℤ (x -ℤ w *ℤ a)) +ℤ t *ℤ (R *ℤ (v -ℤ z *ℤ b) -ℤ D *ℤ (u -ℤ z *ℤ a))
side_mix R D a b s t x y w u v z m e = rw e (simp monomials (omega (arith, ints)))

pub side-mix : (f : Edge) (s : ℕ) (p : Point) (t : ℕ) (q : Point) → side f (mix s p t q) ≡ pos s *ℤ side f p +ℤ pos t *ℤ side f q
side-mix f s p t q = side_mix (run f) (rise f) f.a.x f.a.y (pos s) (pos t) p.x p.y (pos p.w) q.x q.y (pos q.w) _ (width_mix s p t q)

pub level_mix : (f : Edge) (s : ℕ) (p : Point) (t : ℕ) (q : Point) → side f p ≡ pos 0 → side f q ≡ pos 0 → side f (mix s p t q) ≡ pos 0
level_mix f s p t q h k = side-mix f s p t q ∙ none (pos s) (pos t) (side f p) (side f q) h k
  where
    none : (a b m n : ℤ) → m ≡ pos 0 → n ≡ pos 0 → a *ℤ m +ℤ b *ℤ n ≡ pos 0
    none a b m n h k = rw (h, k, times-zero a, times-zero b)

pub piece_mix : (e : Edge) (k l p q : Point) (s t : ℕ) → 0 < s + t → IsInPiece e k l p → IsInPiece e k l q → IsInPiece e k l (mix s p t q)
piece_mix e k l p q s t some h g = record {
  wide = mix_wide p q s t h.wide g.wide some;
  level = level_mix e s p t q h.level g.level;
  after = before_mix k p q s t some h.after g.after;
  before = mix_before l p q s t some h.before g.before;
}
