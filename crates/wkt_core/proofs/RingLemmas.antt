-- Rings without repeats: the sides of a rectangle, cut at the start of the ring.
use Rattle.std.proofs.Common.{◌≡◌, ℕ, zero, suc, ◌<◌, true, List, [], ◌∷◌, ◌++◌, inl, inr, length, take, drop, get_or, refl, sym, ◌∙◌, ap, subst, ⊎_elim, arith}
use Rattle.std.proofs.lemmas.List.{append_assoc, append-nil, take-append-drop, length-append}
use Rattle.geom_core.specs.declared.shape.Shape.{Shape}
use Rattle.wkt_core.specs.declared.position.Position.{Position}
use Rattle.wkt_core.specs.declared.keyword.Keyword.TheVariants.{Polygon}
use Rattle.wkt_core.specs.Drawing.{Heading, Heads, Runs, IsStraight, IsRectangle, AreSides, last_of, rotated}
use Rattle.wkt_core.specs.Walks.{is_straight, DrawnBy}
use Rattle.wkt_core.proofs.HeadingLemmas.{heads_on, heads_parallel, heading_of, straight_on, straight_means}
use Rattle.wkt_core.proofs.RunLemmas.{trail, bends, along, run_heads, turned, run_split, run_join, pass, passed_all}
use Rattle.wkt_core.proofs.FormLemmas.{rectangle_corners, from_next}

-- a ring of these points after the first, without repeats
pub record RingOf (p : Position) (xs : List Position) (s : Shape) : Type 0 where
  pub closed : last_of p xs ≡ p
  pub start : ℕ
  pub round : AreSides (rotated start xs) s

-- ---- lists

pub last_append : (p : Position) (xs : List Position) (q : Position) (ys : List Position) → last_of p (xs ++ (q ∷ ys)) ≡ last_of q ys
last_append p [] q ys = refl
last_append p (x ∷ xs) q ys = last_append x xs q ys

-- a list, up to its last item
ends_in : (p : Position) (xs : List Position) → (front : List Position) × (p ∷ xs ≡ front ++ (last_of p xs ∷ []))
ends_in p [] = ([], refl)
ends_in p (x ∷ xs) = let (front, e) = ends_in x xs in (p ∷ front, ap (λ l. p ∷ l) e)

drop_front : (xs ys : List Position) → drop (length xs) (xs ++ ys) ≡ ys
drop_front [] ys = refl
drop_front (x ∷ xs) ys = drop_front xs ys

take_front : (xs ys : List Position) → take (length xs) (xs ++ ys) ≡ xs
take_front [] ys = refl
take_front (x ∷ xs) ys = ap (λ l. x ∷ l) (take_front xs ys)

rotated_front : (xs ys : List Position) → rotated (length xs) (xs ++ ys) ≡ ys ++ xs
rotated_front xs ys = rw (drop_front xs ys, take_front xs ys) refl

-- if two lists are cut, the one starting at z
data Cuts (z : Position) (v u k m : List Position) : Type 0 where
  Behind : (t0 : Position) (t : List Position) → z ∷ v ≡ k ++ (t0 ∷ t) → (t0 ∷ t) ++ u ≡ m → Cuts z v u k m
  Within : (t : List Position) → k ≡ (z ∷ v) ++ t → u ≡ t ++ m → Cuts z v u k m

tail_of : (x y : Position) (xs ys : List Position) → x ∷ xs ≡ y ∷ ys → xs ≡ ys
tail_of x y xs ys e = ap (λ l. drop 1 l) e

head_of : (x y : Position) (xs ys : List Position) → x ∷ xs ≡ y ∷ ys → x ≡ y
head_of x y xs ys e = ap (λ l. get_or l 0 x) e

one_more : (z w : Position) (v u k m : List Position) (x : Position) → z ≡ x → Cuts w v u k m → Cuts z (w ∷ v) u (x ∷ k) m
one_more z w v u k m x e (Behind t0 t f g) = Behind t0 t (cc) g
one_more z w v u k m x e (Within t f g) = Within t (cc) g

cuts : (z : Position) (v u k m : List Position) → (z ∷ v) ++ u ≡ k ++ m → Cuts z v u k m
cuts z v u [] m e = Behind z v refl e
cuts z [] u (x ∷ k) m e = Within k (sym (ap (λ w. w ∷ k) (head_of z x u (k ++ m) e))) (tail_of z x u (k ++ m) e)
cuts z (w ∷ v) u (x ∷ k) m e =
    one_more z w v u k m x (head_of z x ((w ∷ v) ++ u) (k ++ m) e) (cuts w v u k m (tail_of z x ((w ∷ v) ++ u) (k ++ m) e))

-- ---- rectangles

pub side_heading : (a b c d : Position) (s : Shape) → IsRectangle a b c d s → (h : Heading) × Heads h a b
side_heading a b c d s r =
    let ((round, dx, dy), spanned) = rectangle_corners a b c d s r in
    ⊎_elim (λ l. heading_of a b (inr l.0) (λ e. dx (ap (λ p. p.x) e ∙ l.1)))
    (λ l. heading_of a b (inl l.3) (λ e. dy (ap (λ p. p.y) e ∙ l.0))) round

-- two sides one after the other have different headings
corner_turns : (a b c d : Position) (s : Shape) (g h : Heading) → IsRectangle a b c d s → Heads g a b → Heads h b c → g ≡ h → ⊥
corner_turns a b c d s g h r i o e =
    let ((round, dx, dy), spanned) = rectangle_corners a b c d s r in
    let k : Heads h a c = heads_on h a b c (subst (λ v. Heads v a b) e i) o in
    ⊎_elim (λ f. dx f) (λ f. dy f) (heads_parallel h a c k)

-- ---- a ring is kept as its corners

-- the sides of a rectangle, begun and ended within the last of them
record CutRing (xs : List Position) (s : Shape) : Type 0 where
  a : Position
  b : Position
  c : Position
  d : Position
  rectangle : IsRectangle a b c d s
  ab : List Position
  bc : List Position
  cd : List Position
  before : List Position
  behind : List Position
  first : IsStraight a ab b
  second : IsStraight b bc c
  third : IsStraight c cd d
  fourth : IsStraight d (behind ++ before) a
  points : xs ≡ before ++ (a ∷ (ab ++ (b ∷ (bc ++ (c ∷ (cd ++ (d ∷ behind)))))))

abbrev four_turns : Position → List Position → Position → List Position → Position → List Position → Position → List Position → List Position
four_turns a ab b bc c cd d rest = a ∷ (ab ++ (b ∷ (bc ++ (c ∷ (cd ++ (d ∷ rest))))))

last_turned : (p : Position) (before : List Position) (a : Position) (ab : List Position) (b : Position) (bc : List Position) (c : Position)
    (cd : List Position) (d : Position) (rest : List Position) → last_of p (before ++ four_turns a ab b bc c cd d rest) ≡ last_of d rest
last_turned p before a ab b bc c cd d rest =
    last_append p before a (ab ++ (b ∷ (bc ++ (c ∷ (cd ++ (d ∷ rest))))))
    ∙ last_append a ab b (bc ++ (c ∷ (cd ++ (d ∷ rest)))) ∙ last_append b bc c (cd ++ (d ∷ rest)) ∙ last_append c cd d rest

pub record KeptRing (p : Position) (xs : List Position) (s : Shape) : Type 0 where
  pub turns : List Position
  pub all : p ∷ trail p xs ≡ turns ++ p ∷ []
  pub drawn : DrawnBy Polygon turns p s

module _ (a b c d : Position) (s : Shape) (r : IsRectangle a b c d s) (ab bc cd : List Position) (first : IsStraight a ab b)
    (second : IsStraight b bc c) (third : IsStraight c cd d) where
  into_b : Heads first.0 a b
  into_b = run_heads first.0 a ab b first.1

  into_c : Heads second.0 b c
  into_c = run_heads second.0 b bc c second.1

  into_d : Heads third.0 c d
  into_d = run_heads third.0 c cd d third.1

  -- from p, which lies on the last side or is its beginning, over a on to c
  up_to_c : (h : Heading) (p : Position) (rest : List Position) → Heads h p a → Heads h d a
      → bends p a (ab ++ (b ∷ (bc ++ (c ∷ rest)))) ≡ a ∷ b ∷ bends b c rest
  up_to_c h p rest into whole =
      let t1 = turned h first.0 p a ab b (bc ++ (c ∷ rest)) into first.1
      (λ e. corner_turns d a b c s h first.0 (from_next c d a b s (from_next b c d a s (from_next a b c d s r))) whole into_b e) in
      let t2 = turned first.0 second.0 a b bc c rest into_b second.1 (λ e. corner_turns a b c d s first.0 second.0 r into_b into_c e) in
      t1 ∙ ap (λ l. a ∷ l) t2

  at_c : (rest : List Position) → bends b c (cd ++ (d ∷ rest)) ≡ c ∷ bends c d rest
  at_c rest = turned second.0 third.0 b c cd d rest into_c third.1
      (λ e. corner_turns b c d a s second.0 third.0 (from_next a b c d s r) into_c into_d e)

  at_d : (h : Heading) (w : List Position) (p : Position) → Runs h (d ∷ (w ++ (p ∷ []))) → Heads h d a → bends c d (w ++ (p ∷ [])) ≡ d ∷ p ∷ []
  at_d h w p run whole = turned third.0 h c d w p [] into_d run
      (λ e. corner_turns c d a b s third.0 h (from_next b c d a s (from_next a b c d s r)) into_d whole e)

  -- begun at the corner d
  from_corner : (before : List Position) → IsStraight d before a
      → trail d (before ++ four_turns a ab b bc c cd d []) ≡ a ∷ b ∷ c ∷ d ∷ []
  from_corner before (h, run) =
      let into = run_heads h d before a run in
      along h d before a (ab ++ (b ∷ (bc ++ (c ∷ (cd ++ (d ∷ [])))))) run
      ∙ up_to_c h d (cd ++ (d ∷ [])) into into ∙ ap (λ l. a ∷ b ∷ l) (at_c [])

  -- begun at p inside the side from d to a
  from_inside : (before w : List Position) (p : Position) → IsStraight d ((w ++ p ∷ []) ++ before) a
      → (trail p (before ++ four_turns a ab b bc c cd d (w ++ p ∷ [])) ≡ a ∷ b ∷ c ∷ d ∷ p ∷ []) × (is_straight d p a ≡ true)
  from_inside before w p (h, run) =
      let whole = run_heads h d ((w ++ p ∷ []) ++ before) a run in
      let e : ((w ++ p ∷ []) ++ before) ++ a ∷ [] ≡ w ++ (p ∷ (before ++ a ∷ [])) = simp append_assoc in
      let (front, back) = run_split h d w p (before ++ a ∷ []) (subst (λ l. Runs h (d ∷ l)) e run) in
      let into = run_heads h p before a back in (
        along h p before a (ab ++ (b ∷ (bc ++ (c ∷ (cd ++ (d ∷ (w ++ p ∷ []))))))) back
            ∙ up_to_c h p (cd ++ (d ∷ (w ++ p ∷ []))) into whole
            ∙ ap (λ l. a ∷ b ∷ l) (at_c (w ++ p ∷ []) ∙ ap (λ l. c ∷ l) (at_d h w p front whole)),
        straight_on h d p a (run_heads h d w p front) into,
      )

-- the last point is after the corner d, or equals it if nothing is
kept : (p : Position) (xs : List Position) (s : Shape) (m : CutRing xs s) (behind : List Position) → m.behind ≡ behind → last_of p xs ≡ p
    → KeptRing p xs s
kept p xs s m [] e closed =
    let points : xs ≡ m.before ++ four_turns m.a m.ab m.b m.bc m.c m.cd m.d [] =
    subst (λ l. xs ≡ m.before ++ four_turns m.a m.ab m.b m.bc m.c m.cd m.d l) e m.points in
    let fourth : IsStraight m.d m.before m.a = subst (λ l. IsStraight m.d (l ++ m.before) m.a) e m.fourth in
    let last : m.d ≡ p = sym (last_turned p m.before m.a m.ab m.b m.bc m.c m.cd m.d []) ∙ sym (ap (last_of p) points) ∙ closed in
    let way = from_corner m.a m.b m.c m.d s m.rectangle m.ab m.bc m.cd m.first m.second m.third m.before fourth in
    let r : IsRectangle m.d m.a m.b m.c s = from_next m.c m.d m.a m.b s (from_next m.b m.c m.d m.a s (from_next m.a m.b m.c m.d s m.rectangle)) in
    subst (λ q. KeptRing q xs s) last
    (record {
      turns = m.d ∷ m.a ∷ m.b ∷ m.c ∷ [];
      all = ap (λ l. m.d ∷ l) (ap (trail m.d) points ∙ way);
      drawn = (refl, r);
    })
kept p xs s m (z ∷ behind) e closed =
    let (w, f) = ends_in z behind in
    let g : m.behind ≡ w ++ (last_of z behind ∷ []) = e ∙ f in
    let points : xs ≡ m.before ++ four_turns m.a m.ab m.b m.bc m.c m.cd m.d (w ++ (last_of z behind ∷ [])) =
    subst (λ l. xs ≡ m.before ++ four_turns m.a m.ab m.b m.bc m.c m.cd m.d l) g m.points in
    let fourth : IsStraight m.d ((w ++ (last_of z behind ∷ [])) ++ m.before) m.a = subst (λ l. IsStraight m.d (l ++ m.before) m.a) g m.fourth in
    let end : last_of m.d (w ++ (last_of z behind ∷ [])) ≡ last_of z behind = last_append m.d w (last_of z behind) [] in
    let last : last_of z behind ≡ p =
    sym (last_turned p m.before m.a m.ab m.b m.bc m.c m.cd m.d (w ++ (last_of z behind ∷ [])) ∙ end) ∙ sym (ap (last_of p) points) ∙ closed in
    let way = from_inside m.a m.b m.c m.d s m.rectangle m.ab m.bc m.cd m.first m.second m.third m.before w (last_of z behind) fourth in
    subst (λ q. KeptRing q xs s) last
    (record {
      turns = last_of z behind ∷ m.a ∷ m.b ∷ m.c ∷ m.d ∷ [];
      all = ap (λ l. last_of z behind ∷ l) (ap (trail (last_of z behind)) points ∙ way.0);
      drawn = (refl, way.1, m.rectangle);
    })

-- ---- a ring is cut

-- the sides of a rectangle, of which the first are at the end of the ring
module _ (a b c d : Position) (s : Shape) (r : IsRectangle a b c d s) (i1 i2 i3 i4 : List Position) (first : IsStraight a i1 b)
    (second : IsStraight b i2 c) (third : IsStraight c i3 d) (fourth : IsStraight d i4 a) where
  -- cut after v, which ends within the first side
  cut_first : (xs v u t : List Position) (z : Position) → xs ≡ u ++ (z ∷ v) → a ∷ i1 ≡ (z ∷ v) ++ t
      → u ≡ t ++ ((b ∷ i2) ++ ((c ∷ i3) ++ (d ∷ i4))) → CutRing xs s
  cut_first xs v u t z e f g =
      let k : z ≡ a = sym (head_of a z i1 (v ++ t) f) in
      record {
        a = b;
        b = c;
        c = d;
        d = a;
        rectangle = from_next a b c d s r;
        ab = i2;
        bc = i3;
        cd = i4;
        before = t;
        behind = v;
        first = second;
        second = third;
        third = fourth;
        fourth = subst (λ l. IsStraight a l b) (tail_of a z i1 (v ++ t) f) first;
        points = e ∙ ap (λ l. l ++ (z ∷ v)) g ∙ simp append_assoc (ap (λ q. t ++ (b ∷ (i2 ++ (c ∷ (i3 ++ (d ∷ (i4 ++ (q ∷ v)))))))) k);
      }

abbrev four_sides : Position → List Position → Position → List Position → Position → List Position → Position → List Position → List Position
four_sides a i1 b i2 c i3 d i4 = (a ∷ i1) ++ ((b ∷ i2) ++ ((c ∷ i3) ++ (d ∷ i4)))

shorter : (z : Position) (v : List Position) (a : Position) (i : List Position) (t0 : Position) (t : List Position) (n : ℕ)
    → z ∷ v ≡ (a ∷ i) ++ (t0 ∷ t) → length v < suc n → length t < n
shorter z v a i t0 t n e l = omega (arith, ap length e, length-append i (t0 ∷ t))

-- cut anywhere: if the first side is before the cut, it is the last one of the ring that starts at
-- the next corner
cut : (n : ℕ) (a b c d : Position) (s : Shape) (r : IsRectangle a b c d s) (i1 i2 i3 i4 : List Position) → IsStraight a i1 b → IsStraight b i2 c
    → IsStraight c i3 d → IsStraight d i4 a → (xs : List Position) (z : Position) (v u : List Position) → xs ≡ u ++ (z ∷ v)
    → (z ∷ v) ++ u ≡ four_sides a i1 b i2 c i3 d i4 → length v < n → CutRing xs s
cut zero a b c d s r i1 i2 i3 i4 s1 s2 s3 s4 xs z v u e f l = absurd (omega arith)
cut (suc n) a b c d s r i1 i2 i3 i4 s1 s2 s3 s4 xs z v u e f l =
    elim (cuts z v u (a ∷ i1) ((b ∷ i2) ++ ((c ∷ i3) ++ (d ∷ i4))) f) [
      | Within t g k ↦ cut_first a b c d s r i1 i2 i3 i4 s1 s2 s3 s4 xs v u t z e g k
      | Behind t0 t g k ↦
          cut n b c d a s (from_next a b c d s r) i2 i3 i4 i1 s2 s3 s4 s1 xs t0 t (u ++ (a ∷ i1))
          (e ∙ ap (λ l. u ++ l) g ∙ sym (append_assoc u (a ∷ i1) (t0 ∷ t)))
          (sym (append_assoc (t0 ∷ t) u (a ∷ i1)) ∙ ap (λ l. l ++ (a ∷ i1)) k ∙ simp append_assoc)
          (shorter z v a i1 t0 t n g l)
    ]

module _ (a b c d : Position) (s : Shape) (r : IsRectangle a b c d s) (i1 i2 i3 i4 : List Position) (s1 : IsStraight a i1 b)
    (s2 : IsStraight b i2 c) (s3 : IsStraight c i3 d) (s4 : IsStraight d i4 a) where
  cut_anywhere : (xs v u : List Position) → xs ≡ u ++ v → v ++ u ≡ four_sides a i1 b i2 c i3 d i4 → CutRing xs s
  cut_anywhere xs [] u e f =
      let rest : List Position = i1 ++ ((b ∷ i2) ++ ((c ∷ i3) ++ (d ∷ i4))) in
      cut (suc (length rest)) a b c d s r i1 i2 i3 i4 s1 s2 s3 s4 xs a rest [] (e ∙ append-nil u ∙ f) (append-nil (a ∷ rest)) (omega arith)
  cut_anywhere xs (z ∷ v) u e f = cut (suc (length v)) a b c d s r i1 i2 i3 i4 s1 s2 s3 s4 xs z v u e f (omega arith)

pub ring_kept : (p : Position) (xs : List Position) (s : Shape) → RingOf p xs s → KeptRing p xs s
ring_kept p xs s m =
    let r = m.round in
    let ((i1, e1, s1), (i2, e2, s2), (i3, e3, s3), (i4, e4, s4)) = r.sides in
    let points : drop m.start xs ++ take m.start xs ≡ four_sides r.a i1 r.b i2 r.c i3 r.d i4 = rw (e1, e2, e3, e4) at r.points in
    let c = cut_anywhere r.a r.b r.c r.d s r.rectangle i1 i2 i3 i4 s1 s2 s3 s4 xs (drop m.start xs) (take m.start xs)
    (sym (take-append-drop m.start xs)) points in
    kept p xs s c c.behind refl m.closed

-- ---- what is kept of a ring is one

corner_ring : (p b c d : Position) (xs : List Position) (s : Shape) → trail p xs ≡ b ∷ c ∷ d ∷ p ∷ [] → IsRectangle p b c d s → RingOf p xs s
corner_ring p b c d xs s e r =
    let m1 = pass p xs b (c ∷ d ∷ p ∷ []) e in
    let m2 = pass b m1.rest c (d ∷ p ∷ []) m1.onward in
    let m3 = pass c m2.rest d (p ∷ []) m2.onward in
    let m4 = pass d m3.rest p [] m3.onward in
    let points : xs ≡ m1.inner ++ four_turns b m2.inner c m3.inner d m4.inner p [] =
    m1.split ∙ ap (λ l. m1.inner ++ (b ∷ l)) (m2.split ∙ ap (λ l. m2.inner ++ (c ∷ l)) (m3.split ∙ ap (λ l. m3.inner ++ (d ∷ l))
    (m4.split ∙ ap (λ l. m4.inner ++ (p ∷ l)) (passed_all p m4.rest m4.onward)))) in
    let r2 = from_next p b c d s r in
    let r3 = from_next b c d p s r2 in
    let r4 = from_next c d p b s r3 in
    let (h1, k1) = side_heading p b c d s r in
    let (h2, k2) = side_heading b c d p s r2 in
    let (h3, k3) = side_heading c d p b s r3 in
    let (h4, k4) = side_heading d p b c s r4 in
    record {
      closed = ap (last_of p) points ∙ last_turned p m1.inner b m2.inner c m3.inner d m4.inner p [];
      start = length m1.inner;
      round = record {
        a = b;
        b = c;
        c = d;
        d = p;
        rectangle = r2;
        ab = b ∷ m2.inner;
        bc = c ∷ m3.inner;
        cd = d ∷ m4.inner;
        da = p ∷ m1.inner;
        sides = (
          (m2.inner, refl, (h2, m2.straight h2 k2)),
          (m3.inner, refl, (h3, m3.straight h3 k3)),
          (m4.inner, refl, (h4, m4.straight h4 k4)),
          (m1.inner, refl, (h1, m1.straight h1 k1)),
        );
        points = ap (rotated (length m1.inner)) points ∙ rotated_front m1.inner (four_turns b m2.inner c m3.inner d m4.inner p []) ∙ simp append_assoc;
      };
    }

inside_ring : (p a b c d : Position) (xs : List Position) (s : Shape) → trail p xs ≡ a ∷ b ∷ c ∷ d ∷ p ∷ [] → is_straight d p a ≡ true
    → IsRectangle a b c d s → RingOf p xs s
inside_ring p a b c d xs s e t r =
    let m0 = pass p xs a (b ∷ c ∷ d ∷ p ∷ []) e in
    let m1 = pass a m0.rest b (c ∷ d ∷ p ∷ []) m0.onward in
    let m2 = pass b m1.rest c (d ∷ p ∷ []) m1.onward in
    let m3 = pass c m2.rest d (p ∷ []) m2.onward in
    let m4 = pass d m3.rest p [] m3.onward in
    let points : xs ≡ m0.inner ++ four_turns a m1.inner b m2.inner c m3.inner d (m4.inner ++ (p ∷ [])) =
    m0.split ∙ ap (λ l. m0.inner ++ (a ∷ l)) (m1.split ∙ ap (λ l. m1.inner ++ (b ∷ l)) (m2.split ∙ ap (λ l. m2.inner ++ (c ∷ l))
    (m3.split ∙ ap (λ l. m3.inner ++ (d ∷ l)) (m4.split ∙ ap (λ l. m4.inner ++ (p ∷ l)) (passed_all p m4.rest m4.onward))))) in
    let r2 = from_next a b c d s r in
    let r3 = from_next b c d a s r2 in
    let (h1, k1) = side_heading a b c d s r in
    let (h2, k2) = side_heading b c d a s r2 in
    let (h3, k3) = side_heading c d a b s r3 in
    let (h, i, o) = straight_means d p a t in
    let joined : Runs h (d ∷ ((m4.inner ++ (p ∷ m0.inner)) ++ (a ∷ []))) =
    subst (λ l. Runs h (d ∷ l)) (sym (append_assoc m4.inner (p ∷ m0.inner) (a ∷ [])))
    (run_join h d m4.inner p (m0.inner ++ (a ∷ [])) (m4.straight h i) (m0.straight h o)) in
    record {
      closed = ap (last_of p) points ∙ last_turned p m0.inner a m1.inner b m2.inner c m3.inner d (m4.inner ++ (p ∷ []))
          ∙ last_append d m4.inner p [];
      start = length m0.inner;
      round = record {
        a = a;
        b = b;
        c = c;
        d = d;
        rectangle = r;
        ab = a ∷ m1.inner;
        bc = b ∷ m2.inner;
        cd = c ∷ m3.inner;
        da = d ∷ (m4.inner ++ (p ∷ m0.inner));
        sides = (
          (m1.inner, refl, (h1, m1.straight h1 k1)),
          (m2.inner, refl, (h2, m2.straight h2 k2)),
          (m3.inner, refl, (h3, m3.straight h3 k3)),
          (m4.inner ++ (p ∷ m0.inner), refl, (h, joined)),
        );
        points = ap (rotated (length m0.inner)) points ∙ rotated_front m0.inner (four_turns a m1.inner b m2.inner c m3.inner d (m4.inner ++ (p ∷ [])))
            ∙ simp append_assoc;
      };
    }

pub kept_ring : (turns : List Position) (e p : Position) (xs : List Position) (s : Shape) → turns ++ e ∷ [] ≡ p ∷ trail p xs
    → DrawnBy Polygon turns e s → RingOf p xs s
kept_ring [] e p xs s f k = absurd k
kept_ring (a ∷ []) e p xs s f k = absurd k
kept_ring (a ∷ b ∷ []) e p xs s f k = absurd k
kept_ring (a ∷ b ∷ c ∷ []) e p xs s f k = absurd k
kept_ring (a ∷ b ∷ c ∷ d ∷ []) e p xs s f (same, r) =
    let first : a ≡ p = head_of a p (b ∷ c ∷ d ∷ e ∷ []) (trail p xs) f in
    corner_ring p b c d xs s (sym (tail_of a p (b ∷ c ∷ d ∷ e ∷ []) (trail p xs) f) ∙ ap (λ q. b ∷ c ∷ d ∷ q ∷ []) (same ∙ first))
    (subst (λ q. IsRectangle q b c d s) first r)
kept_ring (q ∷ a ∷ b ∷ c ∷ d ∷ []) e p xs s f (same, t, r) =
    let first : q ≡ p = head_of q p (a ∷ b ∷ c ∷ d ∷ e ∷ []) (trail p xs) f in
    inside_ring p a b c d xs s
    (sym (tail_of q p (a ∷ b ∷ c ∷ d ∷ e ∷ []) (trail p xs) f) ∙ ap (λ v. a ∷ b ∷ c ∷ d ∷ v ∷ []) (same ∙ first))
    (subst (λ v. is_straight d v a ≡ true) first t) r
kept_ring (q ∷ a ∷ b ∷ c ∷ d ∷ v ∷ vs) e p xs s f k = absurd k
