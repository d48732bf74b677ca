-- Directions: how one point lies from another, and which three points are on a straight path.
use Rattle.std.proofs.Common.{◌≡◌, ◌≢◌, Bool, true, false, ◌&&◌, ◌||◌, ◌⊎◌, inl, inr, refl, sym, ◌∙◌, ap, subst, ⊎_elim, arith, ℤ}
use Rattle.std.specs.Prelude.{◌<ℤ◌, int_lt}
use Rattle.std.specs.Ordering.{int_eq}
use Rattle.std.proofs.lemmas.Bool.{false≢true}
use Rattle.std.proofs.lemmas.Bool.Decides.{Decides-int_eq}
use Rattle.std.proofs.lemmas.Cmp.{int_eq_equiv}
use Rattle.std.proofs.lemmas.Int.{ints, by_lt_z}
use Rattle.number_core.proofs.NumberLemmas.{by_bool}
use Rattle.wkt_core.specs.declared.position.Position.{Position}
use Rattle.wkt_core.specs.Drawing.{Heading, East, North, West, South, Heads, is_same}
use Rattle.wkt_core.specs.Walks.{is_inside, is_straight}

pub same_position : (p q : Position) → p.x ≡ q.x → p.y ≡ q.y → p ≡ q
same_position p q e f = λ i. record { x = e i; y = f i }

-- ---- tests

pub both_parts : (a b : Bool) → (a && b) ≡ true → (a ≡ true) × (b ≡ true)
both_parts true b h = (refl, h)
both_parts false b h = absurd (false≢true h)

-- the meaning of a test of two positions, in either order
pub told_same : (p q : Position) (test answer : Bool) → test ≡ is_same p q → test ≡ answer → is_same p q ≡ answer
told_same p q test answer e f = sym e ∙ f

pub told_turned : (p q : Position) (test answer : Bool) → test ≡ is_same q p → test ≡ answer → is_same p q ≡ answer
told_turned p q test answer e f = rw (int_eq_equiv.symm p.x q.x, int_eq_equiv.symm p.y q.y) (sym e ∙ f)

pub ruleset same_told = (told_same, told_turned)

and_true : (a b : Bool) → a ≡ true → b ≡ true → (a && b) ≡ true
and_true true b e f = f
and_true false b e f = e

either : (a b : Bool) → (a || b) ≡ true → (a ≡ true) ⊎ (b ≡ true)
either true b h = inl refl
either false b h = inr h

or_left : (a b : Bool) → a ≡ true → (a || b) ≡ true
or_left true b e = refl
or_left false b e = absurd (false≢true e)

or_right : (a b : Bool) → b ≡ true → (a || b) ≡ true
or_right true b e = refl
or_right false b e = e

lt_true : (a b : ℤ) → a <ℤ b → int_lt a b ≡ true
lt_true a b h = grind (arith, ints)

true_lt : (a b : ℤ) → int_lt a b ≡ true → a <ℤ b
true_lt a b h = grind (arith, ints)

eq_true : (a b : ℤ) → a ≡ b → int_eq a b ≡ true
eq_true a b e = (Decides-int_eq a b).1 e

true_eq : (a b : ℤ) → int_eq a b ≡ true → a ≡ b
true_eq a b e = (Decides-int_eq a b).0 e

inside_up : (a b c : ℤ) → a <ℤ b → b <ℤ c → is_inside a b c ≡ true
unfolding is_inside
inside_up a b c h k = or_left _ _ (and_true _ _ (lt_true a b h) (lt_true b c k))

inside_down : (a b c : ℤ) → b <ℤ a → c <ℤ b → is_inside a b c ≡ true
unfolding is_inside
inside_down a b c h k = or_right _ _ (and_true _ _ (lt_true c b k) (lt_true b a h))

inside_means : (a b c : ℤ) → is_inside a b c ≡ true → ((a <ℤ b) × (b <ℤ c)) ⊎ ((c <ℤ b) × (b <ℤ a))
unfolding is_inside
inside_means a b c h =
    ⊎_elim (λ u. let k = both_parts _ _ u in inl (true_lt a b k.0, true_lt b c k.1))
    (λ u. let k = both_parts _ _ u in inr (true_lt c b k.0, true_lt b a k.1)) (either _ _ h)

pub same_true : (p q : Position) → is_same p q ≡ true → p ≡ q
same_true p q h = let k = both_parts _ _ h in same_position p q (true_eq p.x q.x k.0) (true_eq p.y q.y k.1)

pub differ_false : (p q : Position) → p ≢ q → is_same p q ≡ false
differ_false p q d = by_bool (is_same p q) (λ t. absurd (d (same_true p q t))) (λ f. f)

-- ---- headings

pub heads_differ : (h : Heading) (p q : Position) → Heads h p q → p ≢ q
heads_differ East p q k e = let x : p.x ≡ q.x = ap (λ r. r.x) e in omega (arith, ints)
heads_differ North p q k e = let y : p.y ≡ q.y = ap (λ r. r.y) e in omega (arith, ints)
heads_differ West p q k e = let x : p.x ≡ q.x = ap (λ r. r.x) e in omega (arith, ints)
heads_differ South p q k e = let y : p.y ≡ q.y = ap (λ r. r.y) e in omega (arith, ints)

pub heads_parallel : (h : Heading) (p q : Position) → Heads h p q → (p.x ≡ q.x) ⊎ (p.y ≡ q.y)
heads_parallel East p q k = inr k.0
heads_parallel North p q k = inl k.0
heads_parallel West p q k = inr k.0
heads_parallel South p q k = inl k.0

pub heads_on : (h : Heading) (p q r : Position) → Heads h p q → Heads h q r → Heads h p r
heads_on East p q r a b = (a.0 ∙ b.0, omega (arith, ints))
heads_on North p q r a b = (a.0 ∙ b.0, omega (arith, ints))
heads_on West p q r a b = (a.0 ∙ b.0, omega (arith, ints))
heads_on South p q r a b = (a.0 ∙ b.0, omega (arith, ints))

pub one_heading : (g h : Heading) (p q : Position) → Heads g p q → Heads h p q → g ≡ h
one_heading East East p q a b = refl
one_heading East North p q a b = absurd (omega (arith, ints))
one_heading East West p q a b = absurd (omega (arith, ints))
one_heading East South p q a b = absurd (omega (arith, ints))
one_heading North East p q a b = absurd (omega (arith, ints))
one_heading North North p q a b = refl
one_heading North West p q a b = absurd (omega (arith, ints))
one_heading North South p q a b = absurd (omega (arith, ints))
one_heading West East p q a b = absurd (omega (arith, ints))
one_heading West North p q a b = absurd (omega (arith, ints))
one_heading West West p q a b = refl
one_heading West South p q a b = absurd (omega (arith, ints))
one_heading South East p q a b = absurd (omega (arith, ints))
one_heading South North p q a b = absurd (omega (arith, ints))
one_heading South West p q a b = absurd (omega (arith, ints))
one_heading South South p q a b = refl

along_y : (p q : Position) → p.x ≡ q.x → p ≢ q → (h : Heading) × Heads h p q
along_y p q e d =
    by_lt_z p.y q.y (λ l. (North, (e, l)))
    (λ m. by_lt_z q.y p.y (λ l. (South, (e, l))) (λ n. absurd (d (same_position p q e (omega (arith, ints))))))

along_x : (p q : Position) → p.y ≡ q.y → p ≢ q → (h : Heading) × Heads h p q
along_x p q e d =
    by_lt_z p.x q.x (λ l. (East, (e, l)))
    (λ m. by_lt_z q.x p.x (λ l. (West, (e, l))) (λ n. absurd (d (same_position p q (omega (arith, ints)) e))))

-- two different points that share a coordinate lie in some heading
pub heading_of : (p q : Position) → (p.x ≡ q.x) ⊎ (p.y ≡ q.y) → p ≢ q → (h : Heading) × Heads h p q
heading_of p q (inl e) d = along_y p q e d
heading_of p q (inr e) d = along_x p q e d

-- ---- straight on

pub straight_on : (h : Heading) (p q r : Position) → Heads h p q → Heads h q r → is_straight p q r ≡ true
straight_on East p q r a b = or_right _ _ (and_true _ _ (eq_true p.y q.y a.0) (and_true _ _ (eq_true q.y r.y b.0) (inside_up p.x q.x r.x a.1 b.1)))
straight_on North p q r a b = or_left _ _ (and_true _ _ (eq_true p.x q.x a.0) (and_true _ _ (eq_true q.x r.x b.0) (inside_up p.y q.y r.y a.1 b.1)))
straight_on West p q r a b = or_right _ _ (and_true _ _ (eq_true p.y q.y a.0) (and_true _ _ (eq_true q.y r.y b.0) (inside_down p.x q.x r.x a.1 b.1)))
straight_on South p q r a b = or_left _ _ (and_true _ _ (eq_true p.x q.x a.0) (and_true _ _ (eq_true q.x r.x b.0) (inside_down p.y q.y r.y a.1 b.1)))

abbrev LiesStraight : Position → Position → Position → Type 0
LiesStraight p q r = (h : Heading) × Heads h p q × Heads h q r

upright : (p q r : Position) → p.x ≡ q.x → q.x ≡ r.x → is_inside p.y q.y r.y ≡ true → LiesStraight p q r
upright p q r e f t =
    ⊎_elim (λ k. (North, (e, k.0), (f, k.1))) (λ k. (South, (e, k.1), (f, k.0))) (inside_means p.y q.y r.y t)

level : (p q r : Position) → p.y ≡ q.y → q.y ≡ r.y → is_inside p.x q.x r.x ≡ true → LiesStraight p q r
level p q r e f t =
    ⊎_elim (λ k. (East, (e, k.0), (f, k.1))) (λ k. (West, (e, k.1), (f, k.0))) (inside_means p.x q.x r.x t)

pub straight_means : (p q r : Position) → is_straight p q r ≡ true → (h : Heading) × Heads h p q × Heads h q r
straight_means p q r t =
    ⊎_elim (λ u. let k = both_parts _ _ u in let l = both_parts _ _ k.1 in upright p q r (true_eq p.x q.x k.0) (true_eq q.x r.x l.0) l.1)
    (λ u. let k = both_parts _ _ u in let l = both_parts _ _ k.1 in level p q r (true_eq p.y q.y k.0) (true_eq q.y r.y l.0) l.1)
    (either _ _ t)

-- a point straight between two others is in the direction of the whole
pub heads_between : (p q r : Position) (h : Heading) → is_straight p q r ≡ true → Heads h p r → Heads h p q × Heads h q r
heads_between p q r h t k =
    let (g, i, o) = straight_means p q r t in
    let e : g ≡ h = one_heading g h p r (heads_on g p q r i o) k in
    (subst (λ v. Heads v p q) e i, subst (λ v. Heads v q r) e o)

-- two headings that differ don't lie straight
pub turn_false : (g h : Heading) (p q r : Position) → Heads g p q → Heads h q r → (g ≡ h → ⊥) → is_straight p q r ≡ false
turn_false g h p q r into out apart =
    by_bool (is_straight p q r)
    (λ t. let (k, i, o) = straight_means p q r t in absurd (apart (one_heading g k p q into i ∙ one_heading k h q r o out)))
    (λ f. f)
