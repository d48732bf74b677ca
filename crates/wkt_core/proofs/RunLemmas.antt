-- Points without repeats: at which of them the path turns.
use Rattle.std.proofs.Common.{◌≡◌, true, cond, List, [], ◌∷◌, ◌++◌, get_or, drop, refl, sym, ◌∙◌, ap, subst}
use Rattle.wkt_core.specs.declared.position.Position.{Position}
use Rattle.wkt_core.specs.Drawing.{Heading, Heads, Runs}
use Rattle.wkt_core.specs.Walks.{is_straight}
use Rattle.number_core.proofs.NumberLemmas.{by_bool}
use Rattle.wkt_core.proofs.HeadingLemmas.{heads_on, straight_on, heads_between, turn_false}

-- the turns after p, on a path from p to q and on, with its end
abbrev pub bends : Position → Position → List Position → List Position
bends p q [] = q ∷ []
bends p q (r ∷ rs) = cond (is_straight p q r) (bends p r rs) (q ∷ bends q r rs)

abbrev pub trail : Position → List Position → List Position
trail p [] = []
trail p (q ∷ rs) = bends p q rs

-- ---- a straight run has no turn

collapse : (h : Heading) (p q : Position) (xs : List Position) (b : Position) (rest : List Position)
    → Runs h (p ∷ q ∷ (xs ++ (b ∷ []))) → bends p q (xs ++ (b ∷ rest)) ≡ bends p b rest
collapse h p q [] b rest r = rw (straight_on h p q b r.0 r.1.0) refl
collapse h p q (x ∷ xs) b rest r =
    rw (straight_on h p q x r.0 r.1.0) (collapse h p x xs b rest (heads_on h p q x r.0 r.1.0, r.1.1))

pub along : (h : Heading) (p : Position) (xs : List Position) (b : Position) (rest : List Position)
    → Runs h (p ∷ (xs ++ (b ∷ []))) → trail p (xs ++ (b ∷ rest)) ≡ bends p b rest
along h p [] b rest r = refl
along h p (q ∷ xs) b rest r = collapse h p q xs b rest r

pub run_heads : (h : Heading) (p : Position) (xs : List Position) (b : Position) → Runs h (p ∷ (xs ++ (b ∷ []))) → Heads h p b
run_heads h p [] b r = r.0
run_heads h p (x ∷ xs) b r = heads_on h p x b r.0 (run_heads h x xs b r.1)

-- from p to a in one heading, and from there over xs to b in another
pub turned : (g h : Heading) (p a : Position) (xs : List Position) (b : Position) (rest : List Position) → Heads g p a
    → Runs h (a ∷ (xs ++ (b ∷ []))) → (g ≡ h → ⊥) → bends p a (xs ++ (b ∷ rest)) ≡ a ∷ bends a b rest
turned g h p a [] b rest into out apart = rw (turn_false g h p a b into out.0 apart) refl
turned g h p a (x ∷ xs) b rest into out apart =
    rw (turn_false g h p a x into out.0 apart) (ap (λ l. a ∷ l) (collapse h a x xs b rest out))

-- ---- runs cut and joined

pub run_split : (h : Heading) (p : Position) (xs : List Position) (q : Position) (ys : List Position) → Runs h (p ∷ (xs ++ (q ∷ ys)))
    → Runs h (p ∷ (xs ++ (q ∷ []))) × Runs h (q ∷ ys)
run_split h p [] q ys r = ((r.0, tt), r.1)
run_split h p (x ∷ xs) q ys r = let (a, b) = run_split h x xs q ys r.1 in ((r.0, a), b)

pub run_join : (h : Heading) (p : Position) (xs : List Position) (q : Position) (ys : List Position) → Runs h (p ∷ (xs ++ (q ∷ [])))
    → Runs h (q ∷ ys) → Runs h (p ∷ (xs ++ (q ∷ ys)))
run_join h p [] q ys r t = (r.0, t)
run_join h p (x ∷ xs) q ys r t = (r.0, run_join h x xs q ys r.1 t)

-- ---- up to the first turn

-- the points up to the first of the turns, those between, and the rest
record Leg (p : Position) (xs vs : List Position) : Type 0 where
  v : Position
  inner : List Position
  rest : List Position
  split : xs ≡ inner ++ (v ∷ rest)
  bent : vs ≡ v ∷ trail v rest
  straight : (h : Heading) → Heads h p v → Runs h (p ∷ (inner ++ (v ∷ [])))

first_of_list : (r v : Position) (rs rest : List Position) → r ∷ rs ≡ v ∷ rest → r ≡ v
first_of_list r v rs rest e = ap (λ l. get_or l 0 r) e

lengthened : (h : Heading) (p q r v : Position) (inner rest rs : List Position) → r ∷ rs ≡ inner ++ (v ∷ rest) → is_straight p q r ≡ true
    → Runs h (p ∷ (inner ++ (v ∷ []))) → Runs h (p ∷ q ∷ (inner ++ (v ∷ [])))
lengthened h p q r v [] rest rs e t run =
    let same = first_of_list r v rs rest e in
    let k = heads_between p q v h (subst (λ w. is_straight p q w ≡ true) same t) run.0 in
    (k.0, (k.1, tt))
lengthened h p q r v (x ∷ inner) rest rs e t run =
    let same = first_of_list r x rs (inner ++ (v ∷ rest)) e in
    let k = heads_between p q x h (subst (λ w. is_straight p q w ≡ true) same t) run.0 in
    (k.0, (k.1, run.1))

leg : (p q : Position) (rs : List Position) → Leg p (q ∷ rs) (bends p q rs)
leg p q [] = record { v = q; inner = []; rest = []; split = refl; bent = refl; straight = λ h k. (k, tt) }
leg p q (r ∷ rs) =
    by_bool (is_straight p q r)
    (λ t. let m = leg p r rs in
    rw t (record {
      v = m.v;
      inner = q ∷ m.inner;
      rest = m.rest;
      split = ap (λ l. q ∷ l) m.split;
      bent = m.bent;
      straight = λ h k. lengthened h p q r m.v m.inner m.rest rs m.split t (m.straight h k);
    }))
    (λ f. rw f (record { v = q; inner = []; rest = r ∷ rs; split = refl; bent = refl; straight = λ h k. (k, tt) }))

-- the same, if the first turn v is known
pub record Passed (p : Position) (xs : List Position) (v : Position) (vs : List Position) : Type 0 where
  pub inner : List Position
  pub rest : List Position
  pub split : xs ≡ inner ++ (v ∷ rest)
  pub onward : trail v rest ≡ vs
  pub straight : (h : Heading) → Heads h p v → Runs h (p ∷ (inner ++ (v ∷ [])))

passed : (p : Position) (xs ws : List Position) (v : Position) (vs : List Position) (m : Leg p xs ws) → ws ≡ v ∷ vs → Passed p xs v vs
passed p xs ws v vs m e =
    let f : m.v ∷ trail m.v m.rest ≡ v ∷ vs = sym m.bent ∙ e in
    let same : m.v ≡ v = first_of_list m.v v (trail m.v m.rest) vs f in
    let further : trail m.v m.rest ≡ vs = ap (λ l. drop 1 l) f in
    let base : Passed p xs m.v vs = record { inner = m.inner; rest = m.rest; split = m.split; onward = further; straight = m.straight } in
    subst (λ w. Passed p xs w vs) same base

pub pass : (p : Position) (xs : List Position) (v : Position) (vs : List Position) → trail p xs ≡ v ∷ vs → Passed p xs v vs
pass p [] v vs e = absurd (cc)
pass p (q ∷ rs) v vs e = passed p (q ∷ rs) (bends p q rs) v vs (leg p q rs) e

pub passed_all : (p : Position) (xs : List Position) → trail p xs ≡ [] → xs ≡ []
passed_all p [] e = refl
passed_all p (q ∷ rs) e = let f : [] ≡ (leg p q rs).v ∷ trail (leg p q rs).v (leg p q rs).rest = sym e ∙ (leg p q rs).bent in absurd (cc)
