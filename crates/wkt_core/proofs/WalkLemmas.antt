-- The points that a walk with room for six turns keeps of its path.
use Rattle.std.proofs.Common.{◌≡◌, ℕ, ◌<◌, ◌≤◌, true, false, List, [], ◌∷◌, ◌++◌, ◌⊎◌, inl, inr, Option, Some, None, Result, Ok, Err, length, take, refl, sym}
use Rattle.std.proofs.Common.{◌∙◌, ap, subst, ⊎_elim, arith}
use Rattle.std.specs.Prelude.{OnOk, OnErr, IsOk, nat_lt}
use Rattle.std.proofs.lemmas.Bool.Decides.{nat_tests}
use Rattle.std.proofs.lemmas.List.{take_all, take-take, take-append-le, length-take, length-append}
use Rattle.geom_core.specs.declared.shape.Shape.{Shape}
use Rattle.wkt_core.specs.declared.keyword.Keyword.{Keyword}
use Rattle.wkt_core.specs.declared.keyword.Keyword.TheVariants.{Point, LineString, Polygon}
use Rattle.wkt_core.specs.declared.position.Position.{Position}
use Rattle.wkt_core.specs.declared.walk.Walk.{Walk}
use Rattle.wkt_core.specs.Drawing.{is_same}
use Rattle.wkt_core.specs.Walks.{Way, goes_on, stepped, way_of, IsKeptOf, DrawnBy, IsDrawnBy}
use Rattle.number_core.proofs.NumberLemmas.{by_bool}
use Rattle.wkt_core.proofs.WayLemmas.{way_more}

-- the walk after one step, by the points that it kept before
pub record IsStepped (items : List Position) (before : Option Position) (p : Position) (new : Walk) : Type 0 where
  pub turns : new.turns.items ≡ take 6 (stepped items before p).turns
  pub last : new.last ≡ (stepped items before p).last

few_or_more : (n : ℕ) → (n < 6) ⊎ (6 ≤ n)
few_or_more n = by_bool (nat_lt n 6) (λ t. inl (grind (arith, nat_tests))) (λ f. inr (grind (arith, nat_tests)))

-- if there are six turns, further ones have no effect
step_full : (turns : List Position) (last : Option Position) (p : Position) → 6 ≤ length turns
    → (take 6 (stepped turns last p).turns ≡ take 6 turns) × (6 ≤ length (stepped turns last p).turns)
step_full turns None p l = (refl, l)
step_full turns (Some q) p l =
    by_bool (is_same q p) (λ t. rw t (refl, l))
    (λ f. rw f (by_bool (goes_on turns q p) (λ t. rw t (refl, l))
    (λ g. rw g (take-append-le 6 turns (q ∷ []) l, omega (arith, length-append turns (q ∷ []))))))

step_kept : (old new : Walk) (w : Way) (p : Position) → IsKeptOf old w → IsStepped old.turns.items old.last p new
    → IsKeptOf new (stepped w.turns w.last p)
step_kept old new w p k m =
    ⊎_elim
    (λ l. let same : old.turns.items ≡ w.turns = k.turns ∙ take_all 6 w.turns (omega arith) in
    let m2 : IsStepped w.turns w.last p new =
    subst (λ o. IsStepped w.turns o p new) (k.last l) (subst (λ t. IsStepped t old.last p new) same m) in
    record { turns = m2.turns; last = λ few. m2.last })
    (λ l. let six : 6 ≤ length old.turns.items = omega (arith, ap length k.turns, length-take 6 w.turns) in
    let full = step_full w.turns w.last p l in
    let all : take 6 old.turns.items ≡ take 6 w.turns = ap (take 6) k.turns ∙ take-take 6 6 w.turns (omega arith) in
    record { turns = m.turns ∙ (step_full old.turns.items old.last p six).0 ∙ all ∙ sym full.0; last = λ few. absurd (omega (arith, full.1)) })
    (few_or_more (length w.turns))

pub walk_more : (old new : Walk) (ps : List Position) (p : Position) → IsKeptOf old (way_of ps) → IsStepped old.turns.items old.last p new
    → IsKeptOf new (way_of (ps ++ p ∷ []))
walk_more old new ps p k m =
    subst (IsKeptOf new) (sym (way_more (record { turns = []; last = None }) ps p)) (step_kept old new (way_of ps) p k m)

-- no more turns are kept than there is room for
pub few_kept : (walk : Walk) (w : Way) → IsKeptOf walk w → length walk.turns.items ≤ 6
few_kept walk w k = omega (arith, ap length k.turns, length-take 6 w.turns)

-- ---- the steps of the code

pub step_first : (items : List Position) (last : Option Position) (p : Position) (new : Walk) → length items ≤ 6 → last ≡ None
    → new.turns.items ≡ items → new.last ≡ Some p → IsStepped items last p new
step_first items last p new l e f g = rw e (record { turns = f ∙ sym (take_all 6 items l); last = g })

module _ (items : List Position) (last : Option Position) (q p : Position) (new : Walk) (l : length items ≤ 6) (here : last ≡ Some q) where
  stepped_to : (w : Way) → stepped items (Some q) p ≡ w → new.turns.items ≡ take 6 w.turns → new.last ≡ w.last → IsStepped items last p new
  stepped_to w e f g =
      let m : IsStepped items (Some q) p new = record {
        turns = f ∙ sym (ap (λ v. take 6 v.turns) e);
        last = g ∙ sym (ap (λ v. v.last) e);
      } in
      subst (λ o. IsStepped items o p new) (sym here) m

  pub step_same : is_same q p ≡ true → new.turns.items ≡ items → new.last ≡ last → IsStepped items last p new
  step_same t f g = stepped_to (record { turns = items; last = Some q }) (rw t refl) (f ∙ sym (take_all 6 items l)) (g ∙ here)

  pub step_on : is_same q p ≡ false → goes_on items q p ≡ true → new.turns.items ≡ items → new.last ≡ Some p → IsStepped items last p new
  step_on d t f g = stepped_to (record { turns = items; last = Some p }) (rw (d, t) refl) (f ∙ sym (take_all 6 items l)) g

  pub step_turned : is_same q p ≡ false → goes_on items q p ≡ false → new.turns.items ≡ take 6 (items ++ q ∷ []) → new.last ≡ Some p
      → IsStepped items last p new
  step_turned d t f g = stepped_to (record { turns = items ++ q ∷ []; last = Some p }) (rw (d, t) refl) f g

-- a turn is kept if there is room
pub turn_kept : {A B V : Type 0} (items : V → List Position) (r : Result A B) (old new : V) (q : Position) → length (items old) ≤ 6
    → OnOk r (items new ≡ items old ++ q ∷ []) → (IsOk r → length (items old) < 6) → OnErr r (new ≡ old) → OnErr r (length (items old) ≡ 6)
    → items new ≡ take 6 (items old ++ q ∷ [])
turn_kept items (Ok x) old new q l ok room err full =
    let few : length (items old) < 6 = room refl in
    ok ∙ sym (take_all 6 (items old ++ q ∷ []) (omega (arith, length-append (items old) (q ∷ []))))
turn_kept items (Err x) old new q l ok room err full =
    ap items err ∙ sym (take_all 6 (items old) l) ∙ sym (take-append-le 6 (items old) (q ∷ []) (omega arith))

-- ---- what is drawn

few_turns : (keyword : Keyword) (turns : List Position) (p : Position) (s : Shape) → DrawnBy keyword turns p s → length turns < 6
few_turns Point [] p s h = omega arith
few_turns Point (a ∷ turns) p s h = absurd h
few_turns LineString [] p s h = absurd h
few_turns LineString (a ∷ []) p s h = omega arith
few_turns LineString (a ∷ b ∷ turns) p s h = absurd h
few_turns Polygon [] p s h = absurd h
few_turns Polygon (a ∷ []) p s h = absurd h
few_turns Polygon (a ∷ b ∷ []) p s h = absurd h
few_turns Polygon (a ∷ b ∷ c ∷ []) p s h = absurd h
few_turns Polygon (a ∷ b ∷ c ∷ d ∷ []) p s h = omega arith
few_turns Polygon (q ∷ a ∷ b ∷ c ∷ d ∷ []) p s h = omega arith
few_turns Polygon (q ∷ a ∷ b ∷ c ∷ d ∷ e ∷ turns) p s h = absurd h

few_drawn : (keyword : Keyword) (turns : List Position) (last : Option Position) (s : Shape) → IsDrawnBy keyword turns last s → length turns < 6
few_drawn keyword turns None s h = absurd h
few_drawn keyword turns (Some p) s h = few_turns keyword turns p s h

pub walk_drawn : (keyword : Keyword) (walk : Walk) (w : Way) (s : Shape) → IsKeptOf walk w → IsDrawnBy keyword walk.turns.items walk.last s
    → IsDrawnBy keyword w.turns w.last s
walk_drawn keyword walk w s k h =
    let l : length w.turns < 6 = omega (arith, few_drawn keyword walk.turns.items walk.last s h, ap length k.turns, length-take 6 w.turns) in
    subst (λ o. IsDrawnBy keyword w.turns o s) (k.last l)
    (subst (λ t. IsDrawnBy keyword t walk.last s) (k.turns ∙ take_all 6 w.turns (omega arith)) h)

pub drawn_walk : (keyword : Keyword) (walk : Walk) (w : Way) (s : Shape) → IsKeptOf walk w → IsDrawnBy keyword w.turns w.last s
    → IsDrawnBy keyword walk.turns.items walk.last s
drawn_walk keyword walk w s k h =
    let l : length w.turns < 6 = few_drawn keyword w.turns w.last s h in
    subst (λ o. IsDrawnBy keyword walk.turns.items o s) (sym (k.last l))
    (subst (λ t. IsDrawnBy keyword t w.last s) (sym (k.turns ∙ take_all 6 w.turns (omega arith))) h)
