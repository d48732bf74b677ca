-- The feature that a lookup by number finds.
use Rattle.std.proofs.Common.{◌≡◌, ℕ, suc, ◌<◌, ◌⊎◌, inl, inr, Bool, true, false, List, [], ◌∷◌, Option, Some, None, length, get_or, refl, sym, ap, subst, ◌∙◌}
use Rattle.std.proofs.Common.{arith, AllPairs, Contains, nat_eq, cond, zero, eq-eqb}
use Rattle.std.specs.List.{find}
use Rattle.std.proofs.lemmas.Bool.{eqb-true}
use Rattle.std.proofs.lemmas.List.{get_or_default}
use Rattle.std.proofs.lemmas.List.Elements.{Contains-append_right}
use Rattle.std.proofs.lemmas.Grind.{common_steps}
use Rattle.std.proofs.lemmas.Bool.Decides.{nat_tests}
use Rattle.layer_core.specs.Layers.{Feature, has_number}

pub contains_at : {X : Type 0} (xs : List X) (k : ℕ) (d : X) → k < length xs → Contains xs (get_or xs k d)
contains_at xs k d within = (k, within, get_or_default xs k (get_or xs k d) d within)

pub contains_here : {X : Type 0} (x : X) (xs : List X) → Contains (x ∷ xs) x
contains_here x xs = (0, grind (arith, common_steps), refl)

pub contains_later : {X : Type 0} (x : X) (xs : List X) (y : X) → Contains xs y → Contains (x ∷ xs) y
contains_later x xs y h = Contains-append_right (x ∷ []) xs y h

pub contains_cases : {X : Type 0} (x : X) (xs : List X) (y : X) → Contains (x ∷ xs) y → (x ≡ y) ⊎ Contains xs y
contains_cases x xs y (zero, within, at) = inl at
contains_cases x xs y (suc k, within, at) = inr (k, omega arith, at)

first_taken : {X : Type 0} (b : Bool) (x : X) (rest : Option X) → b ≡ true → cond b (Some x) rest ≡ Some x
first_taken true x rest e = refl
first_taken false x rest e = absurd cc

first_passed : {X : Type 0} (b : Bool) (x : X) (rest : Option X) → b ≡ false → cond b (Some x) rest ≡ rest
first_passed true x rest e = absurd cc
first_passed false x rest e = refl

higher_differs : (a b : ℕ) → a < b → nat_eq b a ≡ false
higher_differs a b lower = grind (arith, nat_tests)

module _ {G : Type 0} where
  held_at : (fs : List (Feature G)) (f : Feature G) (k : ℕ) → AllPairs (λ a b. a.number < b.number) fs → k < length fs → get_or fs k f ≡ f
      → find (has_number f.number) fs ≡ Some f
  held_at [] f k rising within at = absurd (omega arith)
  held_at (g ∷ fs) f zero rising within at =
      let same : g ≡ f = at in
      first_taken (nat_eq f.number g.number) g (find (has_number f.number) fs) (eq-eqb f.number g.number (ap (λ (h : Feature G). h.number)
      (sym same))) ∙ ap Some same
  held_at (g ∷ fs) f (suc k) rising within at =
      let lower = rising 0 (suc k) f (omega arith) within in
      let at_f : get_or (g ∷ fs) (suc k) f ≡ f = at in
      first_passed (nat_eq f.number g.number) g (find (has_number f.number) fs)
      (higher_differs g.number f.number (subst (λ (h : Feature G). g.number < h.number) at_f lower))
      ∙ held_at fs f k (λ i j d lt later. rising (suc i) (suc j) d (omega arith) (omega arith)) (omega arith) at

  -- a lookup by number finds the feature that has it
  pub held_by_number : (fs : List (Feature G)) (f : Feature G) → AllPairs (λ a b. a.number < b.number) fs → Contains fs f → find (has_number f.number) fs ≡ Some f
  held_by_number fs f rising c = held_at fs f c.0 rising c.1 c.2

  listed_from : (n : ℕ) (g f : Feature G) (fs : List (Feature G)) (b : Bool) → nat_eq n g.number ≡ b → cond b (Some g) (find (has_number n) fs) ≡ Some f
      → (find (has_number n) fs ≡ Some f → Contains fs f × (f.number ≡ n)) → Contains (g ∷ fs) f × (f.number ≡ n)
  listed_from n g f fs true t e later =
      let same : g ≡ f = cc in
      (subst (λ (h : Feature G). Contains (g ∷ fs) h) same (contains_here g fs), ap (λ (h : Feature G). h.number) (sym same) ∙ sym (eqb-true n g.number t))
  listed_from n g f fs false t e later = (contains_later g fs f (later e).0, (later e).1)

  -- the feature that a lookup finds has that number
  pub listed_by_number : (fs : List (Feature G)) (n : ℕ) (f : Feature G) → find (has_number n) fs ≡ Some f → Contains fs f × (f.number ≡ n)
  listed_by_number [] n f e = absurd (let bad : None ≡ Some f = e in cc)
  listed_by_number (g ∷ fs) n f e = listed_from n g f fs (nat_eq n g.number) refl e (listed_by_number fs n f)
