-- Items one after another: the items read so far, and the only way to go on.
use Rattle.std.proofs.Common.{◌≡◌, ℕ, ◌<◌, ◌≤◌, List, [], ◌∷◌, ◌++◌, ◌⊎◌, inl, inr, length, get_or, drop, refl, sym, ◌∙◌, ap, subst, ⊎_elim, arith}
use Rattle.wkt_core.specs.TokenSteps.{skip}
use Rattle.wkt_core.specs.ListSteps.{Items, Begun, Enclosed}
use Rattle.wkt_core.proofs.FrontLemmas.{length-skip}

-- a text begins with one value, and leaves one rest
pub record IsExact {X : Type 0} (Item : List ℕ → X → List ℕ → Type 0) : Type 0 where
  pub value : (text : List ℕ) (x y : X) (r s : List ℕ) → Item text x r → Item text y s → x ≡ y
  pub rest : (text : List ℕ) (x y : X) (r s : List ℕ) → Item text x r → Item text y s → r ≡ s
  pub shorter : (text : List ℕ) (x : X) (r : List ℕ) → Item text x r → length r ≤ length text

pub no_comma_ends : (u e : List ℕ) → 44 ∷ u ≡ 41 ∷ e → ⊥
no_comma_ends u e h = let heads = ap (λ text. get_or text 0 0) h in omega (arith, heads)

pub same_rest : (u v : List ℕ) → 44 ∷ u ≡ 44 ∷ v → u ≡ v
same_rest u v h = ap (drop 1) h

module _ {X : Type 0} (Item : List ℕ → X → List ℕ → Type 0) where
  pub begun_more : (xs : List X) (x : X) (t r m u : List ℕ) → Begun Item xs t r → Item (skip r) x m → skip m ≡ 44 ∷ u → Begun Item (xs ++ x ∷ []) t u
  begun_more [] x t r m u b i e = (m, u, subst (λ v. Item (skip v) x m) b i, e, refl)
  begun_more (y ∷ xs) x t r m u (n, v, j, f, b) i e = (n, v, j, f, begun_more xs x v r m u b i e)

  pub items_ended : (xs : List X) (x : X) (t r m e : List ℕ) → Begun Item xs t r → Item (skip r) x m → skip m ≡ 41 ∷ e → Items Item (xs ++ x ∷ []) t e
  items_ended [] x t r m e b i h = (m, subst (λ v. Item (skip v) x m) b i, h)
  items_ended (y ∷ []) x t r m e (n, v, j, f, b) i h = (n, v, j, f, items_ended [] x v r m e b i h)
  items_ended (y ∷ z ∷ xs) x t r m e (n, v, j, f, b) i h = (n, v, j, f, items_ended (z ∷ xs) x v r m e b i h)

  -- whoever has read items so far is on the way of each reading of the whole
  pub on_the_way : IsExact Item → (xs ys : List X) (t r e : List ℕ) → Begun Item xs t r → Items Item ys t e → (zs : List X) × Items Item zs r e
  on_the_way exact [] ys t r e b h = (ys, subst (λ v. Items Item ys v e) (sym b) h)
  on_the_way exact (x ∷ xs) [] t r e b h = absurd h
  on_the_way exact (x ∷ xs) (y ∷ []) t r e (m, u, i, f, b) (n, j, g) =
      let same : m ≡ n = exact.rest (skip t) x y m n i j in
      absurd (no_comma_ends u e (sym f ∙ ap skip same ∙ g))
  on_the_way exact (x ∷ xs) (y ∷ z ∷ ys) t r e (m, u, i, f, b) (n, v, j, g, h) =
      let same : m ≡ n = exact.rest (skip t) x y m n i j in
      let here : u ≡ v = same_rest u v (sym f ∙ ap skip same ∙ g) in
      on_the_way exact xs (z ∷ ys) u r e b (subst (λ w. Items Item (z ∷ ys) w e) (sym here) h)

  -- a list starts with an item, followed by a comma or the end
  first_item : (xs : List X) (t e : List ℕ) → Items Item xs t e
      → (x : X) × (m : List ℕ) × Item (skip t) x m × ((skip m ≡ 41 ∷ e) ⊎ ((u : List ℕ) × (skip m ≡ 44 ∷ u)))
  first_item [] t e h = absurd h
  first_item (x ∷ []) t e (m, i, h) = (x, m, i, inl h)
  first_item (x ∷ y ∷ xs) t e (m, u, i, h, r) = (x, m, i, inr (u, h))

  module _ (exact : IsExact Item) (start rest : List ℕ) (done : List X) (begun : Begun Item done start rest) (text : List ℕ)
      (open_at : text ≡ 40 ∷ start) where
    ahead : (xs : List X) (e : List ℕ) → Enclosed Item text xs e → (zs : List X) × Items Item zs rest e
    ahead xs e (u, p, h) =
        let same : u ≡ start = ap (drop 1) (sym p ∙ open_at) in
        on_the_way exact done xs start rest e begun (subst (λ v. Items Item xs v e) same h)

    -- if no item follows, no list starts the text
    pub no_item_follows : ((x : X) (m : List ℕ) → Item (skip rest) x m → ⊥) → (xs : List X) (e : List ℕ) → Enclosed Item text xs e → ⊥
    no_item_follows none xs e h =
        let (zs, items) = ahead xs e h in
        let (x, m, i, n) = first_item zs rest e items in
        none x m i

    -- if neither a comma nor the end follows, no list starts the text
    pub no_end_follows : (x : X) (after : List ℕ) → Item (skip rest) x after → ((r : List ℕ) → ¬ (skip after ≡ 44 ∷ r) × ¬ (skip after ≡ 41 ∷ r))
        → (xs : List X) (e : List ℕ) → Enclosed Item text xs e → ⊥
    no_end_follows x after i none xs e h =
        let (zs, items) = ahead xs e h in
        let (y, m, j, n) = first_item zs rest e items in
        let same = exact.rest (skip rest) y x m after j i in
        ⊎_elim (λ p. (none e).1 (ap skip (sym same) ∙ p)) (λ (u, p). (none u).0 (ap skip (sym same) ∙ p)) n

  -- the text after an item and a comma is shorter
  pub behind_item : IsExact Item → (rest : List ℕ) (x : X) (after behind : List ℕ) → Item (skip rest) x after → skip after ≡ 44 ∷ behind
      → length behind < length rest
  behind_item exact rest x after behind i e = omega (arith, exact.shorter (skip rest) x after i, length-skip rest, length-skip after, ap length e)
