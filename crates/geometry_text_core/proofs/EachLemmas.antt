-- Items one after another at the start of bytes.
use Rattle.std.proofs.Common.{◌≡◌, ◌<◌, ℕ, List, [], ◌∷◌, ◌++◌, ◌⊎◌, inl, inr, ⊎_elim, length, length-append, ◌+◌, refl, sym, ◌∙◌, ap, ap₂, subst, arith}
use Rattle.std.specs.Prelude.{Option, Some, None, IfNone}
use Rattle.geometry_text_core.specs.declared.order.Order.{Order}
use Rattle.geometry_text_core.specs.Binary.{TakesNumber, TakesDouble, TakesEach, TakesCounted}

-- bytes begin with one value, and leave one rest
pub record IsOnly {X : Type 0} (Item : List ℕ → X → List ℕ → Type 0) : Type 0 where
  pub value : (b : List ℕ) (x y : X) (r s : List ℕ) → Item b x r → Item b y s → x ≡ y
  pub rest : (b : List ℕ) (x y : X) (r s : List ℕ) → Item b x r → Item b y s → r ≡ s

pub number_only : (order : Order) → IsOnly (TakesNumber order)
number_only order = record {
  value = λ b x y r s h k. h.1 ∙ sym k.1;
  rest = λ b x y r s h k. h.2 ∙ sym k.2;
}

pub double_only : (order : Order) → IsOnly (TakesDouble order)
double_only order = record {
  value = λ b x y r s h k. h.1 ∙ sym k.1;
  rest = λ b x y r s h k. h.2 ∙ sym k.2;
}

module _ {X : Type 0} (Item : List ℕ → X → List ℕ → Type 0) where
  -- an item at the start of bytes
  abbrev pub Next : List ℕ → Type 0
  Next bytes = (x : X) × (m : List ℕ) × Item bytes x m

  pub each_more : (xs : List X) (x : X) (b r m : List ℕ) → TakesEach Item b xs r → Item r x m → TakesEach Item b (xs ++ x ∷ []) m
  each_more [] x b r m e i = (m, subst (λ t. Item t x m) e i, refl)
  each_more (y ∷ ys) x b r m (n, j, e) i = (n, j, each_more ys x n r m e i)

  module _ (only : IsOnly Item) where
    -- of two lists of items at the start of the same bytes one goes on where the other ends, or
    -- they are the same
    pub forked : (xs ys : List X) (b r s : List ℕ) → TakesEach Item b xs r → TakesEach Item b ys s → ((xs ≡ ys) × (r ≡ s)) ⊎ (Next r ⊎ Next s)
    forked [] [] b r s e f = inl (refl, e ∙ sym f)
    forked [] (y ∷ ys) b r s e (m, i, f) = inr (inl (y, m, subst (λ t. Item t y m) (sym e) i))
    forked (x ∷ xs) [] b r s (m, i, e) f = inr (inr (x, m, subst (λ t. Item t x m) (sym f) i))
    forked (x ∷ xs) (y ∷ ys) b r s (m, i, e) (n, j, f) =
        let at : n ≡ m = only.rest b y x n m j i in
        ⊎_elim (λ p. inl (ap₂ (λ z zs. z ∷ zs) (only.value b x y m n i j) p.0, p.1)) (λ p. inr p)
        (forked xs ys m r s e (subst (λ t. TakesEach Item t ys s) at f))

    -- more items go on where fewer end
    pub goes_on : (xs ys : List X) (b r s : List ℕ) → TakesEach Item b xs r → TakesEach Item b ys s → length xs < length ys → Next r
    goes_on [] [] b r s e f less = absurd (omega (arith, less))
    goes_on [] (y ∷ ys) b r s e (m, i, f) less = (y, m, subst (λ t. Item t y m) (sym e) i)
    goes_on (x ∷ xs) [] b r s e f less = absurd (omega (arith, less))
    goes_on (x ∷ xs) (y ∷ ys) b r s (m, i, e) (n, j, f) less =
        let at : n ≡ m = only.rest b y x n m j i in
        goes_on xs ys m r s e (subst (λ t. TakesEach Item t ys s) at f) (omega (arith, less))

    -- as many items are the same
    pub each_same : (xs ys : List X) (b r s : List ℕ) → TakesEach Item b xs r → TakesEach Item b ys s → length xs ≡ length ys → (xs ≡ ys) × (r ≡ s)
    each_same [] [] b r s e f same = (refl, e ∙ sym f)
    each_same [] (y ∷ ys) b r s e f same = absurd (omega (arith, same))
    each_same (x ∷ xs) [] b r s e f same = absurd (omega (arith, same))
    each_same (x ∷ xs) (y ∷ ys) b r s (m, i, e) (n, j, f) same =
        let at : n ≡ m = only.rest b y x n m j i in
        let rest = each_same xs ys m r s e (subst (λ t. TakesEach Item t ys s) at f) (omega (arith, same)) in
        (ap₂ (λ z zs. z ∷ zs) (only.value b x y m n i j) rest.0, rest.1)

    counted_same : (order : Order) (b : List ℕ) (xs ys : List X) (r s : List ℕ) → TakesCounted order Item b xs r → TakesCounted order Item b ys s → (xs ≡ ys) × (r ≡ s)
    counted_same order b xs ys r s (m, some, count, e) (n, more, number, f) =
        let at : n ≡ m = (number_only order).rest b _ _ n m number count in
        each_same xs ys m r s e (subst (λ t. TakesEach Item t ys s) at f) ((number_only order).value b _ _ m n count number)

    pub counted_only : (order : Order) → IsOnly (TakesCounted order Item)
    counted_only order = record {
      value = λ b xs ys r s h k. (counted_same order b xs ys r s h k).0;
      rest = λ b xs ys r s h k. (counted_same order b xs ys r s h k).1;
    }

    -- where an item is missing, so is the list
    pub none_counted : (order : Order) (count : ℕ) (b start r : List ℕ) (done : List X) → TakesNumber order b count start → TakesEach Item start done r
        → length done < count → (Next r → ⊥) → (xs : List X) (s : List ℕ) → TakesCounted order Item b xs s → ⊥
    none_counted order count b start r done number e less none xs s (m, some, n, f) =
        let at : m ≡ start = (number_only order).rest b _ _ m start n number in
        let many : length xs ≡ count = (number_only order).value b _ _ m start n number in
        none (goes_on done xs start r s e (subst (λ t. TakesEach Item t xs s) at f) (omega (arith, many, less)))

-- the items so far of a loop over a count, and the fact of them
pub record SoFar {X : Type 0} (Item : List ℕ → X → List ℕ → Type 0) (Holds : List X → Type 0) (start rest : List ℕ) (count : ℕ) : Type 0 where
  pub done : List X
  pub many : length done ≡ count
  pub each : TakesEach Item start done rest
  pub holds : Holds done

module _ {X : Type 0} (Item : List ℕ → X → List ℕ → Type 0) (Holds : List X → Type 0) where
  pub none_so_far : (start : List ℕ) → Holds [] → SoFar Item Holds start start 0
  none_so_far start h = record { done = []; many = refl; each = refl; holds = h }

  pub one_more : (Next : List X → Type 0) (start rest behind : List ℕ) (count : ℕ) (x : X) → SoFar Item Holds start rest count → Item rest x behind
      → ((done : List X) → Holds done → Next (done ++ x ∷ [])) → SoFar Item Next start behind (count + 1)
  one_more Next start rest behind count x s i more = record {
    done = s.done ++ x ∷ [];
    many = length-append s.done (x ∷ []) ∙ ap (λ n. n + 1) s.many;
    each = each_more Item s.done x start rest behind s.each i;
    holds = more s.done s.holds;
  }

-- a list of as many items as their number says
pub is_counted : {X : Type 0} (Item : List ℕ → X → List ℕ → Type 0) (order : Order) (count : ℕ) (b start r : List ℕ) (xs : List X) → 0 < count
    → TakesNumber order b count start → TakesEach Item start xs r → length xs ≡ count → TakesCounted order Item b xs r
is_counted Item order count b start r xs some number e many =
    (start, omega (arith, some, many), subst (λ n. TakesNumber order b n start) (sym many) number, e)

-- a promise of an error of `?`
pub when_none : {A P : Type 0} (r : Option A) → P → IfNone r P
when_none None p = p
when_none (Some x) p = tt
