-- Facts that hold for each element of a list.
use Rattle.std.proofs.Common.{◌≡◌, ◌<◌, ◌+◌, ◌⊎◌, inl, inr, arith, refl, sym, subst, ap, ◌∙◌, false, cond, List, [], ◌∷◌, ◌++◌}
use Rattle.std.specs.Prelude.{ℕ, Bool, count_by, sum_by}
use Rattle.std.specs.List.{list_any, flat_map}
use Rattle.std.proofs.lemmas.List.Sums.{sum_by-cons}
use Rattle.plane_core.specs.Points.{Point}
use Rattle.plane_core.proofs.LargeLemmas.{Large, large_weaker, large_both}
use Rattle.plane_core.proofs.AroundLemmas.{Around, trio}
use Rattle.noding_core.specs.Nodes.{IsAmong}

pub among_left : {A : Type 0} (x : A) (xs ys : List A) → IsAmong x xs → IsAmong x (xs ++ ys)
among_left x [] ys h = absurd h
among_left x (y ∷ xs) ys (inl e) = inl e
among_left x (y ∷ xs) ys (inr k) = inr (among_left x xs ys k)

pub among_right : {A : Type 0} (x : A) (xs ys : List A) → IsAmong x ys → IsAmong x (xs ++ ys)
among_right x [] ys h = h
among_right x (y ∷ xs) ys h = inr (among_right x xs ys h)

pub among_either : {A : Type 0} (x : A) (xs ys : List A) → IsAmong x (xs ++ ys) → IsAmong x xs ⊎ IsAmong x ys
among_either x [] ys h = inr h
among_either x (y ∷ xs) ys (inl e) = inl (inl e)
among_either x (y ∷ xs) ys (inr k) = elim (among_either x xs ys k) [ inl l ↦ inl (inr l) | inr r ↦ inr r ]

pub among_flat : {A B : Type 0} (f : A → List B) (x : A) (y : B) (xs : List A) → IsAmong x xs → IsAmong y (f x) → IsAmong y (flat_map f xs)
among_flat f x y [] h k = absurd h
among_flat f x y (z ∷ xs) (inl e) k = among_left y (f z) (flat_map f xs) (subst (λ (v : _). IsAmong y (f v)) e k)
among_flat f x y (z ∷ xs) (inr h) k = among_right y (f z) (flat_map f xs) (among_flat f x y xs h k)

-- a fact that holds for all large n for each element holds for all large n for all
pub large_all : {A : Type 0} (P : A → ℕ → Type 0) (xs : List A) → ((x : A) → IsAmong x xs → Large (P x)) → Large (λ n. (x : A) → IsAmong x xs → P x n)
large_all P [] f = (0, λ n le x h. absurd h)
large_all P (y ∷ xs) f =
    large_weaker (λ n. P y n × ((x : _) → IsAmong x xs → P x n)) (λ n. (x : _) → IsAmong x (y ∷ xs) → P x n)
    (λ n h x k. elim k [ inl e ↦ subst (λ (v : _). P v n) (sym e) h.0 | inr m ↦ h.1 x m ])
    (large_both (P y) (λ n. (x : _) → IsAmong x xs → P x n) (f y (inl refl)) (large_all P xs (λ x k. f x (inr k))))

pub around_all : {A : Type 0} (z : Point) (Q : A → Point → Type 0) (xs : List A) → ((x : A) → IsAmong x xs → Around z (Q x)) → Around z (λ q. (x : A) → IsAmong x xs → Q x q)
around_all z Q xs f =
    large_weaker (λ n. (x : _) → IsAmong x xs → (s t u : ℕ) → 0 < s + t + u → Q x (trio z n s t u)) (λ n. (s t u : ℕ) → 0 < s + t + u → (x : _) → IsAmong x xs → Q x (trio z n s t u))
    (λ n h s t u some x k. h x k s t u some)
    (large_all (λ x n. (s t u : ℕ) → 0 < s + t + u → Q x (trio z n s t u)) xs f)

-- tests of all elements
pub none_any : {A : Type 0} (p : A → Bool) (xs : List A) → ((x : A) → IsAmong x xs → p x ≡ false) → list_any p xs ≡ false
none_any p [] f = refl
none_any p (x ∷ xs) f = let first = f x (inl refl) in let rest = none_any p xs (λ y k. f y (inr k)) in rw (first, rest)

pub count_same : {A : Type 0} (p q : A → Bool) (xs : List A) → ((x : A) → IsAmong x xs → p x ≡ q x) → count_by p xs ≡ count_by q xs
count_same p q [] f = refl
count_same p q (x ∷ xs) f =
    sum_by-cons (λ y. cond (p y) 1 0) x xs
    ∙ ap (λ (t : Bool). cond t 1 0 + count_by p xs) (f x (inl refl))
    ∙ ap (λ (n : ℕ). cond (q x) 1 0 + n) (count_same p q xs (λ y k. f y (inr k)))
    ∙ sym (sum_by-cons (λ y. cond (q y) 1 0) x xs)

pub both_none : (m n : ℕ) → m ≡ 0 → n ≡ 0 → m + n ≡ 0
both_none m n h k = omega arith

pub count_none : {A : Type 0} (p : A → Bool) (xs : List A) → ((x : A) → IsAmong x xs → p x ≡ false) → count_by p xs ≡ 0
count_none p [] f = refl
count_none p (x ∷ xs) f =
    sum_by-cons (λ y. cond (p y) 1 0) x xs
    ∙ both_none (cond (p x) 1 0) (count_by p xs) (ap (λ (t : Bool). cond t 1 0) (f x (inl refl))) (count_none p xs (λ y k. f y (inr k)))

pub sum_none : {A : Type 0} (f : A → ℕ) (xs : List A) → ((x : A) → IsAmong x xs → f x ≡ 0) → sum_by f xs ≡ 0
sum_none f [] h = refl
sum_none f (x ∷ xs) h =
    sum_by-cons f x xs
    ∙ both_none (f x) (sum_by f xs) (h x (inl refl)) (sum_none f xs (λ y k. h y (inr k)))
