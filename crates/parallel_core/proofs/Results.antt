-- Facts of a result, by its variant.
use Rattle.std.proofs.Common.{◌≡◌, Bool, true, MatchBool, Result, Ok, Err, IfOk, IfErr, is_ok}

pub ok_weaker : {T E A B : Type 0} → (A → B) → (r : Result T E) → IfOk r (λ x. A) → IfOk r (λ x. B)
ok_weaker f (Ok x) a = f a
ok_weaker f (Err e) a = tt

pub err_weaker : {T E A B : Type 0} → (A → B) → (r : Result T E) → IfErr r (λ x. A) → IfErr r (λ x. B)
err_weaker f (Ok x) a = tt
err_weaker f (Err e) a = f a

pub err_always : {T E A : Type 0} → A → (r : Result T E) → IfErr r (λ x. A)
err_always a (Ok x) = tt
err_always a (Err e) = a

pub match_ok : {T E : Type 0} (A B : Type 0) (r : Result T E) (b : Bool) → b ≡ is_ok r → IfOk r (λ x. A) → IfErr r (λ x. B) → MatchBool b A B
match_ok A B (Ok x) b is a e = rw is a
match_ok A B (Err y) b is a e = rw is e

pub done_where_ok : {T E : Type 0} (A B : Type 0) (r : Result T E) → is_ok r ≡ true → IfOk r (λ x. A × B) → A
done_where_ok A B (Ok x) is h = h.0
done_where_ok A B (Err e) is h = absurd (cc)
