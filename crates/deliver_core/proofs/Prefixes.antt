-- Prefixes of lists.
use Rattle.std.proofs.Common.{◌≡◌, ◌<◌, Bool, List, [], ◌∷◌, ◌++◌, length, get_or, sym, ap, ◌∙◌, subst, arith, append_assoc, length-append}
use Rattle.std.specs.List.{filter, flat_map, All}
use Rattle.std.proofs.lemmas.Grind.{flat_map-append}
use Rattle.std.proofs.lemmas.List.{get_or_append_left}
use Rattle.std.proofs.lemmas.List.Elements.{filter-append}
use mathlib.Core.List.{IsPrefix}

pub prefix_trans : {X : Type 0} (xs ys zs : List X) → IsPrefix xs ys → IsPrefix ys zs → IsPrefix xs zs
prefix_trans xs ys zs p q = (p.0 ++ q.0, sym (append_assoc xs p.0 q.0) ∙ ap (λ front. front ++ q.0) p.1 ∙ q.1)

pub prefix_nil : {X : Type 0} (xs : List X) → IsPrefix xs [] → xs ≡ []
prefix_nil [] p = cc
prefix_nil (x ∷ xs) p = absurd (omega (arith, ap length p.1))

pub prefix_filter : {X : Type 0} (test : X → Bool) (xs ys : List X) → IsPrefix xs ys → IsPrefix (filter test xs) (filter test ys)
prefix_filter test xs ys p = (filter test p.0, sym (filter-append test xs p.0) ∙ ap (filter test) p.1)

pub prefix_flat_map : {X Y : Type 0} (f : X → List Y) (xs ys : List X) → IsPrefix xs ys → IsPrefix (flat_map f xs) (flat_map f ys)
prefix_flat_map f xs ys p = (flat_map f p.0, sym (flat_map-append f xs p.0) ∙ ap (flat_map f) p.1)

pub All-prefix : {X : Type 0} (P : X → Type 0) (xs ys : List X) → IsPrefix xs ys → All P ys → All P xs
All-prefix P xs ys p all k d inside =
    let within : k < length ys = omega (arith, length-append xs p.0, ap length p.1) in
    subst P (ap (λ zs. get_or zs k d) (sym p.1) ∙ get_or_append_left xs p.0 d k inside) (all k d within)
