-- The smallest shape that contains the covers of a list.
use Rattle.std.proofs.Common.{arith, ◌≡◌, ℕ, ◌+◌, ◌<◌, List, [], ◌∷◌, ◌++◌, length, get_or, set, take, length-append, length-set, sym, ◌∙◌, subst}
use Rattle.std.specs.Prelude.{All}
use Rattle.std.proofs.lemmas.List.{take_more, get_or_append_left, get_or-append-add, get_or-set_same, set-set, set-get_or}
use Rattle.std.proofs.lemmas.List.Elements.{All-push, All-weaker, All-head, All-cons, All-nil, All-set}
use Rattle.geom_core.specs.declared.shape.Shape.{Shape}
use Rattle.geom_core.specs.Cells.{IsIn}
use Rattle.geom_core.specs.Shapes.{cover_of}
use Rattle.geom_core.proofs.ShapeLemmas.{in_cover_first, in_cover_second, cover_least}
use Rattle.split_core.specs.Covers.{IsLeastCover}

-- a shape in another is in each shape that contains that
pub in_trans : (a b c : Shape) → IsIn a b → IsIn b c → IsIn a c
in_trans a b c h k u v w = k u v (h u v w)

-- a fact of each item of a list with more at its end is a fact of each item of the list
pub All-front : {T : Type 0} (P : T → Type 0) (xs ys : List T) → All P (xs ++ ys) → All P xs
All-front P xs ys h k d lt = subst P (get_or_append_left xs ys d k lt) (h k d (omega (arith, length-append xs ys)))

-- and of the items at its end
pub All-back : {T : Type 0} (P : T → Type 0) (xs ys : List T) → All P (xs ++ ys) → All P ys
All-back P xs ys h k d lt = subst P (get_or-append-add xs ys k d) (h (length xs + k) d (omega (arith, length-append xs ys)))

pub All-mid : {T : Type 0} (P : T → Type 0) (xs : List T) (y : T) (ys : List T) → All P (xs ++ y ∷ ys) → P y
All-mid P xs y ys h = All-head P y ys (All-back P xs (y ∷ ys) h)

pub All-last : {T : Type 0} (P : T → Type 0) (xs : List T) (x : T) → All P (xs ++ x ∷ []) → P x
All-last P xs x h = All-head P x [] (All-back P xs (x ∷ []) h)

-- a fact of each item after one was changed is a fact of each before, if it held for that one
pub All-unset : {T : Type 0} (P : T → Type 0) (xs : List T) (i : ℕ) (y d : T) → P (get_or xs i d) → All P (set xs i y) → All P xs
All-unset P xs i y d p h =
    subst (All P) (set-set xs i y (get_or xs i d) ∙ set-get_or xs i d) (All-set P (set xs i y) i (get_or xs i d) p h)

-- each item is in the shape
abbrev pub AllIn : {T : Type 0} → (T → Shape) → Shape → List T → Type 0
AllIn cover t xs = All (λ x. IsIn (cover x) t) xs

-- a shape that contains the cover contains each item
pub all_in : {T : Type 0} (cover : T → Shape) (xs : List T) (c t : Shape) → IsLeastCover cover xs c → IsIn c t → AllIn cover t xs
all_in cover xs c t h k = All-weaker (λ x. IsIn (cover x) c) (λ x. IsIn (cover x) t) (λ x m. in_trans (cover x) c t m k) xs h.contains

module _ {T : Type 0} (cover : T → Shape) where
  pub cover_one : (x : T) → IsLeastCover cover (x ∷ []) (cover x)
  cover_one x = record {
    contains = All-cons (λ y. IsIn (cover y) (cover x)) x [] (λ u v h. h) (All-nil (λ y. IsIn (cover y) (cover x)));
    least = λ s h. All-head (λ y. IsIn (cover y) s) x [] h;
  }

  pub cover_push : (xs : List T) (x : T) (c : Shape) → IsLeastCover cover xs c → IsLeastCover cover (xs ++ x ∷ []) (cover_of c (cover x))
  cover_push xs x c h = record {
    contains =
        All-push (λ y. IsIn (cover y) (cover_of c (cover x))) xs x
        (All-weaker (λ y. IsIn (cover y) c) (λ y. IsIn (cover y) (cover_of c (cover x)))
        (λ y k. in_trans (cover y) c (cover_of c (cover x)) k (in_cover_first c (cover x))) xs h.contains)
        (in_cover_second c (cover x));
    least = λ s k. cover_least c (cover x) s (h.least s (All-front (λ y. IsIn (cover y) s) xs (x ∷ []) k)) (All-last (λ y. IsIn (cover y) s) xs x k);
  }

  pub cover_first : (xs : List T) (x : T) (c : Shape) → 0 < length xs → x ≡ get_or xs 0 x → c ≡ cover x → IsLeastCover cover (take 1 xs) c
  cover_first [] x c lt at e = absurd (omega arith)
  cover_first (y ∷ ys) x c lt at e = rw (e, at) (cover_one y)

  pub cover_more : (xs : List T) (i : ℕ) (x : T) (c next d : Shape) →
      i < length xs →
      x ≡ get_or xs i x →
      next ≡ cover x →
      d ≡ cover_of c next →
      IsLeastCover cover (take i xs) c →
      IsLeastCover cover (take (i + 1) xs) d
  cover_more xs i x c next d lt at is e h =
      rw (e, is, take_more xs i x lt) (subst (λ z. IsLeastCover cover (take i xs ++ z ∷ []) (cover_of c (cover x))) at (cover_push (take i xs) x c h))

  -- if the item at an index grew by a shape, so does the cover
  pub cover_grow : (xs : List T) (i : ℕ) (x y : T) (c s : Shape) →
      IsLeastCover cover xs c →
      i < length xs →
      x ≡ get_or xs i x →
      ((t : Shape) → IsIn s t → IsIn (cover x) t → IsIn (cover y) t) →
      ((t : Shape) → IsIn (cover y) t → IsIn s t × IsIn (cover x) t) →
      IsLeastCover cover (set xs i y) (cover_of c s)
  cover_grow xs i x y c s h lt at to from =
      let wide = cover_of c s in
      let inside : IsIn (cover x) c = subst (λ z. IsIn (cover z) c) (sym at) (h.contains i x lt) in
      record {
        contains =
            All-set (λ z. IsIn (cover z) wide) xs i y
            (to wide (in_cover_second c s) (in_trans (cover x) c wide inside (in_cover_first c s)))
            (all_in cover xs c wide h (in_cover_first c s));
        least = λ t k.
            let grown : IsIn (cover y) t = subst (λ z. IsIn (cover z) t) (get_or-set_same xs i y x lt) (k i x (rw length-set lt)) in
            cover_least c s t (h.least t (All-unset (λ z. IsIn (cover z) t) xs i y x (subst (λ z. IsIn (cover z) t) at (from t grown).1) k)) (from t grown).0;
      }
