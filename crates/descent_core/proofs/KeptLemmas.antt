-- The sublist of the items that satisfy a condition, when lists are joined or items are replaced by
-- lists.
use Rattle.std.proofs.Common.{◌≡◌, List, [], ◌∷◌, ◌++◌, refl, ap, inl, inr}
use Rattle.std.specs.Prelude.{◌⊎◌, All}
use Rattle.std.specs.List.{flat_map}
use Rattle.std.proofs.lemmas.List.Elements.{All-nil, All-cons, All-head, All-tail}
use Rattle.descent_core.specs.Lists.{IsKept, none, kept, left_out}

module _ {T : Type 0} (P : T → Type 0) where
  pub kept_append : {xs ys zs ws : List T} → IsKept P xs ys → IsKept P zs ws → IsKept P (xs ++ zs) (ys ++ ws)
  kept_append none q = q
  kept_append (kept h p) q = kept h (kept_append p q)
  kept_append (left_out h p) q = left_out h (kept_append p q)

  -- the items kept of two concatenated lists, by the two lists
  pub record IsSplit (xs zs ws : List T) : Type 0 where
    pub front : List T
    pub back : List T
    pub front_kept : IsKept P xs front
    pub back_kept : IsKept P zs back
    pub joined : ws ≡ front ++ back

  split_kept : {x : T} {xs zs ws : List T} → P x → IsSplit xs zs ws → IsSplit (x ∷ xs) zs (x ∷ ws)
  split_kept {x} h s = record {
    front = x ∷ s.front;
    back = s.back;
    front_kept = kept h s.front_kept;
    back_kept = s.back_kept;
    joined = ap (λ l. x ∷ l) s.joined;
  }

  split_out : {x : T} {xs zs ws : List T} → ¬ (P x) → IsSplit xs zs ws → IsSplit (x ∷ xs) zs ws
  split_out h s = record { front = s.front; back = s.back; front_kept = left_out h s.front_kept; back_kept = s.back_kept; joined = s.joined }

  pub kept_split : (xs zs ws : List T) → IsKept P (xs ++ zs) ws → IsSplit xs zs ws
  kept_split [] zs ws k = record { front = []; back = ws; front_kept = none; back_kept = k; joined = refl }
  kept_split (x ∷ xs) zs _ (kept h k) = split_kept h (kept_split xs zs _ k)
  kept_split (x ∷ xs) zs ws (left_out h k) = split_out h (kept_split xs zs ws k)

  pub kept_none : (xs : List T) → All (λ x. ¬ (P x)) xs → IsKept P xs []
  kept_none [] h = none
  kept_none (x ∷ xs) h = left_out (All-head (λ y. ¬ (P y)) x xs h) (kept_none xs (All-tail (λ y. ¬ (P y)) x xs h))

  pub kept_all : (xs : List T) → All P xs → IsKept P xs xs
  kept_all [] h = none
  kept_all (x ∷ xs) h = kept (All-head P x xs h) (kept_all xs (All-tail P x xs h))

  -- if the condition is decidable for each item, there is a sublist
  pub kept_some : ((x : T) → P x ⊎ ¬ (P x)) → (xs : List T) → (ys : List T) × IsKept P xs ys
  kept_some tell [] = ([], none)
  kept_some tell (x ∷ xs) =
      let rest = kept_some tell xs in
      elim (tell x) [
        | inl h ↦ (x ∷ rest.0, kept h rest.1)
        | inr h ↦ (rest.0, left_out h rest.1)
      ]

  pub kept_hold : {xs ys : List T} → IsKept P xs ys → All P ys
  kept_hold none = All-nil P
  kept_hold (kept {x} {xs} {ys} h k) = All-cons P x ys h (kept_hold k)
  kept_hold (left_out h k) = kept_hold k

  module _ (Q : T → Type 0) where
    -- a fact of each item is a fact of each item that is kept
    pub kept_too : {xs ys : List T} → IsKept P xs ys → All Q xs → All Q ys
    kept_too none q = q
    kept_too (kept {x} {xs} {ys} h k) q = All-cons Q x ys (All-head Q x xs q) (kept_too k (All-tail Q x xs q))
    kept_too (left_out {x} {xs} {ys} h k) q = kept_too k (All-tail Q x xs q)

    -- where nothing is kept of what an item that isn't kept gives way to, it can be left out first
    pub kept_first : (g : T → List T) → ((x : T) → Q x → ¬ (P x) → All (λ y. ¬ (P y)) (g x)) → (xs ys zs : List T) → All Q xs →
        IsKept P xs ys → IsKept P (flat_map g ys) zs → IsKept P (flat_map g xs) zs
    kept_first g falls [] _ zs q none k = k
    kept_first g falls (x ∷ xs) _ zs q (kept {ys = ys} h p) k =
        let s = kept_split (g x) (flat_map g ys) zs k in
        rw s.joined (kept_append s.front_kept (kept_first g falls xs ys s.back (All-tail Q x xs q) p s.back_kept))
    kept_first g falls (x ∷ xs) ys zs q (left_out h p) k =
        kept_append (kept_none (g x) (falls x (All-head Q x xs q) h)) (kept_first g falls xs ys zs (All-tail Q x xs q) p k)

-- one list at most is kept
pub kept_one : {T : Type 0} (P : T → Type 0) {xs ys zs : List T} → IsKept P xs ys → IsKept P xs zs → ys ≡ zs
kept_one P none none = refl
kept_one P (kept {x} h k) (kept i l) = ap (λ ws. x ∷ ws) (kept_one P k l)
kept_one P (kept h k) (left_out i l) = absurd (i h)
kept_one P (left_out h k) (kept i l) = absurd (h i)
kept_one P (left_out h k) (left_out i l) = kept_one P k l
