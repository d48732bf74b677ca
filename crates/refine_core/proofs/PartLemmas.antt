-- Parts as they are collected, put into rows and joined.
use Rattle.std.proofs.Common.{◌≡◌, ◌≢◌, ℕ, ◌<◌, ◌≤◌, List, [], ◌∷◌, ◌++◌}
use Rattle.std.proofs.Common.{All, Contains, length, get_or, set, refl, sym, ap, subst, arith, append-nil, ◌∙◌, ⊎_elim}
use Rattle.std.specs.Global.{Global}
use Rattle.std.specs.List.{flat_map}
use Rattle.std.specs.declared.vec.Vec.{Vec}
use Rattle.std.proofs.lemmas.Bool.{cases_eq}
use Rattle.std.proofs.lemmas.List.{flat_map_more, length_push, get_or-set_same, get_or-set_other, map-append, nil_from_length}
use Rattle.std.proofs.lemmas.List.Elements.{All-contains, All-push, All-same, Contains-push, Contains-push_cases, Contains-append_left, Contains-append_right}
use Rattle.refine_core.specs.declared.refined.Refined.{Refined}
use Rattle.refine_core.specs.declared.worker.Part.{Part}
use Rattle.refine_core.specs.Parts.{numbers_of, HasRow}

-- a loop's step, which adds the result for its item
pub given_more : {X Y : Type 0} (f : X → List Y) (old new : List Y) (xs : List X) (x : X) (ys : List Y) → old ≡ flat_map f xs → new ≡ old ++ ys → f x ≡ ys
    → new ≡ flat_map f (xs ++ x ∷ [])
given_more f old new xs x ys so_far grown is =
    grown ∙ ap (λ o. o ++ ys) so_far ∙ ap (λ y. flat_map f xs ++ y) (sym is) ∙ flat_map_more f [] xs x

-- an item of a list, given how the list goes on from it
pub item_of : {X : Type 0} (P : X → Type 0) (all front rest : List X) (x : X) → front ++ x ∷ rest ≡ all → All P all → P x
item_of P all front rest x is every =
    All-contains P all x every (subst (λ xs. Contains xs x) is (Contains-append_right front (x ∷ rest) x (0, omega arith, refl)))

-- a list that an iterator has yielded whole
pub all_yielded : {X : Type 0} (yielded rest all : List X) → yielded ++ rest ≡ all → length rest ≤ 0 → yielded ≡ all
all_yielded yielded rest all is ended =
    sym (append-nil yielded) ∙ ap (λ r. yielded ++ r) (sym (nil_from_length rest (omega (arith, ended)))) ∙ is

-- the length of an ascending list of numbers is at most a number that they are all less than
pub few_more : (drawn : List ℕ) (n : ℕ) → ((m : ℕ) → All (λ x. x < m) drawn → length drawn ≤ m) → All (λ x. x < n) drawn
    → (m : ℕ) → All (λ x. x < m) (drawn ++ n ∷ []) → length (drawn ++ n ∷ []) ≤ m
few_more drawn n few above m all =
    let last = All-contains (λ x. x < m) (drawn ++ n ∷ []) n all (Contains-push drawn n) in
    omega (arith, length_push drawn n, few n above, last)

-- parts, and one more
module _ {A : Type 0} (old new : List (Part A)) (chunk : ℕ) (refined : Vec (Refined A) Global)
    (grown : new ≡ old ++ record { chunk = chunk; refined = refined } ∷ []) where
  pub numbers_pushed : (drawn more : List ℕ) → numbers_of old ≡ drawn → more ≡ drawn ++ chunk ∷ [] → numbers_of new ≡ more
  numbers_pushed drawn more same drew =
      ap numbers_of grown ∙ map-append (λ (p : Part A). p.chunk) old (record { chunk = chunk; refined = refined } ∷ [])
      ∙ ap (λ ns. ns ++ chunk ∷ []) same ∙ sym drew

  pub all_pushed : (P : Part A → Type 0) → All P old → P (record { chunk = chunk; refined = refined }) → All P new
  all_pushed P all is = All-same P new (old ++ record { chunk = chunk; refined = refined } ∷ []) grown (All-push P old _ all is)

module _ {A : Type 0} (parts : List (Part A)) (rows : List (Vec (Refined A) Global)) (part : Part A) where
  -- the row of this part, once it is put there, and the rows of others
  own_row : (number : ℕ) → part.chunk < length rows → number ≡ part.chunk → HasRow (parts ++ part ∷ []) (set rows part.chunk part.refined) number
  own_row number below same = record {
    row = part.refined;
    there = λ d. subst (λ n. get_or (set rows part.chunk part.refined) n d ≡ part.refined) (sym same)
        (get_or-set_same rows part.chunk part.refined d below);
    of_part = subst (λ n. Contains (parts ++ part ∷ []) (record { chunk = n; refined = part.refined })) (sym same) (Contains-push parts part);
  }

  other_row : (number : ℕ) → number ≢ part.chunk → HasRow parts rows number → HasRow (parts ++ part ∷ []) (set rows part.chunk part.refined) number
  other_row number other h = record {
    row = h.row;
    there = λ d. get_or-set_other rows part.chunk number part.refined d other ∙ h.there d;
    of_part = Contains-append_left parts (part ∷ []) _ h.of_part;
  }

  -- one part more in its row
  pub row_more : part.chunk < length rows → ((number : ℕ) → Contains (numbers_of parts) number → HasRow parts rows number)
      → (number : ℕ) → Contains (numbers_of (parts ++ part ∷ [])) number → HasRow (parts ++ part ∷ []) (set rows part.chunk part.refined) number
  row_more below before number c =
      let cases = Contains-push_cases (numbers_of parts) part.chunk number
      (subst (λ ns. Contains ns number) (map-append (λ (p : Part A). p.chunk) parts (part ∷ [])) c) in
      ⊎_elim
      (λ same. own_row number below same)
      (λ other. other_row number other (⊎_elim (λ earlier. before number earlier) (λ last. absurd (other (sym last))) cases))
      (cases_eq number part.chunk)
