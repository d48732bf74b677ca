-- How the written text grows.
use Rattle.std.proofs.Common.{◌≡◌, ℕ, ◌+◌, ◌-◌, ◌<◌, ◌≤◌, List, [], ◌∷◌, ◌++◌, Option, Result, Ok, Err, OnErr, Bool, true, false, length, get_or, take, drop}
use Rattle.std.proofs.Common.{refl, sym, ap, subst, arith, append-nil, append_assoc, ◌∙◌, IsTrue, ◌↔◌}
use Rattle.std.proofs.lemmas.Grind.{common_steps}
use Rattle.std.proofs.lemmas.List.{take_all, take_more, take-append-drop, flat_map_more}
use Rattle.std.proofs.lemmas.List.Concat.{flat_map-append}
use Rattle.std.specs.Global.{Global}
use Rattle.std.specs.Io.KnownBytes.{Appends, Keeps}
use Rattle.std.specs.declared.vec.Vec.{Vec}
use Rattle.report_core.specs.Written.{AppendsPrefix, joined}
use Rattle.std.proofs.KnownBytes.{Appends-trans, Appends-kept}

-- known bytes grow by the part of the text before this rest
pub record AppendsUpTo (old new : Option (List ℕ)) (text rest : List ℕ) : Type 0 where
  pub front : List ℕ
  pub whole : text ≡ front ++ rest
  pub appended : Appends old new front

rest_of : (rest : List ℕ) (n : ℕ) → n ≤ length rest → rest ≡ take n rest ++ take (length rest - n) (drop n rest)
rest_of rest n h = grind (arith, common_steps)

-- one write more
pub appends_up_to_more : (a b c : Option (List ℕ)) (text rest : List ℕ) (n : ℕ) → n ≤ length rest → AppendsUpTo a b text rest
    → Appends b c (take n rest) → AppendsUpTo a c text (take (length rest - n) (drop n rest))
appends_up_to_more a b c text rest n h so_far more = record {
  front = so_far.front ++ take n rest;
  whole = so_far.whole ∙ ap (λ r. so_far.front ++ r) (rest_of rest n h) ∙ sym (append_assoc so_far.front (take n rest) (take (length rest - n)
      (drop n rest)));
  appended = Appends-trans a b c so_far.front (take n rest) so_far.appended more;
}

-- nothing is left
pub appends_up_to_end : (a b c : Option (List ℕ)) (text rest : List ℕ) → AppendsUpTo a b text rest → length rest ≡ 0 → Keeps b c → Appends a c text
appends_up_to_end a b c text [] so_far e kept =
    subst (Appends a c) (sym (so_far.whole ∙ append-nil so_far.front)) (Appends-kept a b c so_far.front so_far.appended kept)
appends_up_to_end a b c text (x ∷ rest) so_far e kept = absurd (let bad : length (x ∷ rest) ≡ 0 = e in grind (arith, common_steps))

-- the consequence of an `Ok` for the device
pub not_failed : (failed : Bool) → (false ≡ true ↔ IsTrue failed) → failed ≡ false
not_failed true h = absurd (let bad : false ≡ true = h.1 refl in cc)
not_failed false h = refl

-- the first texts, and the next one
pub joined_more : (texts : List (Vec ℕ Global)) (i : ℕ) (d : Vec ℕ Global) → i < length texts
    → joined (take i texts) ++ (get_or texts i d).items ≡ joined (take (i + 1) texts)
joined_more texts i d h = flat_map_more (λ text. text.items) [] (take i texts) (get_or texts i d) ∙ ap joined (sym (take_more texts i d h))

-- one text more was written
pub texts_more : (a b c : Option (List ℕ)) (texts : List (Vec ℕ Global)) (i : ℕ) (d : Vec ℕ Global) → i < length texts
    → Appends a b (joined (take i texts)) → Appends b c (get_or texts i d).items → Appends a c (joined (take (i + 1) texts))
texts_more a b c texts i d h so_far more =
    subst (Appends a c) (joined_more texts i d h) (Appends-trans a b c (joined (take i texts)) (get_or texts i d).items so_far more)

-- the device failed in the midst of a text
pub texts_failed : (a b c : Option (List ℕ)) (texts : List (Vec ℕ Global)) (i : ℕ) (d : Vec ℕ Global) → i < length texts
    → Appends a b (joined (take i texts)) → AppendsPrefix b c (get_or texts i d).items → AppendsPrefix a c (joined texts)
texts_failed a b c texts i d h so_far (front, within, appended) =
    (before ++ front, (within.0 ++ behind, whole), Appends-trans a b c before front so_far appended)
  where
    before : List ℕ
    before = joined (take i texts)

    behind : List ℕ
    behind = joined (drop (i + 1) texts)

    whole : (before ++ front) ++ (within.0 ++ behind) ≡ joined texts
    whole =
        append_assoc before front (within.0 ++ behind)
        ∙ ap (λ t. before ++ t) (sym (append_assoc front within.0 behind) ∙ ap (λ t. t ++ behind) within.1)
        ∙ sym (append_assoc before (get_or texts i d).items behind)
        ∙ ap (λ t. t ++ behind) (joined_more texts i d h)
        ∙ sym (flat_map-append (λ text. text.items) (take (i + 1) texts) (drop (i + 1) texts))
        ∙ ap joined (take-append-drop (i + 1) texts)

-- all texts were written
pub texts_written : (a b : Option (List ℕ)) (texts : List (Vec ℕ Global)) (i : ℕ) → length texts ≤ i → Appends a b (joined (take i texts))
    → Appends a b (joined texts)
texts_written a b texts i h all = subst (λ ts. Appends a b (joined ts)) (take_all i texts h) all

-- the whole text was written, and then the device failed
pub whole_prefix : (a b c : Option (List ℕ)) (text : List ℕ) → Appends a b text → Keeps b c → AppendsPrefix a c text
whole_prefix a b c text all kept = (text, ([], append-nil text), Appends-kept a b c text all kept)

-- a fact that holds is ensured for an `Err`
pub on_err : {T E : Type 0} (r : Result T E) (P : Type 0) → P → OnErr r P
on_err (Ok t) P p = tt
on_err (Err e) P p = p
