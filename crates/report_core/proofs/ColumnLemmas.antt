-- How a column grows.
use Rattle.std.proofs.Common.{◌≡◌, ℕ, ◌+◌, ◌-◌, ◌<◌, ◌≤◌, List, [], ◌∷◌, ◌++◌, Option, length, get_or, take, drop}
use Rattle.std.proofs.Common.{slice_range, sym, ap, subst, ◌∙◌, ⊎_elim, arith}
use Rattle.std.proofs.Math.Seq.{get_or-append_seam, drop-append_seam}
use Rattle.std.proofs.lemmas.Bool.{cases_lt}
use Rattle.std.proofs.lemmas.List.{get_or_append_left, take_all, take-append-le, drop-append-le, length-append, length-drop}
use Rattle.report_core.specs.Columns.{field_for, HasField, IsColumn}

-- a text that grows keeps its parts
kept_range : (text more : List ℕ) (a b : ℕ) → a ≤ b → b ≤ length text → slice_range (text ++ more) a b ≡ slice_range text a b
kept_range text more a b h k =
    ap (take (b - a)) (drop-append-le a text more (omega arith))
    ∙ take-append-le (b - a) (drop a text) more (let l = length-drop a text in omega arith)

-- and ends with the added text
new_range : (text more : List ℕ) → slice_range (text ++ more) (length text) (length (text ++ more)) ≡ more
new_range text more =
    ap (take (length (text ++ more) - length text)) (drop-append_seam text more)
    ∙ take_all (length (text ++ more) - length text) more (let l = length-append text more in omega arith)

kept_field : (text more : List ℕ) (a b : ℕ) (id : Option (List ℕ)) → HasField text a b id → HasField (text ++ more) a b id
kept_field text more a b id has = record {
  in_order = has.in_order;
  within = let l = length-append text more in let w : b ≤ length text = has.within in omega arith;
  field = kept_range text more a b has.in_order has.within ∙ has.field;
}

new_field : (text : List ℕ) (id : Option (List ℕ)) → HasField (text ++ field_for id) (length text) (length (text ++ field_for id)) id
new_field text id = record {
  in_order = let l = length-append text (field_for id) in omega arith;
  within = omega arith;
  field = new_range text (field_for id);
}

-- the start of the last field
last_start : (starts : List ℕ) (end n : ℕ) → length starts ≡ n + 1 → get_or (starts ++ end ∷ []) (n + 1) 0 ≡ end
last_start starts end n len = subst (λ (j : ℕ). get_or (starts ++ end ∷ []) j 0 ≡ end) len (get_or-append_seam starts end [] 0)

-- one field more
field_added : (ids : ℕ → Option (List ℕ)) (starts text new : List ℕ) (n : ℕ) → IsColumn ids starts text → length starts ≡ n + 1 → get_or starts n 0 ≡ length text
    → new ≡ text ++ field_for (ids n) → IsColumn ids (starts ++ length new ∷ []) new
field_added ids starts text new n column len last is = subst (λ (t : List ℕ). IsColumn ids (starts ++ length t ∷ []) t) (sym is) (record {
  each = λ k h. ⊎_elim (λ early. at_start k (omega arith) (early_field k early))
      (λ late. let same : k ≡ n = let l = length-append starts (end ∷ []) in omega arith in
      subst (λ (j : ℕ). HasField grown (get_or more j 0) (get_or more (j + 1) 0) (ids j)) (sym same) late_field)
      (cases_lt (k + 1) (length starts));
})
  where
    grown : List ℕ
    grown = text ++ field_for (ids n)

    end : ℕ
    end = length grown

    more : List ℕ
    more = starts ++ end ∷ []

    at_start : (k : ℕ) → k < length starts → HasField grown (get_or starts k 0) (get_or more (k + 1) 0) (ids k)
        → HasField grown (get_or more k 0) (get_or more (k + 1) 0) (ids k)
    at_start k h has =
        subst (λ (a : ℕ). HasField grown a (get_or more (k + 1) 0) (ids k)) (sym (get_or_append_left starts (end ∷ []) 0 k h)) has

    early_field : (k : ℕ) → k + 1 < length starts → HasField grown (get_or starts k 0) (get_or more (k + 1) 0) (ids k)
    early_field k h =
        subst (λ (b : ℕ). HasField grown (get_or starts k 0) b (ids k)) (sym (get_or_append_left starts (end ∷ []) 0 (k + 1) h))
        (kept_field text (field_for (ids n)) (get_or starts k 0) (get_or starts (k + 1) 0) (ids k) (column.each k h))

    late_field : HasField grown (get_or more n 0) (get_or more (n + 1) 0) (ids n)
    late_field = at_start n (omega arith)
        (subst (λ (b : ℕ). HasField grown (get_or starts n 0) b (ids n)) (sym (last_start starts end n len))
        (subst (λ (a : ℕ). HasField grown a end (ids n)) (sym last) (new_field text (ids n))))

-- the end of one more field
pub one_start_more : (starts starts' : List ℕ) (n end : ℕ) → length starts ≡ n + 1 → starts' ≡ starts ++ end ∷ [] → length starts' ≡ n + 1 + 1
one_start_more starts starts' n end len grown = ap length grown ∙ length-append starts (end ∷ []) ∙ ap (λ (k : ℕ). k + 1) len

module _ (ids : ℕ → Option (List ℕ)) (starts text starts' text' : List ℕ) (n end : ℕ) (len : length starts ≡ n + 1) (end_is : end ≡ length text')
    (grown : starts' ≡ starts ++ end ∷ []) where
  starts_are : starts' ≡ starts ++ length text' ∷ []
  starts_are = grown ∙ ap (λ (k : ℕ). starts ++ k ∷ []) end_is

  pub one_field_more : IsColumn ids starts text → get_or starts n 0 ≡ length text → text' ≡ text ++ field_for (ids n)
      → IsColumn ids starts' text'
  one_field_more column last is =
      subst (λ (ns : List ℕ). IsColumn ids ns text') (sym starts_are) (field_added ids starts text text' n column len last is)

  pub next_start : get_or starts' (n + 1) 0 ≡ length text'
  next_start = ap (λ (ns : List ℕ). get_or ns (n + 1) 0) starts_are ∙ last_start starts (length text') n len
