-- Edits that are applied in order, up to the first at which they end.
use Rattle.std.proofs.Common.{◌≡◌, ◌+◌, ◌<◌, ℕ, Bool, true, false, Option, Some, None, Result, Ok, Err, List, [], ◌∷◌, ◌++◌, length, take, map}
use Rattle.std.proofs.Common.{IsErrAnd, IfErr, refl, sym, ap, subst, ◌∙◌, arith, if◌then◌else◌, not, is_some, nat_le, append_assoc}
use Rattle.std.proofs.lemmas.List.{append-nil, length-append, length-map, map-append, take_at}
use Rattle.layer_core.specs.declared.edit.Edit.{Edit}
use Rattle.layer_core.specs.declared.fault.LayerFault.{LayerFault}
use Rattle.layer_core.specs.declared.fault.LayerFault.TheVariants.{BadId, DoubleId, LayerFull, NoSuchId, Memory}
use Rattle.layer_core.specs.Edits.{EditContent, Layers, both, content_of, change_refusal, edit_refusal, edited_layers, edits_give, layer_on, unless_refused}
use Rattle.layer_core.specs.Layers.{Contents, with_id}
use Rattle.layer_core.specs.Limits.{most_features}
use Rattle.layer_core.specs.Refusals.{AnswersWith, is_id}
use Rattle.run_core.specs.Inputs.{BlamesEdit}
use Rattle.run_core.specs.declared.fault.RunFault.{RunFault}
use Rattle.run_core.specs.declared.fault.RunFault.TheVariants.{Edit as EditFault, Memory as NoMemory}
use Rattle.run_core.specs.EditedLayers.{AreMade, EndsAt, IsEditFault, ended, no_end}

-- the result of edits that follow others
gives_append : {G : Type 0} (row : ℕ) (layers made : Layers G) (xs ys : List (EditContent G)) → edits_give row layers xs ≡ Ok made
    → edits_give row layers (xs ++ ys) ≡ edits_give (row + length xs) made ys
gives_append {G} row layers made [] ys is =
    let same : layers ≡ made = cc in
    let none : row ≡ row + 0 = omega arith in
    ap (λ (l : Layers G). edits_give row l ys) same ∙ ap (λ n. edits_give n made ys) none
gives_append {G} row layers made (x ∷ xs) ys is =
    go (edit_refusal layers x) (edits_give (row + 1) (edited_layers layers x) xs) (edits_give (row + 1) (edited_layers layers x) (xs ++ ys)) is
    (λ h. gives_append (row + 1) (edited_layers layers x) made xs ys h ∙ ap (λ n. edits_give n made ys) (omega arith))
  where
    go : (r : Option LayerFault) (front all : Result (Layers G) (ℕ × LayerFault)) → unless_refused row r front ≡ Ok made
        → (front ≡ Ok made → all ≡ edits_give (row + length (x ∷ xs)) made ys) → unless_refused row r all ≡ edits_give (row + length (x ∷ xs)) made ys
    go (Some f) front all is rest = absurd (let bad : (let r : Result (Layers G) (ℕ × LayerFault) = Err (row, f) in r) ≡ Ok made = is in cc)
    go None front all is rest = rest is

-- lack of memory is no reason to refuse an edit
insert_never : (a b c : Bool) → (if a then Some BadId else if b then Some DoubleId else if c then Some LayerFull else None) ≡ Some Memory → ⊥
insert_never true b c is = cc
insert_never false true c is = cc
insert_never false false true is = cc
insert_never false false false is = cc

delete_never : (a b : Bool) → (if a then Some BadId else if b then None else Some NoSuchId) ≡ Some Memory → ⊥
delete_never true b is = cc
delete_never false true is = cc
delete_never false false is = cc

never_memory : {G : Type 0} (layers : Layers G) (edit : EditContent G) → edit_refusal layers edit ≡ Some Memory → ⊥
never_memory {G} layers edit = by (layer_on edit.side layers) edit.shape
  where
    by : (layer : Contents G) (shape : Option G) → change_refusal layer edit.id shape ≡ Some Memory → ⊥
    by layer (Some s) = insert_never (not (is_id edit.id)) (is_some (with_id edit.id layer)) (nat_le most_features layer.next)
    by layer None = delete_never (not (is_id edit.id)) (is_some (with_id edit.id layer))

ok_unrefused : {T : Type 0} (r : Option LayerFault) (x : T) → AnswersWith r (Ok x) → r ≡ None
ok_unrefused (Some f) x h = absurd cc
ok_unrefused None x h = refl

err_refused : (T : Type 0) (r : Option LayerFault) (f : LayerFault) → AnswersWith {T = T} r (Err f) → BlamesEdit f → r ≡ Some f
err_refused T (Some g) f h blame = let same : (let out : Result T LayerFault = Err f in out) ≡ Err g = h in cc
err_refused T None f h blame = absurd (subst BlamesEdit h blame)

err_unrefused : (T : Type 0) (r : Option LayerFault) → (r ≡ Some Memory → ⊥) → AnswersWith {T = T} r (Err Memory) → r ≡ None
err_unrefused T (Some g) never h = absurd (never (let same : (let out : Result T LayerFault = Err Memory in out) ≡ Err g = h in cc))
err_unrefused T None never h = refl

-- the edits up to this row are made, and these are left
pub record Done {G : Type 0} (row : ℕ) (start now : Layers G) (edits left : List (Edit G)) : Type 0 where
  pub before : List (Edit G)
  pub split : edits ≡ before ++ left
  pub row_is : row ≡ length before
  pub made : edits_give 1 start (map content_of before) ≡ Ok now

pub none_done : {G : Type 0} (start : Layers G) (edits left : List (Edit G)) → left ≡ edits → Done 0 start start edits left
none_done start edits left same = record { before = []; split = sym same; row_is = refl; made = refl }

-- a row is not below the number of edits while one is left
pub row_within : {G : Type 0} (row : ℕ) (start now : Layers G) (edits left rest : List (Edit G)) (x : Edit G) → Done row start now edits left → left ≡ x ∷ rest
    → row < length edits
row_within row start now edits left rest x done next =
    let all = ap length (done.split ∙ ap (λ l. done.before ++ l) next) ∙ length-append done.before (x ∷ rest) in
    let same : row ≡ length done.before = done.row_is in
    omega arith

module _ {G : Type 0} (row : ℕ) (start now : Layers G) (edits left rest : List (Edit G)) (x : Edit G) (done : Done row start now edits left)
    (next : left ≡ x ∷ rest) where
  abbrev front : List (EditContent G)
  front = map content_of done.before

  front_has : length front ≡ row
  front_has = length-map done.before content_of ∙ sym done.row_is

  split_here : edits ≡ done.before ++ (x ∷ rest)
  split_here = done.split ∙ ap (λ l. done.before ++ l) next

  one_more : (r : Option LayerFault) → edit_refusal now (content_of x) ≡ r → r ≡ None
      → edits_give 1 start (map content_of (done.before ++ x ∷ [])) ≡ Ok (edited_layers now (content_of x))
  one_more r is none =
      ap (edits_give 1 start) (map-append content_of done.before (x ∷ []))
      ∙ gives_append 1 start now front (content_of x ∷ []) done.made
      ∙ ap (λ t. unless_refused (1 + length front) t (Ok (edited_layers now (content_of x)))) (is ∙ none)

  -- one more edit is applied
  pub one_done : {T : Type 0} (u : T) (after : Layers G) → after ≡ edited_layers now (content_of x) → AnswersWith (edit_refusal now (content_of x)) (Ok u)
      → Done (row + 1) start after edits rest
  one_done u after is answers = record {
    before = done.before ++ x ∷ [];
    split = split_here ∙ sym (append_assoc done.before (x ∷ []) rest);
    row_is = let same : row ≡ length done.before = done.row_is in let all = length-append done.before (x ∷ []) in omega arith;
    made = one_more (edit_refusal now (content_of x)) refl (ok_unrefused _ u answers) ∙ ap Ok (sym is);
  }

  refused_at : (f : LayerFault) → edit_refusal now (content_of x) ≡ Some f → edits_give 1 start (map content_of edits) ≡ Err (row + 1, f)
  refused_at f is =
      let split = ap (map content_of) split_here ∙ map-append content_of done.before (x ∷ rest) in
      let place : 1 + length front ≡ row + 1 = let has = front_has in omega arith in
      ap (edits_give 1 start) split ∙ gives_append 1 start now front (content_of x ∷ map content_of rest) done.made
      ∙ ap (λ t. unless_refused (1 + length front) t (edits_give (1 + length front + 1) (edited_layers now (content_of x)) (map content_of rest))) is
      ∙ ap (λ n. Err (n, f)) place

  want_at : edit_refusal now (content_of x) ≡ None → AreMade (row + 1) start (map content_of edits)
  want_at none =
      let made = done.before ++ x ∷ [] in
      let split : edits ≡ made ++ rest = split_here ∙ sym (append_assoc done.before (x ∷ []) rest) in
      let whole : map content_of edits ≡ map content_of made ++ map content_of rest = ap (map content_of) split ∙ map-append content_of made rest in
      let many : length (map content_of made) ≡ row + 1 =
      let has = front_has in let all = ap length (map-append content_of done.before (x ∷ [])) ∙ length-append front (content_of x ∷ []) in omega arith in record {
        some = omega arith;
        within = let all = ap length whole ∙ length-append (map content_of made) (map content_of rest) in omega arith;
        made = edited_layers now (content_of x);
        none_refused = ap (λ l. edits_give 1 start (take (row + 1) l)) whole
            ∙ ap (edits_give 1 start) (take_at (map content_of made) (map content_of rest) (row + 1) many) ∙ one_more None none refl;
      }

  -- the edits end at this one
  pub ends_at : (T : Type 0) (f : LayerFault) → AnswersWith {T = T} (edit_refusal now (content_of x)) (Err f)
      → EndsAt (row + 1) f start (map content_of edits)
  ends_at T f answers = record {
    refused = λ blame. refused_at f (err_refused T _ f answers blame);
    want = λ is. want_at (err_unrefused T _ (never_memory now (content_of x)) (subst (λ (e : LayerFault). AnswersWith {T = T} (edit_refusal now (content_of x)) (Err e)) is answers));
  }

-- all edits are applied
pub all_done : {G : Type 0} (row : ℕ) (start now : Layers G) (edits left : List (Edit G)) → Done row start now edits left → left ≡ []
    → edits_give 1 start (map content_of edits) ≡ Ok now
all_done row start now edits left done none =
    ap (λ l. edits_give 1 start (map content_of l)) (done.split ∙ ap (λ l. done.before ++ l) none ∙ append-nil done.before) ∙ done.made

module _ {T G : Type 0} (out : Result T RunFault) (layers : Layers G) (edits : List (EditContent G)) (e : RunFault) (handed : IsErrAnd out (λ x. x ≡ e)) where
  -- the error that `?` returns, of a fault of the edits
  fault_handed : IsEditFault layers edits e → IfErr out (IsEditFault layers edits)
  fault_handed fault = elim out as (λ r. IsErrAnd r (λ x. x ≡ e) → IfErr r (IsEditFault layers edits)) [
    | Ok x ↦ λ h. absurd h
    | Err x ↦ λ h. subst (IsEditFault layers edits) (sym h) fault
  ] handed

  pub fault_is : (is : RunFault) → e ≡ is → IsEditFault layers edits is → IfErr out (IsEditFault layers edits)
  fault_is is same fault = fault_handed (subst (IsEditFault layers edits) (sym same) fault)

  pub fault_ended : (lists : Layers G) → lists ≡ layers → (row : ℕ) × (f : LayerFault) × (e ≡ EditFault row f) × EndsAt row f lists edits
      → IfErr out (IsEditFault layers edits)
  fault_ended lists same ends =
      let at_row = subst (λ (l : Layers G). EndsAt ends.0 ends.1 l edits) same ends.3 in
      fault_handed (subst (IsEditFault layers edits) (sym ends.2) (ended ends.0 ends.1 at_row))

  pub fault_at_end : (lists made : Layers G) → lists ≡ layers → edits_give 1 lists edits ≡ Ok made → e ≡ NoMemory → IfErr out (IsEditFault layers edits)
  fault_at_end lists made same given is =
      let here = subst (λ (l : Layers G). edits_give 1 l edits ≡ Ok made) same given in fault_is NoMemory is (no_end made here)

pub both_are : {G : Type 0} (l r l' r' : Contents G) → l ≡ l' → r ≡ r' → both l r ≡ both l' r'
both_are l r l' r' same other = λ i. both (same i) (other i)
