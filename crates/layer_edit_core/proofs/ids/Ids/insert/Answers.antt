use Rattle.std.proofs.Common.{◌≡◌, ◌∙◌, ℕ, ◌+◌, List, [], ◌∷◌, ◌++◌, set, get_or, Option, sym, ap, Some, None, inl, inr, length, position, rules, arith}
use Rattle.std.specs.Map.{keys_of, lookup}
use Rattle.layer_core.specs.Ids.{id_bytes, id_eq}
use Rattle.indexmap.specs.IndexMap.{insert_entry}
use Rattle.layer_core.specs.declared.id.Id.{Id}
use Rattle.layer_edit_core.specs.RisingIds.{AreApart, ComesAfter, place_and_number}
use Rattle.layer_edit_core.proofs.IdLemmas.{InsertsId, inserts_last, inserts_sooner, inserts_later, lookup-missing, no_others, after_list}
use Rattle.layer_edit_core.proofs.ids.Ids.insert.Goals as goal
use Rattle.layer_edit_core.proofs.ids.Ids.insert.Goals.{In_ok-push, Joined-id, After-place_behind-place, else-is_empty-via-then-is_empty+else-comes_after, else-is_empty-via-else-is_empty}

-- an id that comes after all
last : (xs ys xs' : List (Id × Option ℕ)) (k : Id) (v : Option ℕ) → AreApart xs ys → length ys ≡ 0 → ComesAfter xs (id_bytes k)
    → xs' ≡ xs ++ (k, v) ∷ [] → InsertsId xs ys k v xs' ys (length xs) None
last xs ys xs' k v apart none after grown = rw grown (inserts_last xs ys k v apart none after)

pub returns-in_err-push-clause-absent : goal.returns-in_err-push-clause-absent
returns-in_err-push-clause-absent c =
    let none : length c.self.inside.others.entries ≡ 0 = search rules in
    let after : ComesAfter c.self.inside.rising.items (id_bytes c.args.id) = search rules in
    let new = inserts_last c.self.inside.rising.items c.self.inside.others.entries c.args.id c.args.number c.self.invariant none after in
    let absent : lookup (id_eq c.args.id) c.args.self.now.entries ≡ None = rw (← c.self.view_is) (sym new.before) in
    search rules

pushed : (c : In_ok-push) → InsertsId c.self.inside.rising.items c.self.inside.others.entries c.args.id c.args.number c.push.new.self.items c.self.inside.others.entries
    (length c.self.inside.rising.items) None
pushed c = last _ _ _ c.args.id c.args.number c.self.invariant (search rules) (search rules) c.in_ok-push.ensures.items

pub invariant_of-self-then-comes_after : goal.invariant_of-self-then-comes_after
invariant_of-self-then-comes_after c = (pushed c).apart

pub returns-then-comes_after-clause-before : goal.returns-then-comes_after-clause-before
returns-then-comes_after-clause-before c =
    let new = pushed c in
    let place : c.len-place.result ≡ length c.self.inside.rising.items = search rules in
    rw (← c.self.view_is) (λ i. ((place ∙ new.index) i, new.before i))

pub returns-then-comes_after-clause-after : goal.returns-then-comes_after-clause-after
returns-then-comes_after-clause-after c = rw (← c.self.view_is) (pushed c).after

pub returns-then-comes_after-clause-unique : goal.returns-then-comes_after-clause-unique
returns-then-comes_after-clause-unique c = (pushed c).apart.distinct

-- an id of the list
listed : (xs ys : List (Id × Option ℕ)) (k : Id) (v : Option ℕ) → AreApart xs ys → (i : ℕ) (e : Id × Option ℕ) (written before : Option ℕ)
    → position (id_eq k) (keys_of xs) ≡ Some i → e ≡ get_or xs i e → written ≡ v → before ≡ e.1
    → InsertsId xs ys k v (set xs i (e.0, written)) ys i (Some before)
listed xs ys k v apart i e written before found is new old = rw (new, old) (inserts_sooner xs ys k v apart i e found is)

renumbered : (c : Joined-id) → InsertsId c.self.inside.rising.items c.self.inside.others.entries c.args.id c.args.number
    (set c.self.inside.rising.items c.in-Some.place (c.index_mut-entry.result.now.0, c.replace-before.new.dest)) c.self.inside.others.entries c.in-Some.place
    (Some c.replace-before.result)
renumbered c = listed _ _ c.args.id c.args.number c.self.invariant c.in-Some.place c.index_mut-entry.result.now _ _ (search rules) c.index_mut-entry.ensures.value
    c.replace-before.ensures.after c.replace-before.ensures.value

pub invariant_of-self-in-Some : goal.invariant_of-self-in-Some
invariant_of-self-in-Some c = (renumbered c).apart

pub returns-in-Some-clause-before : goal.returns-in-Some-clause-before
returns-in-Some-clause-before c = let new = renumbered c in rw (← c.self.view_is) (λ i. (new.index i, new.before i))

pub returns-in-Some-clause-after : goal.returns-in-Some-clause-after
returns-in-Some-clause-after c = rw (← c.self.view_is) (renumbered c).after

pub returns-in-Some-clause-unique : goal.returns-in-Some-clause-unique
returns-in-Some-clause-unique c = (renumbered c).apart.distinct

-- an id that is refused
pub returns-in_err-place-clause-absent : goal.returns-in_err-place-clause-absent
returns-in_err-place-clause-absent c =
    let missing : position (id_eq c.args.id) (keys_of c.self.inside.rising.items) ≡ None = search rules in
    let none = lookup-missing (id_eq c.args.id) c.self.inside.rising.items c.self.inside.others.entries missing ∙ c.in_err-place.ensures.absent in
    let absent : lookup (id_eq c.args.id) c.args.self.now.entries ≡ None = rw (← c.self.view_is) none in
    search rules

pub returns-in_err-place-clause-succeeds : goal.returns-in_err-place-clause-succeeds
returns-in_err-place-clause-succeeds c room = elim (rw (← c.self.view_is) at room) [
  | inl some ↦ let ok = c.in_err-place.ensures.succeeds (omega (arith, some)) in search rules
  | inr rising ↦
      let none = no_others c.self.inside.others.entries _ rising.1 in
      let after = after_list c.self.inside.rising.items c.self.inside.others.entries (id_bytes c.args.id) rising.0 in
      elim c.else-is_empty.branch [
        | else-is_empty-via-then-is_empty+else-comes_after w ↦ let is_last = w.comes_after.ensures.1 in search rules
        | else-is_empty-via-else-is_empty w ↦ search rules
      ]
]

-- any other id
other : (xs ys ys' : List (Id × Option ℕ)) (k : Id) (v : Option ℕ) → AreApart xs ys → (index : ℕ) (before : Option (Option ℕ))
    → position (id_eq k) (keys_of xs) ≡ None → ys' ≡ insert_entry id_eq ys k v → (index, before) ≡ place_and_number k ys
    → InsertsId xs ys k v xs ys' (length xs + index) before
other xs ys ys' k v apart index before missing after old =
    inserts_later xs ys k v apart ys' index before missing after (ap (λ r. r.0) old) (ap (λ r. r.1) old)

behind : (c : After-place_behind-place) → InsertsId c.self.inside.rising.items c.self.inside.others.entries c.args.id c.args.number c.self.inside.rising.items
    c.insert_other.new.others.entries (length c.self.inside.rising.items + c.in_ok-place.place) c.in_ok-place.before
behind c = let done = c.in_ok-place.ensures in other _ _ _ c.args.id c.args.number c.self.invariant _ _ (search rules) done.after done.before

pub invariant_of-self-2 : goal.invariant_of-self-2
invariant_of-self-2 c = (behind c).apart

pub returns-clause-before : goal.returns-clause-before
returns-clause-before c =
    let new = behind c in
    let place : c.place_behind-place.result ≡ length c.self.inside.rising.items + c.in_ok-place.place = search rules in
    rw (← c.self.view_is) (λ i. ((place ∙ new.index) i, new.before i))

pub returns-clause-after : goal.returns-clause-after
returns-clause-after c = rw (← c.self.view_is) (behind c).after

pub returns-clause-unique : goal.returns-clause-unique
returns-clause-unique c = (behind c).apart.distinct
