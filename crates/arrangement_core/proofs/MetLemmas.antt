-- On which edges of a list a point is, found edge by edge.
use Rattle.std.proofs.Common.{◌≡◌, ◌≤◌, ◌<◌, ◌+◌, inl, inr, refl, sym, subst, ap, ◌∙◌, true, false, List, [], ◌∷◌, ◌++◌, take, get_or, length}
use Rattle.std.specs.Prelude.{ℕ}
use Rattle.std.proofs.lemmas.List.{take_more, take_all}
use Rattle.plane_core.specs.declared.edge.Edge.{Edge}
use Rattle.plane_core.specs.Points.{Point, is_on}
use Rattle.noding_core.specs.Nodes.{IsAmong}
use Rattle.noding_core.proofs.AmongLemmas.{among_left, among_right, among_either}
use Rattle.noding_core.proofs.TestLemmas.{clash}
use Rattle.noding_core.proofs.TurnLemmas.{get_among}
use Rattle.arrangement_core.specs.declared.crossed.Met.{Met}
use Rattle.arrangement_core.specs.declared.crossed.Met.TheVariants.{Nowhere, Once, Often}
use Rattle.arrangement_core.specs.Crossed.{IsMet}

here_among : (ds : List Edge) (i : ℕ) (e : Edge) → i < length ds → e ≡ get_or ds i e → IsAmong e ds
here_among ds i e lt is = subst (λ (x : Edge). IsAmong x ds) (sym is) (get_among ds i e lt)

more : (ds : List Edge) (i : ℕ) (e : Edge) → i < length ds → e ≡ get_or ds i e → take i ds ++ e ∷ [] ≡ take (i + 1) ds
more ds i e lt is = sym (take_more ds i e lt ∙ ap (λ (x : Edge). take i ds ++ x ∷ []) (sym is))

skipped : (xs : List Edge) (e : Edge) (p : Point) (m : Met) → is_on e p ≡ false → IsMet xs p m → IsMet (xs ++ e ∷ []) p m
skipped xs e p Nowhere off h = λ f one. elim (among_either f xs (e ∷ []) one) [
  | inl k ↦ h f k
  | inr (inl is) ↦ subst (λ (x : Edge). is_on x p ≡ false) (sym is) off
  | inr (inr none) ↦ absurd none
]
skipped xs e p (Once d) off h = record {
  one = among_left d xs (e ∷ []) h.one;
  on = h.on;
  only = λ g one on. elim (among_either g xs (e ∷ []) one) [
    | inl k ↦ h.only g k on
    | inr (inl is) ↦ clash (is_on e p) (subst (λ (x : Edge). is_on x p ≡ true) is on) off
    | inr (inr none) ↦ absurd none
  ];
}
skipped xs e p Often off h = (h.0, among_left h.0 xs (e ∷ []) h.1, h.2)

pub met_skipped : (ds : List Edge) (i : ℕ) (e : Edge) (p : Point) (m : Met) → i < length ds → e ≡ get_or ds i e → is_on e p ≡ false → IsMet (take i ds) p m → IsMet (take (i + 1) ds) p m
met_skipped ds i e p m lt is off h = subst (λ (xs : List Edge). IsMet xs p m) (more ds i e lt is) (skipped (take i ds) e p m off h)

first : (xs : List Edge) (e : Edge) (p : Point) → is_on e p ≡ true → IsMet xs p Nowhere → IsMet (xs ++ e ∷ []) p (Once e)
first xs e p on h = record {
  one = among_right e xs (e ∷ []) (inl refl);
  on = on;
  only = λ g one also. elim (among_either g xs (e ∷ []) one) [
    | inl k ↦ clash (is_on g p) also (h g k)
    | inr (inl is) ↦ is
    | inr (inr none) ↦ absurd none
  ];
}

pub met_first : (ds : List Edge) (i : ℕ) (e : Edge) (p : Point) → i < length ds → e ≡ get_or ds i e → is_on e p ≡ true → IsMet (take i ds) p Nowhere → IsMet (take (i + 1) ds) p (Once e)
met_first ds i e p lt is on h = subst (λ (xs : List Edge). IsMet xs p (Once e)) (more ds i e lt is) (first (take i ds) e p on h)

pub met_again : (ds : List Edge) (i : ℕ) (e : Edge) (p : Point) → i < length ds → e ≡ get_or ds i e → is_on e p ≡ true → IsMet ds p Often
met_again ds i e p lt is on = (e, here_among ds i e lt is, on)

pub met_whole : (ds : List Edge) (i : ℕ) (p : Point) (m : Met) → length ds ≤ i → IsMet (take i ds) p m → IsMet ds p m
met_whole ds i p m le h = subst (λ (xs : List Edge). IsMet xs p m) (take_all i ds le) h

pub met_none : (p : Point) → IsMet [] p Nowhere
met_none p f one = absurd one
