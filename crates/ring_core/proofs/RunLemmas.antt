-- Edges in runs: each two meet properly if those of each run do, and meet properly all of later runs.
use Rattle.std.proofs.Common.{arith, ◌≡◌, ◌≤◌, ◌<◌, ◌+◌, ◌-◌, ℕ, zero, suc, List, [], ◌∷◌, ◌++◌, length, get_or, take, drop, refl, sym, subst, ap, ◌∙◌, All}
use Rattle.std.specs.Prelude.{◌↔◌}
use Rattle.std.proofs.lemmas.List.{take-append-drop, take_all, length-drop}
use Rattle.std.proofs.lemmas.List.Elements.{All-head, All-tail}
use Rattle.geom_core.specs.declared.shape.Shape.{Shape}
use Rattle.geom_core.specs.Cells.{IsIn, Meets}
use Rattle.plane_core.specs.declared.edge.Edge.{Edge}
use Rattle.plane_core.specs.ProperRings.{MeetProperly, AreProper}
use Rattle.edge_index_core.specs.Bounds.{IsBoxOf}
use Rattle.edge_index_core.specs.Runs.{run_len, HoldsEdge, AreRunBoxes}
use Rattle.ring_core.proofs.RingLemmas.{by_boxes}

abbrev pub MeetAll : List Edge → Edge → Type 0
MeetAll es e = All (MeetProperly e) es

-- ---- two lists, one after the other

all_cons : {X : Type 0} (P : X → Type 0) (x : X) (xs : List X) → P x → All P xs → All P (x ∷ xs)
all_cons P x xs h t zero d lt = h
all_cons P x xs h t (suc k) d lt = t k d (omega (arith, lt))

pub all_both : {X : Type 0} (P : X → Type 0) (xs ys : List X) → All P xs → All P ys → All P (xs ++ ys)
all_both P [] ys h k = k
all_both P (x ∷ xs) ys h k = all_cons P x (xs ++ ys) (All-head P x xs h) (all_both P xs ys (All-tail P x xs h) k)

pub all_first : {X : Type 0} (P : X → Type 0) (xs ys : List X) → All P (xs ++ ys) → All P xs
all_first P [] ys h = λ k d lt. absurd (omega (arith, lt))
all_first P (x ∷ xs) ys h = all_cons P x xs (All-head P x (xs ++ ys) h) (all_first P xs ys (All-tail P x (xs ++ ys) h))

pub all_second : {X : Type 0} (P : X → Type 0) (xs ys : List X) → All P (xs ++ ys) → All P ys
all_second P [] ys h = h
all_second P (x ∷ xs) ys h = all_second P xs ys (All-tail P x (xs ++ ys) h)

proper_cons : (e : Edge) (es : List Edge) → MeetAll es e → AreProper es → AreProper (e ∷ es)
proper_cons e es head tail i zero d lt within = absurd (omega (arith, lt))
proper_cons e es head tail zero (suc j) d lt within = head j d (omega (arith, within))
proper_cons e es head tail (suc i) (suc j) d lt within = tail i j d (omega (arith, lt)) (omega (arith, within))

proper_head : (e : Edge) (es : List Edge) → AreProper (e ∷ es) → MeetAll es e
proper_head e es h j d lt = h 0 (suc j) d (omega arith) (omega (arith, lt))

proper_tail : (e : Edge) (es : List Edge) → AreProper (e ∷ es) → AreProper es
proper_tail e es h i j d lt within = h (suc i) (suc j) d (omega (arith, lt)) (omega (arith, within))

pub proper_both : (xs ys : List Edge) → AreProper xs → All (MeetAll ys) xs → AreProper ys → AreProper (xs ++ ys)
proper_both [] ys h k l = l
proper_both (x ∷ xs) ys h k l =
    proper_cons x (xs ++ ys) (all_both (MeetProperly x) xs ys (proper_head x xs h) (All-head (MeetAll ys) x xs k))
    (proper_both xs ys (proper_tail x xs h) (All-tail (MeetAll ys) x xs k) l)

pub proper_first : (xs ys : List Edge) → AreProper (xs ++ ys) → AreProper xs
proper_first [] ys h = λ i j d lt within. absurd (omega (arith, within))
proper_first (x ∷ xs) ys h =
    proper_cons x xs (all_first (MeetProperly x) xs ys (proper_head x (xs ++ ys) h)) (proper_first xs ys (proper_tail x (xs ++ ys) h))

pub proper_across : (xs ys : List Edge) → AreProper (xs ++ ys) → All (MeetAll ys) xs
proper_across [] ys h = λ k d lt. absurd (omega (arith, lt))
proper_across (x ∷ xs) ys h =
    all_cons (MeetAll ys) x xs (all_second (MeetProperly x) xs ys (proper_head x (xs ++ ys) h)) (proper_across xs ys (proper_tail x (xs ++ ys) h))

pub proper_second : (xs ys : List Edge) → AreProper (xs ++ ys) → AreProper ys
proper_second [] ys h = h
proper_second (x ∷ xs) ys h = proper_second xs ys (proper_tail x (xs ++ ys) h)

-- ---- the first run of a list, and the edges after it

pub split_run : (rest run after : List Edge) → run ≡ take run_len rest → after ≡ drop run_len rest → run ++ after ≡ rest
split_run rest run after is next = ap (λ (l : List Edge). l ++ after) is ∙ ap (λ (l : List Edge). take run_len rest ++ l) next ∙ take-append-drop run_len rest

-- the edges of a run whose box doesn't meet that of an edge
pub run_apart : (e : Edge) (fs : List Edge) (bounds s : Shape) → IsBoxOf e bounds → (Meets s bounds → ⊥) → All (HoldsEdge s) fs → MeetAll fs e
run_apart e fs bounds s boxed off held k d lt =
    let f = get_or fs k d in
    let own = held k d lt in
    by_boxes e f bounds own.own boxed own.own_is (λ met. absurd (off (wider own.own own.within met)))
  where
    wider : (t : Shape) → IsIn t s → Meets t bounds → Meets s bounds
    wider t wide met = (met.0, met.1, wide met.0 met.1 met.2, met.3)

-- an edge meets properly all of a list if it does so a rest of it
pub record ComesTo (e : Edge) (es rest : List Edge) : Type 0 where
  pub up : MeetAll rest e → MeetAll es e
  pub down : MeetAll es e → MeetAll rest e

pub comes_first : (e : Edge) (es : List Edge) → ComesTo e es es
comes_first e es = record { up = λ h. h; down = λ h. h }

pub comes_next : (e : Edge) (es rest run after : List Edge) → run ++ after ≡ rest → MeetAll run e → ComesTo e es rest → ComesTo e es after
comes_next e es rest run after whole met h = record {
  up = λ k. h.up (subst (λ (l : List Edge). MeetAll l e) whole (all_both (MeetProperly e) run after met k));
  down = λ k. all_second (MeetProperly e) run after (subst (λ (l : List Edge). MeetAll l e) (sym whole) (h.down k));
}

pub run_met : (e : Edge) (es rest run after : List Edge) → run ++ after ≡ rest → ComesTo e es rest → MeetAll es e → MeetAll run e
run_met e es rest run after whole h k = all_first (MeetProperly e) run after (subst (λ (l : List Edge). MeetAll l e) (sym whole) (h.down k))

pub comes_last : (e : Edge) (es rest : List Edge) → rest ≡ [] → ComesTo e es rest → MeetAll es e
comes_last e es rest none h = h.up (subst (λ (l : List Edge). MeetAll l e) (sym none) (λ k d lt. absurd (omega (arith, lt))))

-- each two of a list meet properly if those of a rest of it do
pub record IsProperTo (es rest : List Edge) : Type 0 where
  pub up : AreProper rest → AreProper es
  pub down : AreProper es → AreProper rest

pub proper_start : (es : List Edge) → IsProperTo es es
proper_start es = record { up = λ h. h; down = λ h. h }

pub proper_next : (es rest run after : List Edge) → run ++ after ≡ rest → AreProper run → All (MeetAll after) run → IsProperTo es rest → IsProperTo es after
proper_next es rest run after whole own across h = record {
  up = λ k. h.up (subst AreProper whole (proper_both run after own across k));
  down = λ k. proper_second run after (subst AreProper (sym whole) (h.down k));
}

pub proper_run : (es rest run after : List Edge) → run ++ after ≡ rest → IsProperTo es rest → AreProper es → AreProper run
proper_run es rest run after whole h k = proper_first run after (subst AreProper (sym whole) (h.down k))

pub proper_later : (es rest run after : List Edge) → run ++ after ≡ rest → IsProperTo es rest → AreProper es → All (MeetAll after) run
proper_later es rest run after whole h k = proper_across run after (subst AreProper (sym whole) (h.down k))

pub proper_end : (es rest : List Edge) → rest ≡ [] → IsProperTo es rest → AreProper es
proper_end es rest none h = h.up (subst AreProper (sym none) (λ i j d lt within. absurd (omega (arith, within))))

-- an edge of a run whose edges all meet properly all of a list
pub item_met : (es run : List Edge) (i : ℕ) (e : Edge) → i < length run → e ≡ get_or run i e → All (MeetAll es) run → MeetAll es e
item_met es run i e lt is h = subst (MeetAll es) (sym is) (h i e lt)

-- the boxes after a run's
pub boxes_after : (rest after : List Edge) (ss : List Shape) (i : ℕ) → i < length ss → after ≡ drop run_len rest → AreRunBoxes rest (drop i ss)
    → AreRunBoxes after (drop (i + 1) ss)
boxes_after rest after [] i lt is h = absurd (omega (arith, lt))
boxes_after rest after (s ∷ ss) zero lt is h = subst (λ (l : List Edge). AreRunBoxes l ss) (sym is) h.1
boxes_after rest after (s ∷ ss) (suc i) lt is h =
    let next : suc (i + 1) ≡ suc i + 1 = omega arith in
    subst (λ (k : ℕ). AreRunBoxes after (drop k (s ∷ ss))) next (boxes_after rest after ss i (omega (arith, lt)) is h)

pub boxes_left : (ss : List Shape) (i : ℕ) → take (length ss - i) (drop i ss) ≡ drop i ss
boxes_left ss i = take_all (length ss - i) (drop i ss) (omega (arith, length-drop i ss))
