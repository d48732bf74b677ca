-- The edges of runs, by the boxes of the runs.
use Rattle.std.proofs.Common.{arith, ◌≡◌, ◌≤◌, ◌<◌, ◌+◌, ℕ, zero, suc, false, List, [], ◌∷◌, ◌++◌, length, get_or, take, drop, min, refl, sym, subst, ap, ◌∙◌, append_assoc, append-nil, All}
use Rattle.std.proofs.lemmas.List.{take_all, take_more, drop_more, take-append-drop, length-drop}
use Rattle.std.proofs.lemmas.List.Elements.{All-more, All-weaker, All-head, All-tail}
use Rattle.geom_core.specs.declared.shape.Shape.{Shape}
use Rattle.geom_core.specs.Cells.{IsIn}
use Rattle.plane_core.specs.declared.edge.Edge.{Edge}
use Rattle.plane_core.specs.declared.outline.Scan.{Scan}
use Rattle.plane_core.specs.Points.{Point}
use Rattle.plane_core.specs.Boxes.{is_over}
use Rattle.plane_core.specs.Outlines.{IsScan}
use Rattle.edge_index_core.specs.Bounds.{IsBoxOf}
use Rattle.edge_index_core.specs.Runs.{run_len, HoldsEdge, AreRunBoxes}
use Rattle.edge_index_core.proofs.OverLemmas.{lies_clear, not_over_in}
use Rattle.edge_index_core.proofs.ScanLemmas.{scan_clear}

-- ---- one run

-- no more than a list has is taken of it
take_nothing : (k : ℕ) (none : List Edge) → none ≡ [] → take k none ≡ []
take_nothing k none is = take_all k none (rw is (omega arith)) ∙ is

drop_nothing : (k : ℕ) (es : List Edge) → es ≡ [] → drop k es ≡ []
drop_nothing k [] is = empty k
  where
    empty : (k : ℕ) → drop {A = Edge} k [] ≡ []
    empty zero = refl
    empty (suc k) = refl
drop_nothing k (e ∷ es) is = absurd (cc)

take_least : (n : ℕ) (es : List Edge) → take (min n (length es)) es ≡ take n es
take_least zero es = let none : min zero (length es) ≡ zero = omega arith in ap (λ (k : ℕ). take k es) none
take_least (suc n) [] = take_nothing (min (suc n) 0) [] refl
take_least (suc n) (e ∷ es) =
    let less : min (suc n) (length (e ∷ es)) ≡ suc (min n (length es)) = omega arith in
    ap (λ (k : ℕ). take k (e ∷ es)) less ∙ ap (λ (fs : List Edge). e ∷ fs) (take_least n es)

drop_least : (n : ℕ) (es : List Edge) → drop (min n (length es)) es ≡ drop n es
drop_least zero es = let none : min zero (length es) ≡ zero = omega arith in ap (λ (k : ℕ). drop k es) none
drop_least (suc n) [] = drop_nothing (min (suc n) 0) [] refl
drop_least (suc n) (e ∷ es) =
    let less : min (suc n) (length (e ∷ es)) ≡ suc (min n (length es)) = omega arith in
    ap (λ (k : ℕ). drop k (e ∷ es)) less ∙ drop_least n es

pub run_is : (es : List Edge) (n : ℕ) → n ≡ min run_len (length es) → take n es ≡ take run_len es
run_is es n is = ap (λ (k : ℕ). take k es) is ∙ take_least run_len es

pub after_is : (es : List Edge) (n : ℕ) → n ≡ min run_len (length es) → drop n es ≡ drop run_len es
after_is es n is = ap (λ (k : ℕ). drop k es) is ∙ drop_least run_len es

pub run_some : (rest run : List Edge) → run ≡ take run_len rest → 0 < length rest → 0 < length run
run_some [] run is some = absurd (omega (arith, some))
run_some (e ∷ rest) run is some = rw is (omega arith)

pub after_less : (rest after : List Edge) → after ≡ drop run_len rest → 0 < length rest → length after < length rest
after_less rest after is some = rw is (omega (arith, some, length-drop run_len rest))

-- ---- the box of a run

held_wider : (s t : Shape) (e : Edge) → IsIn s t → HoldsEdge s e → HoldsEdge t e
held_wider s t e wide h = record { own = h.own; own_is = h.own_is; within = λ u v c. wide u v (h.within u v c) }

pub held_more : (s b t : Shape) (es : List Edge) (i : ℕ) (e : Edge) → i < length es → e ≡ get_or es i e → IsIn s t → IsIn b t → IsBoxOf e b
    → All (HoldsEdge s) (take i es) → All (HoldsEdge t) (take (i + 1) es)
held_more s b t es i e lt is wide own box h =
    All-more (HoldsEdge t) es i e lt (All-weaker (HoldsEdge s) (HoldsEdge t) (λ f k. held_wider s t f wide k) (take i es) h)
    (subst (HoldsEdge t) is (record { own = b; own_is = box; within = own }))

pub held_all : (s : Shape) (es : List Edge) (i : ℕ) → length es ≤ i → All (HoldsEdge s) (take i es) → All (HoldsEdge s) es
held_all s es i le h = subst (All (HoldsEdge s)) (take_all i es le) h

pub boxes_more : (es rest run after : List Edge) (old new : List Shape) (s : Shape) → run ≡ take run_len rest → after ≡ drop run_len rest
    → All (HoldsEdge s) run → new ≡ old ++ s ∷ [] → ((more : List Shape) → AreRunBoxes rest more → AreRunBoxes es (old ++ more))
    → (more : List Shape) → AreRunBoxes after more → AreRunBoxes es (new ++ more)
boxes_more es rest run after old new s run_is after_is held pushed h more k =
    subst (λ (ss : List Shape). AreRunBoxes es (ss ++ more)) (sym pushed)
    (subst (AreRunBoxes es) (sym (append_assoc old (s ∷ []) more))
    (h (s ∷ more) (subst (All (HoldsEdge s)) run_is held, subst (λ (l : List Edge). AreRunBoxes l more) after_is k)))

pub boxes_all : (es rest : List Edge) (boxes : List Shape) → rest ≡ [] → ((more : List Shape) → AreRunBoxes rest more → AreRunBoxes es (boxes ++ more)) → AreRunBoxes es boxes
boxes_all es rest boxes none h = subst (AreRunBoxes es) (append-nil boxes) (h [] none)

-- ---- a scan

pub scan_more : (es fs : List Edge) (p : Point) (i : ℕ) (e : Edge) (a b : Scan) → i < length fs → e ≡ get_or fs i e
    → IsScan (es ++ take i fs) p a → ((ds : List Edge) → IsScan ds p a → IsScan (ds ++ e ∷ []) p b) → IsScan (es ++ take (i + 1) fs) p b
scan_more es fs p i e a b lt is h more =
    subst (λ (l : List Edge). IsScan l p b)
    (append_assoc es (take i fs) (e ∷ []) ∙ ap (λ (l : List Edge). es ++ l) (sym (take_more fs i e lt ∙ ap (λ (x : Edge). take i fs ++ x ∷ []) (sym is))))
    (more (es ++ take i fs) h)

-- edges of a run over whose box the point isn't
pub scan_apart : (es fs : List Edge) (p : Point) (s : Shape) (a : Scan) → 0 < p.w → is_over s p ≡ false → All (HoldsEdge s) fs → IsScan es p a → IsScan (es ++ fs) p a
scan_apart es [] p s a wide off held h = subst (λ (l : List Edge). IsScan l p a) (sym (append-nil es)) h
scan_apart es (f ∷ fs) p s a wide off held h =
    let first = All-head (HoldsEdge s) f fs held in
    let clear = lies_clear f p first.own wide first.own_is (not_over_in first.own s p wide first.within off) in
    subst (λ (l : List Edge). IsScan l p a) (append_assoc es (f ∷ []) fs)
    (scan_apart (es ++ f ∷ []) fs p s a wide off (All-tail (HoldsEdge s) f fs held) (scan_clear es f p a clear h))

-- a list up to its rest has the scan
pub record IsScannedTo (es rest : List Edge) (p : Point) (a : Scan) : Type 0 where
  pub done : List Edge
  pub whole : es ≡ done ++ rest
  pub scan : IsScan done p a

pub none_scanned : (es : List Edge) (p : Point) (a : Scan) → IsScan [] p a → IsScannedTo es es p a
none_scanned es p a h = record { done = []; whole = refl; scan = h }

-- the next run is done
pub run_off : (es done rest : List Edge) → es ≡ done ++ rest → es ≡ (done ++ take run_len rest) ++ drop run_len rest
run_off es done rest whole =
    whole ∙ ap (λ (l : List Edge). done ++ l) (sym (take-append-drop run_len rest)) ∙ sym (append_assoc done (take run_len rest) (drop run_len rest))

pub run_scanned : (es rest after : List Edge) (p : Point) (a b : Scan) → after ≡ drop run_len rest
    → ((ds : List Edge) → IsScan ds p a → IsScan (ds ++ take run_len rest) p b) → IsScannedTo es rest p a → IsScannedTo es after p b
run_scanned es rest after p a b is more h = subst (λ (l : List Edge). IsScannedTo es l p b) (sym is) (record {
  done = h.done ++ take run_len rest;
  whole = run_off es h.done rest h.whole;
  scan = more h.done h.scan;
})

pub all_scanned : (es rest : List Edge) (p : Point) (a : Scan) → rest ≡ [] → IsScannedTo es rest p a → IsScan es p a
all_scanned es rest p a none h =
    subst (λ (l : List Edge). IsScan l p a) (sym (h.whole ∙ ap (λ (l : List Edge). h.done ++ l) none ∙ append-nil h.done)) h.scan

-- ---- the boxes that are left

pub boxes_next : (rest : List Edge) (boxes : List Shape) (i : ℕ) (s : Shape) → i < length boxes → s ≡ get_or boxes i s → AreRunBoxes rest (drop i boxes)
    → All (HoldsEdge s) (take run_len rest) × AreRunBoxes (drop run_len rest) (drop (i + 1) boxes)
boxes_next rest boxes i s lt is h =
    subst (AreRunBoxes rest) (drop_more boxes i s lt ∙ ap (λ (x : Shape). x ∷ drop (i + 1) boxes) (sym is)) h

pub boxes_over : (rest : List Edge) (boxes : List Shape) (i : ℕ) → length boxes ≤ i → AreRunBoxes rest (drop i boxes) → rest ≡ []
boxes_over rest boxes i le h = subst (AreRunBoxes rest) (drop_past boxes i le) h
  where
    drop_past : (ss : List Shape) (i : ℕ) → length ss ≤ i → drop i ss ≡ []
    drop_past [] zero le = refl
    drop_past [] (suc i) le = refl
    drop_past (s ∷ ss) zero le = absurd (omega (arith, le))
    drop_past (s ∷ ss) (suc i) le = drop_past ss i (omega (arith, le))

pub none_left : (rest : List Edge) → length rest ≡ 0 → rest ≡ []
none_left [] h = refl
none_left (e ∷ rest) h = absurd (omega (arith, h))
