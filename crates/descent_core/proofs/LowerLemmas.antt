-- The nodes one level below a node.
use Rattle.std.proofs.Common.{arith, ◌≡◌, ℕ, zero, suc, ◌+◌, ◌-◌, ◌<◌, ◌≤◌, Bool, false, max, List, [], ◌∷◌, length, get_or, map, refl, sym, ◌∙◌, subst}
use Rattle.std.specs.Prelude.{◌↔◌, All, IsTrue}
use Rattle.std.specs.List.{flat_map, fold}
use Rattle.std.proofs.lemmas.Bool.{false≢true}
use Rattle.std.proofs.lemmas.List.Elements.{All-head, All-tail, All-weaker}
use Rattle.rtree_core.specs.declared.node.Node.{Node}
use Rattle.rtree_core.specs.Nodes.{entries_of, level_of, IsLawful, AreLawfulChildren}
use Rattle.rtree_core.proofs.NodeLemmas.{top_level}
use Rattle.descent_core.specs.Steps.{IsOneLower}

pub inner_step : (n : Node) (cs : List Node) → entries_of n ≡ flat_map entries_of cs → IsLawful n → (IsLawful n → AreLawfulChildren n cs) → IsOneLower n cs
inner_step n cs entries lawful children =
    let cs_are = children lawful in
    record {
      entries = entries;
      lawful = cs_are.lawful;
      levels = All-weaker (λ m. level_of m + 1 ≡ level_of n) (λ m. level_of m ≡ level_of n - 1) (λ m h. omega arith) cs cs_are.levels;
      covers = cs_are.covers;
    }

fold_max-le : (n a : ℕ) (xs : List Node) → a ≤ n → All (λ m. level_of m ≤ n) xs → fold max a (map level_of xs) ≤ n
fold_max-le n a [] low h = low
fold_max-le n a (x ∷ xs) low h =
    let head : level_of x ≤ n = All-head (λ m. level_of m ≤ n) x xs h in
    fold_max-le n (max a (level_of x)) xs (omega arith) (All-tail (λ m. level_of m ≤ n) x xs h)

-- no node one level below is higher than that
pub top_lower : (n : Node) (below : List Node) → IsOneLower n below → top_level below ≤ level_of n - 1
top_lower n below h =
    fold_max-le (level_of n - 1) 0 below (omega arith)
    (All-weaker (λ m. level_of m ≡ level_of n - 1) (λ m. level_of m ≤ level_of n - 1) (λ m e. omega arith) below h.levels)

-- a node that is no leaf has a level greater than 0
pub above_zero : (n : ℕ) (leaf : Bool) → leaf ≡ false → (IsTrue leaf ↔ (n ≡ 0)) → 0 < n
above_zero zero leaf e h = absurd (false≢true (sym e ∙ h.1 refl))
above_zero (suc n) leaf e h = omega arith

-- a fact of each item of a list is a fact of one read from it
pub at_place : {T : Type 0} (P : T → Type 0) (xs : List T) (i : ℕ) (x : T) → All P xs → i < length xs → x ≡ get_or xs i x → P x
at_place P xs i x h lt at = subst P (sym at) (h i x lt)
