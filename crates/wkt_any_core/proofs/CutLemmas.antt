-- Concatenated paths, cut at the end of each, are the paths.
use Rattle.std.proofs.Common.{◌≡◌, ℕ, ◌+◌, ◌-◌, List, [], ◌∷◌, ◌++◌, map, length, take, drop, refl, sym, ◌∙◌, ap, ap₂, subst, arith}
use Rattle.std.specs.List.{slice_range}
use Rattle.std.proofs.lemmas.List.{append_assoc, length-append, length-map, take-map, drop-map}
use Rattle.std.proofs.Math.Seq.{take-append_seam}
use Rattle.std.proofs.lemmas.List.Prefix.{front_rest}
use Rattle.plane_core.specs.declared.vertex.Vertex.{Vertex}
use Rattle.plane_core.specs.Stored.{paths_of, AreCuts}
use Rattle.wkt_core.specs.declared.position.Position.{Position}
use Rattle.wkt_any_core.specs.Drawing.{position_of, positions_of}
use Rattle.wkt_any_core.specs.Grammar.{joined}
use Rattle.wkt_any_core.specs.Held.{ends_of}

slice_is : (vs : List Vertex) (before path after : List Position) → map position_of vs ≡ before ++ (path ++ after)
    → map position_of (slice_range vs (length before) (length before + length path)) ≡ path
slice_is vs before path after e =
    let n : length before + length path - length before ≡ length path = omega arith in
    ap (λ k. map position_of (take k (drop (length before) vs))) n
    ∙ sym (take-map position_of (length path) (drop (length before) vs))
    ∙ ap (take (length path)) (sym (drop-map position_of (length before) vs) ∙ front_rest (map position_of vs) before (path ++ after) e)
    ∙ take-append_seam path after

cut_from : (vs : List Vertex) (before : List Position) (lists : List (List Position)) → map position_of vs ≡ before ++ joined lists
    → positions_of (paths_of (length before) (ends_of (length before) lists) vs) ≡ lists
cut_from vs before [] e = refl
cut_from vs before (list ∷ lists) e =
    let count : length (before ++ list) ≡ length before + length list = length-append before list in
    ap₂ (λ p ps. p ∷ ps) (slice_is vs before list (joined lists) e)
    (subst (λ n. positions_of (paths_of n (ends_of n lists) vs) ≡ lists) count
    (cut_from vs (before ++ list) lists (e ∙ sym (append_assoc before list (joined lists)))))

pub cut : (vs : List Vertex) (ends : List ℕ) (lists : List (List Position)) → map position_of vs ≡ joined lists → ends ≡ ends_of 0 lists
    → positions_of (paths_of 0 ends vs) ≡ lists
cut vs ends lists e f = rw f (cut_from vs [] lists e)

cuts_from : (n : ℕ) (lists : List (List Position)) → AreCuts n (ends_of n lists) (n + length (joined lists))
cuts_from n [] = omega arith
cuts_from n (list ∷ lists) =
    let count : n + length list + length (joined lists) ≡ n + length (list ++ joined lists) = omega (arith, length-append list (joined lists)) in
    (omega arith, subst (λ m. AreCuts (n + length list) (ends_of (n + length list) lists) m) count (cuts_from (n + length list) lists))

pub are_cuts : (vs : List Vertex) (ends : List ℕ) (lists : List (List Position)) → map position_of vs ≡ joined lists → ends ≡ ends_of 0 lists
    → AreCuts 0 ends (length vs)
are_cuts vs ends lists e f =
    let count : 0 + length (joined lists) ≡ length vs = none_more (length (joined lists)) ∙ ap length (sym e) ∙ length-map vs position_of in
    rw f (subst (AreCuts 0 (ends_of 0 lists)) count (cuts_from 0 lists))
  where
    none_more : (n : ℕ) → 0 + n ≡ n
    none_more n = omega arith
