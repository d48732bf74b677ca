-- The shapes that the lists of a text form, by the results of reading them.
use Rattle.std.proofs.Common.{◌≡◌, ℕ, List, [], ◌∷◌, map, sym, ◌∙◌, subst}
use Rattle.std.specs.Prelude.{IsTrue, Option, IfSome, IfNone}
use Rattle.std.specs.List.{list_all}
use Rattle.std.proofs.lemmas.Bool.{false≢true}
use Rattle.std.proofs.lemmas.Option.{IfSome_then}
use Rattle.geom_core.specs.declared.shape.Shape.{Shape}
use Rattle.wkt_core.specs.declared.keyword.Keyword.{Keyword}
use Rattle.wkt_core.specs.declared.keyword.Keyword.TheVariants.{Point, LineString, Polygon}
use Rattle.wkt_core.specs.declared.read_list.ReadLists.{ReadLists}
use Rattle.number_core.specs.declared.scale.Scale.{Scale}
use Rattle.wkt_core.specs.declared.walk.Walk.{Walk}
use Rattle.wkt_core.specs.Grammar.{RawPoint}
use Rattle.wkt_core.specs.Spelling.{Forms, position, positions}
use Rattle.wkt_core.specs.ListSteps.{TakesBody, TakesText}
use Rattle.wkt_core.specs.ReadLists.{AreReadOf, are_in_range}
use Rattle.wkt_core.specs.Walks.{way_of, IsKeptOf, IsDrawnBy}
use Rattle.wkt_core.proofs.HeadingLemmas.{both_parts}
use Rattle.wkt_core.proofs.FormLemmas.{none_weaker}
use Rattle.wkt_core.proofs.DrawnLemmas.{IsAlone, draws_kept, kept_draws}
use Rattle.wkt_core.proofs.WalkLemmas.{walk_drawn, drawn_walk}

module _ (scale : Scale) where
  -- the text of a point has one
  alone : (keyword : Keyword) (ps : List RawPoint) (text rest : List ℕ) → TakesBody scale keyword text (ps ∷ []) rest → IsAlone keyword (map (position scale) ps)
  alone Point [] text rest h = absurd h
  alone Point (p ∷ []) text rest h = tt
  alone Point (p ∷ q ∷ ps) text rest h = absurd h
  alone LineString ps text rest h = tt
  alone Polygon ps text rest h = tt

  pub read_forms : (keyword : Keyword) (read : ReadLists) (text : List ℕ) (lists : List (List RawPoint)) (s : Shape) → IsTrue read.alone
      → IsDrawnBy keyword read.first.walk.turns.items read.first.walk.last s → TakesText scale text keyword lists → AreReadOf scale read lists
      → IsTrue (list_all (are_in_range scale) lists) → Forms keyword (positions scale lists) s
  read_forms keyword read text [] s a h (m, e, word, body, end) r range = absurd r.alone
  read_forms keyword read text (ps ∷ []) s a h (m, e, word, body, end) r range =
      let kept : IsKeptOf read.first.walk (way_of (map (position scale) ps)) = r.alone.1.walk (both_parts _ _ range).0 in
      kept_draws keyword (map (position scale) ps) s (alone keyword ps _ e body)
      (walk_drawn keyword read.first.walk (way_of (map (position scale) ps)) s kept h)
  read_forms keyword read text (ps ∷ qs ∷ lists) s a h (m, e, word, body, end) r range = absurd (false≢true (sym r.alone ∙ a))

  pub forms_read : (keyword : Keyword) (read : ReadLists) (lists : List (List RawPoint)) (s : Shape) → AreReadOf scale read lists
      → IsTrue (list_all (are_in_range scale) lists) → Forms keyword (positions scale lists) s
      → IsDrawnBy keyword read.first.walk.turns.items read.first.walk.last s
  forms_read keyword read [] s r range h = absurd h
  forms_read keyword read (ps ∷ []) s r range h =
      let kept : IsKeptOf read.first.walk (way_of (map (position scale) ps)) = r.alone.1.walk (both_parts _ _ range).0 in
      drawn_walk keyword read.first.walk (way_of (map (position scale) ps)) s kept (draws_kept keyword (map (position scale) ps) s h)
  forms_read keyword read (ps ∷ qs ∷ lists) s r range h = absurd h

-- the shape that the walk along the only list forms, or none
module _ (keyword : Keyword) (read : ReadLists) (walk : Walk) (r : Option Shape) (stands : IsTrue read.alone) (same : walk ≡ read.first.walk) where
  pub some_forms : IfSome r (λ s. IsDrawnBy keyword walk.turns.items walk.last s)
      → IfSome r (λ s. (scale : Scale) (text : List ℕ) (lists : List (List RawPoint)) → TakesText scale text keyword lists → AreReadOf scale read lists
      → IsTrue (list_all (are_in_range scale) lists) → Forms keyword (positions scale lists) s)
  some_forms drawn = IfSome_then r drawn (λ s h scale text lists taken is range.
      read_forms scale keyword read text lists s stands (subst (λ w. IsDrawnBy keyword w.turns.items w.last s) same h) taken is range)

  pub none_forms : IfNone r ((s : Shape) → IsDrawnBy keyword walk.turns.items walk.last s → ⊥)
      → IfNone r ((scale : Scale) (text : List ℕ) (lists : List (List RawPoint)) (s : Shape) → TakesText scale text keyword lists → AreReadOf scale read lists
      → IsTrue (list_all (are_in_range scale) lists) → Forms keyword (positions scale lists) s → ⊥)
  none_forms drawn = none_weaker r drawn (λ none scale text lists s taken is range h.
      none s (subst (λ w. IsDrawnBy keyword w.turns.items w.last s) (sym same) (forms_read scale keyword read lists s is range h)))
