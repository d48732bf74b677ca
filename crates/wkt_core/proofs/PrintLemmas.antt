-- A list of points that is printed one after another.
use Rattle.std.proofs.Common.{◌≡◌, ℕ, ◌+◌, ◌<◌, ◌≤◌, List, [], ◌∷◌, ◌++◌, length, get_or, take, pos, sym, ◌∙◌, ap}
use Rattle.std.specs.Prelude.{codes}
use Rattle.std.specs.List.{flat_map}
use Rattle.std.proofs.lemmas.List.{append_assoc, append-nil, take_all, take_more}
use Rattle.std.proofs.lemmas.Grind.{flat_map-append}
use Rattle.wkt_core.specs.declared.position.Position.{Position}
use Rattle.number_core.specs.declared.scale.Scale.{Scale}
use Rattle.wkt_core.specs.Canonical.{pair, listed}

-- the value used for an index past the end
abbrev origin : Position
origin = record { x = pos 0; y = pos 0 }

module _ (scale : Scale) where
  abbrev further_text : List Position → List ℕ
  further_text ps = flat_map (λ q. codes ", " ++ pair scale q) ps

  -- a comma, a space and one more point
  pub point_added : (ps : List Position) (i : ℕ) (start before between after : List ℕ) → i < length ps
      → before ≡ start ++ further_text (take i ps) → between ≡ before ++ codes ", " → after ≡ between ++ pair scale (get_or ps i origin)
      → after ≡ start ++ further_text (take (i + 1) ps)
  point_added ps i start before between after h e f g =
      let q = get_or ps i origin in
      let piece = codes ", " ++ pair scale q in
      let one : further_text (take i ps ++ q ∷ []) ≡ further_text (take i ps) ++ piece =
      flat_map-append (λ q. codes ", " ++ pair scale q) (take i ps) (q ∷ []) ∙ ap (λ t. further_text (take i ps) ++ t) (append-nil piece) in
      g ∙ ap (λ t. t ++ pair scale q) f ∙ append_assoc before (codes ", ") (pair scale q)
      ∙ ap (λ t. t ++ piece) e ∙ append_assoc start (further_text (take i ps)) piece
      ∙ ap (λ t. start ++ t) (sym one) ∙ ap (λ xs. start ++ further_text xs) (sym (take_more ps i origin h))

  -- the first point and all further ones
  pub points_added : (first : Position) (further points : List Position) (i : ℕ) (start begun end : List ℕ) → points ≡ first ∷ further
      → length further ≤ i → begun ≡ start ++ pair scale first → end ≡ begun ++ further_text (take i further) → end ≡ start ++ listed scale points
  points_added first further points i start begun end e h f g =
      g ∙ ap (λ xs. begun ++ further_text xs) (take_all i further h) ∙ ap (λ t. t ++ further_text further) f
      ∙ append_assoc start (pair scale first) (further_text further) ∙ ap (λ ps. start ++ listed scale ps) (sym e)
