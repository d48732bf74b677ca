-- Reading a list of points with one more point.
use Rattle.std.proofs.Common.{◌≡◌, ◌&&◌, Bool, true, false, not, cond, List, [], ◌∷◌, ◌++◌, Option, Some, None, map, refl, sym, ◌∙◌, ap, subst}
use Rattle.std.specs.Prelude.{ℤ, is_some}
use Rattle.std.specs.List.{list_all}
use Rattle.std.proofs.lemmas.Bool.{false≢true}
use Rattle.std.proofs.lemmas.List.{map-append}
use Rattle.std.proofs.lemmas.List.Folds.{list_all-append}
use Rattle.wkt_core.specs.declared.position.Position.{Position}
use Rattle.wkt_core.specs.declared.read_list.ReadList.{ReadList}
use Rattle.number_core.specs.declared.scale.Scale.{Scale}
use Rattle.wkt_core.specs.declared.position.ReadPoint.{ReadPoint}
use Rattle.wkt_core.specs.Grammar.{RawPoint}
use Rattle.number_core.specs.Values.{value}
use Rattle.wkt_core.specs.Spelling.{position}
use Rattle.number_core.specs.NumberSteps.{coordinate_read}
use Rattle.wkt_core.specs.PointSteps.{position_from, point_read}
use Rattle.wkt_core.specs.ReadLists.{are_in_range, are_whole, IsReadOf}
use Rattle.wkt_core.specs.Walks.{way_of, IsKeptOf}

and_true : (b : Bool) → (b && true) ≡ b
and_true true = refl
and_true false = refl

and_false : (b : Bool) → (b && false) ≡ false
and_false true = refl
and_false false = refl

all_more : {X : Type 0} (f : X → Bool) (xs : List X) (x : X) → list_all f (xs ++ x ∷ []) ≡ (list_all f xs && f x)
all_more f xs x = list_all-append f xs (x ∷ []) ∙ ap (λ b. list_all f xs && b) (and_true (f x))

not_true : (b : Bool) → not b ≡ true → b ≡ false
not_true true e = absurd (false≢true e)
not_true false e = refl

not_false : (b : Bool) → not b ≡ false → b ≡ true
not_false true e = refl
not_false false e = absurd (false≢true (sym e))

if_some : (t : Bool) (y z : ℤ) → cond t (Some y) None ≡ Some z → y ≡ z
if_some true y z e = cc
if_some false y z e = absurd cc

both_are : (x y : Option ℤ) (q : Position) → position_from x y ≡ Some q → (x ≡ Some q.x) × (y ≡ Some q.y)
both_are (Some a) (Some b) q e =
    let at : record { x = a; y = b } ≡ q = cc in
    (ap (λ p. Some p.x) at, ap (λ p. Some p.y) at)
both_are (Some a) None q e = absurd cc
both_are None y q e = absurd cc

-- the list after a point, but for the walk and the range: whether all numbers so far are whole
pub record IsMarked (old : ReadList) (is_whole : Bool) (new : ReadList) : Type 0 where
  pub walk : new.walk ≡ old.walk
  pub whole : new.whole ≡ (old.whole && is_whole)
  pub in_range : new.in_range ≡ old.in_range

pub marked_bad : (old new : ReadList) (whole : Bool) → not whole ≡ true
    → new ≡ record { walk = old.walk; whole = false; in_range = old.in_range } → IsMarked old whole new
marked_bad old new whole bad e = record {
  walk = ap (λ l. l.walk) e;
  whole = ap (λ l. l.whole) e ∙ sym (ap (λ b. old.whole && b) (not_true whole bad) ∙ and_false old.whole);
  in_range = ap (λ l. l.in_range) e;
}

pub marked_good : (old new : ReadList) (whole : Bool) → not whole ≡ false → new ≡ old → IsMarked old whole new
marked_good old new whole good e = record {
  walk = ap (λ l. l.walk) e;
  whole = ap (λ l. l.whole) e ∙ sym (ap (λ b. old.whole && b) (not_false whole good) ∙ and_true old.whole);
  in_range = ap (λ l. l.in_range) e;
}

module _ (scale : Scale) (ps : List RawPoint) (p : RawPoint) (old marked new : ReadList)
    (read : IsReadOf scale old ps) (mark : IsMarked old (point_read scale p).whole marked) (same : new.whole ≡ marked.whole) where
  whole_more : new.whole ≡ are_whole scale (ps ++ p ∷ [])
  whole_more =
      same ∙ mark.whole ∙ ap (λ b. b && (point_read scale p).whole) read.whole
      ∙ sym (all_more (λ r. (point_read scale r).whole) ps p)

  in_range_more : (o : Option Position) → (point_read scale p).position ≡ o → are_in_range scale (ps ++ p ∷ []) ≡ (are_in_range scale ps && is_some o)
  in_range_more o e =
      all_more (λ r. is_some (point_read scale r).position) ps p ∙ ap (λ x. are_in_range scale ps && is_some x) e

  -- a point within the range: the walk goes on to it
  pub more_within : (q : Position) → (point_read scale p).position ≡ Some q → new.in_range ≡ marked.in_range
      → ((qs : List Position) → IsKeptOf marked.walk (way_of qs) → IsKeptOf new.walk (way_of (qs ++ q ∷ [])))
      → IsReadOf scale new (ps ++ p ∷ [])
  more_within q e range step =
      let still : are_in_range scale (ps ++ p ∷ []) ≡ are_in_range scale ps = in_range_more (Some q) e ∙ and_true (are_in_range scale ps) in
      let both = both_are (coordinate_read scale p.x).value (coordinate_read scale p.y).value q e in
      let x : value scale p.x ≡ q.x = if_some _ _ _ both.0 in
      let y : value scale p.y ≡ q.y = if_some _ _ _ both.1 in
      let here : position scale p ≡ q = λ i. record { x = x i; y = y i } in
      let points : map (position scale) (ps ++ p ∷ []) ≡ map (position scale) ps ++ q ∷ [] =
      map-append (position scale) ps (p ∷ []) ∙ ap (λ r. map (position scale) ps ++ r ∷ []) here in
      record {
        whole = whole_more;
        in_range = range ∙ mark.in_range ∙ read.in_range ∙ sym still;
        walk = λ t. subst (λ l. IsKeptOf new.walk (way_of l)) (sym points)
            (step (map (position scale) ps) (subst (λ k. IsKeptOf k (way_of (map (position scale) ps))) (sym mark.walk) (read.walk (sym still ∙ t))));
      }

  -- a point out of range
  pub more_beyond : (point_read scale p).position ≡ None → new.in_range ≡ false → IsReadOf scale new (ps ++ p ∷ [])
  more_beyond e range =
      let never : are_in_range scale (ps ++ p ∷ []) ≡ false = in_range_more None e ∙ and_false (are_in_range scale ps) in
      record { whole = whole_more; in_range = range ∙ sym never; walk = λ t. absurd (false≢true (sym never ∙ t)) }

-- the same, by the point that was read
module _ (scale : Scale) (ps : List RawPoint) (p : RawPoint) (point : ReadPoint) (old marked new : ReadList)
    (read : IsReadOf scale old ps) (is : point ≡ point_read scale p) (mark : IsMarked old point.whole marked) (same : new.whole ≡ marked.whole) where
  here_marked : IsMarked old (point_read scale p).whole marked
  here_marked = subst (λ (r : ReadPoint). IsMarked old r.whole marked) is mark

  pub read_within : (q : Position) → point.position ≡ Some q → new.in_range ≡ marked.in_range
      → ((qs : List Position) → IsKeptOf marked.walk (way_of qs) → IsKeptOf new.walk (way_of (qs ++ q ∷ [])))
      → IsReadOf scale new (ps ++ p ∷ [])
  read_within q e range step = more_within scale ps p old marked new read here_marked same q (sym (ap (λ r. r.position) is) ∙ e) range step

  pub read_beyond : point.position ≡ None → new.in_range ≡ false → IsReadOf scale new (ps ++ p ∷ [])
  read_beyond e range = more_beyond scale ps p old marked new read here_marked same (sym (ap (λ r. r.position) is) ∙ e) range
