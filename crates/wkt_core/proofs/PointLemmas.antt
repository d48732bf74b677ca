-- Points one after another, and the first of them.
use Rattle.std.proofs.Common.{◌≡◌, ℕ, List, [], ◌∷◌, ◌++◌, Option, Some, None, sym, ◌∙◌, ap}
use Rattle.std.specs.Prelude.{IfNone}
use Rattle.std.proofs.lemmas.Option.{none-some, some_pair_parts}
use Rattle.wkt_core.specs.declared.position.ReadPoint.{ReadPoint}
use Rattle.wkt_core.specs.declared.read_list.ReadList.{ReadList}
use Rattle.wkt_core.specs.declared.read_list.ReadLists.{ReadLists}
use Rattle.number_core.specs.declared.scale.Scale.{Scale}
use Rattle.wkt_core.specs.Grammar.{RawPoint, PointText, PointList, InParentheses}
use Rattle.wkt_core.specs.TokenSteps.{skip}
use Rattle.wkt_core.specs.PointSteps.{point_at, point_read, point_answer}
use Rattle.wkt_core.specs.ListSteps.{Begun, Items, TakesPoint, TakesPoints, TakesLists}
use Rattle.wkt_core.specs.ReadLists.{IsReadOf, AreReadOf}
use Rattle.wkt_core.proofs.FrontLemmas.{point_begins, point_at_front, point_solid, Begins-shorter}
use Rattle.wkt_core.proofs.ItemLemmas.{IsExact, begun_more, items_ended, no_item_follows, no_end_follows}
use Rattle.wkt_core.proofs.ListGrammar.{IsReading, enclosed_exact, enclosed_reading}

pub points_exact : (scale : Scale) → IsExact (TakesPoint scale)
points_exact scale = record {
  value = λ text x y r s h k. (some_pair_parts _ _ _ _ (sym h ∙ k)).0;
  rest = λ text x y r s h k. (some_pair_parts _ _ _ _ (sym h ∙ k)).1;
  shorter = λ text x r h. Begins-shorter (PointText scale) text x r (point_begins scale text x r h);
}

-- the promise of a `None` holds for every result
pub if_none : {X : Type 0} {P : Type 0} (r : Option X) → P → IfNone r P
if_none None h = h
if_none (Some x) h = tt

module _ (scale : Scale) where
  -- the point that was read
  taken : (v : Option (RawPoint × List ℕ)) (o : ReadPoint) (rest : List ℕ) → Some (o, rest) ≡ point_answer scale v
      → (p : RawPoint) × (v ≡ Some (p, rest)) × (o ≡ point_read scale p)
  taken None o rest e = absurd (none-some _ (sym e))
  taken (Some q) o rest e = let parts = some_pair_parts _ _ _ _ e in (q.0, ap (λ r. Some (q.0, r)) (sym parts.1), parts.0)

  pub point_taken : (text : List ℕ) (o : ReadPoint) (rest : List ℕ) → Some (o, rest) ≡ point_answer scale (point_at scale text)
      → (p : RawPoint) × TakesPoint scale text p rest × (o ≡ point_read scale p)
  point_taken text o rest e = taken (point_at scale text) o rest e

  not_taken : (v : Option (RawPoint × List ℕ)) (p : RawPoint) (rest : List ℕ) → None ≡ point_answer scale v → v ≡ Some (p, rest) → ⊥
  not_taken None p rest e h = none-some _ h
  not_taken (Some q) p rest e h = none-some _ e

  pub no_point_taken : (text : List ℕ) → None ≡ point_answer scale (point_at scale text) → (p : RawPoint) (rest : List ℕ) → TakesPoint scale text p rest → ⊥
  no_point_taken text e p rest h = not_taken (point_at scale text) p rest e h

  -- the invariant of the loop: the points so far, and the first of them
  abbrev pub SoFar : List ℕ → List ℕ → ReadList → Type 0
  SoFar start rest first = (done : List RawPoint) × Begun (TakesPoint scale) done start rest × IsReadOf scale first done

  abbrev Pushes : ReadList → ReadPoint → ReadList → Type 0
  Pushes old o new = (ps : List RawPoint) (p : RawPoint) → IsReadOf scale old ps → o ≡ point_read scale p → IsReadOf scale new (ps ++ p ∷ [])

  module _ (start rest after behind : List ℕ) (old new : ReadList) (o : ReadPoint) (push : Pushes old o new)
      (read : Some (o, after) ≡ point_answer scale (point_at scale (skip rest))) where
    pub point_more : SoFar start rest old → skip after ≡ 44 ∷ behind → SoFar start behind new
    point_more (done, begun, firsts) e =
        let (p, h, v) = point_taken (skip rest) o after read in
        (done ++ p ∷ [], begun_more (TakesPoint scale) done p start rest after behind begun h e, push done p firsts v)

    pub points_ended : SoFar start rest old → skip after ≡ 41 ∷ behind → (ps : List RawPoint) × Items (TakesPoint scale) ps start behind × IsReadOf scale new ps
    points_ended (done, begun, firsts) e =
        let (p, h, v) = point_taken (skip rest) o after read in
        (done ++ p ∷ [], items_ended (TakesPoint scale) done p start rest after behind begun h e, push done p firsts v)

pub points_reading : (scale : Scale) → IsReading (PointText scale) (TakesPoint scale)
points_reading scale = record { begins = point_begins scale; front = point_at_front scale; solid = point_solid scale }

pub lists_exact : (scale : Scale) → IsExact (TakesPoints scale)
lists_exact scale = enclosed_exact (PointText scale) (TakesPoint scale) (points_reading scale) (points_exact scale)

pub lists_reading : (scale : Scale) → IsReading (PointList scale) (TakesPoints scale)
lists_reading scale = enclosed_reading (PointText scale) (TakesPoint scale) (points_reading scale)

pub text_lists_exact : (scale : Scale) → IsExact (TakesLists scale)
text_lists_exact scale = enclosed_exact (PointList scale) (TakesPoints scale) (lists_reading scale) (lists_exact scale)

pub text_lists_reading : (scale : Scale) → IsReading (InParentheses (PointList scale)) (TakesLists scale)
text_lists_reading scale = enclosed_reading (PointList scale) (TakesPoints scale) (lists_reading scale)

-- what the loop over lists knows: those so far, the last of which leaves the text `after`, and the first of them
pub record ListsSoFar (scale : Scale) (text after : List ℕ) (first : ReadLists) : Type 0 where
  pub start : List ℕ
  pub opened : text ≡ 40 ∷ start
  pub done : List (List RawPoint)
  pub last : List RawPoint
  pub rest : List ℕ
  pub begun : Begun (TakesPoints scale) done start rest
  pub taken : TakesPoints scale (skip rest) last after
  pub firsts : AreReadOf scale first (done ++ last ∷ [])

module _ (scale : Scale) where
  pub list_more : (text after behind rest : List ℕ) (old new : ReadLists) → ListsSoFar scale text after old → (ps : List RawPoint) → skip after ≡ 44 ∷ behind
      → TakesPoints scale (skip behind) ps rest
      → ((lists : List (List RawPoint)) → AreReadOf scale old lists → AreReadOf scale new (lists ++ ps ∷ [])) → ListsSoFar scale text rest new
  list_more text after behind rest old new s ps e h push = record {
    start = s.start;
    opened = s.opened;
    done = s.done ++ s.last ∷ [];
    last = ps;
    rest = behind;
    begun = begun_more (TakesPoints scale) s.done s.last s.start s.rest after behind s.begun s.taken e;
    taken = h;
    firsts = push (s.done ++ s.last ∷ []) s.firsts;
  }

  pub lists_ended : (text after behind : List ℕ) (first : ReadLists) → ListsSoFar scale text after first → skip after ≡ 41 ∷ behind
      → (lists : List (List RawPoint)) × TakesLists scale text lists behind × AreReadOf scale first lists
  lists_ended text after behind first s e =
      (s.done ++ s.last ∷ [], (s.start, s.opened, items_ended (TakesPoints scale) s.done s.last s.start s.rest after behind s.begun s.taken e), s.firsts)

  -- if neither a comma nor the end follows, or no list after a comma, the text starts with no list
  -- of lists
  pub no_lists_end : (text after : List ℕ) (first : ReadLists) → ListsSoFar scale text after first
      → ((r : List ℕ) → ¬ (skip after ≡ 44 ∷ r) × ¬ (skip after ≡ 41 ∷ r)) → (lists : List (List RawPoint)) (rest : List ℕ) → TakesLists scale text lists rest
      → ⊥
  no_lists_end text after first s none = no_end_follows (TakesPoints scale) (lists_exact scale) s.start s.rest s.done s.begun text s.opened s.last after s.taken none

  pub no_list_follows : (text after behind : List ℕ) (first : ReadLists) → ListsSoFar scale text after first → skip after ≡ 44 ∷ behind
      → ((ps : List RawPoint) (rest : List ℕ) → TakesPoints scale (skip behind) ps rest → ⊥) → (lists : List (List RawPoint)) (rest : List ℕ)
      → TakesLists scale text lists rest → ⊥
  no_list_follows text after behind first s e none =
      no_item_follows (TakesPoints scale) (lists_exact scale) s.start behind (s.done ++ s.last ∷ [])
      (begun_more (TakesPoints scale) s.done s.last s.start s.rest after behind s.begun s.taken e) text s.opened none
