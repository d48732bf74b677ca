-- The keyword at the start of a text.
use Rattle.std.proofs.Common.{◌≡◌, ℕ, ◌+◌, true, false, eqb, List, ◌++◌, length, take, drop, Option, Some, None, refl, subst}
use Rattle.std.specs.Prelude.{codes, IfNone}
use Rattle.std.specs.Borrow.{Bor}
use Rattle.std.specs.Option.{MatchOption}
use Rattle.std.proofs.lemmas.Bool.Decides.{Decides-eqb}
use Rattle.std.proofs.lemmas.Slice.Eq.{strip_prefix_is}
use Rattle.std.specs.Cmp.Lexicographic.{pointwise}
use Rattle.wkt_core.specs.declared.keyword.Keyword.{Keyword}
use Rattle.wkt_core.specs.declared.keyword.Keyword.TheVariants.{Point, LineString, Polygon}
use Rattle.wkt_core.specs.TokenSteps.{TakesLetters}
use Rattle.wkt_core.specs.ListSteps.{TakesWord}

-- ---- a keyword in capitals

-- the text after this word, if it starts with it
abbrev Stripped : List ℕ → List ℕ → Option (Bor (List ℕ)) → Type 0
Stripped text word r =
    MatchOption r (pointwise eqb (take (length word) text) word ≡ false)
    (λ x. (pointwise eqb (take (length word) text) word ≡ true) × (x.now ≡ drop (length word) text) × (length x.now + length word ≡ length text))

stripped : (word text : List ℕ) (r : Option (Bor (List ℕ))) (b : Bor (List ℕ)) → Stripped text word r → r ≡ Some b
    → TakesLetters word text b.now
stripped word text r b cases e = (word, refl, subst (λ o. MatchOption o ((rest : List ℕ) → text ≡ word ++ rest → ⊥) (λ x. text ≡ word ++ x.now)) e (strip_prefix_is Decides-eqb text word r cases))

pub point_capitals : (text : List ℕ) (r : Option (Bor (List ℕ))) (b : Bor (List ℕ)) → Stripped text (codes "POINT") r → r ≡ Some b
    → TakesWord text Point b.now
point_capitals text r b cases e = stripped (codes "POINT") text r b cases e

pub polygon_capitals : (text : List ℕ) (r : Option (Bor (List ℕ))) (b : Bor (List ℕ)) → Stripped text (codes "POLYGON") r → r ≡ Some b
    → TakesWord text Polygon b.now
polygon_capitals text r b cases e = stripped (codes "POLYGON") text r b cases e

pub line_capitals : (text : List ℕ) (r : Option (Bor (List ℕ))) (b : Bor (List ℕ)) → Stripped text (codes "LINESTRING") r → r ≡ Some b
    → TakesWord text LineString b.now
line_capitals text r b cases e = stripped (codes "LINESTRING") text r b cases e

pub ruleset capitals = (point_capitals, polygon_capitals, line_capitals)

-- ---- no keyword

-- the text doesn't begin with this word
pub record HasNot (word text : List ℕ) : Type 0 where
  pub none : (rest : List ℕ) → TakesLetters word text rest → ⊥

pub has_not : (word text : List ℕ) (r : Option (Bor (List ℕ))) → IfNone r ((rest : List ℕ) → TakesLetters word text rest → ⊥) → r ≡ None
    → HasNot word text
has_not word text None none e = record { none = none }
has_not word text (Some b) none e = absurd cc

pub no_keyword : (text : List ℕ) → HasNot (codes "point") text → HasNot (codes "linestring") text → HasNot (codes "polygon") text
    → (keyword : Keyword) (rest : List ℕ) → TakesWord text keyword rest → ⊥
no_keyword text p q r Point rest h = p.none rest h
no_keyword text p q r LineString rest h = q.none rest h
no_keyword text p q r Polygon rest h = r.none rest h
