-- Exactly the relations that fit no matrix of two classes hold for no two disjoint geometries.
use Rattle.std.proofs.Common.{inl, inr, sym}
use Rattle.relation_core.specs.declared.relation.Relation.{Relation}
use Rattle.any_relation_core.specs.declared.class.Class.{Class}
use Rattle.any_relation_core.specs.declared.class.Class.TheVariants.{Points, OpenLines, ClosedLines, Areas, HollowAreas}
use Rattle.plane_core.specs.declared.rings.Rings.{Rings}
use Rattle.plane_core.specs.declared.rings.Rings.TheVariants.{Proper, EvenOdd}
use Rattle.plane_core.specs.ProperRings.{IsGeometryOf}
use Rattle.any_relation_core.specs.Classes.{apart_matrix, classes, SomeClass, FitsApart, AllowsApart}
use Rattle.any_relation_core.specs.PlaneRelations.{HoldsOf, HoldsForDisjoint}
use Rattle.any_relation_core.proofs.DisjointLemmas.{IsTaken, apart_is_matrix}
use Rattle.any_relation_core.proofs.SampleLemmas.{left_sample, right_sample, left_good, right_good, left_proper, right_proper, left_class, right_class, samples_apart}

class_found : (rings : Rings) (P : Class → Type 0) → SomeClass P (classes rings) → (c : Class) × IsTaken rings c × P c
class_found Proper P (inl h) = (Points, tt, h)
class_found Proper P (inr (inl h)) = (OpenLines, tt, h)
class_found Proper P (inr (inr (inl h))) = (ClosedLines, tt, h)
class_found Proper P (inr (inr (inr (inl h)))) = (Areas, tt, h)
class_found Proper P (inr (inr (inr (inr h)))) = absurd h
class_found EvenOdd P (inl h) = (Points, tt, h)
class_found EvenOdd P (inr (inl h)) = (OpenLines, tt, h)
class_found EvenOdd P (inr (inr (inl h))) = (ClosedLines, tt, h)
class_found EvenOdd P (inr (inr (inr (inl h)))) = (Areas, tt, h)
class_found EvenOdd P (inr (inr (inr (inr (inl h))))) = (HollowAreas, tt, h)
class_found EvenOdd P (inr (inr (inr (inr (inr h))))) = absurd h

left_taken : (rings : Rings) (c : Class) → IsTaken rings c → IsGeometryOf rings (left_sample c)
left_taken Proper c t = (left_good c, left_proper c t)
left_taken EvenOdd c t = (left_good c, tt)

right_taken : (rings : Rings) (c : Class) → IsTaken rings c → IsGeometryOf rings (right_sample c)
right_taken Proper c t = (right_good c, right_proper c t)
right_taken EvenOdd c t = (right_good c, tt)

holds_apart : (relation : Relation) (c d : Class) → FitsApart relation c d → HoldsOf relation (left_sample c) (right_sample d)
holds_apart relation c d fits = record {
  matrix = apart_matrix c d;
  is = apart_is_matrix (left_sample c) (right_sample d) (samples_apart c d) c d (left_good c) (right_good d) (left_class c) (right_class d);
  fits = rw (sym (left_class c).dim, sym (right_class d).dim) fits;
}

pub holds_for_disjoint : (rings : Rings) (relation : Relation) → AllowsApart rings relation → HoldsForDisjoint rings relation
holds_for_disjoint rings relation allows =
    let (c, taken_c, beside) = class_found rings (λ x. SomeClass (λ y. FitsApart relation x y) (classes rings)) allows in
    let (d, taken_d, fits) = class_found rings (λ y. FitsApart relation c y) beside in
    record {
      first = left_sample c;
      second = right_sample d;
      first_is = left_taken rings c taken_c;
      second_is = right_taken rings d taken_d;
      disjoint = samples_apart c d;
      holds = holds_apart relation c d fits;
    }
