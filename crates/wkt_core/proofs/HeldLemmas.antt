-- Coordinates as 64 bits hold them, which are read back.
use Rattle.std.proofs.Common.{◌≡◌, true, of_z, to_z, w64, sym, ◌∙◌, ap, subst, arith, FitsSigned}
use Rattle.std.specs.Prelude.{ℤ, ◌↔◌, Option, IsSome, IfSome, IfNone}
use Rattle.std.specs.Int.{int_min, int_max}
use Rattle.std.specs.Ordering.{int_eq}
use Rattle.std.proofs.lemmas.Bool.Decides.{Decides-int_eq}
use Rattle.std.proofs.lemmas.Int.{ints, clamps, to_z-of_z}
use Rattle.std.proofs.lemmas.Option.{IfSome_then}
use Rattle.geom_core.specs.declared.shape.Shape.{Shape}
use Rattle.geom_core.specs.Shapes.{x1, y1, x2, y2, AreCorners, HasCorners}
use Rattle.wkt_core.specs.declared.position.Position.{Position}
use Rattle.wkt_core.specs.FormSteps.{IsSpanned}
use Rattle.wkt_core.proofs.FormLemmas.{none_unless}

-- the lesser or the greater of two coordinates
held_by : (f : ℤ → ℤ → ℤ) (r x y : ℤ) → to_z w64 (of_z w64 r) ≡ r → to_z w64 (of_z w64 x) ≡ x → to_z w64 (of_z w64 y) ≡ y
    → r ≡ f (to_z w64 (of_z w64 x)) (to_z w64 (of_z w64 y)) → to_z w64 (of_z w64 r) ≡ f x y
held_by f r x y h k l e = h ∙ e ∙ ap (λ z. f z (to_z w64 (of_z w64 y))) k ∙ ap (f x) l

-- a coordinate is read back, and equal ones pass the test
pub read_back : (z : ℤ) → FitsSigned w64 z → to_z w64 (of_z w64 z) ≡ z
read_back z fits = to_z-of_z w64 z fits

pub same_numbers : (a b : ℤ) → a ≡ b → int_eq a b ≡ true
same_numbers a b e = (Decides-int_eq a b).1 e

pub ruleset held = (read_back, same_numbers)

-- ---- corners

own_corners : (s : Shape) → AreCorners (x1 s) (y1 s) (x2 s) (y2 s)
own_corners s = record {
  along_x = s.x.ordered;
  along_y = s.y.ordered;
  first_x = (s.x.above, omega (arith, ints));
  first_y = (s.y.above, omega (arith, ints));
  second_x = (omega (arith, ints), s.x.below);
  second_y = (omega (arith, ints), s.y.below);
}

corners_of : (s : Shape) (a b c d : ℤ) → HasCorners a b c d s → AreCorners a b c d
corners_of s a b c d h =
    subst (λ z. AreCorners z b c d) h.first_x
    (subst (λ z. AreCorners (x1 s) z c d) h.first_y
    (subst (λ z. AreCorners (x1 s) (y1 s) z d) h.second_x
    (subst (λ z. AreCorners (x1 s) (y1 s) (x2 s) z) h.second_y (own_corners s))))

-- the lowest and the highest coordinates of two points
record AreOuter (p q : Position) (a b c d : ℤ) : Type 0 where
  pub first_x : a ≡ int_min p.x q.x
  pub first_y : b ≡ int_min p.y q.y
  pub second_x : c ≡ int_max p.x q.x
  pub second_y : d ≡ int_max p.y q.y

module _ (p q : Position) (a b c d : ℤ) (outer : AreOuter p q a b c d) (s : Shape) where
  spanned_from : HasCorners a b c d s → IsSpanned p q s
  spanned_from h = record {
    first_x = h.first_x ∙ outer.first_x;
    first_y = h.first_y ∙ outer.first_y;
    second_x = h.second_x ∙ outer.second_x;
    second_y = h.second_y ∙ outer.second_y;
  }

  corners_from : IsSpanned p q s → AreCorners a b c d
  corners_from h = corners_of s a b c d (record {
    first_x = h.first_x ∙ sym outer.first_x;
    first_y = h.first_y ∙ sym outer.first_y;
    second_x = h.second_x ∙ sym outer.second_x;
    second_y = h.second_y ∙ sym outer.second_y;
  })

-- ---- the shape that two points span, from coordinates as they are held

-- a coordinate, as it is held, is the lesser of two
pub record IsLesser (a x y : ℤ) : Type 0 where
  pub is : to_z w64 (of_z w64 a) ≡ int_min x y

pub record IsGreater (a x y : ℤ) : Type 0 where
  pub is : to_z w64 (of_z w64 a) ≡ int_max x y

int_min_swap : (x y : ℤ) → int_min x y ≡ int_min y x
int_min_swap x y = omega (arith, ints, clamps)

int_max_swap : (x y : ℤ) → int_max x y ≡ int_max y x
int_max_swap x y = omega (arith, ints, clamps)

module _ (a x y : ℤ) (held : FitsSigned w64 a) (held_x : FitsSigned w64 x) (held_y : FitsSigned w64 y) where
  pub lesser_one : a ≡ int_min (to_z w64 (of_z w64 x)) (to_z w64 (of_z w64 y)) → IsLesser a x y
  lesser_one e = record { is = held_by int_min a x y (read_back a held) (read_back x held_x) (read_back y held_y) e }

  pub lesser_two : a ≡ int_min (to_z w64 (of_z w64 y)) (to_z w64 (of_z w64 x)) → IsLesser a x y
  lesser_two e = record { is = held_by int_min a y x (read_back a held) (read_back y held_y) (read_back x held_x) e ∙ int_min_swap y x }

  pub greater_one : a ≡ int_max (to_z w64 (of_z w64 x)) (to_z w64 (of_z w64 y)) → IsGreater a x y
  greater_one e = record { is = held_by int_max a x y (read_back a held) (read_back x held_x) (read_back y held_y) e }

  pub greater_two : a ≡ int_max (to_z w64 (of_z w64 y)) (to_z w64 (of_z w64 x)) → IsGreater a x y
  greater_two e = record { is = held_by int_max a y x (read_back a held) (read_back y held_y) (read_back x held_x) e ∙ int_max_swap y x }

module _ (p q : Position) (a b c d : ℤ) (r : Option Shape) where
  outer_of : IsLesser a p.x q.x → IsLesser b p.y q.y → IsGreater c p.x q.x → IsGreater d p.y q.y
      → AreOuter p q (to_z w64 (of_z w64 a)) (to_z w64 (of_z w64 b)) (to_z w64 (of_z w64 c)) (to_z w64 (of_z w64 d))
  outer_of f g h k = record { first_x = f.is; first_y = g.is; second_x = h.is; second_y = k.is }

  pub some_spanned : IfSome r (HasCorners (to_z w64 (of_z w64 a)) (to_z w64 (of_z w64 b)) (to_z w64 (of_z w64 c)) (to_z w64 (of_z w64 d)))
      → IsLesser a p.x q.x → IsLesser b p.y q.y → IsGreater c p.x q.x → IsGreater d p.y q.y → IfSome r (λ s. IsSpanned p q s)
  some_spanned made f g h k = IfSome_then r made (λ s has. spanned_from p q _ _ _ _ (outer_of f g h k) s has)

  pub none_spanned : IsSome r ↔ AreCorners (to_z w64 (of_z w64 a)) (to_z w64 (of_z w64 b)) (to_z w64 (of_z w64 c)) (to_z w64 (of_z w64 d))
      → IsLesser a p.x q.x → IsLesser b p.y q.y → IsGreater c p.x q.x → IsGreater d p.y q.y → IfNone r ((s : Shape) → IsSpanned p q s → ⊥)
  none_spanned made f g h k = none_unless r (IsSpanned p q) made (λ s has. corners_from p q _ _ _ _ (outer_of f g h k) s has)

-- all of these
pub ruleset spanned_by = (lesser_one, lesser_two, greater_one, greater_two, some_spanned, none_spanned)
