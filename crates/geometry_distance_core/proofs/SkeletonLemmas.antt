-- Geometries that share no point are as far apart as their edges and single points.
use Rattle.std.proofs.Common.{◌≡◌, ◌<◌, ℕ, ap, ◌∙◌, sym, true, false, refl, inl, inr, List, [], ◌∷◌}
use Rattle.std.specs.Prelude.{Bool, ◌||◌, if◌then◌else◌}
use Rattle.std.specs.List.{flat_map, list_any}
use Rattle.std.specs.Prelude.{sum_by, count_by}
use Rattle.plane_core.specs.declared.part.Part.{Part}
use Rattle.plane_core.specs.declared.part.Part.TheVariants.{Interior, Boundary, Exterior}
use Rattle.plane_core.specs.Points.{Point, is_on, is_at, is_below}
use Rattle.plane_core.specs.Figures.{Figure, edges, is_odd, IsGeometry, part_of, edges_of, points_of, end_count}
use Rattle.plane_core.specs.Figures.Figure.{Points, Lines, Areas}
use Rattle.distance_core.specs.ShapePoints.{IsPointOf}
use Rattle.distance_core.specs.Fractions.{IsLeastFraction}
use Rattle.distance_core.proofs.FarLemmas.{far_turned}
use Rattle.distance_core.proofs.LeastLemmas.{from_far, to_far}
use Rattle.distance_core.proofs.MeetingLemmas.{reach_within}
use Rattle.noding_core.specs.Nodes.{IsAmong}
use Rattle.noding_core.proofs.TestLemmas.{by_test, clash}
use Rattle.noding_core.proofs.OffPartLemmas.{IsOffAll, off_part-is}
use Rattle.geometry_distance_core.specs.Skeletons.{is_on_skeleton, IsOnSkeleton, AreApart}
use Rattle.noding_core.proofs.WayLemmas.{IsOnWay, way_first, on_way_wide}
use Rattle.noding_core.proofs.MetLemmas.{met_or_same}
use Rattle.geometry_distance_core.proofs.BoundaryLemmas.{far_way}

-- tests of lists
pub some_any : {X : Type 0} (t : X → Bool) (x : X) (xs : List X) → IsAmong x xs → t x ≡ true → list_any t xs ≡ true
some_any t x [] k h = absurd k
some_any t x (y ∷ ys) (inl e) h = ap (λ (b : Bool). b || list_any t ys) (sym (ap t e) ∙ h)
some_any t x (y ∷ ys) (inr k) h = ap (λ (b : Bool). t y || b) (some_any t x ys k h) ∙ either (t y)
  where
    either : (b : Bool) → (b || true) ≡ true
    either true = refl
    either false = refl

pub none_some : {X : Type 0} (t : X → Bool) (x : X) (xs : List X) → list_any t xs ≡ false → IsAmong x xs → t x ≡ false
none_some t x xs none k = by_test (t x) (λ h. clash (list_any t xs) (some_any t x xs k h) none) (λ off. off)

or_first : (b c : Bool) → (b || c) ≡ false → b ≡ false
or_first true c h = h
or_first false c h = refl

or_second : (b c : Bool) → (b || c) ≡ false → c ≡ false
or_second true c h = cc
or_second false c h = h

pub off_all : (g : Figure) (p : Point) → is_on_skeleton g p ≡ false → IsOffAll (edges_of g) (points_of g) p
off_all g p h = record {
  edges = λ e k. none_some (λ e. is_on e p) e (edges_of g) (or_first _ _ h) k;
  points = λ v k. none_some (λ v. is_at v p) v (points_of g) (or_second _ _ h) k;
}

-- the skeleton is a part of the closed geometry
no_exterior : (x : Part) → x ≡ Interior → ¬ (x ≡ Exterior)
no_exterior x h e = differ (sym h ∙ e)
  where
    differ : Interior ≡ Exterior → ⊥
    differ e = cc

no_exterior_too : (x : Part) → x ≡ Boundary → ¬ (x ≡ Exterior)
no_exterior_too x h e = differ (sym h ∙ e)
  where
    differ : Boundary ≡ Exterior → ⊥
    differ e = cc

or_none : (b : Bool) → (b || false) ≡ true → b ≡ true
or_none true h = refl
or_none false h = h

pub skeleton_in : (g : Figure) (p : Point) → IsOnSkeleton g p → IsPointOf g p
skeleton_in (Points vs) p h = no_exterior _ (ap (λ (t : Bool). if t then Interior else Exterior) h)
skeleton_in (Lines paths) p h = by_test (is_odd (sum_by (end_count p) paths))
    (λ odd. no_exterior_too _ (ap (λ (t : Bool). if t then Boundary else (if list_any (λ e. is_on e p) (flat_map edges paths) then Interior else Exterior)) odd))
    (λ even. no_exterior _ (ap (λ (t : Bool). if t then Boundary else (if list_any (λ e. is_on e p) (flat_map edges paths) then Interior else Exterior)) even
    ∙ ap (λ (t : Bool). if t then Interior else Exterior) (or_none _ h)))
skeleton_in (Areas rings) p h = no_exterior_too _ (ap (λ (t : Bool). if t then Boundary else (if is_odd (count_by (λ e. is_below e p) (flat_map edges rings)) then Interior else Exterior)) (or_none _ h))

-- between a point of a geometry and one that isn't is a point of its skeleton
pub record HasSkeletonPoint (g : Figure) (p q : Point) : Type 0 where
  pub point : Point
  pub way : IsOnWay p q point
  pub on : IsOnSkeleton g point

must_be : (x : Part) → ¬ (¬ (x ≡ Exterior)) → x ≡ Exterior
must_be Interior h = absurd (h (no_exterior Interior refl))
must_be Boundary h = absurd (h (no_exterior_too Boundary refl))
must_be Exterior h = refl

or_true : (b c : Bool) → b ≡ true → (b || c) ≡ true
or_true b c h = ap (λ (t : Bool). t || c) h

pub to_skeleton : (g : Figure) (p q : Point) → 0 < p.w → 0 < q.w → IsGeometry g → IsPointOf g p → ¬ (IsPointOf g q) → HasSkeletonPoint g p q
to_skeleton (Points vs) p q wide_p wide_q good in_p out_q = by_test (is_on_skeleton (Points vs) p)
    (λ on. record { point = p; way = way_first p q; on = on })
    (λ off. absurd (in_p (off_part-is (Points vs) p good (off_all (Points vs) p off))))
to_skeleton (Lines paths) p q wide_p wide_q good in_p out_q = by_test (is_on_skeleton (Lines paths) p)
    (λ on. record { point = p; way = way_first p q; on = on })
    (λ off. absurd (in_p (off_part-is (Lines paths) p good (off_all (Lines paths) p off))))
to_skeleton (Areas rings) p q wide_p wide_q good in_p out_q = elim (met_or_same rings p q wide_p wide_q good) [
  | inl some ↦ record { point = some.met.point; way = some.met.way; on = or_true _ _ (some_any (λ e. is_on e some.met.point) some.edge (flat_map edges rings) some.one some.met.on) }
  | inr same ↦ absurd (in_p (same ∙ must_be (part_of (Areas rings) q) out_q))
]

-- so the least squared distance is that of the skeletons
pub apart_least : (g h : Figure) (n d : ℕ) → IsGeometry g → IsGeometry h → AreApart g h → IsLeastFraction n d (IsOnSkeleton g) (IsOnSkeleton h) → IsLeastFraction n d (IsPointOf g) (IsPointOf h)
apart_least g h n d good_g good_h apart is = record {
  reached = reach_within n d (IsOnSkeleton g) (IsOnSkeleton h) (IsPointOf g) (IsPointOf h) (skeleton_in g) (skeleton_in h) is.reached;
  least = λ p q wide_p wide_q in_p in_q.
      let a = to_skeleton g p q wide_p wide_q good_g in_p (λ also. apart (q, wide_q, (also, in_q))) in
      let z = a.point in
      let wide_z = on_way_wide p q z wide_p wide_q a.way in
      let b = to_skeleton h q z wide_q wide_z good_h in_q (λ also. apart (z, wide_z, (skeleton_in g z a.on, also))) in
      let y = b.point in
      let far = to_far n d z y (is.least z y wide_z (on_way_wide q z y wide_q wide_z b.way) a.on b.on) in
      from_far n d p q (far_way n d p q z wide_p wide_q a.way
      (far_turned _ _ q z (far_way n d q z y wide_q wide_z b.way (far_turned _ _ z y far))));
}
