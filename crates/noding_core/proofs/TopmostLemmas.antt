-- The topmost edge below a point: just the edges below the point are at or below its foot there.
use Rattle.std.proofs.Common.{◌≡◌, ◌<◌, ◌⊎◌, inl, inr, arith, refl, sym, subst, true, false, List, [], ◌∷◌}
use Rattle.std.specs.Prelude.{pos, ◌<ℤ◌, Bool}
use Rattle.std.proofs.lemmas.Int.{ints}
use Rattle.plane_core.specs.declared.edge.Edge.{Edge}
use Rattle.plane_core.specs.Points.{Point, is_below, is_at_or_below}
use Rattle.plane_core.proofs.Signs.{weak}
use Rattle.plane_core.proofs.FootLemmas.{IsFoot, foot, climb, straight_both, at_or_below_up, below_up, foot_lower, foot_higher, foot_at, below_slanted}
use Rattle.noding_core.specs.Nodes.{IsAmong}
use Rattle.noding_core.proofs.TestLemmas.{by_test, clash}

pub record IsTop (p : Point) (es : List Edge) : Type 0 where
  pub edge : Edge
  pub one : IsAmong edge es
  pub below : is_below edge p ≡ true
  pub point : Point
  pub is_foot : IsFoot edge p point
  pub most : (f : Edge) → IsAmong f es → is_below f p ≡ true → is_at_or_below f point ≡ true

both_same : (b c t : Bool) → b ≡ t → c ≡ t → b ≡ c
both_same b c t h k = grind (arith, ints)

abbrev NoneBelow : Point → List Edge → Type 0
NoneBelow p es = (f : Edge) → IsAmong f es → is_below f p ≡ false

-- one that isn't below changes nothing
skip : (p : Point) (f : Edge) (es : List Edge) → is_below f p ≡ false → IsTop p es → IsTop p (f ∷ es)
skip p f es off top = record {
  edge = top.edge;
  one = inr top.one;
  below = top.below;
  point = top.point;
  is_foot = top.is_foot;
  most = most_of;
}
  where
    most_of : (d : Edge) → IsAmong d (f ∷ es) → is_below d p ≡ true → is_at_or_below d top.point ≡ true
    most_of d (inl e) h = clash (is_below d p) h (subst (λ (x : Edge). is_below x p ≡ false) (sym e) off)
    most_of d (inr k) h = top.most d k h

-- one that is no higher than the topmost
keep : (p : Point) (f : Edge) (es : List Edge) (top : IsTop p es) → is_at_or_below f top.point ≡ true → IsTop p (f ∷ es)
keep p f es top lower = record {
  edge = top.edge;
  one = inr top.one;
  below = top.below;
  point = top.point;
  is_foot = top.is_foot;
  most = most_of;
}
  where
    most_of : (d : Edge) → IsAmong d (f ∷ es) → is_below d p ≡ true → is_at_or_below d top.point ≡ true
    most_of d (inl e) h = subst (λ (x : Edge). is_at_or_below x top.point ≡ true) (sym e) lower
    most_of d (inr k) h = top.most d k h

-- one that has no other below the point beside it
alone : (p : Point) (f : Edge) (es : List Edge) → 0 < p.w → is_below f p ≡ true → NoneBelow p es → (q : Point) × IsFoot f p q → IsTop p (f ∷ es)
alone p f es wide below none (q, is) = record {
  edge = f;
  one = inl refl;
  below = below;
  point = q;
  is_foot = is;
  most = most_of;
}
  where
    most_of : (d : Edge) → IsAmong d (f ∷ es) → is_below d p ≡ true → is_at_or_below d q ≡ true
    most_of d (inl e) h = subst (λ (x : Edge). is_at_or_below x q ≡ true) (sym e) (foot_at f p q wide is below)
    most_of d (inr k) h = clash (is_below d p) h (none d k)

-- one that is higher
higher : (p : Point) (f : Edge) (es : List Edge) → 0 < p.w → is_below f p ≡ true → (top : IsTop p es) → is_at_or_below f top.point ≡ false → (q : Point) × IsFoot f p q → IsTop p (f ∷ es)
higher p f es wide below top upper (q, is) = record {
  edge = f;
  one = inl refl;
  below = below;
  point = q;
  is_foot = is;
  most = most_of;
}
  where
    up : pos 0 <ℤ climb top.point q
    up = foot_higher f p top.point q wide top.is_foot.wide top.is_foot.straight is below upper

    most_of : (d : Edge) → IsAmong d (f ∷ es) → is_below d p ≡ true → is_at_or_below d q ≡ true
    most_of d (inl e) h = subst (λ (x : Edge). is_at_or_below x q ≡ true) (sym e) (foot_at f p q wide is below)
    most_of d (inr k) h =
        at_or_below_up d q top.point is.wide top.is_foot.wide (straight_both p top.point q wide top.is_foot.straight is.straight) (top.most d k h) (weak _ _ up)

pub topmost : (p : Point) (es : List Edge) → 0 < p.w → ((f : Edge) → IsAmong f es → is_below f p ≡ false) ⊎ IsTop p es
topmost p [] wide = inl (λ f k. absurd k)
topmost p (f ∷ es) wide = step (topmost p es wide)
  where
    none_yet : is_below f p ≡ false → NoneBelow p es → NoneBelow p (f ∷ es)
    none_yet off none d (inl e) = subst (λ (x : Edge). is_below x p ≡ false) (sym e) off
    none_yet off none d (inr k) = none d k

    step : NoneBelow p es ⊎ IsTop p es → NoneBelow p (f ∷ es) ⊎ IsTop p (f ∷ es)
    step (inl none) = by_test (is_below f p)
        (λ below. inr (alone p f es wide below none (foot f p wide (below_slanted f p wide below))))
        (λ off. inl (none_yet off none))
    step (inr top) = by_test (is_below f p)
        (λ below. by_test (is_at_or_below f top.point)
        (λ lower. inr (keep p f es top lower))
        (λ upper. inr (higher p f es wide below top upper (foot f p wide (below_slanted f p wide below)))))
        (λ off. inr (skip p f es off top))

-- the edges at or below the foot are those below the point
pub below_agrees : (p : Point) (es : List Edge) → 0 < p.w → (top : IsTop p es) → (f : Edge) → IsAmong f es → is_below f p ≡ is_at_or_below f top.point
below_agrees p es wide top f k = by_test (is_below f p)
    (λ below. both_same _ _ true below (top.most f k below))
    (λ off. by_test (is_at_or_below f top.point)
    (λ lower. clash (is_below f p) (below_up f p top.point wide top.is_foot.wide top.is_foot.straight lower (foot_lower top.edge p top.point wide top.is_foot top.below)) off)
    (λ upper. both_same _ _ false off upper))
