-- The loop of the choice of a child: the first of those that need least so far.
use Rattle.std.proofs.Common.{arith, ◌≡◌, ℕ, ◌+◌, ◌<◌, List, length, get_or, true, false, sym, ◌∙◌}
use Rattle.std.specs.Cmp.{IsStrictWeakOrder}
use Rattle.std.specs.List.{IsFirstBest}
use Rattle.std.proofs.lemmas.Cmp.{nat_cmp_total, on_total, then_total}
use Rattle.std.proofs.lemmas.List.MinMax.{ranks_by, IsFirstBest-keeps, IsFirstBest-takes}
use Rattle.std.proofs.lemmas.List.{get_or_default}
use Rattle.std.proofs.lemmas.List.Elements.{at_read}
use Rattle.geom_core.specs.declared.shape.Shape.{Shape}
use Rattle.geom_core.specs.Shapes.{area_of}
use Rattle.split_core.specs.declared.measures.Need.{Need}
use Rattle.split_core.specs.Choices.{enlargement, needs_less}
use Rattle.split_core.specs.Orders.{is_less_need}

pub needs_less_ranks : {T : Type 0} (cover : T → Shape) (s : Shape) → IsStrictWeakOrder (λ (x y : T). needs_less s (cover x) (cover y))
needs_less_ranks cover s =
    ranks_by (then_total (on_total (λ c. enlargement c s) nat_cmp_total) (on_total area_of nat_cmp_total)) cover

-- the cost for a cover to include a shape
pub record IsNeed (need : Need) (cover s : Shape) : Type 0 where
  pub enlargement : need.enlargement ≡ enlargement cover s
  pub area : need.area ≡ area_of cover

-- the test of two needs is the test of their covers
pub need_tests : (s c d : Shape) (m n : Need) → IsNeed m c s → IsNeed n d s → is_less_need m n ≡ needs_less s c d
need_tests s c d m n p q = rw (p.enlargement, q.enlargement, p.area, q.area)

seen_itself : {T : Type 0} (items : List T) (b : ℕ) (x : T) → b < length items → get_or items b x ≡ get_or items b (get_or items b x)
seen_itself items b x h = get_or_default items b x (get_or items b x) h

-- the best of the first i items is at index b
pub record IsLeastSoFar {T : Type 0} (cover : T → Shape) (s : Shape) (items : List T) (i b : ℕ) (least : Need) : Type 0 where
  pub best : IsFirstBest (λ x y. needs_less s (cover x) (cover y)) items i b
  pub need : (d : T) → IsNeed least (cover (get_or items b d)) s

module _ {T : Type 0} (cover : T → Shape) (s : Shape) (items : List T) where
  pub least_keeps : (i b : ℕ) (x : T) (need least : Need) →
      IsLeastSoFar cover s items i b least →
      i < length items →
      x ≡ get_or items i x →
      IsNeed need (cover x) s →
      is_less_need need least ≡ false →
      IsLeastSoFar cover s items (i + 1) b least
  least_keeps i b x need least h lt at n less = record {
    best = IsFirstBest-keeps (needs_less_ranks cover s) items i b x (get_or items b x) h.best lt at (seen_itself items b x (omega arith))
        (sym (need_tests s _ _ need least n (h.need x)) ∙ less);
    need = h.need;
  }

  pub least_takes : (i b : ℕ) (x : T) (need least : Need) →
      IsLeastSoFar cover s items i b least →
      i < length items →
      x ≡ get_or items i x →
      IsNeed need (cover x) s →
      is_less_need need least ≡ true →
      IsLeastSoFar cover s items (i + 1) i need
  least_takes i b x need least h lt at n less = record {
    best = IsFirstBest-takes (needs_less_ranks cover s) items i b x (get_or items b x) h.best lt at (seen_itself items b x (omega arith))
        (sym (need_tests s _ _ need least n (h.need x)) ∙ less);
    need = at_read items (λ y. IsNeed need (cover y) s) i x lt at n;
  }
