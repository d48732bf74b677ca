-- The results of the tests of a point against vertices and edges, on 128-bit values.
use Rattle.std.proofs.Common.{◌≡◌, ◌≤◌, ◌*◌, ◌+◌, to_z, of_z, w64, true, false, arith, ap, sym, refl, ◌∙◌}
use Rattle.std.specs.Prelude.{ℤ, pos, Bool, ◌&&◌, ◌||◌, ◌*ℤ◌, ◌-ℤ◌, int_lt, int_le, nat_abs}
use Rattle.std.specs.Int.{w128}
use Rattle.std.specs.Ordering.{int_cmp, int_eq, is_eq, is_lt, is_gt, is_le, is_ge}
use Rattle.std.specs.declared.cmp.Ordering.{Ordering}
use Rattle.std.proofs.lemmas.Int.{ints}
use Rattle.plane_core.specs.declared.vertex.Vertex.{Vertex}
use Rattle.plane_core.specs.declared.edge.Edge.{Edge}
use Rattle.plane_core.specs.declared.place.Lie.{Lie}
use Rattle.plane_core.specs.Limits.{greatest_coordinate, greatest_turn}
use Rattle.plane_core.specs.Points.{Point, side, at, is_on, is_between, is_from_to}
use Rattle.plane_core.specs.Places.{IsLie}
use Rattle.plane_core.proofs.Ring.{one-times}
use Rattle.plane_core.proofs.HeldLemmas.{held_way, held_turn, turn_below}

pub held_x : (v : Vertex) → to_z w64 (of_z w64 v.x) ≡ v.x
held_x v = omega (arith, ints)

pub held_y : (v : Vertex) → to_z w64 (of_z w64 v.y) ≡ v.y
held_y v = omega (arith, ints)

-- a vertex and an edge
side_made : (e : Edge) (v : Vertex) (run rise across up : ℤ)
    → run ≡ e.b.x -ℤ e.a.x → rise ≡ e.b.y -ℤ e.a.y → across ≡ v.x -ℤ e.a.x → up ≡ v.y -ℤ e.a.y
    → side e (at v) ≡ run *ℤ up -ℤ rise *ℤ across
side_made e v run rise across up h k l m = rw (h, k, l, m, one-times e.a.x, one-times e.a.y)

pub side_held : (e : Edge) (v : Vertex) (r run rise across up : ℤ)
    → nat_abs run ≤ 2 * greatest_coordinate → nat_abs rise ≤ 2 * greatest_coordinate
    → nat_abs across ≤ 2 * greatest_coordinate → nat_abs up ≤ 2 * greatest_coordinate
    → run ≡ e.b.x -ℤ e.a.x → rise ≡ e.b.y -ℤ e.a.y → across ≡ v.x -ℤ e.a.x → up ≡ v.y -ℤ e.a.y
    → nat_abs r ≤ nat_abs (to_z w128 (of_z w128 run)) * nat_abs (to_z w128 (of_z w128 up))
    + nat_abs (to_z w128 (of_z w128 rise)) * nat_abs (to_z w128 (of_z w128 across))
    → r ≡ to_z w128 (of_z w128 run) *ℤ to_z w128 (of_z w128 up)
    -ℤ to_z w128 (of_z w128 rise) *ℤ to_z w128 (of_z w128 across)
    → to_z w128 (of_z w128 r) ≡ side e (at v)
side_held e v r run rise across up hr hi ha hu h k l m b f =
    held_turn r (turn_below r run up rise across b hr hu hi ha)
    ∙ rw (held_way run hr, held_way rise hi, held_way across ha, held_way up hu) at f
    ∙ sym (side_made e v run rise across up h k l m)

pub side_bound : (r run rise across up : ℤ)
    → nat_abs run ≤ 2 * greatest_coordinate → nat_abs rise ≤ 2 * greatest_coordinate
    → nat_abs across ≤ 2 * greatest_coordinate → nat_abs up ≤ 2 * greatest_coordinate
    → nat_abs r ≤ nat_abs (to_z w128 (of_z w128 run)) * nat_abs (to_z w128 (of_z w128 up))
    + nat_abs (to_z w128 (of_z w128 rise)) * nat_abs (to_z w128 (of_z w128 across))
    → nat_abs (to_z w128 (of_z w128 r)) ≤ greatest_turn
side_bound r run rise across up hr hi ha hu b =
    let small = turn_below r run up rise across b hr hu hi ha in rw (held_turn r small) small

pub on_made : (e : Edge) (v : Vertex) (level along_x along_y : Bool)
    → level ≡ int_eq (side e (at v)) (pos 0)
    → along_x ≡ is_between (to_z w64 (of_z w64 e.a.x)) (to_z w64 (of_z w64 e.b.x)) 1 (to_z w64 (of_z w64 v.x))
    → along_y ≡ is_between (to_z w64 (of_z w64 e.a.y)) (to_z w64 (of_z w64 e.b.y)) 1 (to_z w64 (of_z w64 v.y))
    → (level && along_x && along_y) ≡ is_on e (at v)
on_made e v level along_x along_y l f g =
    let x = rw (held_x e.a, held_x e.b, held_x v) at f in
    let y = rw (held_y e.a, held_y e.b, held_y v) at g in
    ap (λ (t : Bool). t && along_x && along_y) l
    ∙ ap (λ (t : Bool). int_eq (side e (at v)) (pos 0) && t && along_y) x
    ∙ ap (λ (t : Bool). int_eq (side e (at v)) (pos 0) && is_between e.a.x e.b.x 1 v.x && t) y

-- a point and an edge
level_order : (s : ℤ) → is_eq (int_cmp s (pos 0)) ≡ int_eq s (pos 0)
level_order s = refl

gt_order : (s : ℤ) → is_gt (int_cmp s (pos 0)) ≡ int_lt (pos 0) s
gt_order s = grind (arith, ints)

lt_order : (s : ℤ) → is_lt (int_cmp s (pos 0)) ≡ int_lt s (pos 0)
lt_order s = grind (arith, ints)

ge_order : (s : ℤ) → is_ge (int_cmp s (pos 0)) ≡ int_le (pos 0) s
ge_order s = grind (arith, ints)

le_order : (s : ℤ) → is_le (int_cmp s (pos 0)) ≡ int_le s (pos 0)
le_order s = grind (arith, ints)

and_true : (a b c : Bool) → b ≡ true → (a && c) ≡ (a && b && c)
and_true true true c h = refl
and_true true false c h = cc
and_true false b c h = refl

pub lie_made : (e : Edge) (p : Point) (o : Ordering) (along_y forth back : Bool) (lie : Lie)
    → is_between e.a.x e.b.x p.w p.x ≡ true → o ≡ int_cmp (side e p) (pos 0)
    → along_y ≡ is_between e.a.y e.b.y p.w p.y
    → forth ≡ is_from_to e.a.x e.b.x p.w p.x → back ≡ is_from_to e.b.x e.a.x p.w p.x
    → lie.is_on ≡ (is_eq o && along_y)
    → lie.is_below ≡ (forth && is_gt o || back && is_lt o)
    → lie.is_at_or_below ≡ (forth && is_ge o || back && is_le o)
    → IsLie e p lie
lie_made e p o along_y forth back lie x s y f b on below at_or_below =
    let sd = side e p in
    record {
      on = on ∙ rw (s, y) (and_true (int_eq sd (pos 0)) (is_between e.a.x e.b.x p.w p.x) (is_between e.a.y e.b.y p.w p.y) x);
      below = below ∙ rw (s, f, b, gt_order sd, lt_order sd) refl;
      at_or_below = at_or_below ∙ rw (s, f, b, ge_order sd, le_order sd) refl;
    }

-- off the box of an edge along the first axis
le_from_lt : (m n : ℤ) → int_le m n ≡ false → int_lt m n ≡ false
le_from_lt m n h = grind (arith, ints)

either : (p q r s q' s' : Bool) → (p && q || r && s) ≡ false → (q ≡ false → q' ≡ false) → (s ≡ false → s' ≡ false)
    → (t u : Bool) → (p && q' && t || r && s' && u) ≡ false
either p q r s q' s' h f g t u = cases p q r s q' s' t u h f g
  where
    cases : (p q r s q' s' t u : Bool) → (p && q || r && s) ≡ false → (q ≡ false → q' ≡ false) → (s ≡ false → s' ≡ false)
        → (p && q' && t || r && s' && u) ≡ false
    cases true true r s q' s' t u h f g = cc
    cases true false true true q' s' t u h f g = cc
    cases true false true false q' s' t u h f g = rw (f refl, g refl) refl
    cases true false false s q' s' t u h f g = rw (f refl) refl
    cases false q true true q' s' t u h f g = cc
    cases false q true false q' s' t u h f g = rw (g refl) refl
    cases false q false s q' s' t u h f g = refl

off_on : (a b c : Bool) → b ≡ false → (a && b && c) ≡ false
off_on true b c h = rw h refl
off_on false b c h = refl

pub lie_off : (e : Edge) (p : Point) (lie : Lie) → is_between e.a.x e.b.x p.w p.x ≡ false
    → lie.is_on ≡ false → lie.is_below ≡ false → lie.is_at_or_below ≡ false → IsLie e p lie
lie_off e p lie h on below at_or_below =
    record {
      on = on ∙ sym (off_on (int_eq (side e p) (pos 0)) (is_between e.a.x e.b.x p.w p.x) (is_between e.a.y e.b.y p.w p.y) h);
      below = below ∙ sym (either (int_le (pos p.w *ℤ e.a.x) p.x) (int_le p.x (pos p.w *ℤ e.b.x)) (int_le (pos p.w *ℤ e.b.x) p.x) (int_le p.x (pos p.w *ℤ e.a.x))
          (int_lt p.x (pos p.w *ℤ e.b.x)) (int_lt p.x (pos p.w *ℤ e.a.x)) h (le_from_lt p.x (pos p.w *ℤ e.b.x)) (le_from_lt p.x (pos p.w *ℤ e.a.x)) (int_lt (pos 0) (side e p)) (int_lt (side e p) (pos 0)));
      at_or_below = at_or_below ∙ sym (either (int_le (pos p.w *ℤ e.a.x) p.x) (int_le p.x (pos p.w *ℤ e.b.x)) (int_le (pos p.w *ℤ e.b.x) p.x) (int_le p.x (pos p.w *ℤ e.a.x))
          (int_lt p.x (pos p.w *ℤ e.b.x)) (int_lt p.x (pos p.w *ℤ e.a.x)) h (le_from_lt p.x (pos p.w *ℤ e.b.x)) (le_from_lt p.x (pos p.w *ℤ e.a.x)) (int_le (pos 0) (side e p)) (int_le (side e p) (pos 0)));
    }
