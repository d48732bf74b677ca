-- The parts of a point that is on no edge and is no single point: by the edges below it alone.
use Rattle.std.proofs.Common.{◌≡◌, ◌⊎◌, inl, inr, arith, refl, ap, true, false, List}
use Rattle.std.specs.Prelude.{ℕ, ℤ, pos, ◌*ℤ◌, ◌-ℤ◌, int_le, Bool, ◌&&◌, ◌||◌, count_by, sum_by, if◌then◌else◌}
use Rattle.std.specs.Ordering.{int_eq}
use Rattle.std.specs.List.{list_any, flat_map}
use Rattle.std.proofs.lemmas.Int.{ints}
use Rattle.plane_core.specs.declared.vertex.Vertex.{Vertex}
use Rattle.plane_core.specs.declared.edge.Edge.{Edge}
use Rattle.plane_core.specs.declared.part.Part.{Part}
use Rattle.plane_core.specs.declared.part.Part.TheVariants.{Interior, Boundary, Exterior}
use Rattle.plane_core.specs.Points.{Point, run, rise, side, is_on, is_below, is_at_or_below, is_at}
use Rattle.plane_core.specs.Figures.{Figure, Points, Lines, Areas, edges, edges_of, points_of, is_odd, end_count, part_of, part_above, IsGeometry}
use Rattle.plane_core.proofs.Ring.{monomials}
use Rattle.noding_core.specs.Nodes.{IsAmong}
use Rattle.noding_core.proofs.PathLemmas.{ends_none}
use Rattle.noding_core.proofs.TestLemmas.{by_test, clash}
use Rattle.noding_core.proofs.AmongLemmas.{none_any, count_same, count_none}

pub record IsOffAll (es : List Edge) (vs : List Vertex) (p : Point) : Type 0 where
  pub edges : (e : Edge) → IsAmong e es → is_on e p ≡ false
  pub points : (v : Vertex) → IsAmong v vs → is_at v p ≡ false

-- the part, where the second argument says which edges are below
abbrev pub off_part : Figure → (Edge → Bool) → Part
off_part (Points vs) below = Exterior
off_part (Lines paths) below = Exterior
off_part (Areas rings) below = if is_odd (count_by below (flat_map edges rings)) then Interior else Exterior

pub off_part-same : (g : Figure) (b c : Edge → Bool) → ((e : Edge) → IsAmong e (edges_of g) → b e ≡ c e) → off_part g b ≡ off_part g c
off_part-same (Points vs) b c h = refl
off_part-same (Lines paths) b c h = refl
off_part-same (Areas rings) b c h = ap (λ (n : ℕ). if is_odd n then Interior else Exterior) (count_same b c (flat_map edges rings) h)

pub off_part-none : (g : Figure) (b : Edge → Bool) → ((e : Edge) → IsAmong e (edges_of g) → b e ≡ false) → off_part g b ≡ Exterior
off_part-none (Points vs) b h = refl
off_part-none (Lines paths) b h = refl
off_part-none (Areas rings) b h = ap (λ (n : ℕ). if is_odd n then Interior else Exterior) (count_none b (flat_map edges rings) h)

pub above_part-is : (g : Figure) (p : Point) → part_above g p ≡ off_part g (λ e. is_at_or_below e p)
above_part-is (Points vs) p = refl
above_part-is (Lines paths) p = refl
above_part-is (Areas rings) p = refl

-- the ends of an edge are on it
on_test : (s a b c d z y : ℤ) → s ≡ pos 0 → (z ≡ a) ⊎ (z ≡ b) → (y ≡ c) ⊎ (y ≡ d)
    → (int_eq s (pos 0) && (int_le a z && int_le z b || int_le b z && int_le z a) && (int_le c y && int_le y d || int_le d y && int_le y c)) ≡ true
on_test s a b c d z y h k l = three _ _ _ (level s h) (one a b z k) (one c d y l)
  where
    three : (r t u : Bool) → r ≡ true → t ≡ true → u ≡ true → (r && t && u) ≡ true
    three r t u h k l = grind (arith, ints)

    level : (s : ℤ) → s ≡ pos 0 → int_eq s (pos 0) ≡ true
    level s h = grind (arith, ints)

    one : (a b z : ℤ) → (z ≡ a) ⊎ (z ≡ b) → (int_le a z && int_le z b || int_le b z && int_le z a) ≡ true
    one a b z h = grind (arith, ints)

side_end : (r d a b w x y : ℤ) → x ≡ w *ℤ a → y ≡ w *ℤ b → r *ℤ (y -ℤ w *ℤ b) -ℤ d *ℤ (x -ℤ w *ℤ a) ≡ pos 0
side_end r d a b w x y h k = rw (h, k) (simp monomials (omega (arith, ints)))

side_far : (a b c d w x y : ℤ) → x ≡ w *ℤ c → y ≡ w *ℤ d → (c -ℤ a) *ℤ (y -ℤ w *ℤ b) -ℤ (d -ℤ b) *ℤ (x -ℤ w *ℤ a) ≡ pos 0
side_far a b c d w x y h k = rw (h, k) (simp monomials (omega (arith, ints)))

at_x : (z a : ℤ) (t : Bool) → (int_eq z a && t) ≡ true → z ≡ a
at_x z a t h = grind (arith, ints)

at_y : (z a : ℤ) (t : Bool) → (t && int_eq z a) ≡ true → z ≡ a
at_y z a t h = grind (arith, ints)

pub first_on : (e : Edge) (p : Point) → is_at e.a p ≡ true → is_on e p ≡ true
first_on e p h =
    let x = at_x p.x (pos p.w *ℤ e.a.x) (int_eq p.y (pos p.w *ℤ e.a.y)) h in
    let y = at_y p.y (pos p.w *ℤ e.a.y) (int_eq p.x (pos p.w *ℤ e.a.x)) h in
    on_test (side e p) (pos p.w *ℤ e.a.x) (pos p.w *ℤ e.b.x) (pos p.w *ℤ e.a.y) (pos p.w *ℤ e.b.y) p.x p.y
    (side_end (run e) (rise e) e.a.x e.a.y (pos p.w) p.x p.y x y) (inl x) (inl y)

pub last_on : (e : Edge) (p : Point) → is_at e.b p ≡ true → is_on e p ≡ true
last_on e p h =
    let x = at_x p.x (pos p.w *ℤ e.b.x) (int_eq p.y (pos p.w *ℤ e.b.y)) h in
    let y = at_y p.y (pos p.w *ℤ e.b.y) (int_eq p.x (pos p.w *ℤ e.b.x)) h in
    on_test (side e p) (pos p.w *ℤ e.a.x) (pos p.w *ℤ e.b.x) (pos p.w *ℤ e.a.y) (pos p.w *ℤ e.b.y) p.x p.y
    (side_far e.a.x e.a.y e.b.x e.b.y (pos p.w) p.x p.y x y) (inr x) (inr y)

first_off : (e : Edge) (p : Point) → is_on e p ≡ false → is_at e.a p ≡ false
first_off e p off = by_test (is_at e.a p) (λ here. clash (is_on e p) (first_on e p here) off) (λ not. not)

last_off : (e : Edge) (p : Point) → is_on e p ≡ false → is_at e.b p ≡ false
last_off e p off = by_test (is_at e.b p) (λ here. clash (is_on e p) (last_on e p here) off) (λ not. not)

lines_part-off : (odd on : Bool) → odd ≡ false → on ≡ false → (if odd then Boundary else (if on then Interior else Exterior)) ≡ Exterior
lines_part-off odd on h k = rw (h, k)

pub off_part-is : (g : Figure) (p : Point) → IsGeometry g → IsOffAll (edges_of g) (points_of g) p → part_of g p ≡ off_part g (λ e. is_below e p)
off_part-is (Points vs) p good off = ap (λ (t : Bool). if t then Interior else Exterior) (none_any (λ v. is_at v p) vs off.points)
off_part-is (Lines paths) p good off =
    lines_part-off (is_odd (sum_by (end_count p) paths)) (list_any (λ e. is_on e p) (flat_map edges paths))
    (ap is_odd (ends_none paths p good.1 (λ e k. record { first = first_off e p (off.edges e k); last = last_off e p (off.edges e k) })))
    (none_any (λ e. is_on e p) (flat_map edges paths) off.edges)
off_part-is (Areas rings) p good off =
    ap (λ (t : Bool). if t then Boundary else (if is_odd (count_by (λ e. is_below e p) (flat_map edges rings)) then Interior else Exterior))
    (none_any (λ e. is_on e p) (flat_map edges rings) off.edges)
