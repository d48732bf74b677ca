-- Places that can add nothing to a matrix.
use Rattle.std.proofs.Common.{◌≡◌, ◌≤◌, ◌<◌, ◌-◌, inl, inr, arith, refl, sym, subst, ap, ◌∙◌, true, false, suc, zero, List, [], ◌∷◌, map, get_or, length, All}
use Rattle.std.specs.Prelude.{ℕ, ℤ, pos, neg_ℤ, nat_abs, ◌<ℤ◌, ◌⊎◌, Bool, not, ◌&&◌, ◌||◌, ◌↔◌, count_by, if◌then◌else◌}
use Rattle.std.specs.List.{list_any, list_all}
use Rattle.std.specs.Ordering.{int_eq}
use Rattle.std.proofs.lemmas.Int.{ints}
use Rattle.std.proofs.lemmas.List.Elements.{All-weaker}
use Rattle.relation_core.specs.declared.extent.Extent.{Extent}
use Rattle.relation_core.specs.declared.extent.Extent.TheVariants.{Point as Dot, Line, Area}
use Rattle.relation_core.specs.declared.part.Parts.{Parts}
use Rattle.relation_core.specs.declared.matrix.Matrix.{Matrix}
use Rattle.plane_core.specs.declared.part.Part.{Part}
use Rattle.plane_core.specs.declared.part.Part.TheVariants.{Interior, Boundary, Exterior}
use Rattle.plane_core.specs.declared.edge.Edge.{Edge}
use Rattle.plane_core.specs.declared.vertex.Vertex.{Vertex}
use Rattle.plane_core.specs.declared.node.Node.{Node}
use Rattle.plane_core.specs.declared.outline.Kind.{Kind}
use Rattle.plane_core.specs.declared.outline.Kind.TheVariants.{Points as Dots, Lines as Polylines, Areas as Rings}
use Rattle.plane_core.specs.declared.outline.Outline.{Outline}
use Rattle.plane_core.specs.Boxes.{do_boxes_meet}
use Rattle.plane_core.specs.Points.{Point, at, run, side, is_on, is_below, is_at_or_below, is_at, turn_of, IsBefore, IsSamePlace}
use Rattle.plane_core.specs.Places.{node_point}
use Rattle.plane_core.specs.Figures.{HasLength, is_odd}
use Rattle.plane_core.specs.Outlines.{part_by, above_by, outline_part, outline_above}
use Rattle.plane_core.specs.PlaneMatrices.{entry, pick}
use Rattle.plane_core.proofs.FormLemmas.{by_zero}
use Rattle.plane_core.proofs.ScaleLemmas.{is_below-scaled, is_at_or_below-scaled}
use Rattle.plane_core.proofs.PartScaleLemmas.{scaled_same, is_on-same_place, is_at-same_place}
use Rattle.shown_core.specs.declared.course.Course.{Course}
use Rattle.noding_core.specs.Nodes.{IsAmong, IsPointOf, AreNodesOf, Meeting, IsGapOf, middle}
use Rattle.noding_core.specs.Marks.{rank}
use Rattle.noding_core.specs.Growth.{HasGrownBy, mark_at, mark_above, mark_beside, mark_in, piece_marks, transposed}
use Rattle.noding_core.specs.ReadOffs.{outline_edges, AreEdgesOf, IsOneOf}
use Rattle.shown_core.specs.Shown.{AreShown, all_parts, parts_above, rest_by, rest_parts, IsOnCourse, is_along, IsUncrossed, AreCuts, AreFacesShown, IsFaceShown, is_odd_end, parts_off_ends}
use Rattle.noding_core.proofs.OrderLemmas.{up_to_before, before_up_to}
use Rattle.noding_core.proofs.LineLemmas.{IsForward, on_level, within_from_on, on_from_within}
use Rattle.noding_core.proofs.FlipLemmas.{flip, is_on-flip, turn_of-turned, forward_or_flipped, is_at-itself, first_level}
use Rattle.noding_core.proofs.TestLemmas.{by_test, clash, first_holds, second_holds, not_true}
use Rattle.noding_core.proofs.AmongLemmas.{among_left, among_right, none_any}
use Rattle.noding_core.proofs.NodeLemmas.{all_among, IsWide, gap_first, gap_second, gap_order, none_in_gap}
use Rattle.noding_core.proofs.PieceLemmas.{level_mix, line_shared}
use Rattle.noding_core.proofs.ArrangementLemmas.{before_middle, middle_before, middle_wide}
use Rattle.noding_core.proofs.GatherLemmas.{boxes_meet}
use Rattle.noding_core.proofs.GrowthLemmas.{grown_none, grown-trans, level_not, piece_both}

-- the parts of a geometry by its kind
pub one_of_two : (t : Bool) (b : Bool) → pick (if t then Interior else Exterior) (record { interior = true; boundary = b; exterior = true }) ≡ true
one_of_two true b = refl
one_of_two false b = refl

pub one_of_three : (i : Part) → pick i (record { interior = true; boundary = true; exterior = true }) ≡ true
one_of_three Interior = refl
one_of_three Boundary = refl
one_of_three Exterior = refl

in_all : (k : Kind) (ends : List Vertex) (es : List Edge) (p : Point) → pick (part_by k ends es p) (all_parts k) ≡ true
in_all Dots ends es p = one_of_two (list_any (λ v. is_at v p) ends) false
in_all Polylines ends es p = one_of_three (part_by Polylines ends es p)
in_all Rings ends es p = one_of_three (part_by Rings ends es p)

pub in_above : (k : Kind) (es : List Edge) (p : Point) → pick (above_by k es p) (parts_above k) ≡ true
in_above Dots es p = refl
in_above Polylines es p = refl
in_above Rings es p = one_of_two (is_odd (count_by (λ e. is_at_or_below e p) es)) false

end_or_off : (odd on : Bool) → on ≡ false
    → pick (if odd then Boundary else (if on then Interior else Exterior)) (record { interior = false; boundary = odd; exterior = not odd }) ≡ true
end_or_off true on off = refl
end_or_off false on off = rw off refl

in_or_off : (on t : Bool) → on ≡ false
    → pick (if on then Boundary else (if t then Interior else Exterior)) (record { interior = true; boundary = false; exterior = true }) ≡ true
in_or_off on t off = rw off (one_of_two t false)

in_rest : (k : Kind) (ends : List Vertex) (es : List Edge) (p : Point) → list_any (λ e. is_on e p) es ≡ false
    → pick (part_by k ends es p) (rest_by k (is_odd (count_by (λ v. is_at v p) ends))) ≡ true
in_rest Dots ends es p off = one_of_two (list_any (λ v. is_at v p) ends) false
in_rest Polylines ends es p off = end_or_off (is_odd (count_by (λ v. is_at v p) ends)) (list_any (λ e. is_on e p) es) off
in_rest Rings ends es p off = in_or_off (list_any (λ e. is_on e p) es) (is_odd (count_by (λ e. is_below e p) es)) off

-- tests of a row
pub shown_row : (row : Parts Extent) (parts : Parts Bool) (x : Extent) (t u v : Bool)
    → (t ≡ true ↔ (parts.interior ≡ true → rank x ≤ rank row.interior)) → (u ≡ true ↔ (parts.boundary ≡ true → rank x ≤ rank row.boundary))
    → (v ≡ true ↔ (parts.exterior ≡ true → rank x ≤ rank row.exterior)) → (t && u && v) ≡ true ↔ AreShown row parts x
shown_row row parts x t u v ht hu hv = (each, all)
  where
    each : (t && u && v) ≡ true → AreShown row parts x
    each h Interior = ht.0 (first_holds t u (first_holds (t && u) v h))
    each h Boundary = hu.0 (second_holds t u (first_holds (t && u) v h))
    each h Exterior = hv.0 (second_holds (t && u) v h)

    both : (t u : Bool) → t ≡ true → u ≡ true → (t && u) ≡ true
    both t u h k = rw (h, k) refl

    all : AreShown row parts x → (t && u && v) ≡ true
    all h = both (t && u) v (both t u (ht.1 (h Interior)) (hu.1 (h Boundary))) (hv.1 (h Exterior))

-- edges along another
pub among_all : {A : Type 0} (q : A → Bool) (xs : List A) (x : A) → list_all q xs ≡ true → IsAmong x xs → q x ≡ true
among_all q [] x h k = absurd k
among_all q (y ∷ ys) x h (inl e) = ap q e ∙ first_holds _ _ h
among_all q (y ∷ ys) x h (inr k) = among_all q ys x (second_holds (q y) _ h) k

pub off_others : (other : Outline) (e : Edge) (p : Point) → IsUncrossed other e p → list_all (λ f. not (is_along e f)) other.edges.items ≡ true → list_any (λ f. is_on f p) other.edges.items ≡ false
off_others other e p in_ apart = none_any (λ f. is_on f p) other.edges.items
    (λ f one. by_test (is_on f p)
    (λ on. clash (is_along e f) (in_.along f one on) (not_true (is_along e f) (among_all (λ f. not (is_along e f)) other.edges.items f apart one)))
    (λ off. off))

-- a piece whose part in the other geometry is shown, whichever it is
pub shown_of_all : (m : Matrix) (i : Part) (other : Outline) (p : Point) (row : Parts Extent) (x : Extent) → row ≡ pick i m.rows → AreShown row (all_parts other.kind) x → rank x ≤ rank (entry m i (outline_part other p))
shown_of_all m i other p row x e h =
    subst (λ (r : Parts Extent). rank x ≤ rank (pick (outline_part other p) r)) e (h (outline_part other p) (in_all other.kind other.ends.items other.edges.items p))

pub shown_of_rest : (m : Matrix) (i : Part) (other : Outline) (e : Edge) (p : Point) (row : Parts Extent) (x : Extent) → row ≡ pick i m.rows → AreShown row (rest_parts other p) x → IsUncrossed other e p
    → list_all (λ f. not (is_along e f)) other.edges.items ≡ true → rank x ≤ rank (entry m i (outline_part other p))
shown_of_rest m i other e p row x is h in_ apart =
    subst (λ (r : Parts Extent). rank x ≤ rank (pick (outline_part other p) r)) is
    (h (outline_part other p) (in_rest other.kind other.ends.items other.edges.items p (off_others other e p in_ apart)))

-- a point of polylines that is no end of them
in_off_ends : (odd on : Bool) → odd ≡ false → pick (if odd then Boundary else (if on then Interior else Exterior)) parts_off_ends ≡ true
in_off_ends odd on off = rw off (one_of_two on false)

pub shown_off_ends : (row : Parts Extent) (other : Outline) (p : Point) (parts : Parts Bool) (x : Extent) → other.kind ≡ Polylines → is_odd_end other p ≡ false
    → parts ≡ parts_off_ends → AreShown row parts x → rank x ≤ rank (pick (outline_part other p) row)
shown_off_ends row other p parts x lines off is h =
    h (outline_part other p) (rw (is, lines) (in_off_ends (is_odd_end other p) (list_any (λ e. is_on e p) other.edges.items) off))

pub shown_in : (m : Matrix) (i j : Part) (row : Parts Extent) (x : Extent) → row ≡ pick i m.rows → rank x ≤ rank (pick j row) → rank x ≤ rank (entry m i j)
shown_in m i j row x is h = subst (λ (r : Parts Extent). rank x ≤ rank (pick j r)) is h

-- a place that adds nothing
pub place_shown : (m : Matrix) (i : Part) (other : Outline) (p : Point) (row : Parts Extent) → row ≡ pick i m.rows → AreShown row (all_parts other.kind) Dot → HasGrownBy (mark_in i other p ∷ []) m m
place_shown m i other p row e h = grown_none (mark_in i other p) m (shown_of_all m i other p row Dot e h)

pub node_marked : (own other : Outline) (p : Point) (i : Part) (old new : Matrix) → i ≡ outline_part own p → HasGrownBy (mark_in i other p ∷ []) old new → HasGrownBy (mark_at own other Dot p ∷ []) old new
node_marked own other p i old new e h = subst (λ (i : Part). HasGrownBy (mark_in i other p ∷ []) old new) e h

pub above_shown : (m : Matrix) (own : Outline) (above : Part) (p : Point) (column : Parts Extent) → column ≡ pick above (transposed m).rows → AreShown column (parts_above own.kind) Area → HasGrownBy (mark_beside own above p ∷ []) m m
above_shown m own above p column e h =
    grown_none (mark_beside own above p) m
    (subst (λ (x : Extent). 3 ≤ rank x) (turned above (outline_above own p)) (subst (λ (c : Parts Extent). 3 ≤ rank (pick (outline_above own p) c)) e (h (outline_above own p) (in_above own.kind own.edges.items p))))
  where
    turned : (j i : Part) → pick i (pick j (transposed m).rows) ≡ entry m i j
    turned Interior Interior = refl
    turned Interior Boundary = refl
    turned Interior Exterior = refl
    turned Boundary Interior = refl
    turned Boundary Boundary = refl
    turned Boundary Exterior = refl
    turned Exterior Interior = refl
    turned Exterior Boundary = refl
    turned Exterior Exterior = refl

pub piece_shown : (m : Matrix) (i : Part) (own other : Outline) (e : Edge) (p : Point) → i ≡ outline_part own p → 2 ≤ rank (entry m i (outline_part other p))
    → IsFaceShown m own.kind other.kind e → HasGrownBy (piece_marks own other e p) m m
piece_shown m i own other e p ei line faces = by_zero (run e) (λ some. by_slope (inl some)) (λ flat. by_slope (inr flat))
  where
    on : HasGrownBy (mark_at own other Line p ∷ []) m m
    on = grown_none (mark_at own other Line p) m (subst (λ (i : Part). 2 ≤ rank (entry m i (outline_part other p))) ei line)

    level : (z : ℤ) → z ≡ pos 0 → int_eq z (pos 0) ≡ true
    level z h = rw h refl

    by_slope : (run e ≡ pos 0 → ⊥) ⊎ (run e ≡ pos 0) → HasGrownBy (piece_marks own other e p) m m
    by_slope (inl some) = subst (λ (t : Bool). HasGrownBy (mark_at own other Line p ∷ (if t then [] else mark_above own other p ∷ [])) m m) (sym (level_not (run e) some))
        (grown-trans (mark_at own other Line p ∷ []) (mark_above own other p ∷ []) m m m on
        (grown_none (mark_above own other p) m (faces some _ _ (in_above own.kind own.edges.items p) (in_above other.kind other.edges.items p))))
    by_slope (inr flat) = subst (λ (t : Bool). HasGrownBy (mark_at own other Line p ∷ (if t then [] else mark_above own other p ∷ [])) m m) (sym (level (run e) flat)) on

-- a point at the place of another
is_below-same_place : (e : Edge) (p q : Point) → 0 < p.w → 0 < q.w → IsSamePlace p q → is_below e p ≡ is_below e q
is_below-same_place e p q wp wq h = sym (is_below-scaled e q.w p wq) ∙ ap (is_below e) (scaled_same p q h) ∙ is_below-scaled e p.w q wp

pub is_at_or_below-same_place : (e : Edge) (p q : Point) → 0 < p.w → 0 < q.w → IsSamePlace p q → is_at_or_below e p ≡ is_at_or_below e q
is_at_or_below-same_place e p q wp wq h = sym (is_at_or_below-scaled e q.w p wq) ∙ ap (is_at_or_below e) (scaled_same p q h) ∙ is_at_or_below-scaled e p.w q wp

pub part_by-same_place : (k : Kind) (ends : List Vertex) (es : List Edge) (p q : Point) → 0 < p.w → 0 < q.w → IsSamePlace p q → part_by k ends es p ≡ part_by k ends es q
part_by-same_place Dots ends es p q wp wq h = λ i. if list_any (λ v. is_at-same_place v p q wp wq h i) ends then Interior else Exterior
part_by-same_place Polylines ends es p q wp wq h = λ i.
    if is_odd (count_by (λ v. is_at-same_place v p q wp wq h i) ends) then Boundary
    else (if list_any (λ e. is_on-same_place e p q wp wq h i) es then Interior else Exterior)
part_by-same_place Rings ends es p q wp wq h = λ i.
    if list_any (λ e. is_on-same_place e p q wp wq h i) es then Boundary
    else (if is_odd (count_by (λ e. is_below-same_place e p q wp wq h i) es) then Interior else Exterior)

pub mark_same : (own other : Outline) (p q : Point) → 0 < p.w → 0 < q.w → IsSamePlace p q → mark_at own other Dot p ≡ mark_at own other Dot q
mark_same own other p q wp wq h = λ i. record {
  first = part_by-same_place own.kind own.ends.items own.edges.items p q wp wq h i;
  second = part_by-same_place other.kind other.ends.items other.edges.items p q wp wq h i;
  extent = Dot;
}

pub node_wide : (n : Node) → 0 < (node_point n).w
node_wide n = plain n.place.w n.place.positive
  where
    plain : (w : ℤ) → pos 0 <ℤ w → 0 < nat_abs w
    plain w h = omega (arith, ints)

-- a point of an edge is on an edge
pub any_among : {A : Type 0} (q : A → Bool) (xs : List A) (x : A) → IsAmong x xs → q x ≡ true → list_any q xs ≡ true
any_among q [] x k h = absurd k
any_among q (y ∷ ys) x (inl e) h = left (q y) (list_any q ys) (ap q (sym e) ∙ h)
  where
    left : (t u : Bool) → t ≡ true → (t || u) ≡ true
    left t u h = rw h refl
any_among q (y ∷ ys) x (inr k) h = right (q y) (list_any q ys) (any_among q ys x k h)
  where
    right : (t u : Bool) → u ≡ true → (t || u) ≡ true
    right true u h = refl
    right false u h = h

pub index_among : {A : Type 0} (xs : List A) (i : ℕ) (x : A) → i < length xs → x ≡ get_or xs i x → IsAmong x xs
index_among [] i x lt h = absurd (none lt)
  where
    none : i < 0 → ⊥
    none h = omega arith
index_among (y ∷ ys) zero x lt h = inl h
index_among (y ∷ ys) (suc i) x lt h = inr (index_among ys i x (omega arith) h)

-- a single point is in the interior
interior_point : (own : Outline) (v : Vertex) → own.kind ≡ Dots → IsAmong v own.ends.items → Interior ≡ outline_part own (at v)
interior_point own v is one = sym (ap (λ (k : Kind). part_by k own.ends.items own.edges.items (at v)) is
    ∙ ap (λ (t : Bool). if t then Interior else Exterior) (any_among (λ w. is_at w (at v)) own.ends.items v one (is_at-itself v)))

pub point_marked : (own other : Outline) (vs : List Vertex) (i : ℕ) (v : Vertex) (p : Point) (old new : Matrix) → own.kind ≡ Dots → vs ≡ own.ends.items → i < length vs → v ≡ get_or vs i v → p ≡ at v
    → HasGrownBy (mark_in Interior other p ∷ []) old new → HasGrownBy (mark_at own other Dot (at v) ∷ []) old new
point_marked own other vs i v p old new is items lt at_i place h =
    node_marked own other (at v) Interior old new (interior_point own v is (subst (IsAmong v) items (index_among vs i v lt at_i)))
    (subst (λ (p : Point). HasGrownBy (mark_in Interior other p ∷ []) old new) place h)

-- a node of the edge
pub node_on : (own other : Outline) (c : Course) (ns : List Point) (p : Point) → AreCuts own other c.edge ns → IsAmong p ns → IsOnCourse own c p
node_on own other c ns p cuts one =
    let of_p = all_among (IsPointOf c.edge) p ns cuts.nodes.points one in
    record { own = any_among (λ f. is_on f p) own.edges.items c.edge cuts.one.one of_p.on; on = of_p.on }

-- the middle of a gap
forward_on : (f : Edge) (k l : Point) → IsForward f → 0 < k.w → 0 < l.w → is_on f k ≡ true → is_on f l ≡ true → IsBefore k l → is_on f (middle k l) ≡ true
forward_on f k l fw wk wl on_k on_l before =
    let in_k = within_from_on f k fw wk on_k in
    let in_l = within_from_on f l fw wl on_l in
    let wm = middle_wide k l wk wl in
    on_from_within f (middle k l) fw (record {
      level = level_mix f 1 k 1 l in_k.level in_l.level;
      from_ = inl (up_to_before (at f.a) k (middle k l) (omega arith) wk wm in_k.from_ (before_middle k l before));
      to_ = inl (before_up_to (middle k l) l (at f.b) wm wl (omega arith) (middle_before k l before) in_l.to_);
    })

pub middle_on : (e : Edge) (k l : Point) → HasLength e → IsPointOf e k → IsPointOf e l → IsBefore k l → is_on e (middle k l) ≡ true
middle_on e k l long of_k of_l before = elim (forward_or_flipped e long) [
  | inl fw ↦ forward_on e k l fw of_k.wide of_l.wide of_k.on of_l.on before
  | inr fw ↦ sym (is_on-flip e (middle k l)) ∙ forward_on (flip e) k l fw of_k.wide of_l.wide (is_on-flip e k ∙ of_k.on) (is_on-flip e l ∙ of_l.on) before
]

pub gap_of : (ns : List Node) (i : ℕ) (k l : Node) → 1 ≤ i → i < length ns → k ≡ get_or ns (i - 1) k → l ≡ get_or ns i l → IsBefore (node_point k) (node_point l) → IsGapOf (node_point k) (node_point l) (map node_point ns)
gap_of ns zero k l one lt ek el before = absurd (none one)
  where
    none : 1 ≤ 0 → ⊥
    none h = omega arith
gap_of ns (suc j) k l one lt ek el before = next ns j lt (subst (λ (i : ℕ). k ≡ get_or ns i k) (back j) ek) el
  where
    back : (j : ℕ) → suc j - 1 ≡ j
    back j = omega arith

    next : (ns : List Node) (j : ℕ) → suc j < length ns → k ≡ get_or ns j k → l ≡ get_or ns (suc j) l → IsGapOf (node_point k) (node_point l) (map node_point ns)
    next [] j lt ek el = absurd (no lt)
      where
        no : suc j < 0 → ⊥
        no h = omega arith
    next (m ∷ []) j lt ek el = absurd (no lt)
      where
        no : suc j < length (m ∷ []) → ⊥
        no h = omega arith
    next (m ∷ n ∷ ns) zero lt ek el = inl (ap node_point ek, ap node_point el, subst (λ (p : Point). IsBefore p (node_point n)) (ap node_point ek) (subst (λ (p : Point). IsBefore (node_point k) p) (ap node_point el) before))
    next (m ∷ n ∷ ns) (suc j) lt ek el = inr (next (n ∷ ns) j (omega arith) ek el)

pub cuts_long : (own other : Outline) (e : Edge) (ns : List Point) → AreCuts own other e ns → HasLength e
cuts_long own other e ns cuts = all_among HasLength e cuts.edges cuts.one.edges.long (cuts.one.edges.first e cuts.one.one)

pub gap_middle : (own other : Outline) (e : Edge) (ns : List Point) (p q : Point) → AreCuts own other e ns → IsGapOf p q ns → IsUncrossed other e (middle p q)
gap_middle own other e ns p q cuts gap = record { on = on_e; along = along }
  where
    m : Point
    m = middle p q

    of_p : IsPointOf e p
    of_p = all_among (IsPointOf e) p ns cuts.nodes.points (gap_first p q ns gap)

    of_q : IsPointOf e q
    of_q = all_among (IsPointOf e) q ns cuts.nodes.points (gap_second p q ns gap)

    before : IsBefore p q
    before = gap_order p q ns gap

    wm : 0 < m.w
    wm = middle_wide p q of_p.wide of_q.wide

    on_e : is_on e m ≡ true
    on_e = middle_on e p q (cuts_long own other e ns cuts) of_p of_q before

    parallel : (f : Edge) → IsAmong f other.edges.items → is_on f m ≡ true → turn_of e f ≡ pos 0
    parallel f one_f on_f = by_zero (turn_of e f)
        (λ some. absurd (none_in_gap p q m ns wm (All-weaker (IsPointOf e) IsWide (λ n h. h.wide) ns cuts.nodes.points) cuts.nodes.ascend
        (record { gap = gap; after = before_middle p q before; before = middle_before p q before })
        (cuts.nodes.nodes m wm on_e (Meeting e f (cuts.one.edges.first e cuts.one.one) (cuts.one.edges.second f one_f) on_e on_f some))))
        (λ flat. flat)

    turned_zero : (a b : ℤ) → b ≡ neg_ℤ a → a ≡ pos 0 → b ≡ pos 0
    turned_zero a b e h = omega (arith, ints)

    all_three : (t : Bool) (a b : ℤ) → t ≡ true → a ≡ pos 0 → b ≡ pos 0 → (t && (int_eq a (pos 0) && int_eq b (pos 0))) ≡ true
    all_three t a b h g k = rw (h, g, k) refl

    along : (f : Edge) → IsAmong f other.edges.items → is_on f m ≡ true → is_along e f ≡ true
    along f one_f on_f =
        let turn = parallel f one_f on_f in
        let back : turn_of f e ≡ pos 0 = turned_zero _ _ (turn_of-turned e f) turn in
        all_three (do_boxes_meet e f) (turn_of e f) (side e (at f.a)) (boxes_meet e f m wm on_e on_f) turn
        (line_shared f e m (at f.a) (all_among HasLength f cuts.edges cuts.one.edges.long (cuts.one.edges.second f one_f)) wm back (on_level f m on_f) (first_level f) (on_level e m on_e))

-- the nodes that an edge has among all edges cut it
pub cuts_of : (own other : Outline) (es : List Edge) (vs : List Vertex) (e : Edge) (ns : List Point) → IsOneOf own other es e → AreNodesOf es vs e ns → AreCuts own other e ns
cuts_of own other es vs e ns one nodes = record { edges = es; points = vs; one = one; nodes = nodes }

pub cuts_at : (own other : Outline) (es : List Edge) (vs : List Vertex) (e : Edge) (ns xs : List Node) → IsOneOf own other es e → AreNodesOf es vs e (map node_point ns) → xs ≡ ns → AreCuts own other e (map node_point xs)
cuts_at own other es vs e ns xs one nodes is = subst (λ (l : List Node). AreCuts own other e (map node_point l)) (sym is) (cuts_of own other es vs e (map node_point ns) one nodes)

pub edges_of_first : (a b : Outline) (es : List Edge) → All HasLength (outline_edges a b) → es ≡ outline_edges a b → AreEdgesOf a b es
edges_of_first a b es long is = record {
  long = subst (All HasLength) (sym is) long;
  first = λ e one. subst (IsAmong e) (sym is) (among_left e a.edges.items b.edges.items one);
  second = λ e one. subst (IsAmong e) (sym is) (among_right e a.edges.items b.edges.items one);
}

pub edges_of_second : (a b : Outline) (es : List Edge) → All HasLength (outline_edges a b) → es ≡ outline_edges a b → AreEdgesOf b a es
edges_of_second a b es long is =
    let edges = edges_of_first a b es long is in
    record { long = edges.long; first = edges.second; second = edges.first }

pub one_at : (own other : Outline) (es ds : List Edge) (i : ℕ) (e : Edge) → AreEdgesOf own other es → ds ≡ own.edges.items → i < length ds → e ≡ get_or ds i e → IsOneOf own other es e
one_at own other es ds i e edges is lt at_i = record { edges = edges; one = subst (IsAmong e) is (index_among ds i e lt at_i) }

-- faces
no_boundary : (k : Kind) → (parts_above k).boundary ≡ true → ⊥
no_boundary Dots h = cc
no_boundary Polylines h = cc
no_boundary Rings h = cc

pub faces_outer : (m : Matrix) (own other : Kind) (above : Parts Bool) (t : Bool) → (parts_above own).interior ≡ false → (parts_above own).exterior ≡ true → above ≡ parts_above other
    → (t ≡ true ↔ AreShown m.rows.exterior above Area) → t ≡ true ↔ AreFacesShown m own other
faces_outer m own other above t none some e h = (each, λ f. h.1 (λ j pj. f Exterior j some (subst (λ (x : Parts Bool). pick j x ≡ true) e pj)))
  where
    clashing : (t : Bool) → t ≡ false → t ≡ true → ⊥
    clashing t h k = cc

    each : t ≡ true → AreFacesShown m own other
    each holds Interior j pi pj = absurd (clashing _ none pi)
    each holds Boundary j pi pj = absurd (no_boundary own pi)
    each holds Exterior j pi pj = h.0 holds j (subst (λ (x : Parts Bool). pick j x ≡ true) (sym e) pj)

pub faces_both : (m : Matrix) (own other : Kind) (above : Parts Bool) (t u : Bool) → own ≡ Rings → above ≡ parts_above other
    → (t ≡ true ↔ AreShown m.rows.exterior above Area) → (u ≡ true ↔ AreShown m.rows.interior above Area) → (t && u) ≡ true ↔ AreFacesShown m own other
faces_both m own other above t u is e h k = (each, all)
  where
    each : (t && u) ≡ true → AreFacesShown m own other
    each holds Interior j pi pj = k.0 (second_holds t u holds) j (subst (λ (x : Parts Bool). pick j x ≡ true) (sym e) pj)
    each holds Boundary j pi pj = absurd (no_boundary own pi)
    each holds Exterior j pi pj = h.0 (first_holds t u holds) j (subst (λ (x : Parts Bool). pick j x ≡ true) (sym e) pj)

    both : (t u : Bool) → t ≡ true → u ≡ true → (t && u) ≡ true
    both t u h k = rw (h, k) refl

    all : AreFacesShown m own other → (t && u) ≡ true
    all f = both t u
        (h.1 (λ j pj. f Exterior j (ap (λ (x : Kind). (parts_above x).exterior) is) (subst (λ (x : Parts Bool). pick j x ≡ true) e pj)))
        (k.1 (λ j pj. f Interior j (ap (λ (x : Kind). (parts_above x).interior) is) (subst (λ (x : Parts Bool). pick j x ≡ true) e pj)))

pub outer_of : (own : Kind) → own ≡ Dots → ((parts_above own).interior ≡ false) × ((parts_above own).exterior ≡ true)
outer_of own is = (ap (λ (x : Kind). (parts_above x).interior) is, ap (λ (x : Kind). (parts_above x).exterior) is)

pub outer_of_lines : (own : Kind) → own ≡ Polylines → ((parts_above own).interior ≡ false) × ((parts_above own).exterior ≡ true)
outer_of_lines own is = (ap (λ (x : Kind). (parts_above x).interior) is, ap (λ (x : Kind). (parts_above x).exterior) is)

pub shown_at : (row : Parts Extent) (ps qs : Parts Bool) (x : Extent) (t : Bool) → ps ≡ qs → (t ≡ true ↔ AreShown row ps x) → t ≡ true → AreShown row qs x
shown_at row ps qs x t e h holds = subst (λ (p : Parts Bool). AreShown row p x) e (h.0 holds)

-- the face above a piece, whose part in the other geometry is known
pub piece_beside : (a b : Outline) (e : Edge) (p : Point) (f s j : Part) (old mid new : Matrix) (t : Bool) → f ≡ outline_part a p → s ≡ outline_part b p → j ≡ outline_above b p
    → (run e ≡ pos 0 → t ≡ true) → t ≡ false
    → HasGrownBy (record { first = f; second = s; extent = Line } ∷ []) old mid → HasGrownBy (mark_beside a j p ∷ []) mid new → HasGrownBy (piece_marks a b e p) old new
piece_beside a b e p f s j old mid new t ef es ej vertical slanted h k = piece_both a b e p f s (outline_above a p) j old mid new t ef es refl ej vertical slanted h k

pub row_shown : (m : Matrix) (i : Part) (row : Parts Extent) (ps qs : Parts Bool) (x : Extent) (t : Bool) → row ≡ pick i m.rows → ps ≡ qs → (t ≡ true ↔ AreShown row ps x) → t ≡ true → AreShown (pick i m.rows) qs x
row_shown m i row ps qs x t is e h holds = subst (λ (r : Parts Extent). AreShown r qs x) is (shown_at row ps qs x t e h holds)

-- a place, by its part in the other geometry
pub place_standing : (other : Outline) (p : Point) (i j : Part) (old new : Matrix) → j ≡ outline_part other p
    → HasGrownBy (record { first = i; second = j; extent = Dot } ∷ []) old new → HasGrownBy (mark_in i other p ∷ []) old new
place_standing other p i j old new e h = subst (λ (k : Part). HasGrownBy (record { first = i; second = k; extent = Dot } ∷ []) old new) e h
