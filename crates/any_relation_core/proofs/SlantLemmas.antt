-- Proper rings have an edge that isn't vertical, and so an interior: a path of vertical edges that
-- never turns back doesn't close.
use Rattle.std.proofs.Common.{◌≡◌, ◌<◌, ◌⊎◌, inl, inr, arith, refl, sym, ap, ◌∙◌, true, false, List, [], ◌∷◌, ◌++◌}
use Rattle.std.specs.Prelude.{ℤ, pos, ◌*ℤ◌, ◌≤ℤ◌, ◌<ℤ◌, Bool, not, All, length}
use Rattle.std.specs.Ordering.{int_eq}
use Rattle.std.specs.List.{flat_map}
use Rattle.std.proofs.lemmas.Int.{ints, by_lt_z}
use Rattle.plane_core.specs.declared.vertex.Vertex.{Vertex}
use Rattle.plane_core.specs.declared.edge.Edge.{Edge}
use Rattle.plane_core.specs.Points.{at, is_on}
use Rattle.plane_core.specs.Figures.{Figure, HasLength, IsRing, IsGeometry, edges, last_or}
use Rattle.plane_core.specs.Figures.Figure.{Points as Dots, Lines as Polylines, Areas as Regions}
use Rattle.plane_core.specs.ProperRings.{MeetProperly, AreProper, HasProperRings}
use Rattle.plane_core.proofs.OnePlaneMatrix.{segment_point}
use Rattle.noding_core.specs.Nodes.{IsAmong}
use Rattle.noding_core.proofs.NodeLemmas.{all_among}
use Rattle.noding_core.proofs.AmongLemmas.{among_left}
use Rattle.noding_core.proofs.LineLemmas.{on_vertical_up, on_vertical_down}
use Rattle.noding_core.proofs.MatrixLemmas.{some_or_none}
use Rattle.any_relation_core.proofs.PartLemmas.{HasInterior, first_point, lines_segment}
use Rattle.any_relation_core.proofs.ProperLemmas.{pairs_head, pairs_tail, slanted_inside}

abbrev edge : Vertex → Vertex → Edge
edge a b = record { a = a; b = b }

-- between two numbers, or one of them
abbrev IsWithin : ℤ → ℤ → ℤ → Type 0
IsWithin m n z = ((m ≤ℤ z) × (z ≤ℤ n)) ⊎ ((n ≤ℤ z) × (z ≤ℤ m))

vertex_on : (a b v : Vertex) → a.x ≡ b.x → v.x ≡ a.x → IsWithin a.y b.y v.y → is_on (edge a b) (at v) ≡ true
vertex_on a b v upright same (inl (low, high)) = on_vertical_up (edge a b) (at v) upright (one v.x a.x same) (from_ a.y v.y low) (to_ b.y v.y high)
  where
    one : (x z : ℤ) → x ≡ z → x ≡ pos 1 *ℤ z
    one x z h = omega (arith, ints)

    from_ : (m z : ℤ) → m ≤ℤ z → (pos 1 *ℤ m) ≤ℤ z
    from_ m z h = omega (arith, ints)

    to_ : (m z : ℤ) → z ≤ℤ m → z ≤ℤ (pos 1 *ℤ m)
    to_ m z h = omega (arith, ints)
vertex_on a b v upright same (inr (low, high)) = on_vertical_down (edge a b) (at v) upright (one v.x a.x same) (from_ b.y v.y low) (to_ a.y v.y high)
  where
    one : (x z : ℤ) → x ≡ z → x ≡ pos 1 *ℤ z
    one x z h = omega (arith, ints)

    from_ : (m z : ℤ) → m ≤ℤ z → (pos 1 *ℤ m) ≤ℤ z
    from_ m z h = omega (arith, ints)

    to_ : (m z : ℤ) → z ≤ℤ m → z ≤ℤ (pos 1 *ℤ m)
    to_ m z h = omega (arith, ints)

within_first : (m n : ℤ) → IsWithin m n m
within_first m n = by_lt_z m n (λ h. inl (omega (arith, ints), omega (arith, ints))) (λ h. inr (h, omega (arith, ints)))

within_last : (m n : ℤ) → IsWithin m n n
within_last m n = by_lt_z m n (λ h. inl (omega (arith, ints), omega (arith, ints))) (λ h. inr (omega (arith, ints), h))

-- two vertical edges in a row don't turn back
no_turn : (a b c : Vertex) → MeetProperly (edge a b) (edge b c) → a.x ≡ b.x → b.x ≡ c.x → ¬ (a.y ≡ b.y) → ¬ (b.y ≡ c.y) → IsWithin b.y c.y a.y ⊎ IsWithin a.y b.y c.y → ⊥
no_turn a b c meet ab bc off_ab off_bc (inl back) =
    off_ab (level a.y b.y (meet.one_place (at a) (at b)
    (record { wide = omega arith; first = vertex_on a b a ab refl (within_first a.y b.y); second = vertex_on b c a bc ab back })
    (record { wide = omega arith; first = vertex_on a b b ab (sym ab) (within_last a.y b.y); second = vertex_on b c b bc refl (within_first b.y c.y) })).1)
  where
    level : (m n : ℤ) → m *ℤ pos 1 ≡ n *ℤ pos 1 → m ≡ n
    level m n h = omega (arith, ints)
no_turn a b c meet ab bc off_ab off_bc (inr back) =
    off_bc (level b.y c.y (meet.one_place (at b) (at c)
    (record { wide = omega arith; first = vertex_on a b b ab (sym ab) (within_last a.y b.y); second = vertex_on b c b bc refl (within_first b.y c.y) })
    (record { wide = omega arith; first = vertex_on a b c ab (sym bc ∙ sym ab) back; second = vertex_on b c c bc (sym bc) (within_last b.y c.y) })).1)
  where
    level : (m n : ℤ) → m *ℤ pos 1 ≡ n *ℤ pos 1 → m ≡ n
    level m n h = omega (arith, ints)

-- up, or down
abbrev Goes : Bool → ℤ → ℤ → Type 0
Goes true m n = m <ℤ n
Goes false m n = n <ℤ m

goes_on : (t : Bool) (a b c : Vertex) → MeetProperly (edge a b) (edge b c) → a.x ≡ b.x → b.x ≡ c.x → ¬ (b.y ≡ c.y) → Goes t a.y b.y → Goes t b.y c.y
goes_on true a b c meet ab bc off up = by_lt_z b.y c.y (λ h. h)
    (λ down. absurd (no_turn a b c meet ab bc (less a.y b.y up) off (back a.y b.y c.y up down)))
  where
    less : (m n : ℤ) → m <ℤ n → ¬ (m ≡ n)
    less m n h e = omega (arith, ints)

    back : (m n k : ℤ) → m <ℤ n → k ≤ℤ n → IsWithin n k m ⊎ IsWithin m n k
    back m n k h l = by_lt_z k m (λ low. inl (inr (omega (arith, ints), omega (arith, ints)))) (λ high. inr (inl (high, l)))
goes_on false a b c meet ab bc off down = by_lt_z c.y b.y (λ h. h)
    (λ up. absurd (no_turn a b c meet ab bc (less a.y b.y down) off (back a.y b.y c.y down up)))
  where
    less : (m n : ℤ) → n <ℤ m → ¬ (m ≡ n)
    less m n h e = omega (arith, ints)

    back : (m n k : ℤ) → n <ℤ m → n ≤ℤ k → IsWithin n k m ⊎ IsWithin m n k
    back m n k h l = by_lt_z m k (λ high. inl (inl (omega (arith, ints), omega (arith, ints)))) (λ low. inr (inr (l, low)))

goes_trans : (t : Bool) (m n k : ℤ) → Goes t m n → Goes t n k → Goes t m k
goes_trans true m n k h l = omega (arith, ints)
goes_trans false m n k h l = omega (arith, ints)

climb : (t : Bool) (a b : Vertex) (rest : List Vertex) (more : List Edge) → AreProper (edges (a ∷ b ∷ rest) ++ more)
    → ((f : Edge) → IsAmong f (edges (a ∷ b ∷ rest)) → (f.a.x ≡ f.b.x) × HasLength f) → Goes t a.y b.y → Goes t a.y (last_or b rest).y
climb t a b [] more proper all goes = goes
climb t a b (c ∷ rest) more proper all goes =
    let first = all (edge a b) (inl refl) in
    let next = all (edge b c) (inr (inl refl)) in
    let meet = pairs_head MeetProperly (edge a b) (edge b c) (edges (b ∷ c ∷ rest) ++ more) proper (among_left (edge b c) (edges (b ∷ c ∷ rest)) more (inl refl)) in
    goes_trans t a.y b.y (last_or c rest).y goes
    (climb t b c rest more (pairs_tail MeetProperly (edge a b) (edges (b ∷ c ∷ rest) ++ more) proper) (λ f k. all f (inr k)) (goes_on t a b c meet first.0 next.0 (λ level. next.1 (next.0, level)) goes))

never_closes : (a b : Vertex) (rest : List Vertex) (more : List Edge) → AreProper (edges (a ∷ b ∷ rest) ++ more)
    → ((f : Edge) → IsAmong f (edges (a ∷ b ∷ rest)) → (f.a.x ≡ f.b.x) × HasLength f) → last_or b rest ≡ a → ⊥
never_closes a b rest more proper all closed =
    by_lt_z a.y b.y
    (λ up. above a.y _ (height) (climb true a b rest more proper all up))
    (λ no. by_lt_z b.y a.y (λ down. under a.y _ (height) (climb false a b rest more proper all down))
    (λ level. let first = all (edge a b) (inl refl) in first.1 (first.0, same a.y b.y no level)))
  where
    height : (last_or b rest).y ≡ a.y
    height = ap (λ (v : Vertex). v.y) closed

    above : (m n : ℤ) → n ≡ m → m <ℤ n → ⊥
    above m n e h = omega (arith, ints)

    under : (m n : ℤ) → n ≡ m → n <ℤ m → ⊥
    under m n e h = omega (arith, ints)

    same : (m n : ℤ) → n ≤ℤ m → m ≤ℤ n → m ≡ n
    same m n h k = omega (arith, ints)

ring_slanted : (ring : List Vertex) (more : List Edge) → IsRing ring → AreProper (edges ring ++ more) → ((f : Edge) → IsAmong f (edges ring) → f.a.x ≡ f.b.x) → ⊥
ring_slanted [] more good proper upright = none good.path.long
  where
    none : 0 < 0 → ⊥
    none h = omega arith
ring_slanted (a ∷ []) more good proper upright = none good.path.long
  where
    none : 0 < 0 → ⊥
    none h = omega arith
ring_slanted (a ∷ b ∷ rest) more good proper upright =
    never_closes a b rest more proper (λ f k. (upright f k, all_among HasLength f (edges (a ∷ b ∷ rest)) good.path.steps k)) good.closed

proper_inside : (rings : List (List Vertex)) → IsGeometry (Regions rings) → AreProper (flat_map edges rings) → HasInterior (Regions rings)
proper_inside rings good proper = by_slant (some_or_none (λ e. not (int_eq e.a.x e.b.x)) (flat_map edges rings))
  where
    differ : (m n : ℤ) → not (int_eq m n) ≡ true → ¬ (m ≡ n)
    differ m n h e = grind (arith, ints)

    same : (m n : ℤ) → not (int_eq m n) ≡ false → m ≡ n
    same m n h = grind (arith, ints)

    upright : (rings : List (List Vertex)) → 0 < length rings → All IsRing rings → AreProper (flat_map edges rings) → ((e : Edge) → IsAmong e (flat_map edges rings) → not (int_eq e.a.x e.b.x) ≡ false) → ⊥
    upright [] some all proper none = absurd (omega arith)
    upright (ring ∷ rings) some all proper none =
        ring_slanted ring (flat_map edges rings) (all_among IsRing ring (ring ∷ rings) all (inl refl)) proper (λ f k. same f.a.x f.b.x (none f (among_left f (edges ring) (flat_map edges rings) k)))

    by_slant : ((e : Edge) × IsAmong e (flat_map edges rings) × (not (int_eq e.a.x e.b.x) ≡ true)) ⊎ ((e : Edge) → IsAmong e (flat_map edges rings) → not (int_eq e.a.x e.b.x) ≡ false) → HasInterior (Regions rings)
    by_slant (inl (e, k, slant)) = slanted_inside rings e good proper k (differ e.a.x e.b.x slant)
    by_slant (inr none) = absurd (upright rings good.0 good.1 proper none)

-- points and lines have one too
pub geometry_inside : (g : Figure) → IsGeometry g → HasProperRings g → HasInterior g
geometry_inside (Dots vs) good proper = first_point vs good
geometry_inside (Polylines paths) good proper = segment_point _ (lines_segment paths good)
geometry_inside (Regions rings) good proper = proper_inside rings good proper
