-- The starts of the paths of a geometry, one path after another.
use Rattle.std.proofs.Common.{◌≡◌, ◌<◌, ◌≤◌, ◌+◌, ℕ, suc, arith, ap, ◌∙◌, sym, true, false, subst, inl, inr, List, [], ◌∷◌, length, get_or, below_more}
use Rattle.std.specs.Prelude.{Bool}
use Rattle.std.specs.List.{list_any}
use Rattle.plane_core.specs.declared.vertex.Vertex.{Vertex}
use Rattle.plane_core.specs.Points.{at}
use Rattle.plane_core.specs.Figures.{Figure, dim_of, part_of}
use Rattle.plane_core.specs.Vertices.{paths_in}
use Rattle.noding_core.specs.Nodes.{IsAmong}
use Rattle.noding_core.proofs.TestLemmas.{clash}
use Rattle.noding_core.proofs.TurnLemmas.{get_among}
use Rattle.geometry_distance_core.specs.Measured.{HasStartIn, starts_in, is_within}
use Rattle.geometry_distance_core.proofs.SharedLemmas.{some_of}
use Rattle.geometry_distance_core.proofs.SkeletonLemmas.{some_any}

among_at : {X : Type 0} (x : X) (xs : List X) (d : X) → IsAmong x xs → (k : ℕ) × (k < length xs) × (x ≡ get_or xs k d)
among_at x [] d h = absurd h
among_at x (y ∷ ys) d (inl is) = (0, omega arith, is)
among_at x (y ∷ ys) d (inr k) = let rest = among_at x ys d k in let lt = rest.1 in (suc rest.0, omega (arith, lt), rest.2)

module _ (g h : Figure) where
  abbrev pub has_start : List Vertex → Bool
  has_start vs = list_any (λ v. is_within (part_of h (at v))) vs

  -- a path with such a start
  pub start_at : (i : ℕ) (vs : List Vertex) → i < length (paths_in g) → ((none : List Vertex) → vs ≡ starts_in (dim_of g) (get_or (paths_in g) i none)) → has_start vs ≡ true → HasStartIn g h
  start_at i vs lt is some =
      let path = get_or (paths_in g) i [] in
      let start = some_of (λ v. is_within (part_of h (at v))) vs some in
      record {
        path = path;
        start = start.0;
        one = get_among (paths_in g) i [] lt;
        first = subst (λ (l : List Vertex). IsAmong start.0 l) (is []) start.1;
        within = start.2;
      }

  -- no path up to an index has one
  abbrev pub HaveNoneTo : ℕ → Type 0
  HaveNoneTo n = (k : ℕ) → k < n → has_start (starts_in (dim_of g) (get_or (paths_in g) k [])) ≡ false

  pub none_more : (i : ℕ) (vs : List Vertex) → ((none : List Vertex) → vs ≡ starts_in (dim_of g) (get_or (paths_in g) i none)) → has_start vs ≡ false → HaveNoneTo i → HaveNoneTo (i + 1)
  none_more i vs is none h = below_more (λ k. has_start (starts_in (dim_of g) (get_or (paths_in g) k [])) ≡ false) i h (ap has_start (sym (is [])) ∙ none)

  pub none_at_all : (n : ℕ) → length (paths_in g) ≤ n → HaveNoneTo n → ¬ (HasStartIn g h)
  none_at_all n le none start =
      let k = among_at start.path (paths_in g) [] start.one in
      let lt = k.1 in
      clash (has_start (starts_in (dim_of g) (get_or (paths_in g) k.0 [])))
      (some_any (λ v. is_within (part_of h (at v))) start.start (starts_in (dim_of g) (get_or (paths_in g) k.0 [])) (subst (λ (path : List Vertex). IsAmong start.start (starts_in (dim_of g) path)) k.2 start.first) start.within)
      (none k.0 (omega (arith, le, lt)))
