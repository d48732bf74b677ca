-- A path that is extended to a vertex has no repeats.
use Rattle.std.proofs.Common.{◌≡◌, ◌-◌, List, [], ◌∷◌, ◌++◌, map, length, refl, ap, arith}
use Rattle.std.specs.Prelude.{slice_get, if◌then◌else◌}
use Rattle.plane_core.specs.declared.vertex.Vertex.{Vertex}
use Rattle.wkt_core.specs.declared.position.Position.{Position}
use Rattle.wkt_core.specs.Drawing.{is_same, without_repeats, without_repeats_of}
use Rattle.number_core.proofs.NumberLemmas.{by_bool}
use Rattle.wkt_any_core.specs.Drawing.{position_of}
use Rattle.wkt_any_core.specs.Held.{stays_at, stepped}

-- one position further, unless the last is the same
abbrev pub further : List Position → Position → List Position
further [] p = p ∷ []
further (q ∷ []) p = if is_same q p then q ∷ [] else q ∷ p ∷ []
further (q ∷ r ∷ ps) p = q ∷ further (r ∷ ps) p

further_of : (q : Position) (ps : List Position) (p : Position) → q ∷ without_repeats_of q (ps ++ p ∷ []) ≡ further (q ∷ without_repeats_of q ps) p
further_of q [] p = by_bool (is_same q p) (λ t. rw t refl) (λ f. rw f refl)
further_of q (r ∷ ps) p = by_bool (is_same q r)
    (λ t. rw t (further_of q ps p))
    (λ f. rw f (ap (λ rest. q ∷ rest) (further_of r ps p)))

pub without_repeats_more : (ps : List Position) (p : Position) → without_repeats (ps ++ p ∷ []) ≡ further (without_repeats ps) p
without_repeats_more [] p = refl
without_repeats_more (q ∷ ps) p = further_of q ps p

last_at : (w : Vertex) (vs : List Vertex) → slice_get (w ∷ vs) (length (w ∷ vs) - 1) ≡ slice_get (w ∷ vs) (length vs)
last_at w vs = let e : length (w ∷ vs) - 1 ≡ length vs = omega arith in ap (λ n. slice_get (w ∷ vs) n) e

-- if the rest of a path goes on, so does the whole
stepped_at : Vertex → List Vertex → Vertex → List Vertex
stepped_at w vs v = if stays_at (slice_get (w ∷ vs) (length vs)) v then w ∷ vs else (w ∷ vs) ++ v ∷ []

stepped_further : (w : Vertex) (vs : List Vertex) (v : Vertex) → map position_of (stepped_at w vs v) ≡ further (map position_of (w ∷ vs)) (position_of v)
unfolding stepped_at
stepped_further w [] v = by_bool (is_same (position_of w) (position_of v)) (λ t. rw t refl) (λ f. rw f refl)
stepped_further w (x ∷ vs) v =
    let rest = stepped_further x vs v in
    by_bool (stays_at (slice_get (x ∷ vs) (length vs)) v)
    (λ t. rw t (ap (λ ps. position_of w ∷ ps) (rw t at rest)))
    (λ f. rw f (ap (λ ps. position_of w ∷ ps) (rw f at rest)))

pub stepped_is : (vs : List Vertex) (v : Vertex) → map position_of (stepped vs v) ≡ further (map position_of vs) (position_of v)
unfolding stepped_at
stepped_is [] v = refl
stepped_is (w ∷ vs) v = rw (last_at w vs) (stepped_further w vs v)
