-- On the way from one point to another, an edge of an area is met, or both are in one part of it.
use Rattle.std.proofs.Common.{◌≡◌, ◌<◌, ◌⊎◌, ap, ◌∙◌, sym, false, refl, subst, inl, inr, List, [], ◌∷◌}
use Rattle.std.specs.Prelude.{pos, ◌*ℤ◌, ◌≤ℤ◌, Bool, if◌then◌else◌}
use Rattle.std.specs.List.{flat_map}
use Rattle.std.proofs.lemmas.Int.{by_lt_z}
use Rattle.plane_core.specs.declared.edge.Edge.{Edge}
use Rattle.plane_core.specs.declared.vertex.Vertex.{Vertex}
use Rattle.plane_core.specs.declared.part.Part.TheVariants.{Interior, Exterior}
use Rattle.plane_core.specs.Points.{Point, is_on, is_below}
use Rattle.plane_core.specs.Figures.{edges, HasLength, IsGeometry, part_of, edges_of}
use Rattle.plane_core.specs.Figures.Figure.{Areas}
use Rattle.plane_core.proofs.Signs.{weak}
use Rattle.noding_core.specs.Nodes.{IsAmong}
use Rattle.noding_core.proofs.TestLemmas.{by_test}
use Rattle.noding_core.proofs.OffPartLemmas.{off_part-is}
use Rattle.noding_core.proofs.PathLemmas.{edge_length}
use Rattle.noding_core.proofs.RingLemmas.{differ, rings_parity}
use Rattle.noding_core.proofs.WayLemmas.{way_first, way_last, way_turned, IsMet}
use Rattle.noding_core.proofs.WayEdgeLemmas.{is_passed, way_edge}

-- what is known of an edge that is not met
pub record IsPassedBy (f : Edge) (p q : Point) : Type 0 where
  pub first : is_on f p ≡ false
  pub last : is_on f q ≡ false
  pub even : differ (is_below f p) (is_below f q) ≡ differ (is_passed p q f.a) (is_passed p q f.b)

pub record MeetsSome (es : List Edge) (p q : Point) : Type 0 where
  pub edge : Edge
  pub one : IsAmong edge es
  pub met : IsMet edge p q

module _ (p q : Point) (wide_p : 0 < p.w) (wide_q : 0 < q.w) where
  one_edge : (p.x *ℤ pos q.w) ≤ℤ (q.x *ℤ pos p.w) → (f : Edge) → HasLength f → IsMet f p q ⊎ IsPassedBy f p q
  one_edge ahead f long = by_test (is_on f p)
      (λ on. inl (record { point = p; way = way_first p q; on = on }))
      (λ off_p. by_test (is_on f q)
      (λ on. inl (record { point = q; way = way_last p q; on = on }))
      (λ off_q. elim (way_edge p q wide_p wide_q ahead f long) [
        | inl met ↦ inl met
        | inr e ↦ inr (record { first = off_p; last = off_q; even = e })
      ]))

  some_or_none : (p.x *ℤ pos q.w) ≤ℤ (q.x *ℤ pos p.w) → (es : List Edge) → ((f : Edge) → IsAmong f es → HasLength f) → MeetsSome es p q ⊎ ((f : Edge) → IsAmong f es → IsPassedBy f p q)
  some_or_none ahead [] long = inr (λ f k. absurd k)
  some_or_none ahead (e ∷ es) long = elim (one_edge ahead e (long e (inl refl))) [
    | inl met ↦ inl (record { edge = e; one = inl refl; met = met })
    | inr passed ↦ elim (some_or_none ahead es (λ f k. long f (inr k))) [
      | inl some ↦ inl (record { edge = some.edge; one = inr some.one; met = some.met })
      | inr none ↦ inr (λ f k. elim k [ inl is ↦ subst (λ (x : Edge). IsPassedBy x p q) (sym is) passed | inr among ↦ none f among ])
    ]
  ]

  parts_ahead : (rings : List (List Vertex)) → IsGeometry (Areas rings) → (p.x *ℤ pos q.w) ≤ℤ (q.x *ℤ pos p.w) → MeetsSome (edges_of (Areas rings)) p q ⊎ (part_of (Areas rings) p ≡ part_of (Areas rings) q)
  parts_ahead rings good ahead = elim (some_or_none ahead (flat_map edges rings) (λ f k. edge_length (Areas rings) f good k)) [
    | inl some ↦ inl some
    | inr none ↦ inr (off_part-is (Areas rings) p good (record { edges = λ e k. (none e k).first; points = λ v k. absurd k })
        ∙ ap (λ (t : Bool). if t then Interior else Exterior) (rings_parity (λ e. is_below e p) (λ e. is_below e q) (is_passed p q) rings good.1 (λ f k. (none f k).even))
        ∙ sym (off_part-is (Areas rings) q good (record { edges = λ e k. (none e k).last; points = λ v k. absurd k })))
  ]

-- on the way from one point to another, an edge of an area is met, or both are in one part of it
pub met_or_same : (rings : List (List Vertex)) (p q : Point) → 0 < p.w → 0 < q.w → IsGeometry (Areas rings) → MeetsSome (edges_of (Areas rings)) p q ⊎ (part_of (Areas rings) p ≡ part_of (Areas rings) q)
met_or_same rings p q wide_p wide_q good = by_lt_z (q.x *ℤ pos p.w) (p.x *ℤ pos q.w)
    (λ behind. elim (parts_ahead q p wide_q wide_p rings good (weak _ _ behind)) [
      | inl some ↦ inl (record { edge = some.edge; one = some.one; met = record { point = some.met.point; way = way_turned q p some.met.point some.met.way; on = some.met.on } })
      | inr same ↦ inr (sym same)
    ])
    (λ ahead. parts_ahead p q wide_p wide_q rings good ahead)
