-- Which of two texts is at fault.
use Rattle.std.proofs.Common.{◌≡◌, ℕ, List, Result, Ok, Err, subst, ◌↔◌}
use Rattle.geom_core.specs.declared.shape.Shape.{Shape}
use Rattle.wkt_core.specs.declared.fault.WktFault.{WktFault}
use Rattle.number_core.specs.declared.scale.Scale.{Scale}
use Rattle.wkt_core.specs.Readings.{Reads}
use Rattle.run_core.specs.declared.fault.Input.{Input}
use Rattle.run_core.specs.declared.fault.Input.TheVariants.{First, Second}
use Rattle.run_core.specs.declared.fault.RunFault.{RunFault}
use Rattle.run_core.specs.declared.fault.RunFault.TheVariants.{Wkt}
use Rattle.join_core.specs.Relating.{HasFirstFault}

-- the text has no other result
abbrev pub ReadsOnly : Scale → List ℕ → Result Shape WktFault → Type 0
ReadsOnly scale text read = (answer : Result Shape WktFault) → Reads scale text answer → read ≡ answer

-- the first text is at fault
pub first_at_fault : {T : Type 0} (scale : Scale) (a b : List ℕ) (e : WktFault) (out : Result T RunFault) → out ≡ Err (Wkt First e)
    → Reads scale a (Err e) → ReadsOnly scale a (Err e) → (i : Input) (f : WktFault) → (out ≡ Err (Wkt i f)) ↔ HasFirstFault scale a b i f
first_at_fault scale a b e out is read only First f =
    ((λ q. let same : e ≡ f = cc in subst (λ (x : WktFault). Reads scale a (Err x)) same read), (λ h. let w = only (Err f) h in cc))
first_at_fault scale a b e out is read only Second f = ((λ q. absurd cc), (λ h. let bad = only (Ok h.0.0) h.0.1 in absurd cc))
first_at_fault scale a b e out is read only _ f = ((λ q. absurd cc), (λ h. absurd h))

-- the first text spells a shape, and the second is at fault
pub second_at_fault : {T : Type 0} (scale : Scale) (a b : List ℕ) (s : Shape) (e : WktFault) (out : Result T RunFault) → out ≡ Err (Wkt Second e)
    → Reads scale a (Ok s) → ReadsOnly scale a (Ok s) → Reads scale b (Err e) → ReadsOnly scale b (Err e)
    → (i : Input) (f : WktFault) → (out ≡ Err (Wkt i f)) ↔ HasFirstFault scale a b i f
second_at_fault scale a b s e out is spelled spelled_only read only First f = ((λ q. absurd cc), (λ h. let bad = spelled_only (Err f) h in absurd cc))
second_at_fault scale a b s e out is spelled spelled_only read only Second f =
    ((λ q. let same : e ≡ f = cc in ((s, spelled), subst (λ (x : WktFault). Reads scale b (Err x)) same read)), (λ h. let w = only (Err f) h.1 in cc))
second_at_fault scale a b s e out is spelled spelled_only read only _ f = ((λ q. absurd cc), (λ h. absurd h))

-- both spell shapes
pub none_at_fault : {T : Type 0} (scale : Scale) (a b : List ℕ) (s t : Shape) (x : T) (out : Result T RunFault) → out ≡ Ok x → ReadsOnly scale a (Ok s)
    → ReadsOnly scale b (Ok t)
    → (i : Input) (f : WktFault) → (out ≡ Err (Wkt i f)) ↔ HasFirstFault scale a b i f
none_at_fault scale a b s t x out is first second First f = ((λ q. absurd cc), (λ h. let bad = first (Err f) h in absurd cc))
none_at_fault scale a b s t x out is first second Second f = ((λ q. absurd cc), (λ h. let bad = second (Err f) h.1 in absurd cc))
none_at_fault scale a b s t x out is first second _ f = ((λ q. absurd cc), (λ h. absurd h))
