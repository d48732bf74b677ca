-- Which of two texts is at fault.
use Rattle.std.proofs.Common.{◌≡◌, ℕ, List, Result, Ok, Err, subst, ◌↔◌}
use Rattle.plane_core.specs.Figures.{Figure}
use Rattle.number_core.specs.declared.scale.Scale.{Scale}
use Rattle.wkt_any_core.specs.declared.fault.GeometryFault.{GeometryFault}
use Rattle.plane_core.specs.declared.rings.Rings.{Rings}
use Rattle.geometry_text_core.specs.Texts.{Reads}
use Rattle.relate_any_core.specs.declared.texts.TextFault.{TextFault}
use Rattle.relate_any_core.specs.declared.texts.TextFault.TheVariants.{First, Second}
use Rattle.relate_any_core.specs.TextMatrices.{HasTextFault}

-- nothing else is read from the text
abbrev pub ReadsOnly : Scale → Rings → List ℕ → Result Figure GeometryFault → Type 0
ReadsOnly scale rings text read = (answer : Result Figure GeometryFault) → Reads scale rings text answer → read ≡ answer

module _ {T : Type 0} (scale : Scale) (rings : Rings) (a b : List ℕ) where
  -- the first text is at fault
  first_at : (e : GeometryFault) (out : Result T TextFault) → out ≡ Err (First e) → Reads scale rings a (Err e) → ReadsOnly scale rings a (Err e)
      → (f : TextFault) → (out ≡ Err f) ↔ HasTextFault scale rings a b f
  first_at e out is read only (First f) =
      ((λ q. let same : e ≡ f = cc in subst (λ (x : GeometryFault). Reads scale rings a (Err x)) same read), (λ h. let w = only (Err f) h in cc))
  first_at e out is read only (Second f) = ((λ q. absurd cc), (λ h. let bad = only (Ok h.0.0) h.0.1 in absurd cc))

  -- the first text spells a geometry, and the second is at fault
  second_at : (g : Figure) (e : GeometryFault) (out : Result T TextFault) → out ≡ Err (Second e)
      → Reads scale rings a (Ok g) → ReadsOnly scale rings a (Ok g) → Reads scale rings b (Err e) → ReadsOnly scale rings b (Err e)
      → (f : TextFault) → (out ≡ Err f) ↔ HasTextFault scale rings a b f
  second_at g e out is spelled spelled_only read only (First f) = ((λ q. absurd cc), (λ h. let bad = spelled_only (Err f) h in absurd cc))
  second_at g e out is spelled spelled_only read only (Second f) =
      ((λ q. let same : e ≡ f = cc in ((g, spelled), subst (λ (x : GeometryFault). Reads scale rings b (Err x)) same read)), (λ h. let w = only (Err f) h.1 in cc))

  -- both spell geometries
  none_at : (g h : Figure) (x : T) (out : Result T TextFault) → out ≡ Ok x → ReadsOnly scale rings a (Ok g) → ReadsOnly scale rings b (Ok h)
      → (f : TextFault) → (out ≡ Err f) ↔ HasTextFault scale rings a b f
  none_at g h x out is first second (First f) = ((λ q. absurd cc), (λ told. let bad = first (Err f) told in absurd cc))
  none_at g h x out is first second (Second f) = ((λ q. absurd cc), (λ told. let bad = second (Err f) told.1 in absurd cc))

  -- the same, by the results of reading the texts
  pub first_at_fault : (r : Result Figure GeometryFault) (e : GeometryFault) (out : Result T TextFault) → Reads scale rings a r → ReadsOnly scale rings a r
      → r ≡ Err e → out ≡ Err (First e) → (f : TextFault) → (out ≡ Err f) ↔ HasTextFault scale rings a b f
  first_at_fault r e out reads only same is = first_at e out is (subst (Reads scale rings a) same reads) (subst (ReadsOnly scale rings a) same only)

  pub second_at_fault : (r s : Result Figure GeometryFault) (g : Figure) (e : GeometryFault) (out : Result T TextFault)
      → Reads scale rings a r → ReadsOnly scale rings a r → Reads scale rings b s → ReadsOnly scale rings b s → r ≡ Ok g → s ≡ Err e → out ≡ Err (Second e)
      → (f : TextFault) → (out ≡ Err f) ↔ HasTextFault scale rings a b f
  second_at_fault r s g e out reads only reads_b only_b spelled same is =
      second_at g e out is (subst (Reads scale rings a) spelled reads) (subst (ReadsOnly scale rings a) spelled only)
      (subst (Reads scale rings b) same reads_b) (subst (ReadsOnly scale rings b) same only_b)

  pub none_at_fault : (r s : Result Figure GeometryFault) (g h : Figure) (x : T) (out : Result T TextFault)
      → ReadsOnly scale rings a r → ReadsOnly scale rings b s → r ≡ Ok g → s ≡ Ok h → out ≡ Ok x
      → (f : TextFault) → (out ≡ Err f) ↔ HasTextFault scale rings a b f
  none_at_fault r s g h x out only only_b spelled spelled_too is =
      none_at g h x out is (subst (ReadsOnly scale rings a) spelled only) (subst (ReadsOnly scale rings b) spelled_too only_b)
