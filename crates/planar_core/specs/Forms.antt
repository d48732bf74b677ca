-- The forms of two geometries that are measured.
use Rattle.std.specs.Prelude.{IfSome}
use Rattle.planar_core.specs.declared.forms.Forms.{Forms}

-- each that is there is a form of its geometry
pub record AreFormsOf {G F : Type 0} (is_form : G → F → Type 0) (g h : G) (forms : Forms F)
    : Type 0 where
  pub first : IfSome forms.first (λ f. is_form g f.now)
  pub second : IfSome forms.second (λ f. is_form h f.now)
