-- The texts of the faults of this crate.
use Rattle.std.specs.Prelude.{ℕ, List, ◌++◌, codes, decimal}
use Rattle.relation_core.specs.declared.mask.MaskFault.{MaskFault}
use Rattle.relation_core.specs.declared.mask.MaskFault.TheVariants.{Length, Letter}

-- the text of a fault, without the place
abbrev pub mask_words : MaskFault → List ℕ
mask_words Length = codes "not a name or a mask of nine letters"
mask_words (Letter place) = codes "bad letter at place "

abbrev pub mask_text : MaskFault → List ℕ
mask_text Length = mask_words Length
mask_text (Letter place) = mask_words (Letter place) ++ decimal place

abbrev pub allows_disjoint_text : List ℕ
allows_disjoint_text = codes "disjoint features may fit"
