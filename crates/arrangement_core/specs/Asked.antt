-- The entries of a matrix that masks ask for.
use Rattle.std.specs.Prelude.{◌≡◌, Bool, true, false, List, if◌then◌else◌}
use Rattle.std.specs.List.{list_all}
use Rattle.relation_core.specs.declared.extent.Extent.{Extent}
use Rattle.relation_core.specs.declared.extent.Extent.TheVariants.{Area}
use Rattle.relation_core.specs.declared.part.Parts.{Parts}
use Rattle.relation_core.specs.declared.matrix.Matrix.{Matrix}
use Rattle.relation_core.specs.declared.mask.Mask.{Mask}
use Rattle.relation_core.specs.declared.pattern_value.PatternValue.{PatternValue}
use Rattle.relation_core.specs.declared.pattern_value.PatternValue.TheVariants.{Any, NotEmpty}
use Rattle.relation_core.specs.declared.pattern_value.PatternValue.TheVariants.{Exactly}
use Rattle.plane_core.specs.declared.part.Part.{Part}
use Rattle.plane_core.specs.declared.part.Part.TheVariants.{Interior, Boundary, Exterior}
use Rattle.plane_core.specs.PlaneMatrices.{pick, entry}
use Rattle.noding_core.specs.Growth.{outside}
use Rattle.arrangement_core.specs.declared.wanted.Wanted.{Wanted}
use Rattle.arrangement_core.specs.declared.wanted.Wanted.TheVariants.{Whole, Fitting, Answer}

-- the value allows each extent
abbrev pub is_any : PatternValue → Bool
is_any Any = true
is_any NotEmpty = false
is_any (Exactly extent) = false

-- no mask asks for the entry
abbrev pub is_unasked : List Mask → Part → Part → Bool
is_unasked masks i j = list_all (λ mask. is_any (pick j (pick i mask.rows))) masks

-- a matrix with the greatest extent in each entry that no mask asks for
abbrev pub loose_entry : List Mask → Matrix → Part → Part → Extent
loose_entry masks m i j = if is_unasked masks i j then Area else entry m i j

abbrev pub loose_row : List Mask → Matrix → Part → Parts Extent
loose_row masks m i = record {
  interior = loose_entry masks m i Interior;
  boundary = loose_entry masks m i Boundary;
  exterior = loose_entry masks m i Exterior;
}

abbrev pub loosened : List Mask → Matrix → Matrix
loosened masks m = record {
  rows = record {
    interior = loose_row masks m Interior;
    boundary = loose_row masks m Boundary;
    exterior = loose_row masks m Exterior;
  };
}

-- an entry may have any extent: one that no mask asks for, where only the answer is wanted
abbrev pub is_free : Wanted → Part → Part → Bool
is_free Whole i j = false
is_free (Fitting q) i j = false
is_free (Answer q) i j = is_unasked q.masks.now i j

-- the matrix of no edges, with the greatest extent in each entry that may have any
abbrev pub start_of : Wanted → Matrix
start_of Whole = outside
start_of (Fitting q) = outside
start_of (Answer q) = loosened q.masks.now outside

-- two matrices have the same entries but where they may have any
abbrev pub Agree : Wanted → Matrix → Matrix → Type 0
Agree wanted m n = (i j : Part) → is_free wanted i j ≡ false → entry m i j ≡ entry n i j
