-- The features of a layer that meet a window.
use Rattle.std.specs.Prelude.{◌≡◌, ℕ, List, [], ◌∷◌, codes, map}
use Rattle.geom_core.specs.declared.shape.Shape.{Shape}
use Rattle.geom_core.specs.Cells.{Meets}
use Rattle.layer_core.specs.Layers.{Feature, Contents}
use Rattle.report_core.specs.CsvTexts.{csv_text}

-- the ids of the features whose geometries meet a window, in the order of the features
pub data MeetingIds {G : Type 0} (MeetsIt : G → Type 0)
    : List (Feature G) → List (List ℕ) → Type 0 where
  none : MeetingIds MeetsIt [] []
  met : {f : Feature G} {features : List (Feature G)} {ids : List (List ℕ)} →
      MeetsIt f.shape →
      MeetingIds MeetsIt features ids →
      MeetingIds MeetsIt (f ∷ features) (f.id ∷ ids)
  missed : {f : Feature G} {features : List (Feature G)} {ids : List (List ℕ)} →
      ¬ (MeetsIt f.shape) →
      MeetingIds MeetsIt features ids →
      MeetingIds MeetsIt (f ∷ features) ids

-- the record `id`, and one record for each id in order
pub record IsMeetingList {G : Type 0} (MeetsIt : G → Type 0) (layer : Contents G) (text : List ℕ)
    : Type 0 where
  pub ids : List (List ℕ)
  pub meeting : MeetingIds MeetsIt layer.features ids
  pub written : text ≡ csv_text ((codes "id" ∷ []) ∷ map (λ id. id ∷ []) ids)

-- that list of a window that is a box
abbrev pub IsWindowList : Shape → Contents Shape → List ℕ → Type 0
IsWindowList window = IsMeetingList (λ s. Meets s window)
