-- The rows of the list of features that meet a window.
use Rattle.std.proofs.Common.{◌≡◌, ℕ, List, [], ◌∷◌, ◌++◌, Vec, Global, Result, Ok, Err, OnOk, map, codes, sym, subst, append-nil, append_assoc}
use Rattle.std.proofs.lemmas.List.{map-append}
use Rattle.csv.specs.declared.writer.Writer.{Writer}
use Rattle.layer_core.specs.Layers.{Feature, Contents}
use Rattle.report_core.specs.CsvTexts.{csv_text}
use Rattle.run_core.specs.CsvWriting.{HasRows, AddsRow}
use Rattle.layer_run_core.specs.Windows.{MeetingIds, none, met, missed, IsMeetingList}

abbrev window_rows : List (List ℕ) → List (List (List ℕ))
window_rows ids = (codes "id" ∷ []) ∷ map (λ id. id ∷ []) ids

-- a writer has the header and these ids, behind which those of the features that are left make the list
pub record HasFront {G : Type 0} (MeetsIt : G → Type 0) (writer : Writer (Vec ℕ Global)) (left features : List (Feature G)) : Type 0 where
  pub ids : List (List ℕ)
  pub written : HasRows writer (window_rows ids)
  pub all : (later : List (List ℕ)) → MeetingIds MeetsIt left later → MeetingIds MeetsIt features (ids ++ later)

module _ {G : Type 0} (MeetsIt : G → Type 0) (old writer : Writer (Vec ℕ Global)) where
  pub header_written : (left features : List (Feature G)) → HasRows old [] → AddsRow old writer (codes "id" ∷ []) → left ≡ features
      → HasFront MeetsIt writer left features
  header_written left features empty more same = record {
    ids = [];
    written = more [] empty;
    all = λ later meeting. subst (λ (fs : List (Feature G)). MeetingIds MeetsIt fs later) same meeting;
  }

  -- a feature that meets the window gets a row
  id_written : (left left' features : List (Feature G)) (f : Feature G) (id : List ℕ) → HasFront MeetsIt old left features → left ≡ f ∷ left'
      → MeetsIt f.shape → id ≡ f.id → AddsRow old writer (id ∷ []) → HasFront MeetsIt writer left' features
  id_written left left' features f id front is meets same more = record {
    ids = front.ids ++ f.id ∷ [];
    written = subst (λ (rows : List (List (List ℕ))). HasRows writer ((codes "id" ∷ []) ∷ rows)) (sym (map-append (λ id. id ∷ []) front.ids (f.id ∷ [])))
        (subst (λ (s : List ℕ). AddsRow old writer (s ∷ [])) same more (window_rows front.ids) front.written);
    all = λ later meeting. rw (append_assoc front.ids (f.id ∷ []) later)
        (front.all (f.id ∷ later) (subst (λ (fs : List (Feature G)). MeetingIds MeetsIt fs (f.id ∷ later)) (sym is) (met meets meeting)));
  }

-- an id was pushed
pub id_pushed : {G : Type 0} (MeetsIt : G → Type 0) (old : Writer (Vec ℕ Global)) (left left' features : List (Feature G)) (f : Feature G) (id : List ℕ)
    → HasFront MeetsIt old left features → left ≡ f ∷ left' → MeetsIt f.shape → id ≡ f.id
    → {T E : Type 0} (r : Result T E) (x : T) (writer : Writer (Vec ℕ Global)) → OnOk r (AddsRow old writer (id ∷ [])) → r ≡ Ok x
    → HasFront MeetsIt writer left' features
id_pushed MeetsIt old left left' features f id front is meets same (Ok y) x writer more ok =
    id_written MeetsIt old writer left left' features f id front is meets same more
id_pushed MeetsIt old left left' features f id front is meets same (Err e) x writer more ok = absurd cc

module _ {G : Type 0} (MeetsIt : G → Type 0) (writer : Writer (Vec ℕ Global)) where
  -- and one that doesn't gets none
  pub none_written : (left left' features : List (Feature G)) (f : Feature G) → HasFront MeetsIt writer left features → left ≡ f ∷ left'
      → ¬ (MeetsIt f.shape) → HasFront MeetsIt writer left' features
  none_written left left' features f front is misses = record {
    ids = front.ids;
    written = front.written;
    all = λ later meeting. front.all later (subst (λ (fs : List (Feature G)). MeetingIds MeetsIt fs later) (sym is) (missed misses meeting));
  }

  -- no feature is left
  pub all_written : (layer : Contents G) (left : List (Feature G)) (text : List ℕ) → HasFront MeetsIt writer left layer.features → left ≡ []
      → ((rows : List (List (List ℕ))) → HasRows writer rows → text ≡ csv_text rows) → IsMeetingList MeetsIt layer text
  all_written layer left text front is kept = record {
    ids = front.ids;
    meeting = rw (sym (append-nil front.ids)) (front.all [] (subst (λ (fs : List (Feature G)). MeetingIds MeetsIt fs []) (sym is) none));
    written = kept (window_rows front.ids) front.written;
  }
