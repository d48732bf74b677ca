-- Looking up letters.
use Rattle.std.proofs.Common.{◌≡◌, ℕ, List, Option, Some, None, IsSomeAnd, slice_index_or, refl, subst, sym}
use Rattle.std.specs.Prelude.{slice_get}
use Rattle.std.proofs.lemmas.Option.{get_or_from_slice_get}
use Rattle.relation_core.specs.declared.letters.NineLetters.{NineLetters}
use Rattle.relation_core.specs.declared.letters.LetterRow.{LetterRow}
use Rattle.relation_core.specs.declared.meeting.Meeting.{Meeting}
use Rattle.geom_core.specs.declared.shape.Shape.{Shape}
use Rattle.relation_core.specs.Axes.{matrix_by}
use Rattle.relation_core.specs.Letters.{AreLetters, AreColumns, IsLetterRow, IsLetterTable, place_of}
use Rattle.relation_core.specs.Matrices.{letters_of}
use Rattle.relation_core.specs.Meetings.{IsMeeting}
use Rattle.relation_core.proofs.PartLemmas.{matrix_holds}

-- a fact of an element is a fact of it as it is read
read : {A : Type 0} (P : A → Type 0) (xs : List A) (i j : ℕ) (d : A) → i ≡ j → IsSomeAnd (slice_get xs j) P → P (slice_index_or xs i d)
read {A} P xs i j d same held = subst (λ k. P (slice_index_or xs k d)) (sym same) (there (slice_get xs j) refl held)
  where
    there : (o : Option A) → slice_get xs j ≡ o → IsSomeAnd o P → P (slice_index_or xs j d)
    there None e held = absurd held
    there (Some x) e held = subst P (sym (get_or_from_slice_get xs j x d e)) held

-- the letters of two shapes are at the indexes of their meetings
pub looked_up : (a b : Shape) (rows : List LetterRow) (x y : Meeting) (i j : ℕ) (d : LetterRow) (e : NineLetters)
    → IsMeeting x a.x b.x → IsMeeting y a.y b.y → IsLetterTable rows → i ≡ place_of x → j ≡ place_of y
    → AreLetters a b (slice_index_or (slice_index_or rows i d).columns j e).letters
looked_up a b rows x y i j d e along_x along_y table at_x at_y =
    let row : IsLetterRow x (slice_index_or rows i d) = read (IsLetterRow x) rows i (place_of x) d at_x (table x) in
    record {
      matrix = matrix_by x y;
      is = matrix_holds a b x y along_x along_y;
      written = read (λ (c : NineLetters). c.letters ≡ letters_of (matrix_by x y)) (slice_index_or rows i d).columns j (place_of y) e at_y (row.columns y);
    }

pub row_is : (x : Meeting) (row : LetterRow) → AreColumns x row.columns → IsLetterRow x row
row_is x row columns = record { columns = columns }
