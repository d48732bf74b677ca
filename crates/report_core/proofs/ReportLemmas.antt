-- The rows of a report.
use Rattle.std.proofs.Common.{◌≡◌, ℕ, List, [], ◌∷◌, ◌++◌, Bool, false, ◌||◌, Option, Some, None, IsSome, IsSomeAnd, Result, Ok, Err, OnOk, sym}
use Rattle.std.proofs.Common.{codes, ap, subst, ◌∙◌, refl, ◌+◌, ◌-◌, ◌<◌, length, length-append, get_or, map, take, append_assoc, All, arith}
use Rattle.std.specs.Prelude.{is_some}
use Rattle.std.specs.Borrow.{Bor}
use Rattle.std.specs.Option.{option_map}
use Rattle.geom_core.specs.declared.shape.Shape.{Shape}
use Rattle.relation_core.specs.declared.extent.Extent.{Extent}
use Rattle.relation_core.specs.declared.extent.Extent.TheVariants.{Empty, Point, Line, Area}
use Rattle.relation_core.specs.declared.matrix.Matrix.{Matrix}
use Rattle.relation_core.specs.Letters.{AreLetters}
use Rattle.relation_core.specs.Matrices.{IsMatrix, letter_of, letters_of}
use Rattle.layer_core.specs.Layers.{Feature, Contents, ShapeIs, with_number}
use Rattle.csv.specs.Machine.{line_feed}
use Rattle.csv.specs.Writing.{comma, field_text, fields_text, is_blank, row_body, row_text, needs_byte, needs_quotes, default_writer}
use Rattle.report_core.specs.Columns.{id_in, field_for}
use Rattle.report_core.specs.CsvTexts.{csv_text, leading_field}
use Rattle.report_core.specs.LastFields.{AddsField, AddsLast}
use Rattle.report_core.specs.ReportRows.{AreRows, AddsRows, IsRowOf, header_line, name_in, right_part}
use Rattle.report_core.specs.Reports.{AreLettersBy, AreMore, HasLetters, IsRow, IsReportBy, header}
use Rattle.report_core.specs.Written.{joined}
use Rattle.std.specs.Global.{Global}
use Rattle.std.specs.declared.vec.Vec.{Vec}
use Rattle.std.specs.List.{AllZip}
use Rattle.std.proofs.lemmas.List.{append-nil, take_all, take_more, take-append-le, flat_map_more}
use Rattle.std.proofs.lemmas.Slice.Zip.{all_zipped_more}

-- no letter needs quotes
letter_plain : (e : Extent) → needs_byte default_writer (letter_of e) ≡ false
letter_plain Empty = refl
letter_plain Point = refl
letter_plain Line = refl
letter_plain Area = refl

either : (a b : Bool) → a ≡ false → b ≡ false → (a || b) ≡ false
either a b p q = rw p q

letters_plain : (m : Matrix) → needs_quotes default_writer (letters_of m) ≡ false
letters_plain m =
    either _ _ (letter_plain m.rows.interior.interior) (either _ _ (letter_plain m.rows.interior.boundary) (either _ _ (letter_plain m.rows.interior.exterior)
    (either _ _ (letter_plain m.rows.boundary.interior) (either _ _ (letter_plain m.rows.boundary.boundary) (either _ _ (letter_plain m.rows.boundary.exterior)
    (either _ _ (letter_plain m.rows.exterior.interior) (either _ _ (letter_plain m.rows.exterior.boundary)
    (either _ _ (letter_plain m.rows.exterior.exterior) refl))))))))

letters_field : (m : Matrix) → field_text default_writer (letters_of m) ≡ letters_of m
letters_field m = let plain : needs_quotes default_writer (letters_of m) ≡ false = letters_plain m in rw plain refl

appended : (a b c end : List ℕ)
    → (a ++ comma ∷ (b ++ comma ∷ (c ++ []))) ++ end ≡ (a ++ comma ∷ []) ++ ((b ++ comma ∷ []) ++ ((c ++ []) ++ end))
appended a b c end = simp append_assoc refl

two_appended : (a b end : List ℕ) → (a ++ comma ∷ (b ++ [])) ++ end ≡ (a ++ comma ∷ []) ++ (b ++ end)
two_appended a b end = simp append_assoc refl

-- a text without its last byte
without_last : (text : List ℕ) (last : ℕ) → take (length (text ++ last ∷ []) - 1) (text ++ last ∷ []) ≡ text
without_last text last =
    let len : length (text ++ last ∷ []) - 1 ≡ length text = (let l = length-append text (last ∷ []) in omega arith) in
    ap (λ n. take n (text ++ last ∷ [])) len ∙ take-append-le (length text) text (last ∷ []) (omega arith) ∙ take_all (length text) text (omega arith)

-- the line of a record: the two ids with what follows them, and the fields after them as they are written
abbrev pub line_of : List ℕ → List ℕ → List ℕ → List ℕ
line_of first second third = first ++ (second ++ (third ++ line_feed ∷ []))

-- the record of two ids is their line, in which no comma follows the second
pair_line : (first second : List ℕ)
    → row_text default_writer (first ∷ second ∷ []) ≡ line_of (leading_field first) (right_part false (leading_field second)) []
unfolding fields_text is_blank
pair_line first second =
    two_appended (field_text default_writer first) (field_text default_writer second) (line_feed ∷ [])
    ∙ ap (λ b. leading_field first ++ (b ++ line_feed ∷ [])) (sym (without_last (field_text default_writer second) comma))

-- the record of two ids and a field is their line
field_line : (first second third : List ℕ)
    → row_text default_writer (first ∷ second ∷ third ∷ []) ≡ line_of (leading_field first) (leading_field second) (row_body default_writer (third ∷ []))
unfolding fields_text is_blank
field_line first second third =
    appended (field_text default_writer first) (field_text default_writer second) (field_text default_writer third) (line_feed ∷ [])

-- the record of two ids and the fields after them
row_line : {G : Type 0} (name : Option (List ℕ)) (is_field : G → G → List ℕ → Type 0) (g h : G) (more : List (List ℕ))
    → AreMore name is_field g h more → (first second : List ℕ)
    → row_text default_writer (first ∷ second ∷ more)
    ≡ line_of (leading_field first) (right_part (is_some name) (leading_field second)) (row_body default_writer more)
row_line None is_field g h more none first second =
    subst (λ (m : List (List ℕ)). row_text default_writer (first ∷ second ∷ m)
    ≡ line_of (leading_field first) (right_part false (leading_field second)) (row_body default_writer m)) (sym none) (pair_line first second)
row_line (Some name) is_field g h more (field, is, same) first second =
    subst (λ (m : List (List ℕ)). row_text default_writer (first ∷ second ∷ m)
    ≡ line_of (leading_field first) (leading_field second) (row_body default_writer m)) (sym same) (field_line first second field)

none_held : (T : Type 0) → IsSome {T = T} None → ⊥
none_held T held = cc

feature_of : {G : Type 0} (o : Option (Feature G)) → IsSome o → (f : Feature G) × (o ≡ Some f)
feature_of {G} None held = absurd (none_held (Feature G) held)
feature_of (Some f) held = (f, refl)

-- the fields after the ids were added: the last one, or none
record AddsMore {G : Type 0} (name : Option (List ℕ)) (is_field : G → G → List ℕ → Type 0) (left right : Contents G) (pair : ℕ × ℕ)
    (old new : List ℕ) : Type 0 where
  first : Feature G
  second : Feature G
  more : List (List ℕ)
  first_held : with_number pair.0 left ≡ Some first
  second_held : with_number pair.1 right ≡ Some second
  correct : AreMore name is_field first.shape second.shape more
  added : new ≡ old ++ row_body default_writer more

more_added : {G : Type 0} (name : Option (List ℕ)) (is_field : G → G → List ℕ → Type 0) (left right : Contents G) (pair : ℕ × ℕ) (old new : List ℕ)
    → AddsLast name is_field left right pair old new → AddsMore name is_field left right pair old new
unfolding fields_text
more_added None is_field left right pair old new (held, same) =
    let first = feature_of (with_number pair.0 left) held.0 in
    let second = feature_of (with_number pair.1 right) held.1 in
    record {
      first = first.0;
      second = second.0;
      more = [];
      first_held = first.1;
      second_held = second.1;
      correct = refl;
      added = same ∙ sym (append-nil old);
    }
more_added (Some name) is_field left right pair old new adds = record {
  first = adds.first;
  second = adds.second;
  more = adds.field ∷ [];
  first_held = adds.first_held;
  second_held = adds.second_held;
  correct = (adds.field, adds.correct, refl);
  added = adds.added ∙ ap (λ t. old ++ t) (sym (append-nil (field_text default_writer adds.field)));
}

-- the feature whose shape was found
pub record HasShape {G : Type 0} (o : Option (Feature G)) (shape : G) : Type 0 where
  pub feature : Feature G
  pub held : o ≡ Some feature
  pub its_shape : shape ≡ feature.shape

pub shape_held : {G : Type 0} (o : Option (Feature G)) (answer : Option (Bor G)) (shape : Bor G) → ShapeIs answer o → answer ≡ Some shape
    → HasShape o shape.now
shape_held None None shape is e = absurd cc
shape_held None (Some other) shape is e = absurd (let bad : Some other.now ≡ None = is in cc)
shape_held (Some feature) None shape is e = absurd cc
shape_held (Some feature) (Some other) shape is e = record {
  feature = feature;
  held = refl;
  its_shape = let some : Some other.now ≡ Some feature.shape = is in cc;
}

-- the letters of two shapes are those of the features that have them
pub box_letters : (left right : Contents Shape) (pair : ℕ × ℕ) (s t : Shape) (letters : List ℕ) → HasShape (with_number pair.0 left) s
    → HasShape (with_number pair.1 right) t → AreLetters s t letters → HasLetters IsMatrix left right pair letters
box_letters left right pair s t letters f g are = record {
  matrix = are.matrix;
  has_matrix = record {
    first = f.feature;
    second = g.feature;
    first_held = f.held;
    second_held = g.held;
    related = subst (λ (a : Shape). IsMatrix a g.feature.shape are.matrix) f.its_shape (subst (λ (b : Shape). IsMatrix s b are.matrix) g.its_shape are.is);
  };
  written = are.written;
}

-- the letters of a matrix are a field, which needs no quotes
pub letters_added : {G T E : Type 0} (is_matrix : G → G → Matrix → Type 0) (left right : Contents G) (pair : ℕ × ℕ) (letters old new : List ℕ)
    (out : Result T E) → HasLetters is_matrix left right pair letters → OnOk out (new ≡ old ++ letters)
    → OnOk out (AddsField (AreLettersBy is_matrix) left right pair old new)
letters_added is_matrix left right pair letters old new (Err e) has grown = tt
letters_added is_matrix left right pair letters old new (Ok x) has grown = record {
  first = has.has_matrix.first;
  second = has.has_matrix.second;
  field = letters_of has.matrix;
  first_held = has.has_matrix.first_held;
  second_held = has.has_matrix.second_held;
  correct = (has.matrix, has.has_matrix.related, refl);
  added = grown ∙ ap (λ t. old ++ t) (has.written ∙ sym (letters_field has.matrix));
}

-- the consequence of a result for the field in it
pub field_in : (answer : Option (Bor (List ℕ))) (field : Bor (List ℕ)) (wanted : List ℕ) → IsSomeAnd answer (λ f. f.now ≡ wanted) → answer ≡ Some field
    → field.now ≡ wanted
field_in None field wanted is e = absurd (let bad : None ≡ Some field = e in cc)
field_in (Some f) field wanted is e = let same : f ≡ field = cc in subst (λ (g : Bor (List ℕ)). g.now ≡ wanted) same is

pub has_field : (answer : Option (Bor (List ℕ))) (P : Bor (List ℕ) → Type 0) → IsSomeAnd answer P → IsSome answer
has_field None P is = absurd is
has_field (Some f) P is = refl

-- a fact of all items is one of the item at an index
pub at_item : {A : Type 0} (P : A → Type 0) (items : List A) (i : ℕ) (item : A) → All P items → i < length items
    → item ≡ get_or items i item → P item
at_item P items i item all within at = subst P (sym at) (all i item within)

-- a number of the item at an index is covered if those of all items are
pub number_within : {A : Type 0} (number_of : A → ℕ) (items : List A) (i n : ℕ) (item : A) (number : ℕ)
    → All (λ a. number_of a + 1 < n) items → i < length items → item ≡ get_or items i item → number ≡ number_of item
    → number + 1 < n
number_within {A} number_of items i n item number all within at same =
    subst (λ (k : ℕ). k + 1 < n) (sym same) (at_item (λ (a : A). number_of a + 1 < n) items i item all within at)

-- no records were added yet
pub none_added : {A : Type 0} (R : A → List (List ℕ) → Type 0) (old new : List ℕ) → new ≡ old
    → AddsRows R [] old new
none_added R old new same = record {
  text = [];
  are_rows = record { rows = []; are_rows = tt; written = refl };
  added = same ∙ sym (append-nil old);
}

-- a record was added for one item more
pub row_added : {A : Type 0} (R : A → List (List ℕ) → Type 0) (old mid new : List ℕ) (items : List A)
    (i : ℕ) (item : A) (row : List (List ℕ)) → i < length items → item ≡ get_or items i item
    → AddsRows R (take i items) old mid → R item row → new ≡ mid ++ row_text default_writer row
    → AddsRows R (take (i + 1) items) old new
row_added {A} R old mid new items i item row within at so_far is_row grown = record {
  text = so_far.text ++ row_text default_writer row;
  are_rows = record {
    rows = so_far.are_rows.rows ++ row ∷ [];
    are_rows = subst (λ (l : List A). AllZip R l (so_far.are_rows.rows ++ row ∷ []))
        (ap (λ p. take i items ++ p ∷ []) at ∙ sym (take_more items i item within))
        (all_zipped_more R (take i items) so_far.are_rows.rows item row so_far.are_rows.are_rows is_row);
    written = ap (λ t. t ++ row_text default_writer row) so_far.are_rows.written ∙ flat_map_more (row_text default_writer) [] so_far.are_rows.rows row;
  };
  added = grown ∙ ap (λ t. t ++ row_text default_writer row) so_far.added ∙ append_assoc old so_far.text (row_text default_writer row);
}

-- the parts of a record that were added in turn
line_added : (old a b new first second third : List ℕ) → a ≡ old ++ (first ++ second) → b ≡ a ++ third → new ≡ b ++ line_feed ∷ []
    → new ≡ old ++ line_of first second third
line_added old a b new first second third p q r =
    r ∙ ap (λ x. x ++ line_feed ∷ []) (q ∙ ap (λ x. x ++ third) p) ∙ simp append_assoc refl

module _ {G A : Type 0} (pair_of : A → ℕ × ℕ) (name : Option (List ℕ)) (is_field : G → G → List ℕ → Type 0) (left right : Contents G) where
  -- the row of a pair whose fields after the ids were added
  row_of : (pair : ℕ × ℕ) (old new : List ℕ) → AddsMore name is_field left right pair old new → List (List ℕ)
  row_of pair old new adds = adds.first.id ∷ adds.second.id ∷ adds.more

  is_row_of : (pair : ℕ × ℕ) (old new : List ℕ) (adds : AddsMore name is_field left right pair old new)
      → IsRow name is_field left right pair (row_of pair old new adds)
  unfolding row_of
  is_row_of pair old new adds = record {
    first = adds.first;
    second = adds.second;
    more = adds.more;
    first_held = adds.first_held;
    second_held = adds.second_held;
    correct = adds.correct;
    fields = refl;
  }

  -- the line of the fields is its record
  line_is : (pair : ℕ × ℕ) (old new x y : List ℕ) (adds : AddsMore name is_field left right pair old new)
      → x ≡ field_for (id_in left pair.0) → y ≡ field_for (id_in right pair.1)
      → line_of x (right_part (is_some name) y) (row_body default_writer adds.more) ≡ row_text default_writer (row_of pair old new adds)
  unfolding row_of
  line_is pair old new x y adds first second =
      let f = adds.first in
      let g = adds.second in
      let part = right_part (is_some name) in
      let rest = row_body default_writer adds.more in
      ap (λ a. line_of a (part y) rest) (first ∙ ap (λ o. field_for (option_map (λ f. f.id) o)) adds.first_held)
      ∙ ap (λ b. line_of (leading_field f.id) (part b) rest) (second ∙ ap (λ o. field_for (option_map (λ f. f.id) o)) adds.second_held)
      ∙ sym (row_line name is_field f.shape g.shape adds.more adds.correct f.id g.id)

  -- the record of one match more is added, part by part
  pub match_added : (old mid ids fields new : List ℕ) (matches : List A) (i : ℕ) (a : A) (pair : ℕ × ℕ) (x y : List ℕ) (is_followed : Bool)
      → i < length matches → a ≡ get_or matches i a → pair ≡ pair_of a
      → AddsRows (IsRowOf pair_of name is_field left right) (take i matches) old mid
      → x ≡ field_for (id_in left pair.0) → y ≡ field_for (id_in right pair.1) → is_followed ≡ is_some name
      → ids ≡ mid ++ (x ++ right_part is_followed y) → AddsLast name is_field left right (pair_of a) ids fields → new ≡ fields ++ line_feed ∷ []
      → AddsRows (IsRowOf pair_of name is_field left right) (take (i + 1) matches) old new
  match_added old mid ids fields new matches i a pair x y is_followed within at same so_far first second followed begun last ended =
      let adds = more_added name is_field left right (pair_of a) ids fields last in
      row_added (IsRowOf pair_of name is_field left right) old mid new matches i a
      (row_of (pair_of a) ids fields adds) within at so_far
      (is_row_of (pair_of a) ids fields adds)
      (line_added mid ids fields new x (right_part (is_some name) y) (row_body default_writer adds.more)
      (subst (λ (b : Bool). ids ≡ mid ++ (x ++ right_part b y)) followed begun) adds.added ended
      ∙ ap (λ t. mid ++ t) (line_is (pair_of a) ids fields x y adds
      (subst (λ (p : ℕ × ℕ). x ≡ field_for (id_in left p.0)) same first)
      (subst (λ (p : ℕ × ℕ). y ≡ field_for (id_in right p.1)) same second)))

-- records that were added to nothing
pub rows_alone : {A : Type 0} (R : A → List (List ℕ) → Type 0) (old text : List ℕ) (items : List A) → old ≡ []
    → AddsRows R items old text → AreRows R items text
rows_alone R old text items none adds =
    subst (AreRows R items) (sym (adds.added ∙ ap (λ t. t ++ adds.text) none)) adds.are_rows

-- a report has a last column if the column has a name
pub has_column : (given : Option (Bor (List ℕ))) (name : Option (List ℕ)) (is_followed : Bool) → is_followed ≡ is_some given
    → name_in given ≡ name → is_followed ≡ is_some name
has_column None name is_followed is same = is ∙ ap is_some same
has_column (Some given) name is_followed is same = is ∙ ap is_some same

-- the header of ids alone, added to nothing
pub pair_header_made : (old new : List ℕ) → old ≡ [] → new ≡ old ++ codes "left,right\n" → new ≡ header_line None
unfolding fields_text is_blank
pair_header_made old new none added = added ∙ ap (λ t. t ++ codes "left,right\n") none

-- the header, added to nothing
pub header_made : (name old a b new : List ℕ) → old ≡ [] → a ≡ old ++ codes "left,right," → b ≡ a ++ field_text default_writer name
    → new ≡ b ++ line_feed ∷ [] → new ≡ header_line (Some name)
unfolding fields_text is_blank
header_made name old a b new none begun named ended =
    ended ∙ ap (λ t. t ++ line_feed ∷ []) (named ∙ ap (λ t. t ++ field_text default_writer name) (begun ∙ ap (λ t. t ++ codes "left,right,") none))
    ∙ simp append_assoc refl

-- the text of a first record, and then that of others
headed : (first rest : List ℕ) → (first ++ []) ++ rest ≡ first ++ rest
headed first rest = ap (λ t. t ++ rest) (append-nil first)

-- the rows of matches are those of their pairs
rows_of_pairs : {A : Type 0} (pair_of : A → ℕ × ℕ) (R : ℕ × ℕ → List (List ℕ) → Type 0) (matches : List A)
    (rows : List (List (List ℕ))) → AllZip (λ a. R (pair_of a)) matches rows → AllZip R (map pair_of matches) rows
rows_of_pairs pair_of R [] [] all = all
rows_of_pairs pair_of R [] (row ∷ rows) all = absurd all
rows_of_pairs pair_of R (a ∷ matches) [] all = absurd all
rows_of_pairs pair_of R (a ∷ matches) (row ∷ rows) all = (all.0, rows_of_pairs pair_of R matches rows all.1)

module _ {G A : Type 0} (pair_of : A → ℕ × ℕ) (name : Option (List ℕ)) (is_field : G → G → List ℕ → Type 0) (left right : Contents G) (matches : List A) where
  -- the header, and the records that were added to it
  pub report_written : (old new text : List ℕ) → old ≡ header_line name
      → AddsRows (IsRowOf pair_of name is_field left right) matches old new → text ≡ new
      → IsReportBy name is_field left right (map pair_of matches) text
  report_written old new text same adds is = record {
    rows = adds.are_rows.rows;
    are_rows = rows_of_pairs pair_of (IsRow name is_field left right) matches adds.are_rows.rows adds.are_rows.are_rows;
    written = is ∙ adds.added ∙ ap (λ t. t ++ adds.text) same ∙ ap (λ t. header_line name ++ t) adds.are_rows.written
        ∙ headed (row_text default_writer (header name)) (csv_text adds.are_rows.rows);
  }

  -- a report that was added to no text
  pub report_pushed : (old new : List (Vec ℕ Global)) → old ≡ []
      → AddsRows (IsRowOf pair_of name is_field left right) matches (joined old ++ header_line name) (joined new)
      → IsReportBy name is_field left right (map pair_of matches) (joined new)
  report_pushed old new none adds =
      report_written (joined old ++ header_line name) (joined new) (joined new) (ap (λ ts. joined ts ++ header_line name) none) adds refl

-- a report that is the only text
pub report_alone : {G : Type 0} (name : Option (List ℕ)) (is_field : G → G → List ℕ → Type 0) (old new : List (Vec ℕ Global)) (text : Vec ℕ Global) (left right : Contents G)
    (pairs : List (ℕ × ℕ)) → old ≡ [] → new ≡ old ++ text ∷ []
    → IsReportBy name is_field left right pairs text.items → IsReportBy name is_field left right pairs (joined new)
report_alone name is_field old new text left right pairs none grown is =
    subst (IsReportBy name is_field left right pairs) (sym (ap joined (grown ∙ ap (λ ts. ts ++ text ∷ []) none) ∙ append-nil text.items)) is
