-- Records as CSV.
use Rattle.std.specs.Prelude.{ℕ, List, [], ◌∷◌, ◌++◌}
use Rattle.std.specs.List.{flat_map}
use Rattle.csv.specs.Writing.{row_text, field_text, comma, default_writer}

-- records as CSV (RFC 4180, 2), with quotes where they are needed and line feeds
abbrev pub csv_text : List (List (List ℕ)) → List ℕ
csv_text rows = flat_map (row_text default_writer) rows

-- a field that another one follows, and the comma between them
abbrev pub leading_field : List ℕ → List ℕ
leading_field field = field_text default_writer field ++ comma ∷ []
