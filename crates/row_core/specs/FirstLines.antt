-- How the first line of a file is told: its beginning, in printable ASCII.
use Rattle.std.specs.Prelude.{◌==◌, ◌&&◌, ◌||◌, ℕ, Bool, List, if◌then◌else◌, nat_le, take}
use Rattle.std.specs.Str.{IsAscii}

-- the greatest number of bytes of a first line that are told
abbrev pub most_told : ℕ
most_told = 64

-- a line feed or a carriage return
abbrev pub is_line_end : ℕ → Bool
is_line_end b = b == 10 || b == 13

-- a byte as it is told: itself if it is printable ASCII, otherwise a question mark
abbrev pub shown : ℕ → ℕ
shown b = if nat_le 32 b && nat_le b 126 then b else 63

-- this many bytes at the front are ASCII
abbrev pub AreShown : ℕ → List ℕ → Type 0
AreShown len bytes = IsAscii (take len bytes)
