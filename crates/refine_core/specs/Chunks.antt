-- The chunks of a list of pairs.
use Rattle.std.specs.Prelude.{ℕ, ◌+◌, ◌*◌, ◌/◌, ◌<◌, List, length, take, drop}

-- the greatest number of chunks of a list
abbrev pub most_chunks : ℕ
most_chunks = 4096

-- the number of pairs in a chunk of a list of `len` pairs; the last chunk may have fewer
abbrev pub chunk_size : ℕ → ℕ
chunk_size len = len / most_chunks + 1

-- the chunk with this number, from 0
abbrev pub chunk_of : List (ℕ × ℕ) → ℕ → List (ℕ × ℕ)
chunk_of pairs number =
    take (chunk_size (length pairs)) (drop (number * chunk_size (length pairs)) pairs)

-- a list of `len` pairs has a chunk with this number
abbrev pub IsChunkNumber : ℕ → ℕ → Type 0
IsChunkNumber len number = number * chunk_size len < len
