use Rattle.std.proofs.Common.{◌≡◌, find, map, drop}
use Rattle.words_core.specs.Readings.{is_near}
use Rattle.words_core.proofs.hint.nearest.Given as goal

-- no name before the place is near
abbrev pub invariant-loop-name : goal.invariant-loop-name
invariant-loop-name l = find (is_near l.word) (map (λ n. n.now) (drop l.name-index l.names)) ≡ find (is_near l.word) (map (λ n. n.now) l.names)
