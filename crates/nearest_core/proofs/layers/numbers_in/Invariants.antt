use Rattle.std.proofs.Common.{◌≡◌, ◌++◌, map}
use Rattle.nearest_core.proofs.layers.numbers_in.Given as goal

-- the numbers so far are those of the features before
abbrev pub invariant-loop-feature : goal.invariant-loop-feature
invariant-loop-feature g l =
    l.numbers.items ++ map (λ f. f.number) l.feature-iterator ≡ map (λ f. f.number) l.initial.feature-iterator
