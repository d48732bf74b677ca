-- A fact on one input of a run.
use Rattle.std.specs.Prelude.{◌≡◌}
use Rattle.run_core.specs.declared.fault.Input.{Input}

-- the input is this one, and the fact holds
abbrev pub OnlyAt : Input → Type 0 → Input → Type 0
OnlyAt this Holds input = (input ≡ this) × Holds
