-- The visible state of a `ToWrite`.
use Rattle.std.specs.Prelude.{Bool, true, false}
use Rattle.report_core.specs.declared.to_write.State.{State}
use Rattle.report_core.specs.declared.to_write.State.TheVariants.{Open, Flushed, Failed}
use Rattle.report_core.specs.declared.to_write.ToWrite.{ToWrite}

abbrev pub is_flushed : State → Bool
is_flushed Open = false
is_flushed Flushed = true
is_flushed Failed = false

abbrev pub is_failed : State → Bool
is_failed Open = false
is_failed Flushed = false
is_failed Failed = true

abbrev pub writer_of : {W : Type 0} → ToWrite W → W
writer_of s = s.writer

abbrev pub failed_of : {W : Type 0} → ToWrite W → Bool
failed_of s = is_failed s.state
