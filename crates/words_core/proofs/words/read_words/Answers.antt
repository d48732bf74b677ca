use Rattle.words_core.proofs.ReadingLemmas.{read_of_matches, read_of_error}
use Rattle.words_core.proofs.words.read_words.Goals as goal

pub returns-in-Ok : goal.returns-in-Ok
returns-in-Ok c =
    read_of_matches _ c.in_ok-program.program c.in-Ok.matches _ c.in_ok-program.ensures c.in-Ok.ensures.matches c.in-Ok.ensures.kinds (search) (search)

pub returns-in-Err : goal.returns-in-Err
returns-in-Err c = read_of_error _ c.in_ok-program.program c.in-Err.error _ c.in_ok-program.ensures c.in-Err.ensures.kinds (search) (search)
