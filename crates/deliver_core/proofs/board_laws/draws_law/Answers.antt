use Rattle.deliver_core.specs.Draws.{opened}
use Rattle.deliver_core.proofs.BoardLaws.{lawful, lawful_new, law_numbers, law_word, law_passed, law_bound}
use Rattle.deliver_core.proofs.board_laws.draws_law.Goals as goal

pub returns : goal.returns
returns c = record {
  numbers = λ tasks seats events. law_numbers tasks seats _ (lawful tasks seats events (opened seats) (lawful_new tasks seats));
  rising = λ tasks seats events. (lawful tasks seats events (opened seats) (lawful_new tasks seats)).rising;
  word = λ tasks seats events. law_word tasks seats _ (lawful tasks seats events (opened seats) (lawful_new tasks seats));
  passed = λ tasks seats events. law_passed tasks seats _ (lawful tasks seats events (opened seats) (lawful_new tasks seats));
  word_bound = λ tasks seats events. law_bound tasks seats _ (lawful tasks seats events (opened seats) (lawful_new tasks seats));
}
