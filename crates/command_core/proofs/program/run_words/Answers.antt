use Rattle.std.proofs.Common.{Err, map, refl, rules}
use Rattle.words_core.specs.declared.words.WordFault.TheVariants.{Memory}
use Rattle.command_core.proofs.WordLemmas.{map_of_items, words_done_as}
use Rattle.command_core.proofs.program.run_words.Goals as goal

pub returns-in-Ok : goal.returns-in-Ok
returns-in-Ok g c = words_done_as (map (λ word. word.now) c.deref.result.now) _ (search (rules, map_of_items)) (search rules)

pub returns-in-Err : goal.returns-in-Err
returns-in-Err g c = record { read = Err Memory; reading = λ known. absurd (known refl); done = (refl, search rules) }
