use Rattle.std.proofs.Common.{◌≡◌, ◌∙◌, ◌++◌, ◌∷◌, [], true, ap, arith, rules}
use Rattle.std.specs.Result.{is_ok}
use Rattle.std.proofs.lemmas.List.{append-nil}
use Rattle.file_core.specs.Batches.{all_rows}
use Rattle.file_core.proofs.parts.one_part.Goals as goal

pub returns : goal.returns
returns g c =
    let good : is_ok c.push-pushed.result ≡ true = search rules in
    let items = rw good at c.push-pushed.ensures.items in
    record {
      rows = ap all_rows (items ∙ ap (λ front. front ++ c.args.read ∷ []) c.new-rows.ensures.items) ∙ append-nil c.args.read.items;
      count = omega (arith, c.in-Ok.ensures);
    }
