-- A line that is composed of pieces.
use Rattle.std.proofs.Common.{◌≡◌, ℕ, Bool, List, [], ◌∷◌, ◌++◌, Option, Result, OnOk, OnErr, ap, map, subst, append_assoc, codes, ◌∙◌}
use Rattle.std.specs.Io.KnownBytes.{Appends}
use Rattle.report_core.specs.Written.{AppendsPrefix}
use Rattle.run_core.specs.Lines.{line_of}
use Rattle.command_core.specs.Endings.{WordsAreDone}
use Rattle.command_core.specs.Opening.{Files}
use Rattle.command_core.specs.Storing.{Stored}
use Rattle.words_core.specs.Readings.{ReadAs}

-- a line that starts with the program's name, followed by one text
pub one_piece : (begun line text : List ℕ) → begun ≡ codes "rjoin: " → line ≡ begun ++ text → line ++ 10 ∷ [] ≡ line_of text
one_piece begun line text named pushed =
    ap (λ l. l ++ 10 ∷ []) (pushed ∙ ap (λ b. b ++ text) named) ∙ append_assoc (codes "rjoin: ") text (10 ∷ [])

-- the same with two texts
pub two_pieces : (begun mid line a b : List ℕ) → begun ≡ codes "rjoin: " → mid ≡ begun ++ a → line ≡ mid ++ b → line ++ 10 ∷ [] ≡ line_of (a ++ b)
two_pieces begun mid line a b named first second =
    one_piece begun line (a ++ b) named (second ∙ ap (λ l. l ++ b) first ∙ append_assoc begun a b)

-- the text written, in another form
pub ok_as : {T E : Type 0} (r : Result T E) (old new : Option (List ℕ)) (a b : List ℕ) → a ≡ b → OnOk r (Appends old new a) → OnOk r (Appends old new b)
ok_as r old new a b e h = subst (λ (l : List ℕ). OnOk r (Appends old new l)) e h

pub err_as : {T E : Type 0} (r : Result T E) (old new : Option (List ℕ)) (a b : List ℕ) → a ≡ b → OnErr r (AppendsPrefix old new a)
    → OnErr r (AppendsPrefix old new b)
err_as r old new a b e h = subst (λ (l : List ℕ). OnErr r (AppendsPrefix old new l)) e h

-- the images of a list's items, given as a slice
pub map_of_items : {A B : Type 0} (f : A → B) (slice items : List A) (made : List B) → slice ≡ items → map f items ≡ made → map f slice ≡ made
map_of_items f slice items made same is = ap (map f) same ∙ is

-- words that are done, given equal words
pub words_done_as : {O E : Type 0} {known : Option Files} {stored stored' : Stored} {written : O → Option (List ℕ)} {is_flushed has_failed : O → Bool} {output output' : O}
    {told : E → Option (List ℕ)} {has_failed' : E → Bool} {errors errors' : E} {status : ℕ} (old new : List (List ℕ)) → old ≡ new
    → WordsAreDone old known stored stored' written is_flushed has_failed output output' told has_failed' errors errors' status
    → WordsAreDone new known stored stored' written is_flushed has_failed output output' told has_failed' errors errors' status
words_done_as old new same done = record { read = done.read; reading = subst (λ (ws : List (List ℕ)). ReadAs ws done.read) same done.reading; done = done.done }
