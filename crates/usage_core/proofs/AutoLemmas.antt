-- Whether `--workers` is given `auto`, word for word.
use Rattle.std.proofs.Common.{◌≡◌, ◌<◌, ◌≤◌, ◌+◌, ℕ, Bool, Bor, true, false, List, ◌∷◌, add-one, drop, get_or, length, map, refl}
use Rattle.std.specs.Prelude.{codes, if◌then◌else◌}
use Rattle.std.specs.Str.{bytes_eq}
use Rattle.std.proofs.Math.Seq.{drop-cons}
use Rattle.std.proofs.lemmas.List.{at_drop_all}
use Rattle.clap.specs.Words.{Text}
use Rattle.usage_core.specs.Usage.{auto_follows, has_auto}

-- the words from the i-th one on
abbrev pub words_left : List (Bor Text) → ℕ → List Text
words_left words i = map (λ word. word.now) (drop i words)

module _ (words : List (Bor Text)) (i : ℕ) (d : Bor Text) (is_named : Bool) (within : i < length words) where
  abbrev pub word : Text
  word = (get_or words i d).now

  by_next : has_auto is_named (words_left words i)
      ≡ (if bytes_eq word (codes "--") then false else (if auto_follows is_named word then true
      else has_auto (bytes_eq word (codes "--workers")) (words_left words (i + 1))))
  unfolding has_auto
  by_next =
      let left : drop i words ≡ get_or words i d ∷ drop (i + 1) words = rw add-one (drop-cons words i d within) in
      rw left refl

  pub auto_ends : bytes_eq word (codes "--") ≡ true → has_auto is_named (words_left words i) ≡ false
  auto_ends ends = rw (by_next, ends) refl

  pub auto_found : bytes_eq word (codes "--") ≡ false → auto_follows is_named word ≡ true → has_auto is_named (words_left words i) ≡ true
  auto_found goes_on follows = rw (by_next, goes_on, follows) refl

  pub auto_later : bytes_eq word (codes "--") ≡ false → auto_follows is_named word ≡ false
      → has_auto is_named (words_left words i) ≡ has_auto (bytes_eq word (codes "--workers")) (words_left words (i + 1))
  auto_later goes_on follows = rw (by_next, goes_on, follows) refl

-- no word is left
pub auto_none : (words : List (Bor Text)) (i : ℕ) (is_named : Bool) → length words ≤ i → has_auto is_named (words_left words i) ≡ false
unfolding has_auto
auto_none words i is_named past = at_drop_all (λ left. has_auto is_named (map (λ word. word.now) left)) words i past
