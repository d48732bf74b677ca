-- A text of a geometry says one thing, in one form.
use Rattle.std.proofs.Common.{◌≡◌, ℕ, Bool, true, false, List, [], ◌∷◌, inl, inr, ⊎_elim, get_or, drop, map, Result, Ok, Err, refl, sym, ◌∙◌, ap, subst, ◌+◌, ◌*◌, ◌<◌, arith}
use Rattle.std.specs.Prelude.{◌==◌, Option, Some, None, IfNone, codes}
use Rattle.std.specs.Borrow.{Bor}
use Rattle.std.specs.Char.{to_ascii_lowercase}
use Rattle.std.proofs.lemmas.Bool.Decides.{nat_tests}
use Rattle.plane_core.specs.Figures.{Figure}
use Rattle.plane_core.specs.declared.rings.Rings.{Rings}
use Rattle.number_core.specs.declared.scale.Scale.{Scale}
use Rattle.number_core.specs.NumberSteps.{after_digits}
use Rattle.wkt_core.specs.declared.keyword.Keyword.{Keyword}
use Rattle.wkt_core.specs.declared.keyword.Keyword.TheVariants.{Point, LineString, Polygon}
use Rattle.wkt_core.specs.declared.position.Position.{Position}
use Rattle.wkt_core.specs.Grammar.{spelling as word}
use Rattle.wkt_core.specs.TokenSteps.{skip, TakesLetters, symbol_at, rest_view}
use Rattle.wkt_core.proofs.TextLemmas.{apart, letters_rest}
use Rattle.wkt_any_core.specs.declared.fault.GeometryFault.{GeometryFault}
use Rattle.wkt_any_core.specs.declared.fault.GeometryFault.TheVariants.{Text, Number, Form, Rings as RingFault}
use Rattle.wkt_any_core.specs.Readings.{ReadsBy, Saying}
use Rattle.wkt_any_core.specs.Spelling.{ArePlaced, SaysText}
use Rattle.wkt_any_core.specs.Steps.{TakesKind}
use Rattle.wkt_any_core.proofs.AnswerLemmas.{SaysOne, text_says_one, one_placed, one_reading}
use Rattle.wkt_any_core.proofs.TextLemmas.{raw_taken}
use Rattle.geometry_text_core.specs.declared.order.Order.{Order}
use Rattle.geometry_text_core.specs.declared.order.Order.TheVariants.{Big, Little}
use Rattle.geometry_text_core.specs.Binary.{IsBinary, TakesOrder}
use Rattle.geometry_text_core.specs.Hexadecimal.{digit_value, SpellsBytes}
use Rattle.geometry_text_core.specs.Held.{begins_with_zero}
use Rattle.geometry_text_core.specs.Positions.{TakesPosition, HasPosition, the_position}
use Rattle.geometry_text_core.specs.Texts.{digit_at, TakesSrid, SaysWords, SaysBytes, Says, Reads}
use Rattle.geometry_text_core.proofs.HexadecimalLemmas.{bytes_one}
use Rattle.geometry_text_core.proofs.OnlyLemmas.{position_only, binary_one}

-- ---- how texts begin

-- a text that begins as a word of letters does is no heading
not_heading : (c : ℕ) (cs text rest : List ℕ) → TakesLetters (c ∷ cs) text rest → get_or (map to_ascii_lowercase (c ∷ cs)) 0 0 ≡ c → (c ≡ 109 → ⊥) → (c ≡ 112 → ⊥) → (c ≡ 108 → ⊥)
    → (b : Bool) (k : Keyword) (r : List ℕ) → TakesKind text b k r → ⊥
not_heading c cs text rest h small m p l false Point r t = p (sym small ∙ apart (c ∷ cs) (word Point) text rest r 0 h t (omega arith) (omega arith))
not_heading c cs text rest h small m p l false LineString r t = l (sym small ∙ apart (c ∷ cs) (word LineString) text rest r 0 h t (omega arith) (omega arith))
not_heading c cs text rest h small m p l false Polygon r t = p (sym small ∙ apart (c ∷ cs) (word Polygon) text rest r 0 h t (omega arith) (omega arith))
not_heading c cs text rest h small m p l true k r (n, t, w) = m (sym small ∙ apart (c ∷ cs) (codes "multi") text rest n 0 h t (omega arith) (omega arith))

-- "0" is no letter
zero_letter : (text : List ℕ) → begins_with_zero text ≡ true → (rest : List ℕ) × TakesLetters (48 ∷ []) text rest
zero_letter [] h = absurd cc
zero_letter (b ∷ text) h = let is : b ≡ 48 = grind arith in (text, (48 ∷ [], refl, ap (λ c. c ∷ text) is))

pub words_not_zero : (scale : Scale) (text : List ℕ) (keyword : Keyword) (places : Option (List (List Position))) → begins_with_zero (skip text) ≡ true
    → SaysWords scale text keyword places → ⊥
words_not_zero scale text keyword places h (inl s) =
    let (m, e, heading, body, end) = raw_taken scale text s.heading s.lists s.raw in
    let (rest, zero) = zero_letter (skip text) h in
    not_heading 48 [] (skip text) rest zero refl (λ e. omega (arith, e)) (λ e. omega (arith, e)) (λ e. omega (arith, e)) s.heading.is_multi s.heading.keyword m heading
words_not_zero scale text keyword places h (inr (rest, (m, u, letters, digit, end), s)) =
    let (r, zero) = zero_letter (skip text) h in
    let e : 48 ≡ 115 = apart (48 ∷ []) (codes "srid=") (skip text) r m 0 zero letters (omega arith) (omega arith) in absurd (omega (arith, e))

pub no_srid : (scale : Scale) (text rest : List ℕ) (keyword : Keyword) (places : Option (List (List Position))) → TakesSrid text rest → SaysText scale text keyword places → ⊥
no_srid scale text rest keyword places (m, u, letters, digit, end) s =
    let (n, e, heading, body, last) = raw_taken scale text s.heading s.lists s.raw in
    not_heading 115 (codes "rid=") (skip text) m letters refl (λ e. omega (arith, e)) (λ e. omega (arith, e)) (λ e. omega (arith, e)) s.heading.is_multi s.heading.keyword n heading

some_rest : (u v : List ℕ) → Some u ≡ Some v → u ≡ v
some_rest u v e = cc

pub srid_one : (text r s : List ℕ) → TakesSrid text r → TakesSrid text s → r ≡ s
srid_one text r s (m, u, h, i, e) (n, v, k, j, f) =
    let same : m ≡ n = letters_rest (codes "srid=") (skip text) m n h k in
    let tail : u ≡ v = some_rest u v (sym i ∙ ap digit_at same ∙ j) in
    ap (λ t. drop 1 t) (sym e ∙ ap after_digits tail ∙ f)

-- the first byte of a geometry is 0 or 1, so that its text begins with "0"
high_zero : (h high low byte : ℕ) → digit_value h ≡ Some high → byte ≡ 16 * high + low → byte < 2 → h ≡ 48
high_zero h high low byte e v few = grind (arith, nat_tests)

pub bytes_zero : (scale : Scale) (text : List ℕ) (keyword : Keyword) (places : Option (List (List Position))) → SaysBytes scale text keyword places
    → begins_with_zero (skip text) ≡ true
bytes_zero scale text keyword places s = first s.bytes s.spelled s.binary
  where
    order_few : (bytes : List ℕ) (order : Order) (m : List ℕ) → TakesOrder bytes order m → (b : ℕ) × (b < 2) × (bytes ≡ b ∷ m)
    order_few bytes Big m e = (0, omega arith, e)
    order_few bytes Little m e = (1, omega arith, e)

    first : (bytes : List ℕ) → SpellsBytes text bytes → IsBinary (TakesPosition scale) bytes keyword s.lists → begins_with_zero (skip text) ≡ true
    first [] spelled binary =
        let (m, order, kind) = binary.head in
        let (b, few, e) = order_few [] binary.order m order in absurd cc
    first (byte ∷ bytes) (rest, (n, (h, l, high, low, e, i, j, v), each), end) binary =
        let (m, order, kind) = binary.head in
        let (b, few, f) = order_few (byte ∷ bytes) binary.order m order in
        let is : byte ≡ b = ap (λ t. get_or t 0 0) f in
        let zero : h ≡ 48 = high_zero h high low byte i v (omega (arith, is, few)) in
        ap begins_with_zero e ∙ ap (λ c. c == 48) zero

pub no_bytes_said : (scale : Scale) (text : List ℕ) (keyword : Keyword) (places : Option (List (List Position))) → begins_with_zero (skip text) ≡ false
    → SaysBytes scale text keyword places → ⊥
no_bytes_said scale text keyword places f s = let t = bytes_zero scale text keyword places s in absurd cc

-- ---- a text says one thing

module _ (scale : Scale) (text : List ℕ) where
  words_one : SaysOne (SaysWords scale text)
  words_one j k x y (inl s) (inl t) = text_says_one scale text j k x y s t
  words_one j k x y (inl s) (inr (r, p, t)) = absurd (no_srid scale text r j x p s)
  words_one j k x y (inr (r, p, s)) (inl t) = absurd (no_srid scale text r k y p t)
  words_one j k x y (inr (r, p, s)) (inr (u, q, t)) =
      let at : u ≡ r = srid_one text u r q p in
      text_says_one scale r j k x y s (subst (λ v. SaysText scale v k y) at t)

  bytes_say_one : SaysOne (SaysBytes scale text)
  bytes_say_one j k x y s t =
      let same : t.bytes ≡ s.bytes = bytes_one text t.bytes s.bytes t.spelled s.spelled in
      let lists = binary_one (TakesPosition scale) (position_only scale) s.bytes j k s.lists t.lists s.binary
      (subst (λ b. IsBinary (TakesPosition scale) b k t.lists) same t.binary) in
      (lists.0, one_placed HasPosition the_position t.lists x y (subst (λ ls. ArePlaced HasPosition the_position ls x) lists.1 s.placed) t.placed)

  pub says_one : SaysOne (Says scale text)
  says_one j k x y (inl s) (inl t) = words_one j k x y s t
  says_one j k x y (inl s) (inr t) = absurd (words_not_zero scale text j x (bytes_zero scale text k y t) s)
  says_one j k x y (inr s) (inl t) = absurd (words_not_zero scale text k y (bytes_zero scale text j x s) t)
  says_one j k x y (inr s) (inr t) = bytes_say_one j k x y s t

-- ---- readings

-- two texts that say the same read as the same
pub alike : (A B : Saying) (rule : Rings) (a : Result Figure GeometryFault) → ((k : Keyword) (x : Option (List (List Position))) → A k x → B k x)
    → ((k : Keyword) (x : Option (List (List Position))) → B k x → A k x) → ReadsBy A rule a → ReadsBy B rule a
alike A B rule (Ok g) there back r = record { keyword = r.keyword; places = r.places; says = there r.keyword r.places r.says; reads = r.reads }
alike A B rule (Err Text) there back r = λ k x s. r k x (back k x s)
alike A B rule (Err Number) there back r = record { keyword = r.keyword; places = r.places; says = there r.keyword r.places r.says; reads = r.reads }
alike A B rule (Err Form) there back r = record { keyword = r.keyword; places = r.places; says = there r.keyword r.places r.says; reads = r.reads }
alike A B rule (Err RingFault) there back r = record { keyword = r.keyword; places = r.places; says = there r.keyword r.places r.says; reads = r.reads }

module _ (scale : Scale) (text : List ℕ) (rule : Rings) (a : Result Figure GeometryFault) where
  pub bytes_read : begins_with_zero (skip text) ≡ true → ReadsBy (SaysBytes scale text) rule a → Reads scale rule text a
  bytes_read t = alike (SaysBytes scale text) (Says scale text) rule a (λ k x s. inr s)
      (λ k x s. ⊎_elim (λ w. absurd (words_not_zero scale text k x t w)) (λ b. b) s)

  pub words_read : begins_with_zero (skip text) ≡ false → ReadsBy (SaysWords scale text) rule a → Reads scale rule text a
  words_read f = alike (SaysWords scale text) (Says scale text) rule a (λ k x s. inl s)
      (λ k x s. ⊎_elim (λ w. w) (λ b. absurd (no_bytes_said scale text k x f b)) s)

  pub srid_read : (rest : List ℕ) → TakesSrid text rest → ReadsBy (SaysText scale rest) rule a → ReadsBy (SaysWords scale text) rule a
  srid_read rest h = alike (SaysText scale rest) (SaysWords scale text) rule a (λ k x s. inr (rest, h, s))
      (λ k x s. ⊎_elim (λ w. absurd (no_srid scale text rest k x h w)) (λ p. subst (λ r. SaysText scale r k x) (srid_one text p.0 rest p.1 h) p.2) s)

  pub text_read : ((rest : List ℕ) → TakesSrid text rest → ⊥) → ReadsBy (SaysText scale text) rule a → ReadsBy (SaysWords scale text) rule a
  text_read none = alike (SaysText scale text) (SaysWords scale text) rule a (λ k x s. inl s)
      (λ k x s. ⊎_elim (λ w. w) (λ p. absurd (none p.0 p.1)) s)

  pub only_reading : (b : Result Figure GeometryFault) → Reads scale rule text a → Reads scale rule text b → a ≡ b
  only_reading b h k = one_reading (Says scale text) rule (says_one scale text) a b h k

-- without a digit or a semicolon there is no SRID
pub no_semicolon : (text number rest : List ℕ) (r : Option (Bor (List ℕ))) → TakesLetters (codes "srid=") (skip text) number → digit_at number ≡ Some rest
    → rest_view r ≡ symbol_at 59 (after_digits rest) → IfNone r ((s : List ℕ) → TakesSrid text s → ⊥)
no_semicolon text number rest (Some b) letters digit view = tt
no_semicolon text number rest None letters digit view = λ s (m, u, h, d, end).
    let same : number ≡ m = letters_rest (codes "srid=") (skip text) number m letters h in
    let tail : rest ≡ u = some_rest rest u (sym digit ∙ ap digit_at same ∙ d) in
    let at : None ≡ symbol_at 59 (59 ∷ s) = view ∙ ap (symbol_at 59) (ap after_digits tail ∙ end) in
    absurd cc

pub no_digit : (text number : List ℕ) → TakesLetters (codes "srid=") (skip text) number → digit_at number ≡ None → (s : List ℕ) → TakesSrid text s → ⊥
no_digit text number letters none s (m, u, h, d, end) =
    let same : number ≡ m = letters_rest (codes "srid=") (skip text) number m letters h in
    let clash : None ≡ Some u = sym none ∙ ap digit_at same ∙ d in
    absurd cc
