-- The facts from which the readings of words follow.
use Rattle.std.proofs.Common.{◌≡◌, ◌≢◌, ◌↔◌, length, find, map, IfOk, IfErr, IsErrAnd, ◌<◌, ◌^◌, ◌∙◌, ℕ, Bool, true, false, List, Option, Some, None, Result, Ok, Err, inl, inr, refl, sym, ap, ap₂, subst, arith, [], ◌∷◌}
use Rattle.std.specs.Prelude.{if◌then◌else◌, unwrap_or, codes, option_map, option_and_then}
use Rattle.std.specs.Borrow.{Bor}
use Rattle.std.specs.Str.Parse.{ParsesUnsigned, IsNumeral, digits_value, without_leading_plus}
use Rattle.clap.specs.Words.{ReadsOne, App, HasKind, HasMatchesOf, Kinds, Row, Text, app_of, fault_of, first_of, first_value, found_of, is_simple}
use Rattle.clap.specs.Words.{is_simple_and_free, kind_of, one_text, rows_of, subcommand_name_of, subcommand_of, subcommand_rows_of}
use Rattle.clap.specs.declared.builder.command.Command.{Command as ClapCommand}
use Rattle.clap.specs.declared.error.Error.{Error}
use Rattle.clap.specs.declared.error.kind.ErrorKind.TheVariants as kind
use Rattle.clap.specs.declared.parser.matches.ArgMatches.TheViews.{out-ArgMatches, out-SubCommand}
use Rattle.std.specs.Box.{box_value}
use Rattle.clap.specs.ValueTests.{is_unsigned_in}
use Rattle.clap.specs.declared.builder.value_parser.ValueParser.TheVariants.{Unsigned}
use Rattle.clap.specs.declared.parser.matches.ArgMatches.{ArgMatches}
use Rattle.clap.proofs.ValueTestLemmas.{accepts-Accepts, Accepts-accepts}
use Rattle.clap.proofs.WalkLemmas.{first_value-rows, one_text-rows}
use Rattle.relation_core.specs.Masks.{HasBadLetter}
use Rattle.relation_core.specs.Relations.{SpellsNothing}
use Rattle.relation_core.specs.declared.mask.MaskFault.{MaskFault}
use Rattle.relation_core.specs.declared.mask.MaskFault.TheVariants as mask
use Rattle.relation_core.specs.declared.relation.Relation.{Relation}
use Rattle.words_core.specs.Readings.{found_in, hint_names, hint_of, is_near, missing_text, number_at, number_of, text_in, IsNoRelation, Needs, Says}
use Rattle.words_core.specs.Readings.{of_none, HasCommandFault, HasFault, HasMetFault, IsMetAs, IsUsageFault, Met, ReadAs, met_in, refusals_of}
use Rattle.usage_core.specs.Usage.{HasUsage, usage_of}
use Rattle.usage_core.proofs.UsageLemmas.{is_free_usage, is_simple_usage}
use Rattle.words_core.specs.declared.words.Command.{Command}
use Rattle.words_core.specs.declared.words.WordFault.{WordFault}
use Rattle.words_core.specs.declared.words.WordFault.TheVariants as fault

-- ---- values

pub text_found : (m : ArgMatches) (name : Text) (r : Option (Bor Text)) → text_in r ≡ first_value (found_of m) name → first_of name (found_in m) ≡ text_in r
text_found m name r e = sym (first_value-rows (found_of m) name) ∙ sym e

abbrev IsNumber : Text → Type 0
IsNumber t = IsNumeral 10 (without_leading_plus t) × (digits_value 10 (without_leading_plus t) < 2 ^ 32)

number_of_is : (t : Text) → IsNumber t → number_of t ≡ Some (digits_value 10 (without_leading_plus t))
number_of_is t h =
    let n = digits_value 10 (without_leading_plus t) in
    let yes : is_unsigned_in 0 4294967295 t ≡ true = Accepts-accepts false (Unsigned 0 4294967295) t (h.0, omega (arith, h.1), omega arith, omega (arith, h.1)) in
    rw yes refl

number_of_is_none : (t : Text) → ¬ (IsNumber t) → number_of t ≡ None
number_of_is_none t isnt = go (is_unsigned_in 0 4294967295 t) refl
  where
    go : (b : Bool) → is_unsigned_in 0 4294967295 t ≡ b → (if b then Some (digits_value 10 (without_leading_plus t)) else None) ≡ None
    go true e = let a = accepts-Accepts false (Unsigned 0 4294967295) t e in absurd (isnt (a.0, omega (arith, a.3)))
    go false e = refl

number_reads : {E : Type 0} (Gives : List ℕ → Result ℕ E → Type 0) → ((bs : List ℕ) (x : Result ℕ E) → Gives bs x → ParsesUnsigned 32 10 bs x)
    → (t : Text) (r : Option ℕ) → ReadsOne Gives t r → number_of t ≡ r
number_reads Gives parses t (Some v) g = let p = parses t (Ok v) g in number_of_is t p.0 ∙ ap (λ n. Some n) (sym p.1)
number_reads Gives parses t None g = number_of_is_none t (parses t (Err g.0) g.1)

pub number_found : {E : Type 0} (Gives : List ℕ → Result ℕ E → Type 0) → ((bs : List ℕ) (x : Result ℕ E) → Gives bs x → ParsesUnsigned 32 10 bs x)
    → (m : ArgMatches) (name : Text) (r : Option ℕ) → (one_text (found_of m) name ≡ None → r ≡ None)
    → ((t : Text) → one_text (found_of m) name ≡ Some t → ReadsOne Gives t r) → number_at name (found_in m) ≡ r
number_found Gives parses m name r none value = ap (option_and_then number_of) (sym (one_text-rows (found_of m) name)) ∙ by (one_text (found_of m) name) none value
  where
    by : (o : Option Text) → (o ≡ None → r ≡ None) → ((t : Text) → o ≡ Some t → ReadsOne Gives t r) → option_and_then number_of o ≡ r
    by None none value = sym (none refl)
    by (Some t) none value = number_reads Gives parses t r (value t refl)

-- ---- chains of faults

pub needs_none : {X : Type 0} (name : Text) (o : Option X) (f : WordFault) (Then : X → Type 0) → o ≡ None → Says (missing_text name) f → Needs name o f Then
needs_none name None f Then e says = says
needs_none name (Some x) f Then e says = cc

pub needs_some : {X : Type 0} (name : Text) (o : Option X) (x : X) (f : WordFault) (Then : X → Type 0) → o ≡ Some x → Then x → Needs name o f Then
needs_some name o x f Then e h = subst (λ (p : Option _). Needs name p f Then) (sym e) h

pub needs_weaker : {X : Type 0} (name : Text) (o : Option X) (f : WordFault) (A B : X → Type 0) → ((x : X) → A x → B x) → Needs name o f A → Needs name o f B
needs_weaker name None f A B h n = n
needs_weaker name (Some x) f A B h n = h x n

-- ---- the fault of a call

pub fault_as : {T : Type 0} (result : Result T WordFault) (e : WordFault) (P : WordFault → Type 0) → IsErrAnd result (λ x. x ≡ e) → (e ≢ fault.Memory → P e)
    → IfErr result (λ f. f ≢ fault.Memory → P f)
fault_as (Ok x) e P h p = absurd h
fault_as (Err x) e P h p = subst (λ (f : WordFault). f ≢ fault.Memory → P f) (sym h) p

-- ---- relations

pub no_relation : (r : Result Relation MaskFault) (word text : Text) (reason : MaskFault) → r ≡ Err reason → text ≡ word
    → ((r ≡ Err mask.Length) ↔ ((length text ≢ 9) × SpellsNothing text)) → ((place : ℕ) → (r ≡ Err (mask.Letter place)) ↔ HasBadLetter text place)
    → IsNoRelation word reason
no_relation r word text mask.Length is same by_length by_letter = subst (λ (t : Text). (length t ≢ 9) × SpellsNothing t) same (by_length.0 is)
no_relation r word text (mask.Letter place) is same by_length by_letter = subst (λ (t : Text). HasBadLetter t place) same ((by_letter place).0 is)

pub hint_is : {E : Type 0} (result : Result (Option (Bor Text)) E) (word : Text) (names : List (Bor Text)) → map (λ name. name.now) names ≡ hint_names
    → IfOk result (λ found. text_in found ≡ find (is_near word) (map (λ name. name.now) names)) → IfOk result (λ found. text_in found ≡ hint_of word)
unfolding hint_of
hint_is (Ok x) word names same h = h ∙ ap (find (is_near word)) same
hint_is (Err e) word names same h = tt

-- ---- the words

some_is : {X : Type 0} (x y : X) → Some x ≡ Some y → x ≡ y
some_is x y e = ap (λ o. unwrap_or o x) e

abbrev both_of : {B : Type 0} → (B → Text) → (B → List Row) → B → Text × List Row
both_of name found b = (name b, found b)

pair_is : {A B : Type 0} (name : B → Text) (found : B → List Row) (told : A → Text) (read : A → List Row) (o : Option B) (r : Option A)
    → option_map told r ≡ option_map name o → option_map read r ≡ option_map (λ (p : Text × List Row). p.1) (option_map (both_of name found) o)
    → option_map (both_of name found) o ≡ option_map (both_of told read) r
pair_is name found told read None None names rows = refl
pair_is name found told read None (Some a) names rows = cc
pair_is name found told read (Some b) None names rows = cc
pair_is name found told read (Some b) (Some a) names rows =
    let pair : Text → List Row → Option (Text × List Row) = λ x y. Some (x, y) in
    sym (ap₂ pair (some_is _ _ names) (some_is _ _ rows))

abbrev pub met_of : Bor Text × Bor ArgMatches → Text × List Row
met_of p = (p.0.now, found_in p.1.now)

-- the subcommand that was met, by the name and the matches that are read of it
pub met_is : (m : ArgMatches) (r : Option (Bor Text × Bor ArgMatches)) → option_map (λ p. p.0.now) r ≡ subcommand_name_of m
    → option_map (λ p. rows_of (found_of p.1.now)) r ≡ option_map (λ (p : Text × List Row). p.1) (subcommand_rows_of m)
    → subcommand_rows_of m ≡ option_map met_of r
met_is m r names rows =
    pair_is (λ b. (out-SubCommand (box_value b)).name.now) (λ b. rows_of (found_of (out-SubCommand (box_value b)).matches))
    (λ p. p.0.now) (λ p. found_in p.1.now) (out-ArgMatches m).subcommand r names rows

pub named : (rows : List Row) (f : WordFault) (known name : Text) → name ≡ known → HasCommandFault rows f known → HasCommandFault rows f name
named rows f known name e h = subst (λ (n : Text). HasCommandFault rows f n) (sym e) h

pub unnamed : (rows : List Row) (f : WordFault) (name : Text) → name ≢ codes "relate" → name ≢ codes "join" → name ≢ codes "near" → name ≢ codes "nearest" → name ≢ codes "draw"
    → name ≢ codes "window" → name ≢ codes "stats" → name ≢ codes "bounds" → (f ≢ fault.Memory → Says (missing_text (codes "COMMAND")) f) → f ≢ fault.Memory
    → HasCommandFault rows f name
unnamed rows f name relate join near nearest draw window stats bounds says known = of_none name relate join near nearest draw window stats bounds (says known)

-- the words fit the usage
pub read_of_matches : (words : List Text) (usage : ClapCommand) (m : ArgMatches) (result : Result Command WordFault) → HasUsage (usage_of words) usage
    → HasMatchesOf (app_of usage) words m → (is_simple_and_free (app_of usage) ≡ true → fault_of (app_of usage) words ≡ [])
    → IfOk result (IsMetAs (subcommand_rows_of m)) → IfErr result (λ f. f ≢ fault.Memory → HasMetFault (subcommand_rows_of m) f) → ReadAs words result
unfolding refusals_of met_in
read_of_matches words usage m result is matches kinds ok err = by result ok err
  where
    met : subcommand_rows_of m ≡ subcommand_of (usage_of words) words
    met = (matches (ap is_simple is.shape ∙ is_simple_usage words)).1 ∙ ap (λ a. subcommand_of a words) is.shape

    none : fault_of (usage_of words) words ≡ []
    none = ap (λ a. fault_of a words) (sym is.shape) ∙ kinds (ap is_simple_and_free is.shape ∙ is_free_usage words)

    by : (r : Result Command WordFault) → IfOk r (IsMetAs (subcommand_rows_of m)) → IfErr r (λ f. f ≢ fault.Memory → HasMetFault (subcommand_rows_of m) f) → ReadAs words r
    by (Ok command) h _ = (none, subst (λ (found : Met). IsMetAs found command) met h)
    by (Err f) _ h = λ known. subst (λ (ks : Kinds). HasFault ks (subcommand_of (usage_of words) words) f) (sym none)
        (subst (λ (found : Met). HasMetFault found f) met (h known))

-- the words don't fit it
pub read_of_error : (words : List Text) (usage : ClapCommand) (e : Error) (f : WordFault) → HasUsage (usage_of words) usage
    → (is_simple_and_free (app_of usage) ≡ true → HasKind (fault_of (app_of usage) words) e) → (kind_of e ≡ kind.OutOfMemory → f ≡ fault.Memory)
    → (f ≢ fault.Memory → IsUsageFault (kind_of e) f) → f ≢ fault.Memory → HasFault (refusals_of words) (met_in words) f
unfolding refusals_of met_in
read_of_error words usage e f is kinds memory told known =
    by (fault_of (usage_of words) words) (subst (λ (a : App). HasKind (fault_of a words) e) is.shape (kinds (ap is_simple_and_free is.shape ∙ is_free_usage words)))
  where
    by : (ks : Kinds) → HasKind ks e → HasFault ks (subcommand_of (usage_of words) words) f
    by ks (inl out) = absurd (known (memory out))
    by [] (inr among) = absurd among
    by (k ∷ ks) (inr among) = (kind_of e, among, told known)

pub fault_weaker : {T : Type 0} (r : Result T WordFault) (P Q : WordFault → Type 0) → ((f : WordFault) → P f → Q f)
    → IfErr r (λ f. f ≢ fault.Memory → P f) → IfErr r (λ f. f ≢ fault.Memory → Q f)
fault_weaker (Ok x) P Q h e = tt
fault_weaker (Err f) P Q h e = λ known. h f (e known)
