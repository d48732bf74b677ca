-- How a command ends, given its files and its run.
use Rattle.std.proofs.Common.{◌≡◌, ◌≢◌, ◌↔◌, ℕ, List, Option, Some, None, Bool, false, Result, Ok, Err, IsErrAnd, ◌⊎◌, inl, inr, IfErr, IfSome, IsTrue}
use Rattle.std.proofs.Common.{refl, sym, subst, ◌∙◌}
use Rattle.std.specs.Prelude.{⊤}
use Rattle.report_core.specs.Written.{AppendsPrefix}
use Rattle.wkt_core.specs.declared.fault.WktFault.{WktFault}
use Rattle.number_core.specs.declared.scale.Scale.{Scale}
use Rattle.plane_core.specs.declared.rings.Rings.{Rings}
use Rattle.run_core.specs.declared.fault.Input.{Input}
use Rattle.run_core.specs.declared.fault.RunFault.{RunFault}
use Rattle.run_core.specs.declared.fault.RunFault.TheVariants as run
use Rattle.join_core.specs.Relating.{RelateGives, IsMatrixLine, HasFirstFault, IsTextFault}
use Rattle.run_core.specs.Runs.{Ends}
use Rattle.run_core.proofs.RunLemmas.{ends_as, not_begun}
use Rattle.words_core.specs.declared.words.Command.{Command}
use Rattle.words_core.specs.declared.words.Command.TheVariants.{Relate}
use Rattle.words_core.specs.declared.condition.Geometries.{Geometries}
use Rattle.words_core.specs.declared.condition.Geometries.TheVariants.{Box, Any}
use Rattle.words_core.specs.declared.words.RelateRequest.{RelateRequest}
use Rattle.command_core.specs.Commands.{CommandGives, IsCommandText, BlamesCommand, IsFoundFirst, IsFoundNext}
use Rattle.command_core.specs.Commands.{GeometriesGive, IsFaultOf, IsRelateFault, CommandEnds}
use Rattle.command_core.specs.Opening.{AfterOpening, Files}
use Rattle.relate_any_core.specs.TextMatrices.{HasTextFault}
use Rattle.relate_any_core.specs.declared.texts.TextFault.{TextFault}

-- ---- relating

text_fault_named : (scale : Scale) (a b : List ℕ) (f : RunFault) → IsTextFault f
    → ((i : Input) (w : WktFault) → f ≡ run.Wkt i w → HasFirstFault scale a b i w) → RelateGives scale a b (Err f)
text_fault_named scale a b (run.Wkt i w) is named = named i w refl
text_fault_named scale a b (run.NoFile i) is named = absurd is
text_fault_named scale a b (run.Geometry i g) is named = absurd is
text_fault_named scale a b (run.Read i r) is named = absurd is
text_fault_named scale a b (run.Edit n l) is named = absurd is
text_fault_named scale a b (run.Join j) is named = absurd is
text_fault_named scale a b run.TooManyToDraw is named = absurd is
text_fault_named scale a b run.Write is named = absurd is
text_fault_named scale a b run.NotStored is named = absurd is
text_fault_named scale a b run.Memory is named = absurd is
text_fault_named scale a b run.NoKeys is named = absurd is

-- the same request of boxes
abbrev of_boxes : RelateRequest → RelateRequest
of_boxes request = record request { geometries = Box }

relate_fault : {T : Type 0} (known : Option Files) (request : RelateRequest) (result : Result T RunFault)
    → ((i : Input) (w : WktFault) → (result ≡ Err (run.Wkt i w)) ↔ HasFirstFault request.scale request.a.now request.b.now i w)
    → IfErr result (λ f. f ≢ run.Write → IsTextFault f)
    → IfErr result (λ f. BlamesCommand f → IfSome known (λ at. CommandGives at (Relate (of_boxes request)) (Err f)))
relate_fault known request (Ok x) wkt faults = tt
relate_fault None request (Err f) wkt faults = λ blame. tt
relate_fault (Some at) request (Err f) wkt faults = λ blame.
    text_fault_named request.scale request.a.now request.b.now f (faults (λ w. subst BlamesCommand w blame))
    (λ i w e. (wkt i w).0 (let is : Err f ≡ Err (run.Wkt i w) = cc in is))

relate_first : {T : Type 0} (known : Option Files) (request : RelateRequest) (result : Result T RunFault)
    → ((i : Input) (w : WktFault) → (result ≡ Err (run.Wkt i w)) ↔ HasFirstFault request.scale request.a.now request.b.now i w)
    → (f : RunFault) → IsFoundFirst (Relate (of_boxes request)) f
    → IfSome known (λ at. CommandGives at (Relate (of_boxes request)) (Err f) → result ≡ Err f)
relate_first None request result wkt f first = tt
relate_first (Some at) request result wkt (run.Wkt i w) first = λ given. (wkt i w).1 given
relate_first (Some at) request result wkt (run.NoFile i) first = λ given. absurd given
relate_first (Some at) request result wkt (run.Read i r) first = absurd first
relate_first (Some at) request result wkt (run.Geometry i g) first = absurd first
relate_first (Some at) request result wkt (run.Edit n l) first = absurd first
relate_first (Some at) request result wkt (run.Join j) first = absurd first
relate_first (Some at) request result wkt run.TooManyToDraw first = absurd first
relate_first (Some at) request result wkt run.Write first = absurd first
relate_first (Some at) request result wkt run.NotStored first = absurd first
relate_first (Some at) request result wkt run.Memory first = absurd first
relate_first (Some at) request result wkt run.NoKeys first = absurd first

matrix_is_text : (known : Option Files) (request : RelateRequest) (text : List ℕ) → IsMatrixLine request.scale request.a.now request.b.now text
    → IsCommandText known (Relate (of_boxes request)) text
matrix_is_text None request text line = tt
matrix_is_text (Some at) request text line = line

-- boxes were related
pub boxes_related : {T S : Type 0} (known : Option Files) (written : S → Option (List ℕ)) (is_flushed has_failed : S → Bool) (request : RelateRequest)
    (x y : List ℕ) (old new : S) (result : Result T RunFault) → request.geometries ≡ Box → x ≡ request.a.now → y ≡ request.b.now
    → Ends (IsMatrixLine request.scale x y) written is_flushed has_failed old new result
    → ((i : Input) (w : WktFault) → (result ≡ Err (run.Wkt i w)) ↔ HasFirstFault request.scale x y i w) → IfErr result (λ f. f ≢ run.Write → IsTextFault f)
    → CommandEnds known written is_flushed has_failed (Relate request) old new result
boxes_related known written is_flushed has_failed request x y old new result box first second ends wkt faults =
    let Both : List ℕ → List ℕ → Type 0 = λ p q. Ends (IsMatrixLine request.scale p q) written is_flushed has_failed old new result
    × ((i : Input) (w : WktFault) → (result ≡ Err (run.Wkt i w)) ↔ HasFirstFault request.scale p q i w) in
    let both : Both request.a.now request.b.now = subst (λ (q : List ℕ). Both request.a.now q) second (subst (λ (p : List ℕ). Both p y) first (ends, wkt)) in
    subst (λ (g : Geometries). CommandEnds known written is_flushed has_failed (Relate (record request { geometries = g })) old new result) (sym box) (record {
      writes = ends_as _ _ written is_flushed has_failed old new result (matrix_is_text known request) both.0;
      fault = relate_fault known request result both.1 faults;
      first = relate_first known request result both.1;
      next = λ f nothing. absurd nothing;
      faults = faults;
    })

module _ (rings : Rings) where
  -- the same request of geometries of any direction
  abbrev of_any : RelateRequest → RelateRequest
  of_any request = record request { geometries = Any rings }

  any_fault : {T : Type 0} (known : Option Files) (request : RelateRequest) (result : Result T RunFault)
      → IfErr result (λ f. BlamesCommand f → GeometriesGive (Any rings) request.scale request.a.now request.b.now (Err f))
      → IfErr result (λ f. BlamesCommand f → IfSome known (λ at. CommandGives at (Relate (of_any request)) (Err f)))
  any_fault known request (Ok x) fault = tt
  any_fault None request (Err f) fault = λ blame. tt
  any_fault (Some at) request (Err f) fault = fault

  any_first : {T : Type 0} (known : Option Files) (request : RelateRequest) (result : Result T RunFault) (f : RunFault)
      → IsFoundFirst (Relate (of_any request)) f → IfSome known (λ at. CommandGives at (Relate (of_any request)) (Err f) → result ≡ Err f)
  any_first None request result f first = tt
  any_first (Some at) request result (run.NoFile i) first = λ given. absurd given
  any_first (Some at) request result (run.Wkt i w) first = absurd first
  any_first (Some at) request result (run.Read i r) first = absurd first
  any_first (Some at) request result (run.Geometry i g) first = absurd first
  any_first (Some at) request result (run.Edit n l) first = absurd first
  any_first (Some at) request result (run.Join j) first = absurd first
  any_first (Some at) request result run.TooManyToDraw first = absurd first
  any_first (Some at) request result run.Write first = absurd first
  any_first (Some at) request result run.NotStored first = absurd first
  any_first (Some at) request result run.Memory first = absurd first
  any_first (Some at) request result run.NoKeys first = absurd first

  any_is_text : (known : Option Files) (request : RelateRequest) (text : List ℕ)
      → GeometriesGive (Any rings) request.scale request.a.now request.b.now (Ok text) → IsCommandText known (Relate (of_any request)) text
  any_is_text None request text line = tt
  any_is_text (Some at) request text line = line

  -- geometries of any direction were related
  pub any_related : {T S : Type 0} (known : Option Files) (written : S → Option (List ℕ)) (is_flushed has_failed : S → Bool) (request : RelateRequest)
      (old new : S) (result : Result T RunFault) → request.geometries ≡ Any rings
      → Ends (λ text. GeometriesGive (Any rings) request.scale request.a.now request.b.now (Ok text)) written is_flushed has_failed old new result
      → IfErr result (λ f. BlamesCommand f → GeometriesGive (Any rings) request.scale request.a.now request.b.now (Err f))
      → IfErr result (λ f. f ≢ run.Write → IsRelateFault (Any rings) f)
      → CommandEnds known written is_flushed has_failed (Relate request) old new result
  any_related known written is_flushed has_failed request old new result is ends fault faults =
      subst (λ (g : Geometries). CommandEnds known written is_flushed has_failed (Relate (record request { geometries = g })) old new result) (sym is) (record {
        writes = ends_as _ _ written is_flushed has_failed old new result (any_is_text known request) ends;
        fault = any_fault known request result fault;
        first = any_first known request result;
        next = λ f nothing. absurd nothing;
        faults = faults;
      })

-- a text is at fault, given the result of relating the bytes of both
pub text_blamed : {T : Type 0} (scale : Scale) (rings : Rings) (a b x y : List ℕ) (answer : Result T TextFault) (f : TextFault) → x ≡ a → y ≡ b
    → ((g : TextFault) → (answer ≡ Err g) ↔ HasTextFault scale rings x y g) → answer ≡ Err f → HasTextFault scale rings a b f
text_blamed scale rings a b x y answer f first second exact is =
    subst (λ (q : List ℕ). HasTextFault scale rings a q f) second (subst (λ (p : List ℕ). HasTextFault scale rings p y f) first ((exact f).0 is))

-- writing a text was started, and the sink has failed
pub write_failed : {T S : Type 0} (P : List ℕ → Type 0) (written : S → Option (List ℕ)) (is_flushed has_failed : S → Bool) (old new : S)
    (result : Result T RunFault) (text : List ℕ) → IsErrAnd result (λ e. e ≡ run.Write) → P text → AppendsPrefix (written old) (written new) text
    → IsTrue (has_failed new) → Ends P written is_flushed has_failed old new result
write_failed P written is_flushed has_failed old new (Ok x) text h is front failed = absurd h
write_failed P written is_flushed has_failed old new (Err e) text h is front failed = record {
  ok = tt;
  flushed = tt;
  failed = ((λ q. failed), (λ q. cc));
  partly = λ q. (text, is, front);
  untouched = λ other. absurd (other h);
}

-- ---- opening

-- the fault of a file that can't be opened
abbrev pub IsNoFile : RunFault → Type 0
IsNoFile (run.NoFile i) = ⊤
IsNoFile _ = ⊥

abbrev pub OpensFiles : Command → Type 0
OpensFiles (Relate request) = ⊥
OpensFiles _ = ⊤

-- a command that opens files finds only such a fault first
pub found_missing : (command : Command) (g : RunFault) → OpensFiles command → IsFoundFirst command g → IsNoFile g
found_missing command (run.NoFile i) opens found = tt
found_missing (Relate request) g opens found = absurd opens
found_missing command g opens found = absurd found

-- the consequence of opening one input, given that it can be opened
pub input_opened : (lies : Option (List ℕ)) (bytes : List ℕ) (input : Input) (answer : Result (List ℕ) RunFault) (Then : List ℕ → Type 0)
    → lies ≡ Some bytes → Then bytes ↔ AfterOpening input lies answer Then
input_opened lies bytes input answer Then is =
    let After : Option (List ℕ) → Type 0 = λ o. AfterOpening input o answer Then in
    ((λ h. let now : After (Some bytes) = h in subst After (sym is) now), (λ h. let now : After (Some bytes) = subst After is h in now))

-- a fault that ends a command before its run
pub refused_ends : {T S : Type 0} (known : Option Files) (written : S → Option (List ℕ)) (is_flushed has_failed : S
    → Bool) (command : Command) (sink : S) (result : Result T RunFault) (f : RunFault)
    → has_failed sink ≡ false → IsErrAnd result (λ x. x ≡ f) → f ≢ run.Write → IfSome known (λ at. CommandGives at command (Err f) ⊎ (BlamesCommand f → ⊥))
    → ((g : RunFault) → IsFoundFirst command g → IfSome known (λ at. CommandGives at command (Err g) → g ≡ f))
    → ((g : RunFault) → IsFoundNext command g → f ≢ run.NoKeys → IfSome known (λ at. CommandGives at command (Err g) → g ≡ f))
    → IsFaultOf known command f
    → CommandEnds known written is_flushed has_failed command sink sink result
refused_ends known written is_flushed has_failed command sink (Ok x) f fresh h other given first next is = absurd h
refused_ends {T} None written is_flushed has_failed command sink (Err e) f fresh h other given first next is =
    let same : (let r : Result T RunFault = Err e in r) ≡ Err f = cc in record {
      writes = not_begun (IsCommandText None command) written is_flushed has_failed sink (Err e) f fresh same other;
      fault = λ blame. tt;
      first = λ g found. tt;
      next = λ g found keys. tt;
      faults = λ w. subst (IsFaultOf None command) (sym h) is;
    }
refused_ends {T} (Some at) written is_flushed has_failed command sink (Err e) f fresh h other given first next is =
    let same : (let r : Result T RunFault = Err e in r) ≡ Err f = cc in record {
      writes = not_begun (IsCommandText (Some at) command) written is_flushed has_failed sink (Err e) f fresh same other;
      fault = λ blame. subst (λ (x : RunFault). CommandGives at command (Err x)) (sym h) (elim given [
        | inl gives ↦ gives
        | inr none ↦ absurd (none (subst BlamesCommand h blame))
      ]);
      first = λ g found gives. let is_f : g ≡ f = first g found gives in cc;
      next = λ g found keys gives. let is_f : g ≡ f = next g found (λ none. keys (let whole : e ≡ run.NoKeys = h ∙ none in cc)) gives in cc;
      faults = λ w. subst (IsFaultOf (Some at) command) (sym h) is;
    }

pub err_is : (f g : RunFault) → (let a : Result (List ℕ) RunFault = Err f in a) ≡ Err g → f ≡ g
err_is f g e = cc
