-- White space, points and symbols: the steps of the reader read exactly what the grammar allows.
use Rattle.std.proofs.Common.{◌||◌, ◌≡◌, ℕ, ◌≤◌, Bool, true, false, cond, List, [], ◌∷◌, ◌++◌, length, Some, None, refl, sym, ◌∙◌, ap, subst}
use Rattle.std.proofs.Common.{arith, eqb}
use Rattle.std.proofs.lemmas.Bool.{eqb-true}
use Rattle.std.proofs.lemmas.Option.{same_Some, none-some, some_pair_parts, option_and_then_some}
use Rattle.std.proofs.lemmas.Bool.Decides.{nat_tests}
use Rattle.std.proofs.lemmas.List.{append_assoc, length-append}
use Rattle.number_core.specs.declared.scale.Scale.{Scale}
use Rattle.number_core.specs.Numbers.{Numeral, Number, Ends}
use Rattle.number_core.proofs.FrontLemmas.{Starts, number_begins, number_at_front, number_starts}
use Rattle.wkt_core.specs.Grammar.{RawPoint, is_blank, Blanks, Gap, PointText}
use Rattle.wkt_core.specs.TokenSteps.{skip, gap_at, symbol_at}
use Rattle.wkt_core.specs.PointSteps.{point_at}

-- the text that may follow a number: white space, a comma or a closing parenthesis
abbrev pub is_stop : ℕ → Bool
is_stop b = is_blank b || eqb b 44 || eqb b 41

abbrev pub Stops : List ℕ → Type 0
Stops [] = ⊥
Stops (b ∷ text) = is_stop b ≡ true

-- there is no white space at the start
abbrev pub NoBlank : List ℕ → Type 0
NoBlank [] = Unit {0}
NoBlank (b ∷ text) = is_blank b ≡ false

-- ---- white space

blanks_more : (b : ℕ) (text : List ℕ) → (w : List ℕ) × Blanks w × (text ≡ w ++ skip text) → (v : Bool) → is_blank b ≡ v
    → (w : List ℕ) × Blanks w × (b ∷ text ≡ w ++ cond v (skip text) (b ∷ text))
blanks_more b text (w, h, e) true p = (b ∷ w, (p, h), ap (λ u. b ∷ u) e)
blanks_more b text r false p = ([], tt, refl)

-- white space and the text after it
pub blanks_skipped : (text : List ℕ) → (w : List ℕ) × Blanks w × (text ≡ w ++ skip text)
blanks_skipped [] = ([], tt, refl)
blanks_skipped (b ∷ text) = blanks_more b text (blanks_skipped text) (is_blank b) refl

pub skip_solid : (text : List ℕ) → NoBlank text → skip text ≡ text
skip_solid [] h = refl
skip_solid (b ∷ text) h = rw h refl

pub skip_blanks : (w text : List ℕ) → Blanks w → skip (w ++ text) ≡ skip text
skip_blanks [] text h = refl
skip_blanks (b ∷ w) text h = rw h.0 (skip_blanks w text h.1)

pub skip-skip : (text : List ℕ) → skip (skip text) ≡ skip text
skip-skip [] = refl
skip-skip (b ∷ text) = grind (arith, skip-skip text)

-- ---- a point

-- the meaning of a value and of the rest for a text
abbrev pub Begins : {X : Type 0} → (X → List ℕ → Type 0) → List ℕ → X → List ℕ → Type 0
Begins A text x rest = (s : List ℕ) × A x s × (text ≡ s ++ rest)

gap_more : (b : ℕ) (text rest : List ℕ) (v : Bool) → is_blank b ≡ v → cond v (Some (skip text)) None ≡ Some rest
    → (w : List ℕ) × Gap w × (b ∷ text ≡ w ++ rest)
gap_more b text rest true p e =
    let (w, h, q) = blanks_skipped text in
    (b ∷ w, (omega arith, (p, h)), ap (λ u. b ∷ u) (q ∙ ap (λ u. w ++ u) (same_Some _ _ e)))
gap_more b text rest false p e = absurd (none-some _ e)

pub gap_begins : (text rest : List ℕ) → gap_at text ≡ Some rest → (w : List ℕ) × Gap w × (text ≡ w ++ rest)
gap_begins [] rest e = absurd (none-some _ e)
gap_begins (b ∷ text) rest e = gap_more b text rest (is_blank b) refl e

pub point_begins : (scale : Scale) (text : List ℕ) (p : RawPoint) (rest : List ℕ) → point_at scale text ≡ Some (p, rest)
    → Begins (PointText scale) text p rest
point_begins scale text p rest e =
    option_and_then_some _ _ _ e (λ x at_x e1.
    option_and_then_some _ _ _ e1 (λ u at_u e2.
    option_and_then_some _ _ _ e2 (λ y at_y e3.
    let (s, hs, ps) = number_begins scale text x.0 x.1 at_x in
    let (w, hw, pw) = gap_begins x.1 u at_u in
    let (t, ht, pt) = number_begins scale u y.0 y.1 at_y in
    let parts = some_pair_parts _ _ _ _ e3 in (
      s ++ (w ++ t),
      subst (λ q. PointText scale q (s ++ (w ++ t))) parts.0
          (record {
            front = s;
            back = w ++ t;
            first = hs;
            second = record { front = w; back = t; first = hw; second = ht; joined = refl };
            joined = refl;
          }),
      ps ∙ ap (λ v. s ++ v) (pw ∙ ap (λ v. w ++ v) (pt ∙ ap (λ v. t ++ v) parts.1)) ∙ sym (simp append_assoc),
    ))))

stop_ends : (text : List ℕ) → Stops text → Ends text
stop_ends [] stop = absurd stop
stop_ends (b ∷ text) stop = grind (arith, nat_tests)

blank_is_stop : (b : ℕ) → is_blank b ≡ true → is_stop b ≡ true
blank_is_stop b h = grind (arith, nat_tests)

gap_stops : (w text : List ℕ) → Gap w → Stops (w ++ text)
gap_stops [] text h = absurd (omega arith)
gap_stops (b ∷ w) text h = blank_is_stop b h.1.0

gap_at_front : (w text : List ℕ) → Gap w → NoBlank text → gap_at (w ++ text) ≡ Some text
gap_at_front [] text h solid = absurd (omega arith)
gap_at_front (b ∷ w) text h solid = rw h.1.0 (ap Some (skip_blanks w text h.1.1 ∙ skip_solid text solid))

starts_solid : (text : List ℕ) → Starts text → NoBlank text
starts_solid text (b, rest, h, e) =
    let first : is_blank b ≡ false = grind (arith, nat_tests) in
    rw e first

-- no number begins with white space
number_solid : (scale : Scale) (n : Numeral) (s text : List ℕ) → Number scale n s → NoBlank (s ++ text)
number_solid scale n s text h = starts_solid (s ++ text) (number_starts scale n s text h)

pub point_at_front : (scale : Scale) (p : RawPoint) (s text : List ℕ) → PointText scale p s → Stops text → point_at scale (s ++ text) ≡ Some (p, text)
point_at_front scale p s text h stop =
    let w = h.second.front in
    let t = h.second.back in
    let regrouped : s ++ text ≡ h.front ++ (w ++ (t ++ text)) = rw (h.joined, h.second.joined) (simp append_assoc) in
    let first = number_at_front scale p.x h.front (w ++ (t ++ text)) h.first (stop_ends _ (gap_stops w (t ++ text) h.second.first)) in
    let between = gap_at_front w (t ++ text) h.second.first (number_solid scale p.y t text h.second.second) in
    let second = number_at_front scale p.y t text h.second.second (stop_ends text stop) in
    rw (regrouped, first, between, second) refl

pub point_solid : (scale : Scale) (p : RawPoint) (s text : List ℕ) → PointText scale p s → NoBlank (s ++ text)
point_solid scale p s text h =
    let regrouped : s ++ text ≡ h.front ++ (h.second.front ++ (h.second.back ++ text)) = rw (h.joined, h.second.joined) (simp append_assoc) in
    rw regrouped (number_solid scale p.x h.front _ h.first)

-- ---- lengths

pub length-skip : (text : List ℕ) → length (skip text) ≤ length text
length-skip text = let (w, h, e) = blanks_skipped text in omega (arith, ap length e, length-append w (skip text))

pub Begins-shorter : {X : Type 0} (A : X → List ℕ → Type 0) (text : List ℕ) (x : X) (rest : List ℕ) → Begins A text x rest → length rest ≤ length text
Begins-shorter A text x rest (s, h, e) = omega (arith, ap length e, length-append s rest)

-- ---- a symbol

symbol_more : (wanted b : ℕ) (text rest : List ℕ) (v : Bool) → eqb b wanted ≡ v → cond v (Some text) None ≡ Some rest → b ∷ text ≡ wanted ∷ rest
symbol_more wanted b text rest true p e = ap (λ x. x ∷ text) (eqb-true b wanted p) ∙ ap (λ t. wanted ∷ t) (same_Some _ _ e)
symbol_more wanted b text rest false p e = absurd (none-some _ e)

pub symbol_begins : (wanted : ℕ) (text rest : List ℕ) → symbol_at wanted text ≡ Some rest → text ≡ wanted ∷ rest
symbol_begins wanted [] rest e = absurd (none-some _ e)
symbol_begins wanted (b ∷ text) rest e = symbol_more wanted b text rest (eqb b wanted) refl e

pub blanks_stop : (w text : List ℕ) → Blanks w → Stops text → Stops (w ++ text)
blanks_stop [] text h stop = stop
blanks_stop (b ∷ w) text h stop = blank_is_stop b h.0
