-- Reading a list in parentheses accepts exactly the texts of the grammar.
use Rattle.std.proofs.Common.{◌≡◌, ℕ, List, [], ◌∷◌, ◌++◌, drop, refl, sym, ◌∙◌, ap, ap₂, subst}
use Rattle.std.proofs.lemmas.List.{append_assoc}
use Rattle.wkt_core.specs.Grammar.{Blanks, Listed, InParentheses}
use Rattle.wkt_core.specs.TokenSteps.{skip}
use Rattle.wkt_core.specs.ListSteps.{Items, Enclosed}
use Rattle.wkt_core.proofs.FrontLemmas.{Stops, NoBlank, Begins, Begins-shorter, blanks_skipped, blanks_stop, skip_blanks, skip_solid}
use Rattle.wkt_core.proofs.ItemLemmas.{IsExact, no_comma_ends, same_rest}

-- a text read as an item is one of the grammar, and each item of the grammar is read if a stop
-- follows it
pub record IsReading {X : Type 0} (A : X → List ℕ → Type 0) (Item : List ℕ → X → List ℕ → Type 0) : Type 0 where
  pub begins : (text : List ℕ) (x : X) (rest : List ℕ) → Item text x rest → Begins A text x rest
  pub front : (x : X) (s rest : List ℕ) → A x s → Stops rest → Item (s ++ rest) x rest
  pub solid : (x : X) (s rest : List ℕ) → A x s → NoBlank (s ++ rest)

module _ {X : Type 0} (A : X → List ℕ → Type 0) (Item : List ℕ → X → List ℕ → Type 0) where
  items_begin : IsReading A Item → (xs : List X) (t e : List ℕ) → Items Item xs t e → Begins (Listed A) t xs e
  items_begin reading [] t e h = absurd h
  items_begin reading (x ∷ []) t e (m, i, h) =
      let (w, hw, ew) = blanks_skipped t in
      let (s, hs, es) = reading.begins (skip t) x m i in
      let (v, hv, ev) = blanks_skipped m in (
        w ++ (s ++ (v ++ 41 ∷ [])),
        record {
          front = w;
          back = s ++ (v ++ 41 ∷ []);
          first = hw;
          second = record {
            front = s;
            back = v ++ 41 ∷ [];
            first = hs;
            second = record { front = v; back = 41 ∷ []; first = hv; second = refl; joined = refl };
            joined = refl;
          };
          joined = refl;
        },
        ew ∙ ap (λ u. w ++ u) (es ∙ ap (λ u. s ++ u) (ev ∙ ap (λ u. v ++ u) h)) ∙ sym (simp append_assoc),
      )
  items_begin reading (x ∷ y ∷ xs) t e (m, n, i, h, r) =
      let (w, hw, ew) = blanks_skipped t in
      let (s, hs, es) = reading.begins (skip t) x m i in
      let (v, hv, ev) = blanks_skipped m in
      let (z, hz, ez) = items_begin reading (y ∷ xs) n e r in (
        w ++ (s ++ (v ++ 44 ∷ z)),
        record {
          front = w;
          back = s ++ (v ++ 44 ∷ z);
          first = hw;
          second = record {
            front = s;
            back = v ++ 44 ∷ z;
            first = hs;
            second = record {
              front = v;
              back = 44 ∷ z;
              first = hv;
              second = record { front = 44 ∷ []; back = z; first = refl; second = hz; joined = refl };
              joined = refl;
            };
            joined = refl;
          };
          joined =
              refl;
        },
        ew ∙ ap (λ u. w ++ u) (es ∙ ap (λ u. s ++ u) (ev ∙ ap (λ u. v ++ u) (h ∙ ap (λ u. 44 ∷ u) ez))) ∙ sym (simp append_assoc),
      )

  -- an item with white space round it, before a comma or the end
  module _ (reading : IsReading A Item) (x : X) (w s v : List ℕ) (hw : Blanks w) (hs : A x s) (hv : Blanks v) (rest : List ℕ) (stop : Stops rest)
      (solid : NoBlank rest) where
    item_taken : Item (skip (w ++ (s ++ (v ++ rest)))) x (v ++ rest)
    item_taken = rw (skip_blanks w (s ++ (v ++ rest)) hw, skip_solid (s ++ (v ++ rest)) (reading.solid x s (v ++ rest) hs))
        (reading.front x s (v ++ rest) hs (blanks_stop v rest hv stop))

    behind_item : skip (v ++ rest) ≡ rest
    behind_item = skip_blanks v rest hv ∙ skip_solid rest solid

  items_front : IsReading A Item → (xs : List X) (s rest : List ℕ) → Listed A xs s → Items Item xs (s ++ rest) rest
  items_front reading [] s rest h = absurd h
  items_front reading (x ∷ []) s rest h =
      let a = h.second in
      let b = a.second in
      let regrouped : s ++ rest ≡ h.front ++ (a.front ++ (b.front ++ 41 ∷ rest)) = rw (h.joined, a.joined, b.joined, b.second) (simp append_assoc) in
      rw regrouped (
        b.front ++ 41 ∷ rest,
        item_taken reading x h.front a.front b.front h.first a.first b.first (41 ∷ rest) refl refl,
        behind_item reading x h.front a.front b.front h.first a.first b.first (41 ∷ rest) refl refl,
      )
  items_front reading (x ∷ y ∷ xs) s rest h =
      let a = h.second in
      let b = a.second in
      let d = b.second in
      let regrouped : s ++ rest ≡ h.front ++ (a.front ++ (b.front ++ 44 ∷ (d.back ++ rest))) = rw (h.joined, a.joined, b.joined, d.joined, d.first)
      (simp append_assoc) in
      rw regrouped (
        b.front ++ 44 ∷ (d.back ++ rest),
        d.back ++ rest,
        item_taken reading x h.front a.front b.front h.first a.first b.first (44 ∷ (d.back ++ rest)) refl refl,
        behind_item reading x h.front a.front b.front h.first a.first b.first (44 ∷ (d.back ++ rest)) refl refl,
        items_front reading (y ∷ xs) d.back rest d.second,
      )

  -- one text, one list
  items_same : IsExact Item → (xs ys : List X) (t e f : List ℕ) → Items Item xs t e → Items Item ys t f → (xs ≡ ys) × (e ≡ f)
  items_same exact [] ys t e f h k = absurd h
  items_same exact (x ∷ xs) [] t e f h k = absurd k
  items_same exact (x ∷ []) (y ∷ []) t e f (m, i, p) (n, j, q) =
      (ap (λ z. z ∷ []) (exact.value (skip t) x y m n i j), ap (drop 1) (sym p ∙ ap skip (exact.rest (skip t) x y m n i j) ∙ q))
  items_same exact (x ∷ []) (y ∷ z ∷ ys) t e f (m, i, p) (n, u, j, q, r) =
      absurd (no_comma_ends u e (sym (sym p ∙ ap skip (exact.rest (skip t) x y m n i j) ∙ q)))
  items_same exact (x ∷ z ∷ xs) (y ∷ []) t e f (m, u, i, p, r) (n, j, q) =
      absurd (no_comma_ends u f (sym p ∙ ap skip (exact.rest (skip t) x y m n i j) ∙ q))
  items_same exact (x ∷ a ∷ xs) (y ∷ b ∷ ys) t e f (m, u, i, p, h) (n, v, j, q, k) =
      let here : u ≡ v = same_rest u v (sym p ∙ ap skip (exact.rest (skip t) x y m n i j) ∙ q) in
      let later = items_same exact (a ∷ xs) (b ∷ ys) v e f (subst (λ w. Items Item (a ∷ xs) w e) here h) k in
      (ap₂ (λ z zs. z ∷ zs) (exact.value (skip t) x y m n i j) later.0, later.1)

  enclosed_begins : IsReading A Item → (t : List ℕ) (xs : List X) (e : List ℕ) → Enclosed Item t xs e → Begins (InParentheses A) t xs e
  enclosed_begins reading t xs e (u, p, h) =
      let (s, hs, es) = items_begin reading xs u e h in
      (40 ∷ s, record { front = 40 ∷ []; back = s; first = refl; second = hs; joined = refl }, p ∙ ap (λ v. 40 ∷ v) es)

  -- a list ends with its parenthesis, whatever follows
  pub enclosed_front : IsReading A Item → (xs : List X) (s rest : List ℕ) → InParentheses A xs s → Enclosed Item (s ++ rest) xs rest
  enclosed_front reading xs s rest h = (h.back ++ rest, rw (h.joined, h.first) refl, items_front reading xs h.back rest h.second)

  pub enclosed_reading : IsReading A Item → IsReading (InParentheses A) (Enclosed Item)
  enclosed_reading reading = record {
    begins = enclosed_begins reading;
    front = λ xs s rest h stop. enclosed_front reading xs s rest h;
    solid = λ xs s rest h. rw (h.joined, h.first) refl;
  }

  pub enclosed_exact : IsReading A Item → IsExact Item → IsExact (Enclosed Item)
  enclosed_exact reading exact = record {
    value = λ t xs ys e f (u, p, h) (v, q, k). (items_same exact xs ys v e f (subst (λ w. Items Item xs w e) (ap (drop 1) (sym p ∙ q)) h) k).0;
    rest = λ t xs ys e f (u, p, h) (v, q, k). (items_same exact xs ys v e f (subst (λ w. Items Item xs w e) (ap (drop 1) (sym p ∙ q)) h) k).1;
    shorter = λ t xs e h. Begins-shorter (InParentheses A) t xs e (enclosed_begins reading t xs e h);
  }
