-- Reading the paths of a text, step by step.
use Rattle.std.proofs.Common.{◌≡◌, ℕ, ◌+◌, true, false, List, [], ◌∷◌, ◌++◌, map, length, Result, Ok, Err, refl, sym, ◌∙◌, ap, ap₂, subst, arith}
use Rattle.std.specs.Prelude.{Bool, ◌&&◌, ◌==◌, OnOk, Option, Some, None}
use Rattle.std.specs.List.{AllByRecursion, filter}
use Rattle.std.proofs.lemmas.List.{append_assoc, append-nil, map-append, length-append, length-map}
use Rattle.std.proofs.lemmas.List.Elements.{filter-append}
use Rattle.std.proofs.lemmas.List.Concat.{flat_map-append}
use Rattle.plane_core.specs.declared.vertex.Vertex.{Vertex}
use Rattle.wkt_core.specs.declared.position.Position.{Position}
use Rattle.wkt_core.specs.Drawing.{without_repeats}
use Rattle.number_core.proofs.NumberLemmas.{by_bool}
use Rattle.wkt_any_core.specs.declared.paths.Paths.{Paths}
use Rattle.wkt_any_core.specs.Drawing.{position_of, drawn, is_kept, is_dot}
use Rattle.wkt_any_core.specs.Grammar.{joined}
use Rattle.wkt_any_core.specs.Held.{ends_of, AreGood, IsHeld, IsReadBy, IsStepped, IsTaken, IsEnded, IsBare, AddsPointsBy, AddsPathsBy, IsAdded, IsPlaceOf}
use Rattle.wkt_any_core.proofs.StepLemmas.{further, without_repeats_more, stepped_is}

-- the promise of a success
pub on_ok : {A B P Q : Type 0} (r : Result A B) → OnOk r P → (P → Q) → OnOk r Q
on_ok (Ok x) h f = f h
on_ok (Err e) h f = tt

-- ---- good numbers

all_more : {X : Type 0} (P : X → Type 0) (xs : List X) (x : X) → AllByRecursion P xs → P x → AllByRecursion P (xs ++ x ∷ [])
all_more P [] x h k = (k, tt)
all_more P (y ∷ xs) x h k = (h.0, all_more P xs x h.1 k)

all_before : {X : Type 0} (P : X → Type 0) (xs : List X) (x : X) → AllByRecursion P (xs ++ x ∷ []) → AllByRecursion P xs × P x
all_before P [] x h = (tt, h.0)
all_before P (y ∷ xs) x h = let rest = all_before P xs x h.1 in ((h.0, rest.0), rest.1)

-- ---- lists in a row

pub joined_more : {X : Type 0} (xs : List (List X)) (x : List X) → joined xs ++ x ≡ joined (xs ++ x ∷ [])
joined_more xs x = ap (λ t. joined xs ++ t) (sym (append-nil x)) ∙ sym (flat_map-append (λ list. list) xs (x ∷ []))

ends_after : {X : Type 0} (n : ℕ) (xs : List (List X)) (x : List X) → ends_of n (xs ++ x ∷ []) ≡ ends_of n xs ++ (n + length (joined (xs ++ x ∷ []))) ∷ []
ends_after n [] x = ap (λ t. (n + length t) ∷ []) (sym (append-nil x))
ends_after n (y ∷ xs) x =
    let here : n + length y + length (joined (xs ++ x ∷ [])) ≡ n + length (y ++ joined (xs ++ x ∷ [])) = omega (arith, length-append y (joined (xs ++ x ∷ []))) in
    ap (λ t. (n + length y) ∷ t) (ends_after (n + length y) xs x ∙ ap (λ m. ends_of (n + length y) xs ++ m ∷ []) here)

ends_more : {X : Type 0} (xs : List (List X)) (x : List X) → ends_of 0 (xs ++ x ∷ []) ≡ ends_of 0 xs ++ length (joined (xs ++ x ∷ [])) ∷ []
ends_more xs x = ends_after 0 xs x ∙ ap (λ n. ends_of 0 xs ++ n ∷ []) (none_more (length (joined (xs ++ x ∷ []))))
  where
    none_more : (n : ℕ) → 0 + n ≡ n
    none_more n = omega arith

filtered_out : (skips : Bool) (ps : List Position) → (skips && is_dot ps) ≡ true → filter (is_kept skips) (ps ∷ []) ≡ []
filtered_out skips ps t = rw t refl

kept_in : (skips : Bool) (ps : List Position) → (skips && is_dot ps) ≡ false → filter (is_kept skips) (ps ∷ []) ≡ ps ∷ []
kept_in skips ps f = rw f refl

module _ {P : Type 0} (Good : P → Type 0) (place : P → Position) (skips : Bool) (before : List (List P)) where
  -- a point with good numbers
  point_added : (old new : Paths) (ps : List P) (p : P) (v : Vertex) → Good p → position_of v ≡ place p
      → IsStepped old v new → IsReadBy Good place skips old before ps → IsReadBy Good place skips new before (ps ++ p ∷ [])
  point_added old new ps p v good is s r = record {
    rule = s.skips ∙ r.rule;
    good = λ t. let g = r.good (sym s.good ∙ t) in (g.0, all_more Good ps p g.1 good);
    bad = λ f g. r.bad (sym s.good ∙ f) (g.0, (all_before Good ps p g.1).0);
    held = λ g.
        let h = r.held (g.0, (all_before Good ps p g.1).0) in
        record {
          ends = s.ends ∙ h.ends;
          vertices = ap (map position_of) s.vertices ∙ h.vertices;
          last = ap (map position_of) s.last ∙ stepped_is old.open.items v
              ∙ ap₂ further h.last is
              ∙ sym (without_repeats_more (map place ps) (place p))
              ∙ ap without_repeats (sym (map-append place ps (p ∷ [])));
        };
  }

  -- a point with a bad number
  point_refused : (old new : Paths) (ps : List P) (p : P) → ¬ (Good p) → new.are_good ≡ false → new.skips_dots ≡ old.skips_dots
      → IsReadBy Good place skips old before ps → IsReadBy Good place skips new before (ps ++ p ∷ [])
  point_refused old new ps p bad f same r = record {
    rule = same ∙ r.rule;
    good = λ t. absurd (clash f t);
    bad = λ e g. bad (all_before Good ps p g.1).1;
    held = λ g. absurd (bad (all_before Good ps p g.1).1);
  }
    where
      clash : {b : Bool} → b ≡ false → b ≡ true → ⊥
      clash f t = cc

  pub added : (old new : Paths) (ps : List P) (p : P) (v : Option Vertex) → IsPlaceOf Good place p v → IsAdded old v new → IsReadBy Good place skips old before ps
      → IsReadBy Good place skips new before (ps ++ p ∷ [])
  added old new ps p (Some v) is step r = point_added old new ps p v is.0 is.1 step r
  added old new ps p None is step r = point_refused old new ps p is step.0 step.1 r

  -- ---- the end of a path

  goods_more : (ps : List P) → AreGood Good before ps → AllByRecursion (AllByRecursion Good) (before ++ ps ∷ [])
  goods_more ps g = all_more (AllByRecursion Good) before ps g.0 g.1

  goods_before : (ps : List P) → AllByRecursion (AllByRecursion Good) (before ++ ps ∷ []) → AreGood Good before ps
  goods_before ps g = all_before (AllByRecursion Good) before ps g

  abbrev path_of : List P → List Position
  path_of ps = without_repeats (map place ps)

  drawn_more : (ps : List P) → drawn skips (map (map place) (before ++ ps ∷ [])) ≡ drawn skips (map (map place) before) ++ filter (is_kept skips) (path_of ps ∷ [])
  drawn_more ps =
      ap (λ qs. filter (is_kept skips) (map without_repeats qs)) (map-append (map place) before (ps ∷ []))
      ∙ ap (filter (is_kept skips)) (map-append without_repeats (map (map place) before) (map place ps ∷ []))
      ∙ filter-append (is_kept skips) (map without_repeats (map (map place) before)) (path_of ps ∷ [])

  -- the path joins those before, or is left out
  pub path_ended : (old new : Paths) (ps : List P) → (is_left_out : Bool) → is_left_out ≡ (old.skips_dots && (length old.open.items == 1))
      → (is_left_out ≡ false → (new.vertices.items ≡ old.vertices.items ++ old.open.items) × (new.ends.items ≡ old.ends.items ++ length new.vertices.items ∷ []))
      → (is_left_out ≡ true → (new.vertices.items ≡ old.vertices.items) × (new.ends.items ≡ old.ends.items))
      → new.open.items ≡ [] → new.are_good ≡ old.are_good → new.skips_dots ≡ old.skips_dots
      → IsReadBy Good place skips old before ps → IsReadBy Good place skips new (before ++ ps ∷ []) []
  path_ended old new ps is_left_out test kept left empty same_good same_skips r = record {
    rule = same_skips ∙ r.rule;
    good = λ t. (goods_more ps (r.good (sym same_good ∙ t)), tt);
    bad = λ f g. r.bad (sym same_good ∙ f) (goods_before ps g.0);
    held = λ g. held (r.held (goods_before ps g.0));
  }
    where
      held : IsHeld old (drawn skips (map (map place) before)) (path_of ps) → IsHeld new (drawn skips (map (map place) (before ++ ps ∷ []))) []
      held h =
          let dot : (length old.open.items == 1) ≡ is_dot (path_of ps) = ap (λ n. n == 1) (sym (length-map old.open.items position_of) ∙ ap length h.last) in
          let tested : is_left_out ≡ (skips && is_dot (path_of ps)) = test ∙ ap₂ (λ a b. a && b) r.rule dot in
          subst (λ qs. IsHeld new qs []) (sym (drawn_more ps))
          (by_bool is_left_out
          (λ t. let none : filter (is_kept skips) (path_of ps ∷ []) ≡ [] = filtered_out skips (path_of ps) (sym tested ∙ t) in
          subst (λ qs. IsHeld new (drawn skips (map (map place) before) ++ qs) []) (sym none)
          (subst (λ qs. IsHeld new qs []) (sym (append-nil (drawn skips (map (map place) before))))
          (record {
            ends = (left t).1 ∙ h.ends;
            vertices = ap (map position_of) (left t).0 ∙ h.vertices;
            last = ap (map position_of) empty;
          })))
          (λ f. let one : filter (is_kept skips) (path_of ps ∷ []) ≡ path_of ps ∷ [] = kept_in skips (path_of ps) (sym tested ∙ f) in
          subst (λ qs. IsHeld new (drawn skips (map (map place) before) ++ qs) []) (sym one)
          (let all : map position_of new.vertices.items ≡ joined (drawn skips (map (map place) before) ++ path_of ps ∷ []) =
          ap (map position_of) (kept f).0 ∙ map-append position_of old.vertices.items old.open.items
          ∙ ap₂ (λ a b. a ++ b) h.vertices h.last
          ∙ joined_more (drawn skips (map (map place) before)) (path_of ps) in
          let count : length new.vertices.items ≡ length (joined (drawn skips (map (map place) before) ++ path_of ps ∷ [])) =
          sym (length-map new.vertices.items position_of) ∙ ap length all in
          record {
            ends = (kept f).1 ∙ ap₂ (λ a n. a ++ n ∷ []) h.ends count ∙ sym (ends_more (drawn skips (map (map place) before)) (path_of ps));
            vertices = all;
            last = ap (map position_of) empty;
          })))

  taken_ended : (old mid new : Paths) (ps : List P) (is_left_out : Bool) → is_left_out ≡ (old.skips_dots && (length old.open.items == 1))
      → IsTaken old is_left_out mid → new.vertices.items ≡ mid.vertices.items → new.ends.items ≡ mid.ends.items → new.open.items ≡ []
      → new.are_good ≡ mid.are_good → new.skips_dots ≡ mid.skips_dots → IsReadBy Good place skips old before ps → IsReadBy Good place skips new (before ++ ps ∷ []) []
  taken_ended old mid new ps is_left_out test taken vertices ends empty good skipped r =
      path_ended old new ps is_left_out test
      (λ f. let k = taken.kept f in (vertices ∙ k.vertices, ends ∙ k.ends ∙ ap (λ vs. old.ends.items ++ length vs ∷ []) (sym vertices)))
      (λ t. let k = taken.left t in (vertices ∙ ap (λ p. p.vertices.items) k, ends ∙ ap (λ p. p.ends.items) k))
      empty
      (good ∙ by_bool is_left_out (λ t. ap (λ p. p.are_good) (taken.left t)) (λ f. (taken.kept f).good))
      (skipped ∙ by_bool is_left_out (λ t. ap (λ p. p.skips_dots) (taken.left t)) (λ f. (taken.kept f).skips))
      r

  -- the open path was ended
  pub ended : (old new : Paths) (ps : List P) → IsEnded old new → IsReadBy Good place skips old before ps → IsReadBy Good place skips new (before ++ ps ∷ []) []
  ended old new ps e r = taken_ended old e.mid new ps (old.skips_dots && (length old.open.items == 1)) refl e.taken e.vertices e.ends e.last e.good e.skips r

-- nothing is read yet
pub none_read : {P : Type 0} (Good : P → Type 0) (place : P → Position) (skips : Bool) (new : Paths) → IsBare new skips → IsReadBy Good place skips new [] []
none_read Good place skips new b = record {
  rule = b.skips;
  good = λ t. (tt, tt);
  bad = λ f. absurd (clash b.good f);
  held = λ h. record { ends = b.ends; vertices = ap (map position_of) b.vertices; last = ap (map position_of) b.last };
}
  where
    clash : {b : Bool} → b ≡ true → b ≡ false → ⊥
    clash t f = cc

-- ---- steps one after another

module _ {P : Type 0} (Good : P → Type 0) (place : P → Position) where
  pub paths_none : (paths : Paths) → AddsPathsBy Good place paths [] paths
  paths_none paths skips before r = subst (λ ls. IsReadBy Good place skips paths ls []) (sym (append-nil before)) r

  pub paths_more : (old mid new : Paths) (xs ys : List (List P)) → AddsPathsBy Good place old xs mid → AddsPathsBy Good place mid ys new → AddsPathsBy Good place old (xs ++ ys) new
  paths_more old mid new xs ys h k skips before r =
      subst (λ ls. IsReadBy Good place skips new ls []) (append_assoc before xs ys) (k skips (before ++ xs) (h skips before r))

  pub polygons_more : (old mid new : Paths) (xs : List (List (List P))) (ys : List (List P)) → AddsPathsBy Good place old (joined xs) mid → AddsPathsBy Good place mid ys new
      → AddsPathsBy Good place old (joined (xs ++ ys ∷ [])) new
  polygons_more old mid new xs ys h k = subst (λ ls. AddsPathsBy Good place old ls new) (joined_more xs ys) (paths_more old mid new (joined xs) ys h k)

  pub points_none : (paths : Paths) → AddsPointsBy Good place paths [] paths
  points_none paths skips before ps r = subst (λ qs. IsReadBy Good place skips paths before qs) (sym (append-nil ps)) r

  pub points_more : (old mid new : Paths) (qs rs : List P) → AddsPointsBy Good place old qs mid → AddsPointsBy Good place mid rs new → AddsPointsBy Good place old (qs ++ rs) new
  points_more old mid new qs rs h k skips before ps r =
      subst (λ us. IsReadBy Good place skips new before us) (append_assoc ps qs rs) (k skips before (ps ++ qs) (h skips before ps r))

  -- the open path is one of those read
  pub points_ended : (old mid new : Paths) (qs : List P) → AddsPointsBy Good place old qs mid → IsEnded mid new → AddsPathsBy Good place old (qs ∷ []) new
  points_ended old mid new qs h e skips before r = ended Good place skips before mid new qs e (h skips before [] r)
