-- Texts that grow by pieces, groups of the same features, and sets that grow by a number.
use Rattle.std.proofs.Common.{◌≡◌, ℕ, ℤ, pos, ◌-ℤ◌, ◌+ℤ◌, ◌<◌, ◌+◌, ◌==◌, ◌||◌, Bool, true, List, [], ◌∷◌, ◌++◌, refl, sym, ap, ◌∙◌, map, take, codes, length, get_or}
use Rattle.std.proofs.Common.{Result, Ok, Err, is_ok, OnOk, if◌then◌else◌}
use Rattle.std.proofs.Common.{append_assoc, append-nil, flat_map, ◌≤◌, ◌*◌, unsigned_abs, to_z, of_z, w64, arith}
use Rattle.std.proofs.lemmas.Grind.{common_steps}
use Rattle.std.proofs.lemmas.List.{take_all, take_more, flat_map_more}
use Rattle.std.proofs.lemmas.List.Folds.{list_any_more}
use Rattle.std.proofs.lemmas.Result.{on_ok_weaker}
use Rattle.std.proofs.lemmas.Int.{ints, to_z_pos}
use Rattle.std.specs.List.{list_any}
use Rattle.std.specs.Ordering.{nat_cmp}
use Rattle.std.specs.BTreeSet.{BTreeSet, contains, Updates}
use Rattle.geom_core.specs.Limits.{IsCoordinate}
use Rattle.layer_core.specs.Layers.{Feature, Contents}
use Rattle.draw_core.specs.Drawings.{Drawing}
use Rattle.draw_core.specs.Marks.{has_left, has_right}
use Rattle.draw_core.specs.Pictures.{closing, element, group, legend, canvas, opening, picture_of}
use Rattle.draw_core.specs.Views.{View, drawn_height, greatest_margin, margin_of, view_around, view_of}

-- a piece, and the text after it
chain : (s t u a b : List ℕ) → t ≡ s ++ a → u ≡ t ++ b → u ≡ s ++ (a ++ b)
chain s t u a b first rest = rest ∙ ap (λ l. l ++ b) first ∙ append_assoc s a b

-- the text of one item more
pub item_added : {A : Type 0} (f : A → List ℕ) (old mid new : List ℕ) (items : List A) (i : ℕ) (item : A) → i < length items
    → item ≡ get_or items i item → mid ≡ old ++ flat_map f (take i items) → new ≡ mid ++ f item
    → new ≡ old ++ flat_map f (take (i + 1) items)
item_added {A} f old mid new items i item within at so_far grown =
    grown ∙ ap (λ t. t ++ f item) so_far ∙ flat_map_more f old (take i items) item
    ∙ ap (λ (l : List A). old ++ flat_map f l) (ap (λ x. take i items ++ x ∷ []) at ∙ sym (take_more items i item within))

-- the text of the next item, and of those that are left
pub next_added : {A : Type 0} (f : A → List ℕ) (item : A) (left rest : List A) (t u whole : List ℕ) → left ≡ item ∷ rest → u ≡ t ++ f item
    → t ++ flat_map f left ≡ whole → u ++ flat_map f rest ≡ whole
next_added f item left rest t u whole next grown so_far =
    ap (λ l. l ++ flat_map f rest) grown ∙ append_assoc t (f item) (flat_map f rest) ∙ ap (λ xs. t ++ flat_map f xs) (sym next) ∙ so_far

-- the text of all items, none of which is left
pub all_added : {A : Type 0} (f : A → List ℕ) (left listed all : List A) (t begun : List ℕ) → left ≡ [] → listed ≡ all
    → t ++ flat_map f left ≡ begun ++ flat_map f listed → t ≡ begun ++ flat_map f all
all_added f left listed all t begun none is so_far =
    sym (append-nil t) ∙ ap (λ xs. t ++ flat_map f xs) (sym none) ∙ so_far ∙ ap (λ xs. begun ++ flat_map f xs) is

-- the features of a list, if two tests agree
pub elements_same : {G : Type 0} (drawing : Drawing G) (view : View) (f g : ℕ → Bool) → ((n : ℕ) → f n ≡ g n) → (fs : List (Feature G))
    → flat_map (λ x. element drawing view (f x.number) x) fs ≡ flat_map (λ x. element drawing view (g x.number) x) fs
elements_same drawing view f g same [] = refl
elements_same drawing view f g same (x ∷ xs) =
    ap (λ b. element drawing view b x ++ flat_map (λ y. element drawing view (f y.number) y) xs) (same x.number)
    ∙ ap (λ l. element drawing view (g x.number) x ++ l) (elements_same drawing view f g same xs)

pub group_same : {G : Type 0} (side : List ℕ) (drawing : Drawing G) (view : View) (f g : ℕ → Bool) (layer : Contents G) → ((n : ℕ) → f n ≡ g n)
    → group side drawing view f layer ≡ group side drawing view g layer
group_same side drawing view f g layer same = rw (elements_same drawing view f g same layer.features) refl

-- a set of the numbers of the matches so far, and one number more
pub held_more : {A : Type 0} (side : A → ℕ) (s n : BTreeSet ℕ) (matches : List A) (i : ℕ) (a : A) (key : ℕ) → i < length matches → a ≡ get_or matches i a
    → key ≡ side a → Updates nat_cmp s n key true
    → ((q : ℕ) → contains nat_cmp s q ≡ list_any (λ b. q == side b) (take i matches))
    → (q : ℕ) → contains nat_cmp n q ≡ list_any (λ b. q == side b) (take (i + 1) matches)
held_more side s n matches i a key within at same new so_far q =
    grind (arith, common_steps, at, same, new.0 q, so_far q, list_any_more (λ b. q == side b) matches i a within)

-- the matches with a number are those whose pairs have it
any_of_pairs : {A : Type 0} (pair_of : A → ℕ × ℕ) (test : ℕ × ℕ → Bool) (matches : List A)
    → list_any (λ a. test (pair_of a)) matches ≡ list_any test (map pair_of matches)
any_of_pairs pair_of test [] = refl
any_of_pairs pair_of test (a ∷ matches) = ap (λ b. test (pair_of a) || b) (any_of_pairs pair_of test matches)

-- the set of the numbers of all matches is that of their pairs
pub held_all : {A : Type 0} (pair_of : A → ℕ × ℕ) (side : ℕ × ℕ → ℕ) (s : BTreeSet ℕ) (matches : List A) (i : ℕ) → length matches ≤ i
    → ((q : ℕ) → contains nat_cmp s q ≡ list_any (λ a. q == side (pair_of a)) (take i matches))
    → (q : ℕ) → contains nat_cmp s q ≡ list_any (λ p. q == side p) (map pair_of matches)
held_all {A} pair_of side s matches i all held q =
    held q ∙ ap (list_any (λ (a : A). q == side (pair_of a))) (take_all i matches all)
    ∙ any_of_pairs pair_of (λ p. q == side p) matches

-- a coordinate, in 64 bits
pub same_coordinate : (x : ℤ) → IsCoordinate x → to_z w64 (of_z w64 x) ≡ x
same_coordinate x is =
    let above = is.0 in
    let below = is.1 in
    omega (arith, ints)

-- a coordinate and a margin, in 64 bits
pub moved_down : (x : ℤ) (m : ℕ) → IsCoordinate x → m ≤ greatest_margin
    → to_z w64 (of_z w64 (to_z w64 (of_z w64 x) -ℤ to_z w64 m)) ≡ x -ℤ pos m
moved_down x m is small =
    let above = is.0 in
    let below = is.1 in
    let p : to_z w64 (of_z w64 x) ≡ x = omega (arith, ints) in
    let q : to_z w64 m ≡ pos m = to_z_pos w64 m (omega arith) in
    rw (p, q) (let r : to_z w64 (of_z w64 (x -ℤ pos m)) ≡ x -ℤ pos m = omega (arith, ints) in r)

pub moved_up : (x : ℤ) (m : ℕ) → IsCoordinate x → m ≤ greatest_margin
    → to_z w64 (of_z w64 (to_z w64 (of_z w64 x) +ℤ to_z w64 m)) ≡ x +ℤ pos m
moved_up x m is small =
    let above = is.0 in
    let below = is.1 in
    let p : to_z w64 (of_z w64 x) ≡ x = omega (arith, ints) in
    let q : to_z w64 m ≡ pos m = to_z_pos w64 m (omega arith) in
    rw (p, q) (let r : to_z w64 (of_z w64 (x +ℤ pos m)) ≡ x +ℤ pos m = omega (arith, ints) in r)

abbrev the_view_record : ℤ → ℤ → ℕ → ℕ → ℕ → View
the_view_record l t w h m = record { left = l; top = t; width = w + 2 * m; height = h + 2 * m }

-- the view about corners, part by part
pub around_is : (a b c d l t : ℤ) (w h m : ℕ) → w ≡ unsigned_abs (c -ℤ a) → h ≡ unsigned_abs (d -ℤ b) → m ≡ margin_of w h
    → l ≡ a -ℤ pos m → t ≡ d +ℤ pos m
    → the_view_record l t w h m ≡ view_around a b c d
around_is a b c d l t w h m width height margin left top = rw (left, top, margin, width, height) refl

-- the group of the features that the pairs highlight, at the view of the layers
group_is : {G : Type 0} (side : List ℕ) (drawing : Drawing G) (v w : View) (f g : ℕ → Bool) (layer : Contents G) (t u : List ℕ) → v ≡ w
    → ((n : ℕ) → f n ≡ g n) → u ≡ t ++ group side drawing v f layer → u ≡ t ++ group side drawing w g layer
group_is side drawing v w f g layer t u view same more =
    more ∙ ap (λ l. t ++ l) (group_same side drawing v f g layer same ∙ ap (λ x. group side drawing x g layer) view)

-- the last of two pieces was pushed, which is this one
pub last_of_two : {T E : Type 0} (r : Result T E) (a b c t0 t1 t2 : List ℕ) → t1 ≡ t0 ++ a → OnOk r (t2 ≡ t1 ++ b) → b ≡ c → OnOk r (t2 ≡ t0 ++ (a ++ c))
last_of_two r a b c t0 t1 t2 first last is = on_ok_weaker r (λ e. chain t0 t1 t2 a c first (e ∙ ap (λ l. t1 ++ l) is)) last

-- a text to which three pieces were added, and four
three_pieces : (a b c t0 t1 t2 t3 : List ℕ) → t1 ≡ t0 ++ a → t2 ≡ t1 ++ b → t3 ≡ t2 ++ c → t3 ≡ t0 ++ (a ++ (b ++ c))
three_pieces a b c t0 t1 t2 t3 e1 e2 e3 = chain t0 t1 t3 a (b ++ c) e1 (chain t1 t2 t3 b c e2 e3)

four_pieces : (a b c d t0 t1 t2 t3 t4 : List ℕ) → t1 ≡ t0 ++ a → t2 ≡ t1 ++ b → t3 ≡ t2 ++ c → t4 ≡ t3 ++ d
    → t4 ≡ t0 ++ (a ++ (b ++ (c ++ d)))
four_pieces a b c d t0 t1 t2 t3 t4 e1 e2 e3 e4 =
    chain t0 t1 t4 a (b ++ (c ++ d)) e1 (three_pieces b c d t1 t2 t3 t4 e2 e3 e4)

five_pieces : (a b c d e t0 t1 t2 t3 t4 t5 : List ℕ) → t1 ≡ t0 ++ a → t2 ≡ t1 ++ b → t3 ≡ t2 ++ c → t4 ≡ t3 ++ d → t5 ≡ t4 ++ e
    → t5 ≡ t0 ++ (a ++ (b ++ (c ++ (d ++ e))))
five_pieces a b c d e t0 t1 t2 t3 t4 t5 e1 e2 e3 e4 e5 =
    chain t0 t1 t5 a (b ++ (c ++ (d ++ e))) e1 (four_pieces b c d e t1 t2 t3 t4 t5 e2 e3 e4 e5)

pub last_of_four : {T E : Type 0} (r : Result T E) (a b c d t0 t1 t2 t3 t4 : List ℕ) → t1 ≡ t0 ++ a → t2 ≡ t1 ++ b → t3 ≡ t2 ++ c → OnOk r (t4 ≡ t3 ++ d)
    → OnOk r (t4 ≡ t0 ++ (a ++ (b ++ (c ++ d))))
last_of_four r a b c d t0 t1 t2 t3 t4 e1 e2 e3 last = on_ok_weaker r (λ e. four_pieces a b c d t0 t1 t2 t3 t4 e1 e2 e3 e) last

-- the last of three pieces was pushed, and of four
pub third_pushed : {T E : Type 0} (r : Result T E) (a b c whole t0 t1 t2 t3 : List ℕ) → t1 ≡ t0 ++ a → t2 ≡ t1 ++ b
    → t3 ≡ (if is_ok r then t2 ++ c else t2) → whole ≡ a ++ (b ++ c) → OnOk r (t3 ≡ t0 ++ whole)
third_pushed (Ok x) a b c whole t0 t1 t2 t3 e1 e2 e3 is = three_pieces a b c t0 t1 t2 t3 e1 e2 e3 ∙ ap (λ w. t0 ++ w) (sym is)
third_pushed (Err e) a b c whole t0 t1 t2 t3 e1 e2 e3 is = tt

pub fourth_pushed : {T E : Type 0} (r : Result T E) (a b c d whole t0 t1 t2 t3 t4 : List ℕ) → t1 ≡ t0 ++ a → t2 ≡ t1 ++ b → t3 ≡ t2 ++ c
    → t4 ≡ (if is_ok r then t3 ++ d else t3) → whole ≡ a ++ (b ++ (c ++ d)) → OnOk r (t4 ≡ t0 ++ whole)
fourth_pushed (Ok x) a b c d whole t0 t1 t2 t3 t4 e1 e2 e3 e4 is = four_pieces a b c d t0 t1 t2 t3 t4 e1 e2 e3 e4 ∙ ap (λ w. t0 ++ w) (sym is)
fourth_pushed (Err e) a b c d whole t0 t1 t2 t3 t4 e1 e2 e3 e4 is = tt

pub fifth_pushed : {T E : Type 0} (r : Result T E) (a b c d e t0 t1 t2 t3 t4 t5 : List ℕ) → t1 ≡ t0 ++ a → t2 ≡ t1 ++ b → t3 ≡ t2 ++ c → t4 ≡ t3 ++ d
    → t5 ≡ (if is_ok r then t4 ++ e else t4) → OnOk r (t5 ≡ t0 ++ (a ++ (b ++ (c ++ (d ++ e)))))
fifth_pushed (Ok x) a b c d e t0 t1 t2 t3 t4 t5 e1 e2 e3 e4 e5 = five_pieces a b c d e t0 t1 t2 t3 t4 t5 e1 e2 e3 e4 e5
fifth_pushed (Err f) a b c d e t0 t1 t2 t3 t4 t5 e1 e2 e3 e4 e5 = tt

-- a text of six pieces
six_pieces : (a b c d e f t0 t1 t2 t3 t4 t5 t6 : List ℕ) → t0 ≡ [] → t1 ≡ t0 ++ a → t2 ≡ t1 ++ b → t3 ≡ t2 ++ c
    → t4 ≡ t3 ++ d → t5 ≡ t4 ++ e → t6 ≡ t5 ++ f → t6 ≡ a ++ (b ++ (c ++ (d ++ (e ++ f))))
six_pieces a b c d e f t0 t1 t2 t3 t4 t5 t6 e0 e1 e2 e3 e4 e5 e6 =
    let last = four_pieces c d e f t2 t3 t4 t5 t6 e3 e4 e5 e6 in
    let rest = c ++ (d ++ (e ++ f)) in
    chain t0 t1 t6 a (b ++ rest) e1 (chain t1 t2 t6 b rest e2 last) ∙ ap (λ l. l ++ (a ++ (b ++ rest))) e0

-- the picture from its pieces
pub assembled : {G : Type 0} (drawing : Drawing G) (left right : Contents G) (pairs : List (ℕ × ℕ)) (v : View) (h l r p : ℕ) (f g : ℕ → Bool)
    (t0 t1 t2 t3 t4 t5 t6 : List ℕ) → v ≡ view_of drawing.box_of left right → l ≡ length left.features → r ≡ length right.features → p ≡ length pairs
    → h ≡ drawn_height v → ((n : ℕ) → f n ≡ has_left pairs n) → ((n : ℕ) → g n ≡ has_right pairs n) → t0 ≡ []
    → t1 ≡ t0 ++ opening (h + 40)
    → t2 ≡ t1 ++ legend l r p → t3 ≡ t2 ++ canvas h v
    → t4 ≡ t3 ++ group (codes "left") drawing v f left
    → t5 ≡ t4 ++ group (codes "right") drawing v g right → t6 ≡ t5 ++ closing → t6 ≡ picture_of drawing left right pairs
assembled drawing left right pairs v h l r p f g t0 t1 t2 t3 t4 t5 t6 view left_len right_len pairs_len drawn lefts rights e0 e1 e2 e3 h4 h5 e6 =
    let w = view_of drawing.box_of left right in
    let k = drawn_height w in
    let height : h ≡ k = drawn ∙ ap drawn_height view in
    let e4 = group_is (codes "left") drawing v w f (has_left pairs) left t3 t4 view lefts h4 in
    let e5 = group_is (codes "right") drawing v w g (has_right pairs) right t4 t5 view rights h5 in
    six_pieces (opening (k + 40)) (legend (length left.features) (length right.features) (length pairs)) (canvas k w)
    (group (codes "left") drawing w (has_left pairs) left) (group (codes "right") drawing w (has_right pairs) right) closing
    t0 t1 t2 t3 t4 t5 t6 e0 (e1 ∙ ap (λ x. t0 ++ opening (x + 40)) height)
    (e2 ∙ ap (λ x. t1 ++ legend x r p) left_len ∙ ap (λ x. t1 ++ legend (length left.features) x p) right_len
    ∙ ap (λ x. t1 ++ legend (length left.features) (length right.features) x) pairs_len)
    (e3 ∙ ap (λ x. t2 ++ canvas h x) view ∙ ap (λ x. t2 ++ canvas x w) height) e4 e5 e6
