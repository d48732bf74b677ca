-- Bytes are those of at most one geometry.
use Rattle.std.proofs.Common.{◌≡◌, ◌≤◌, ◌+◌, ℕ, Bool, true, false, List, [], ◌∷◌, inl, inr, get_or, drop, refl, sym, ◌∙◌, ap, ap₂, subst, arith}
use Rattle.std.specs.Prelude.{◌==◌, ◌&&◌, not, ℤ, Option, Some, None, Result, Ok, Err, MatchResult, IfSome, IfNone, IsSome, ◌↔◌}
use Rattle.std.specs.Result.{result_ok}
use Rattle.double_core.specs.declared.double.Fault.{Fault}
use Rattle.double_core.specs.Units.{IsReadAs, IsRoundedTo, HasFault, HasFaultRounded}
use Rattle.plane_core.specs.declared.vertex.Vertex.{Vertex}
use Rattle.double_core.proofs.LawLemmas.{one_units, one_rounded, no_fault, no_rounded_fault}
use Rattle.number_core.specs.declared.scale.Rounding.{Rounding}
use Rattle.number_core.specs.declared.scale.Rounding.TheVariants.{Exact, Nearest}
use Rattle.number_core.specs.declared.scale.Scale.{Scale}
use Rattle.number_core.specs.Scales.{digits_of, rounding_of, IsInRange}
use Rattle.wkt_core.specs.declared.keyword.Keyword.{Keyword}
use Rattle.wkt_core.specs.declared.keyword.Keyword.TheVariants.{Point, LineString, Polygon}
use Rattle.wkt_core.specs.declared.position.Position.{Position}
use Rattle.wkt_any_core.specs.declared.heading.Heading.{Heading}
use Rattle.wkt_any_core.specs.Grammar.{joined}
use Rattle.geometry_text_core.specs.declared.order.Order.{Order}
use Rattle.geometry_text_core.specs.declared.order.Order.TheVariants.{Big, Little}
use Rattle.geometry_text_core.specs.Binary.{TakesOrder, TakesNumber, TakesDouble, TakesKind, TakesHead, TakesCounted, TakesBody, TakesPart, TakesLists, IsBinary, code_of, code_by, heading_code, srid_flag, gathered}
use Rattle.geometry_text_core.specs.Held.{is_one}
use Rattle.geometry_text_core.specs.Positions.{IsUnits, IsUnitsBy, IsAt, IsPosition, TakesPosition, position_at}
use Rattle.geometry_text_core.proofs.EachLemmas.{IsOnly, number_only, double_only, counted_only}

-- ---- a position

units_by_one : (rounding : Rounding) (digits bits : ℕ) (y z : ℤ) → IsUnitsBy rounding digits bits y → IsUnitsBy rounding digits bits z → y ≡ z
units_by_one Exact digits bits y z h k = one_units bits digits y z h k
units_by_one Nearest digits bits y z h k = one_rounded bits digits y z h k

units_one : (scale : Scale) (bits : ℕ) (y z : ℤ) → IsUnits scale bits y → IsUnits scale bits z → y ≡ z
units_one scale bits y z h k = units_by_one (rounding_of scale) (digits_of scale) bits y z h k

at_one : (scale : Scale) (x y : ℕ) (p q : Position) → IsAt scale x y p → IsAt scale x y q → p ≡ q
at_one scale x y p q h k =
    ap₂ (λ (a b : ℤ). let r : Position = record { x = a; y = b } in r) (units_one scale x p.x q.x h.x_units k.x_units) (units_one scale y p.y q.y h.y_units k.y_units)

position_one : (scale : Scale) (x y : ℕ) (p q : Option Position) → IsPosition scale x y p → IsPosition scale x y q → p ≡ q
position_one scale x y (Some p) (Some q) h k = ap Some (at_one scale x y p q h k)
position_one scale x y (Some p) None h k = absurd (k p h)
position_one scale x y None (Some q) h k = absurd (h q k)
position_one scale x y None None h k = refl

pub position_only : (scale : Scale) (order : Order) → IsOnly (TakesPosition scale order)
position_only scale order = record {
  value = λ b p q r s h k. (same b p q r s h k).0;
  rest = λ b p q r s h k. (same b p q r s h k).1;
}
  where
    same : (b : List ℕ) (p q : Option Position) (r s : List ℕ) → TakesPosition scale order b p r → TakesPosition scale order b q s → (p ≡ q) × (r ≡ s)
    same b p q r s (x, y, m, i, j, at) (u, v, n, k, l, on) =
        let first : u ≡ x = (double_only order).value b u x n m k i in
        let middle : n ≡ m = (double_only order).rest b u x n m k i in
        let there : TakesDouble order m v s = subst (λ t. TakesDouble order t v s) middle l in
        let second : v ≡ y = (double_only order).value m v y s r there j in
        let here : IsPosition scale x y q = subst (λ t. IsPosition scale t y q) first (subst (λ t. IsPosition scale u t q) second on) in
        (position_one scale x y p q at here, (double_only order).rest m y v r s j there)

-- ---- the head

order_only : IsOnly TakesOrder
order_only = record { value = λ b x y r s h k. (same b x y r s h k).0; rest = λ b x y r s h k. (same b x y r s h k).1 }
  where
    same : (b : List ℕ) (x y : Order) (r s : List ℕ) → TakesOrder b x r → TakesOrder b y s → (x ≡ y) × (r ≡ s)
    same b Big Big r s h k = (refl, ap (λ t. drop 1 t) (sym h ∙ k))
    same b Big Little r s h k = let e : 0 ≡ 1 = ap (λ t. get_or t 0 0) (sym h ∙ k) in absurd (omega (arith, e))
    same b Little Big r s h k = let e : 1 ≡ 0 = ap (λ t. get_or t 0 0) (sym h ∙ k) in absurd (omega (arith, e))
    same b Little Little r s h k = (refl, ap (λ t. drop 1 t) (sym h ∙ k))

code_bound : (k : Keyword) → (1 ≤ code_of k) × (code_of k ≤ 3)
code_bound Point = (omega arith, omega arith)
code_bound LineString = (omega arith, omega arith)
code_bound Polygon = (omega arith, omega arith)

pub code_few : (h : Heading) → heading_code h ≤ 6
code_few h = by_kind h.is_multi h.keyword
  where
    by_kind : (b : Bool) (k : Keyword) → code_by b k ≤ 6
    by_kind false k = omega (arith, (code_bound k).1)
    by_kind true k = omega (arith, (code_bound k).1)

pub code_some : (h : Heading) → 1 ≤ heading_code h
code_some h = by_kind h.is_multi h.keyword
  where
    by_kind : (b : Bool) (k : Keyword) → 1 ≤ code_by b k
    by_kind false k = (code_bound k).0
    by_kind true k = omega (arith, (code_bound k).0)

keyword_one : (k l : Keyword) → code_of k ≡ code_of l → k ≡ l
keyword_one Point Point e = refl
keyword_one Point LineString e = absurd (omega (arith, e))
keyword_one Point Polygon e = absurd (omega (arith, e))
keyword_one LineString Point e = absurd (omega (arith, e))
keyword_one LineString LineString e = refl
keyword_one LineString Polygon e = absurd (omega (arith, e))
keyword_one Polygon Point e = absurd (omega (arith, e))
keyword_one Polygon LineString e = absurd (omega (arith, e))
keyword_one Polygon Polygon e = refl

pub code_one : (g h : Heading) → heading_code g ≡ heading_code h → g ≡ h
code_one g h e = let same = by_kind g.is_multi h.is_multi g.keyword h.keyword e in λ i. record { is_multi = same.0 i; keyword = same.1 i }
  where
    by_kind : (a b : Bool) (k l : Keyword) → code_by a k ≡ code_by b l → (a ≡ b) × (k ≡ l)
    by_kind false false k l e = (refl, keyword_one k l e)
    by_kind false true k l e = absurd (omega (arith, e, (code_bound k).1, (code_bound l).0))
    by_kind true false k l e = absurd (omega (arith, e, (code_bound k).0, (code_bound l).1))
    by_kind true true k l e = (refl, keyword_one k l (omega (arith, e)))

module _ (order : Order) where
  kind_same : (b : List ℕ) (g h : Heading) (r s : List ℕ) → TakesKind order b g r → TakesKind order b h s → (g ≡ h) × (r ≡ s)
  kind_same b g h r s (inl i) (inl j) = (code_one g h ((number_only order).value b _ _ r s i j), (number_only order).rest b _ _ r s i j)
  kind_same b g h r s (inl i) (inr (m, srid, j, k)) =
      let e : heading_code g ≡ srid_flag + heading_code h = (number_only order).value b _ _ r m i j in absurd (omega (arith, e, code_few g))
  kind_same b g h r s (inr (m, srid, i, k)) (inl j) =
      let e : srid_flag + heading_code g ≡ heading_code h = (number_only order).value b _ _ m s i j in absurd (omega (arith, e, code_few h))
  kind_same b g h r s (inr (m, srid, i, k)) (inr (n, other, j, l)) =
      let e : srid_flag + heading_code g ≡ srid_flag + heading_code h = (number_only order).value b _ _ m n i j in
      let at : n ≡ m = (number_only order).rest b _ _ n m j i in
      (code_one g h (omega (arith, e)), (number_only order).rest m srid other r s k (subst (λ t. TakesNumber order t other s) at l))

pub head_same : (b : List ℕ) (o p : Order) (g h : Heading) (r s : List ℕ) → TakesHead b (o, g) r → TakesHead b (p, h) s → (o ≡ p) × (g ≡ h) × (r ≡ s)
head_same b o p g h r s (m, i, k) (n, j, l) =
    let order : p ≡ o = order_only.value b p o n m j i in
    let at : n ≡ m = order_only.rest b p o n m j i in
    let there : TakesKind o m h s = subst (λ q. TakesKind q m h s) order (subst (λ t. TakesKind p t h s) at l) in
    let kind = kind_same o m g h r s k there in
    (sym order, kind.0, kind.1)

-- ---- the lists

pub record IsPoint {P : Type 0} (Item : List ℕ → P → List ℕ → Type 0) (bytes : List ℕ) (lists : List (List P)) (rest : List ℕ) : Type 0 where
  pub point : P
  pub is : lists ≡ (point ∷ []) ∷ []
  pub item : Item bytes point rest

module _ {P : Type 0} (Item : Order → List ℕ → P → List ℕ → Type 0) where
  pub point_body : (order : Order) (b : List ℕ) (lists : List (List P)) (r : List ℕ) → TakesBody Item order Point b lists r → IsPoint (Item order) b lists r
  point_body order b [] r h = absurd h
  point_body order b ([] ∷ []) r h = absurd h
  point_body order b ([] ∷ qs ∷ lists) r h = absurd h
  point_body order b ((p ∷ []) ∷ []) r h = record { point = p; is = refl; item = h }
  point_body order b ((p ∷ []) ∷ qs ∷ lists) r h = absurd h
  point_body order b ((p ∷ q ∷ ps) ∷ []) r h = absurd h
  point_body order b ((p ∷ q ∷ ps) ∷ qs ∷ lists) r h = absurd h

  pub line_body : (order : Order) (b : List ℕ) (lists : List (List P)) (r : List ℕ) → TakesBody Item order LineString b lists r
      → (ps : List P) × (lists ≡ ps ∷ []) × TakesCounted order (Item order) b ps r
  line_body order b [] r h = absurd h
  line_body order b (ps ∷ []) r h = (ps, refl, h)
  line_body order b (ps ∷ qs ∷ lists) r h = absurd h

  module _ (only : (order : Order) → IsOnly (Item order)) where
    body_same : (order : Order) (k : Keyword) (b : List ℕ) (xs ys : List (List P)) (r s : List ℕ) → TakesBody Item order k b xs r → TakesBody Item order k b ys s
        → (xs ≡ ys) × (r ≡ s)
    body_same order Point b xs ys r s h k =
        let x = point_body order b xs r h in
        let y = point_body order b ys s k in
        (x.is ∙ ap (λ p. (p ∷ []) ∷ []) ((only order).value b _ _ r s x.item y.item) ∙ sym y.is, (only order).rest b _ _ r s x.item y.item)
    body_same order LineString b xs ys r s h k =
        let (ps, x, i) = line_body order b xs r h in
        let (qs, y, j) = line_body order b ys s k in
        let points = counted_only (Item order) (only order) order in
        (x ∙ ap (λ p. p ∷ []) (points.value b ps qs r s i j) ∙ sym y, points.rest b ps qs r s i j)
    body_same order Polygon b xs ys r s h k =
        let rings = counted_only (TakesCounted order (Item order)) (counted_only (Item order) (only order) order) order in
        (rings.value b xs ys r s h k, rings.rest b xs ys r s h k)

    part_same : (k : Keyword) (b : List ℕ) (xs ys : List (List P)) (r s : List ℕ) → TakesPart Item k b xs r → TakesPart Item k b ys s → (xs ≡ ys) × (r ≡ s)
    part_same k b xs ys r s (o, m, i, h) (p, n, j, l) =
        let head = head_same b p o (record { is_multi = false; keyword = k }) (record { is_multi = false; keyword = k }) n m j i in
        body_same o k m xs ys r s h (subst (λ q. TakesBody Item q k m ys s) head.0 (subst (λ t. TakesBody Item p k t ys s) head.2 l))

    pub part_only : (k : Keyword) → IsOnly (TakesPart Item k)
    part_only k = record { value = λ b x y r s h l. (part_same k b x y r s h l).0; rest = λ b x y r s h l. (part_same k b x y r s h l).1 }

    pub lists_same : (order : Order) (multi : Bool) (k : Keyword) (b : List ℕ) (xs ys : List (List P)) (r s : List ℕ) → TakesLists Item order multi k b xs r
        → TakesLists Item order multi k b ys s → (xs ≡ ys) × (r ≡ s)
    lists_same order false k b xs ys r s h l = body_same order k b xs ys r s h l
    lists_same order true k b xs ys r s (us, x, i) (vs, y, j) =
        let parts = counted_only (TakesPart Item k) (part_only k) order in
        (x ∙ ap joined (parts.value b us vs r s i j) ∙ sym y, parts.rest b us vs r s i j)

    -- bytes are those of one geometry
    pub binary_one : (b : List ℕ) (k l : Keyword) (xs ys : List (List P)) → IsBinary Item b k xs → IsBinary Item b l ys → (k ≡ l) × (xs ≡ ys)
    binary_one b k l xs ys g h =
        let head = head_same b h.order g.order _ _ h.body g.body h.head g.head in
        let kind : l ≡ k = ap (λ (v : Heading). v.keyword) head.1 in
        let multi : h.is_multi ≡ g.is_multi = ap (λ (v : Heading). v.is_multi) head.1 in
        let there : TakesLists Item g.order g.is_multi k g.body h.raw [] =
        subst (λ t. TakesLists Item g.order g.is_multi k t h.raw []) head.2
        (subst (λ v. TakesLists Item g.order g.is_multi v h.body h.raw []) kind
        (subst (λ m. TakesLists Item g.order m l h.body h.raw []) multi
        (subst (λ o. TakesLists Item o h.is_multi l h.body h.raw []) head.0 h.taken))) in
        let same = (lists_same g.order g.is_multi k g.body g.raw h.raw [] [] g.taken there).0 in
        (sym kind, g.same ∙ ap₂ gathered (sym kind) same ∙ sym h.same)

-- ---- where a part is missing

-- no kind is flagged where no SRID follows
pub no_kind_behind : (order : Order) (bytes rest : List ℕ) (code : ℕ) → TakesNumber order bytes code rest → srid_flag ≤ code
    → ((n : ℕ) (r : List ℕ) → TakesNumber order rest n r → ⊥) → (h : Heading) (r : List ℕ) → TakesKind order bytes h r → ⊥
no_kind_behind order bytes rest code taken great none h r (inl i) =
    let e : heading_code h ≡ code = (number_only order).value bytes _ _ r rest i taken in omega (arith, e, great, code_few h)
no_kind_behind order bytes rest code taken great none h r (inr (m, srid, i, j)) =
    let at : m ≡ rest = (number_only order).rest bytes _ _ m rest i taken in none srid r (subst (λ t. TakesNumber order t srid r) at j)

pub no_kind : (order : Order) (bytes : List ℕ) → ((n : ℕ) (r : List ℕ) → TakesNumber order bytes n r → ⊥) → (h : Heading) (r : List ℕ) → TakesKind order bytes h r → ⊥
no_kind order bytes none h r (inl i) = none (heading_code h) r i
no_kind order bytes none h r (inr (m, srid, i, j)) = none (srid_flag + heading_code h) m i

pub no_head : (bytes rest : List ℕ) (order : Order) → TakesOrder bytes order rest → ((h : Heading) (r : List ℕ) → TakesKind order rest h r → ⊥)
    → (head : Order × Heading) (r : List ℕ) → TakesHead bytes head r → ⊥
no_head bytes rest order taken none (o, h) r (m, i, k) =
    let same : o ≡ order = order_only.value bytes o order m rest i taken in
    let at : m ≡ rest = order_only.rest bytes o order m rest i taken in
    none h r (subst (λ q. TakesKind q rest h r) same (subst (λ t. TakesKind o t h r) at k))

pub no_position : (scale : Scale) (order : Order) (b m : List ℕ) (x : ℕ) → TakesDouble order b x m → ((y : ℕ) (r : List ℕ) → TakesDouble order m y r → ⊥)
    → (p : Option Position) (r : List ℕ) → TakesPosition scale order b p r → ⊥
no_position scale order b m x taken none p r (u, v, n, i, j, at) =
    let same : n ≡ m = (double_only order).rest b u x n m i taken in none v r (subst (λ t. TakesDouble order t v r) same j)

-- a double without units has none
units_none : (rounding : Rounding) (digits bits : ℕ) (r : Result ℤ Fault) → rounding ≡ Exact → MatchResult r (λ u. IsReadAs bits digits u) (λ f. HasFault bits digits f)
    → IfNone (result_ok r) ((z : ℤ) → IsUnitsBy rounding digits bits z → ⊥)
units_none Exact digits bits (Ok u) e h = tt
units_none Exact digits bits (Err f) e h = λ z read. no_fault bits digits z f read h
units_none Nearest digits bits r e h = absurd cc

rounded_none : (rounding : Rounding) (digits bits : ℕ) (r : Result ℤ Fault) → rounding ≡ Nearest
    → MatchResult r (λ u. IsRoundedTo bits digits u) (λ f. HasFaultRounded bits digits f) → IfNone (result_ok r) ((z : ℤ) → IsUnitsBy rounding digits bits z → ⊥)
rounded_none Exact digits bits r e h = absurd cc
rounded_none Nearest digits bits (Ok u) e h = tt
rounded_none Nearest digits bits (Err f) e h = λ z read. no_rounded_fault bits digits z f read h

pub no_units : (scale : Scale) (digits bits : ℕ) (r : Result ℤ Fault) (o : Option ℤ) → digits ≡ digits_of scale → rounding_of scale ≡ Exact
    → MatchResult r (λ u. IsReadAs bits digits u) (λ f. HasFault bits digits f) → o ≡ result_ok r → IfNone o ((z : ℤ) → IsUnits scale bits z → ⊥)
no_units scale digits bits r o d e h k =
    subst (λ q. IfNone q ((z : ℤ) → IsUnits scale bits z → ⊥)) (sym k)
    (units_none (rounding_of scale) (digits_of scale) bits r e (subst (λ n. MatchResult r (λ u. IsReadAs bits n u) (λ f. HasFault bits n f)) d h))

pub no_rounded_units : (scale : Scale) (digits bits : ℕ) (r : Result ℤ Fault) (o : Option ℤ) → digits ≡ digits_of scale → rounding_of scale ≡ Nearest
    → MatchResult r (λ u. IsRoundedTo bits digits u) (λ f. HasFaultRounded bits digits f) → o ≡ result_ok r → IfNone o ((z : ℤ) → IsUnits scale bits z → ⊥)
no_rounded_units scale digits bits r o d e h k =
    subst (λ q. IfNone q ((z : ℤ) → IsUnits scale bits z → ⊥)) (sym k)
    (rounded_none (rounding_of scale) (digits_of scale) bits r e (subst (λ n. MatchResult r (λ u. IsRoundedTo bits n u) (λ f. HasFaultRounded bits n f)) d h))

pub vertex_position : (scale : Scale) (x y : ℕ) (a b : ℤ) (v : Option Vertex) → IsUnits scale x a → IsUnits scale y b → (IsSome v ↔ (IsInRange scale a × IsInRange scale b))
    → IfSome v (λ w. w.x ≡ a) → IfSome v (λ w. w.y ≡ b) → IsPosition scale x y (position_at v)
vertex_position scale x y a b (Some v) h k some p q = record {
  x_units = subst (IsUnits scale x) (sym p) h;
  y_units = subst (IsUnits scale y) (sym q) k;
  x_in_range = subst (IsInRange scale) (sym p) (some.0 refl).0;
  y_in_range = subst (IsInRange scale) (sym q) (some.0 refl).1;
}
vertex_position scale x y a b None h k some p q = λ r at.
    let here : IsInRange scale a = subst (IsInRange scale) (units_one scale x r.x a at.x_units h) at.x_in_range in
    let there : IsInRange scale b = subst (IsInRange scale) (units_one scale y r.y b at.y_units k) at.y_in_range in
    let s = some.1 (here, there) in absurd cc

-- the lists of a geometry whose head was read
pub binary_lists : {P : Type 0} (Item : Order → List ℕ → P → List ℕ → Type 0) (bytes body : List ℕ) (order : Order) (h : Heading) → TakesHead bytes (order, h) body
    → (k : Keyword) (lists : List (List P)) → IsBinary Item bytes k lists → (raw : List (List P)) × TakesLists Item order h.is_multi h.keyword body raw []
binary_lists Item bytes body order h head k lists b =
    let same = head_same bytes b.order order _ h b.body body b.head head in (
      b.raw,
      subst (λ t. TakesLists Item order h.is_multi h.keyword t b.raw []) same.2
          (subst (λ v. TakesLists Item order v.is_multi v.keyword b.body b.raw []) same.1
          (subst (λ o. TakesLists Item o b.is_multi k b.body b.raw []) same.0 b.taken)),
    )

pub no_binary : {P : Type 0} (Item : Order → List ℕ → P → List ℕ → Type 0) (bytes body : List ℕ) (order : Order) (h : Heading) → TakesHead bytes (order, h) body
    → ((raw : List (List P)) (r : List ℕ) → TakesLists Item order h.is_multi h.keyword body raw r → ⊥) → (k : Keyword) (lists : List (List P)) → IsBinary Item bytes k lists → ⊥
no_binary Item bytes body order h head none k lists b = let (raw, taken) = binary_lists Item bytes body order h head k lists b in none raw [] taken

pub no_end_of_bytes : {P : Type 0} (Item : Order → List ℕ → P → List ℕ → Type 0) → ((order : Order) → IsOnly (Item order)) → (bytes body rest : List ℕ) (order : Order) (h : Heading)
    → TakesHead bytes (order, h) body → (found : List (List P)) → TakesLists Item order h.is_multi h.keyword body found rest → (rest ≡ [] → ⊥)
    → (k : Keyword) (lists : List (List P)) → IsBinary Item bytes k lists → ⊥
no_end_of_bytes Item only bytes body rest order h head found there left k lists b =
    let (raw, taken) = binary_lists Item bytes body order h head k lists b in
    left (lists_same Item only order h.is_multi h.keyword body found raw rest [] there taken).1

-- ---- a part of another kind

one_means : (b : Bool) (a k : Keyword) → (not b && (code_of a == code_of k)) ≡ true → (b ≡ false) × (a ≡ k)
one_means true a k e = absurd cc
one_means false a k e = (refl, keyword_one a k (grind arith))

one_test : (k : Keyword) → (not false && (code_of k == code_of k)) ≡ true
one_test Point = refl
one_test LineString = refl
one_test Polygon = refl

pub one_heading : (h : Heading) (k : Keyword) → is_one h k ≡ true → h ≡ record { is_multi = false; keyword = k }
one_heading h k e = let same = one_means h.is_multi h.keyword k e in λ i. record { is_multi = same.0 i; keyword = same.1 i }

pub no_one : (h : Heading) (k : Keyword) → is_one h k ≡ false → h ≡ record { is_multi = false; keyword = k } → ⊥
no_one h k f e = let t : is_one h k ≡ true = ap (λ (g : Heading). is_one g k) e ∙ one_test k in absurd cc

module _ {P : Type 0} (Item : Order → List ℕ → P → List ℕ → Type 0) (bytes body : List ℕ) (order : Order) (h : Heading) (head : TakesHead bytes (order, h) body) (k : Keyword) where
  pub no_part : (h ≡ record { is_multi = false; keyword = k } → ⊥) → (lists : List (List P)) (r : List ℕ) → TakesPart Item k bytes lists r → ⊥
  no_part other lists r (o, m, i, taken) = other (head_same bytes order o h (record { is_multi = false; keyword = k }) body m head i).1

  pub no_part_body : ((lists : List (List P)) (r : List ℕ) → TakesBody Item order k body lists r → ⊥) → (lists : List (List P)) (r : List ℕ) → TakesPart Item k bytes lists r → ⊥
  no_part_body none lists r (o, m, i, taken) =
      let same = head_same bytes o order (record { is_multi = false; keyword = k }) h m body i head in
      none lists r (subst (λ q. TakesBody Item q k body lists r) same.0 (subst (λ t. TakesBody Item o k t lists r) same.2 taken))
