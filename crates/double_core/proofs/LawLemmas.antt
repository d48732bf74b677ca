-- What a double is read as is one thing.
use Rattle.std.proofs.Common.{◌≡◌, ◌+◌, ◌-◌, ◌*◌, ◌/◌, ◌%◌, ◌^◌, ◌<◌, ◌≤◌, ℕ, refl, arith, sym, ap, ap₂, ◌∙◌, subst, ◌⊎◌, inl, inr, zero, suc, ⊎_elim}
use Rattle.std.specs.Prelude.{ℤ, if◌then◌else◌}
use Rattle.std.proofs.Math.Nat.{mul-le-mul_right}
use Rattle.std.proofs.lemmas.Nat.{mul-pow}
use Rattle.std.proofs.lemmas.Bool.{cases_lt}
use Rattle.double_core.specs.declared.double.Fault.{Fault}
use Rattle.double_core.specs.declared.double.Fault.TheVariants.{NotFinite, NotWhole, OutOfRange}
use Rattle.double_core.specs.Doubles.{IsFinite, place, significand, step, numerator, denominator, is_negative, is_edge}
use Rattle.double_core.specs.Decimals.{IsNear, IsNearest, IsShortest, ReadsBack, off, apart, HasShortest}
use Rattle.double_core.specs.Units.{IsWhole, IsReadAs, HasFault, signed, IsRounded, IsRoundedTo, HasFaultRounded, nearest}
use Rattle.double_core.proofs.BitsLemmas.{two_some}
use Rattle.double_core.proofs.NearLemmas.{IsNearestPart, some_near}
use Rattle.double_core.proofs.EdgeLemmas.{step_some, below_some}

-- ---- of two whole numbers that are equally near, one is odd

module _ (odd above below value d : ℕ) (some : 1 ≤ d) (bit : odd ≤ 1) (some_above : 1 ≤ above) (some_below : 1 ≤ below) where
  not_below : (m n : ℕ) → IsNearestPart odd above below value d m → IsNearestPart odd above below value d n → ¬ (m < n)
  not_below m n first second less =
      let there : apart (m * d) value ≤ apart (n * d) value = first.nearest n second.reads in
      let back : apart (n * d) value ≤ apart (m * d) value = second.nearest m first.reads in
      let far : apart (n * d) value ≡ apart (m * d) value = omega (arith, there, back) in
      let even : m % 2 ≡ 0 = first.even n second.reads far (λ e. omega (arith, e, less)) in
      let even_too : n % 2 ≡ 0 = second.even m first.reads (sym far) (λ e. omega (arith, e, less)) in
      let i = (m + n) / 2 in
      let half : m + n ≡ i + i = omega (arith, even, even_too) in
      let parts : (m + n) * d ≡ (i + i) * d = ap (λ (x : ℕ). x * d) half in
      let least : (m + 1) * d ≤ n * d = let l : m + 1 ≤ n = omega (arith, less) in mul-le-mul_right d l in
      let between : i * d ≡ value = omega (arith, far, parts, least, some) in
      let reads : IsNear odd above below value (i * d) = record { high = omega (arith, between, bit, some_above); low = omega (arith, between, bit, some_below) } in
      let nearer : apart (m * d) value ≤ apart (i * d) value = first.nearest i reads in
      omega (arith, nearer, between, far, least, some)

  pub one_nearest : (m n : ℕ) → IsNearestPart odd above below value d m → IsNearestPart odd above below value d n → m ≡ n
  one_nearest m n first second =
      let l = not_below m n first second in
      let r = not_below n m second first in
      ⊎_elim {A = m < n} {B = n ≤ m} {C = m ≡ n} (λ h. absurd (l h))
      (λ h. ⊎_elim {A = n < m} {B = m ≤ n} {C = m ≡ n} (λ k. absurd (r k)) (λ k. omega arith) (cases_lt n m))
      (cases_lt m n)

-- ---- one shortest decimal

pub one_decimals : (bits j k m n : ℕ) → IsShortest bits j m → IsShortest bits k n → j ≡ k
one_decimals bits j k m n first second =
    ⊎_elim {A = j < k} {B = k ≤ j} {C = j ≡ k} (λ h. absurd (second.fewest j m h first.best.reads))
    (λ h. ⊎_elim {A = k < j} {B = j ≤ k} {C = j ≡ k} (λ l. absurd (first.fewest k n l second.best.reads)) (λ l. omega arith) (cases_lt k j))
    (cases_lt j k)

pub one_number : (bits j k m n : ℕ) → IsShortest bits j m → IsShortest bits k n → m ≡ n
one_number bits j k m n first second =
    let same = one_decimals bits j k m n first second in
    let best : IsNearest (ReadsBack bits k) (off bits k) m = subst (λ (i : ℕ). IsNearest (ReadsBack bits i) (off bits i) m) same first.best in
    let step = step_some bits k in
    one_nearest _ _ _ _ (denominator bits) (two_some (1075 - place bits)) (omega arith) (omega (arith, step)) (below_some bits k) m n best second.best

-- ---- some shortest decimal

abbrev NearestOf : ℕ → ℕ → Type 0
NearestOf bits k = (n : ℕ) × IsNearest (ReadsBack bits k) (off bits k) n

-- with k decimals there is a nearest one, or none that reads
read_at : (bits k : ℕ) → NearestOf bits k ⊎ ((n : ℕ) → ¬ ReadsBack bits k n)
read_at bits k =
    let odd = significand bits % 2 in
    let bit : odd ≤ 1 = omega arith in
    let one = step_some bits k in
    let above = 2 * (step bits * 10 ^ k) in
    let above_some : 1 ≤ above = omega (arith, one) in
    let below = (if is_edge bits then 1 else 2) * (step bits * 10 ^ k) in
    let value = numerator bits * 10 ^ k in
    let d = denominator bits in
    some_near odd above below value d (two_some (1075 - place bits)) bit above_some (below_some bits k)

-- the exact decimal reads
exact_reads : (bits : ℕ) → ReadsBack bits (1075 - place bits) (numerator bits * 5 ^ (1075 - place bits))
exact_reads bits =
    let k = 1075 - place bits in
    let one = step_some bits k in
    let room = below_some bits k in
    let tens : 10 ^ k ≡ 5 ^ k * 2 ^ k = mul-pow 5 2 k in
    let same : numerator bits * 10 ^ k ≡ numerator bits * 5 ^ k * denominator bits = ap (λ (x : ℕ). numerator bits * x) tens ∙ omega arith in
    record { high = omega (arith, same, one); low = omega (arith, same, room) }

abbrev NoneBelow : ℕ → ℕ → Type 0
NoneBelow bits j = (i n : ℕ) → i < j → ¬ ReadsBack bits i n

least_of : (bits j : ℕ) → IsFinite bits → HasShortest bits ⊎ NoneBelow bits j
least_of bits zero finite = inr (λ i n h. absurd (omega (arith, h)))
least_of bits (suc j) finite =
    ⊎_elim {A = HasShortest bits} {B = NoneBelow bits j} {C = HasShortest bits ⊎ NoneBelow bits (suc j)} inl
    (λ none. ⊎_elim {A = NearestOf bits j} {B = (n : ℕ) → ¬ ReadsBack bits j n} {C = HasShortest bits ⊎ NoneBelow bits (suc j)}
    (λ p. inl (record { decimals = j; number = p.0; shortest = record { finite = finite; best = p.1; fewest = λ i n. none i n } }))
    (λ here. inr (λ i n less reads. ⊎_elim {A = i < j} {B = j ≤ i} {C = ⊥}
    (λ l. none i n l reads)
    (λ l. let at : i ≡ j = omega (arith, l, less) in here n (subst (λ (e : ℕ). ReadsBack bits e n) at reads))
    (cases_lt i j)))
    (read_at bits j))
    (least_of bits j finite)

pub has_shortest : (bits : ℕ) → IsFinite bits → HasShortest bits
has_shortest bits finite =
    let k = 1075 - place bits in
    ⊎_elim {A = HasShortest bits} {B = NoneBelow bits (suc k)} {C = HasShortest bits} (λ h. h)
    (λ none. absurd (none k (numerator bits * 5 ^ k) (omega arith) (exact_reads bits)))
    (least_of bits (suc k) finite)

pub ruleset one_shortest = (has_shortest, one_decimals, one_number)

-- ---- one outcome

one_size : (bits scale x y : ℕ) → IsWhole bits scale x → IsWhole bits scale y → x ≡ y
one_size bits scale x y first second =
    let decimals = one_decimals bits _ _ _ _ first.shortest second.shortest in
    let number = one_number bits _ _ _ _ first.shortest second.shortest in
    first.same ∙ ap₂ (λ (n k : ℕ). n * 10 ^ (scale - k)) number decimals ∙ sym second.same

pub one_units : (bits scale : ℕ) (y z : ℤ) → IsReadAs bits scale y → IsReadAs bits scale z → y ≡ z
one_units bits scale y z first second =
    first.same ∙ ap (signed (is_negative bits)) (one_size bits scale _ _ first.whole second.whole) ∙ sym second.same

not_both : (bits scale : ℕ) (x : ℕ) → IsWhole bits scale x → ¬ HasFault bits scale NotWhole
not_both bits scale x whole fault = fault.1 whole.decimals whole.number whole.few whole.shortest.best.reads

pub no_fault : (bits scale : ℕ) (z : ℤ) (fault : Fault) → IsReadAs bits scale z → ¬ HasFault bits scale fault
no_fault bits scale z NotFinite read fault = fault read.whole.shortest.finite
no_fault bits scale z NotWhole read fault = not_both bits scale read.size read.whole fault
no_fault bits scale z OutOfRange read fault = omega (arith, one_size bits scale _ _ read.whole fault.whole, read.in_range, fault.great)

pub one_fault : (bits scale : ℕ) (a b : Fault) → HasFault bits scale a → HasFault bits scale b → a ≡ b
one_fault bits scale NotFinite NotFinite h k = refl
one_fault bits scale NotFinite NotWhole h k = absurd (h k.0)
one_fault bits scale NotFinite OutOfRange h k = absurd (h k.whole.shortest.finite)
one_fault bits scale NotWhole NotFinite h k = absurd (k h.0)
one_fault bits scale NotWhole NotWhole h k = refl
one_fault bits scale NotWhole OutOfRange h k = absurd (not_both bits scale k.size k.whole h)
one_fault bits scale OutOfRange NotFinite h k = absurd (k h.whole.shortest.finite)
one_fault bits scale OutOfRange NotWhole h k = absurd (not_both bits scale h.size h.whole k)
one_fault bits scale OutOfRange OutOfRange h k = refl

-- ---- one outcome of rounding

one_rounded_size : (bits scale x y : ℕ) → IsRounded bits scale x → IsRounded bits scale y → x ≡ y
one_rounded_size bits scale x y first second =
    let decimals = one_decimals bits _ _ _ _ first.shortest second.shortest in
    let number = one_number bits _ _ _ _ first.shortest second.shortest in
    first.same ∙ ap₂ (λ (n k : ℕ). nearest (n * 10 ^ scale) (10 ^ k)) number decimals ∙ sym second.same

pub one_rounded : (bits scale : ℕ) (y z : ℤ) → IsRoundedTo bits scale y → IsRoundedTo bits scale z → y ≡ z
one_rounded bits scale y z first second =
    first.same ∙ ap (signed (is_negative bits)) (one_rounded_size bits scale _ _ first.rounded second.rounded) ∙ sym second.same

pub no_rounded_fault : (bits scale : ℕ) (z : ℤ) (fault : Fault) → IsRoundedTo bits scale z → ¬ HasFaultRounded bits scale fault
no_rounded_fault bits scale z NotFinite read fault = fault read.rounded.shortest.finite
no_rounded_fault bits scale z NotWhole read fault = fault
no_rounded_fault bits scale z OutOfRange read fault = omega (arith, one_rounded_size bits scale _ _ read.rounded fault.rounded, read.in_range, fault.great)
