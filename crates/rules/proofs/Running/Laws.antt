-- The 5-byte form is read as it was written: the bytes of values in their range are those values, and bytes that are valid are the bytes of their
-- values; and the value at a place. Assumes nothing.
use Rattle.std.specs.Prelude.{true, false, List, [], ◌∷◌, ◌++◌, ◌≡◌, refl, ℕ, zero, suc, ◌+◌, ◌*◌, ◌/◌, ◌%◌, ◌^◌, ◌<◌, ◌≤◌, eqb, length, get_or, take, drop}
use Rattle.std.proofs.lemmas.Bool.{false≢true}
use Rattle.std.proofs.Math.Option.{none, some}
use Rattle.std.proofs.Common.{ap, ap₂, sym, ◌∙◌, mod-eq_of_lt, arith, length-drop, take-append-drop, take-add, get_or-drop, drop-drop, leb-true}
use Rattle.std.proofs.Math.Nat.{div-div-eq-div-mul}
use Rattle.std.proofs.Math.Arith.{digits_div, digits_mod}
use Rattle.std.proofs.Math.ListN.{get_elem?}
use Rattle.rules.specs.Evaluation.Every.{no_value, one_value}
use Rattle.script.specs.Tests.Laws.{both_true}
use Rattle.script.specs.Answers.{kind_of, bits_of}
use Rattle.script.specs.declared.Value.{Value}
use Rattle.script.specs.declared.Value.TheVariants.{Word, Truth, Location}
use Rattle.rules.specs.Running.{bytes_of, all_bytes, bits_at, value_by, value_at, values_of, valid_by, all_valid, stored}
use Rattle.rules.specs.Running.Laws.{AllInRange, Bytes, Five, InRange, five, location_in_range, truth_in_range, word_in_range}

-- ---- four digits

-- a number from its digits, each digit's rest named
pub joined : (x a b c d₀ d₁ d₂ d₃ : ℕ) → x ≡ d₀ + 256 * a → a ≡ d₁ + 256 * b → b ≡ d₂ + 256 * c → c ≡ d₃
    → d₀ + 256 * d₁ + 65536 * d₂ + 16777216 * d₃ ≡ x
joined x a b c d₀ d₁ d₂ d₃ e f g h = omega arith

pub split : (x : ℕ) → x ≡ x % 256 + 256 * (x / 256)
split x = omega arith

pub digits-joined : (x : ℕ) → x < 2 ^ 32
    → x % 256 + 256 * (x / 256 % 256) + 65536 * (x / 65536 % 256) + 16777216 * (x / 16777216 % 256) ≡ x
digits-joined x h =
    let top : x / 16777216 < 256 = omega arith in
    joined x (x / 256) (x / 65536) (x / 16777216) (x % 256) (x / 256 % 256) (x / 65536 % 256) (x / 16777216 % 256)
    (split x)
    (split (x / 256) ∙ ap (λ q. x / 256 % 256 + 256 * q) (div-div-eq-div-mul x 256 256))
    (split (x / 65536) ∙ ap (λ q. x / 65536 % 256 + 256 * q) (div-div-eq-div-mul x 65536 256))
    (sym (mod-eq_of_lt top))

pub digit : (x m q r top low : ℕ) → x ≡ q * m + r → r < m → q ≡ top * 256 + low → low < 256 → x / m % 256 ≡ low
digit x m q r top low e h f k = rw (e, digits_div q h, f, digits_mod top k)

module _ (a b c d : ℕ) (ha : a < 256) (hb : b < 256) (hc : c < 256) (hd : d < 256) where
  pub digit_0 : (a + 256 * b + 65536 * c + 16777216 * d) % 256 ≡ a
  digit_0 = omega arith

  pub digit_1 : (a + 256 * b + 65536 * c + 16777216 * d) / 256 % 256 ≡ b
  digit_1 = digit _ 256 (b + 256 * c + 65536 * d) a (c + 256 * d) b (omega arith) (omega arith) (omega arith) (omega arith)

  pub digit_2 : (a + 256 * b + 65536 * c + 16777216 * d) / 65536 % 256 ≡ c
  digit_2 = digit _ 65536 (c + 256 * d) (a + 256 * b) d c (omega arith) (omega arith) (omega arith) (omega arith)

  pub digit_3 : (a + 256 * b + 65536 * c + 16777216 * d) / 16777216 % 256 ≡ d
  digit_3 = digit _ 16777216 d (a + 256 * b + 65536 * c) 0 d (omega arith) (omega arith) (omega arith) (omega arith)

  pub digits_fit : a + 256 * b + 65536 * c + 16777216 * d < 2 ^ 32
  digits_fit = omega arith

-- ---- the bytes of a value

pub value-bytes : {v : Value} → InRange v → value_at (bytes_of v) ≡ v
value-bytes (word_in_range h) = ap Word (digits-joined _ h)
value-bytes (truth_in_range {b = true}) = refl
value-bytes (truth_in_range {b = false}) = refl
value-bytes (location_in_range h) = ap Location (digits-joined _ h)

pub values-bytes : {vs : List Value} (rest : List ℕ) → AllInRange vs → values_of (length vs) (all_bytes vs ++ rest) ≡ vs
unfolding values_of all_bytes
values-bytes rest no_value = refl
values-bytes rest (one_value r rs) = ap₂ ◌∷◌ (value-bytes r) (values-bytes rest rs)

pub length-bytes : (vs : List Value) → length (all_bytes vs) ≡ 5 * length vs
unfolding all_bytes
length-bytes [] = refl
length-bytes (v ∷ vs) = let h = length-bytes vs in omega arith

pub length-values : (n : ℕ) (bs : List ℕ) → length (values_of n bs) ≡ n
unfolding values_of
length-values zero bs = refl
length-values (suc n) bs = ap suc (length-values n (drop 5 bs))

pub bytes_drop : (n : ℕ) {bs : List ℕ} → Bytes bs → Bytes (drop n bs)
bytes_drop n {bs} h = record { byte = λ i. rw get_or-drop (h.byte (n + i)) }

pub five_of : (bs : List ℕ) → 5 ≤ length bs → Five bs
five_of [] h = absurd (omega arith)
five_of (k ∷ []) h = absurd (omega arith)
five_of (k ∷ a ∷ []) h = absurd (omega arith)
five_of (k ∷ a ∷ b ∷ []) h = absurd (omega arith)
five_of (k ∷ a ∷ b ∷ c ∷ []) h = absurd (omega arith)
five_of (k ∷ a ∷ b ∷ c ∷ d ∷ rest) h = five k a b c d rest

-- a valid value keeps its kind and its bits
pub kind-kept : (used k bits : ℕ) → valid_by used k bits ≡ true → kind_of (value_by k bits) ≡ k
kind-kept used zero bits h = refl
kind-kept used (suc zero) bits h = refl
kind-kept used (suc (suc zero)) bits h = refl
kind-kept used (suc (suc (suc k))) bits h = absurd (false≢true h)

pub truth-bits : (bits : ℕ) → bits ≤ 1 → bits_of (Truth (eqb bits 1)) ≡ bits
truth-bits zero h = refl
truth-bits (suc zero) h = refl
truth-bits (suc (suc k)) h = absurd (omega arith)

pub bits-kept : (used k bits : ℕ) → valid_by used k bits ≡ true → bits_of (value_by k bits) ≡ bits
bits-kept used zero bits h = refl
bits-kept used (suc zero) bits h = truth-bits bits (leb-true bits 1 h)
bits-kept used (suc (suc zero)) bits h = refl
bits-kept used (suc (suc (suc k))) bits h = absurd (false≢true h)

pub bytes-kept : (v : Value) (k a b c d : ℕ) → a < 256 → b < 256 → c < 256 → d < 256
    → kind_of v ≡ k → bits_of v ≡ a + 256 * b + 65536 * c + 16777216 * d → bytes_of v ≡ k ∷ a ∷ b ∷ c ∷ d ∷ []
bytes-kept v k a b c d ha hb hc hd e f =
    rw (e, f, digit_0 a b c d ha hb hc hd, digit_1 a b c d ha hb hc hd, digit_2 a b c d ha hb hc hd, digit_3 a b c d ha hb hc hd)

pub bytes-five : {bs : List ℕ} (used : ℕ) → Five bs → Bytes bs → valid_by used (get_or bs 0 0) (bits_at bs) ≡ true → bytes_of (value_at bs) ≡ take 5 bs
bytes-five used (five k a b c d rest) y h =
    let bits = a + 256 * b + 65536 * c + 16777216 * d in
    bytes-kept (value_by k bits) k a b c d (y.byte 1) (y.byte 2) (y.byte 3) (y.byte 4) (kind-kept used k bits h) (bits-kept used k bits h)

pub bytes-value : (used : ℕ) (bs : List ℕ) → 5 ≤ length bs → Bytes bs → valid_by used (get_or bs 0 0) (bits_at bs) ≡ true
    → bytes_of (value_at bs) ≡ take 5 bs
bytes-value used bs l y h = bytes-five used (five_of bs l) y h

-- cells that a run does not change keep their bytes
pub bytes-values : (used n : ℕ) (bs : List ℕ) → 5 * n ≤ length bs → Bytes bs → all_valid used n bs ≡ true
    → all_bytes (values_of n bs) ≡ take (5 * n) bs
unfolding all_valid all_bytes values_of
bytes-values used zero bs l y h = refl
bytes-values used (suc n) bs l y h =
    let v = valid_by used (get_or bs 0 0) (bits_at bs) in
    let w = all_valid used n (drop 5 bs) in
    let here = bytes-value used bs (omega arith) y (both_true v w h).0 in
    let rest = bytes-values used n (drop 5 bs) (simp length-drop (omega arith)) (bytes_drop 5 y) (both_true v w h).1 in
    let m : 5 + 5 * n ≡ 5 * suc n = omega arith in
    ap₂ ◌++◌ here rest ∙ sym (take-add 5 (5 * n) bs) ∙ ap (λ k. take k bs) m

pub stored_same : (used n : ℕ) (lent : List ℕ) → 5 * n ≤ length lent → Bytes lent → all_valid used n lent ≡ true
    → stored lent (values_of n lent) ≡ lent
stored_same used n lent l y h = rw (length-values, bytes-values used n lent l y h) (take-append-drop (5 * n) lent)

-- values that are read from bytes are in their range
pub value_in_range : (k bits : ℕ) → bits < 2 ^ 32 → InRange (value_by k bits)
value_in_range zero bits h = word_in_range h
value_in_range (suc zero) bits h = truth_in_range
value_in_range (suc (suc k)) bits h = location_in_range h

pub bytes_in_range : {bs : List ℕ} → Bytes bs → InRange (value_at bs)
bytes_in_range {bs} y = value_in_range (get_or bs 0 0) (bits_at bs) (digits_fit _ _ _ _ (y.byte 1) (y.byte 2) (y.byte 3) (y.byte 4))

pub values_in_range : (n : ℕ) {bs : List ℕ} → Bytes bs → AllInRange (values_of n bs)
unfolding values_of
values_in_range zero y = no_value
values_in_range (suc n) y = one_value (bytes_in_range y) (values_in_range n (bytes_drop 5 y))

-- ---- one of several values

pub values-some : (n i : ℕ) (bs : List ℕ) → i < n → get_elem? (values_of n bs) i ≡ some (value_at (drop (5 * i) bs))
unfolding values_of
values-some zero i bs h = absurd (omega arith)
values-some (suc n) zero bs h = refl
values-some (suc n) (suc i) bs h =
    let m : 5 + 5 * i ≡ 5 * suc i = omega arith in
    values-some n i (drop 5 bs) (omega arith) ∙ ap (λ r. some (value_at r)) (drop-drop (5 * i) 5 bs ∙ ap (λ k. drop k bs) m)

pub values-none : (n i : ℕ) (bs : List ℕ) → n ≤ i → get_elem? (values_of n bs) i ≡ none
unfolding values_of
values-none zero i bs h = refl
values-none (suc n) zero bs h = absurd (omega arith)
values-none (suc n) (suc i) bs h = values-none n i (drop 5 bs) (omega arith)
