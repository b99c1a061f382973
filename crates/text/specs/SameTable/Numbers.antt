-- Written numbers: their digits are decimal, have the number as their value, and are few. Assumes nothing.
use Rattle.std.specs.Prelude.{Bool, true, false, List, [], ◌∷◌, ◌++◌, ◌≡◌, refl, ℕ, zero, suc, ◌+◌, ◌*◌, ◌-◌, ◌/◌, ◌%◌, ◌≤◌, ◌<◌, ltb, length}
use Rattle.std.proofs.Math.Option.{some}
use Rattle.std.proofs.Common.{sym, ap, ◌∙◌, arith, length-append, ltb-true, ltb-false, lt-ltb, le-ltb, le-leb, ne_eqb}
use Rattle.std.proofs.Math.Decide.{ℕ_discrete}
use Rattle.script.specs.Limits.{word_limit}
use Rattle.script.specs.Tests.{pick, all}
use Rattle.script.specs.Tests.Laws.{true-both, both_true}
use Rattle.text.specs.Bytes.{digit0, digit9}
use Rattle.text.specs.Fields.{is_digit, decimal, value_after, decimal_up_to}
use Rattle.text.specs.Writing.{digits_in, digits}

-- n has at most k digits
pub data Below : ℕ → ℕ → Type 0 where
  one_digit : {k n : ℕ} → n < 10 → Below (suc k) n
  more_digits : {k n : ℕ} → 10 ≤ n → Below k (n / 10) → Below (suc k) n

-- the least number with more than k digits
abbrev pub tens : ℕ → ℕ
tens zero = 1
tens (suc k) = 10 * tens k

pub below-tens : (k n : ℕ) → n < tens (suc k) → Below (suc k) n
below-tens zero n h = one_digit {n = n} (omega arith)
below-tens (suc k) n h = go (ltb n 10) refl (below-tens k (n / 10))
  where
    go : (b : Bool) → ltb n 10 ≡ b → (n / 10 < tens (suc k) → Below (suc k) (n / 10)) → Below (suc (suc k)) n
    go true e ih = one_digit (ltb-true n 10 e)
    go false e ih = let l = ltb-false n 10 e in more_digits l (ih (omega arith))

-- every word has at most ten digits
pub below_word : (n : ℕ) → n ≤ word_limit → Below 10 n
below_word n h = below-tens 9 n (omega arith)

-- ---- one step

pub digits_one : (k n : ℕ) → n < 10 → digits_in (suc k) n ≡ (digit0 + n) ∷ []
unfolding digits_in
digits_one k n h = rw (lt-ltb n 10 h) refl

pub digits_more : (k n : ℕ) → 10 ≤ n → digits_in (suc k) n ≡ digits_in k (n / 10) ++ ((digit0 + n % 10) ∷ [])
unfolding digits_in
digits_more k n h = rw (le-ltb n 10 h) refl

-- how many digits are allowed does not matter, where they are enough
pub same_digits : (j k n : ℕ) → Below j n → Below k n → digits_in j n ≡ digits_in k n
same_digits j k n (one_digit {k = j'} h) (one_digit {k = k'} l) = digits_one j' n h ∙ sym (digits_one k' n l)
same_digits j k n (one_digit h) (more_digits l b) = absurd (omega arith)
same_digits j k n (more_digits h a) (one_digit l) = absurd (omega arith)
same_digits j k n (more_digits {k = j'} h a) (more_digits {k = k'} l b) =
    digits_more j' n h ∙ ap (λ (xs : List ℕ). xs ++ ((digit0 + n % 10) ∷ [])) (same_digits j' k' (n / 10) a b) ∙ sym (digits_more k' n l)

pub value_append : (n : ℕ) (xs ys : List ℕ) → value_after n (xs ++ ys) ≡ value_after (value_after n xs) ys
unfolding value_after
value_append n [] ys = refl
value_append n (x ∷ xs) ys = value_append (10 * n + (x - digit0)) xs ys

-- ---- the value

pub digits_value : (k n : ℕ) → Below k n → value_after 0 (digits_in k n) ≡ n
unfolding value_after
digits_value k n (one_digit {k = j} h) = rw (digits_one j n h) (omega arith)
digits_value k n (more_digits {k = j} h b) = rw (digits_more j n h, value_append, digits_value j (n / 10) b) (omega arith)

-- ---- the form

-- digits of which the first is not 0
pub data Leading : List ℕ → Type 0 where
  leading : {c : ℕ} {cs : List ℕ} → digit0 < c → c ≤ digit9 → all is_digit cs ≡ true → Leading (c ∷ cs)

is_digit_lem : (d : ℕ) → d < 10 → is_digit (digit0 + d) ≡ true
is_digit_lem d h = true-both _ _ (le-leb digit0 (digit0 + d) (omega arith)) (le-leb (digit0 + d) digit9 (omega arith))

pub leading-digit : {c : ℕ} → digit0 < c → c ≤ digit9 → is_digit c ≡ true
leading-digit {c} h l = true-both _ _ (le-leb digit0 c (omega arith)) (le-leb c digit9 l)

all_append : (p : ℕ → Bool) (xs : List ℕ) (x : ℕ) → all p xs ≡ true → p x ≡ true → all p (xs ++ (x ∷ [])) ≡ true
all_append p [] x e f = rw f refl
all_append p (y ∷ ys) x e f = let b = both_true (p y) (all p ys) e in true-both _ _ b.0 (all_append p ys x b.1 f)

leading_append : {xs : List ℕ} (d : ℕ) → d < 10 → Leading xs → Leading (xs ++ ((digit0 + d) ∷ []))
leading_append d h (leading {c = c} {cs = cs} a b e) = leading a b (all_append is_digit cs (digit0 + d) e (is_digit_lem d h))

pub digits-leading : (k n : ℕ) → 1 ≤ n → Below k n → Leading (digits_in k n)
digits-leading k n l (one_digit {k = j} h) = rw (digits_one j n h) (leading {c = digit0 + n} (omega arith) (omega arith) refl)
digits-leading k n l (more_digits {k = j} h b) = rw (digits_more j n h) (leading_append (n % 10) (omega arith) (digits-leading j (n / 10) (omega arith) b))

pub leading-decimal : {xs : List ℕ} → Leading xs → decimal xs ≡ true
leading-decimal (leading {cs = []} a b e) = leading-digit a b
leading-decimal (leading {c = c} {cs = d ∷ ds} a b e) = rw (ne_eqb c digit0 (λ q. omega arith)) (true-both _ _ (leading-digit a b) e)

leading-all : {xs : List ℕ} → Leading xs → all is_digit xs ≡ true
leading-all (leading a b e) = true-both _ _ (leading-digit a b) e

-- decimal, and so nothing but digits
pub record Decimal (f : List ℕ) : Type 0 where
  pub form : decimal f ≡ true
  pub each : all is_digit f ≡ true

decimal-by : (k n : ℕ) → Dec (n ≡ 0) → Below k n → Decimal (digits_in k n)
decimal-by k n (yes q) (one_digit {k = j} h) = rw (digits_one j n h, q) (record { form = refl; each = refl })
decimal-by k n (yes q) (more_digits h b) = absurd (omega arith)
decimal-by k n (no m) b = let l = digits-leading k n (omega arith) b in record { form = leading-decimal l; each = leading-all l }

pub digits_decimal : (k n : ℕ) → Below k n → Decimal (digits_in k n)
digits_decimal k n b = decimal-by k n (ℕ_discrete n 0) b

-- ---- the number that a field says

pub number_digits : (m n : ℕ) → n ≤ m → n ≤ word_limit → decimal_up_to m (digits n) ≡ some n
unfolding decimal_up_to
number_digits m n h w =
    let b = below_word n w in
    rw ((digits_decimal 10 n b).form, digits_value 10 n b, le-leb n m h) refl

-- ---- how many

pub digits-most : (k j n : ℕ) → n < tens (suc j) → length (digits_in k n) ≤ suc j
unfolding digits_in
digits-most zero j n h = omega arith
digits-most (suc k) j n h = go (ltb n 10) refl j h (digits-most k)
  where
    go : (b : Bool) → ltb n 10 ≡ b → (j : ℕ) → n < tens (suc j) → ((j n : ℕ) → n < tens (suc j) → length (digits_in k n) ≤ suc j)
        → length (pick (ltb n 10) ((digit0 + n) ∷ []) (digits_in k (n / 10) ++ ((digit0 + n % 10) ∷ []))) ≤ suc j
    go true e j h ih = rw e (omega arith)
    go false e zero h ih = let l = ltb-false n 10 e in absurd (omega arith)
    go false e (suc j) h ih = let i = ih j (n / 10) (omega arith) in rw (e, length-append) (omega arith)
