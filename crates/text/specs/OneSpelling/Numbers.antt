-- A number has one spelling: a field that says a number is its digits as they are written. Assumes nothing.
use Rattle.std.specs.Prelude.{true, false, not, ◌&&◌, List, [], ◌∷◌, ◌++◌, ◌≡◌, refl, ℕ, suc, ◌+◌, ◌*◌, ◌-◌, ◌/◌, ◌%◌, ◌≤◌, leb, eqb}
use Rattle.std.proofs.Common.{append-nil, ap, ◌∙◌, arith, leb-true}
use Rattle.std.proofs.Math.Option.{some}
use Rattle.std.proofs.Math.Seq.{append_snoc}
use Rattle.std.proofs.lemmas.Bool.{not-true, eqb-false}
use Rattle.script.specs.Limits.{word_limit}
use Rattle.script.specs.Tests.{all}
use Rattle.script.specs.Tests.Laws.{both_true, true_or_false}
use Rattle.text.specs.Bytes.{digit0, digit9}
use Rattle.text.specs.OneSpelling.Fields.{given-some}
use Rattle.text.specs.Fields.{is_digit, decimal, value_after, decimal_up_to}
use Rattle.text.specs.SameTable.Numbers.{Below, one_digit, more_digits, below_word, digits_one, digits_more, same_digits}
use Rattle.text.specs.Writing.{digits_in, digits}

-- f is how n is written
record Spells (f : List ℕ) (n : ℕ) : Type 0 where
  room : ℕ
  below : Below room n
  same : digits_in room n ≡ f

record Digit (c : ℕ) : Type 0 where
  least : digit0 ≤ c
  most : c ≤ digit9

digit_range : (c : ℕ) → is_digit c ≡ true → Digit c
digit_range c e = let b = both_true (leb digit0 c) (leb c digit9) e in record { least = leb-true digit0 c b.0; most = leb-true c digit9 b.1 }

-- one digit
spells_one : (c : ℕ) → Digit c → Spells (c ∷ []) (10 * 0 + (c - digit0))
spells_one c d =
    let l = d.least in
    let m = d.most in
    let q : digit0 + (10 * 0 + (c - digit0)) ≡ c = omega arith in
    record {
      room = 1;
      below = one_digit {n = 10 * 0 + (c - digit0)} (omega arith);
      same = digits_one 0 (10 * 0 + (c - digit0)) (omega arith) ∙ ap (λ (c : ℕ). c ∷ []) q;
    }

-- one digit more
spells-more : (c n : ℕ) {f : List ℕ} → 1 ≤ n → Digit c → Spells f n → Spells (f ++ (c ∷ [])) (10 * n + (c - digit0))
spells-more c n {f} h d s =
    let l = d.least in
    let m = d.most in
    let v : (10 * n + (c - digit0)) / 10 ≡ n = omega arith in
    let w : digit0 + (10 * n + (c - digit0)) % 10 ≡ c = omega arith in
    record {
      room = suc s.room;
      below = more_digits {k = s.room} {n = 10 * n + (c - digit0)} (omega arith) (rw v s.below);
      same = digits_more s.room (10 * n + (c - digit0)) (omega arith) ∙ rw (v, w, s.same) refl;
    }

spells-after : (cs : List ℕ) (n : ℕ) {f : List ℕ} → 1 ≤ n → Spells f n → all is_digit cs ≡ true → Spells (f ++ cs) (value_after n cs)
unfolding value_after
spells-after [] n h s e = rw append-nil s
spells-after (c ∷ cs) n {f} h s e =
    let b = both_true (is_digit c) (all is_digit cs) e in
    rw append_snoc at (spells-after cs (10 * n + (c - digit0)) (omega arith) (spells-more c n h (digit_range c b.0) s) b.1)

spells-decimal : (f : List ℕ) → decimal f ≡ true → Spells f (value_after 0 f)
unfolding value_after
spells-decimal [] e = absurd (true_or_false false e refl)
spells-decimal (c ∷ []) e = spells_one c (digit_range c e)
spells-decimal (c ∷ d ∷ cs) e =
    let b = both_true (not (eqb c digit0)) (all is_digit (c ∷ d ∷ cs)) e in
    let z = eqb-false c digit0 (not-true (eqb c digit0) b.0) in
    let a = both_true (is_digit c) (all is_digit (d ∷ cs)) b.1 in
    let r = digit_range c a.0 in
    let l = r.least in
    spells-after (d ∷ cs) (10 * 0 + (c - digit0)) (omega (arith, z)) (spells_one c r) a.1

written_as : (f : List ℕ) (n : ℕ) → n ≤ word_limit → Spells f n → digits n ≡ f
written_as f n h s = same_digits 10 s.room n (below_word n h) s.below ∙ s.same

-- what a field that says n is: the digits of n, which is in range
pub record NumberField (m : ℕ) (f : List ℕ) (n : ℕ) : Type 0 where
  pub most : n ≤ m
  pub same : digits n ≡ f

pub number_spelled : (m : ℕ) (f : List ℕ) (n : ℕ) → m ≤ word_limit → decimal_up_to m f ≡ some n → NumberField m f n
unfolding decimal_up_to
number_spelled m f n h e =
    let g = given-some (decimal f && leb (value_after 0 f) m) (value_after 0 f) n e in
    let b = both_true (decimal f) (leb (value_after 0 f) m) g.0 in
    let l : n ≤ m = rw g.1 at (leb-true (value_after 0 f) m b.1) in
    record { most = l; same = written_as f n (omega arith) (rw g.1 at (spells-decimal f b.0)) }
