-- How a number is read, one digit at a time, and what callers know of one: it is no more than the largest, and the place after it is further on. Assumes
-- nothing.
use Rattle.std.specs.Prelude.{Bool, true, false, cond, ◌&&◌, List, [], ◌∷◌, ◌≡◌, ℕ, suc, ◌+◌, ◌*◌, ◌-◌, ◌≤◌, ◌<◌, leb, eqb, length, drop, get_or, Option, Some, None, IfSome, option_and_then}
use Rattle.std.proofs.Math.Path.{refl}
use Rattle.std.proofs.Common.{◌∙◌, arith, drop-cons}
use Rattle.std.proofs.Math.ListN.{drop_of_length-le}
use borrow.Author.Tests.{le-leb, lt-leb, leb-true, eq-eqb, ne_eqb}
use Rattle.trial.specs.declared.Header.{Header}
use Rattle.trial.specs.Numbers.{largest, Number, digit_of, number_from, number_in, number_at, header_of, header_with, header_after, header_at}

-- ---- one digit at a time

pub digit-most : (b : ℕ) {d : ℕ} → digit_of b ≡ Some d → d ≤ 9
unfolding digit_of
digit-most b {d} e = go (leb 48 b) (leb b 57) refl e
  where
    go : (l h : Bool) → leb b 57 ≡ h → cond (l && h) (Some (b - 48)) None ≡ Some d → d ≤ 9
    go true true f e = let m = leb-true b 57 f in grind arith
    go true false f e = cc
    go false h f e = cc

-- digits that make too much
pub number-above : (stop v i : ℕ) (cs : List ℕ) → largest < v → number_from stop v i cs ≡ None
unfolding number_from
number-above stop v i [] h = refl
number-above stop v i (c ∷ cs) h = go (eqb c stop) (digit_of c) (λ d. number-above stop (v * 10 + d) (suc i) cs (omega arith))
  where
    go : (s : Bool) (o : Option ℕ) → ((d : ℕ) → number_from stop (v * 10 + d) (suc i) cs ≡ None)
        → cond s (cond (leb v largest) (Some (v, suc i)) None) (option_and_then (λ d. number_from stop (v * 10 + d) (suc i) cs) o) ≡ None
    go true o ih = rw (lt-leb v largest h) refl
    go false None ih = refl
    go false (Some d) ih = ih d

module _ (stop : ℕ) (input : List ℕ) (i : ℕ) where
  module _ (h : i < length input) where
    pub number-none : get_or input i 0 ≡ stop → number_at stop input i ≡ None
    unfolding number_at
    number-none e = rw (drop-cons input i 0 h, eq-eqb (get_or input i 0) stop e) refl

    pub number-starts : (get_or input i 0 ≡ stop → ⊥) → number_from stop 0 i (drop i input) ≡ number_at stop input i
    unfolding number_at
    number-starts n = rw (drop-cons input i 0 h, ne_eqb (get_or input i 0) stop n) refl

    module _ (v : ℕ) where
      pub number-stops : v ≤ largest → get_or input i 0 ≡ stop → number_from stop v i (drop i input) ≡ Some (v, suc i)
      unfolding number_from
      number-stops l e = rw (drop-cons input i 0 h, eq-eqb (get_or input i 0) stop e, le-leb v largest l) refl

      module _ (n : get_or input i 0 ≡ stop → ⊥) where
        pub number_bad : digit_of (get_or input i 0) ≡ None → number_from stop v i (drop i input) ≡ None
        unfolding number_from
        number_bad e = rw (drop-cons input i 0 h, ne_eqb (get_or input i 0) stop n, e) refl

        module _ {d : ℕ} (e : digit_of (get_or input i 0) ≡ Some d) where
          pub number_on : number_from stop v i (drop i input) ≡ number_from stop (v * 10 + d) (suc i) (drop (suc i) input)
          unfolding number_from
          number_on = rw (drop-cons input i 0 h, ne_eqb (get_or input i 0) stop n, e) refl

          pub number_too_large : 999999 < v → number_from stop v i (drop i input) ≡ None
          number_too_large l = number_on ∙ number-above stop (v * 10 + d) (suc i) (drop (suc i) input) (omega arith)

  pub number_past : length input ≤ i → number_at stop input i ≡ None
  unfolding number_at
  number_past h = rw drop_of_length-le refl

  pub number-ends : (v : ℕ) → length input ≤ i → number_from stop v i (drop i input) ≡ None
  unfolding number_from
  number-ends v h = rw drop_of_length-le refl

-- what `number_until` does, byte by byte
pub ruleset number_steps = (digit-most, number_past, number-none, number-starts, number-stops, number_bad, number_on, number_too_large, number-ends)

-- ---- a header, by its numbers

pub no_first : (input : List ℕ) (at : ℕ) → number_at 9 input at ≡ None → header_at input at ≡ None
unfolding header_at
no_first input at e = rw e refl

module _ (input : List ℕ) (at : ℕ) {first next : ℕ} (e : number_at 9 input at ≡ Some (first, next)) where
  pub no_second : number_at 9 input next ≡ None → header_at input at ≡ None
  unfolding header_at
  no_second f = rw (e, f) refl

  pub header_is : {second name : ℕ} → number_at 9 input next ≡ Some (second, name) → header_at input at ≡ Some (header_of first second name)
  unfolding header_at
  header_is f = rw (e, f) refl

pub ruleset header_steps = (no_first, no_second, header_is)

-- ---- what callers know

-- no more than n, and the next place is after `at`
abbrev pub Within : ℕ → ℕ → Number → Type 0
Within n at o = IfSome o (λ p. (p.0 ≤ n) × (at < p.1))

abbrev pub BothWithin : ℕ → ℕ → Option Header → Type 0
BothWithin n at o = IfSome o (λ h. (h.first ≤ n) × (h.second ≤ n) × (at < h.name))

from-within : (stop v i at : ℕ) (cs : List ℕ) → at ≤ i → Within largest at (number_from stop v i cs)
unfolding number_from
from-within stop v i at [] h = tt
from-within stop v i at (c ∷ cs) h = go (eqb c stop) (digit_of c) (λ d. from-within stop (v * 10 + d) (suc i) at cs (omega arith))
  where
    here : (b : Bool) → leb v largest ≡ b → Within largest at (cond b (Some (v, suc i)) None)
    here true e = (leb-true v largest e, omega arith)
    here false e = tt

    go : (s : Bool) (o : Option ℕ) → ((d : ℕ) → Within largest at (number_from stop (v * 10 + d) (suc i) cs))
        → Within largest at
        (cond s (cond (leb v largest) (Some (v, suc i)) None) (option_and_then (λ d. number_from stop (v * 10 + d) (suc i) cs) o))
    go true o ih = here (leb v largest) refl
    go false None ih = tt
    go false (Some d) ih = ih d

in_within : (stop at : ℕ) (cs : List ℕ) → Within largest at (number_in stop at cs)
in_within stop at [] = tt
in_within stop at (c ∷ cs) = go (eqb c stop)
  where
    go : (s : Bool) → Within largest at (cond s None (number_from stop 0 at (c ∷ cs)))
    go true = tt
    go false = from-within stop 0 at at (c ∷ cs) (omega arith)

pub number-within : (stop : ℕ) (input : List ℕ) (at : ℕ) → Within largest at (number_at stop input at)
unfolding number_at
number-within stop input at = in_within stop at (drop at input)

pub header_within : (input : List ℕ) (at : ℕ) → BothWithin largest at (header_at input at)
unfolding header_at
header_within input at = first (number_at 9 input at) (number-within 9 input at)
  where
    second : {v : ℕ} → v ≤ largest → (next : ℕ) → at < next → (o : Number) → Within largest next o → BothWithin largest at (header_with v o)
    second l next h None w = tt
    second l next h (Some (s, name)) w = (l, w.0, omega arith)

    first : (o : Number) → Within largest at o → BothWithin largest at (header_after input o)
    first None w = tt
    first (Some (v, next)) w = second w.0 next w.1 (number_at 9 input next) (number-within 9 input next)

pub second-most : (input : List ℕ) (at : ℕ) {h : Header} → header_at input at ≡ Some h → h.second ≤ largest
second-most input at {h} e =
    let w : BothWithin largest at (Some h) = rw e at (header_within input at) in
    w.1

-- past the end there is none
pub header_past : (input : List ℕ) (at : ℕ) → length input ≤ at → header_at input at ≡ None
header_past input at h = no_first input at (number_past 9 input at h)

-- ---- what callers know, case by case

pub no_number : (n at : ℕ) → Within n at None
no_number n at = tt

pub no_header : (n at : ℕ) → BothWithin n at None
no_header n at = tt

module _ {n at : ℕ} where
  pub a_number_lem : {v next : ℕ} → v ≤ n → at < next → Within n at (Some (v, next))
  a_number_lem l h = (l, h)

  pub a_header : {h : Header} → h.first ≤ n → h.second ≤ n → at < h.name → BothWithin n at (Some h)
  a_header f s l = (f, s, l)

  second-within : {h : Header} → BothWithin n at (Some h) → h.second ≤ n
  second-within w = w.1
