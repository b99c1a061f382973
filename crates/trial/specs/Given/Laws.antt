-- How a line of bytes is read, one byte at a time, and what callers know of it: it has no more bytes than are lent. Assumes nothing.
use Rattle.std.specs.Prelude.{Bool, true, false, cond, ◌≡◌, ℕ, suc, ◌+◌, ◌≤◌, ◌<◌, eqb, length, take, drop, get_or, set, Option, Some, None, IfSome}
use mathlib.Core.List.{List, [], ◌∷◌, append_assoc, append-nil}
use Rattle.std.proofs.Math.Path.{refl}
use Rattle.std.proofs.Common.{◌∙◌, add-one, arith, drop-cons, drop-set-lt, take-suc-set}
use Rattle.std.proofs.Math.ListN.{drop_of_length-le}
use Rattle.std.proofs.lemmas.List.{set_split}
use Rattle.std.proofs.Math.Seq.{split_at, take_all}
use borrow.Author.Tests.{le-leb, lt-leb, eq-eqb, ne_eqb}
use Rattle.trial.specs.declared.given.Byte.{Byte}
use Rattle.trial.specs.Numbers.{Number, number_at}
use Rattle.trial.specs.Numbers.Laws.{second-most}
use Rattle.trial.specs.Places.Laws.{name_within, text_within}
use Rattle.trial.specs.Given.{byte_of, byte_at, Line, line, after, line_by, bytes_from, line_in, bytes_line}

-- ---- a line: at its start

module _ (input : List ℕ) (at : ℕ) (out : List ℕ) where
  pub line-past : length input ≤ at → bytes_line input at out ≡ line None out
  unfolding bytes_line
  line-past h = rw drop_of_length-le refl

  pub line-empty : at < length input → get_or input at 0 ≡ 10 → bytes_line input at out ≡ line (Some (0, suc at)) out
  unfolding bytes_line
  line-empty h e = rw (drop-cons input at 0 h, eq-eqb (get_or input at 0) 10 e) refl

  pub line-starts : at < length input → (get_or input at 0 ≡ 10 → ⊥) → bytes_line input at out ≡ bytes_from input 0 at out
  unfolding bytes_line
  line-starts h n = rw (drop-cons input at 0 h, ne_eqb (get_or input at 0) 10 n) refl

-- ---- and after n bytes, which stand in the lent bytes already

abbrev pub going : List ℕ → ℕ → ℕ → List ℕ → Line
going input n i out = after (take n out) (bytes_from input n i (drop n out))

module _ (input : List ℕ) (n i : ℕ) (out : List ℕ) where
  pub line-full : length out ≤ n → going input n i out ≡ line None out
  unfolding bytes_from
  line-full h = rw (drop_of_length-le out h, take_all n out h, append-nil out) refl

  module _ (h : n < length out) where
    at_byte : going input n i out
        ≡ after (take n out) (line_by (byte_at input i) n (get_or out n 0) (drop (suc n) out) (λ next. bytes_from input (suc n) next (drop (suc n) out)))
    unfolding bytes_from
    at_byte = rw (drop-cons out n 0 h) refl

    pub line_bad : byte_at input i ≡ None → going input n i out ≡ line None out
    line_bad e = at_byte ∙ rw (e, ← split_at out n 0 h) refl

    module _ {b : Byte} (e : byte_at input i ≡ Some b) where
      pub line-last : b.last ≡ true → going input n i out ≡ line (Some (n + 1, b.next)) (set out n b.value)
      line-last l = at_byte ∙ rw (e, l, add-one n, set_split out n b.value h) refl

      pub line-more : b.last ≡ false → going input n i out ≡ going input (n + 1) b.next (set out n b.value)
      line-more l =
          at_byte
          ∙ rw (e, l, add-one n, take-suc-set out n b.value h, drop-set-lt (suc n) out n b.value (omega arith), append_assoc (take n out) (b.value ∷ [])) refl

-- what `bytes_line` does, byte by byte
pub ruleset line_steps = (line-past, line-empty, line-starts, line-full, line_bad, line-last, line-more)

-- ---- what callers know

-- no more than n bytes
abbrev Counted : ℕ → Number → Type 0
Counted n o = IfSome o (λ p. p.0 ≤ n)

from-counted : (m : ℕ) (input : List ℕ) (n i : ℕ) (out : List ℕ) → n + length out ≤ m → Counted m (bytes_from input n i out).answer
unfolding bytes_from
from-counted m input n i [] h = tt
from-counted m input n i (o ∷ os) h = go (byte_at input i) (λ next. from-counted m input (suc n) next os (omega arith))
  where
    one : (b : Byte) (last : Bool) → ((next : ℕ) → Counted m (bytes_from input (suc n) next os).answer)
        → Counted m (cond last (line (Some (suc n, b.next)) (b.value ∷ os)) (after (b.value ∷ []) (bytes_from input (suc n) b.next os))).answer
    one b true ih = omega arith
    one b false ih = ih b.next

    go : (b : Option Byte) → ((next : ℕ) → Counted m (bytes_from input (suc n) next os).answer)
        → Counted m (line_by b n o os (λ next. bytes_from input (suc n) next os)).answer
    go (Some b) ih = one b b.last ih
    go None ih = tt

line-counted : (input : List ℕ) (at : ℕ) (out : List ℕ) → Counted (length out) (bytes_line input at out).answer
unfolding bytes_line
line-counted input at out = go (drop at input)
  where
    some : (b : Bool) → Counted (length out) (cond b (line (Some (0, suc at)) out) (bytes_from input 0 at out)).answer
    some true = omega arith
    some false = from-counted (length out) input 0 at out (omega arith)

    go : (cs : List ℕ) → Counted (length out) (line_in input at out cs).answer
    go [] = tt
    go (c ∷ cs) = some (eqb c 10)

-- a line has no more bytes than are lent
pub count_most : (input : List ℕ) (at : ℕ) (out : List ℕ) {r : Number} {left : List ℕ} {v next : ℕ} → line r left ≡ bytes_line input at out
    → r ≡ Some (v, next) → v ≤ length out
count_most input at out e f = rw (← e, f) at (line-counted input at out)

-- what callers know of what was found
pub ruleset found = (name_within, text_within, second-most)

-- ---- a byte

module _ (input : List ℕ) (at : ℕ) {v next : ℕ} where
  module _ (e : number_at 32 input at ≡ Some (v, next)) where
    pub byte_more : v ≤ 255 → byte_at input at ≡ Some (byte_of v false next)
    unfolding byte_at
    byte_more h = rw (e, le-leb v 255 h) refl

    pub byte_large : 255 < v → byte_at input at ≡ None
    unfolding byte_at
    byte_large h = rw (e, lt-leb v 255 h) refl

  module _ (n : number_at 32 input at ≡ None) (e : number_at 10 input at ≡ Some (v, next)) where
    pub byte_last : v ≤ 255 → byte_at input at ≡ Some (byte_of v true next)
    unfolding byte_at
    byte_last h = rw (n, e, le-leb v 255 h) refl

    pub byte-last_large : 255 < v → byte_at input at ≡ None
    unfolding byte_at
    byte-last_large h = rw (n, e, lt-leb v 255 h) refl

pub byte-none : (input : List ℕ) (at : ℕ) → number_at 32 input at ≡ None → number_at 10 input at ≡ None → byte_at input at ≡ None
unfolding byte_at
byte-none input at n e = rw (n, e) refl

-- ---- no more than n bytes, case by case

no_line : (n : ℕ) → Counted n None
no_line n = tt

counted : {n v : ℕ} (next : ℕ) → v ≤ n → Counted n (Some (v, next))
counted next h = h

count : {n v : ℕ} (next : ℕ) → Counted n (Some (v, next)) → v ≤ n
count next h = h
