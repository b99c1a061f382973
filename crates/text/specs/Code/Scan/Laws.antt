-- How a text is walked: a field and a line one byte at a time, and how the rest of a line goes on after a field. Assumes nothing.
use Rattle.std.specs.Prelude.{Bool, true, false, ◌&&◌, List, [], ◌∷◌, ◌≡◌, ℕ, suc, ◌+◌, ◌-◌, ◌*◌, ◌≤◌, ◌<◌, leb, eqb, length, take, drop, get_or, None, Some}
use Rattle.std.proofs.Math.Option.{Option, none, some}
use Rattle.std.proofs.Math.Path.{refl}
use Rattle.std.proofs.Common.{ap, arith, drop_of_length-le}
use Rattle.std.proofs.Math.Seq.{drop-cons, drop-length}
use borrow.Author.Tests.{le-leb, lt-leb, eq-eqb, ne_eqb}
use Rattle.script.specs.Limits.{type_limit}
use Rattle.script.specs.Tests.{pick, all}
use Rattle.text.specs.Fields.{given, is_digit, value_after, decimal_up_to, last_letter, type_after, type_up_to}
use Rattle.text.specs.Code.Scan.{ends_field, starts_with, field_in, field_ends, number_after, said_by}

-- ---- fields

pub field-none : (cs : List ℕ) → field_ends cs ≡ true → field_in cs ≡ []
unfolding field_in
field-none [] e = refl
field-none (c ∷ cs) e = rw e refl

-- a field one byte at a time, at a place of a text
module _ (text : List ℕ) (i : ℕ) (h : i < length text) where
  pub field-here : ends_field (get_or text i 0) ≡ true → field_in (drop i text) ≡ []
  field-here e = rw (drop-cons text i 0) (field-none (get_or text i 0 ∷ drop (suc i) text) e)

  pub field_next : ends_field (get_or text i 0) ≡ false → length (field_in (drop i text)) ≡ suc (length (field_in (drop (suc i) text)))
  unfolding field_in
  field_next e = rw (drop-cons text i 0, e) refl

pub field-last : (text : List ℕ) → field_in (drop (length text) text) ≡ []
unfolding field_in
field-last text = rw drop-length refl

-- a field is a part of the text, no longer than it, and after it a field ends
pub field-take : (cs : List ℕ) → take (length (field_in cs)) cs ≡ field_in cs
unfolding field_in
field-take [] = refl
field-take (c ∷ cs) = go (ends_field c) (field-take cs)
  where
    go : (b : Bool) → take (length (field_in cs)) cs ≡ field_in cs → take (length (pick b [] (c ∷ field_in cs))) (c ∷ cs) ≡ pick b [] (c ∷ field_in cs)
    go true ih = refl
    go false ih = ap (◌∷◌ c) ih

pub field-most : (cs : List ℕ) → length (field_in cs) ≤ length cs
unfolding field_in
field-most [] = omega arith
field-most (c ∷ cs) = go (ends_field c) (field-most cs)
  where
    go : (b : Bool) → length (field_in cs) ≤ length cs → length (pick b [] (c ∷ field_in cs)) ≤ suc (length cs)
    go true ih = omega arith
    go false ih = omega arith

pub field-ends : (cs : List ℕ) → field_ends (drop (length (field_in cs)) cs) ≡ true
unfolding field_in
field-ends [] = refl
field-ends (c ∷ cs) = go (ends_field c) refl (field-ends cs)
  where
    go : (b : Bool) → ends_field c ≡ b → field_ends (drop (length (field_in cs)) cs) ≡ true → field_ends (drop (length (pick b [] (c ∷ field_in cs))) (c ∷ cs)) ≡ true
    go true e ih = e
    go false e ih = ih

-- the part from `from` to e, where e is the field's end
pub field-part : (text : List ℕ) (from e : ℕ) → e ≡ from + length (field_in (drop from text)) → take (e - from) (drop from text) ≡ field_in (drop from text)
field-part text from e h =
    let l : e - from ≡ length (field_in (drop from text)) = omega arith in
    rw l (field-take (drop from text))

-- ---- bytes

pub starts-at : (b : ℕ) (text : List ℕ) (i : ℕ) → i < length text → starts_with b (drop i text) ≡ eqb (get_or text i 0) b
starts-at b text i h = rw (drop-cons text i 0) refl

pub starts-past : (b : ℕ) (text : List ℕ) (i : ℕ) → length text ≤ i → starts_with b (drop i text) ≡ false
starts-past b text i h = rw drop_of_length-le refl

-- ---- numbers, one digit at a time

pub value-least : (n : ℕ) (cs : List ℕ) → n ≤ value_after n cs
unfolding value_after
value-least n [] = omega arith
value-least n (c ∷ cs) = let h = value-least (10 * n + (c - 48)) cs in omega arith

given-none : (a b : Bool) (n : ℕ) → b ≡ false → given (a && b) n ≡ none
given-none true b n e = rw e refl
given-none false b n e = refl

pub number-above : (m n : ℕ) (cs : List ℕ) → m < n → number_after m n cs ≡ none
unfolding number_after
number-above m n cs h =
    let l = value-least n cs in
    given-none (all is_digit cs) (leb (value_after n cs) m) (value_after n cs) (lt-leb (value_after n cs) m (omega arith))

pub number_end : (m n : ℕ) → n ≤ m → number_after m n [] ≡ some n
unfolding number_after value_after
number_end m n h = rw (le-leb n m h) refl

-- at a place of a field
module _ (m n : ℕ) (f : List ℕ) (i : ℕ) (h : i < length f) where
  pub number-low : get_or f i 0 < 48 → number_after m n (drop i f) ≡ none
  unfolding number_after
  number-low l = rw (drop-cons f i 0, lt-leb 48 (get_or f i 0) l) refl

  pub number-high : 57 < get_or f i 0 → number_after m n (drop i f) ≡ none
  unfolding number_after
  number-high l = rw (drop-cons f i 0, le-leb 48 (get_or f i 0) (omega arith), lt-leb (get_or f i 0) 57 l) refl

  pub number-digit : 48 ≤ get_or f i 0 → get_or f i 0 ≤ 57 → number_after m n (drop i f) ≡ number_after m (10 * n + (get_or f i 0 - 48)) (drop (suc i) f)
  unfolding number_after value_after
  number-digit a b = rw (drop-cons f i 0, le-leb 48 (get_or f i 0) a, le-leb (get_or f i 0) 57 b) refl

-- a field is a number by its digits if it does not begin with a zero too many
pub number_one : (m : ℕ) (f : List ℕ) → length f ≡ 1 → decimal_up_to m f ≡ number_after m 0 f
unfolding decimal_up_to number_after
number_one m [] e = absurd (omega arith)
number_one m (c ∷ []) e = go (is_digit c)
  where
    go : (b : Bool) → given (b && leb (value_after 0 (c ∷ [])) m) (value_after 0 (c ∷ [])) ≡ given ((b && true) && leb (value_after 0 (c ∷ [])) m) (value_after 0 (c ∷ []))
    go true = refl
    go false = refl
number_one m (c ∷ d ∷ f) e = absurd (omega arith)

pub number-long : (m : ℕ) (f : List ℕ) → 1 < length f → (get_or f 0 0 ≡ 48 → ⊥) → decimal_up_to m f ≡ number_after m 0 f
unfolding decimal_up_to number_after
number-long m [] h e = absurd (omega arith)
number-long m (c ∷ []) h e = absurd (omega arith)
number-long m (c ∷ d ∷ f) h e = rw (ne_eqb c 48 e) refl

pub number-zeros : (m : ℕ) (f : List ℕ) → 1 < length f → get_or f 0 0 ≡ 48 → decimal_up_to m f ≡ none
unfolding decimal_up_to
number-zeros m [] h e = absurd (omega arith)
number-zeros m (c ∷ []) h e = absurd (omega arith)
number-zeros m (c ∷ d ∷ f) h e = rw (eq-eqb c 48 e) refl

pub number-none : (m : ℕ) (f : List ℕ) → length f ≡ 0 → decimal_up_to m f ≡ none
unfolding decimal_up_to
number-none m [] h = refl
number-none m (c ∷ f) h = absurd (omega arith)

-- ---- types, one letter at a time

-- the letters so far make no less than t
pub type-above : (t : ℕ) (cs : List ℕ) → type_limit < t → type_up_to type_limit (type_after t cs) ≡ none
unfolding type_after
type-above t [] h = refl
type-above t (c ∷ cs) h = go (eqb c 114) (type-above (suc (suc t)) cs (omega arith)) (last cs)
  where
    letter : (i b : Bool) → type_up_to type_limit (pick i (some t) (pick b (some (suc t)) none)) ≡ none
    letter true b = rw (lt-leb t type_limit h) refl
    letter false true = rw (lt-leb (suc t) type_limit (omega arith)) refl
    letter false false = refl

    last : (ds : List ℕ) → type_up_to type_limit (last_letter t c ds) ≡ none
    last [] = letter (eqb c 105) (eqb c 98)
    last (d ∷ ds) = refl

    go : (r : Bool) → type_up_to type_limit (type_after (suc (suc t)) cs) ≡ none → type_up_to type_limit (last_letter t c cs) ≡ none → type_up_to type_limit (pick r (type_after (suc (suc t)) cs) (last_letter t c cs)) ≡ none
    go true e f = e
    go false e f = f

-- at a place of a field
module _ (t : ℕ) (f : List ℕ) (i : ℕ) (h : i < length f) where
  pub type-more : get_or f i 0 ≡ 114 → type_after t (drop i f) ≡ type_after (suc (suc t)) (drop (suc i) f)
  unfolding type_after
  type-more e = rw (drop-cons f i 0, eq-eqb (get_or f i 0) 114 e) refl

  pub type-last : (get_or f i 0 ≡ 114 → ⊥) → length f ≡ suc i → type_after t (drop i f) ≡ last_letter t (get_or f i 0) []
  unfolding type_after
  type-last n e = rw (drop-cons f i 0, ne_eqb (get_or f i 0) 114 n, ← e, drop-length f) refl

  pub type-long : (get_or f i 0 ≡ 114 → ⊥) → suc i < length f → type_after t (drop i f) ≡ none
  unfolding type_after
  type-long n l = rw (drop-cons f i 0, ne_eqb (get_or f i 0) 114 n, drop-cons f (suc i) 0 l) refl

pub type_end : (t : ℕ) → type_after t [] ≡ none
unfolding type_after
type_end t = refl

-- ---- what a field says

pub said_number : (o : Option ℕ) (n : ℕ) → said_by o ≡ Some n → o ≡ some n
said_number none n e = let z : ◌≡◌ {A = ℕ} 0 1 = cc in absurd (omega arith)
said_number (some m) n e = cc

pub said_nothing : (o : Option ℕ) → said_by o ≡ None → o ≡ none
said_nothing none e = refl
said_nothing (some m) e = let z : ◌≡◌ {A = ℕ} 0 1 = cc in absurd (omega arith)
