-- How long a line is, and how its parts make it up. Assumes nothing.
use Rattle.std.specs.Prelude.{Bool, true, false, List, [], ◌∷◌, ◌++◌, ◌≡◌, ℕ, zero, suc, ◌+◌, ◌/◌, ◌%◌, ◌≤◌, ltb, length, take, drop, Err, None, Some}
use Rattle.std.proofs.Common.{sym, ap, ◌∙◌, arith, length-append, take_at}
use Rattle.script.specs.Answers.{number_of, place_of}
use Rattle.script.specs.Answers.Bounds.{PlaceBelow, no_place, place-below, number-most}
use Rattle.script.specs.Tests.{pick}
use Rattle.script.specs.declared.Refusal.{Refusal}
use Rattle.rules.specs.Checking.Bounds.{Bounded, code, refusal}
use Rattle.text.specs.Bytes.{lf, tab, digit0}
use Rattle.text.specs.Code.Output.{Put}
use Rattle.text.specs.Code.Output.Laws.{put_text}
use Rattle.text.specs.SameTable.Most.{type-length}
use Rattle.text.specs.SameTable.Numbers.{digits-most}
use Rattle.text.specs.Writing.{digits_in, digits}
use Rattle.host.specs.Texts.Bounds.{place_limit, check-bounded}
use Rattle.host.specs.Texts.{check_text}
use Rattle.mixcheck.specs.Line.{refused_word, dash, place_text, line_of, line_limit, PutLine}
use Rattle.script.specs.Answers.Named.{Checked, Place}

-- ---- lengths

digits_in_most : (k n : ℕ) → length (digits_in k n) ≤ k
unfolding digits_in
digits_in_most zero n = omega arith
digits_in_most (suc k) n = go (ltb n 10) (digits_in_most k (n / 10))
  where
    go : (b : Bool) → length (digits_in k (n / 10)) ≤ k → length (pick b ((digit0 + n) ∷ []) (digits_in k (n / 10) ++ ((digit0 + n % 10) ∷ []))) ≤ suc k
    go true h = omega arith
    go false h = rw length-append (omega arith)

pub digits_ten : (n : ℕ) → length (digits n) ≤ 10
digits_ten n = digits_in_most 10 n

pub place_ten : (p : Place) → length (place_text p) ≤ 10
place_ten None = omega arith
place_ten (Some i) = digits_ten i

-- how long the parts of a line get
pub ruleset lengths = (type-length, digits_ten, place_ten)

number-few : (r : Refusal) → length (digits (number_of r)) ≤ 2
number-few r = let m = number-most r in digits-most 10 1 (number_of r) (omega arith)

place-few : {p : Place} → PlaceBelow place_limit p → length (place_text p) ≤ 4
place-few no_place = omega arith
place-few (place-below {i = i} h) = digits-most 10 3 i (omega arith)

line-bounded : {c : Checked} → Bounded place_limit c → length (line_of c) ≤ line_limit
line-bounded (code {t = t} h) = let l = type-length t in rw length-append (omega arith)
line-bounded (refusal {r = r} h) =
    let n = number-few r in
    let p = place-few h in
    simp length-append (omega arith)

line-most : (text : List ℕ) → length (line_of (check_text text)) ≤ line_limit
line-most text = line-bounded (check-bounded text)

-- ---- the place

module _ {place : Place} where
  pub nowhere-length : place ≡ None → length (place_text place) ≡ 1
  nowhere-length e = ap (λ (p : Place). length (place_text p)) e

  pub at_length : {i : ℕ} → place ≡ Some i → length (place_text place) ≡ length (digits i)
  at_length e = ap (λ (p : Place). length (place_text p)) e

  module _ {at n : ℕ} {out out' : List ℕ} where
    pub put_nowhere : place ≡ None → Put (tab ∷ dash ∷ []) at out n out' → Put (tab ∷ place_text place) at out n out'
    put_nowhere e p = rw e p

    pub put_at : {i : ℕ} → place ≡ Some i → Put (tab ∷ digits i) at out n out' → Put (tab ∷ place_text place) at out n out'
    put_at e p = rw e p

-- ---- the whole line

pub put_refusal : (why : Refusal) {number : ℕ} {place : Place} {n : ℕ} {out out' : List ℕ} → number ≡ number_of why → place ≡ place_of why
    → Put (refused_word ++ (tab ∷ digits number) ++ (tab ∷ place_text place) ++ (lf ∷ [])) 0 out n out' → Put (line_of (Err why)) 0 out n out'
put_refusal why e f p = rw (← e, ← f) p

-- the answer's line, put at the start of bytes that have room for it
module _ (text : List ℕ) {told : Checked} {n : ℕ} {out out' : List ℕ} (q : told ≡ check_text text) (room : line_limit ≤ length out) where
  pub line_put : {c : Checked} → told ≡ c → Put (line_of c) 0 out n out' → PutLine (line_of (check_text text)) out n out'
  line_put {c} e p = go (sym q ∙ e) p
    where
      go : check_text text ≡ c → Put (line_of c) 0 out n out' → PutLine (line_of (check_text text)) out n out'
      go e p =
          let most = line-most text in
          let w : Put (line_of (check_text text)) 0 out n out' = rw e p in
          let l : n ≡ length (line_of (check_text text)) = let a = w.next-is in omega arith in
          record { length-is = l; most = omega arith; bytes_are = put_text w (omega arith) ∙ ap (λ (k : ℕ). line_of (check_text text) ++ drop k out) (sym l) }

-- its bytes are as many as its length says
pub line_taken : {line out out' : List ℕ} {n : ℕ} → PutLine line out n out' → n ≡ length (take n out')
line_taken {line} {out} {out'} {n} q =
    q.length-is ∙ sym (ap length (ap (λ (bytes : List ℕ). take n bytes) q.bytes_are ∙ take_at line (drop n out) n (sym q.length-is)))
