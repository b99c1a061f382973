-- How a name and a text are walked, one byte at a time, and where they end. Assumes nothing.
use Rattle.std.specs.Prelude.{Bool, true, false, cond, ◌&&◌, List, [], ◌∷◌, ◌≡◌, ℕ, suc, ◌+◌, ◌≤◌, ◌<◌, ltb, eqb, length, drop, get_or, Option, Some, None, IfSome}
use Rattle.std.proofs.Math.Path.{refl}
use Rattle.std.proofs.Common.{arith, length-drop, drop-cons}
use Rattle.std.proofs.Math.ListN.{drop_of_length-le}
use borrow.Author.Tests.{lt-ltb, le-ltb, ltb-true, eq-eqb, ne_eqb}
use Rattle.trial.specs.Places.{line_end, past, name_end, empty_line, text_end}

-- ---- names

module _ (input : List ℕ) (i : ℕ) where
  module _ (h : i < length input) where
    pub name_ends : get_or input i 0 ≡ 10 → line_end i (drop i input) ≡ Some i
    unfolding line_end
    name_ends e = rw (drop-cons input i 0 h, eq-eqb (get_or input i 0) 10 e) refl

    pub name_bad : (get_or input i 0 ≡ 10 → ⊥) → get_or input i 0 < 32 → line_end i (drop i input) ≡ None
    unfolding line_end
    name_bad n l = rw (drop-cons input i 0 h, ne_eqb (get_or input i 0) 10 n, lt-ltb (get_or input i 0) 32 l) refl

    pub name_on : (get_or input i 0 ≡ 10 → ⊥) → 32 ≤ get_or input i 0 → line_end i (drop i input) ≡ line_end (suc i) (drop (suc i) input)
    unfolding line_end
    name_on n l = rw (drop-cons input i 0 h, ne_eqb (get_or input i 0) 10 n, le-ltb (get_or input i 0) 32 l) refl

  pub name_open : length input ≤ i → line_end i (drop i input) ≡ None
  unfolding line_end
  name_open h = rw drop_of_length-le refl

-- what `name_end` does, byte by byte
pub ruleset name_steps = (name_ends, name_bad, name_on, name_open)

-- an end that was found stands from `at` on, and before n
abbrev pub Ends : ℕ → ℕ → Option ℕ → Type 0
Ends at n o = IfSome o (λ k. (at ≤ k) × (k < n))

line-ends : (at n i : ℕ) (cs : List ℕ) → at ≤ i → i + length cs ≤ n → Ends at n (line_end i cs)
unfolding line_end
line-ends at n i [] l h = tt
line-ends at n i (c ∷ cs) l h = go (eqb c 10) (ltb c 32) (line-ends at n (suc i) cs (omega arith) (omega arith))
  where
    go : (e b : Bool) → Ends at n (line_end (suc i) cs) → Ends at n (cond e (Some i) (cond b None (line_end (suc i) cs)))
    go true b r = (l, omega arith)
    go false true r = tt
    go false false r = r

-- a name that was found has a byte, and ends in the input
pub name_within : (input : List ℕ) (at : ℕ) {k : ℕ} → name_end input at ≡ Some k → (at < k) × (k < length input)
name_within input at {k} e =
    go (line_end at (drop at input)) (line-ends at (at + length (drop at input)) at (drop at input) (omega arith) (omega arith)) e
  where
    here : (m : ℕ) → m < at + length (drop at input) → (b : Bool) → ltb at m ≡ b → cond b (Some m) None ≡ Some k → (at < k) × (k < length input)
    here m h true t e = let d = length-drop at input in let l = ltb-true at m t in (grind arith, grind arith)
    here m h false t e = cc

    go : (o : Option ℕ) → Ends at (at + length (drop at input)) o → past at o ≡ Some k → (at < k) × (k < length input)
    go None w e = cc
    go (Some m) w e = here m w.1 (ltb at m) refl e

-- ---- texts

module _ (starts : Bool) (input : List ℕ) (i : ℕ) where
  module _ (h : i < length input) where
    pub text-ends : starts ≡ true → eqb (get_or input i 0) 10 ≡ true → empty_line starts i (drop i input) ≡ Some i
    unfolding empty_line
    text-ends s e = rw (drop-cons input i 0 h, s, e) refl

    pub text_on : starts && eqb (get_or input i 0) 10 ≡ false
        → empty_line starts i (drop i input) ≡ empty_line (eqb (get_or input i 0) 10) (suc i) (drop (suc i) input)
    unfolding empty_line
    text_on e = rw (drop-cons input i 0 h, e) refl

  pub text_open : length input ≤ i → empty_line starts i (drop i input) ≡ None
  unfolding empty_line
  text_open h = rw drop_of_length-le refl

-- what `text_end` does, byte by byte
pub ruleset text_steps = (text-ends, text_on, text_open)

-- a text does not end before it starts, and in the input
line-within : (at n : ℕ) (starts : Bool) (i : ℕ) (cs : List ℕ) → at ≤ i → i + length cs ≤ n → Ends at n (empty_line starts i cs)
unfolding empty_line
line-within at n starts i [] l h = tt
line-within at n starts i (c ∷ cs) l h = go (starts && eqb c 10) (line-within at n (eqb c 10) (suc i) cs (omega arith) (omega arith))
  where
    go : (b : Bool) → Ends at n (empty_line (eqb c 10) (suc i) cs) → Ends at n (cond b (Some i) (empty_line (eqb c 10) (suc i) cs))
    go true r = (l, omega arith)
    go false r = r

pub text_within : (input : List ℕ) (at : ℕ) {k : ℕ} → text_end input at ≡ Some k → (at ≤ k) × (k < length input)
text_within input at {k} e =
    let w : Ends at (at + length (drop at input)) (Some k) =
    rw e at (line-within at (at + length (drop at input)) true at (drop at input) (omega arith) (omega arith)) in
    let d = length-drop at input in
    (w.0, omega arith)

-- ---- ends, case by case

pub not-ended : (at n : ℕ) → Ends at n None
not-ended at n = tt

pub ended : {at n k : ℕ} → at ≤ k → k < n → Ends at n (Some k)
ended l h = (l, h)

module _ (input : List ℕ) (at : ℕ) where
  name_found : Ends at (at + length (drop at input)) (line_end at (drop at input))
  name_found = line-ends at (at + length (drop at input)) at (drop at input) (omega arith) (omega arith)

  -- a name ends behind its start
  pub name_least : IfSome (name_end input at) (λ k. at < k)
  name_least = go (name_end input at) refl
    where
      go : (o : Option ℕ) → name_end input at ≡ o → IfSome o (λ k. at < k)
      go None e = tt
      go (Some k) e = (name_within input at e).0

-- a text does not end before it starts
pub text-least : (starts : Bool) (i : ℕ) (cs : List ℕ) → IfSome (empty_line starts i cs) (λ k. i ≤ k)
text-least starts i cs = go (empty_line starts i cs) (line-within i (i + length cs) starts i cs (omega arith) (omega arith))
  where
    go : (o : Option ℕ) → Ends i (i + length cs) o → IfSome o (λ k. i ≤ k)
    go None w = tt
    go (Some k) w = w.0

pub text-after : (input : List ℕ) (at : ℕ) {r : Option ℕ} → r ≡ text_end input at → IfSome r (λ k. at ≤ k)
text-after input at e = rw e (text-least true at (drop at input))
