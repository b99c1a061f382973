-- A type and a word have one spelling each. Assumes nothing.
use Rattle.std.specs.Prelude.{Bool, true, false, List, [], ◌∷◌, ◌≡◌, refl, ℕ, suc, ◌+◌, ◌≤◌, leb, eqb, length}
use Rattle.std.proofs.Math.Option.{Option, none, some}
use Rattle.std.proofs.Common.{sym, ap, ap₂, arith, leb-true, eqb-true}
use Rattle.script.specs.Limits.{type_limit}
use Rattle.script.specs.Rows.{Row, rows, row_of}
use Rattle.script.specs.Tests.{pick}
use Rattle.script.specs.Tests.Laws.{both_true, true_or_false, some-not-none, lowest-some}
use Rattle.text.specs.Bytes.{letter_b, letter_i, letter_r}
use Rattle.text.specs.Fields.{given, last_letter, type_after, type_up_to, type_of, same_bytes, word_is, kind_named}
use Rattle.text.specs.Writing.{type_text}

-- where something is said, the test passed
pub given-some : (b : Bool) (n m : ℕ) → given b n ≡ some m → (b ≡ true) × (n ≡ m)
given-some true n m e = (refl, cc)
given-some false n m e = absurd (some-not-none m (sym e))

-- ---- types

-- f is the text of what is left of the type t after s
record Letters (s : ℕ) (f : List ℕ) (t : ℕ) : Type 0 where
  left : ℕ
  total : s + left ≡ t
  same : type_text left ≡ f

last-letters : (s c : ℕ) (cs : List ℕ) (t : ℕ) → last_letter s c cs ≡ some t → Letters s (c ∷ cs) t
unfolding type_text
last-letters s c [] t e = go (eqb c letter_i) refl (eqb c letter_b) refl e
  where
    go : (a : Bool) → eqb c letter_i ≡ a → (b : Bool) → eqb c letter_b ≡ b → pick a (some s) (pick b (some (suc s)) none) ≡ some t → Letters s (c ∷ []) t
    go true p b q e = let z : s ≡ t = cc in record { left = 0; total = omega arith; same = ap (λ (d : ℕ). d ∷ []) (sym (eqb-true c letter_i p)) }
    go false p true q e = let z : suc s ≡ t = cc in record { left = 1; total = omega arith; same = ap (λ (d : ℕ). d ∷ []) (sym (eqb-true c letter_b q)) }
    go false p false q e = absurd (some-not-none t (sym e))
last-letters s c (d ∷ cs) t e = absurd (some-not-none t (sym e))

letters : (f : List ℕ) (s t : ℕ) → type_after s f ≡ some t → Letters s f t
unfolding type_after type_text
letters [] s t e = absurd (some-not-none t (sym e))
letters (c ∷ cs) s t e = go (eqb c letter_r) refl e (letters cs (suc (suc s)) t)
  where
    go : (b : Bool) → eqb c letter_r ≡ b → pick b (type_after (suc (suc s)) cs) (last_letter s c cs) ≡ some t → (type_after (suc (suc s)) cs ≡ some t → Letters (suc (suc s)) cs t)
        → Letters s (c ∷ cs) t
    go true q e ih =
        let l = ih e in
        let z = l.total in
        record { left = suc (suc l.left); total = omega arith; same = ap₂ (λ (d : ℕ) (ds : List ℕ). d ∷ ds) (sym (eqb-true c letter_r q)) l.same }
    go false q e ih = last-letters s c cs t e

-- what a field that says the type t is: its text, with a code in range
pub record TypeField (f : List ℕ) (t : ℕ) : Type 0 where
  pub most : t ≤ type_limit
  pub same : type_text t ≡ f

pub type-spelled : (f : List ℕ) (t : ℕ) → type_of f ≡ some t → TypeField f t
unfolding type_of
type-spelled f t e = go (type_after 0 f) refl e
  where
    here : (u : ℕ) → type_after 0 f ≡ some u → given (leb u type_limit) u ≡ some t → TypeField f t
    here u p e =
        let g = given-some (leb u type_limit) u t e in
        let l = letters f 0 u p in
        let z = l.total in
        let w : u ≡ t = g.1 in
        let y : l.left ≡ t = omega arith in
        record { most = rw w at (leb-true u type_limit g.0); same = rw y at l.same }

    go : (o : Option ℕ) → type_after 0 f ≡ o → type_up_to type_limit o ≡ some t → TypeField f t
    go none p e = absurd (some-not-none t (sym e))
    go (some u) p e = here u p e

-- ---- words

pub same_bytes_lem : (xs ys : List ℕ) → same_bytes xs ys ≡ true → xs ≡ ys
unfolding same_bytes
same_bytes_lem [] [] e = refl
same_bytes_lem [] (y ∷ ys) e = absurd (true_or_false false e refl)
same_bytes_lem (x ∷ xs) [] e = absurd (true_or_false false e refl)
same_bytes_lem (x ∷ xs) (y ∷ ys) e =
    let b = both_true (eqb x y) (same_bytes xs ys) e in
    ap₂ (λ (z : ℕ) (zs : List ℕ). z ∷ zs) (eqb-true x y b.0) (same_bytes_lem xs ys b.1)

-- what a field that says the kind k is: the word of its row
pub record WordField (f : List ℕ) (k : ℕ) : Type 0 where
  pub row : Row
  pub is_row : row_of k ≡ some row
  pub same : row.word ≡ f

pub word-spelled : (f : List ℕ) (k : ℕ) → kind_named f ≡ some k → WordField f k
unfolding kind_named
word-spelled f k e = go (row_of k) refl (lowest-some (λ k. word_is (row_of k) f) (length rows) k e).holds
  where
    go : (o : Option Row) → row_of k ≡ o → word_is o f ≡ true → WordField f k
    go none p w = absurd (true_or_false false w refl)
    go (some r) p w = record { row = r; is_row = p; same = same_bytes_lem r.word f w }
