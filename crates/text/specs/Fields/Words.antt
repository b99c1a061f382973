-- The words as the code keeps them, and the kind of a word. Assumes nothing.
use Rattle.std.specs.Prelude.{Bool, true, List, [], ◌∷◌, ◌++◌, map, ◌≡◌, refl, ℕ, zero, suc, ◌+◌, ◌*◌, ◌-◌, ◌≤◌, ◌<◌, leb, length, get_or, take, drop, replicate}
use Rattle.std.proofs.Math.Option.{Option, none, some}
use Rattle.std.proofs.Common.{sym, ap, ◌∙◌, arith, length-append, drop-drop, leb-true}
use Rattle.std.proofs.Math.ListN.{get_elem?}
use Rattle.std.proofs.lemmas.List.{length-replicate, take-append-le}
use Rattle.std.proofs.Math.Seq.{take-append_seam, drop-append_seam}
use Rattle.script.specs.Rows.{Row, rows, row_of}
use Rattle.script.specs.Rows.Kinds.{kind_count}
use Rattle.script.specs.Rows.Laws.{row-some}
use Rattle.script.specs.Tests.{all, lowest}
use Rattle.script.specs.Tests.Laws.{both_true, lowest-some}
use Rattle.text.specs.Fields.{same_bytes, word_is, kind_named}
use Rattle.text.specs.Code.Output.{word_by, word_of}

-- ---- the words as the code keeps them

-- a word in its five places
abbrev pub placed : List ℕ → List ℕ
placed w = w ++ replicate (5 - length w) 32

-- the words in the order of the kinds
abbrev pub letters_in : List Row → List ℕ
letters_in [] = []
letters_in (r ∷ rs) = placed r.word ++ letters_in rs

-- how long each word is
abbrev pub lengths_in : List Row → List ℕ
lengths_in rs = map (λ (r : Row). length r.word) rs

-- each word has room
abbrev short : List Row → Bool
short rs = all (λ (r : Row). leb (length r.word) 5) rs

all_short : short rows ≡ true
unfolding rows
all_short = refl

length-placed : (w : List ℕ) → length w ≤ 5 → length (placed w) ≡ 5
length-placed w h = let e = length-append w (replicate (5 - length w) 32) in let f = length-replicate {A = ℕ} (5 - length w) 32 in omega arith

behind-placed : (w ls : List ℕ) → length w ≤ 5 → drop 5 (placed w ++ ls) ≡ ls
behind-placed w ls h = rw (length-placed w h) at (drop-append_seam (placed w) ls)

spelled_at : (rs : List Row) → short rs ≡ true → (k : ℕ) → word_by (get_elem? rs k) ≡ take (get_or (lengths_in rs) k 0) (drop (5 * k) (letters_in rs))
spelled_at [] h k = refl
spelled_at (r ∷ rs) h zero =
    let l = length-append r.word (replicate (5 - length r.word) 32) in
    sym (take-append-le (length r.word) (placed r.word) (letters_in rs) (omega arith) ∙ take-append_seam r.word (replicate (5 - length r.word) 32))
spelled_at (r ∷ rs) h (suc k) =
    let b = both_true (leb (length r.word) 5) (short rs) h in
    let n : 5 * suc k ≡ 5 + 5 * k = omega arith in
    spelled_at rs b.1 k
    ∙ ap (λ (ls : List ℕ). take (get_or (lengths_in rs) k 0) (drop (5 * k) ls)) (sym (behind-placed r.word (letters_in rs) (leb-true _ 5 b.0)))
    ∙ ap (take (get_or (lengths_in rs) k 0)) (drop-drop (5 * k) 5 (letters_in (r ∷ rs)) ∙ ap (λ (m : ℕ). drop m (letters_in (r ∷ rs))) (sym n))

spelled-most : (rs : List Row) → short rs ≡ true → (k : ℕ) → get_or (lengths_in rs) k 0 ≤ 5
spelled-most [] h k = omega arith
spelled-most (r ∷ rs) h zero = leb-true (length r.word) 5 (both_true (leb (length r.word) 5) (short rs) h).0
spelled-most (r ∷ rs) h (suc k) = spelled-most rs (both_true (leb (length r.word) 5) (short rs) h).1 k

pub word-most : (k : ℕ) → get_or (lengths_in rows) k 0 ≤ 5
word-most k = spelled-most rows all_short k

-- the word of a kind, from its start to its end
pub word-part : (k : ℕ) → word_of k ≡ take (5 * k + get_or (lengths_in rows) k 0 - 5 * k) (drop (5 * k) (letters_in rows))
unfolding word_of row_of
word-part k =
    let n : 5 * k + get_or (lengths_in rows) k 0 - 5 * k ≡ get_or (lengths_in rows) k 0 = omega arith in
    rw n (spelled_at rows all_short k)

-- each kind has a word
pub word-is : (k : ℕ) (f : List ℕ) → k < kind_count → word_is (row_of k) f ≡ same_bytes (word_of k) f
unfolding word_of
word-is k f h = go (row_of k) refl
  where
    go : (o : Option Row) → row_of k ≡ o → word_is o f ≡ same_bytes (word_by o) f
    go none e = absurd (row-some k h e)
    go (some r) e = refl

-- ---- the kind of a word, as the lowest of all kinds

abbrev pub is_kind_of : List ℕ → ℕ → Bool
is_kind_of f k = word_is (row_of k) f

pub kind-lowest : (f : List ℕ) → kind_named f ≡ lowest (is_kind_of f) kind_count
unfolding kind_named
kind-lowest f = refl

pub kind-below : (f : List ℕ) (k : ℕ) → kind_named f ≡ some k → k < kind_count
kind-below f k e = (lowest-some (is_kind_of f) kind_count k (sym (kind-lowest f) ∙ e)).below
