-- Words from block to block: the rows in order have the words of all rows, and a row of which it is not said that its words may differ has the same in
-- every block. Assumes nothing.
use Rattle.std.specs.Prelude.{Bool, true, false, List, ◌≡◌, ltb, length, get_or, take, replicate}
use Rattle.std.proofs.Math.Path.{refl, ap}
use Rattle.std.proofs.Common.{sym, ◌∙◌, ltb-true, lt-ltb, le-ltb, le-leb, arith, take_all, get_or-take}
use Prim.Native.Nat.{ℕ, zero, suc, ◌≤◌, ◌<◌}
use Rattle.std.proofs.lemmas.Bool.{lt-leb}
use Rattle.std.proofs.Math.Decide.{dec_lt}
use Rattle.std.specs.Int.Bits.{bit_or}
use Rattle.std.proofs.Math.ListN.{length-replicate, get_or-eq_default}
use Rattle.script.specs.Tests.{pick}
use Rattle.script.specs.Tests.Bits.{or_first-most, or_second-most}
use Rattle.script.specs.Rows.Laws.{same_anywhere}
use Rattle.terms.specs.Places.{row_limit}
use Rattle.terms.specs.Terms.{row_in, first_atom, of_truth}
use Rattle.terms.specs.declared.Row.{Row}
use Rattle.rows.specs.Code.{pattern_of, row_word, word_of, words, rows_from, evaluate_row, evaluated_to, change_of, change_row, changed_to, changes_of}
use Rattle.rows.specs.Code.Laws.{words-length, operand-out}
use Rattle.known.specs.Ordered.{taken-alike, filled_to, filled_alike, after, after-length, after_kept, after-fixed, after-all}
use Rattle.known.specs.Words.{words-at, words_same}

-- ---- words

module _ (ws : List ℕ) (ns : List ℕ) (block : ℕ) where
  abbrev word_by : List ℕ → ℕ → ℕ
  word_by xs i = row_word (row_in ws i) (get_or xs (row_in ws i).a 0) (get_or xs (row_in ws i).b 0) (get_or ns i 0) block

  evaluated_filled : (os vs : List ℕ) (m : ℕ) → evaluated_to ws os ns block vs m ≡ filled_to word_by os vs m
  unfolding evaluated_to evaluate_row filled_to
  evaluated_filled os vs zero = refl
  evaluated_filled os vs (suc m) = rw (evaluated_filled os vs m) refl

  module _ (ms : List ℕ) (least n : ℕ) where
    abbrev all : List ℕ
    all = words ws ms least ns block n

    before : (i a : ℕ) → i < n → get_or (words ws ms least ns block i) a 0 ≡ get_or (take i all) a 0
    before i a h = go (dec_lt a i)
      where
        go : Dec (a < i) → get_or (words ws ms least ns block i) a 0 ≡ get_or (take i all) a 0
        go (yes l) = words_same ws ms least ns block n i a l (omega arith) ∙ sym (get_or-take i all a 0 l)
        go (no l) =
            let e = words-length ws ms least ns block i in
            get_or-eq_default (words ws ms least ns block i) 0 (omega arith) ∙ sym (operand-out all i a (omega arith))

    pub word-fixed : (i : ℕ) → i < n → least ≤ get_or ms i 0 → get_or all i 0 ≡ word_by (take i all) i
    unfolding word_of
    word-fixed i h m =
        words-at ws ms least ns block n i h
        ∙ rw (le-ltb (get_or ms i 0) least m, before i (row_in ws i).a h, before i (row_in ws i).b h) refl

    -- the rows that are listed have the mark, and the others have their words
    module _ (fs : List ℕ) (low : ℕ) (os : List ℕ) (count : ℕ) (many : count ≡ length (rows_from fs low n)) (is : take count os ≡ rows_from fs low n)
        (listed : (i : ℕ) → i < n → low ≤ get_or fs i 0 → least ≤ get_or ms i 0) (vs : List ℕ) where
      evaluated_after : evaluated_to ws os ns block vs count ≡ after word_by fs low vs n
      unfolding after
      evaluated_after =
          evaluated_filled os vs count ∙ filled_alike word_by os (rows_from fs low n) vs count (taken-alike os (rows_from fs low n) count is)
          ∙ ap (filled_to word_by (rows_from fs low n) vs) many

      pub evaluated_length : length (evaluated_to ws os ns block vs count) ≡ length vs
      evaluated_length = ap length evaluated_after ∙ after-length word_by fs low vs n

      pub evaluated_words : n ≤ length vs → ((i : ℕ) → i < n → get_or fs i 0 < low → get_or vs i 0 ≡ get_or all i 0) → take n (evaluated_to ws os ns block vs count) ≡ all
      evaluated_words long there =
          let l = words-length ws ms least ns block n in
          ap (take n) evaluated_after
          ∙ after-all word_by fs low vs all (λ i h m. word-fixed i (omega arith) (listed i (omega arith) m)) (λ i h m. there i (omega arith) m) n long (omega arith)
          ∙ take_all n all (omega arith)

-- ---- the rows whose words may differ

pattern_steady : (m block : ℕ) → m < 6 → pattern_of m block ≡ pattern_of m 0
unfolding pattern_of
pattern_steady zero block h = refl
pattern_steady (suc zero) block h = refl
pattern_steady (suc (suc zero)) block h = refl
pattern_steady (suc (suc (suc zero))) block h = refl
pattern_steady (suc (suc (suc (suc zero)))) block h = refl
pattern_steady (suc (suc (suc (suc (suc zero))))) block h = refl
pattern_steady (suc (suc (suc (suc (suc (suc m)))))) block h = absurd (omega arith)

-- of an atom and of another row
change_atom : (r : Row) (m x y : ℕ) → first_atom ≤ r.op → change_of r m x y ≡ 0 → m < 6
unfolding change_of
change_atom r m x y h e = go (ltb m 6) refl (rw (le-ltb r.op first_atom h) at e)
  where
    go : (t : Bool) → ltb m 6 ≡ t → ◌≡◌ {A = ℕ} (pick t 0 1) 0 → m < 6
    go true q z = ltb-true m 6 q
    go false q z = absurd (omega arith)

change_operands : (r : Row) (m x y : ℕ) → r.op < first_atom → change_of r m x y ≡ 0 → (x ≡ 0) × (y ≡ 0)
unfolding change_of
change_operands r m x y h e =
    let z : bit_or x y ≡ 0 = rw (lt-ltb r.op first_atom h) at e in
    let a = or_first-most x y in
    let b = or_second-most x y in
    (omega arith, omega arith)

row-steady : (r : Row) (x y u v m block : ℕ) → r.op < first_atom → x ≡ u → y ≡ v → row_word r x y m block ≡ row_word r u v m 0
unfolding row_word
row-steady r x y u v m block h ex ey = rw (lt-leb first_atom r.op h, ex, ey) refl

atom-steady : (r : Row) (x y u v m block : ℕ) → first_atom ≤ r.op → m < 6 → row_word r x y m block ≡ row_word r u v m 0
unfolding row_word
atom-steady r x y u v m block h l = rw (le-leb first_atom r.op h) (pattern_steady m block l)

module _ (ws ns ms : List ℕ) (least n : ℕ) (few : n ≤ row_limit) (os : List ℕ) (count : ℕ) (many : count ≡ length (rows_from ms least n)) (is : take count os ≡ rows_from ms least n) where
  abbrev changes : List ℕ
  changes = changes_of ws os ns count

  change_by : List ℕ → ℕ → ℕ
  change_by hs i = change_of (row_in ws i) (get_or ns i 0) (get_or hs (row_in ws i).a 0) (get_or hs (row_in ws i).b 0)

  changed_filled : (os vs : List ℕ) (m : ℕ) → changed_to ws os ns vs m ≡ filled_to change_by os vs m
  unfolding changed_to change_row filled_to change_by
  changed_filled os vs zero = refl
  changed_filled os vs (suc m) = rw (changed_filled os vs m) refl

  changes-after : changes ≡ after change_by ms least (replicate row_limit 0) n
  unfolding changes_of after
  changes-after =
      changed_filled os (replicate row_limit 0) count
      ∙ filled_alike change_by os (rows_from ms least n) (replicate row_limit 0) count (taken-alike os (rows_from ms least n) count is)
      ∙ ap (filled_to change_by (rows_from ms least n) (replicate row_limit 0)) many

  pub changes-length : length changes ≡ row_limit
  changes-length = ap length changes-after ∙ after-length change_by ms least (replicate row_limit 0) n ∙ length-replicate {A = ℕ} row_limit 0

  -- of a row without the mark it is not said
  pub change_none : (i : ℕ) → get_or ms i 0 < least → get_or changes i 0 ≡ 0
  change_none i m =
      ap (λ (l : List ℕ). get_or l i 0) changes-after ∙ after_kept change_by ms least (replicate row_limit 0) i m n ∙ same_anywhere row_limit 0 i

  pub change_listed : (i : ℕ) → 1 ≤ get_or changes i 0 → least ≤ get_or ms i 0
  change_listed i h = go (dec_lt (get_or ms i 0) least)
    where
      go : Dec (get_or ms i 0 < least) → least ≤ get_or ms i 0
      go (yes m) = let e = change_none i m in absurd (omega arith)
      go (no m) = omega arith

  change_fixed : (i : ℕ) → i < n → least ≤ get_or ms i 0
      → get_or changes i 0 ≡ change_of (row_in ws i) (get_or ns i 0) (get_or (take i changes) (row_in ws i).a 0) (get_or (take i changes) (row_in ws i).b 0)
  unfolding change_by
  change_fixed i h m =
      let l = length-replicate {A = ℕ} row_limit 0 in
      rw changes-after (after-fixed change_by ms least (replicate row_limit 0) i n h (omega arith) m)

  -- the word of an operand
  operand-steady : (block i a : ℕ) → i < n
      → ((j : ℕ) → j < i → get_or changes j 0 ≡ 0 → get_or (words ws ms least ns block n) j 0 ≡ get_or (words ws ms least ns 0 n) j 0)
      → get_or (take i changes) a 0 ≡ 0 → get_or (take i (words ws ms least ns block n)) a 0 ≡ get_or (take i (words ws ms least ns 0 n)) a 0
  operand-steady block i a h ih z = go (dec_lt a i)
    where
      go : Dec (a < i) → get_or (take i (words ws ms least ns block n)) a 0 ≡ get_or (take i (words ws ms least ns 0 n)) a 0
      go (yes l) =
          get_or-take i (words ws ms least ns block n) a 0 l ∙ ih a l (sym (get_or-take i changes a 0 l) ∙ z) ∙ sym (get_or-take i (words ws ms least ns 0 n) a 0 l)
      go (no l) = operand-out (words ws ms least ns block n) i a (omega arith) ∙ sym (operand-out (words ws ms least ns 0 n) i a (omega arith))

  pub no_word : (block i : ℕ) → i < n → get_or ms i 0 < least → get_or (words ws ms least ns block n) i 0 ≡ 0
  unfolding word_of
  no_word block i h m = words-at ws ms least ns block n i h ∙ rw (lt-ltb (get_or ms i 0) least m) refl

  -- a row of which it is not said has the same word in every block
  pub steady : (k i : ℕ) → i < k → i < n → get_or changes i 0 ≡ 0 → (block : ℕ) → get_or (words ws ms least ns block n) i 0 ≡ get_or (words ws ms least ns 0 n) i 0
  steady zero i l h z block = absurd (omega arith)
  steady (suc k) i l h z block = go (dec_lt (get_or ms i 0) least) (dec_lt (row_in ws i).op of_truth) (λ j m q. steady k j (omega arith) (omega arith) q block)
    where
      go : Dec (get_or ms i 0 < least) → Dec ((row_in ws i).op < first_atom)
          → ((j : ℕ) → j < i → get_or changes j 0 ≡ 0 → get_or (words ws ms least ns block n) j 0 ≡ get_or (words ws ms least ns 0 n) j 0)
          → get_or (words ws ms least ns block n) i 0 ≡ get_or (words ws ms least ns 0 n) i 0
      go (yes m) d ih = no_word block i h m ∙ sym (no_word 0 i h m)
      go (no m) (yes o) ih =
          let e = change_operands (row_in ws i) (get_or ns i 0) _ _ o (sym (change_fixed i h (omega arith)) ∙ z) in
          word-fixed ws ns block ms least n i h (omega arith)
          ∙ row-steady (row_in ws i) _ _ _ _ (get_or ns i 0) block o (operand-steady block i (row_in ws i).a h ih e.0) (operand-steady block i (row_in ws i).b h ih e.1)
          ∙ sym (word-fixed ws ns 0 ms least n i h (omega arith))
      go (no m) (no o) ih =
          let e = change_atom (row_in ws i) (get_or ns i 0) _ _ (omega arith) (sym (change_fixed i h (omega arith)) ∙ z) in
          word-fixed ws ns block ms least n i h (omega arith) ∙ atom-steady (row_in ws i) _ _ _ _ (get_or ns i 0) block (omega arith) e
          ∙ sym (word-fixed ws ns 0 ms least n i h (omega arith))

-- ---- from block to block

-- the rows of which it is not said have their words
pub record Steadily (ws ms : List ℕ) (least : ℕ) (ns : List ℕ) (n : ℕ) (fs vs : List ℕ) : Type 0 where
  pub long : n ≤ length vs
  pub there : (i : ℕ) → i < n → get_or fs i 0 < 1 → get_or vs i 0 ≡ get_or (words ws ms least ns 0 n) i 0

module _ (ws ns ms : List ℕ) (least n : ℕ) (few : n ≤ row_limit) (os : List ℕ) (count : ℕ) (many : count ≡ length (rows_from ms least n)) (is : take count os ≡ rows_from ms least n) where
  abbrev said : List ℕ
  said = changes_of ws os ns count

  none_said : (i : ℕ) → get_or said i 0 < 1 → get_or said i 0 ≡ 0
  none_said i h = omega arith

  -- after the first block
  module _ (vs : List ℕ) (zeros : (i : ℕ) → get_or vs i 0 ≡ 0) (long : n ≤ length vs) where
    first-words : take n (evaluated_to ws os ns 0 vs count) ≡ words ws ms least ns 0 n
    first-words =
        evaluated_words ws ns 0 ms least n ms least os count many is (λ i h m. m) vs long
        (λ i h m. zeros i ∙ sym (no_word ws ns ms least n few os count many is 0 i h m))

    pub first-length : length (evaluated_to ws os ns 0 vs count) ≡ length vs
    first-length = evaluated_length ws ns 0 ms least n ms least os count many is (λ i h m. m) vs

    pub first-steadily : Steadily ws ms least ns n said (evaluated_to ws os ns 0 vs count)
    first-steadily =
        let l = first-length in
        record { long = omega arith; there = λ i h m. taken-alike (evaluated_to ws os ns 0 vs count) _ n first-words i h }

  -- after any other
  module _ (ls : List ℕ) (more : ℕ) (more-many : more ≡ length (rows_from said 1 n)) (later : take more ls ≡ rows_from said 1 n) (vs : List ℕ)
      (k : Steadily ws ms least ns n said vs) (block : ℕ) where
    abbrev now : List ℕ
    now = evaluated_to ws ls ns block vs more

    pub later-words : take n now ≡ words ws ms least ns block n
    later-words =
        evaluated_words ws ns block ms least n said 1 ls more more-many later (λ i h m. change_listed ws ns ms least n few os count many is i m) vs k.long
        (λ i h m. k.there i h m ∙ sym (steady ws ns ms least n few os count many is (suc i) i (omega arith) h (none_said i m) block))

    pub later-length : length now ≡ length vs
    later-length = evaluated_length ws ns block ms least n said 1 ls more more-many later (λ i h m. change_listed ws ns ms least n few os count many is i m) vs

    pub later-steadily : Steadily ws ms least ns n said now
    later-steadily =
        let l = later-length in
        let b = k.long in
        record {
          long = omega arith;
          there = λ i h m.
              taken-alike now _ n later-words i h ∙ steady ws ns ms least n few os count many is (suc i) i (omega arith) h (none_said i m) block;
        }
