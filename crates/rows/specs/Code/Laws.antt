-- Laws of the steps: what the proofs of the functions cite. Assumes nothing.
use Rattle.std.specs.Prelude.{Bool, List, [], ◌∷◌, ◌≡◌, leb, ltb, eqb, length, get_or, take, set}
use Rattle.std.proofs.Math.Bool.{true, false}
use Rattle.std.proofs.Math.Path.{refl}
use Rattle.std.proofs.Common.{ap, ◌∙◌, lt-ltb, le-ltb, le-leb, length-set, length-take}
use Prim.Native.Nat.{ℕ, zero, suc, ◌+◌, ◌-◌, ◌/◌, ◌%◌, ◌≤◌, ◌<◌}
use Rattle.std.proofs.Math.Decide.{dec_lt}
use native.Mathlib.Omega.{arith}
use Rattle.std.specs.Int.Bits.{bit_or}
use Rattle.std.proofs.Math.ListN.{length-append, get_or-eq_default}
use Rattle.script.specs.Tests.{pick}
use Rattle.terms.specs.Terms.{row_in, first_atom, of_conjunction, of_exclusion, of_negation}
use Rattle.terms.specs.declared.Row.{Row}
use Rattle.rows.specs.declared.Counts.{Counts}
use Rattle.rows.specs.Code.{above, operand_below, reached, mark_row, marked, seen_after, rank, tally, Visited, spread_of, pattern_of, word_of, words}

-- ---- above

pub above-first : (a b : ℕ) → a < above a b
unfolding above
above-first a b = go (dec_lt a b)
  where
    go : Dec (a < b) → a < pick (ltb a b) (b + 1) (a + 1)
    go (yes h) = rw (lt-ltb a b h) (omega arith)
    go (no h) = rw (le-ltb a b (omega arith)) (omega arith)

pub above-second : (a b : ℕ) → b < above a b
unfolding above
above-second a b = go (dec_lt a b)
  where
    go : Dec (a < b) → b < pick (ltb a b) (b + 1) (a + 1)
    go (yes h) = rw (lt-ltb a b h) (omega arith)
    go (no h) = rw (le-ltb a b (omega arith)) (omega arith)

pub above_within : (a b n : ℕ) → a < n → b < n → above a b ≤ n
unfolding above
above_within a b n p q = go (dec_lt a b)
  where
    go : Dec (a < b) → pick (ltb a b) (b + 1) (a + 1) ≤ n
    go (yes h) = rw (lt-ltb a b h) (omega arith)
    go (no h) = rw (le-ltb a b (omega arith)) (omega arith)

-- ---- marks

pick-within : (b : Bool) (k n : ℕ) → k ≤ n → pick b 0 k ≤ n
pick-within true k n h = omega arith
pick-within false k n h = h

pub below-within : (least op mark i : ℕ) → operand_below least op mark i ≤ i
unfolding operand_below
below-within least op mark i = pick-within (eqb mark 0) _ i (pick-within (ltb op least) _ i (pick-within (ltb of_exclusion op) i i (omega arith)))

pub reached-length : (ms : List ℕ) (a below mark : ℕ) → length (reached ms a below mark) ≡ length ms
unfolding reached
reached-length ms a below mark = go (leb below a)
  where
    go : (b : Bool) → length (pick b ms (set ms a (bit_or (get_or ms a 0) mark))) ≡ length ms
    go true = refl
    go false = length-set ms a (bit_or (get_or ms a 0) mark)

-- no row is below row 0
reached-none : (ms : List ℕ) (a mark : ℕ) → reached ms a 0 mark ≡ ms
unfolding reached
reached-none ms a mark = rw (le-leb 0 a (omega arith))

below_unmarked : (least op i : ℕ) → operand_below least op 0 i ≡ 0
unfolding operand_below
below_unmarked least op i = refl

below-atom : (least op mark i : ℕ) → first_atom ≤ op → operand_below least op mark i ≡ 0
unfolding operand_below
below-atom least op mark i h = rw (lt-ltb of_exclusion op h) (go (eqb mark 0) (ltb op least))
  where
    go : (a b : Bool) → pick a zero (pick b zero zero) ≡ 0
    go true b = refl
    go false true = refl
    go false false = refl

-- both operands, one after the other
pub mark_made : (ms mid last : List ℕ) (r : Row) (i f s : ℕ) → f ≡ operand_below of_negation r.op (get_or ms i 0) i → mid ≡ reached ms r.a f (get_or ms i 0)
    → s ≡ operand_below of_conjunction r.op (get_or ms i 0) i → last ≡ reached mid r.b s (get_or ms i 0) → last ≡ mark_row ms r i
unfolding mark_row
mark_made ms mid last r i f s ef em es el = rw (el, em, ef, es)

pub mark_row-length : (ms : List ℕ) (r : Row) (i : ℕ) → length (mark_row ms r i) ≡ length ms
unfolding mark_row
mark_row-length ms r i = reached-length _ r.b _ _ ∙ reached-length ms r.a _ _

-- a row with no mark marks none, and no more does an atom
mark_unmarked : (ms : List ℕ) (r : Row) (i : ℕ) → get_or ms i 0 ≡ 0 → ms ≡ mark_row ms r i
unfolding mark_row
mark_unmarked ms r i e =
    rw (e, below_unmarked of_negation r.op i, below_unmarked of_conjunction r.op i, reached-none ms r.a 0, reached-none ms r.b 0)

mark_atom : (ms : List ℕ) (r : Row) (i : ℕ) → first_atom ≤ r.op → ms ≡ mark_row ms r i
unfolding mark_row
mark_atom ms r i h =
    let m = get_or ms i 0 in
    rw (below-atom of_negation r.op m i h, below-atom of_conjunction r.op m i h, reached-none ms r.a m, reached-none ms r.b m)

pub marked-length : (ws : List ℕ) (n : ℕ) (ms : List ℕ) → length (marked ws n ms) ≡ length ms
unfolding marked
marked-length ws zero ms = refl
marked-length ws (suc j) ms = marked-length ws j (mark_row ms (row_in ws j) j) ∙ mark_row-length ms (row_in ws j) j

pub marked-none : (ws ms : List ℕ) → marked ws 0 ms ≡ ms
unfolding marked
marked-none ws ms = refl

-- one row of the rest
pub marked_on : (ws ms : List ℕ) (j k : ℕ) → j ≡ suc k → marked ws k (mark_row ms (row_in ws k) k) ≡ marked ws j ms
unfolding marked
marked_on ws ms j k e = rw e refl

-- ---- atoms

pub rank-none : (ws ms : List ℕ) (least : ℕ) → rank ws ms least 0 ≡ 0
unfolding rank
rank-none ws ms least = refl

module _ (op mark least : ℕ) where
  -- counted before or after is the same
  pub seen_sum : (a b : ℕ) → seen_after op mark least a + b ≡ a + seen_after op mark least b
  unfolding seen_after
  seen_sum a b = go (ltb mark least) (ltb op first_atom)
    where
      go : (s t : Bool) → pick s a (pick t a (a + 1)) + b ≡ a + pick s b (pick t b (b + 1))
      go true t = refl
      go false true = refl
      go false false = omega arith

  pub seen_grows : (seen : ℕ) → seen ≤ seen_after op mark least seen
  unfolding seen_after
  seen_grows seen = go (ltb mark least) (ltb op first_atom)
    where
      go : (s t : Bool) → seen ≤ pick s seen (pick t seen (seen + 1))
      go true t = omega arith
      go false true = omega arith
      go false false = omega arith

  pub seen_most : (seen : ℕ) → seen_after op mark least seen ≤ suc seen
  unfolding seen_after
  seen_most seen = go (ltb mark least) (ltb op first_atom)
    where
      go : (s t : Bool) → pick s seen (pick t seen (seen + 1)) ≤ suc seen
      go true t = omega arith
      go false true = omega arith
      go false false = omega arith

-- a row with no mark is not counted
seen_unmarked : (op least seen : ℕ) → 0 < least → seen_after op 0 least seen ≡ seen
unfolding seen_after
seen_unmarked op least seen h = rw (lt-ltb 0 least h)

tally_unmarked : (op mark : ℕ) (k : Counts) → mark ≡ 0 → k ≡ tally op mark k
unfolding tally
tally_unmarked op mark k e =
    rw (e, seen_unmarked op 1 k.all (omega arith), seen_unmarked op 2 k.own (omega arith), seen_unmarked op 3 k.shared (omega arith))

-- nor is one that is no atom
seen_other : (op mark least seen : ℕ) → op < first_atom → seen_after op mark least seen ≡ seen
unfolding seen_after
seen_other op mark least seen h = rw (lt-ltb op first_atom h) (go (ltb mark least))
  where
    go : (s : Bool) → pick s seen seen ≡ seen
    go true = refl
    go false = refl

tally-other : (op mark : ℕ) (k : Counts) → op < first_atom → k ≡ tally op mark k
unfolding tally
tally-other op mark k h = rw (seen_other op mark 1 k.all h, seen_other op mark 2 k.own h, seen_other op mark 3 k.shared h)

tally-made : (op mark a b d : ℕ) (k : Counts) → a ≡ seen_after op mark 1 k.all → b ≡ seen_after op mark 2 k.own → d ≡ seen_after op mark 3 k.shared
    → record { all = a; own = b; shared = d } ≡ tally op mark k
unfolding tally
tally-made op mark a b d k ea eb ed = rw (ea, eb, ed)

-- ---- one row: marked and counted

module _ {ws ms : List ℕ} (i : ℕ) (k : Counts) where
  pub visited_unmarked : get_or ms i 0 ≡ 0 → Visited ws ms i k k ms
  visited_unmarked e =
      record { counts = tally_unmarked (row_in ws i).op (get_or ms i 0) k e; marks = mark_unmarked ms (row_in ws i) i e }

  pub visited_atom : (r : Row) (a b d : ℕ) → r ≡ row_in ws i → first_atom ≤ r.op → a ≡ seen_after r.op (get_or ms i 0) 1 k.all
      → b ≡ seen_after r.op (get_or ms i 0) 2 k.own → d ≡ seen_after r.op (get_or ms i 0) 3 k.shared
      → Visited ws ms i k (record { all = a; own = b; shared = d }) ms
  visited_atom r a b d e h ea eb ed =
      record {
        counts = tally-made r.op (get_or ms i 0) a b d k ea eb ed ∙ ap (λ (q : Row). tally q.op (get_or ms i 0) k) e;
        marks = mark_atom ms r i h ∙ ap (λ (q : Row). mark_row ms q i) e;
      }

  pub visited_other : (r : Row) (out : List ℕ) → r ≡ row_in ws i → r.op < first_atom → out ≡ mark_row ms r i → Visited ws ms i k k out
  visited_other r out e h eo =
      record {
        counts = tally-other r.op (get_or ms i 0) k h ∙ ap (λ (q : Row). tally q.op (get_or ms i 0) k) e;
        marks = eo ∙ ap (λ (q : Row). mark_row ms q i) e;
      }

-- ---- words

pub past : (m k : ℕ) → k ≤ m → (m ≡ k → ⊥) → suc k ≤ m
past m k h n = omega arith

pub pattern_many : (m block : ℕ) → 8 < m → pattern_of m block ≡ spread_of (block / 8 % 2)
unfolding pattern_of
pattern_many m block h = go (m - 9) (omega arith)
  where
    go : (t : ℕ) → m ≡ suc (suc (suc (suc (suc (suc (suc (suc (suc t)))))))) → pattern_of m block ≡ spread_of (block / 8 % 2)
    go t e = rw e refl

module _ (ws ms : List ℕ) (least : ℕ) (ns : List ℕ) (block : ℕ) where
  pub words-length : (i : ℕ) → length (words ws ms least ns block i) ≡ i
  unfolding words
  words-length zero = refl
  words-length (suc i) =
      let l = length-append (words ws ms least ns block i) (word_of (words ws ms least ns block i) (row_in ws i) (get_or ms i 0) least (get_or ns i 0) block ∷ []) in
      let h = words-length i in
      omega arith

-- an operand at or after its row is 0
pub operand-out : (vs : List ℕ) (i a : ℕ) → i ≤ a → get_or (take i vs) a 0 ≡ 0
operand-out vs i a h = let l = length-take i vs in get_or-eq_default (take i vs) 0 (omega arith)
