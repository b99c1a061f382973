-- The decision on the lent numbers, step by step as the code makes it: the rows reached are marked, the atoms among them counted, and the truths of the
-- rows computed for 64 assignments at a time. A mark is 1 for what the condition reaches, 2 for what the guard does, and 3 for what both do; the rows
-- that have at least the mark 1, 2 or 3 are those that either reaches, that the guard does, and that both do. Assumes nothing.
pub mod Laws
pub mod Leaves
pub mod Loops
use Rattle.std.specs.Prelude.{Bool, true, false, not, List, [], ◌∷◌, ◌++◌, ◌≡◌, ℕ, zero, suc, ◌+◌, ◌-◌, ◌*◌, ◌/◌, ◌%◌, ◌≤◌, ◌<◌, leb, ltb, eqb, length, get_or, take, set, replicate}
use Rattle.std.specs.Int.Bits.{bit_and, bit_or, bit_xor}
use Rattle.script.specs.Tests.{pick}
use Rattle.terms.specs.Places.{row_limit, rows_end}
use Rattle.terms.specs.Terms.{row_in, first_atom, of_conjunction, of_constant, of_equality, of_exclusion, of_negation}
use Rattle.terms.specs.declared.Row.{Row}
use Rattle.rows.specs.Decision.{branches_of, only_one}
use Rattle.rows.specs.declared.Counts.{Counts}
use Rattle.rows.specs.declared.Decision.{Decision}
use Rattle.rows.specs.declared.Decision.TheVariants.{TooMany, OnlyTrue, OnlyFalse}

-- the row after the greater of two
unfoldable pub above : ℕ → ℕ → ℕ
above a b = pick (ltb a b) (b + 1) (a + 1)

-- the slice has all its rows, of which the first n have a mark
pub record Room (ws : List ℕ) (n : ℕ) (ms : List ℕ) : Type 0 where
  pub lent : rows_end ≤ length ws
  pub few : n ≤ row_limit
  pub marks : n ≤ length ms

-- ---- marks

-- below which row an operand of a marked row lies that the operators from `least` to 7 have
unfoldable pub operand_below : ℕ → ℕ → ℕ → ℕ → ℕ
operand_below least op mark i = pick (eqb mark 0) 0 (pick (ltb op least) 0 (pick (ltb of_exclusion op) 0 i))

-- row a has one mark more
unfoldable pub reached : List ℕ → ℕ → ℕ → ℕ → List ℕ
reached ms a below mark = pick (leb below a) ms (set ms a (bit_or (get_or ms a 0) mark))

unfoldable pub mark_row : List ℕ → Row → ℕ → List ℕ
mark_row ms r i =
    reached (reached ms r.a (operand_below of_negation r.op (get_or ms i 0) i) (get_or ms i 0)) r.b (operand_below of_conjunction r.op (get_or ms i 0) i) (get_or ms i 0)

-- from the last row down
unfoldable pub marked : List ℕ → ℕ → List ℕ → List ℕ
marked ws zero ms = ms
marked ws (suc j) ms = marked ws j (mark_row ms (row_in ws j) j)

-- ---- atoms

-- those that have at least a mark count
unfoldable pub seen_after : ℕ → ℕ → ℕ → ℕ → ℕ
seen_after op mark least seen = pick (ltb mark least) seen (pick (ltb op first_atom) seen (seen + 1))

-- how many of the first rows are atoms with at least a mark: the number of the next one
unfoldable pub rank : List ℕ → List ℕ → ℕ → ℕ → ℕ
rank ws ms least zero = 0
rank ws ms least (suc i) = seen_after (row_in ws i).op (get_or ms i 0) least (rank ws ms least i)

-- one row more is counted
unfoldable pub tally : ℕ → ℕ → Counts → Counts
tally op mark k =
    record { all = seen_after op mark 1 k.all; own = seen_after op mark 2 k.own; shared = seen_after op mark 3 k.shared }

unfoldable pub counts_of : List ℕ → List ℕ → ℕ → Counts
counts_of ws ms n = record { all = rank ws ms 1 n; own = rank ws ms 2 n; shared = rank ws ms 3 n }

-- one row more can be counted
pub record Low (k : Counts) : Type 0 where
  pub all : k.all < row_limit
  pub own : k.own < row_limit
  pub shared : k.shared < row_limit

-- what a visit to row i gives: its operands are marked, and it is counted
pub record Visited (ws ms : List ℕ) (i : ℕ) (k next : Counts) (out : List ℕ) : Type 0 where
  pub counts : next ≡ tally (row_in ws i).op (get_or ms i 0) k
  pub marks : out ≡ mark_row ms (row_in ws i) i

-- ---- truths of 64 assignments

abbrev pub ones : ℕ
ones = 0xFFFF_FFFF_FFFF_FFFF

unfoldable pub spread_of : ℕ → ℕ
spread_of b = pick (eqb b 0) 0 ones

-- bit m of each assignment of a block
unfoldable pub pattern_of : ℕ → ℕ → ℕ
pattern_of zero block = 0xAAAA_AAAA_AAAA_AAAA
pattern_of (suc zero) block = 0xCCCC_CCCC_CCCC_CCCC
pattern_of (suc (suc zero)) block = 0xF0F0_F0F0_F0F0_F0F0
pattern_of (suc (suc (suc zero))) block = 0xFF00_FF00_FF00_FF00
pattern_of (suc (suc (suc (suc zero)))) block = 0xFFFF_0000_FFFF_0000
pattern_of (suc (suc (suc (suc (suc zero))))) block = 0xFFFF_FFFF_0000_0000
pattern_of (suc (suc (suc (suc (suc (suc zero)))))) block = spread_of (block % 2)
pattern_of (suc (suc (suc (suc (suc (suc (suc zero))))))) block = spread_of (block / 2 % 2)
pattern_of (suc (suc (suc (suc (suc (suc (suc (suc zero)))))))) block = spread_of (block / 4 % 2)
pattern_of (suc (suc (suc (suc (suc (suc (suc (suc (suc m))))))))) block = spread_of (block / 8 % 2)

-- a row whose operands are x and y; m is its number, if it is an atom
unfoldable pub row_word : Row → ℕ → ℕ → ℕ → ℕ → ℕ
row_word r x y m block =
    pick (leb first_atom r.op) (pattern_of m block)
    (pick (eqb r.op of_exclusion) (bit_and x (ones - y))
    (pick (eqb r.op of_equality) (ones - bit_xor x y)
    (pick (eqb r.op of_conjunction) (bit_and x y)
    (pick (eqb r.op of_negation) (ones - x)
    (pick (eqb r.op of_constant) (spread_of r.a) 0)))))

-- a row by the words of the rows before
unfoldable pub word_of : List ℕ → Row → ℕ → ℕ → ℕ → ℕ → ℕ
word_of vs r mark least m block = pick (ltb mark least) 0 (row_word r (get_or vs r.a 0) (get_or vs r.b 0) m block)

-- the first rows, whose atoms have these numbers
unfoldable pub words : List ℕ → List ℕ → ℕ → List ℕ → ℕ → ℕ → List ℕ
words ws ms least ns block zero = []
words ws ms least ns block (suc i) =
    words ws ms least ns block i ++ (word_of (words ws ms least ns block i) (row_in ws i) (get_or ms i 0) least (get_or ns i 0) block ∷ [])

-- ---- the rows in order

-- after row i, of which so many come before
unfoldable pub count_after : List ℕ → ℕ → ℕ → ℕ → ℕ
count_after ms least i count = pick (ltb (get_or ms i 0) least) count (count + 1)

unfoldable pub listed_row : List ℕ → ℕ → List ℕ → ℕ → ℕ → List ℕ
listed_row ms least os i count = pick (ltb (get_or ms i 0) least) os (set os count i)

-- the rows below n that have at least a mark
unfoldable pub rows_from : List ℕ → ℕ → ℕ → List ℕ
rows_from ms least zero = []
rows_from ms least (suc i) = pick (ltb (get_or ms i 0) least) (rows_from ms least i) (rows_from ms least i ++ (i ∷ []))

pub record Listable (ms os : List ℕ) : Type 0 where
  pub few : length ms ≤ row_limit
  pub lent : length ms ≤ length os

pub record Lists (ms : List ℕ) (n least : ℕ) (os : List ℕ) (count : ℕ) (out : List ℕ) : Type 0 where
  pub same : length out ≡ length os
  pub many : count ≡ length (rows_from ms least n)
  pub rows : take count out ≡ rows_from ms least n
  pub rest : (k : ℕ) → count ≤ k → get_or out k 0 ≡ get_or os k 0

-- rows in order
pub record Rows (ws os : List ℕ) : Type 0 where
  pub lent : rows_end ≤ length ws
  pub few : length os ≤ row_limit
  pub each : (j : ℕ) → j < length os → get_or os j 0 < row_limit

-- ---- the numbers of the atoms among them

unfoldable pub seen_at : List ℕ → ℕ → ℕ → ℕ
seen_at ws i seen = pick (ltb (row_in ws i).op first_atom) seen (seen + 1)

unfoldable pub number_row : List ℕ → List ℕ → ℕ → ℕ → List ℕ
number_row ws ns i seen = pick (ltb (row_in ws i).op first_atom) ns (set ns i seen)

-- how many of the first j rows are atoms
unfoldable pub seen_to : List ℕ → List ℕ → ℕ → ℕ
seen_to ws os zero = 0
seen_to ws os (suc j) = seen_at ws (get_or os j 0) (seen_to ws os j)

-- these have numbers from 0 on
unfoldable pub numbers_to : List ℕ → List ℕ → List ℕ → ℕ → List ℕ
numbers_to ws os ns zero = ns
numbers_to ws os ns (suc j) = number_row ws (numbers_to ws os ns j) (get_or os j 0) (seen_to ws os j)

-- a row is no atom, or has a number; and so do the first j rows
unfoldable pub is_numbered : List ℕ → List ℕ → ℕ → Bool
is_numbered ws ns i = pick (ltb (row_in ws i).op first_atom) true (ltb (get_or ns i 0) 10)

unfoldable pub numbered_to : List ℕ → List ℕ → List ℕ → ℕ → Bool
numbered_to ws os ns zero = true
numbered_to ws os ns (suc j) = pick (is_numbered ws ns (get_or os j 0)) (numbered_to ws os ns j) false

-- no atom has a number
abbrev pub no_numbers : List ℕ
no_numbers = replicate row_limit 10

unfoldable pub numbers_from : List ℕ → List ℕ → ℕ → ℕ → List ℕ
numbers_from ws ms least n = numbers_to ws (rows_from ms least n) no_numbers (length (rows_from ms least n))

-- ---- their words

unfoldable pub evaluate_row : List ℕ → List ℕ → ℕ → List ℕ → ℕ → List ℕ
evaluate_row ws ns block vs i =
    set vs i (row_word (row_in ws i) (get_or (take i vs) (row_in ws i).a 0) (get_or (take i vs) (row_in ws i).b 0) (get_or ns i 0) block)

unfoldable pub evaluated_to : List ℕ → List ℕ → List ℕ → ℕ → List ℕ → ℕ → List ℕ
evaluated_to ws os ns block vs zero = vs
evaluated_to ws os ns block vs (suc j) = evaluate_row ws ns block (evaluated_to ws os ns block vs j) (get_or os j 0)

-- ---- the rows whose words may differ from block to block

-- by what is said of the operands; m is the row's number, if it is an atom
unfoldable pub change_of : Row → ℕ → ℕ → ℕ → ℕ
change_of r m x y = pick (ltb r.op first_atom) (bit_or x y) (pick (ltb m 6) 0 1)

unfoldable pub change_row : List ℕ → List ℕ → List ℕ → ℕ → List ℕ
change_row ws ns hs i =
    set hs i (change_of (row_in ws i) (get_or ns i 0) (get_or (take i hs) (row_in ws i).a 0) (get_or (take i hs) (row_in ws i).b 0))

unfoldable pub changed_to : List ℕ → List ℕ → List ℕ → List ℕ → ℕ → List ℕ
changed_to ws os ns hs zero = hs
changed_to ws os ns hs (suc j) = change_row ws ns (changed_to ws os ns hs j) (get_or os j 0)

unfoldable pub changes_of : List ℕ → List ℕ → List ℕ → ℕ → List ℕ
changes_of ws os ns count = changed_to ws os ns (replicate row_limit 0) count

-- ---- the blocks

unfoldable pub blocks_of : ℕ → ℕ
blocks_of n = pick (eqb n 7) 2 (pick (eqb n 8) 4 (pick (eqb n 9) 8 (pick (eqb n 10) 16 1)))

-- the words of the first k blocks in one
unfoldable pub together : (ℕ → ℕ) → ℕ → ℕ
together f zero = 0
together f (suc k) = bit_or (together f k) (f k)

-- the condition's word; true, where only what the guard reaches has words
unfoldable pub condition_word : List ℕ → ℕ → ℕ → ℕ
condition_word vs c least = pick (eqb least 2) ones (get_or vs c 0)

-- the assignments of a block that allow the true branch, and those that allow the false one
unfoldable pub true_word : List ℕ → List ℕ → ℕ → List ℕ → ℕ → ℕ → ℕ → ℕ
true_word ws ms least ns c g block =
    bit_and (condition_word (words ws ms least ns block (above c g)) c least) (get_or (words ws ms least ns block (above c g)) g 0)

unfoldable pub false_word : List ℕ → List ℕ → ℕ → List ℕ → ℕ → ℕ → ℕ → ℕ
false_word ws ms least ns c g block =
    bit_and (condition_word (words ws ms least ns block (above c g)) c least) (ones - get_or (words ws ms least ns block (above c g)) g 0)

abbrev pub non_zero : ℕ → Bool
non_zero w = not (eqb w 0)

unfoldable pub searched_by : List ℕ → List ℕ → ℕ → List ℕ → ℕ → ℕ → ℕ → Decision
searched_by ws ms least ns c g blocks =
    branches_of (non_zero (together (true_word ws ms least ns c g) blocks)) (non_zero (together (false_word ws ms least ns c g) blocks))

-- the atoms have their numbers in order
unfoldable pub searched : List ℕ → List ℕ → ℕ → ℕ → ℕ → ℕ → Decision
searched ws ms least c g blocks = searched_by ws ms least (numbers_from ws ms least (above c g)) c g blocks

unfoldable pub truths_of : List ℕ → List ℕ → ℕ → ℕ → ℕ → ℕ → ℕ
truths_of ws ms least c g block = condition_word (words ws ms least (numbers_from ws ms least (above c g)) block (above c g)) c least

pub record Searchable (ws : List ℕ) (c g : ℕ) (ms : List ℕ) (least blocks : ℕ) : Type 0 where
  pub low : c < row_limit
  pub high : g < row_limit
  pub room : Room ws (above c g) ms
  pub few : blocks ≤ 16

-- unless both branches are found, the truths of the condition are those of all blocks
pub record Searched (ws ms : List ℕ) (least c g blocks : ℕ) (ts : List ℕ) (r : Decision) (out : List ℕ) : Type 0 where
  pub is : r ≡ searched ws ms least c g blocks
  pub same : length out ≡ length ts
  pub truths : only_one r ≡ true → (b : ℕ) → b < blocks → get_or out b 0 ≡ truths_of ws ms least c g b

-- ---- what is known of a condition

-- how many numbers that takes
abbrev pub known_size : ℕ
known_size = 44

abbrev pub known_row : List ℕ → ℕ → ℕ → ℕ
known_row ws at j = get_or ws (at + 2 + j) 0

abbrev pub known_word : List ℕ → ℕ → ℕ → ℕ
known_word ws at block = get_or ws (at + 12 + 2 * block) 0 + get_or ws (at + 12 + 2 * block + 1) 0 * 4294967296

-- if something is known, its rows are rows
pub record Sound (ws : List ℕ) (at : ℕ) : Type 0 where
  pub count : get_or ws at 0 ≡ 1 → get_or ws (at + 1) 0 ≤ 10
  pub rows : get_or ws at 0 ≡ 1 → (j : ℕ) → j < get_or ws (at + 1) 0 → known_row ws at j < row_limit

-- the first j atoms have their numbers
unfoldable pub known_numbers : List ℕ → ℕ → List ℕ → ℕ → List ℕ
known_numbers ws at ns zero = ns
known_numbers ws at ns (suc j) = set (known_numbers ws at ns j) (known_row ws at j) j

-- row i is kept, if it is an atom with a mark, after so many others
unfoldable pub keep_row : List ℕ → ℕ → ℕ → ℕ → ℕ → List ℕ
keep_row ws at mark i count = pick (ltb mark 1) ws (pick (ltb (row_in ws i).op first_atom) ws (set ws (at + 2 + count) i))

unfoldable pub kept_rows : List ℕ → ℕ → List ℕ → ℕ → List ℕ
kept_rows ws at ms zero = ws
kept_rows ws at ms (suc i) = keep_row (kept_rows ws at ms i) at (get_or ms i 0) i (rank ws ms 1 i)

unfoldable pub keep_word : List ℕ → ℕ → ℕ → ℕ → List ℕ
keep_word ws at block w = set (set ws (at + 12 + 2 * block) (w % 4294967296)) (at + 12 + 2 * block + 1) (w / 4294967296)

unfoldable pub kept_words : List ℕ → ℕ → List ℕ → ℕ → List ℕ
kept_words ws at ts zero = ws
kept_words ws at ts (suc block) = keep_word (kept_words ws at ts block) at block (get_or ts block 0)

-- the atoms with a mark, and the truths of the blocks
unfoldable pub kept : List ℕ → ℕ → List ℕ → ℕ → ℕ → List ℕ → List ℕ
kept ws at ms n blocks ts = set (set (kept_words (kept_rows ws at ms n) at ts blocks) (at + 1) (rank ws ms 1 n)) at 1

pub record Keepable (ws : List ℕ) (at : ℕ) (ms : List ℕ) (n : ℕ) : Type 0 where
  pub behind : rows_end ≤ at
  pub lent : at + known_size ≤ length ws
  pub rows : n ≤ row_limit
  pub marks : n ≤ length ms
  pub few : rank ws ms 1 n ≤ 10

-- the rows that the guard reaches
unfoldable pub guard_marks : List ℕ → ℕ → List ℕ
guard_marks ws g = marked ws (g + 1) (set (replicate row_limit 0) g 1)

unfoldable pub guard_rows : List ℕ → ℕ → List ℕ
guard_rows ws g = rows_from (guard_marks ws g) 1 (g + 1)

pub record GuardListed (ws : List ℕ) (g : ℕ) (os : List ℕ) (count : ℕ) (out : List ℕ) : Type 0 where
  pub same : length out ≡ length os
  pub many : count ≡ length (guard_rows ws g)
  pub rows : take count out ≡ guard_rows ws g
  pub rest : (k : ℕ) → count ≤ k → get_or out k 0 ≡ get_or os k 0

-- the words of the rows and of the guard, where the condition has a truth in this block
unfoldable pub guarded_words : List ℕ → List ℕ → ℕ → List ℕ → ℕ → List ℕ → ℕ → List ℕ
guarded_words ws os count ns block vs c = pick (eqb c 0) vs (evaluated_to ws os ns block vs count)

unfoldable pub guarded_word : List ℕ → ℕ → ℕ → ℕ
guarded_word vs g c = pick (eqb c 0) 0 (get_or vs g 0)

-- the branches by what is known and the words of the guard
unfoldable pub with_known : List ℕ → ℕ → List ℕ → ℕ → ℕ → ℕ
with_known ws at ns g block = bit_and (known_word ws at block) (get_or (words ws (guard_marks ws g) 1 ns block (g + 1)) g 0)

unfoldable pub without_known : List ℕ → ℕ → List ℕ → ℕ → ℕ → ℕ
without_known ws at ns g block = bit_and (known_word ws at block) (ones - get_or (words ws (guard_marks ws g) 1 ns block (g + 1)) g 0)

unfoldable pub compared : List ℕ → ℕ → List ℕ → ℕ → Decision
compared ws at ns g =
    branches_of
    (non_zero (together (with_known ws at ns g) (blocks_of (get_or ws (at + 1) 0))))
    (non_zero (together (without_known ws at ns g) (blocks_of (get_or ws (at + 1) 0))))

pub record Comparable (ws : List ℕ) (at : ℕ) (os : List ℕ) (ns : List ℕ) (g : ℕ) : Type 0 where
  pub behind : rows_end ≤ at
  pub lent : at + known_size ≤ length ws
  pub high : g < row_limit
  pub rows : os ≡ guard_rows ws g
  pub numbers : row_limit ≤ length ns

-- ---- the decision

-- the marks at first: the two rows asked for
abbrev pub first_mark : ℕ → List ℕ
first_mark c = set (replicate row_limit 0) c 1

abbrev pub start_marks : ℕ → ℕ → List ℕ
start_marks c g = set (first_mark c) g (bit_or (get_or (first_mark c) g 0) 2)

unfoldable pub marks_from : List ℕ → ℕ → ℕ → List ℕ
marks_from ws c g = marked ws (above c g) (start_marks c g)

-- the atoms that have at least a mark
unfoldable pub atoms_from : List ℕ → ℕ → ℕ → ℕ → ℕ
atoms_from ws c g least = rank ws (marks_from ws c g) least (above c g)

-- 'a and b' and 'a and not b' have the conjunct b
unfoldable pub is_link : ℕ → Bool
is_link op = pick (eqb op of_conjunction) true (eqb op of_exclusion)

-- the operator with which row i has row g as a conjunct, at most so many rows down; 0 if it does not have it
unfoldable pub conjunct_at : List ℕ → ℕ → ℕ → ℕ → ℕ
conjunct_at ws g zero i = 0
conjunct_at ws g (suc n) i =
    pick (is_link (row_in ws i).op)
    (pick (eqb (row_in ws i).b g) (row_in ws i).op (pick (ltb (row_in ws i).a i) (conjunct_at ws g n (row_in ws i).a) 0))
    0

unfoldable pub conjunct_of : List ℕ → ℕ → ℕ → ℕ
conjunct_of ws c g = conjunct_at ws g (c + 1) c

-- a guard that shares no atom with the condition is decided alone, and one that is a conjunct of it by how it is
unfoldable pub decided_anew : List ℕ → ℕ → ℕ → Decision
decided_anew ws c g =
    pick (ltb 10 (atoms_from ws c g 1)) TooMany
    (pick (eqb (atoms_from ws c g 3) 0)
    (searched ws (marks_from ws c g) 2 g g (blocks_of (atoms_from ws c g 2)))
    (pick (eqb (conjunct_of ws c g) of_conjunction) OnlyTrue
    (pick (eqb (conjunct_of ws c g) of_exclusion) OnlyFalse
    (searched ws (marks_from ws c g) 1 c g (blocks_of (atoms_from ws c g 1))))))

-- the atoms of what is known have their numbers; every atom of the guard has one
unfoldable pub recalled : List ℕ → ℕ → List ℕ
recalled ws at = known_numbers ws at no_numbers (get_or ws (at + 1) 0)

unfoldable pub recalls : List ℕ → ℕ → ℕ → Bool
recalls ws at g = numbered_to ws (guard_rows ws g) (recalled ws at) (length (guard_rows ws g))

-- the decision, by what is known if that has every atom of the guard
unfoldable pub decided : List ℕ → ℕ → ℕ → ℕ → Decision
decided ws at c g =
    pick (eqb (get_or ws at 0) 1) (pick (recalls ws at g) (compared ws at (recalled ws at) g) (decided_anew ws c g)) (decided_anew ws c g)

-- the guard is decided without the condition's truths: it shares no atom with it, or is a conjunct of it
unfoldable pub aside : List ℕ → ℕ → ℕ → Bool
aside ws c g = pick (eqb (atoms_from ws c g 3) 0) true (is_link (conjunct_of ws c g))

-- what is left of the numbers after a decision by the rows: if one branch is impossible, the truths of the condition are known where they were computed,
-- and nothing is where they were not
pub data LeftAnew (ws : List ℕ) (at c g : ℕ) (r : Decision) (left : List ℕ) : Type 0 where
  left-same : only_one r ≡ false → left ≡ ws → LeftAnew ws at c g r left
  left-none : only_one r ≡ true → aside ws c g ≡ true → left ≡ set ws at 0 → LeftAnew ws at c g r left
  left-kept : only_one r ≡ true → aside ws c g ≡ false → atoms_from ws c g 1 ≤ 10 → (ts : List ℕ)
      → ((b : ℕ) → b < blocks_of (atoms_from ws c g 1) → get_or ts b 0 ≡ truths_of ws (marks_from ws c g) 1 c g b)
      → left ≡ kept ws at (marks_from ws c g) (above c g) (blocks_of (atoms_from ws c g 1)) ts → LeftAnew ws at c g r left

-- and after any: by what is known no number changes
pub data LeftBy (ws : List ℕ) (at c g : ℕ) (r : Decision) (left : List ℕ) : Type 0 where
  by-known : get_or ws at 0 ≡ 1 → recalls ws at g ≡ true → left ≡ ws → LeftBy ws at c g r left
  by_rows : pick (eqb (get_or ws at 0) 1) (recalls ws at g) false ≡ false → LeftAnew ws at c g r left → LeftBy ws at c g r left
