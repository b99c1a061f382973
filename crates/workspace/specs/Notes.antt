-- The notes on typed blocks: what stands in a note, what the functions that read and make notes promise, and when notes are right. Assumes nothing.
pub mod Keeping
pub mod Making
pub mod Mentions
pub mod Recalling
use Rattle.std.specs.Prelude.{Bool, true, false, ◌&&◌, List, ◌≡◌, ℕ, zero, suc, ◌+◌, ◌*◌, ◌-◌, ◌%◌, ◌≤◌, ◌<◌, leb, eqb, length, get_or, set, Some, None, Ok}
use Rattle.std.proofs.Math.Option.{some}
use Rattle.std.proofs.Math.ListN.{get_elem?}
use Rattle.script.specs.Code.Forms.{tree_in}
use Rattle.script.specs.Rows.{Form, int_form, var_form, if_form, let_form, typed_form, sym_form, truth_form, unary_form, binary_form}
use Rattle.script.specs.Tests.{pick}
use Rattle.script.specs.Tree.{Expr}
use Rattle.script.specs.Answers.Named.{Checked}
use Rattle.script.specs.declared.Node.{Node}
use Rattle.rules.specs.Checking.{check}
use Rattle.rules.specs.Checking.Mentions.{mentions}
use Rattle.terms.specs.Places.{symbol_limit, variables_end}
use Rattle.workspace.specs.Answers.{Count, Known}
use Rattle.workspace.specs.Places.{base_at, known_at, name_limit, note_at, note_limit, note_width, notes_at, space_size, turn_at}
use Rattle.workspace.specs.State.{types_on}

-- whether a node whose operands are no nodes mentions variable k; no other form does
unfoldable pub leaf_mentions : Form → Node → ℕ → Bool
leaf_mentions int_form m k = false
leaf_mentions var_form m k = eqb m.a k
leaf_mentions if_form m k = false
leaf_mentions let_form m k = false
leaf_mentions typed_form m k = false
leaf_mentions sym_form m k = false
leaf_mentions (truth_form b) m k = false
leaf_mentions (unary_form o) m k = false
leaf_mentions (binary_form o) m k = false

-- ---- what stands in a note

-- how many variables there are at the start of a path
abbrev pub base_in : List ℕ → ℕ
base_in ws = get_or ws base_at 0

-- of the note at this place: the block's operand, the variables and one more, the block's type, and how many variables are named
abbrev pub operand_in : List ℕ → ℕ → ℕ
operand_in ws at = get_or ws at 0

abbrev pub note_depth : List ℕ → ℕ → ℕ
note_depth ws at = get_or ws (at + 1) 0

abbrev pub type_in : List ℕ → ℕ → ℕ
type_in ws at = get_or ws (at + 2) 0

abbrev pub names_in : List ℕ → ℕ → ℕ
names_in ws at = get_or ws (at + 3) 0

-- of its i-th variable: which one it is, and its type
abbrev pub name_in : List ℕ → ℕ → ℕ → ℕ
name_in ws at i = get_or ws (at + 4 + 2 * i) 0

abbrev pub named_type : List ℕ → ℕ → ℕ → ℕ
named_type ws at i = get_or ws (at + 5 + 2 * i) 0

-- ---- reading notes

-- the note has its numbers, and its variables are some of the environment
pub record Readable (ws : List ℕ) (at : ℕ) : Type 0 where
  pub lent : at + note_width ≤ length ws
  pub wide : variables_end ≤ length ws
  pub few : names_in ws at ≤ name_limit
  pub inside : (i : ℕ) → i < names_in ws at → name_in ws at i < symbol_limit

-- so has it if it is one with so many variables
pub record Recallable (ws : List ℕ) (at depth : ℕ) : Type 0 where
  pub lent : at + note_width ≤ length ws
  pub small : depth ≤ symbol_limit
  pub readable : note_depth ws at ≡ depth + 1 → Readable ws at

-- so have all
pub record Recallables (ws : List ℕ) (depth : ℕ) : Type 0 where
  pub each : (i : ℕ) → i < note_limit → Recallable ws (note_at i) depth

-- the variables from the i-th on have the types that are named
unfoldable pub agrees_from : List ℕ → ℕ → ℕ → ℕ → Bool
agrees_from ws at i zero = true
agrees_from ws at i (suc more) = eqb (get_or ws (2 * name_in ws at i) 0) (named_type ws at i) && agrees_from ws at (suc i) more

abbrev pub agrees_on : List ℕ → ℕ → Bool
agrees_on ws at = agrees_from ws at 0 (names_in ws at)

abbrev pub is_of : List ℕ → ℕ → ℕ → ℕ → Bool
is_of ws at depth a = eqb (operand_in ws at) a && (eqb (note_depth ws at) (depth + 1) && agrees_on ws at)

-- what the notes from the i-th on say
unfoldable pub recalled_on : List ℕ → ℕ → ℕ → ℕ → ℕ → Known
recalled_on ws depth a i zero = None
recalled_on ws depth a i (suc more) = pick (is_of ws (note_at i) depth a) (Some (type_in ws (note_at i))) (recalled_on ws depth a (suc i) more)

-- ---- making a note

pub record Named (ws : List ℕ) (at count k : ℕ) : Type 0 where
  pub lent : at + note_width ≤ length ws
  pub wide : variables_end ≤ length ws
  pub few : count < name_limit
  pub inside : k < symbol_limit

abbrev pub named : List ℕ → ℕ → ℕ → ℕ → List ℕ
named ws at count k = set (set ws (at + 4 + 2 * count) k) (at + 5 + 2 * count) (get_or (set ws (at + 4 + 2 * count) k) (2 * k) 0)

pub record Nameable (ws : List ℕ) (depth at : ℕ) : Type 0 where
  pub lent : space_size ≤ length ws
  pub small : depth ≤ symbol_limit
  pub low : notes_at ≤ at
  pub high : at + note_width ≤ known_at

-- the variables from k on, so many, of which those that the tree mentions are named in the note behind `count` others: how many are named then, or nothing
-- if they are too many for a note, and what the workspace then holds
unfoldable pub names_from : Expr → ℕ → ℕ → ℕ → ℕ → List ℕ → Count × List ℕ
names_from e at k count zero ws = (Some count, ws)
names_from e at k count (suc more) ws =
    pick (mentions e k)
    (pick (eqb count name_limit) (None, ws) (names_from e at (suc k) (suc count) more (named ws at count k)))
    (names_from e at (suc k) count more ws)

-- all from the base to the depth
abbrev pub names_to : Expr → ℕ → ℕ → List ℕ → Count × List ℕ
names_to e depth at ws = names_from e at (base_in ws) 0 (depth - base_in ws) ws

-- so many of the variables from the base to k are named in the note, with their types; all those that the tree mentions
pub record Naming (e : Expr) (at : ℕ) (ws : List ℕ) (k count : ℕ) (left : List ℕ) : Type 0 where
  pub same : length left ≡ length ws
  pub others : (j : ℕ) → (at + 4 ≤ j → j < at + note_width → ⊥) → get_or left j 0 ≡ get_or ws j 0
  pub few : count ≤ name_limit
  pub inside : (i : ℕ) → i < count → name_in left at i < k
  pub types : (i : ℕ) → i < count → named_type left at i ≡ get_or ws (2 * name_in left at i) 0
  pub all : (v : ℕ) → base_in ws ≤ v → v < k → mentions e v ≡ true → (i : ℕ) × (i < count) × (name_in left at i ≡ v)

-- all are named, or there are too many
pub record Names (e : Expr) (depth at : ℕ) (ws : List ℕ) (r : Count) (left : List ℕ) : Type 0 where
  pub is : ◌≡◌ {A = Count × List ℕ} (r, left) (names_to e depth at ws)
  pub same : length left ≡ length ws
  pub others : (j : ℕ) → (at + 4 ≤ j → j < at + note_width → ⊥) → get_or left j 0 ≡ get_or ws j 0
  pub few : {count : ℕ} → r ≡ Some count → count ≤ name_limit
  pub naming : {count : ℕ} → r ≡ Some count → base_in ws ≤ depth → Naming e at ws depth count left

-- ---- notes that are right

-- the first variables have the types that these have, and those that the note names have the types that it names
pub record Agrees (ws : List ℕ) (at : ℕ) (types : List ℕ) : Type 0 where
  pub first : (k : ℕ) → k < base_in ws → get_elem? types k ≡ some (get_or ws (2 * k) 0)
  pub others : (i : ℕ) → i < names_in ws at → get_elem? types (name_in ws at i) ≡ some (named_type ws at i)

-- the note at this place, which is one with so many variables, is right: a block of agreeing types has the type noted
pub record NoteOf (limit : ℕ) (table ws : List ℕ) (at depth : ℕ) : Type 0 where
  pub few : names_in ws at ≤ name_limit
  pub inside : (i : ℕ) → i < names_in ws at → name_in ws at i < depth
  pub right : (types : List ℕ) → length types ≡ depth → Agrees ws at types → check limit (tree_in table (operand_in ws at)) types ≡ Ok (type_in ws at)

-- every note is right or says nothing
pub record Kept (limit : ℕ) (table ws : List ℕ) : Type 0 where
  pub notes : (i : ℕ) → i < note_limit → (depth : ℕ) → note_depth ws (note_at i) ≡ suc depth → NoteOf limit table ws (note_at i) depth

-- the whole note, if it can name all; else it says nothing, and the turn stays
unfoldable pub noted_as : ℕ → ℕ → ℕ → ℕ → Count × List ℕ → List ℕ
noted_as turn depth a t (None, ws) = ws
noted_as turn depth a t (Some count, ws) =
    let at = note_at turn in
    set (set (set (set (set ws at a) (at + 1) (depth + 1)) (at + 2) t) (at + 3) count) turn_at (turn + 1)

-- the note whose turn it is, which says nothing before it is whole
abbrev pub noted_on : ℕ → List ℕ → ℕ → ℕ → ℕ → List ℕ → List ℕ
noted_on turn table depth a t ws = noted_as turn depth a t (names_to (tree_in table a) depth (note_at turn) (set ws (note_at turn + 1) 0))

pub record Noted (table : List ℕ) (depth a t : ℕ) (ws left : List ℕ) : Type 0 where
  pub is : left ≡ noted_on (get_or ws turn_at 0 % note_limit) table depth a t ws
  pub same : length left ≡ length ws
  pub before : (k : ℕ) → k < turn_at → get_or left k 0 ≡ get_or ws k 0
  pub beyond : (k : ℕ) → known_at ≤ k → get_or left k 0 ≡ get_or ws k 0
  pub kept : (limit : ℕ) → base_in ws ≤ depth → check limit (tree_in table a) (types_on ws depth) ≡ Ok t → Kept limit table ws → Kept limit table left

-- ---- what the executor asks and promises of the notes

-- the notes are right, and the variables at the start of a path are among so many
pub record Noting (limit : ℕ) (table ws : List ℕ) (depth : ℕ) : Type 0 where
  pub lent : space_size ≤ length ws
  pub based : base_in ws ≤ depth
  pub kept : Kept limit table ws

-- they stay right
pub record Holding (limit : ℕ) (table ws left : List ℕ) : Type 0 where
  pub base : base_in left ≡ base_in ws
  pub kept : Kept limit table left

-- no note yet
pub record Bare (depth : ℕ) (ws : List ℕ) : Type 0 where
  pub base : base_in ws ≡ depth
  pub none : (i : ℕ) → i < note_limit → note_depth ws (note_at i) ≡ 0

-- how a typed block on a path answers: only what stands behind the first variables changes, and the notes
pub record Blocked (limit : ℕ) (table : List ℕ) (c : Checked) (depth : ℕ) (ws : List ℕ) (r : Checked) (left : List ℕ) : Type 0 where
  pub answer : r ≡ c
  pub same : length left ≡ length ws
  pub before : (k : ℕ) → k < 2 * depth → get_or left k 0 ≡ get_or ws k 0
  pub between : (k : ℕ) → variables_end ≤ k → k < turn_at → get_or left k 0 ≡ get_or ws k 0
  pub beyond : (k : ℕ) → known_at ≤ k → get_or left k 0 ≡ get_or ws k 0
  pub kept : Kept limit table left
