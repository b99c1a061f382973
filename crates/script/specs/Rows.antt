-- The words (docs/SCRIPTS.md, 'Nodes') as one table of rows, in the order of the kinds: the word's bytes, its operand count, and the
-- form of tree that a node of that kind makes. Assumes nothing.
use Rattle.std.specs.Prelude.{Bool, true, false, List, [], ◌∷◌, ℕ}
use Rattle.std.proofs.Math.Option.{Option, none, some}
use Rattle.std.proofs.Math.ListN.{get_elem?}
use Rattle.script.specs.Limits.{variable_limit, word_limit}
use Rattle.script.specs.declared.table.Takes.{Takes}
use Rattle.script.specs.declared.table.Takes.TheVariants.{Number, Nodes}
pub mod Kinds
pub mod Laws

pub data UnaryOp : Type 0 where
  not_op ref_op get_op : UnaryOp

pub data BinaryOp : Type 0 where
  add_op eq_op and_op set_op : BinaryOp

pub data Form : Type 0 where
  int_form var_form if_form let_form typed_form sym_form : Form
  truth_form : Bool → Form
  unary_form : UnaryOp → Form
  binary_form : BinaryOp → Form

pub record Row : Type 0 where
  pub word : List ℕ
  pub count : ℕ
  pub form : Form

abbrev pub row : List ℕ → ℕ → Form → Row
row w n f = record { word = w; count = n; form = f }

unfoldable pub rows : List Row
rows =
    row (105 ∷ 110 ∷ 116 ∷ []) 1 int_form  -- int
    ∷ row (116 ∷ 114 ∷ 117 ∷ 101 ∷ []) 0 (truth_form true)  -- true
    ∷ row (102 ∷ 97 ∷ 108 ∷ 115 ∷ 101 ∷ []) 0 (truth_form false)  -- false
    ∷ row (118 ∷ 97 ∷ 114 ∷ []) 1 var_form  -- var
    ∷ row (97 ∷ 100 ∷ 100 ∷ []) 2 (binary_form add_op)  -- add
    ∷ row (101 ∷ 113 ∷ []) 2 (binary_form eq_op)  -- eq
    ∷ row (110 ∷ 111 ∷ 116 ∷ []) 1 (unary_form not_op)  -- not
    ∷ row (97 ∷ 110 ∷ 100 ∷ []) 2 (binary_form and_op)  -- and
    ∷ row (105 ∷ 102 ∷ []) 3 if_form  -- if
    ∷ row (108 ∷ 101 ∷ 116 ∷ []) 2 let_form  -- let
    ∷ row (114 ∷ 101 ∷ 102 ∷ []) 1 (unary_form ref_op)  -- ref
    ∷ row (103 ∷ 101 ∷ 116 ∷ []) 1 (unary_form get_op)  -- get
    ∷ row (115 ∷ 101 ∷ 116 ∷ []) 2 (binary_form set_op)  -- set
    ∷ row (116 ∷ 121 ∷ 112 ∷ 101 ∷ 100 ∷ []) 1 typed_form  -- typed
    ∷ row (115 ∷ 121 ∷ 109 ∷ []) 1 sym_form  -- sym
    ∷ []

-- the row of a kind, if it has a word
unfoldable pub row_of : ℕ → Option Row
row_of k = get_elem? rows k

-- the largest number that `int` and `var` take; the operands of every other word are nodes
abbrev pub number_up_to : Form → Option ℕ
number_up_to int_form = some word_limit
number_up_to var_form = some variable_limit
number_up_to if_form = none
number_up_to let_form = none
number_up_to typed_form = none
number_up_to sym_form = none
number_up_to (truth_form b) = none
number_up_to (unary_form o) = none
number_up_to (binary_form o) = none

abbrev pub is_sym : Form → Bool
is_sym int_form = false
is_sym var_form = false
is_sym if_form = false
is_sym let_form = false
is_sym typed_form = false
is_sym sym_form = true
is_sym (truth_form b) = false
is_sym (unary_form o) = false
is_sym (binary_form o) = false

abbrev pub count_by : Option Row → ℕ
count_by none = 0
count_by (some r) = r.count

-- how many operands a kind takes; a kind that has no word takes none
unfoldable pub operand_count : ℕ → ℕ
operand_count k = count_by (row_of k)

-- what the operands of a kind are, as the code says it
abbrev pub takes_by : Option ℕ → Takes
takes_by none = Nodes
takes_by (some m) = Number m

abbrev pub takes_in : Option Row → Takes
takes_in none = Nodes
takes_in (some r) = takes_by (number_up_to r.form)

unfoldable pub takes_of : ℕ → Takes
takes_of k = takes_in (row_of k)

abbrev pub nodes_only : Takes → ℕ → ℕ
nodes_only (Number m) c = 0
nodes_only Nodes c = c

-- how many operands of a kind are nodes
unfoldable pub node_operands : ℕ → ℕ
node_operands k = nodes_only (takes_of k) (operand_count k)
