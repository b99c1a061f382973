-- The kinds by their forms: which number each is, how many there are, and where those of leaves end. Their law is `row-form` in `Laws`. Assumes nothing.
use Rattle.std.specs.Prelude.{true, false, ℕ, length}
use Rattle.script.specs.Rows.{Form, int_form, var_form, if_form, let_form, typed_form, sym_form, truth_form, unary_form, binary_form, not_op, ref_op, get_op, add_op, eq_op, and_op, set_op, rows}

-- the kind of each form: the place of its row
abbrev pub kind_for : Form → ℕ
kind_for int_form = 0
kind_for (truth_form true) = 1
kind_for (truth_form false) = 2
kind_for var_form = 3
kind_for (binary_form add_op) = 4
kind_for (binary_form eq_op) = 5
kind_for (unary_form not_op) = 6
kind_for (binary_form and_op) = 7
kind_for if_form = 8
kind_for let_form = 9
kind_for (unary_form ref_op) = 10
kind_for (unary_form get_op) = 11
kind_for (binary_form set_op) = 12
kind_for typed_form = 13
kind_for sym_form = 14

-- how many kinds there are
abbrev pub kind_count : ℕ
kind_count = length rows

-- the kinds below this one are those of leaves, whose operands are no nodes
abbrev pub leaf_kinds : ℕ
leaf_kinds = kind_for (binary_form add_op)
