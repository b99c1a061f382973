-- What the symbolic rules give and leave, number by number: each rule's step, and the workspace after it. Assumes nothing.
use Rattle.std.specs.Prelude.{List, ℕ, zero, suc, ◌+◌, ◌*◌, ◌-◌, ltb, eqb, get_or, set, Some, None, Ok, Err}
use Rattle.script.specs.Rows.{Form, int_form, var_form, if_form, let_form, typed_form, sym_form, truth_form, unary_form, binary_form, UnaryOp, not_op, ref_op, get_op, BinaryOp, add_op, eq_op, and_op, set_op}
use Rattle.script.specs.Tests.{pick}
use Rattle.script.specs.declared.Node.{Node}
use Rattle.script.specs.declared.Refusal.TheVariants.{WrongType, UnknownVariable, TooManyReferences, InconsistentLog}
use Rattle.rules.specs.Symbolic.{Origin, made, other}
use Rattle.terms.specs.Atoms.{atom_row_of, atom_left, references_row, references_left}
use Rattle.terms.specs.References.{reference_at}
use Rattle.terms.specs.Terms.{count_in, pushed, of_conjunction, of_constant, of_equality, of_negation, of_number, of_sum, of_symbol, of_truth}
use Rattle.words.specs.Words.{equal_row, equal_left}
use Rattle.workspace.specs.Answers.{Found, Step}
use Rattle.workspace.specs.Log.{written, emptied, consistent_in, lookup_in}
use Rattle.workspace.specs.Places.{next_at}
use Rattle.workspace.specs.State.{next_in, deepest}

pub record Outcome : Type 0 where
  pub step : Step
  pub space : List ℕ

abbrev pub gives : Step → List ℕ → Outcome
gives r ws = record { step = r; space = ws }

-- ---- fresh symbols

-- the next number is taken
abbrev pub numbered : List ℕ → List ℕ
numbered ws = set ws next_at (next_in ws + 1)

-- the place of a fresh symbol of a type, with this origin: a row, or of a reference its place
unfoldable pub fresh_place : Origin → ℕ → List ℕ → ℕ
fresh_place o zero ws = count_in (numbered ws)
fresh_place o (suc zero) ws = atom_row_of (numbered ws) of_truth (next_in ws) (next_in ws)
fresh_place o (suc (suc t)) ws = reference_at o (next_in ws)

unfoldable pub fresh_left : ℕ → List ℕ → List ℕ
fresh_left zero ws = pushed (numbered ws) of_symbol (next_in ws) 0
fresh_left (suc zero) ws = atom_left (numbered ws) of_truth (next_in ws) (next_in ws)
fresh_left (suc (suc t)) ws = numbered ws

-- ---- leaves, node n, which is m

-- a row of a constant
abbrev pub constant : ℕ → List ℕ → Outcome
constant b ws = gives (Ok (1, count_in ws)) (pushed ws of_constant b 0)

unfoldable pub leaf_gives : Form → ℕ → Node → ℕ → List ℕ → Outcome
leaf_gives int_form n m depth ws = gives (Ok (0, count_in ws)) (pushed ws of_number m.a 0)
leaf_gives var_form n m depth ws =
    pick (ltb m.a depth) (gives (Ok (get_or ws (2 * m.a) 0, get_or ws (2 * m.a + 1) 0)) ws) (gives (Err (UnknownVariable n)) ws)
leaf_gives if_form n m depth ws = constant 0 ws
leaf_gives let_form n m depth ws = constant 0 ws
leaf_gives typed_form n m depth ws = constant 0 ws
leaf_gives sym_form n m depth ws = constant 0 ws
leaf_gives (truth_form b) n m depth ws = constant (pick b 1 0) ws
leaf_gives (unary_form o) n m depth ws = constant 0 ws
leaf_gives (binary_form o) n m depth ws = constant 0 ws

-- ---- one operand, of type t at place q

-- what the log has; or, where it is consistent, a fresh symbol of the type that the cell has
unfoldable pub got_gives : ℕ → Found → ℕ → List ℕ → Outcome
got_gives n (Some (u, p)) t ws = gives (Ok (u, p)) ws
got_gives n None t ws =
    pick (consistent_in ws) (gives (Ok (t - 2, fresh_place other (t - 2) ws)) (fresh_left (t - 2) ws)) (gives (Err (InconsistentLog n)) ws)

unfoldable pub unary_gives : UnaryOp → ℕ → ℕ → ℕ → List ℕ → Outcome
unary_gives not_op n t q ws = pick (eqb t 1) (gives (Ok (1, count_in ws)) (pushed ws of_negation q 0)) (gives (Err (WrongType n)) ws)
unary_gives ref_op n t q ws =
    let i = fresh_place made (t + 2) ws in
    pick (ltb t deepest) (gives (Ok (t + 2, i)) (written (fresh_left (t + 2) ws) (t + 2) i t q)) (gives (Err (TooManyReferences n)) ws)
unary_gives get_op n t q ws = pick (ltb t 2) (gives (Err (WrongType n)) ws) (got_gives n (lookup_in ws q) t ws)

unfoldable pub one_gives : Form → ℕ → ℕ → ℕ → List ℕ → Outcome
one_gives int_form n t q ws = gives (Ok (t, q)) ws
one_gives var_form n t q ws = gives (Ok (t, q)) ws
one_gives if_form n t q ws = gives (Ok (t, q)) ws
one_gives let_form n t q ws = gives (Ok (t, q)) ws
one_gives typed_form n t q ws = gives (Ok (t, q)) ws
one_gives sym_form n t q ws = gives (Ok (t, q)) ws
one_gives (truth_form b) n t q ws = gives (Ok (t, q)) ws
one_gives (unary_form o) n t q ws = unary_gives o n t q ws
one_gives (binary_form o) n t q ws = gives (Ok (t, q)) ws

-- ---- two operands, of type t at place q and of type u at place s

-- the row of an equality of two values of type t
unfoldable pub equal_place : ℕ → ℕ → ℕ → List ℕ → ℕ
equal_place zero q s ws = equal_row ws q s
equal_place (suc zero) q s ws = count_in ws
equal_place (suc (suc t)) q s ws = references_row ws q s

unfoldable pub equal_numbers : ℕ → ℕ → ℕ → List ℕ → List ℕ
equal_numbers zero q s ws = equal_left ws q s
equal_numbers (suc zero) q s ws = pushed ws of_equality q s
equal_numbers (suc (suc t)) q s ws = references_left ws q s

-- both of type k, or a refusal
abbrev pub both_of : ℕ → ℕ → ℕ → ℕ → List ℕ → Outcome → Outcome
both_of k n t u ws o = pick (eqb t k) (pick (eqb u k) o (gives (Err (WrongType n)) ws)) (gives (Err (WrongType n)) ws)

unfoldable pub binary_gives : BinaryOp → ℕ → ℕ → ℕ → ℕ → ℕ → List ℕ → Outcome
binary_gives add_op n t q u s ws = both_of 0 n t u ws (gives (Ok (0, count_in ws)) (pushed ws of_sum q s))
binary_gives eq_op n t q u s ws = pick (eqb t u) (gives (Ok (1, equal_place t q s ws)) (equal_numbers t q s ws)) (gives (Err (WrongType n)) ws)
binary_gives and_op n t q u s ws = both_of 1 n t u ws (gives (Ok (1, count_in ws)) (pushed ws of_conjunction q s))
binary_gives set_op n t q u s ws = pick (ltb t 2) (gives (Err (WrongType n)) ws) (gives (Ok (u, s)) (written ws t q u s))

unfoldable pub two_gives : Form → ℕ → ℕ → ℕ → ℕ → ℕ → List ℕ → Outcome
two_gives int_form n t q u s ws = gives (Ok (u, s)) ws
two_gives var_form n t q u s ws = gives (Ok (u, s)) ws
two_gives if_form n t q u s ws = gives (Ok (u, s)) ws
two_gives let_form n t q u s ws = gives (Ok (u, s)) ws
two_gives typed_form n t q u s ws = gives (Ok (u, s)) ws
two_gives sym_form n t q u s ws = gives (Ok (u, s)) ws
two_gives (truth_form b) n t q u s ws = gives (Ok (u, s)) ws
two_gives (unary_form o) n t q u s ws = gives (Ok (u, s)) ws
two_gives (binary_form o) n t q u s ws = binary_gives o n t q u s ws

-- ---- after a typed block of type t

abbrev pub after_gives : ℕ → ℕ → List ℕ → Outcome
after_gives n t ws = pick (consistent_in ws) (gives (Ok (t, fresh_place other t (emptied ws))) (fresh_left t (emptied ws))) (gives (Err (InconsistentLog n)) ws)
