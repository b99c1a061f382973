-- Evaluation (docs/RUNS.md, 'What it does'): a value and the cells, or the node of the error state and the cells as they were then. The used count is
-- the length of the cells. Assumes nothing.
pub mod Every
pub mod Inside
pub mod Keeps
pub mod Laws
pub mod Places
use Rattle.std.specs.Prelude.{Bool, true, false, not, ◌&&◌, List, [], ◌∷◌, ◌++◌, ℕ, ◌+◌, ◌%◌, ◌^◌, eqb, length, set}
use Rattle.std.specs.Bool.{beq}
use Rattle.std.proofs.Math.Option.{Option, none, some}
use Rattle.std.proofs.Math.ListN.{get_elem?}
use Rattle.script.specs.Rows.{UnaryOp, not_op, ref_op, get_op, BinaryOp, add_op, eq_op, and_op, set_op}
use Rattle.script.specs.Tree.{Expr, int, truth, var, unary, binary, if_else, let_in, typed_block, sym_block}
use Rattle.script.specs.declared.Value.{Value}
use Rattle.script.specs.declared.Value.TheVariants.{Word, Truth, Location}

pub data Outcome : Type 0 where
  gave : Value → List Value → Outcome
  failed : ℕ → List Value → Outcome

-- go on from a value; the error state ends the run
abbrev pub after : Outcome → (Value → List Value → Outcome) → Outcome
after (gave v cs) k = k v cs
after (failed n cs) k = failed n cs

-- what is there, or else the other outcome
abbrev pub found : Option Value → Outcome → (Value → Outcome) → Outcome
found none other k = other
found (some v) other k = k v

-- a value of the kind wanted, or else the other outcome
abbrev pub as_word : Value → Outcome → (ℕ → Outcome) → Outcome
as_word (Word w) other k = k w
as_word (Truth b) other k = other
as_word (Location l) other k = other

abbrev pub as_truth : Value → Outcome → (Bool → Outcome) → Outcome
as_truth (Word w) other k = other
as_truth (Truth b) other k = k b
as_truth (Location l) other k = other

abbrev pub as_location : Value → Outcome → (ℕ → Outcome) → Outcome
as_location (Word w) other k = other
as_location (Truth b) other k = other
as_location (Location l) other k = k l

-- two values of one kind
abbrev pub equal : Value → Value → Outcome → (Bool → Outcome) → Outcome
equal (Word v) w other k = as_word w other λ u. k (eqb v u)
equal (Truth b) w other k = as_truth w other λ c. k (beq b c)
equal (Location l) w other k = as_location w other λ m. k (eqb l m)

unfoldable pub unary_on : ℕ → UnaryOp → Value → List Value → Outcome
unary_on n not_op v cs = as_truth v (failed n cs) λ b. gave (Truth (not b)) cs
unary_on n ref_op v cs = gave (Location (length cs)) (cs ++ (v ∷ []))
unary_on n get_op v cs = as_location v (failed n cs) λ l. found (get_elem? cs l) (failed n cs) λ u. gave u cs

unfoldable pub binary_on : ℕ → BinaryOp → Value → Value → List Value → Outcome
binary_on n add_op v w cs = as_word v (failed n cs) λ a. as_word w (failed n cs) λ b. gave (Word ((a + b) % 2 ^ 32)) cs
binary_on n eq_op v w cs = equal v w (failed n cs) λ b. gave (Truth b) cs
binary_on n and_op v w cs = as_truth v (failed n cs) λ a. as_truth w (failed n cs) λ b. gave (Truth (a && b)) cs
binary_on n set_op v w cs = as_location v (failed n cs) λ l. found (get_elem? cs l) (failed n cs) λ u. gave w (set cs l w)

-- the branch that the condition takes; the other one is not evaluated
abbrev pub branch_on : ℕ → Value → List Value → (List Value → Outcome) → (List Value → Outcome) → Outcome
branch_on n (Word w) cs yes' no' = failed n cs
branch_on n (Truth true) cs yes' no' = yes' cs
branch_on n (Truth false) cs yes' no' = no' cs
branch_on n (Location l) cs yes' no' = failed n cs

-- an `int` is a word of 32 bits
unfoldable pub eval : Expr → List Value → List Value → Outcome
eval (int n w) env cs = gave (Word (w % 2 ^ 32)) cs
eval (truth n b) env cs = gave (Truth b) cs
eval (var n k) env cs = found (get_elem? env k) (failed n cs) λ v. gave v cs
eval (unary n o e) env cs = after (eval e env cs) (unary_on n o)
eval (binary n o e f) env cs = after (eval e env cs) λ v cs₁. after (eval f env cs₁) λ w cs₂. binary_on n o v w cs₂
eval (if_else n c e f) env cs = after (eval c env cs) λ v cs₁. branch_on n v cs₁ (eval e env) (eval f env)
eval (let_in n e f) env cs = after (eval e env cs) λ v cs₁. eval f (env ++ (v ∷ [])) cs₁
eval (typed_block n e) env cs = eval e env cs
eval (sym_block n e) env cs = eval e env cs
