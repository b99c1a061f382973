-- The type rules of the operators (docs/CHECKS.md, 'Typed mode'). A type is its code: 0 is `i`, 1 is `b`, and 2 more is one `r` more. Assumes nothing.
use Rattle.std.specs.Prelude.{Bool, ℕ, zero, suc, leb, eqb, Err, Ok}
use Rattle.script.specs.Limits.{type_limit}
use Rattle.script.specs.Rows.{UnaryOp, not_op, ref_op, get_op, BinaryOp, add_op, eq_op, and_op, set_op}
use Rattle.script.specs.Tests.{pick}
use Rattle.script.specs.declared.Refusal.TheVariants.{WrongType, TooManyReferences}
use Rattle.script.specs.Answers.Named.{Checked}

-- go on with the type; a refusal ends the check
abbrev pub and_then : Checked → (ℕ → Checked) → Checked
and_then (Ok t) k = k t
and_then (Err r) k = Err r

module _ {A : Type 0} where
  -- a type of the kind wanted, or else the other answer
  abbrev pub word_type : ℕ → A → A → A
  word_type zero other k = k
  word_type (suc zero) other k = other
  word_type (suc (suc t)) other k = other

  abbrev pub truth_type : ℕ → A → A → A
  truth_type zero other k = other
  truth_type (suc zero) other k = k
  truth_type (suc (suc t)) other k = other

  abbrev pub reference_type : ℕ → A → (ℕ → A) → A
  reference_type zero other k = other
  reference_type (suc zero) other k = other
  reference_type (suc (suc t)) other k = k t

-- at most 15 references
abbrev pub is_type : ℕ → Bool
is_type t = leb t type_limit

abbrev pub wrong : ℕ → Checked
wrong n = Err (WrongType n)

unfoldable pub unary_type : ℕ → UnaryOp → ℕ → Checked
unary_type n not_op t = truth_type t (wrong n) (Ok 1)
unary_type n ref_op t = pick (is_type (suc (suc t))) (Ok (suc (suc t))) (Err (TooManyReferences n))
unary_type n get_op t = reference_type t (wrong n) Ok

unfoldable pub binary_type : ℕ → BinaryOp → ℕ → ℕ → Checked
binary_type n add_op t u = word_type t (wrong n) (word_type u (wrong n) (Ok 0))
binary_type n eq_op t u = pick (eqb t u) (Ok 1) (wrong n)
binary_type n and_op t u = truth_type t (wrong n) (truth_type u (wrong n) (Ok 1))
binary_type n set_op t u = reference_type t (wrong n) λ s. pick (eqb s u) (Ok s) (wrong n)

-- the condition's type, then the branches'
unfoldable pub if_type : ℕ → ℕ → ℕ → ℕ → Checked
if_type n t u v = truth_type t (wrong n) (pick (eqb u v) (Ok u) (wrong n))
