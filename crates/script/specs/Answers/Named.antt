-- Names for what the calls answer: the library's `Option` and `Result`, at our types. Assumes nothing.
use Rattle.std.specs.Prelude.{◌≡◌, ℕ, Option, None, Some, Result, Ok, Err, IsErrAnd, ok_or}
use Rattle.std.proofs.Common.{ap, refl, arith}
use Rattle.script.specs.declared.Ended.{Ended}
use Rattle.script.specs.declared.Refusal.{Refusal}
use Rattle.script.specs.declared.Script.{Script}

-- a line or a node, or nowhere
abbrev pub Place : Type 0
Place = Option ℕ

-- counts that are within the limits
abbrev pub Sized : Type 0
Sized = Option Script

-- a table passes its tests, or is turned down
abbrev pub Tested : Type 0
Tested = Result Unit Refusal

-- the type's code, or why not
abbrev pub Checked : Type 0
Checked = Result ℕ Refusal

-- the script's counts, or why not
abbrev pub Reading : Type 0
Reading = Result Script Refusal

-- the length of the text, or why not
abbrev pub Writing : Type 0
Writing = Result ℕ Refusal

-- a value or the error state, or why not
abbrev pub Ran : Type 0
Ran = Result Ended Refusal

-- ---- what `?` hands on

-- a refusal handed on is the same refusal
pub handed_on : {A E : Type 0} (r : Result A E) {x : E} → IsErrAnd r (λ e. e ≡ x) → r ≡ Err x
handed_on (Err e) h = ap Err h
handed_on (Ok a) h = absurd h

-- an `ok_or` refuses where there is nothing, and gives what there is
pub lacking : {A E : Type 0} (o : Option A) (e : E) {x : E} → ok_or o e ≡ Err x → (o ≡ None) × (x ≡ e)
lacking None e h = (refl, cc)
lacking (Some a) e h = let z : ◌≡◌ {A = ℕ} 0 1 = cc in absurd (omega arith)

pub there_is : {A E : Type 0} (o : Option A) (e : E) {a : A} → ok_or o e ≡ Ok a → o ≡ Some a
there_is None e h = let z : ◌≡◌ {A = ℕ} 0 1 = cc in absurd (omega arith)
there_is (Some b) e h = cc

-- two answers with a pair that are the same have the same parts
pub same_parts : {A B : Type 0} {a c : A} {b d : B} → ◌≡◌ {A = Option (A × B)} (Some (a, b)) (Some (c, d)) → (a ≡ c) × (b ≡ d)
same_parts {A} {B} {a} {c} {b} {d} e = let q : ◌≡◌ {A = A × B} (a, b) (c, d) = cc in (ap (λ p. p.0) q, ap (λ p. p.1) q)

pub same_given : {A B E : Type 0} {a c : A} {b d : B} → ◌≡◌ {A = Result (A × B) E} (Ok (a, b)) (Ok (c, d)) → (a ≡ c) × (b ≡ d)
same_given {A} {B} {E} {a} {c} {b} {d} e = let q : ◌≡◌ {A = A × B} (a, b) (c, d) = cc in (ap (λ p. p.0) q, ap (λ p. p.1) q)
