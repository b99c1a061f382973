-- When a symbolic value stands for a value, under a typing of the cells and a valuation of the symbols. Words and truths do so under every extension
-- of the valuation, so that symbols made later change nothing. Assumes nothing.
use Rattle.std.specs.Prelude.{◌≡◌, Bool, false, List, map, ℕ, suc, ◌≤◌}
use Rattle.script.specs.Limits.{type_limit}
use Rattle.script.specs.declared.Value.{Value}
use Rattle.script.specs.declared.Value.TheVariants.{Word, Truth, Location}
use Rattle.rules.specs.Demand3.Meaning.{Entry, entry, sum_at, atom_at}
use Rattle.rules.specs.Satisfiable.{holds}
use Rattle.rules.specs.Symbolic.{Sum, Formula, Origin, initial, Symbolic, a_word, a_truth, a_reference, apart}
use Rattle.rules.specs.Typings.{At, Extends}

pub data StandsFor (typing : List ℕ) (ρ : List Entry) : Symbolic → Value → Type 0 where
  word_for : {p : Sum} {w : ℕ} → ((later : List Entry) → Extends ρ later → sum_at later p ≡ w) → StandsFor typing ρ (a_word p) (Word w)
  truth_for : {f : Formula} {b : Bool} → ((later : List Entry) → Extends ρ later → holds (atom_at later) f ≡ b)
      → StandsFor typing ρ (a_truth f) (Truth b)
  reference_for : {o : Origin} {t s l : ℕ} → At ρ s (entry o (Location l)) → At typing l t → suc (suc t) ≤ type_limit
      → StandsFor typing ρ (a_reference o t s) (Location l)

-- the variables at the start of a path, as a valuation
abbrev pub valuation : List Value → List Entry
valuation xs = map (entry initial) xs

-- ---- references

-- symbols that are apart are different cells
pub record Distinct (ρ : List Entry) : Type 0 where
  pub distinct : (o p : Origin) (s u l : ℕ) → At ρ s (entry o (Location l)) → At ρ u (entry p (Location l)) → apart o s p u ≡ false
