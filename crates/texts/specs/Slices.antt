-- An unused place of a table, and every element of a list from a place on, one at a time. Assumes nothing.
use Rattle.std.specs.Prelude.{Bool, true, false, ◌&&◌, List, ◌≡◌, refl, ℕ, suc, ◌≤◌, ◌<◌, eqb, length, drop, get_or}
use Rattle.std.proofs.Common.{drop_of_length-le, drop-cons}
use Rattle.script.specs.Rows.{truth_form}
use Rattle.script.specs.Rows.Kinds.{kind_for}
use Rattle.script.specs.Tests.{all}
use Rattle.script.specs.declared.Node.{Node}

-- `false`, with operands 0
abbrev pub is_unused : Node → Bool
is_unused n = eqb n.kind (kind_for (truth_form false)) && (eqb n.a 0 && (eqb n.b 0 && eqb n.c 0))

module _ {A : Type 0} (p : A → Bool) (xs : List A) (i : ℕ) where
  pub all-fails : (d : A) → i < length xs → p (get_or xs i d) ≡ false → all p (drop i xs) ≡ false
  all-fails d h e = rw (drop-cons xs i d h, e) refl

  pub all-next : (d : A) → i < length xs → p (get_or xs i d) ≡ true → all p (drop i xs) ≡ all p (drop (suc i) xs)
  all-next d h e = rw (drop-cons xs i d h, e) refl

  pub all_end : length xs ≤ i → all p (drop i xs) ≡ true
  all_end h = rw drop_of_length-le refl
