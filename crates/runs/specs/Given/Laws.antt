-- What a trial gives, by where it ends. Assumes nothing.
use Rattle.std.specs.Prelude.{List, ◌≡◌, ℕ, ◌+◌, ◌-◌, take, drop, Option, Some, None}
use Rattle.std.proofs.Math.Path.{refl}
use Rattle.trial.specs.Numbers.{Number}
use Rattle.trial.specs.Given.{line, bytes_line}
use Rattle.trial.specs.Places.{text_end}
use Rattle.runs.specs.Given.{Left, left, given_at}
use Rattle.runs.specs.Outcome.{cells_after}

module _ (input : List ℕ) (used at : ℕ) (values before cells : List ℕ) {values₁ : List ℕ} {r : Number} (v : line r values₁ ≡ bytes_line input at values) where
  pub no_values : r ≡ None → left None values₁ before cells ≡ given_at input used at values before cells
  unfolding given_at
  no_values e = rw (← v, e) refl

  module _ {count next : ℕ} {before₁ : List ℕ} {s : Number} (e : r ≡ Some (count, next)) (b : line s before₁ ≡ bytes_line input next before) where
    pub no_cells : s ≡ None → left None values₁ before₁ cells ≡ given_at input used at values before cells
    unfolding given_at
    no_cells f = rw (← v, e, ← b, f) refl

    module _ {n from : ℕ} {o : Option ℕ} {cells₁ : List ℕ} {t : Number} (f : s ≡ Some (n, from)) (k : line t cells₁ ≡ bytes_line input next cells)
        (g : o ≡ text_end input from) where
      pub no_text : o ≡ None → left None values₁ before₁ cells₁ ≡ given_at input used at values before cells
      unfolding given_at
      no_text h = rw (← v, e, ← b, f, ← k, ← g, h) refl

      pub ran : {end : ℕ} → o ≡ Some end → {left₁ : List ℕ} → left₁ ≡ cells_after (take (end - from) (drop from input)) (take count values₁) cells₁ used
          → left (Some (end + 1)) values₁ before₁ left₁ ≡ given_at input used at values before cells
      unfolding given_at
      ran h l = rw (l, ← v, e, ← b, f, ← k, ← g, h) refl

-- what is left, whatever the next place is said to be
pub left_anyway : {r : Option ℕ} {values before cells : List ℕ} {l : Left} → left r values before cells ≡ l → left l.next values before cells ≡ l
left_anyway {r} {values} {before} {cells} e = rw (← e) refl
