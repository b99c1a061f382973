-- A typed block on a path, as the notes answer it, or else the typed rules, whose answer is then noted. Assumes nothing.
use Rattle.std.specs.Prelude.{List, ◌≡◌, refl, ℕ, ◌≤◌, length, Some, Ok}
use Rattle.std.proofs.Common.{sym, ◌∙◌, arith}
use Rattle.script.specs.Code.Forms.{tree_in}
use Rattle.script.specs.Answers.Named.{Checked}
use Rattle.rules.specs.Checking.{check}
use Rattle.terms.specs.Places.{symbol_limit}
use Rattle.workspace.specs.Answers.{Known}
use Rattle.workspace.specs.Notes.{Recallables, recalled_on, Kept, Noted, Noting, Blocked}
use Rattle.workspace.specs.Notes.Keeping.{still_holding}
use Rattle.workspace.specs.Notes.Recalling.{kept_recallables, recalled-right}
use Rattle.workspace.specs.Places.{base_at, space_size}
use Rattle.workspace.specs.Rules.{Checkable, Judged}
use Rattle.workspace.specs.State.{types_on}
use Rattle.workspace.specs.State.Laws.{types-kept}

module _ {limit : ℕ} {table ws : List ℕ} {depth a : ℕ} (q : Checkable table ws depth a) (n : Noting limit table ws depth) where
  pub block_small : depth ≤ symbol_limit
  block_small = omega (arith, q.variables)

  pub block_recallables : Recallables ws depth
  block_recallables = kept_recallables n.lent block_small n.kept

  -- a note has its type
  pub block_recalled : {k : Known} {t : ℕ} → k ≡ recalled_on ws depth a 0 8 → k ≡ Some t
      → Blocked limit table (check limit (tree_in table a) (types_on ws depth)) depth ws (Ok t) ws
  block_recalled e f =
      record {
        answer = sym (recalled-right a n.kept n.based (sym e ∙ f));
        same = refl;
        before = λ i l. refl;
        between = λ i l h. refl;
        beyond = λ i l. refl;
        kept = n.kept;
      }

  -- the typed rules have answered
  module _ {r : Checked} {left : List ℕ} (j : Judged (check limit (tree_in table a) (types_on ws depth)) depth ws r left) where
    judged_kept : Kept limit table left
    judged_kept = (still_holding n j.aside.before (record { each = λ k l h. j.aside.beyond k (omega arith) })).kept

    pub judged_lent : space_size ≤ length left
    judged_lent = omega (arith, n.lent, j.aside.same)

    pub block_judged : {c : Checked} → r ≡ c → Blocked limit table (check limit (tree_in table a) (types_on ws depth)) depth ws c left
    block_judged e =
        record {
          answer = sym e ∙ j.answer;
          same = j.aside.same;
          before = j.aside.before;
          between = λ k l h. j.aside.beyond k l;
          beyond = λ k l. j.aside.beyond k (omega arith);
          kept = judged_kept;
        }

    -- and the answer is noted
    pub block_noted : {t : ℕ} {left₂ : List ℕ} → r ≡ Ok t → Noted table depth a t left left₂
        → Blocked limit table (check limit (tree_in table a) (types_on ws depth)) depth ws (Ok t) left₂
    block_noted {t} e o =
        let b = block_judged e in
        let base = b.between base_at (omega arith) (omega arith) in
        let types : types_on left depth ≡ types_on ws depth = types-kept ws left depth b.before in
        let s = block_small in
        record {
          answer = b.answer;
          same = o.same ∙ b.same;
          before = λ k l. o.before k (omega arith) ∙ b.before k l;
          between = λ k l h. o.before k h ∙ b.between k l h;
          beyond = λ k l. o.beyond k l ∙ b.beyond k l;
          kept = o.kept limit (omega (arith, n.based, base)) (rw types (sym b.answer)) judged_kept;
        }
