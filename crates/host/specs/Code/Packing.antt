-- The answers of the two calls as numbers. Assumes nothing.
use Rattle.std.specs.Prelude.{List, ◌≡◌, ℕ, ◌≤◌, ◌<◌}
use Rattle.std.proofs.Common.{ap, ◌∙◌, arith}
use Rattle.script.specs.Answers.Named.{Ran}
use Rattle.rules.specs.Running.{Run}
use Rattle.answers.specs.Answers.{answer_of_run, AnswersRun}
use Rattle.answers.specs.Code.Packing.{used_in}
use Rattle.host.specs.Texts.{run_text, RanTo}
use Rattle.host.specs.Texts.Bounds.{RanWithin, gave-within, failed-within, refused-within, run_within}

used-within : {m n : ℕ} {r : Ran} → RanWithin m n r → used_in r ≤ n
used-within (gave-within l) = l
used-within (failed-within b l) = l
used-within (refused-within p) = omega arith

module _ {run : Run} {told : Ran} {left : List ℕ} (q : RanTo run told left) where
  pub run_answered : {r : ℕ} → r ≡ answer_of_run told → AnswersRun run r left
  run_answered e = (e ∙ ap (λ (x : Run). answer_of_run x.answer) q, ap (λ (x : Run). x.cells) q)

-- the used count has room in the number, since it is at most 192
pub run_few : (text values cells : List ℕ) (used : ℕ) {told : Ran} {left : List ℕ} → RanTo (run_text text values cells used) told left → used_in told < 65536
run_few text values cells used q =
    let l = used-within (run_within text values cells used) in
    let e = ap (λ (x : Run). used_in x.answer) q in
    omega (arith, l, e)
