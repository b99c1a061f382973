-- How an answer is packed: each way through the code gives the answer's number. Assumes nothing.
use Rattle.std.specs.Prelude.{◌≡◌, refl, ℕ, ◌+◌, ◌<◌, Err, None, Ok, Some}
use Rattle.std.proofs.Common.{sym, ap, ◌∙◌, add-one}
use Rattle.script.specs.Answers.{number_of, place_of, kind_of, bits_of}
use Rattle.script.specs.Answers.Named.{Checked, Place, Ran}
use Rattle.script.specs.declared.Ended.{Ended}
use Rattle.script.specs.declared.Refusal.{Refusal}
use Rattle.script.specs.declared.Value.{Value}
use Rattle.answers.specs.Answers.{packed, refused, answer_of_refusal, done, failed, answer_of_check, answer_of_run}

-- the used count that the answer of a run has
abbrev pub used_in : Ran → ℕ
used_in (Ok (Ended.Gave v used)) = used
used_in (Ok (Ended.Failed i used)) = used
used_in (Err r) = 0

-- ---- a refusal

module _ (why : Refusal) {number : ℕ} {place : Place} {r : ℕ} (n : number ≡ number_of why) (p : place ≡ place_of why) where
  pub refusal-nowhere : place ≡ None → r ≡ packed refused number 0 0 → r ≡ answer_of_refusal why
  refusal-nowhere e h = h ∙ rw (n, sym p ∙ e) refl

  pub refusal-at : {i : ℕ} → place ≡ Some i → r ≡ packed refused number (i + 1) 0 → r ≡ answer_of_refusal why
  refusal-at {i} e h = h ∙ rw (n, add-one i, sym p ∙ e) refl

-- ---- the answer of a check

module _ {answer : Checked} {r : ℕ} where
  pub check_accepted : {code : ℕ} → answer ≡ Ok code → r ≡ packed done 0 0 code → r ≡ answer_of_check answer
  check_accepted e h = h ∙ ap answer_of_check (sym e)

  pub check-refused : {why : Refusal} → answer ≡ Err why → r ≡ answer_of_refusal why → r ≡ answer_of_check answer
  check-refused e h = h ∙ ap answer_of_check (sym e)

-- ---- the answer of a run

module _ {answer : Ran} where
  pub gave-few : {v : Value} {n : ℕ} → answer ≡ Ok (Ended.Gave v n) → used_in answer < 65536 → n < 65536
  gave-few e l = rw e at l

  pub failed-few : {at n : ℕ} → answer ≡ Ok (Ended.Failed at n) → used_in answer < 65536 → n < 65536
  failed-few e l = rw e at l

  module _ {r : ℕ} where
    pub run_gave : {v : Value} {n kind bits : ℕ} → answer ≡ Ok (Ended.Gave v n) → kind ≡ kind_of v → bits ≡ bits_of v → r ≡ packed done kind n bits → r ≡ answer_of_run answer
    run_gave e k b h = h ∙ rw (k, b, e) refl

    pub run_failed : {at n : ℕ} → answer ≡ Ok (Ended.Failed at n) → r ≡ packed failed 0 n at → r ≡ answer_of_run answer
    run_failed e h = h ∙ ap answer_of_run (sym e)

    pub run_refused : {why : Refusal} → answer ≡ Err why → r ≡ answer_of_refusal why → r ≡ answer_of_run answer
    run_refused e h = h ∙ ap answer_of_run (sym e)
