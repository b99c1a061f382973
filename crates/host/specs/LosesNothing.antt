-- An answer as a number loses nothing: what a host takes apart from the number is the report of the answer, for every text, all values and all
-- cells. Assumes nothing.
use Rattle.std.specs.Prelude.{List, ◌≡◌, refl, ℕ, zero, suc, ◌/◌, ◌%◌, ◌<◌, None, Some}
use Rattle.std.proofs.Common.{ap, ap₂, ◌∙◌, arith}
use Rattle.script.specs.Answers.{number_of, place_of, kind_of, bits_of, Report, type_is, value_is, error_at, refused_with, report_of_check, report_of_run}
use Rattle.script.specs.Answers.Bounds.{PlaceBelow, no_place, place-below, number-most, kind-most}
use Rattle.script.specs.Answers.Named.{Ran}
use Rattle.script.specs.declared.Refusal.{Refusal}
use Rattle.rules.specs.Checking.Bounds.{Bounded, code, refusal}
use Rattle.rules.specs.Running.{lent_limit}
use Rattle.answers.specs.Answers.{packed, place_field, answer_of_refusal, answer_of_check, answer_of_run}
use Rattle.host.specs.Texts.Bounds.{place_limit, check-bounded, RanWithin, gave-within, failed-within, refused-within, run_within}
use Rattle.host.specs.Texts.{check_text, run_text, check_text_report, run_text_report}
use Rattle.script.specs.Answers.Named.{Checked}
use Rattle.script.specs.Answers.Named.{Place}

-- ---- how a host takes an answer apart

abbrev pub status_in : ℕ → ℕ
status_in a = a % 256

abbrev pub number_in : ℕ → ℕ
number_in a = a / 256 % 256

abbrev pub place_in : ℕ → ℕ
place_in a = a / 65536 % 65536

abbrev pub value_in : ℕ → ℕ
value_in a = a / 4294967296

abbrev pub place_by : ℕ → Place
place_by zero = None
place_by (suc i) = Some i

abbrev pub refused_in : ℕ → Report
refused_in a = refused_with (number_in a) (place_by (place_in a))

abbrev pub checked_by : ℕ → ℕ → Report
checked_by zero a = type_is (value_in a)
checked_by (suc s) a = refused_in a

abbrev pub checked_in : ℕ → Report
checked_in a = checked_by (status_in a) a

abbrev pub ran_by : ℕ → ℕ → Report
ran_by zero a = value_is (number_in a) (value_in a) (place_in a)
ran_by (suc zero) a = refused_in a
ran_by (suc (suc s)) a = error_at (value_in a) (place_in a)

abbrev pub ran_in : ℕ → Report
ran_in a = ran_by (status_in a) a

-- ---- the fields of a packed number

module _ (s n p v : ℕ) (hs : s < 256) (hn : n < 256) (hp : p < 65536) where
  status_in_lem : status_in (packed s n p v) ≡ s
  status_in_lem = omega arith

  number_in_lem : number_in (packed s n p v) ≡ n
  number_in_lem = omega arith

  place_in_lem : place_in (packed s n p v) ≡ p
  place_in_lem = omega arith

  value_in_lem : value_in (packed s n p v) ≡ v
  value_in_lem = omega arith

-- ---- refusals

place_back : (p : Place) → place_by (place_field p) ≡ p
place_back None = refl
place_back (Some i) = refl

field-few : {p : Place} → PlaceBelow place_limit p → place_field p < 65536
field-few no_place = omega arith
field-few (place-below {i = i} h) = omega arith

module _ (r : Refusal) (h : PlaceBelow place_limit (place_of r)) where
  number-few : number_of r < 256
  number-few = let n = number-most r in omega arith

  refused_status : status_in (answer_of_refusal r) ≡ 1
  refused_status = status_in_lem 1 (number_of r) (place_field (place_of r)) 0 (omega arith) number-few (field-few h)

  refused_report : refused_in (answer_of_refusal r) ≡ refused_with (number_of r) (place_of r)
  refused_report =
      ap₂ refused_with
      (number_in_lem 1 (number_of r) (place_field (place_of r)) 0 (omega arith) number-few (field-few h))
      (ap place_by (place_in_lem 1 (number_of r) (place_field (place_of r)) 0 (omega arith) number-few (field-few h)) ∙ place_back (place_of r))

-- ---- the theorems

checked_back : {c : Checked} → Bounded place_limit c → checked_in (answer_of_check c) ≡ report_of_check c
checked_back (code {t = t} h) =
    let a = packed 0 0 0 t in
    ap (λ (s : ℕ). checked_by s a) (status_in_lem 0 0 0 t (omega arith) (omega arith) (omega arith)) ∙ ap type_is (value_in_lem 0 0 0 t (omega arith) (omega arith) (omega arith))
checked_back (refusal {r = r} h) = ap (λ (s : ℕ). checked_by s (answer_of_refusal r)) (refused_status r h) ∙ refused_report r h

pub check_loses_nothing : (text : List ℕ) → checked_in (answer_of_check (check_text text)) ≡ check_text_report text
check_loses_nothing text = checked_back (check-bounded text)

ran_back : {r : Ran} → RanWithin place_limit lent_limit r → ran_in (answer_of_run r) ≡ report_of_run r
ran_back (gave-within {v = v} {used = used} h) =
    let k = kind-most v in
    let a = packed 0 (kind_of v) used (bits_of v) in
    let few : kind_of v < 256 = omega arith in
    let room : used < 65536 = omega arith in
    ap (λ (s : ℕ). ran_by s a) (status_in_lem 0 (kind_of v) used (bits_of v) (omega arith) few room)
    ∙ ap (λ (n : ℕ). value_is n (value_in a) (place_in a)) (number_in_lem 0 (kind_of v) used (bits_of v) (omega arith) few room)
    ∙ ap₂ (value_is (kind_of v)) (value_in_lem 0 (kind_of v) used (bits_of v) (omega arith) few room) (place_in_lem 0 (kind_of v) used (bits_of v) (omega arith) few room)
ran_back (failed-within {i = i} {used = used} b h) =
    let room : used < 65536 = omega arith in
    ap (λ (s : ℕ). ran_by s (packed 2 0 used i)) (status_in_lem 2 0 used i (omega arith) (omega arith) room)
    ∙ ap₂ error_at (value_in_lem 2 0 used i (omega arith) (omega arith) room) (place_in_lem 2 0 used i (omega arith) (omega arith) room)
ran_back (refused-within {r = r} h) = ap (λ (s : ℕ). ran_by s (answer_of_refusal r)) (refused_status r h) ∙ refused_report r h

pub run_loses_nothing : (text values cells : List ℕ) (used : ℕ) → ran_in (answer_of_run (run_text text values cells used).answer) ≡ run_text_report text values cells used
run_loses_nothing text values cells used = ran_back (run_within text values cells used)
