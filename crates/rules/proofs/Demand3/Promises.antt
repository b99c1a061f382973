-- What an answer of the rules promises of a run, where it is no refusal, and when a run follows a path of a decision tree. Each has one law of
-- sequencing, which mirrors the sequencing of the definitions. Assumes nothing.
use Rattle.std.specs.Prelude.{List, ℕ}
use Rattle.script.specs.declared.Value.{Value}
use Rattle.rules.specs.Demand3.Meaning.{Entry}
use Rattle.rules.specs.Demand3.Stands.{StandsFor}
use Rattle.rules.specs.Evaluation.{Outcome, after}
use Rattle.rules.specs.Paths.{Path, Paths, bind}
use Rattle.rules.specs.Symbolic.{Symbolic}
use Rattle.rules.specs.TypedRules.{and_then}
use Rattle.rules.specs.Typings.{HasType, Fits, Extends}
use Rattle.rules.proofs.Typings.Laws.{extends_trans}
use Rattle.rules.specs.Demand3.Promises.{Follows, Promise, State, at-stop, at_end_lem, first, free, kept, second}
use Rattle.script.specs.Answers.Named.{Checked}

pub promise_earlier : {old new : List ℕ} {c : Checked} {o : Outcome} → Extends old new → Promise new c o → Promise old c o
promise_earlier e (kept q) = kept (record { extension = q.extension; extends = extends_trans e q.extends; fits = q.fits; typed = q.typed })
promise_earlier e free = free

pub promise_then : {typing : List ℕ} {c : Checked} {o : Outcome} (k : ℕ → Checked) (j : Value → List Value → Outcome) → Promise typing c o
    → ((new : List ℕ) (t : ℕ) (v : Value) (cs : List Value) → Extends typing new → Fits new cs → HasType new v t → Promise new (k t) (j v cs))
    → Promise typing (and_then c k) (after o j)
promise_then k j (kept {t = t} {v = v} {cs = cs} q) f = promise_earlier q.extends (f q.extension t v cs q.extends q.fits q.typed)
promise_then k j free f = free

pub follows-earlier : {typing typing' : List ℕ} {ρ ρ' : List Entry} {t : Paths} {o : Outcome}
    → Extends typing typing' → Extends ρ ρ' → Follows typing' ρ' t o → Follows typing ρ t o
follows-earlier d r (at_end_lem q) =
    at_end_lem (record {
      extension = q.extension;
      valuation = q.valuation;
      extends = extends_trans d q.extends;
      extends-valuation = extends_trans r q.extends-valuation;
      stands = q.stands;
      state = q.state;
    })
follows-earlier d r at-stop = at-stop
follows-earlier d r (first q) = first (follows-earlier d r q)
follows-earlier d r (second q) = second (follows-earlier d r q)

pub follows_then : {typing : List ℕ} {ρ : List Entry} {t : Paths} {o : Outcome} (k : Symbolic → Path → Paths) (j : Value → List Value → Outcome)
    → Follows typing ρ t o
    → ((typing' : List ℕ) (ρ' : List Entry) (v : Symbolic) (p : Path) (x : Value) (cs : List Value) → Extends typing typing' → Extends ρ ρ'
    → StandsFor typing' ρ' v x → State typing' ρ' p cs → Follows typing' ρ' (k v p) (j x cs))
    → Follows typing ρ (bind t k) (after o j)
unfolding bind
follows_then k j (at_end_lem {v = v} {p = p} {x = x} {cs = cs} q) f =
    follows-earlier q.extends q.extends-valuation
    (f q.extension q.valuation v p x cs q.extends q.extends-valuation q.stands q.state)
follows_then k j at-stop f = at-stop
follows_then k j (first q) f = first (follows_then k j q f)
follows_then k j (second q) f = second (follows_then k j q f)
