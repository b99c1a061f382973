-- The trials at the places of an input, one after the other, and what they leave in a state that each may change. Assumes nothing.
use Rattle.std.specs.Prelude.{◌≡◌, refl, ℕ, ◌≤◌, ◌<◌, Result, Ok, Err, IsErr, Option, Some, None}
use Rattle.std.specs.Fn.{Shared}
use denote.Ref.{MutBor}

-- an answer that names no place further on
abbrev pub Malformed : ℕ → Option ℕ → Type 0
Malformed at None = Unit {0}
Malformed at (Some next) = next ≤ at

module _ {F S E : Type 0} (g : Shared F (MutBor S × (ℕ × Unit {0})) (Result (Option ℕ) E × (MutBor S × Unit {0}))) (f : F) where
  -- a trial of the state s at a place may answer r and leave t
  pub record Trial (s : S) (at : ℕ) (r : Result (Option ℕ) E) (t : S) : Type 0 where
    pub shown : MutBor S
    pub shows : shown.now ≡ s
    pub left : MutBor S
    pub met : g.post f (shown, (at, tt)) (r, (left, tt))
    pub leaves : left.now ≡ t

  -- a call is such a trial, also where its answer is known
  pub tried : {at : ℕ} {shown left : MutBor S} {r r' : Result (Option ℕ) E} → g.post f (shown, (at, tt)) (r, (left, tt)) → r ≡ r' → Trial shown.now at r' left.now
  tried {at} {shown} {left} m e = record { shown = shown; shows = refl; left = left; met = rw e at m; leaves = refl }

  module _ (n : ℕ) (first : S) where
    -- trials from the first place on, each below n, lead to a place and a state
    pub data Turns : ℕ → S → Type 0 where
      no_turn : Turns 0 first
      a_turn : {at next : ℕ} {s t : S} → Turns at s → at < n → Trial s at (Ok (Some next)) t → at < next → Turns next t

    -- all trials: up to the end of the input, to a malformed one, or to one that fails
    pub data Trials : Result (Unit {0}) E → S → Type 0 where
      all_tried : {at : ℕ} {s : S} → Turns at s → n ≤ at → Trials (Ok tt) s
      malformed : {at : ℕ} {s t : S} {o : Option ℕ} {r : Result (Unit {0}) E} → Turns at s → at < n → Trial s at (Ok o) t → Malformed at o → Trials r t
      failed : {at : ℕ} {s t : S} {e : E} {r : Result (Unit {0}) E} → Turns at s → at < n → Trial s at (Err e) t → IsErr r → Trials r t
