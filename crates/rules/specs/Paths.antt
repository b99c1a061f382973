-- Paths of symbolic execution (docs/CHECKS.md, 'Paths' and 'The log'): the state of a path with its write log, and the decision tree whose leaves are the
-- paths in their order. Assumes nothing.
use Rattle.std.specs.Prelude.{Bool, true, false, ◌&&◌, ◌||◌, List, [], ◌∷◌, ◌++◌, ℕ, suc, eqb}
use Rattle.std.proofs.Math.Option.{Option, none, some}
use Rattle.script.specs.Tests.{pick}
use Rattle.script.specs.declared.Refusal.{Refusal}
use Rattle.rules.specs.Symbolic.{Formula, constantly, Origin, other, Symbolic, type_of, symbol, apart}

-- a write: the reference's origin, its cell's type, its symbol, and the value stored
pub record Write : Type 0 where
  pub origin : Origin
  pub cell : ℕ
  pub through : ℕ
  pub value : Symbolic

abbrev pub write_of : Origin → ℕ → ℕ → Symbolic → Write
write_of o t s v = record { origin = o; cell = t; through = s; value = v }

-- the next fresh symbol, the condition, and the log with the newest write first
pub record Path : Type 0 where
  pub next : ℕ
  pub condition : Formula
  pub log : List Write

-- the path at its start, where n symbols stand for the variables
abbrev pub start : ℕ → Path
start n = record { next = n; condition = constantly true; log = [] }

abbrev pub assume : Formula → Path → Path
assume f p = record { next = p.next; condition = f; log = p.log }

abbrev pub write : Write → Path → Path
write w p = record { next = p.next; condition = p.condition; log = w ∷ p.log }

-- one symbol taken
abbrev pub taken : Path → Path
taken p = record { next = suc p.next; condition = p.condition; log = p.log }

abbrev pub forget : Path → Path
forget p = record { next = p.next; condition = p.condition; log = [] }

-- ---- the write log

abbrev pub is_right : Write → Bool
is_right w = eqb (type_of w.value) w.cell

unfoldable pub has : List ℕ → ℕ → Bool
has [] s = false
has (x ∷ xs) s = eqb x s || has xs s

-- each write of a wrong type is followed by one of the right type through the same symbol; `mended` are the symbols of newer right writes
unfoldable pub consistent_after : List ℕ → List Write → Bool
consistent_after mended [] = true
consistent_after mended (w ∷ ws) =
    pick (is_right w) (consistent_after (w.through ∷ mended) ws) (has mended w.through && consistent_after mended ws)

abbrev pub consistent : Path → Bool
consistent p = consistent_after [] p.log

-- what `get` finds: writes through certainly different symbols are passed over; the next one counts if it is through the same symbol
unfoldable pub lookup : Origin → ℕ → List Write → Option Symbolic
lookup o s [] = none
lookup o s (w ∷ ws) =
    pick (apart w.origin w.through o s) (lookup o s ws) (pick (eqb w.through s) (some w.value) none)

-- ---- the decision tree

pub data Paths : Type 0 where
  ends : Symbolic → Path → Paths
  stops : Refusal → Paths
  forks : Paths → Paths → Paths

-- go on at the end of each path
unfoldable pub bind : Paths → (Symbolic → Path → Paths) → Paths
bind (ends v p) k = k v p
bind (stops r) k = stops r
bind (forks t u) k = forks (bind t k) (bind u k)

-- a fresh symbol of the type, of which nothing is known
abbrev pub fresh : ℕ → Path → Paths
fresh t p = ends (symbol other t p.next) (taken p)

pub data Leaf : Type 0 where
  ended : Symbolic → Path → Leaf
  stopped : Refusal → Leaf

-- the paths in order, each wholly before the next
unfoldable pub leaves : Paths → List Leaf
leaves (ends v p) = ended v p ∷ []
leaves (stops r) = stopped r ∷ []
leaves (forks t u) = leaves t ++ leaves u
