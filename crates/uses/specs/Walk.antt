-- The walk for the use count (5): a step is handed one node after the other, and sees what is known so far and that node. After the last node `wrong` is
-- the lowest node other than the last that is not used exactly once: `LowestWrong`. Assumes nothing.
use Rattle.std.specs.Prelude.{List, [], ◌∷◌, ℕ, ◌+◌, ◌-◌, ◌^◌, ltb, None, Some}
use Rattle.std.proofs.Math.Option.{Option, none, some}
use Rattle.std.specs.Int.Count.{count_trailing_zeros}
use Rattle.script.specs.Limits.{node_limit}
use Rattle.script.specs.Table.{operands}
use Rattle.script.specs.Tests.{pick}
use Rattle.script.specs.Tests.Bits.{bit}
use Rattle.script.specs.declared.Node.{Node}
use Rattle.uses.specs.declared.State.{State}
use Rattle.uses.specs.declared.Uses.{Uses}
use Rattle.script.specs.Answers.Named.{Place}
pub mod Laws

-- how many nodes one word has bits for: half of them
abbrev pub half : ℕ
half = 64

abbrev pub uses_of : ℕ → ℕ → ℕ → ℕ → Uses
uses_of l h a s = record { low = l; high = h; again = a; seen = s }

-- ---- one use more

abbrev pub used_again : Uses → ℕ → Uses
used_again u o = pick (ltb o u.again) (uses_of u.low u.high o u.seen) u

-- a node that is unused has been used once, any other again; what is no node is passed over
unfoldable pub with_use : Uses → ℕ → Uses
with_use u o =
    pick (ltb o half)
    (pick (bit u.low o) (uses_of (u.low - 2 ^ o) u.high u.again u.seen) (used_again u o))
    (pick (ltb o node_limit)
    (pick (bit u.high (o - half)) (uses_of u.low (u.high - 2 ^ (o - half)) u.again u.seen) (used_again u o))
    u)

unfoldable pub with_uses : Uses → List ℕ → Uses
with_uses u [] = u
with_uses u (o ∷ os) = with_uses (with_use u o) os

-- ---- the lowest node that is wrong

abbrev pub first_unused : Uses → ℕ
first_unused u = pick (ltb (count_trailing_zeros half u.low) half) (count_trailing_zeros half u.low) (half + count_trailing_zeros half u.high)

unfoldable pub lowest_wrong : Uses → ℕ
lowest_wrong u = pick (ltb (first_unused u) u.again) (first_unused u) u.again

-- the answer of a search for a node
abbrev pub place_found : Option ℕ → Place
place_found none = None
place_found (some i) = Some i

abbrev pub wrong_before : Uses → ℕ → Place
wrong_before u last = pick (ltb (lowest_wrong u) last) (Some (lowest_wrong u)) None

-- ---- node by node

-- every node is unused
abbrev pub start : State
start = record { uses = uses_of (2 ^ half - 1) (2 ^ half - 1) node_limit 0; wrong = None }

-- these uses, where the last node has this number
abbrev pub state_of : Uses → ℕ → State
state_of u last = record { uses = uses_of u.low u.high u.again (last + 1); wrong = wrong_before u last }

-- the next node, which is the last so far
unfoldable pub step : State → Node → State
step s n = state_of (with_uses s.uses (operands n)) s.uses.seen

unfoldable pub walk_from : State → List Node → State
walk_from s [] = s
walk_from s (n ∷ ns) = walk_from (step s n) ns

abbrev pub walk : List Node → State
walk ns = walk_from start ns
