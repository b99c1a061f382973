-- The log as the code reads it, four numbers a write: consistency, what `get` finds, and a write. Assumes nothing.
pub mod Laws
pub mod Loops
use Rattle.std.specs.Prelude.{Bool, true, false, ◌&&◌, ◌||◌, List, ℕ, zero, suc, ◌+◌, ◌-◌, leb, eqb, get_or, set, Some, None}
use Rattle.std.proofs.Math.Option.{Option, none, some}
use Rattle.script.specs.Tests.{pick}
use Rattle.rules.specs.Symbolic.{Symbolic}
use Rattle.terms.specs.References.{apart_at, symbol_at}
use Rattle.workspace.specs.Answers.{Found}
use Rattle.workspace.specs.Places.{start_at, write_at, writes_at}
use Rattle.workspace.specs.State.{writes_in, Means, start_in}

-- write i: the reference's type and symbol, and the value's type
abbrev pub right_on : List ℕ → ℕ → Bool
right_on ws i = leb 2 (get_or ws (write_at i) 0) && eqb (get_or ws (write_at i) 0 - 2) (get_or ws (write_at i + 2) 0)

abbrev pub symbol_on : List ℕ → ℕ → ℕ
symbol_on ws i = symbol_at (get_or ws (write_at i + 1) 0)

-- write i is right and through the symbol
abbrev pub mends_on : List ℕ → ℕ → ℕ → Bool
mends_on ws s i = right_on ws i && eqb (symbol_on ws i) s

-- one of the `more` writes from i on is
unfoldable pub mended_on : List ℕ → ℕ → ℕ → ℕ → Bool
mended_on ws s i zero = false
mended_on ws s i (suc more) = mends_on ws s i || mended_on ws s (suc i) more

-- write i is right, or mended by one of the `more` later ones
abbrev pub settled_on : List ℕ → ℕ → ℕ → Bool
settled_on ws i more = right_on ws i || mended_on ws (symbol_on ws i) (suc i) more

-- each of so many writes from the first that counts is settled, where `more` follow them
unfoldable pub consistent_on : List ℕ → ℕ → ℕ → ℕ → Bool
consistent_on ws begin more zero = true
consistent_on ws begin more (suc i) = settled_on ws (begin + i) more && consistent_on ws begin (suc more) i

-- what `get` finds through the reference at place q, seen from write i: what it found before, if the two are apart
abbrev pub lookup_at : List ℕ → ℕ → ℕ → Found → Found
lookup_at ws q i before =
    let p = get_or ws (write_at i + 1) 0 in
    pick (apart_at p q) before (pick (eqb (symbol_at p) (symbol_at q)) (Some (get_or ws (write_at i + 2) 0, get_or ws (write_at i + 3) 0)) None)

-- what it finds among so many writes from the first that counts
unfoldable pub lookup_on : List ℕ → ℕ → ℕ → ℕ → Found
lookup_on ws begin q zero = None
lookup_on ws begin q (suc i) = lookup_at ws q (begin + i) (lookup_on ws begin q i)

-- of the writes that count: whether they are consistent, and what `get` finds among them
abbrev pub consistent_in : List ℕ → Bool
consistent_in ws = consistent_on ws (start_in ws) 0 (writes_in ws - start_in ws)

abbrev pub lookup_in : List ℕ → ℕ → Found
lookup_in ws q = lookup_on ws (start_in ws) q (writes_in ws - start_in ws)

-- what that means
pub data FoundAs (ws : List ℕ) : Found → Option Symbolic → Type 0 where
  found_none : FoundAs ws None none
  found_some : {t q : ℕ} {v : Symbolic} → Means ws t q v → FoundAs ws (Some (t, q)) (some v)

-- one write more
abbrev pub written : List ℕ → ℕ → ℕ → ℕ → ℕ → List ℕ
written ws t p u q =
    let at = write_at (writes_in ws) in
    set (set (set (set (set ws at t) (at + 1) p) (at + 2) u) (at + 3) q) writes_at (writes_in ws + 1)

-- no write counts any more
abbrev pub emptied : List ℕ → List ℕ
emptied ws = set ws start_at (writes_in ws)
