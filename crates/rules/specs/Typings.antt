-- Typings of cells, in the words of demand 3 (docs/RUNS.md, 'What is promised of an accepted script'). A typing is the list of its cells' types. Assumes nothing.
use Rattle.std.specs.Prelude.{Bool, List, [], ◌∷◌, ℕ, zero, suc, ◌^◌, ◌≤◌, ◌<◌}
use Rattle.script.specs.Limits.{type_limit}
use Rattle.script.specs.declared.Value.{Value}
use Rattle.script.specs.declared.Value.TheVariants.{Word, Truth, Location}

-- the list has this element at this place
pub data At {A : Type 0} : List A → ℕ → A → Type 0 where
  here : {x : A} {xs : List A} → At (x ∷ xs) zero x
  there : {x y : A} {xs : List A} {i : ℕ} → At xs i y → At (x ∷ xs) (suc i) y

-- under a typing a word of 32 bits has type `i`, a truth `b`, and a location its cell's type with one `r` more, if that is a type
pub data HasType (typing : List ℕ) : Value → ℕ → Type 0 where
  is_word : {w : ℕ} → w < 2 ^ 32 → HasType typing (Word w) 0
  is-truth : {b : Bool} → HasType typing (Truth b) 1
  is_location : {l t : ℕ} → At typing l t → suc (suc t) ≤ type_limit → HasType typing (Location l) (suc (suc t))

-- two lists of one length whose elements are related at each place
pub data Each {A B : Type 0} (R : A → B → Type 0) : List A → List B → Type 0 where
  empty : Each R [] []
  also : {a : A} {b : B} {as' : List A} {bs : List B} → R a b → Each R as' bs → Each R (a ∷ as') (b ∷ bs)

-- the values have these types, under the typing
abbrev pub HaveTypes : List ℕ → List Value → List ℕ → Type 0
HaveTypes typing values types = Each (HasType typing) values types

-- it is a typing of exactly these cells, and the content of each has its cell's type
abbrev pub Fits : List ℕ → List Value → Type 0
Fits typing cells = HaveTypes typing cells typing

-- what the old list has at a place, the new one has there too
pub record Extends {A : Type 0} (old new : List A) : Type 0 where
  pub keeps : (i : ℕ) (x : A) → At old i x → At new i x
