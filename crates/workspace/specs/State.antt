-- What a workspace holds: the values of the variables, the terms, and a path with its notes and what is known of its condition; what a step keeps of it,
-- and how a step answers. Assumes nothing.
pub mod Laws
use Rattle.std.specs.Prelude.{true, List, [], ◌∷◌, ◌++◌, ◌≡◌, ℕ, zero, suc, ◌+◌, ◌-◌, ◌*◌, ◌≤◌, ◌<◌, length, get_or, Ok, Err}
use Rattle.script.specs.Limits.{node_limit, type_limit}
use Rattle.script.specs.declared.Refusal.{Refusal}
use Rattle.rules.specs.Paths.{Path, Paths, ends, stops, Write, write_of}
use Rattle.rules.specs.Satisfiable.{satisfiable}
use Rattle.rules.specs.Symbolic.{Sum, Formula, Origin, Symbolic, a_word, a_truth, a_reference}
use Rattle.terms.specs.Places.{row_limit, symbol_limit, rows_anode}
use Rattle.terms.specs.References.{reference_at}
use Rattle.terms.specs.Terms.{count_in, SumRow, TruthRow, Distinct, Grown}
use Rattle.rows.specs.Known.{Remembers}
use Rattle.workspace.specs.Answers.{Step}
use Rattle.workspace.specs.Places.{base_at, condition_at, depth_at, known_at, log_at, next_at, space_size, start_at, write_at, writes_at}

-- ---- the places of a workspace

abbrev pub next_in : List ℕ → ℕ
next_in ws = get_or ws next_at 0

abbrev pub condition_in : List ℕ → ℕ
condition_in ws = get_or ws condition_at 0

abbrev pub writes_in : List ℕ → ℕ
writes_in ws = get_or ws writes_at 0

abbrev pub start_in : List ℕ → ℕ
start_in ws = get_or ws start_at 0

abbrev pub depth_in : List ℕ → ℕ
depth_in ws = get_or ws depth_at 0

-- ---- the environment

-- the types of the first variables
unfoldable pub types_on : List ℕ → ℕ → List ℕ
types_on ws zero = []
types_on ws (suc d) = types_on ws d ++ (get_or ws (2 * d) 0 ∷ [])

-- from this code on a type has 15 references, so that `ref` makes no type of it
abbrev pub deepest : ℕ
deepest = type_limit - 1

-- what a type and a place stand for
pub data Means (ws : List ℕ) : ℕ → ℕ → Symbolic → Type 0 where
  word_row : {i : ℕ} {p : Sum} → i < count_in ws → SumRow ws i p → Means ws 0 i (a_word p)
  truth_row : {i : ℕ} {f : Formula} → i < count_in ws → TruthRow ws i f → Means ws 1 i (a_truth f)
  reference_place : {o : Origin} {t s i : ℕ} → i ≡ reference_at o s → Means ws (suc (suc t)) i (a_reference o t s)

-- the values of the first variables
pub data Variables (ws : List ℕ) : ℕ → List Symbolic → Type 0 where
  no_variable : Variables ws 0 []
  one_more : {d : ℕ} {env : List Symbolic} {v : Symbolic} → Variables ws d env → Means ws (get_or ws (2 * d) 0) (get_or ws (2 * d + 1) 0) v
      → Variables ws (suc d) (env ++ (v ∷ []))

-- ---- the path

-- the writes from the first that counts up to one, the newest in front
pub data Log (ws : List ℕ) (begin : ℕ) : ℕ → List Write → Type 0 where
  no_write : Log ws begin begin []
  a_write : {k : ℕ} {o : Origin} {t s : ℕ} {v : Symbolic} {l : List Write} → Log ws begin k l
      → Means ws (get_or ws (write_at k) 0) (get_or ws (write_at k + 1) 0) (a_reference o t s)
      → Means ws (get_or ws (write_at k + 2) 0) (get_or ws (write_at k + 3) 0) v → Log ws begin (suc k) (write_of o t s v ∷ l)

-- the condition is satisfiable: a branch is taken only where it is; if something is known, it is the condition's
pub record PathIn (ws : List ℕ) (p : Path) : Type 0 where
  pub next : next_in ws ≡ p.next
  pub inside : condition_in ws < count_in ws
  pub condition : TruthRow ws (condition_in ws) p.condition
  pub allowed : satisfiable p.condition ≡ true
  pub log : Log ws (start_in ws) (writes_in ws) p.log
  pub distinct : Distinct ws
  pub remembers : Remembers ws known_at p.condition

pub record State (ws : List ℕ) (depth : ℕ) (env : List Symbolic) (p : Path) : Type 0 where
  pub variables : Variables ws depth env
  pub path : PathIn ws p

-- a type and a place that stand for some value
pub record Valued (ws : List ℕ) (t q : ℕ) : Type 0 where
  pub value : Symbolic
  pub means : Means ws t q value

-- ---- room

-- a whole workspace, with room for so many more nodes
pub record Room (ws : List ℕ) (more : ℕ) : Type 0 where
  pub lent : space_size ≤ length ws
  pub rows : count_in ws + rows_anode * more ≤ row_limit
  pub symbols : next_in ws + more ≤ symbol_limit
  pub writes : writes_in ws + more ≤ node_limit

-- a step of so many nodes keeps the first variables, the rows and the log
pub record Went (ws left : List ℕ) (depth nodes : ℕ) : Type 0 where
  pub same : length left ≡ length ws
  pub before : (k : ℕ) → k < 2 * depth → get_or left k 0 ≡ get_or ws k 0
  pub grown : Grown ws left
  pub rows : count_in left ≤ count_in ws + rows_anode * nodes
  pub symbols : next_in left ≤ next_in ws + nodes
  pub writes : writes_in left ≤ writes_in ws + nodes
  pub logged : writes_in ws ≤ writes_in left
  pub log : (k : ℕ) → log_at ≤ k → k < write_at (writes_in ws) → get_or left k 0 ≡ get_or ws k 0

-- ---- answers

-- a value on a path, or a refusal
pub data Yields (left : List ℕ) : Step → Paths → Type 0 where
  ending : {t q : ℕ} {v : Symbolic} {p : Path} → Means left t q v → PathIn left p → Yields left (Ok (t, q)) (ends v p)
  stopping : {x : Refusal} → Yields left (Err x) (stops x)

-- the notes are as before
pub record Unnoted (ws left : List ℕ) : Type 0 where
  pub each : (k : ℕ) → base_at ≤ k → k < known_at → get_or left k 0 ≡ get_or ws k 0
