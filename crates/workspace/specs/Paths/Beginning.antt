-- The start of a path: row 0 is `true`, and each variable in turn becomes a symbol. Assumes nothing.
use Rattle.std.proofs.Math.Bool.{true}
use Rattle.std.specs.Prelude.{List, [], ◌∷◌, ◌++◌, ◌≡◌, refl, ℕ, suc, ◌+◌, ◌*◌, ◌≤◌, ◌<◌, length, get_or, set}
use Rattle.std.proofs.Math.Path.{sym}
use Rattle.std.proofs.Common.{ap, ◌∙◌, add-one, arith, length-set, get_or-set_same, get_or-set_other}
use Rattle.rules.specs.Paths.{start}
use Rattle.rules.proofs.Satisfiable.Laws.{true-satisfiable}
use Rattle.rules.specs.Symbolic.{initial, Symbolic, symbol, symbols}
use Rattle.terms.specs.Places.{symbol_limit, count_at, variables_end, row_at}
use Rattle.terms.specs.Terms.{Space, pushed, Distinct, Grown, of_constant}
use Rattle.terms.specs.Terms.Laws.{pushed-length, pushed-count, pushed-above, made-constant}
use Rattle.workspace.specs.Notes.{Bare}
use Rattle.workspace.specs.Paths.{Fresh, Blank, Starting}
use Rattle.workspace.specs.Places.{base_at, condition_at, depth_at, known_at, next_at, note_at, space_size, start_at, writes_at}
use Rattle.workspace.specs.Rules.{Started}
use Rattle.workspace.specs.State.{types_on, Means, Variables, no_variable, one_more, no_write, PathIn, Room}
use Rattle.workspace.specs.State.Laws.{nothing_known, still_known, types-length, variables-kept, means-at, path-kept, path_rewound, distinct-same, same-grown}

-- one variable more is one symbol more
symbols-last : (s : ℕ) (ts : List ℕ) (t : ℕ) → symbols s (ts ++ (t ∷ [])) ≡ symbols s ts ++ (symbol initial t (s + length ts) ∷ [])
unfolding symbols
symbols-last s [] t = let e : s + 0 ≡ s = omega arith in rw e refl
symbols-last s (u ∷ ts) t =
    let e : suc s + length ts ≡ s + suc (length ts) = omega arith in
    ap (λ (vs : List Symbolic). symbol initial u s ∷ vs) (symbols-last (suc s) ts t ∙ rw e refl)

types-last : (types : List ℕ) (i : ℕ) → symbols 0 (types_on types (suc i)) ≡ symbols 0 (types_on types i) ++ (symbol initial (get_or types (2 * i) 0) i ∷ [])
unfolding types_on
types-last types i =
    let e : 0 + length (types_on types i) ≡ i = let l = types-length types i in omega arith in
    symbols-last 0 (types_on types i) (get_or types (2 * i) 0)
    ∙ ap (λ (k : ℕ). symbols 0 (types_on types i) ++ (symbol initial (get_or types (2 * i) 0) k ∷ [])) e

-- ---- row 0

module _ {ws : List ℕ} (b : Blank ws) where
  pub blank-space : Space ws 1
  blank-space = record { lent = omega (arith, b.lent); room = omega (arith, b.zeros count_at) }

  blank-distinct : Distinct ws
  blank-distinct = record {
    differences = λ i l e. absurd (omega (arith, l, b.zeros count_at));
    different = λ i j x y h l u v. absurd (omega (arith, l, b.zeros count_at));
  }

  abbrev first-row : List ℕ
  first-row = pushed ws of_constant 1 0

  first-beyond : (k : ℕ) → row_at 1 ≤ k → get_or first-row k 0 ≡ 0
  first-beyond k l = pushed-above blank-space of_constant 1 0 k (omega (arith, l, b.zeros count_at)) ∙ b.zeros k

  pub first-started : (types left : List ℕ) → left ≡ first-row → Starting types left 0
  unfolding types_on symbols
  first-started types left e =
      let m = made-constant blank-space blank-distinct true 0 in
      let c = pushed-count blank-space of_constant 1 0 in
      let z = b.zeros count_at in
      let l = pushed-length blank-space of_constant 1 0 in
      let d = first-beyond condition_at (omega arith) in
      rw e
      (record {
        lent = omega (arith, l, b.lent);
        rows = omega arith;
        first = omega arith;
        next = first-beyond next_at (omega arith);
        condition = d;
        writes = first-beyond writes_at (omega arith);
        bare = λ k h l. first-beyond k (omega arith);
        path = record {
          next = first-beyond next_at (omega arith);
          inside = omega arith;
          condition = rw (d ∙ sym z) m.is;
          allowed = true-satisfiable;
          log = rw (first-beyond writes_at (omega arith), first-beyond start_at (omega arith)) no_write;
          distinct = m.distinct;
          remembers = nothing_known (first-beyond known_at (omega arith));
        };
        variables = no_variable;
      })

-- ---- a variable more

module _ {types ws : List ℕ} {i : ℕ} (l : i < symbol_limit) (s : Starting types ws i) where
  pub starting_room : Room ws 1
  starting_room =
      record {
        lent = s.lent;
        rows = omega (arith, s.rows);
        symbols = omega (arith, s.next);
        writes = omega (arith, s.writes);
      }

  module _ {q : ℕ} {xs : List ℕ} (f : Fresh initial (get_or types (2 * i) 0) ws q xs) where
    fresh-lent : space_size ≤ length xs
    fresh-lent = omega (arith, f.ruled.went.same, s.lent)

    abbrev typed : List ℕ
    typed = set xs (2 * i) (get_or types (2 * i) 0)

    abbrev placed : List ℕ
    placed = set typed (2 * i + 1) q

    placed-length : length placed ≡ length xs
    placed-length = simp length-set

    placed-type : get_or placed (2 * i) 0 ≡ get_or types (2 * i) 0
    placed-type =
        get_or-set_other typed (2 * i + 1) (2 * i) q 0 (λ e. omega arith)
        ∙ get_or-set_same xs (2 * i) (get_or types (2 * i) 0) 0 (omega (arith, fresh-lent))

    placed-place : get_or placed (2 * i + 1) 0 ≡ q
    placed-place = get_or-set_same typed (2 * i + 1) q 0 (simp length-set (omega (arith, fresh-lent)))

    placed-other : (k : ℕ) → (k ≡ 2 * i → ⊥) → (k ≡ 2 * i + 1 → ⊥) → get_or placed k 0 ≡ get_or xs k 0
    placed-other k a b = get_or-set_other typed (2 * i + 1) k q 0 b ∙ get_or-set_other xs (2 * i) k (get_or types (2 * i) 0) 0 a

    placed-before : (k : ℕ) → k < 2 * i → get_or placed k 0 ≡ get_or xs k 0
    placed-before k h = placed-other k (λ e. omega arith) (λ e. omega arith)

    placed-behind : (k : ℕ) → variables_end ≤ k → get_or placed k 0 ≡ get_or xs k 0
    placed-behind k h = placed-other k (λ e. omega arith) (λ e. omega arith)

    placed-grown : Grown xs placed
    placed-grown = same-grown placed-behind

    placed-path : PathIn placed (start (suc i))
    placed-path =
        let p = f.path (start i) s.path in
        path-kept (λ j h. placed-behind j (omega arith)) placed-grown (distinct-same placed-behind p.distinct) p

    placed-variables : Variables placed (suc i) (symbols 0 (types_on types (suc i)))
    placed-variables =
        let m : Means xs (get_or types (2 * i) 0) q (symbol initial (get_or types (2 * i) 0) i) = rw s.next at (f.means s.path.distinct) in
        rw (types-last types i)
        (one_more
        (variables-kept i (omega arith) placed-before placed-grown
        (variables-kept i (omega arith) (λ k h. f.ruled.went.before k (omega arith)) f.ruled.went.grown s.variables))
        (means-at placed-grown placed-type placed-place m))

    pub variable-started : Starting types placed (suc i)
    variable-started =
        let e = placed-behind count_at (omega arith) in
        let g = f.ruled.went.grown.grows in
        record {
          lent = omega (arith, placed-length, fresh-lent);
          rows = omega (arith, e, f.most, s.rows);
          first = omega (arith, e, g, s.first);
          next = placed-path.next;
          condition = placed-behind condition_at (omega arith) ∙ f.condition ∙ s.condition;
          writes = placed-behind writes_at (omega arith) ∙ f.writes ∙ s.writes;
          bare = λ k h m. placed-behind k (omega arith) ∙ f.ruled.notes.each k h m ∙ s.bare k h m;
          path = placed-path;
          variables = placed-variables;
        }

-- ---- the loop

pub starting_on : {types ws : List ℕ} (i : ℕ) → Starting types ws (suc i) → Starting types ws (i + 1)
starting_on i s = rw (add-one i) s

-- ---- all variables

-- the number of the variables is noted, for the notes and for the path
module _ {types ws : List ℕ} {depth : ℕ} (l : depth ≤ symbol_limit) (s : Starting types ws depth) where
  abbrev based : List ℕ
  based = set ws base_at depth

  abbrev counted : List ℕ
  counted = set based depth_at depth

  counted-other : (k : ℕ) → (k ≡ depth_at → ⊥) → (k ≡ base_at → ⊥) → get_or counted k 0 ≡ get_or ws k 0
  counted-other k m n = get_or-set_other based depth_at k depth 0 m ∙ get_or-set_other ws base_at k depth 0 n

  counted-before : (k : ℕ) → k < depth_at → get_or counted k 0 ≡ get_or ws k 0
  counted-before k h = counted-other k (λ e. omega arith) (λ e. omega arith)

  counted-grown : Grown ws counted
  counted-grown =
      let e = counted-before count_at (omega arith) in
      record { grows = omega arith; rows = λ k h i. counted-before k (omega (arith, i, s.rows)) }

  counted-path : PathIn counted (start depth)
  counted-path =
      path_rewound counted-grown.rows (λ k h i. absurd (omega (arith, h, i, s.writes))) (counted-before count_at (omega arith)) (counted-before next_at (omega arith))
      (counted-before condition_at (omega arith)) (counted-before writes_at (omega arith)) (counted-before start_at (omega arith))
      (still_known (λ k h. counted-other k (λ e. omega arith) (λ e. omega arith)) counted-grown s.path.remembers) s.path

  counted-bare : Bare depth counted
  counted-bare =
      record {
        base = get_or-set_other based depth_at base_at depth 0 (λ e. omega arith) ∙ get_or-set_same ws base_at depth 0 (omega (arith, s.lent));
        none = λ i h. counted-other (note_at i + 1) (λ e. omega arith) (λ e. omega arith) ∙ s.bare (note_at i + 1) (omega arith) (omega arith);
      }

  counted-length : length counted ≡ length ws
  counted-length = simp length-set

  counted-started : Started depth (types_on types depth) counted
  counted-started =
      let e = counted-before count_at (omega arith) in
      record {
        lent = omega (arith, counted-length, s.lent);
        rows = omega (arith, e, s.rows);
        writes = counted-before writes_at (omega arith) ∙ s.writes;
        depth = get_or-set_same based depth_at depth 0 (simp length-set (omega (arith, s.lent)));
        state = record {
          variables = variables-kept depth (omega arith) (λ k h. counted-before k (omega arith)) counted-grown s.variables;
          path = counted-path;
        };
        bare = counted-bare;
      }

pub starting_end : {types ws : List ℕ} {i : ℕ} (depth : ℕ) → depth ≤ symbol_limit → i ≤ depth → depth ≤ i → Starting types ws i
    → Started depth (types_on types depth) (set (set ws base_at depth) depth_at depth)
starting_end {i = i} depth h l m s = let e : i ≡ depth = omega arith in counted-started h (rw e at s)
