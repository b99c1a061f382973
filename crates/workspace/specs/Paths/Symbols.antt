-- A fresh symbol: the next number is taken, and a word or a truth gets a row. Assumes nothing.
use Rattle.std.specs.Prelude.{Bool, true, false, List, ◌≡◌, ℕ, zero, suc, ◌+◌, ◌≤◌, ◌<◌, ltb, length, get_or}
use Rattle.std.proofs.Math.Path.{refl}
use Rattle.std.proofs.Common.{◌∙◌, add-one, arith, length-set, get_or-set_same, get_or-set_other}
use Rattle.script.specs.Tests.{pick}
use Rattle.rules.specs.Paths.{Path, taken}
use Rattle.rules.specs.Symbolic.{Origin, symbol}
use Rattle.terms.specs.Atoms.{found_or, atom_row_of, atom_left}
use Rattle.terms.specs.Atoms.Made.{made-truth}
use Rattle.terms.specs.Places.{symbol_limit, count_at}
use Rattle.terms.specs.References.{reference_at}
use Rattle.terms.specs.Terms.{count_in, Space, pushed, Distinct, Grown, Added, of_symbol, of_truth}
use Rattle.terms.specs.Terms.Laws.{grown_trans, added-refl, still_distinct, pushed-length, pushed-added, made-symbol}
use Rattle.workspace.specs.Numbers.{fresh_place, fresh_left}
use Rattle.workspace.specs.Numbers as Numbers
use Rattle.workspace.specs.Paths.{Fresh}
use Rattle.workspace.specs.Places.{condition_at, depth_at, next_at, start_at, writes_at}
use Rattle.workspace.specs.Rules.{Ruled}
use Rattle.workspace.specs.State.{next_in, Means, word_row, truth_row, reference_place, PathIn, Room}
use Rattle.workspace.specs.State.Laws.{still_known, path_moved, log-kept, path-added}

-- ---- an atom that is found or made adds at most one row

module _ {ws : List ℕ} (s : Space ws 1) (op a b : ℕ) where
  found-added : (t : Bool) → Added ws (pick t ws (pushed ws op a b)) 1
  found-added true = added-refl ws 1
  found-added false = pushed-added s op a b

  found-length : (t : Bool) → length (pick t ws (pushed ws op a b)) ≡ length ws
  found-length true = refl
  found-length false = pushed-length s op a b

  atom-added : Added ws (atom_left ws op a b) 1
  unfolding found_or
  atom-added = found-added (ltb (atom_row_of ws op a b) (count_in ws))

  atom-length : length (atom_left ws op a b) ≡ length ws
  unfolding found_or
  atom-length = found-length (ltb (atom_row_of ws op a b) (count_in ws))

-- ---- the next number taken

module _ (ws : List ℕ) (room : Room ws 1) where
  abbrev numbered : List ℕ
  numbered = Numbers.numbered ws

  numbered-length : length numbered ≡ length ws
  numbered-length = length-set ws next_at (next_in ws + 1)

  numbered_next : next_in numbered ≡ suc (next_in ws)
  numbered_next = get_or-set_same ws next_at (next_in ws + 1) 0 (omega (arith, room.lent)) ∙ add-one (next_in ws)

  numbered-other : (k : ℕ) → (k ≡ next_at → ⊥) → get_or numbered k 0 ≡ get_or ws k 0
  numbered-other k n = get_or-set_other ws next_at k (next_in ws + 1) 0 n

  numbered-count : count_in numbered ≡ count_in ws
  numbered-count = numbered-other count_at λ e. omega arith

  pub numbered-space : Space numbered 1
  numbered-space =
      record {
        lent = omega (arith, room.lent, numbered-length);
        room = omega (arith, room.rows, numbered-count);
      }

  numbered-grown : Grown ws numbered
  numbered-grown =
      record {
        grows = omega (arith, numbered-count);
        rows = λ k h l. numbered-other k λ e. omega (arith, l, room.rows);
      }

  numbered-distinct : Distinct ws → Distinct numbered
  numbered-distinct d = still_distinct numbered-grown (omega (arith, numbered-count)) d

  numbered-path : (p : Path) → PathIn ws p → PathIn numbered (taken p)
  numbered-path p h =
      path_moved numbered-grown (numbered-distinct h.distinct) (numbered-other condition_at λ e. omega arith) (numbered_next ∙ rw h.next)
      (rw (numbered-other writes_at λ e. omega arith, numbered-other start_at λ e. omega arith) (log-kept (λ j i _. numbered-other j λ e. omega arith) numbered-grown h.log))
      (still_known (λ j i. numbered-other j λ e. omega arith) numbered-grown h.remembers) h

  -- at most one row more
  module _ {left : List ℕ} (same : length left ≡ length numbered) (a : Added numbered left 1) where
    behind : (k : ℕ) → condition_at ≤ k → get_or left k 0 ≡ get_or ws k 0
    behind k l = a.beyond k (omega arith) ∙ numbered-other k λ e. omega arith

    numbered-ruled : Ruled ws left
    numbered-ruled =
        let n = a.beyond next_at (omega arith) in
        let w = behind writes_at (omega arith) in
        record {
          went = record {
            same = same ∙ numbered-length;
            before = λ k l. a.before k (omega arith) ∙ numbered-other k λ e. omega arith;
            grown = grown_trans numbered-grown a.grown;
            rows = omega (arith, a.most, numbered-count);
            symbols = omega (arith, n, numbered_next);
            writes = omega arith;
            logged = omega arith;
            log = λ k l h. behind k (omega arith);
          };
          depth = behind depth_at (omega arith);
          notes = record { each = λ k l m. behind k (omega arith) };
        }

    fresh-by : (o : Origin) (t q : ℕ) → (Distinct numbered → Distinct left) → (Distinct numbered → Means left t q (symbol o t (next_in ws))) → q ≡ fresh_place o t ws
        → left ≡ fresh_left t ws → Fresh o t ws q left
    fresh-by o t q d m eq el =
        record {
          ruled = numbered-ruled;
          means = λ x. m (numbered-distinct x);
          path = λ p h. path-added a (d (numbered-distinct h.distinct)) (numbered-path p h);
          condition = behind condition_at (omega arith);
          writes = behind writes_at (omega arith);
          most = omega (arith, a.most, numbered-count);
          place_is = eq;
          left_is = el;
        }

  fresh-symbol : next_in ws < symbol_limit
  fresh-symbol = omega (arith, room.symbols)

  pub fresh-word : (o : Origin) (t q : ℕ) (left : List ℕ) → t ≡ 0 → q ≡ count_in numbered → left ≡ pushed numbered of_symbol (next_in ws) 0 → Fresh o t ws q left
  unfolding symbol fresh_place fresh_left
  fresh-word o t q left e f g =
      rw (e, f, g)
      (fresh-by (pushed-length numbered-space of_symbol (next_in ws) 0) (pushed-added numbered-space of_symbol (next_in ws) 0) o 0 (count_in numbered)
      (λ d. (made-symbol numbered-space d (next_in ws) 0 fresh-symbol).distinct)
      (λ d. let m = made-symbol numbered-space d (next_in ws) 0 fresh-symbol in word_row m.inside m.is) refl refl)

  pub fresh-truth : (o : Origin) (t q : ℕ) (left : List ℕ) → t ≡ 1 → q ≡ atom_row_of numbered of_truth (next_in ws) (next_in ws) → left ≡ atom_left numbered of_truth (next_in ws) (next_in ws)
      → Fresh o t ws q left
  unfolding symbol fresh_place fresh_left
  fresh-truth o t q left e f g =
      let s = next_in ws in
      rw (e, f, g)
      (fresh-by (atom-length numbered-space of_truth s s) (atom-added numbered-space of_truth s s) o 1 (atom_row_of numbered of_truth s s)
      (λ d. (made-truth numbered-space d s (atom_row_of numbered of_truth s s) (atom_left numbered of_truth s s) refl refl).distinct)
      (λ d. let m = made-truth numbered-space d s (atom_row_of numbered of_truth s s) (atom_left numbered of_truth s s) refl refl in truth_row m.inside m.is) refl refl)

  fresh_at : (o : Origin) (t : ℕ) → Fresh o (suc (suc t)) ws (reference_at o (next_in ws)) numbered
  unfolding symbol fresh_place fresh_left
  fresh_at o t = fresh-by refl (added-refl numbered 1) o (suc (suc t)) (reference_at o (next_in ws)) (λ d. d) (λ d. reference_place refl) refl refl

  pub fresh_reference : (o : Origin) (t : ℕ) → (t ≡ 0 → ⊥) → (t ≡ 1 → ⊥) → Fresh o t ws (reference_at o (next_in ws)) numbered
  fresh_reference o zero m n = absurd (m refl)
  fresh_reference o (suc zero) m n = absurd (n refl)
  fresh_reference o (suc (suc t)) m n = fresh_at o t
