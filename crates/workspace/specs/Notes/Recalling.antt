-- Reading notes: the loops over a note and over the notes, that what a right note says of a block is its type, and that right notes can be read.
-- Assumes nothing.
use Rattle.std.specs.Prelude.{Bool, ◌&&◌, List, eqb, length, get_or, Some, None, Ok}
use Rattle.std.proofs.Math.Bool.{true, false}
use Rattle.std.proofs.Math.Option.{some}
use Rattle.std.proofs.Math.Path.{◌≡◌, refl, sym}
use Rattle.std.proofs.Common.{ap, ◌∙◌, add-one, eqb-true, eq-eqb, ne_eqb}
use Prim.Native.Nat.{ℕ, zero, suc, ◌+◌, ◌*◌, ◌-◌, ◌≤◌, ◌<◌}
use native.Mathlib.Omega.{arith}
use Rattle.std.proofs.lemmas.Bool.{eqb-false}
use Rattle.script.specs.Code.Forms.{tree_in}
use Rattle.script.specs.Tests.{pick}
use Rattle.script.specs.Tests.Laws.{both_true}
use Rattle.rules.specs.Checking.{check}
use Rattle.terms.specs.Places.{symbol_limit}
use Rattle.workspace.specs.Notes.{base_in, operand_in, note_depth, type_in, names_in, name_in, named_type, Recallables, agrees_from, agrees_on, is_of, recalled_on, Agrees, NoteOf, Kept}
use Rattle.workspace.specs.Places.{note_at, note_limit, space_size}
use Rattle.workspace.specs.State.{types_on}
use Rattle.workspace.specs.State.Laws.{types-at, types-length}

-- ---- the loop over the variables of a note

-- the first i variables have the types that are named
pub record Agreeing (ws : List ℕ) (at i : ℕ) : Type 0 where
  pub within : i ≤ names_in ws at
  pub rest : agrees_on ws at ≡ agrees_from ws at i (names_in ws at - i)

module _ (ws : List ℕ) (at : ℕ) where
  agreeing_by : (i : ℕ) → i < names_in ws at → agrees_from ws at i (names_in ws at - i)
      ≡ (eqb (get_or ws (2 * name_in ws at i) 0) (named_type ws at i) && agrees_from ws at (suc i) (names_in ws at - suc i))
  unfolding agrees_from
  agreeing_by i l = let e : names_in ws at - i ≡ suc (names_in ws at - suc i) = omega arith in rw e refl

  pub agreeing_start : Agreeing ws at 0
  agreeing_start = let e : names_in ws at - 0 ≡ names_in ws at = omega arith in record { within = omega arith; rest = rw e refl }

  module _ (i : ℕ) (m : Agreeing ws at i) where
    pub agreeing_wrong : i < names_in ws at → (get_or ws (2 * name_in ws at i) 0 ≡ named_type ws at i → ⊥) → false ≡ agrees_on ws at
    agreeing_wrong l d = sym (m.rest ∙ agreeing_by i l ∙ rw (ne_eqb (get_or ws (2 * name_in ws at i) 0) (named_type ws at i) d) refl)

    pub agreeing_on : i < names_in ws at → get_or ws (2 * name_in ws at i) 0 ≡ named_type ws at i → Agreeing ws at (i + 1)
    agreeing_on l e =
        rw (add-one i)
        (record { within = omega arith; rest = m.rest ∙ agreeing_by i l ∙ rw (eq-eqb (get_or ws (2 * name_in ws at i) 0) (named_type ws at i) e) refl })

    pub agreeing_end : names_in ws at ≤ i → true ≡ agrees_on ws at
    unfolding agrees_from
    agreeing_end l = let e : names_in ws at - i ≡ 0 = omega arith in sym (m.rest ∙ rw e refl)

-- ---- the tests of a note

module _ (ws : List ℕ) (at depth a : ℕ) where
  pub other-operand : (operand_in ws at ≡ a → ⊥) → false ≡ is_of ws at depth a
  other-operand d = rw (ne_eqb (operand_in ws at) a d) refl

  pub other-depth : operand_in ws at ≡ a → (note_depth ws at ≡ depth + 1 → ⊥) → false ≡ is_of ws at depth a
  other-depth e d = rw (eq-eqb (operand_in ws at) a e, ne_eqb (note_depth ws at) (depth + 1) d) refl

  pub same_note : operand_in ws at ≡ a → note_depth ws at ≡ depth + 1 → agrees_on ws at ≡ is_of ws at depth a
  same_note e d = rw (eq-eqb (operand_in ws at) a e, eq-eqb (note_depth ws at) (depth + 1) d) refl

-- ---- the loop over the notes

-- none of the first i notes is one of node a
pub record Recalling (ws : List ℕ) (depth a i : ℕ) : Type 0 where
  pub within : i ≤ note_limit
  pub rest : recalled_on ws depth a 0 note_limit ≡ recalled_on ws depth a i (note_limit - i)

module _ (ws : List ℕ) (depth a : ℕ) where
  recalling-by : (i : ℕ) → i < note_limit → recalled_on ws depth a i (note_limit - i)
      ≡ pick (is_of ws (note_at i) depth a) (Some (type_in ws (note_at i))) (recalled_on ws depth a (suc i) (8 - suc i))
  unfolding recalled_on
  recalling-by i l = let e : 8 - i ≡ suc (8 - suc i) = omega arith in rw e refl

  pub recalling-start : Recalling ws depth a 0
  recalling-start = record { within = omega arith; rest = refl }

  module _ (i : ℕ) (m : Recalling ws depth a i) where
    pub recalling-found : i < note_limit → is_of ws (note_at i) depth a ≡ true → Some (type_in ws (note_at i)) ≡ recalled_on ws depth a 0 note_limit
    recalling-found l e = sym (m.rest ∙ recalling-by i l ∙ rw e refl)

    pub recalling_on : i < note_limit → is_of ws (note_at i) depth a ≡ false → Recalling ws depth a (i + 1)
    recalling_on l e = rw (add-one i) (record { within = omega arith; rest = m.rest ∙ recalling-by i l ∙ rw e refl })

    pub recalling_end : 8 ≤ i → None ≡ recalled_on ws depth a 0 note_limit
    unfolding recalled_on
    recalling_end l = let e : 8 - i ≡ 0 = omega arith in sym (m.rest ∙ rw e refl)

-- ---- a right note is right of a block that it is recalled for

-- each of the variables has the type that is named
agrees-each : (ws : List ℕ) (at i more : ℕ) → agrees_from ws at i more ≡ true → (j : ℕ) → i ≤ j → j < i + more
    → get_or ws (2 * name_in ws at j) 0 ≡ named_type ws at j
unfolding agrees_from
agrees-each ws at i zero e j h l = absurd (omega arith)
agrees-each ws at i (suc more) e j h l =
    let p = both_true (eqb (get_or ws (2 * name_in ws at i) 0) (named_type ws at i)) (agrees_from ws at (suc i) more) e in
    go (eqb i j) refl (eqb-true _ _ p.0) (agrees-each ws at (suc i) more p.1 j)
  where
    go : (b : Bool) → eqb i j ≡ b → get_or ws (2 * name_in ws at i) 0 ≡ named_type ws at i
        → (suc i ≤ j → j < suc i + more → get_or ws (2 * name_in ws at j) 0 ≡ named_type ws at j) → get_or ws (2 * name_in ws at j) 0 ≡ named_type ws at j
    go true q s f = rw (eqb-true i j q) at s
    go false q s f = let n = eqb-false i j q in f (omega arith) (omega arith)

module _ {limit : ℕ} {table ws : List ℕ} {depth : ℕ} (k : Kept limit table ws) (low : base_in ws ≤ depth) (a : ℕ) where
  note_agrees : (at : ℕ) → NoteOf limit table ws at depth → agrees_on ws at ≡ true → Agrees ws at (types_on ws depth)
  note_agrees at n e =
      record {
        first = λ j l. types-at ws depth j (omega arith);
        others = λ i l. types-at ws depth (name_in ws at i) (n.inside i l) ∙ ap some (agrees-each ws at 0 (names_in ws at) e i (omega arith) (omega arith));
      }

  note_right : (i : ℕ) → i < note_limit → is_of ws (note_at i) depth a ≡ true → check limit (tree_in table a) (types_on ws depth) ≡ Ok (type_in ws (note_at i))
  note_right i l e =
      let p = both_true (eqb (operand_in ws (note_at i)) a) _ e in
      let q = both_true (eqb (note_depth ws (note_at i)) (depth + 1)) (agrees_on ws (note_at i)) p.1 in
      let n = k.notes i l depth (eqb-true _ _ q.0 ∙ add-one depth) in
      rw (eqb-true (operand_in ws (note_at i)) a p.0) at (n.right (types_on ws depth) (types-length ws depth) (note_agrees (note_at i) n q.1))

  recalled-from : (i more t : ℕ) → i + more ≤ note_limit → recalled_on ws depth a i more ≡ Some t → check limit (tree_in table a) (types_on ws depth) ≡ Ok t
  unfolding recalled_on
  recalled-from i zero t l e = absurd (let z : ◌≡◌ {A = ℕ} 0 1 = cc in omega arith)
  recalled-from i (suc more) t l e = go (is_of ws (note_at i) depth a) refl e (recalled-from (suc i) more t (omega arith))
    where
      go : (b : Bool) → is_of ws (note_at i) depth a ≡ b → pick b (Some (type_in ws (note_at i))) (recalled_on ws depth a (suc i) more) ≡ Some t
          → (recalled_on ws depth a (suc i) more ≡ Some t → check limit (tree_in table a) (types_on ws depth) ≡ Ok t)
          → check limit (tree_in table a) (types_on ws depth) ≡ Ok t
      go true q s f = let u : type_in ws (note_at i) ≡ t = cc in rw u at (note_right i (omega arith) q)
      go false q s f = f s

-- what is recalled is the block's type
pub recalled-right : {limit : ℕ} {table ws : List ℕ} {depth t : ℕ} (a : ℕ) → Kept limit table ws → base_in ws ≤ depth → recalled_on ws depth a 0 note_limit ≡ Some t
    → check limit (tree_in table a) (types_on ws depth) ≡ Ok t
recalled-right {t = t} a k low e = recalled-from k low a 0 8 t (omega arith) e

-- right notes can be read
pub kept_recallables : {limit : ℕ} {table ws : List ℕ} {depth : ℕ} → space_size ≤ length ws → depth ≤ symbol_limit → Kept limit table ws → Recallables ws depth
kept_recallables {ws = ws} {depth = depth} lent small k =
    record {
      each = λ i l. record {
        lent = omega arith;
        small = small;
        readable = λ e.
            let n = k.notes i l depth (e ∙ add-one depth) in
            record {
              lent = omega arith;
              wide = omega arith;
              few = n.few;
              inside = λ j h. let b = n.inside j h in omega (arith, b, small);
            };
      };
    }
