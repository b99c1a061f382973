-- A value that goes up by one frame, as the code takes it: each way out is one of the steps upwards. Assumes nothing.
use Rattle.std.specs.Prelude.{Bool, true, false, List, ◌≡◌, refl, ℕ, ◌≤◌, ◌<◌, eqb, length, set, Ok, Err}
use Rattle.std.proofs.Common.{sym, ◌∙◌, arith, length-set, get_or-set_same, get_or-set_other, eqb-true}
use Rattle.std.proofs.lemmas.Bool.{eqb-false}
use Rattle.script.specs.Code.Forms.{form_of, node_in}
use Rattle.script.specs.Flat.{HasNode}
use Rattle.script.specs.Limits.{node_limit}
use Rattle.script.specs.Rows.{if_form, let_form, node_operands}
use Rattle.script.specs.Rows.Kinds.{kind_for}
use Rattle.terms.specs.Places.{symbol_limit}
use Rattle.workspace.specs.Answers.{Step}
use Rattle.workspace.specs.Frames.{frame_in, top_in, waiter_of, first_of, second_of, Waitable, Waits, awaits_of, goes_to, for_body, for_first, for_next}
use Rattle.workspace.specs.Forks.{forked_in, Forks}
use Rattle.workspace.specs.Places.{fork_limit, frames_end, frames_size, goal_at, top_at}
use Rattle.workspace.specs.Rules.{One, Decidable}
use Rattle.workspace.specs.State.{depth_in, Room}
use Rattle.checker.specs.Code.Going.{Moved, Returnable, came-operand, bound_to, moved_by, Branched, to_first, to_second, to_both, to_none, Lasts, Lastable, Backs}
use Rattle.checker.specs.Code.Going.NextOperand.{next_waitable, next-plain, next_let, next_deep, next-branch, next_decidable, next-forked}
use Rattle.checker.specs.Code.Going.FrameRules.{up, up_room, up_one, up_lastable, up-last, gives-came, up_next}
use Rattle.checker.specs.declared.steps.Move.TheVariants.{Value, Operand}

moved_not-operand : (a : Step) {m : ℕ} → moved_by a ≡ Ok (Operand m) → ⊥
moved_not-operand (Ok (t, q)) e = cc
moved_not-operand (Err x) e = cc

pub more_than_one : {r : Bool} {m : ℕ} → r ≡ eqb m 1 → r ≡ false → m ≡ 1 → ⊥
more_than_one {m = m} e f = eqb-false m 1 (sym e ∙ f)

module _ {table ws fs : List ℕ} {t q : ℕ} (x : Returnable table ws fs t q) (some : 1 ≤ frame_in fs) where
  abbrev f : ℕ
  f = frame_in fs

  abbrev n : ℕ
  n = waiter_of fs (frame_in fs)

  abbrev fs₁ : List ℕ
  fs₁ = set fs goal_at (goes_to fs (frame_in fs))

  pub back_inside : frame_in fs < node_limit
  back_inside = let i = x.returning.stands.inside in omega (arith, i, x.returning.tops)

  pub back_lent : frames_end ≤ length fs
  back_lent = omega (arith, x.returning.stands.framed)

  pub back_framed : frames_size ≤ length fs₁
  back_framed = omega (arith, x.returning.stands.framed, length-set fs goal_at (goes_to fs (frame_in fs)))

  pub back_node : HasNode table n
  back_node = let l = (up x.returning some).low in omega (arith, l, x.returning.stands.formed.room)

  falls : frame_in fs₁ < frame_in fs
  falls =
      let e = get_or-set_same fs goal_at (goes_to fs (frame_in fs)) 0 (omega (arith, x.returning.stands.framed)) in
      let l = (up x.returning some).falls in
      omega arith

  top-is : top_in fs₁ ≡ top_in fs
  top-is = get_or-set_other fs goal_at top_at (goes_to fs (frame_in fs)) 0 λ e. omega arith

  -- ---- with its last operand

  module _ (z : awaits_of fs f ≡ for_first → ⊥) where
    pub back_lastable : Lastable (awaits_of fs f) ws (first_of fs f) (second_of fs f) t q
    back_lastable = up_lastable x.returning some z

    pub back_last : {m : Moved} {left : List ℕ} → Lasts (node_in table n).kind (awaits_of fs f) n (first_of fs f) (second_of fs f) t q ws m left
        → Backs table t q ws fs m left fs₁
    back_last {m} {left} l =
        record {
          came = λ limit bound base beneath ls r. up-last r some z l;
          falls = λ e. falls;
          rises = λ e. absurd (by (eqb (awaits_of fs f) 2) refl e);
          tops = omega (arith, top-is);
        }
      where
        by : (b : Bool) → eqb (awaits_of fs f) 2 ≡ b → {k : ℕ} → m ≡ Ok (Operand k) → ⊥
        by true i e = let v = (l.body (eqb-true (awaits_of fs f) 2 i)).0 in cc
        by false i e = let a = l.other (eqb-false (awaits_of fs f) 2 i) in moved_not-operand a.0 (sym a.1 ∙ e)

  -- ---- with its only operand

  pub back_room : Room ws 1
  back_room = up_room x.returning some

  pub back_one : awaits_of fs f ≡ for_first → node_operands (node_in table n).kind ≡ 1 → {a : Step} {left : List ℕ} → One (form_of (node_in table n).kind) n t q ws a left
      → Backs table t q ws fs (moved_by a) left fs₁
  back_one z o {a} l =
      record {
        came = λ limit bound base beneath ls r. gives-came (up_one r some z o l);
        falls = λ e. falls;
        rises = λ e. absurd (moved_not-operand a e);
        tops = omega (arith, top-is);
      }

  -- ---- with the first of several

  module _ (z : awaits_of fs f ≡ for_first) (o : node_operands (node_in table n).kind ≡ 1 → ⊥) where
    pub back_waitable : Waitable fs₁
    back_waitable = next_waitable x.returning some (up_next x.returning some z o)

    risen : {n awaits y w : ℕ} {gs : List ℕ} → Waits n awaits y w fs₁ gs → top_in fs < top_in gs
    risen w = omega (arith, w.top, top-is)

    -- of an operator
    pub back_plain : ((node_in table n).kind ≡ kind_for if_form → ⊥) → ((node_in table n).kind ≡ kind_for let_form → ⊥) → {gs : List ℕ} → Waits n for_next t q fs₁ gs
        → Backs table t q ws fs (Ok (Operand (node_in table n).b)) ws gs
    back_plain d e w =
        record {
          came = λ limit bound base beneath ls r. came-operand (next-plain r some (up_next r some z o) d e w);
          falls = λ i. cc;
          rises = λ i. risen w;
          tops = let l = risen w in omega arith;
        }

    -- of a `let`
    pub back_deep : depth_in ws < symbol_limit
    back_deep = next_deep x.returning some (up_next x.returning some z o)

    pub back_let : (node_in table n).kind ≡ kind_for let_form → {gs : List ℕ} → Waits n for_body t q fs₁ gs → Backs table t q ws fs (Ok (Operand (node_in table n).b)) (bound_to ws t q) gs
    back_let e w =
        record {
          came = λ limit bound base beneath ls r. came-operand (next_let r some (up_next r some z o) e w);
          falls = λ i. cc;
          rises = λ i. risen w;
          tops = let l = risen w in omega arith;
        }

    -- of an `if`
    module _ (h : (node_in table n).kind ≡ kind_for if_form) where
      pub back_decidable : Decidable ws t q
      back_decidable = next_decidable x.returning some (up_next x.returning some z o) h

      pub back_forked : forked_in fs₁ < fork_limit
      back_forked = next-forked x.returning some (up_next x.returning some z o) h

      forks-top : {ys hs gs : List ℕ} → Forks ys hs gs → top_in gs ≡ top_in hs
      forks-top y = y.others 1 (λ e. omega arith) (omega arith)

      branched_top : {m : Moved} {left gs : List ℕ} → Branched (node_in table n).b (node_in table n).c n t q ws fs₁ left gs m → top_in fs < top_in gs
      branched_top (to_first w k) = risen w
      branched_top (to_second w k) = risen w
      branched_top (to_both w k y e) = let l = risen w in omega (arith, l, forks-top y)
      branched_top (to_none w k) = risen w

      branched_none : {m : Moved} {left gs : List ℕ} {u s : ℕ} → Branched (node_in table n).b (node_in table n).c n t q ws fs₁ left gs m → m ≡ Ok (Value u s) → ⊥
      branched_none (to_first w k) e = cc
      branched_none (to_second w k) e = cc
      branched_none (to_both w k y i) e = cc
      branched_none (to_none w k) e = cc

      pub back_branch : {m : Moved} {left gs : List ℕ} → Branched (node_in table n).b (node_in table n).c n t q ws fs₁ left gs m → Backs table t q ws fs m left gs
      back_branch k =
          record {
            came = λ limit bound base beneath ls r. next-branch r some (up_next r some z o) h k;
            falls = λ e. absurd (branched_none k e);
            rises = λ e. branched_top k;
            tops = let l = branched_top k in omega arith;
          }
