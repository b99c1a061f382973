-- What a new frame holds and what it leaves as it was, and each step down the first operands. Assumes nothing.
use Rattle.std.specs.Prelude.{Bool, true, false, not, ◌&&◌, List, ◌≡◌, refl, ℕ, suc, ◌+◌, ◌*◌, ◌≤◌, ◌<◌, leb, eqb, length, get_or, set}
use Rattle.std.proofs.lemmas.Bool.{false≢true, lt-leb}
use Rattle.std.proofs.Common.{sym, ◌∙◌, arith, length-set, get_or-set_same, get_or-set_other, leb-true, leb-false, le-leb, eq-eqb, ne_eqb}
use Rattle.script.specs.Code.Forms.{node_in, tree_in, some-operand, formed_less}
use Rattle.script.specs.Rows.{typed_form}
use Rattle.script.specs.Rows.Kinds.{kind_for, leaf_kinds}
use Rattle.script.specs.Tree.{Expr, int, truth, var, unary, binary, if_else, let_in, typed_block, sym_block, size}
use Rattle.workspace.specs.Frames.{frame_in, top_in, waits_for, Waitable, Waits, Descendable, up_to, for_first}
use Rattle.workspace.specs.Places.{frame_width, goal_at, top_at}
use Rattle.workspace.specs.Rules.Nodes.{First, shaped, first_of}

-- ---- a new frame

module _ (fs : List ℕ) (at a b x y top : ℕ) where
  abbrev one : List ℕ
  one = set fs at a

  abbrev two : List ℕ
  two = set one (at + 1) b

  abbrev three : List ℕ
  three = set two (at + 2) x

  abbrev four : List ℕ
  four = set three (at + 3) y

  abbrev five : List ℕ
  five = set four top_at top

  abbrev pub stored : List ℕ
  stored = set five goal_at top

  module _ (h : frame_width ≤ at) (l : at + 3 < length fs) where
    pub stored-length : length stored ≡ length fs
    stored-length = simp length-set

    pub stored-frame : get_or stored goal_at 0 ≡ top
    stored-frame = get_or-set_same five goal_at top 0 (simp length-set (omega arith))

    pub stored-top : get_or stored top_at 0 ≡ top
    stored-top = get_or-set_other five goal_at top_at top 0 (λ e. omega arith) ∙ get_or-set_same four top_at top 0 (simp length-set (omega arith))

    behind : (k : ℕ) → 2 ≤ k → get_or stored k 0 ≡ get_or four k 0
    behind k i = get_or-set_other five goal_at k top 0 (λ e. omega arith) ∙ get_or-set_other four top_at k top 0 (λ e. omega arith)

    pub stored_third : get_or stored (at + 3) 0 ≡ y
    stored_third = behind (at + 3) (omega arith) ∙ get_or-set_same three (at + 3) y 0 (simp length-set (omega arith))

    pub stored-second : get_or stored (at + 2) 0 ≡ x
    stored-second =
        behind (at + 2) (omega arith)
        ∙ get_or-set_other three (at + 3) (at + 2) y 0 (λ e. omega arith)
        ∙ get_or-set_same two (at + 2) x 0 (simp length-set (omega arith))

    pub stored-first : get_or stored (at + 1) 0 ≡ b
    stored-first =
        behind (at + 1) (omega arith)
        ∙ get_or-set_other three (at + 3) (at + 1) y 0 (λ e. omega arith)
        ∙ get_or-set_other two (at + 2) (at + 1) x 0 (λ e. omega arith)
        ∙ get_or-set_same one (at + 1) b 0 (simp length-set (omega arith))

    pub stored-node : get_or stored at 0 ≡ a
    stored-node =
        behind at (omega arith)
        ∙ get_or-set_other three (at + 3) at y 0 (λ e. omega arith)
        ∙ get_or-set_other two (at + 2) at x 0 (λ e. omega arith)
        ∙ get_or-set_other one (at + 1) at b 0 (λ e. omega arith)
        ∙ get_or-set_same fs at a 0 (omega arith)

    pub stored-others : (k : ℕ) → 2 ≤ k → (at ≤ k → k < at + frame_width → ⊥) → get_or stored k 0 ≡ get_or fs k 0
    stored-others k i d =
        behind k i
        ∙ get_or-set_other three (at + 3) k y 0 (λ e. d (omega arith) (omega arith))
        ∙ get_or-set_other two (at + 2) k x 0 (λ e. d (omega arith) (omega arith))
        ∙ get_or-set_other one (at + 1) k b 0 (λ e. d (omega arith) (omega arith))
        ∙ get_or-set_other fs at k a 0 (λ e. d (omega arith) (omega arith))

-- in a frame with number top
module _ (n awaits x y : ℕ) (fs : List ℕ) (w : Waitable fs) (top : ℕ) (e : top ≡ suc (top_in fs)) where
  abbrev left : List ℕ
  left = stored fs (frame_width * top) n (up_to (frame_in fs) awaits) x y top

  first-place : frame_width ≤ frame_width * top
  first-place = omega arith

  last-place : frame_width * top + 3 < length fs
  last-place = omega (arith, w.lent, w.few)

  pub new_frame : Waits n awaits x y fs left
  new_frame =
      record {
        same = stored-length fs (frame_width * top) n (up_to (frame_in fs) awaits) x y top first-place last-place;
        frame = stored-frame fs (frame_width * top) n (up_to (frame_in fs) awaits) x y top first-place last-place ∙ e;
        top = stored-top fs (frame_width * top) n (up_to (frame_in fs) awaits) x y top first-place last-place ∙ e;
        node = rw (sym e) (stored-node fs (frame_width * top) n (up_to (frame_in fs) awaits) x y top first-place last-place);
        up = rw (sym e) (stored-first fs (frame_width * top) n (up_to (frame_in fs) awaits) x y top first-place last-place);
        first = rw (sym e) (stored-second fs (frame_width * top) n (up_to (frame_in fs) awaits) x y top first-place last-place);
        second = rw (sym e) (stored_third fs (frame_width * top) n (up_to (frame_in fs) awaits) x y top first-place last-place);
        others = rw (sym e) (stored-others fs (frame_width * top) n (up_to (frame_in fs) awaits) x y top first-place last-place);
      }

-- ---- whether a node waits

pub leaf_waits : (kind : ℕ) → kind < leaf_kinds → false ≡ waits_for kind
leaf_waits kind h = rw (lt-leb leaf_kinds kind h)

pub other_waits : (kind : ℕ) → leaf_kinds ≤ kind → not (eqb kind (kind_for typed_form)) ≡ waits_for kind
other_waits kind h = rw (le-leb leaf_kinds kind h)

pub waits_inner : (kind : ℕ) → waits_for kind ≡ true → leaf_kinds ≤ kind
waits_inner kind e = go (leb leaf_kinds kind) refl e
  where
    go : (b : Bool) → leb leaf_kinds kind ≡ b → (b && not (eqb kind (kind_for typed_form))) ≡ true → leaf_kinds ≤ kind
    go true p f = leb-true leaf_kinds kind p
    go false p f = absurd (false≢true f)

pub waits_other : (kind : ℕ) → waits_for kind ≡ true → kind ≡ kind_for typed_form → ⊥
waits_other kind e f = false≢true (sym (rw (eq-eqb kind (kind_for typed_form) f) (and-false (leb leaf_kinds kind))) ∙ e)
  where
    and-false : (b : Bool) → (b && not true) ≡ false
    and-false true = refl
    and-false false = refl

-- a node that does not wait is a leaf or a typed block
pub waits_none : (kind : ℕ) → waits_for kind ≡ false → (kind ≡ kind_for typed_form → ⊥) → kind < leaf_kinds
waits_none kind e d = go (leb leaf_kinds kind) refl (rw (ne_eqb kind (kind_for typed_form) d) at e)
  where
    go : (b : Bool) → leb leaf_kinds kind ≡ b → (b && not false) ≡ false → kind < leaf_kinds
    go true p f = absurd (false≢true (sym f))
    go false p f = leb-false leaf_kinds kind p

-- ---- down the first operands

pub size-some : (e : Expr) → 1 ≤ size e
unfolding size
size-some (int n w) = omega arith
size-some (truth n b) = omega arith
size-some (var n k) = omega arith
size-some (unary n o e) = omega arith
size-some (binary n o e f) = omega arith
size-some (if_else n c e f) = omega arith
size-some (let_in n e f) = omega arith
size-some (typed_block n e) = omega arith
size-some (sym_block n e) = omega arith

module _ {table fs : List ℕ} {n : ℕ} (q : Descendable table fs n) (w : waits_for (node_in table n).kind ≡ true) where
  down_first : First 0 table n (tree_in table n)
  down_first = first_of (shaped 0 q.formed) (some-operand q.formed (waits_inner _ w))

  pub down_earlier : (node_in table n).a < n
  down_earlier = down_first.earlier

  pub down_waitable : Waitable fs
  down_waitable =
      record {
        lent = q.lent;
        few = omega (arith, q.few, down_first.smaller, size-some (tree_in table (node_in table n).a));
        inside = q.inside;
      }

  module _ {between : List ℕ} (s : Waits n for_first 0 0 fs between) where
    pub down_next : Descendable table between (node_in table n).a
    down_next =
        record {
          formed = formed_less (suc (node_in table n).a) (omega (arith, down_earlier)) q.formed;
          lent = omega (arith, q.lent, s.same);
          few = omega (arith, q.few, s.top, down_first.smaller);
          inside = omega (arith, s.frame, s.top);
        }
