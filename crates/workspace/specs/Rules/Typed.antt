-- From one step of the typed checker to the next: what is known once an operand has its type or is refused, and how the steps of a node make up its check.
-- Assumes nothing.
use Rattle.std.specs.Prelude.{Bool, true, false, List, ◌≡◌, refl, ℕ, suc, ◌≤◌, ◌<◌, eqb, Err, Ok}
use Rattle.std.proofs.Common.{sym, ap, ◌∙◌, arith, eqb-true}
use Rattle.std.proofs.lemmas.Bool.{eqb-false}
use Rattle.script.specs.Code.Forms.{form_of, kind-operands, leaf_kinds_lem, node_in, tree_in, formed_less, bound_on}
use Rattle.script.specs.Rows.{if_form, sym_form, node_operands}
use Rattle.script.specs.Rows.Kinds.{kind_for, leaf_kinds}
use Rattle.script.specs.declared.Refusal.{Refusal}
use Rattle.rules.specs.Checking.{check, exec}
use Rattle.rules.specs.Paths.{start, leaves}
use Rattle.rules.specs.Symbolic.{symbols}
use Rattle.rules.specs.SymbolicRules.{verdict}
use Rattle.rules.specs.TypedRules.{and_then, if_type}
use Rattle.terms.specs.Places.{symbol_limit}
use Rattle.workspace.specs.Rules.{leaf_type, one_type, two_type, rest_type, Checkable, CheckableRest, Aside, Judged, BoundTypes}
use Rattle.workspace.specs.Rules.Nodes.{shaped, first_of, rest_of, several_of, leaf-check, sym-check, one_check, rest-check, branches_of_lem, if_rest-check, if_bound, two-rest-check}
use Rattle.workspace.specs.State.{types_on}
use Rattle.workspace.specs.State.Laws.{types-kept, types-length}
use Rattle.script.specs.Answers.Named.{Checked}

-- ---- what changes aside

pub aside-refl : (depth : ℕ) (ws : List ℕ) → Aside depth ws ws
aside-refl depth ws = record { same = refl; before = λ k l. refl; beyond = λ k l. refl }

pub aside_trans : {depth inner : ℕ} {ws xs left : List ℕ} → depth ≤ inner → Aside depth ws xs → Aside inner xs left → Aside depth ws left
aside_trans h a b =
    record {
      same = b.same ∙ a.same;
      before = λ k l. b.before k (omega arith) ∙ a.before k l;
      beyond = λ k l. b.beyond k l ∙ a.beyond k l;
    }

pub aside-types : {depth : ℕ} {ws left : List ℕ} → Aside depth ws left → types_on left depth ≡ types_on ws depth
aside-types {depth} {ws} {left} a = types-kept ws left depth a.before

-- ---- several operands

pub some_of : {k : ℕ} → 2 ≤ k → 1 ≤ k
some_of h = omega (arith, h)

-- a `sym` has one
pub several_no_sym : {k : ℕ} → 2 ≤ node_operands k → k ≡ kind_for sym_form → ⊥
several_no_sym {k} h e = let z = kind-operands sym_form k e in omega arith

-- ---- node n

module _ {xs ws : List ℕ} {depth n : ℕ} (q : Checkable xs ws depth n) where
  pub leaf_judged : (limit : ℕ) → (node_in xs n).kind < leaf_kinds → {r : Checked} → r ≡ leaf_type (form_of (node_in xs n).kind) n (node_in xs n) (types_on ws depth)
      → Judged (check limit (tree_in xs n) (types_on ws depth)) depth ws r ws
  leaf_judged limit z e =
      record {
        answer = e ∙ sym (leaf-check (shaped limit q.formed) (leaf_kinds_lem (node_in xs n).kind z) (types_on ws depth));
        aside = aside-refl depth ws;
      }

  module _ (h : 1 ≤ node_operands (node_in xs n).kind) where
    pub first-earlier : (node_in xs n).a < n
    first-earlier = (first_of (shaped 0 q.formed) h).earlier

    pub first_checkable : Checkable xs ws depth (node_in xs n).a
    first_checkable =
        let f = first_of (shaped 0 q.formed) h in
        record {
          formed = formed_less (suc (node_in xs n).a) (omega (arith, f.earlier)) q.formed;
          lent = q.lent;
          variables = omega (arith, q.variables, f.smaller);
          small = omega (arith, q.small, f.smaller);
        }

  pub sym_judged : (limit : ℕ) → (node_in xs n).kind ≡ kind_for sym_form → {r : Checked}
      → r ≡ verdict n limit (leaves (exec limit (tree_in xs (node_in xs n).a) (symbols 0 (types_on ws depth)) (start depth)))
      → Judged (check limit (tree_in xs n) (types_on ws depth)) depth ws r ws
  sym_judged limit z e =
      record {
        answer = e ∙ sym (sym-check (shaped limit q.formed) z (types_on ws depth) ∙ rw (types-length ws depth));
        aside = aside-refl depth ws;
      }

  -- its first operand is checked
  module _ (h : 1 ≤ node_operands (node_in xs n).kind) (limit : ℕ) {r : Checked} {left : List ℕ}
      (d : Judged (check limit (tree_in xs (node_in xs n).a) (types_on ws depth)) depth ws r left) where
    module _ {t : ℕ} (e : r ≡ Ok t) where
      first-is : check limit (tree_in xs (node_in xs n).a) (types_on ws depth) ≡ Ok t
      first-is = sym d.answer ∙ e

      pub one_judged : node_operands (node_in xs n).kind ≡ 1 → ((node_in xs n).kind ≡ kind_for sym_form → ⊥) → {s : Checked} → s ≡ one_type (form_of (node_in xs n).kind) n t
          → Judged (check limit (tree_in xs n) (types_on ws depth)) depth ws s left
      one_judged z k f =
          record {
            answer = f ∙ sym (one_check (shaped limit q.formed) z k (types_on ws depth) ∙ rw first-is);
            aside = d.aside;
          }

      pub rest_checkable : 2 ≤ node_operands (node_in xs n).kind → CheckableRest xs left depth n
      rest_checkable m =
          let f = (rest_of (shaped 0 q.formed) m).fits in
          record {
            formed = q.formed;
            several = m;
            lent = omega (arith, q.lent, d.aside.same);
            variables = omega (arith, q.variables, f);
            small = omega (arith, q.small, f);
          }

      pub rest_judged : 2 ≤ node_operands (node_in xs n).kind → {s : Checked} {left₂ : List ℕ}
          → Judged
          (rest_type (node_in xs n) limit n (tree_in xs (node_in xs n).b) (tree_in xs (node_in xs n).c) t (types_on left depth)) depth left s left₂
          → Judged (check limit (tree_in xs n) (types_on ws depth)) depth ws s left₂
      rest_judged m j =
          record {
            answer = j.answer ∙ rw (aside-types d.aside) (sym (rest-check (shaped limit q.formed) m (types_on ws depth) ∙ rw first-is));
            aside = aside_trans (omega arith) d.aside j.aside;
          }

    -- it is refused
    pub first-refused : {x : Refusal} → r ≡ Err x → ((node_in xs n).kind ≡ kind_for sym_form → ⊥)
        → Judged (check limit (tree_in xs n) (types_on ws depth)) depth ws (Err x) left
    first-refused {x} e k = record { answer = sym (go (eqb (node_operands (node_in xs n).kind) 1) refl); aside = d.aside }
      where
        here : check limit (tree_in xs (node_in xs n).a) (types_on ws depth) ≡ Err x
        here = sym d.answer ∙ e

        go : (b : Bool) → eqb (node_operands (node_in xs n).kind) 1 ≡ b → check limit (tree_in xs n) (types_on ws depth) ≡ Err x
        go true p = one_check (shaped limit q.formed) (eqb-true _ 1 p) k (types_on ws depth) ∙ rw here
        go false p =
            rest-check (shaped limit q.formed) (let z = eqb-false (node_operands (node_in xs n).kind) 1 p in omega arith) (types_on ws depth) ∙ rw here

-- ---- what is left of node n

module _ {xs ws : List ℕ} {depth n : ℕ} (q : CheckableRest xs ws depth n) where
  pub bind-room : depth < symbol_limit
  bind-room = let f = (rest_of (shaped 0 q.formed) q.several).second_fits in omega (arith, f, q.variables)

  pub second-earlier : (node_in xs n).b < n
  second-earlier = (rest_of (shaped 0 q.formed) q.several).earlier

  module _ {t : ℕ} {ws₁ : List ℕ} {inner : ℕ} (b : BoundTypes (node_in xs n) depth t ws inner ws₁) where
    pub second_checkable : Checkable xs ws₁ inner (node_in xs n).b
    second_checkable =
        let f = rest_of (shaped 0 q.formed) q.several in
        record {
          formed = formed_less (suc (node_in xs n).b) (omega (arith, f.earlier)) q.formed;
          lent = omega (arith, q.lent, b.aside.same);
          variables = omega (arith, q.variables, f.second_fits, b.most);
          small = omega (arith, q.small, f.second_fits);
        }

    module _ (limit : ℕ) {r : Checked} {left : List ℕ} (d : Judged (check limit (tree_in xs (node_in xs n).b) (types_on ws₁ inner)) inner ws₁ r left) where
      abbrev rest : Checked
      rest = rest_type (node_in xs n) limit n (tree_in xs (node_in xs n).b) (tree_in xs (node_in xs n).c) t (types_on ws depth)

      second-aside : Aside depth ws left
      second-aside = aside_trans b.least b.aside d.aside

      second_is : {c : Checked} → r ≡ c → check limit (tree_in xs (node_in xs n).b) (bound_on (node_in xs n) t (types_on ws depth)) ≡ c
      second_is e = rw (sym b.types) (sym d.answer ∙ e)

      -- an `if`
      module _ (h : (node_in xs n).kind ≡ kind_for if_form) where
        pub third_earlier : (node_in xs n).c < n
        third_earlier = (branches_of_lem (several_of (shaped 0 q.formed) q.several) h).earlier

        pub third_checkable : Checkable xs left depth (node_in xs n).c
        third_checkable =
            let f = branches_of_lem (several_of (shaped 0 q.formed) q.several) h in
            record {
              formed = formed_less (suc (node_in xs n).c) (omega (arith, f.earlier)) q.formed;
              lent = omega (arith, q.lent, second-aside.same);
              variables = omega (arith, q.variables, f.fits);
              small = omega (arith, q.small, f.fits);
            }

        rest_if : {c : Checked} → r ≡ c → rest ≡ and_then c λ u. and_then (check limit (tree_in xs (node_in xs n).c) (types_on ws depth)) (if_type n t u)
        rest_if e =
            if_rest-check (node_in xs n) h limit n (tree_in xs (node_in xs n).b) (tree_in xs (node_in xs n).c) t (types_on ws depth)
            ∙ ap (λ (c : Checked). and_then c λ u. and_then (check limit (tree_in xs (node_in xs n).c) (types_on ws depth)) (if_type n t u))
            (ap (check limit (tree_in xs (node_in xs n).b)) (sym (if_bound (node_in xs n) h t (types_on ws depth))) ∙ second_is e)

        module _ {u : ℕ} (e : r ≡ Ok u) {s : Checked} {left₂ : List ℕ}
            (k : Judged (check limit (tree_in xs (node_in xs n).c) (types_on left depth)) depth left s left₂) where
          third_is : {c : Checked} → s ≡ c → check limit (tree_in xs (node_in xs n).c) (types_on ws depth) ≡ c
          third_is f = rw (sym (aside-types second-aside)) (sym k.answer ∙ f)

          pub if_judged : {v : ℕ} → s ≡ Ok v → {w : Checked} → w ≡ if_type n t u v → Judged rest depth ws w left₂
          if_judged f g =
              record {
                answer = g ∙ sym (rest_if e ∙ rw (third_is f));
                aside = aside_trans (omega arith) second-aside k.aside;
              }

          pub third_refused : {x : Refusal} → s ≡ Err x → Judged rest depth ws (Err x) left₂
          third_refused f =
              record {
                answer = sym (rest_if e ∙ rw (third_is f));
                aside = aside_trans (omega arith) second-aside k.aside;
              }

      -- another form
      pub two_judged : ((node_in xs n).kind ≡ kind_for if_form → ⊥) → {u : ℕ} → r ≡ Ok u → {w : Checked} → w ≡ two_type (form_of (node_in xs n).kind) n t u
          → Judged rest depth ws w left
      two_judged h e g =
          record {
            answer =
                g ∙ sym (two-rest-check h (several_of (shaped limit q.formed) q.several) (tree_in xs (node_in xs n).b) (tree_in xs (node_in xs n).c) t (types_on ws depth)
                ∙ rw (second_is e));
            aside = second-aside;
          }

      pub second-refused : {x : Refusal} → r ≡ Err x → Judged rest depth ws (Err x) left
      second-refused {x} e = record { answer = sym (go (eqb (node_in xs n).kind (kind_for if_form)) refl); aside = second-aside }
        where
          go : (b : Bool) → eqb (node_in xs n).kind (kind_for if_form) ≡ b → rest ≡ Err x
          go true p = rest_if (eqb-true _ (kind_for if_form) p) e
          go false p =
              two-rest-check (eqb-false _ (kind_for if_form) p) (several_of (shaped limit q.formed) q.several) (tree_in xs (node_in xs n).b) (tree_in xs (node_in xs n).c) t (types_on ws depth)
              ∙ rw (second_is e)
