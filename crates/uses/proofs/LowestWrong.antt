-- After the walk over at most 128 nodes the field `wrong` is the lowest node other than the last that is not used exactly once: what test 5 asks for, for
-- every table that passes 4 and for every other. Assumes nothing.
use Rattle.std.specs.Prelude.{Bool, true, List, ◌≡◌, ltb, eqb, length, None, Some}
use Rattle.std.proofs.Math.Bool.{false, not}
use Rattle.std.proofs.Math.Path.{refl, ap}
use Rattle.std.proofs.Common.{sym, ◌∙◌}
use Prim.Native.Nat.{ℕ, zero, suc, ◌+◌, ◌-◌, ◌≤◌, ◌<◌, pred}
use native.Mathlib.Omega.{arith}
use Rattle.std.specs.Int.Count.{count_trailing_zeros}
use borrow.Author.Tests.{ltb-true, ltb-false, eqb-true, eqb-false, eq-eqb, ne_eqb}
use Rattle.script.specs.Limits.{node_limit}
use Rattle.script.specs.Table.{uses}
use Rattle.script.specs.Tests.{pick, lowest}
use Rattle.script.specs.Tests.Bits.{bit}
use Rattle.script.specs.Tests.Laws.{some-lowest, none-lowest}
use Rattle.script.specs.declared.Node.{Node}
use Rattle.uses.specs.Walk.{half, first_unused, lowest_wrong, place_found, walk}
use Rattle.uses.specs.Walk.Laws.{unused_at, Says}
use Rattle.uses.proofs.Laws.{unused-low, unused-high, says-walk, answer-walk}
use Rattle.uses.specs.Words.{First, first_bit}
use Rattle.uses.specs.declared.Uses.{Uses}

-- the lowest number below j, where t is the first below n
first-lowest : (p : ℕ → Bool) (n t j : ℕ) → First p n t → j ≤ n → pick (ltb t j) (Some t) None ≡ place_found (lowest p j)
first-lowest p n t j f h = go (ltb t j) refl
  where
    go : (b : Bool) → ltb t j ≡ b → pick b (Some t) None ≡ place_found (lowest p j)
    go true e =
        let l = ltb-true t j e in
        rw (some-lowest p j t (record { below = l; holds = f.at (omega arith); first = f.before })) refl
    go false e = let l = ltb-false t j e in rw (none-lowest p j (λ k b. f.before k (omega arith))) refl

first-unused : (u : Uses) → First (unused_at u) node_limit (first_unused u)
first-unused u = go (first_bit half u.low) (first_bit half u.high) (ltb (count_trailing_zeros half u.low) half) refl
  where
    l : ℕ
    l = count_trailing_zeros half u.low

    r : ℕ
    r = count_trailing_zeros half u.high

    before : First (bit u.low) half l → half ≤ l → First (bit u.high) half r → (j : ℕ) → j < half + r → (t : Bool) → ltb j half ≡ t → pick t (bit u.low j) (bit u.high (j - half)) ≡ false
    before f h g j b true e = let q = ltb-true j half e in f.before j (omega arith)
    before f h g j b false e = let q = ltb-false j half e in g.before (j - half) (omega arith)

    go : First (bit u.low) half l → First (bit u.high) half r → (t : Bool) → ltb l half ≡ t → First (unused_at u) node_limit (pick t l (half + r))
    go f g true e =
        let h = ltb-true l half e in
        record { within = omega arith; before = λ j b. unused-low u j (omega arith) ∙ f.before j b; at = λ b. unused-low u l h ∙ f.at h }
    go f g false e =
        let h = ltb-false l half e in
        let w = g.within in
        let q : half + r - half ≡ r = omega arith in
        record { within = omega arith; before = λ j b. before f h g j b (ltb j half) refl; at = λ b. unused-high u (half + r) (omega arith) ∙ rw q (g.at (omega arith)) }

-- not used exactly once, by what the state says
module _ (times : ℕ → ℕ) (u : Uses) (s : Says times u) where
  first-wrong : First (λ i. not (eqb (times i) 1)) node_limit (lowest_wrong u)
  unfolding lowest_wrong
  first-wrong = go (first-unused u) (ltb (first_unused u) u.again) refl
    where
      one : (i : ℕ) → i < node_limit → unused_at u i ≡ false → times i ≤ 1 → not (eqb (times i) 1) ≡ false
      one i h e m = let n = eqb-false (times i) 0 (sym (s.unused i h) ∙ e) in ap not (eq-eqb (times i) 1 (exactly (times i) n m))
        where
          exactly : (n : ℕ) → (n ≡ 0 → ⊥) → n ≤ 1 → n ≡ 1
          exactly zero f m = absurd (f refl)
          exactly (suc n) f m = omega arith

      go : First (unused_at u) node_limit (first_unused u) → (t : Bool) → ltb (first_unused u) u.again ≡ t → First (λ i. not (eqb (times i) 1)) node_limit (pick t (first_unused u) u.again)
      go f true e =
          let l = ltb-true (first_unused u) u.again e in
          let w = f.within in
          record {
            within = w;
            before = λ j b. one j (omega arith) (f.before j b) (s.once j (omega arith));
            at = λ b. let z = eqb-true (times (first_unused u)) 0 (sym (s.unused (first_unused u) b) ∙ f.at b) in ap not (ne_eqb (times (first_unused u)) 1 (λ q. omega arith));
          }
      go f false e =
          let l = ltb-false (first_unused u) u.again e in
          let w = f.within in
          record {
            within = omega arith;
            before = λ j b. one j (omega arith) (f.before j (omega arith)) (s.once j b);
            at = λ b. let z = s.again b in ap not (ne_eqb (times u.again) 1 (λ q. omega arith));
          }

pub walk-lowest : (ns : List Node) → length ns ≤ node_limit → (walk ns).wrong ≡ place_found (lowest (λ i. not (eqb (uses ns i) 1)) (pred (length ns)))
walk-lowest ns h =
    answer-walk ns
    ∙ first-lowest (λ i. not (eqb (uses ns i) 1)) node_limit (lowest_wrong (walk ns).uses) (pred (length ns)) (first-wrong (uses ns) (walk ns).uses (says-walk ns)) (omega arith)
