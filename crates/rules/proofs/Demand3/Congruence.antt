-- Numbers that are equal modulo another one, over any modulus. Assumes nothing.
use Rattle.std.specs.Prelude.{◌≡◌, refl, ℕ, ◌+◌, ◌*◌, ◌-◌, ◌/◌, ◌%◌, ◌<◌}
use Rattle.std.proofs.Common.{sym, ap, ◌∙◌, add-mul, mul_assoc, mod-lt, add-zero, zero-add, sub-add_cancel, le_of_lt, arith}
use Rattle.std.proofs.Math.Nat.{add-mod, mod-mod, mod-add-div, add-mul-mod_self_left, mod_self, zero-mod}
use Rattle.rules.specs.Demand3.Congruence.{Same}

module _ {m : ℕ} where
  pub same_refl : (a : ℕ) → Same m a a
  same_refl a = record { same = refl }

  pub same_eq : {a b : ℕ} → a ≡ b → Same m a b
  same_eq e = record { same = ap (λ (x : ℕ). x % m) e }

  pub same-sym : {a b : ℕ} → Same m a b → Same m b a
  same-sym p = record { same = sym p.same }

  pub same_trans : {a b c : ℕ} → Same m a b → Same m b c → Same m a c
  same_trans p q = record { same = p.same ∙ q.same }

  pub same_mod : (a : ℕ) → Same m (a % m) a
  same_mod a = record { same = mod-mod a m }

  pub same-plus : {a b c d : ℕ} → Same m a b → Same m c d → Same m (a + c) (b + d)
  same-plus {a} {b} {c} {d} p q =
      record { same = add-mod a c m ∙ ap (λ (x : ℕ). (x + c % m) % m) p.same ∙ ap (λ (x : ℕ). (b % m + x) % m) q.same ∙ sym (add-mod b d m) }

  mod_times : (a w : ℕ) → Same m (a * w) (a % m * w)
  mod_times a w = record { same = ap (λ (x : ℕ). x % m) parts ∙ add-mul-mod_self_left (a % m * w) m (a / m * w) }
    where
      parts : a * w ≡ a % m * w + m * (a / m * w)
      parts = ap (λ (x : ℕ). x * w) (sym (mod-add-div a m)) ∙ add-mul (a % m) (m * (a / m)) w ∙ ap (λ (x : ℕ). a % m * w + x) (mul_assoc m (a / m) w)

  pub same_times : {a b : ℕ} (w : ℕ) → Same m a b → Same m (a * w) (b * w)
  same_times {a} {b} w p =
      same_trans (mod_times a w) (same_trans (same_eq (ap (λ (x : ℕ). x * w) p.same)) (same-sym (mod_times b w)))

  -- a number and its opposite cancel
  pub same-opposite : (a : ℕ) → 0 < m → Same m ((m - a % m) % m + a) 0
  same-opposite a h = same_trans (same-plus (same_mod (m - a % m)) (same-sym (same_mod a))) (record { same = ap (λ (x : ℕ). x % m) whole ∙ mod_self m ∙ sym (zero-mod m) })
    where
      whole : m - a % m + a % m ≡ m
      whole = sub-add_cancel (le_of_lt (mod-lt a h))

  -- what differs from a number by nothing is that number
  pub same-difference : {d p q : ℕ} (n : ℕ) → Same m d (p + n) → Same m (n + q) 0 → Same m d 0 → Same m p q
  same-difference {d} {p} {q} n e o z =
      same_trans (same_eq (sym (add-zero p))) (same_trans (same-plus (same_refl p) (same-sym o)) (same_trans (same_eq regroup) (same_trans (same-plus (same_trans (same-sym e) z) (same_refl q)) (same_eq (omega arith)))))
    where
      regroup : p + (n + q) ≡ p + n + q
      regroup = omega arith

  pub difference-same : {d p q : ℕ} (n : ℕ) → Same m d (p + n) → Same m (n + q) 0 → Same m p q → Same m d 0
  difference-same {d} {p} {q} n e o s = same_trans e (same_trans (same-plus s (same_refl n)) (same_trans (same_eq (omega arith)) o))

  -- of two numbers that cancel, one is nothing where the other is
  pub right_of_sum : {n q : ℕ} → Same m (n + q) 0 → Same m n 0 → Same m q 0
  right_of_sum {n} {q} o z = same_trans (same_eq (sym (zero-add q))) (same_trans (same-plus (same-sym z) (same_refl q)) o)

  pub left_of_sum : {n q : ℕ} → Same m (n + q) 0 → Same m q 0 → Same m n 0
  left_of_sum {n} {q} o z = same_trans (same_eq (sym (add-zero n))) (same_trans (same-plus (same_refl n) (same-sym z)) o)
