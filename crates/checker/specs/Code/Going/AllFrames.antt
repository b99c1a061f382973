-- A value that goes up frame by frame: what holds at each turn, and how it ends. Assumes nothing.
use Rattle.std.specs.Prelude.{List, ◌∷◌, ◌≡◌, refl, ℕ, ◌≤◌, length, Ok, Err}
use Rattle.std.proofs.Common.{◌∙◌, arith}
use Rattle.script.specs.declared.Refusal.{Refusal}
use Rattle.rules.specs.Paths.{Leaf, stopped}
use Rattle.rules.specs.Symbolic.{Symbolic}
use Rattle.workspace.specs.Frames.{frame_in, top_in}
use Rattle.checker.specs.Code.Going.{Moved, Entering, Returning, Returnable, Came, came-value, came-operand, came-stopped, Backs, Climbs}
use Rattle.checker.specs.declared.steps.Move.TheVariants.{Value, Operand}

-- ---- what came

module _ {limit : ℕ} {table : List ℕ} {bound base : ℕ} {beneath : List Symbolic} {left gs : List ℕ} {ls : List Leaf} where
  pub came-returning : {r : Moved} {u s : ℕ} → Came limit table bound base beneath left gs ls r → r ≡ Ok (Value u s) → Returning limit table bound base beneath left gs u s ls
  came-returning {u = u} {s = s} (came-value {t = t} {q = q} x) e =
      let a : u ≡ t = cc in
      let b : s ≡ q = cc in
      rw (a, b) x
  came-returning (came-operand x) e = cc
  came-returning (came-stopped rest i) e = cc

  pub came-entering : {r : Moved} {m : ℕ} → Came limit table bound base beneath left gs ls r → r ≡ Ok (Operand m) → Entering limit table bound base beneath left gs m ls
  came-entering (came-value x) e = cc
  came-entering {m = m} (came-operand {m = k} x) e = let a : m ≡ k = cc in rw a x
  came-entering (came-stopped rest i) e = cc

  pub came-none : {r : Moved} {x : Refusal} → Came limit table bound base beneath left gs ls r → r ≡ Err x → (rest : List Leaf) × (ls ≡ stopped x ∷ rest)
  came-none (came-value x) e = cc
  came-none (came-operand x) e = cc
  came-none {x = x} (came-stopped {x = y} rest i) e = let a : x ≡ y = cc in (rest, rw a i)

-- ---- the turns

-- whatever is to come at the start is to come now
pub record Climbing (table : List ℕ) (t q : ℕ) (ws fs left gs : List ℕ) (u s : ℕ) : Type 0 where
  pub same : length left ≡ length ws
  pub framed : length gs ≡ length fs
  pub tops : top_in fs ≤ top_in gs
  pub can : Returnable table left gs u s
  pub goes : (limit bound base : ℕ) (beneath : List Symbolic) (ls : List Leaf) → Returning limit table bound base beneath ws fs t q ls
      → Returning limit table bound base beneath left gs u s ls

pub climbing_start : {table ws fs : List ℕ} {t q : ℕ} → Returnable table ws fs t q → Climbing table t q ws fs ws fs t q
climbing_start x = record { same = refl; framed = refl; tops = omega arith; can = x; goes = λ limit bound base beneath ls r. r }

module _ {table ws fs left gs : List ℕ} {t q u s : ℕ} (c : Climbing table t q ws fs left gs u s) where
  pub climbing_end : frame_in gs ≡ 0 → Climbs table t q ws fs (Ok (Value u s)) left gs
  climbing_end z =
      record {
        came = λ limit bound base beneath ls r. came-value (c.goes limit bound base beneath ls r);
        ended = λ e. z;
        rises = λ e. cc;
      }

  module _ {r : Moved} {left₂ hs : List ℕ} (b : Backs table u s left gs r left₂ hs) where
    came-now : (limit bound base : ℕ) (beneath : List Symbolic) (ls : List Leaf) → Returning limit table bound base beneath ws fs t q ls
        → Came limit table bound base beneath left₂ hs ls r
    came-now limit bound base beneath ls x = b.came limit bound base beneath ls (c.goes limit bound base beneath ls x)

    pub climbing_on : {v w : ℕ} → r ≡ Ok (Value v w) → length left₂ ≡ length left → length hs ≡ length gs → Climbing table t q ws fs left₂ hs v w
    climbing_on e k l =
        let x = c.can in
        record {
          same = k ∙ c.same;
          framed = l ∙ c.framed;
          tops = omega (arith, c.tops, b.tops);
          can = record {
            limit = x.limit;
            bound = x.bound;
            base = x.base;
            beneath = x.beneath;
            to_come = x.to_come;
            returning = came-returning (b.came x.limit x.bound x.base x.beneath x.to_come x.returning) e;
          };
          goes = λ limit bound base beneath ls y. came-returning (came-now limit bound base beneath ls y) e;
        }

    pub climbing_operand : {m : ℕ} → r ≡ Ok (Operand m) → Climbs table t q ws fs (Ok (Operand m)) left₂ hs
    climbing_operand e =
        record {
          came = λ limit bound base beneath ls y. came-operand (came-entering (came-now limit bound base beneath ls y) e);
          ended = λ i. cc;
          rises = λ i. omega (arith, c.tops, b.rises e);
        }

    pub climbing_stopped : {x : Refusal} → r ≡ Err x → Climbs table t q ws fs (Err x) left₂ hs
    climbing_stopped e =
        record {
          came = λ limit bound base beneath ls y. let n = came-none (came-now limit bound base beneath ls y) e in came-stopped n.0 n.1;
          ended = λ i. cc;
          rises = λ i. cc;
        }

-- ---- moves that are the same

same-type : {t q u s : ℕ} → ◌≡◌ {A = Moved} (Ok (Value t q)) (Ok (Value u s)) → t ≡ u
same-type e = cc

same_place : {t q u s : ℕ} → ◌≡◌ {A = Moved} (Ok (Value t q)) (Ok (Value u s)) → q ≡ s
same_place e = cc

same_operand : {m k : ℕ} → ◌≡◌ {A = Moved} (Ok (Operand m)) (Ok (Operand k)) → m ≡ k
same_operand e = cc

same_stop : {x y : Refusal} → ◌≡◌ {A = Moved} (Err x) (Err y) → x ≡ y
same_stop e = cc

pub value-not-operand : {t q m : ℕ} → ◌≡◌ {A = Moved} (Ok (Value t q)) (Ok (Operand m)) → ⊥
value-not-operand e = let z : ◌≡◌ {A = ℕ} 0 1 = cc in omega arith

pub stopped-not-operand : {x : Refusal} {m : ℕ} → ◌≡◌ {A = Moved} (Err x) (Ok (Operand m)) → ⊥
stopped-not-operand e = let z : ◌≡◌ {A = ℕ} 0 1 = cc in omega arith

pub stopped-not-value : {x : Refusal} {t q : ℕ} → ◌≡◌ {A = Moved} (Err x) (Ok (Value t q)) → ⊥
stopped-not-value e = let z : ◌≡◌ {A = ℕ} 0 1 = cc in omega arith
