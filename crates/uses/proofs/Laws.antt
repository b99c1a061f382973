-- What the state of the walk says of the uses so far, use by use and node by node. Assumes nothing.
use Rattle.std.specs.Prelude.{Bool, true, false, List, [], ◌∷◌, ◌++◌, ◌≡◌, ℕ, zero, suc, ◌+◌, ◌-◌, ◌^◌, ◌≤◌, ◌<◌, pred, ltb, eqb, length, take}
use Rattle.std.proofs.Math.Path.{refl}
use Rattle.std.proofs.Common.{sym, ap, ◌∙◌, add-one, length-take, take-suc}
use Rattle.std.proofs.Math.Decide.{ℕ_discrete}
use native.Mathlib.Omega.{arith}
use borrow.Author.Tests.{ltb-true, ltb-false, eqb-true, eqb-false, lt-ltb, le-ltb, eq-eqb, ne_eqb}
use Rattle.script.specs.Code.TableTests.{Lent}
use Rattle.script.specs.Flat.{nodes_in}
use Rattle.script.specs.Flat.Laws.{nodes_in-holds}
use Rattle.script.specs.Limits.{node_limit}
use Rattle.script.specs.Rows.{node_operands}
use Rattle.script.specs.Rows.Laws.{node-operands-most}
use Rattle.script.specs.Table.{unused, node_at, fields, operands, times_in, uses}
use Rattle.script.specs.Table.Uses.{operands-take}
use Rattle.script.specs.Tests.{pick}
use Rattle.script.specs.Tests.Bits.{bit}
use Rattle.script.specs.declared.Node.{Node}
use Rattle.uses.specs.Walk.{half, uses_of, used_again, with_use, with_uses, lowest_wrong, wrong_before, start, step, walk_from, walk}
use Rattle.uses.specs.Words.{bit_gone, bit_kept, bit-ones}
use Rattle.uses.specs.declared.State.{State}
use Rattle.uses.specs.declared.Uses.{Uses}
use Rattle.uses.specs.Walk.Laws.{Says, one_more, unused_at}

module _ (u : Uses) (i : ℕ) where
  pub unused-low : i < half → unused_at u i ≡ bit u.low i
  unused-low h = rw (lt-ltb i half h) refl

  pub unused-high : half ≤ i → unused_at u i ≡ bit u.high (i - half)
  unused-high h = rw (le-ltb i half h) refl

says_same : (f g : ℕ → ℕ) (u : Uses) → Says f u → ((i : ℕ) → f i ≡ g i) → Says g u
says_same f g u s e =
    record {
      most = s.most;
      unused = λ i h. s.unused i h ∙ ap (λ (x : ℕ). eqb x 0) (e i);
      once = λ i h. let p = s.once i h in let q = e i in omega arith;
      again = λ h. let p = s.again h in let q = e u.again in omega arith;
    }

module _ (times : ℕ → ℕ) (o : ℕ) where
  one_here : one_more times o o ≡ suc (times o)
  one_here = rw (eq-eqb o o refl) (omega arith)

  used-here : eqb (one_more times o o) 0 ≡ false
  used-here = let h = one_here in ne_eqb (one_more times o o) 0 (λ q. omega arith)

  one_elsewhere : (i : ℕ) → (o ≡ i → ⊥) → one_more times o i ≡ times i
  one_elsewhere i d = rw (ne_eqb o i d) (omega arith)

  one_most : (i : ℕ) → times i ≤ one_more times o i
  one_most i = omega arith

module _ (times : ℕ → ℕ) (u : Uses) (s : Says times u) (o : ℕ) where
  -- what is no node
  says_no_node : node_limit ≤ o → Says (one_more times o) u
  says_no_node h =
      let m = s.most in
      let e : (i : ℕ) → i < node_limit → one_more times o i ≡ times i = λ i l. one_elsewhere times o i (λ q. omega arith) in
      record {
        most = m;
        unused = λ i l. s.unused i l ∙ ap (λ (x : ℕ). eqb x 0) (sym (e i l));
        once = λ i l. let p = s.once i l in let q = e i (omega arith) in omega arith;
        again = λ l. let p = s.again l in let q = e u.again l in omega arith;
      }

  -- a node that was unused
  module _ (h : o < node_limit) (was : unused_at u o ≡ true) where
    was_none : times o ≡ 0
    was_none = eqb-true (times o) 0 (sym (s.unused o h) ∙ was)

    says-once : (v : Uses) → v.again ≡ u.again → unused_at v o ≡ false → ((i : ℕ) → (o ≡ i → ⊥) → unused_at v i ≡ unused_at u i) → Says (one_more times o) v
    says-once v e gone kept = let m = s.most in record { most = omega arith; unused = λ i l. bits i l (ℕ_discrete o i); once = λ i l. few i l (ℕ_discrete o i); again = many }
      where
        bits : (i : ℕ) → i < node_limit → Dec (o ≡ i) → unused_at v i ≡ eqb (one_more times o i) 0
        bits i l (yes q) = rw (← q) (gone ∙ sym (used-here times o))
        bits i l (no d) = kept i d ∙ s.unused i l ∙ ap (λ (x : ℕ). eqb x 0) (sym (one_elsewhere times o i d))

        few : (i : ℕ) → i < v.again → Dec (o ≡ i) → one_more times o i ≤ 1
        few i l (yes q) = let z = was_none in let p = one_here times o in rw (← q) (omega arith)
        few i l (no d) = let p = s.once i (omega arith) in let q = one_elsewhere times o i d in omega arith

        many : v.again < node_limit → 1 < one_more times o v.again
        many l = rw e (let p = s.again (omega arith) in let q = one_most times o u.again in omega arith)

  -- a node that was used
  module _ (h : o < node_limit) (was : unused_at u o ≡ false) where
    was_some : 0 < times o
    was_some = let n = eqb-false (times o) 0 (sym (s.unused o h) ∙ was) in go (times o) n
      where
        go : (n : ℕ) → (n ≡ 0 → ⊥) → 0 < n
        go zero f = absurd (f refl)
        go (suc n) f = omega arith

    says-again : Says (one_more times o) (used_again u o)
    says-again = go (ltb o u.again) refl
      where
        bits : (i : ℕ) → i < node_limit → Dec (o ≡ i) → unused_at u i ≡ eqb (one_more times o i) 0
        bits i l (yes q) = rw (← q) (was ∙ sym (used-here times o))
        bits i l (no d) = s.unused i l ∙ ap (λ (x : ℕ). eqb x 0) (sym (one_elsewhere times o i d))

        go : (t : Bool) → ltb o u.again ≡ t → Says (one_more times o) (pick t (uses_of u.low u.high o u.seen) u)
        go true e =
            let b = ltb-true o u.again e in
            record {
              most = omega arith;
              unused = λ i l. bits i l (ℕ_discrete o i);
              once = λ i l. let p = s.once i (omega arith) in let q = one_elsewhere times o i (λ q. omega arith) in omega arith;
              again = λ l. let p = was_some in let q = one_here times o in omega arith;
            }
        go false e =
            let b = ltb-false o u.again e in
            record {
              most = s.most;
              unused = λ i l. bits i l (ℕ_discrete o i);
              once = λ i l. let p = s.once i l in let q = one_elsewhere times o i (λ q. omega arith) in omega arith;
              again = λ l. let p = s.again l in let q = one_most times o u.again in omega arith;
            }

-- the words with one bit less
module _ (u : Uses) (o : ℕ) where
  gone_low : o < half → bit u.low o ≡ true → unused_at (uses_of (u.low - 2 ^ o) u.high u.again u.seen) o ≡ false
  gone_low h b = unused-low (uses_of (u.low - 2 ^ o) u.high u.again u.seen) o h ∙ bit_gone u.low o b

  kept_low : o < half → bit u.low o ≡ true → (i : ℕ) → (o ≡ i → ⊥) → unused_at (uses_of (u.low - 2 ^ o) u.high u.again u.seen) i ≡ unused_at u i
  kept_low h b i d = go (ltb i half)
    where
      go : (t : Bool) → pick t (bit (u.low - 2 ^ o) i) (bit u.high (i - half)) ≡ pick t (bit u.low i) (bit u.high (i - half))
      go true = bit_kept u.low o i b d
      go false = refl

  gone_high : half ≤ o → bit u.high (o - half) ≡ true → unused_at (uses_of u.low (u.high - 2 ^ (o - half)) u.again u.seen) o ≡ false
  gone_high h b = unused-high (uses_of u.low (u.high - 2 ^ (o - half)) u.again u.seen) o h ∙ bit_gone u.high (o - half) b

  kept_high : half ≤ o → bit u.high (o - half) ≡ true → (i : ℕ) → (o ≡ i → ⊥) → unused_at (uses_of u.low (u.high - 2 ^ (o - half)) u.again u.seen) i ≡ unused_at u i
  kept_high h b i d = go (ltb i half) refl
    where
      go : (t : Bool) → ltb i half ≡ t → pick t (bit u.low i) (bit (u.high - 2 ^ (o - half)) (i - half)) ≡ pick t (bit u.low i) (bit u.high (i - half))
      go true e = refl
      go false e = let l = ltb-false i half e in bit_kept u.high (o - half) (i - half) b (λ q. d (omega arith))

pub says_use : (times : ℕ → ℕ) (u : Uses) (o : ℕ) → Says times u → Says (one_more times o) (with_use u o)
unfolding with_use
says_use times u o s = by-half (ltb o half) refl
  where
    low : o < half → (t : Bool) → bit u.low o ≡ t → Says (one_more times o) (pick t (uses_of (u.low - 2 ^ o) u.high u.again u.seen) (used_again u o))
    low h true b = says-once times u s o (omega arith) (unused-low u o h ∙ b) (uses_of (u.low - 2 ^ o) u.high u.again u.seen) refl (gone_low u o h b) (kept_low u o h b)
    low h false b = says-again times u s o (omega arith) (unused-low u o h ∙ b)

    high : half ≤ o → o < node_limit → (t : Bool) → bit u.high (o - half) ≡ t → Says (one_more times o) (pick t (uses_of u.low (u.high - 2 ^ (o - half)) u.again u.seen) (used_again u o))
    high h l true b =
        says-once times u s o l (unused-high u o h ∙ b) (uses_of u.low (u.high - 2 ^ (o - half)) u.again u.seen) refl (gone_high u o h b) (kept_high u o h b)
    high h l false b = says-again times u s o l (unused-high u o h ∙ b)

    by-limit : half ≤ o → (t : Bool) → ltb o node_limit ≡ t → Says (one_more times o) (pick t (pick (bit u.high (o - half)) (uses_of u.low (u.high - 2 ^ (o - half)) u.again u.seen) (used_again u o)) u)
    by-limit h true e = high h (ltb-true o node_limit e) (bit u.high (o - half)) refl
    by-limit h false e = says_no_node times u s o (ltb-false o node_limit e)

    by-half : (t : Bool) → ltb o half ≡ t → Says (one_more times o) (pick t (pick (bit u.low o) (uses_of (u.low - 2 ^ o) u.high u.again u.seen) (used_again u o)) (pick (ltb o node_limit) (pick (bit u.high (o - half)) (uses_of u.low (u.high - 2 ^ (o - half)) u.again u.seen) (used_again u o)) u))
    by-half true e = low (ltb-true o half e) (bit u.low o) refl
    by-half false e = by-limit (ltb-false o half e) (ltb o node_limit) refl

-- ---- what the code makes

-- one use more, case by case
module _ (u : Uses) (o : ℕ) where
  pub low-once : o < half → bit u.low o ≡ true → uses_of (u.low - 2 ^ o) u.high u.again u.seen ≡ with_use u o
  unfolding with_use
  low-once h b = rw (lt-ltb o half h, b) refl

  pub low_again : o < half → bit u.low o ≡ false → used_again u o ≡ with_use u o
  unfolding with_use
  low_again h b = rw (lt-ltb o half h, b) refl

  module _ (h : half ≤ o) where
    pub high-once : o < node_limit → bit u.high (o - half) ≡ true → uses_of u.low (u.high - 2 ^ (o - half)) u.again u.seen ≡ with_use u o
    unfolding with_use
    high-once l b = rw (le-ltb o half h, lt-ltb o node_limit l, b) refl

    pub high-again : o < node_limit → bit u.high (o - half) ≡ false → used_again u o ≡ with_use u o
    unfolding with_use
    high-again l b = rw (le-ltb o half h, lt-ltb o node_limit l, b) refl

    pub no_node : node_limit ≤ o → u ≡ with_use u o
    unfolding with_use
    no_node l = rw (le-ltb o half h, le-ltb o node_limit l) refl

-- the uses by a node, by the count of its operands
module _ (u : Uses) (n : Node) (m : ℕ) (e : m ≡ node_operands n.kind) where
  by_count : with_uses u (take m (fields n)) ≡ with_uses u (operands n)
  by_count = rw (operands-take n, e) refl

  pub no_operand : m ≡ 0 → u ≡ with_uses u (operands n)
  unfolding with_uses
  no_operand z = rw z at by_count

  pub one_operand : {v : Uses} → m ≡ 1 → v ≡ with_use u n.a → v ≡ with_uses u (operands n)
  unfolding with_uses
  one_operand z p = p ∙ rw z at by_count

  pub two_operands : {v w : Uses} → m ≡ 2 → v ≡ with_use u n.a → w ≡ with_use v n.b → w ≡ with_uses u (operands n)
  unfolding with_uses
  two_operands z p q = q ∙ rw p (rw z at by_count)

  pub three_operands : {v w x : Uses} → (m ≡ 0 → ⊥) → (m ≡ 1 → ⊥) → (m ≡ 2 → ⊥) → v ≡ with_use u n.a → w ≡ with_use v n.b → x ≡ with_use w n.c → x ≡ with_uses u (operands n)
  unfolding with_uses
  three_operands a b c p q r =
      let k = node-operands-most n.kind in
      let z : m ≡ 3 = omega arith in
      r ∙ rw (q, p) (rw z at by_count)

-- ---- node by node

says-uses : (times : ℕ → ℕ) (u : Uses) (os : List ℕ) → Says times u → Says (λ i. times_in i os + times i) (with_uses u os)
unfolding with_uses times_in
says-uses times u [] s = says_same times (λ i. 0 + times i) u s (λ i. omega arith)
says-uses times u (o ∷ os) s =
    says_same (λ i. times_in i os + one_more times o i) (λ i. pick (eqb o i) 1 0 + times_in i os + times i) (with_uses (with_use u o) os)
    (says-uses (one_more times o) (with_use u o) os (says_use times u o s)) (λ i. omega arith)

says-step : (times : ℕ → ℕ) (s : State) (n : Node) → Says times s.uses → Says (λ i. times_in i (operands n) + times i) (step s n).uses
unfolding step
says-step times s n h =
    let a = says-uses times s.uses (operands n) h in
    record { most = a.most; unused = a.unused; once = a.once; again = a.again }

says-nodes : (times : ℕ → ℕ) (s : State) (ns : List Node) → Says times s.uses → Says (λ i. uses ns i + times i) (walk_from s ns).uses
unfolding walk_from step uses
says-nodes times s [] h = says_same times (λ i. 0 + times i) s.uses h (λ i. omega arith)
says-nodes times s (n ∷ ns) h =
    says_same (λ i. uses ns i + (times_in i (operands n) + times i)) (λ i. times_in i (operands n) + uses ns i + times i) (walk_from (step s n) ns).uses
    (says-nodes (λ i. times_in i (operands n) + times i) (step s n) ns (says-step times s n h)) (λ i. omega arith)

says-start : Says (λ i. 0) start.uses
says-start =
    record {
      most = omega arith;
      unused = λ i h. all-unused i h (ltb i half) refl;
      once = λ i h. omega arith;
      again = λ h. absurd (omega arith);
    }
  where
    all-unused : (i : ℕ) → i < node_limit → (t : Bool) → ltb i half ≡ t → pick t (bit (2 ^ half - 1) i) (bit (2 ^ half - 1) (i - half)) ≡ true
    all-unused i h true e = bit-ones half i (ltb-true i half e)
    all-unused i h false e = let l = ltb-false i half e in bit-ones half (i - half) (omega arith)

-- the uses by the nodes so far
pub says-walk : (ns : List Node) → Says (uses ns) (walk ns).uses
says-walk ns = says_same (λ i. uses ns i + 0) (uses ns) (walk ns).uses (says-nodes (λ i. 0) start ns says-start) (λ i. omega arith)

-- ---- counts and answers

seen_from : (s : State) (ns : List Node) → (walk_from s ns).uses.seen ≡ s.uses.seen + length ns
unfolding walk_from step
seen_from s [] = omega arith
seen_from s (n ∷ ns) = seen_from (step s n) ns ∙ omega arith

pub seen_walk : (ns : List Node) → (walk ns).uses.seen ≡ length ns
seen_walk ns = seen_from start ns ∙ omega arith

-- the field is of the nodes before the last
answer-from : (s : State) (ns : List Node) → s.wrong ≡ wrong_before s.uses (pred s.uses.seen) → (walk_from s ns).wrong ≡ wrong_before (walk_from s ns).uses (pred (walk_from s ns).uses.seen)
unfolding walk_from step lowest_wrong
answer-from s [] e = e
answer-from s (n ∷ ns) e = answer-from (step s n) ns (let q : pred (s.uses.seen + 1) ≡ s.uses.seen = omega arith in rw q refl)

pub answer-walk : (ns : List Node) → (walk ns).wrong ≡ wrong_before (walk ns).uses (pred (length ns))
answer-walk ns = rw (← seen_walk ns) (answer-from start ns (rw (le-ltb (lowest_wrong start.uses) 0 (omega arith)) refl))

-- one node more
walk_snoc : (s : State) (ns : List Node) (n : Node) → walk_from s (ns ++ (n ∷ [])) ≡ step (walk_from s ns) n
unfolding walk_from
walk_snoc s [] n = refl
walk_snoc s (m ∷ ns) n = walk_snoc (step s m) ns n

walk_more : (ns : List Node) (i : ℕ) → i < length ns → step (walk (take i ns)) (node_at ns i) ≡ walk (take (i + 1) ns)
walk_more ns i h = rw (add-one i, take-suc ns i unused) (sym (walk_snoc start (take i ns) (node_at ns i)))

pub walk_none : start ≡ walk []
unfolding walk_from
walk_none = refl

-- the turns of the loop over a table
module _ (xs : List ℕ) (n : ℕ) (lent : Lent xs n) (i : ℕ) (s : State) where
  pub walk-fits : i < n → s ≡ walk (take i (nodes_in xs)) → s.uses.seen < node_limit
  walk-fits h e =
      let m = lent.most in
      let c = seen_walk (take i (nodes_in xs)) in
      let l = length-take i (nodes_in xs) in
      rw e (omega arith)

  -- with the node m that the code reads
  pub walk_turn : i < n → s ≡ walk (take i (nodes_in xs)) → (m : Node) (t : State) → m ≡ node_at (nodes_in xs) i → t ≡ step s m → t ≡ walk (take (i + 1) (nodes_in xs))
  walk_turn h e m t p q =
      let l = nodes_in-holds xs n lent.room in
      q ∙ rw (e, p) (walk_more (nodes_in xs) i (omega arith))

  pub walk_end : i ≤ n → n ≤ i → s ≡ walk (take i (nodes_in xs)) → s ≡ walk (take n (nodes_in xs))
  walk_end a b e = let q : i ≡ n = omega arith in rw q at e
