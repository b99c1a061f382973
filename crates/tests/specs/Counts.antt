-- The two lists of the tests 5 and 13, turn by turn: one operand more, one node more, and what they hold in the end. Assumes nothing.
use Rattle.std.specs.Prelude.{Bool, true, false, List, ◌≡◌, refl, ℕ, zero, suc, ◌+◌, ◌-◌, ◌≤◌, ◌<◌, pred, eqb, length, take, drop, get_or, set}
use Rattle.std.proofs.Math.Bool.{not}
use Rattle.std.proofs.Math.Option.{Option, none}
use Rattle.std.proofs.Common.{sym, ◌∙◌, add-one, arith, length-set, length-take, length-drop, get_or-set_same, get_or-set_other, take_all, eq-eqb, ne_eqb, length-take-le, get_or-take, ap}
use Rattle.std.proofs.Math.Path.{ap}
use Rattle.std.proofs.Math.Decide.{ℕ_discrete}
use Rattle.std.proofs.Math.Seq.{take-length, drop-length}
use Rattle.script.specs.Flat.{nodes_in}
use Rattle.script.specs.Limits.{node_limit, word_limit}
use Rattle.script.specs.Rows.{node_operands}
use Rattle.script.specs.Rows.Laws.{node-operands-most}
use Rattle.script.specs.Table.{node_at, fields, well_formed, is_sym_node, operands, times_in, uses, syms_around, too_deep}
use Rattle.script.specs.Table.Laws.{operand-earlier, uses-suc}
use Rattle.script.specs.Table.Uses.{length-operands, operand_at, times_in-suc, times_in-most, times_in-none, uses-none, uses-most, around-none, around-step, around-most, around-from-first}
use Rattle.script.specs.Code.TableTests.{Lent, Zeros, Within, Small, Counted, Spread, UseCounts, Nestings, uses_test, depths_test, counts_test, nesting_test, deep_at}
use Rattle.script.specs.Flat.{FormedNodes}
use Rattle.script.specs.Code.TableTests.Laws.{lent_length, same-node}
use Rattle.script.specs.Tests.{pick, need_none}
use Rattle.script.specs.Tests.Loops.{lowest-same}
use Rattle.script.specs.declared.Node.{Node}
use Rattle.script.specs.declared.Refusal.TheVariants.{NotUsedOnce, TooDeep}

-- ---- one operand more

-- the operand that the code reads at place k
pub record OperandAt (n : Node) (k o : ℕ) : Type 0 where
  pub below : k < length (operands n)
  pub few : length (operands n) ≤ 3
  pub is : o ≡ get_or (operands n) k 0

pub operand-place : (n : Node) (m k o : ℕ) → m ≡ node_operands n.kind → k < m → o ≡ get_or (fields n) k 0 → OperandAt n k o
operand-place n m k o e h f =
    let l = length-operands n in
    let q = node-operands-most n.kind in
    record { below = omega arith; few = omega arith; is = f ∙ operand_at n k (omega arith) }

pub place-within : (n : Node) (k o : ℕ) (xs ys : List ℕ) → OperandAt n k o → Within (operands n) xs → length ys ≡ length xs → o < length ys
place-within n k o xs ys p w e = let b = w.within k p.below in let i = p.is in omega arith

-- after the last turn
pub all-operands : (n : Node) (m k : ℕ) → m ≡ node_operands n.kind → m ≤ k → take k (operands n) ≡ operands n
all-operands n m k e h = let l = length-operands n in take_all k (operands n) (omega arith)

-- a place of a list after a store at o
stored : (ys : List ℕ) (o v i : ℕ) → o < length ys → get_or (set ys o v) i 0 ≡ pick (eqb o i) v (get_or ys i 0)
stored ys o v i h = go (ℕ_discrete o i)
  where
    go : Dec (o ≡ i) → get_or (set ys o v) i 0 ≡ pick (eqb o i) v (get_or ys i 0)
    go (yes q) = rw (eq-eqb o i q, ← q, get_or-set_same ys o v 0 h) refl
    go (no n) = rw (ne_eqb o i n, get_or-set_other ys o i v 0 (λ q. n (sym q))) refl

bumped : (ys : List ℕ) (o i : ℕ) → o < length ys → get_or (set ys o (get_or ys o 0 + 1)) i 0 ≡ get_or ys i 0 + pick (eqb o i) 1 0
bumped ys o i h = stored ys o (get_or ys o 0 + 1) i h ∙ go (ℕ_discrete o i)
  where
    go : Dec (o ≡ i) → pick (eqb o i) (get_or ys o 0 + 1) (get_or ys i 0) ≡ get_or ys i 0 + pick (eqb o i) 1 0
    go (yes q) = rw (eq-eqb o i q, q) refl
    go (no n) = rw (ne_eqb o i n) (omega arith)

-- a place that holds v once it is among the operands, with one operand more
spread-pick : (b : Bool) (t t' x y v : ℕ) → t' ≡ t + pick b 1 0 → y ≡ pick (eqb t 0) x v → pick b v y ≡ pick (eqb t' 0) x v
spread-pick true t t' x y v e f = rw (ne_eqb t' 0 (λ q. omega arith)) refl
spread-pick false t t' x y v e f = let q : t' ≡ t = omega arith in rw q f

module _ (os xs : List ℕ) where
  pub counted_none : Counted (take 0 os) xs xs
  counted_none = record { same = refl; at = λ i h. let t = times_in-none i in omega arith }

  -- by the operand o at place k
  pub counted-more : (ys : List ℕ) (k o : ℕ) → Within os xs → k < length os → o ≡ get_or os k 0 → Counted (take k os) xs ys → Counted (take (k + 1) os) xs (set ys o (get_or ys o 0 + 1))
  counted-more ys k o w l e c =
      let b = w.within k l in
      let s = c.same in
      rw (add-one k) (record {
        same = length-set ys o (get_or ys o 0 + 1) ∙ s;
        at = λ i h.
            let a = bumped ys o i (omega arith) in
            let d = c.at i h in
            let t = rw (← e) at (times_in-suc i os k l) in
            omega arith;
      })

  -- a place of the list has room for one more
  pub counted-fits : (ys : List ℕ) (k o : ℕ) → Within os xs → Small xs → k < length os → length os ≤ 3 → o ≡ get_or os k 0 → Counted (take k os) xs ys → get_or ys o 0 + 1 ≤ word_limit
  counted-fits ys k o w s l m e c =
      let b = w.within k l in
      let a = c.at o (omega arith) in
      let t = times_in-most o (take k os) in
      let q = length-take k os in
      let f = s.small o (omega arith) in
      omega arith

  pub spread_none : (v : ℕ) → Spread (take 0 os) v xs xs
  spread_none v = record { same = refl; at = λ i h. rw (times_in-none i) refl }

  pub spread-more : (v : ℕ) (ys : List ℕ) (k o : ℕ) → Within os xs → k < length os → o ≡ get_or os k 0 → Spread (take k os) v xs ys → Spread (take (k + 1) os) v xs (set ys o v)
  spread-more v ys k o w l e c =
      let b = w.within k l in
      let s = c.same in
      rw (add-one k) (record {
        same = length-set ys o v ∙ s;
        at = λ i h.
            stored ys o v i (omega arith)
            ∙ spread-pick (eqb o i) (times_in i (take k os)) (times_in i (take (suc k) os)) (get_or xs i 0) (get_or ys i 0) v (rw (← e) at (times_in-suc i os k l)) (c.at i h);
      })

-- ---- one node more

-- the uses of each place by the first j nodes
pub record UsedBy (ns : List Node) (j room : ℕ) (ys : List ℕ) : Type 0 where
  pub same : length ys ≡ room
  pub counts : (i : ℕ) → i < room → get_or ys i 0 ≡ uses (take j ns) i

-- how many `sym` are around each place, as far as the nodes from j on say it
pub record NestedFrom (ns : List Node) (j room : ℕ) (ys : List ℕ) : Type 0 where
  pub same : length ys ≡ room
  pub around : (i : ℕ) → i < room → get_or ys i 0 ≡ syms_around i j (drop j ns)

module _ (ns : List Node) where
  pub used-none : (n : ℕ) (xs : List ℕ) → Zeros n xs → UsedBy ns 0 (length xs) xs
  used-none n xs z = record { same = refl; counts = λ i h. z.zeros i ∙ sym (uses-none i) }

  pub used-more : (j room : ℕ) (ys zs : List ℕ) → j < length ns → UsedBy ns j room ys → Counted (operands (node_at ns j)) ys zs → UsedBy ns (j + 1) room zs
  used-more j room ys zs l u c =
      record { same = c.same ∙ u.same; counts = λ i h. let a = c.at i (rw u.same h) in let b = u.counts i h in rw (add-one j, uses-suc ns i j l) (omega arith) }

  pub used-small : (j room : ℕ) (ys : List ℕ) → j ≤ node_limit → UsedBy ns j room ys → Small ys
  used-small j room ys h u =
      record { small = λ i l. let e = u.same in let a = u.counts i (omega arith) in let b = uses-most (take j ns) i in let q = length-take j ns in omega arith }

  pub used_all : (room : ℕ) (ys : List ℕ) → length ns ≤ room → UsedBy ns (length ns) room ys → UseCounts ns ys
  used_all room ys h u = let e = u.same in record { room = omega arith; counts = λ i l. rw take-length at (u.counts i (omega arith)) }

  pub nested-none : (n : ℕ) (xs : List ℕ) → Zeros n xs → NestedFrom ns (length ns) (length xs) xs
  nested-none n xs z = record { same = refl; around = λ i h. rw (drop-length ns, around-none i (length ns)) (z.zeros i) }

  pub nested-fits : (j room i : ℕ) (ys : List ℕ) → NestedFrom ns j room ys → i < room → get_or ys i 0 ≤ length ns
  nested-fits j room i ys u h =
      let a = u.around i h in
      let b = around-most i j (drop j ns) in
      let q = length-drop j ns in
      omega arith

  nested-step : (j room v : ℕ) (ys zs : List ℕ) → j < length ns → length ns ≤ room → NestedFrom ns (suc j) room ys → v ≡ pick (is_sym_node (node_at ns j)) 1 0 + get_or ys j 0 → Spread (operands (node_at ns j)) v ys zs → NestedFrom ns j room zs
  nested-step j room v ys zs l r u e s =
      record {
        same = s.same ∙ u.same;
        around = λ i h. s.at i (rw u.same h) ∙ rw (around-step ns i j l, e, u.around i h, u.around j (omega arith)) refl;
      }

  -- the turn of node j - 1
  pub nested-more : (j room v : ℕ) (ys zs : List ℕ) → 0 < j → j ≤ length ns → length ns ≤ room → NestedFrom ns j room ys → v ≡ pick (is_sym_node (node_at ns (j - 1))) 1 0 + get_or ys (j - 1) 0 → Spread (operands (node_at ns (j - 1))) v ys zs → NestedFrom ns (j - 1) room zs
  nested-more zero room v ys zs p l r u e s = absurd (omega arith)
  nested-more (suc j) room v ys zs p l r u e s =
      let q : suc j - 1 ≡ j = omega arith in
      rw q (nested-step j room v ys zs (omega arith) r u (rw q at e) (rw q at s))

  pub nested-all : (room : ℕ) (ys : List ℕ) → ((j : ℕ) → j < length ns → well_formed ns j ≡ true) → length ns ≤ room → NestedFrom ns 0 room ys → Nestings ns ys
  nested-all room ys f h u =
      let e = u.same in
      record { room = omega arith; around = λ i l. u.around i (omega arith) ∙ around-from-first ns f i l }

-- ---- the nodes that are lent

module _ (xs : List ℕ) (n : ℕ) (f : FormedNodes xs n) where
  pub formed-lent : Lent xs n
  formed-lent = record { most = f.most; room = f.room }

  pub formed-length : length (take n (nodes_in xs)) ≡ n
  formed-length = lent_length xs n formed-lent

  pub formed-all : (j : ℕ) → j < length (take n (nodes_in xs)) → well_formed (take n (nodes_in xs)) j ≡ true
  formed-all j h = f.formed j (rw formed-length at h)

  -- the operands of node j have places in a list with a place for each node
  pub formed-within : (j : ℕ) (m : Node) (ys : List ℕ) → j < n → n ≤ length ys → m ≡ node_at (nodes_in xs) j → Within (operands m) ys
  formed-within j m ys h l e =
      let q : m ≡ node_at (take n (nodes_in xs)) j = e ∙ same-node xs n j h in
      rw q (record { within = λ k b. let o = operand-earlier (take n (nodes_in xs)) j (f.formed j h) k b in omega arith })

  -- the turns of the two loops, with the node m that the code reads
  pub uses-turn : (room j : ℕ) (m : Node) (ys zs : List ℕ) → j < n → m ≡ node_at (nodes_in xs) j → UsedBy (take n (nodes_in xs)) j room ys → Counted (operands m) ys zs → UsedBy (take n (nodes_in xs)) (j + 1) room zs
  uses-turn room j m ys zs h e u c =
      let l = formed-length in
      used-more (take n (nodes_in xs)) j room ys zs (omega arith) u (rw (e ∙ same-node xs n j h) at c)

  pub uses_end : (room j : ℕ) (ys : List ℕ) → n ≤ room → n ≤ j → j ≤ n → UsedBy (take n (nodes_in xs)) j room ys → UseCounts (take n (nodes_in xs)) ys
  uses_end room j ys r h g u =
      let l = formed-length in
      let q : j ≡ length (take n (nodes_in xs)) = omega arith in
      used_all (take n (nodes_in xs)) room ys (omega arith) (rw q at u)

  pub depths_start : (ys : List ℕ) → Zeros n ys → NestedFrom (take n (nodes_in xs)) n (length ys) ys
  depths_start ys z = rw formed-length at (nested-none (take n (nodes_in xs)) n ys z)

  pub depths_fit : (room j i : ℕ) (ys : List ℕ) → NestedFrom (take n (nodes_in xs)) j room ys → i < room → get_or ys i 0 < word_limit
  depths_fit room j i ys u h =
      let l = formed-length in
      let b = nested-fits (take n (nodes_in xs)) j room i ys u h in
      let k = f.most in
      omega arith

  pub depths_turn : (room j v : ℕ) (m : Node) (ys zs : List ℕ) → 0 < j → j ≤ n → n ≤ room → m ≡ node_at (nodes_in xs) (j - 1) → NestedFrom (take n (nodes_in xs)) j room ys → v ≡ pick (is_sym_node m) 1 0 + get_or ys (j - 1) 0 → Spread (operands m) v ys zs → NestedFrom (take n (nodes_in xs)) (j - 1) room zs
  depths_turn room j v m ys zs p h r e u g s =
      let l = formed-length in
      let q : m ≡ node_at (take n (nodes_in xs)) (j - 1) = e ∙ same-node xs n (j - 1) (omega arith) in
      nested-more (take n (nodes_in xs)) j room v ys zs p (omega arith) (omega arith) u (rw q at g) (rw q at s)

  pub depths_end : (room j : ℕ) (ys : List ℕ) → n ≤ room → j ≤ 0 → NestedFrom (take n (nodes_in xs)) j room ys → Nestings (take n (nodes_in xs)) ys
  depths_end room j ys r h u =
      let l = formed-length in
      let q : j ≡ 0 = omega arith in
      nested-all (take n (nodes_in xs)) room ys formed-all (omega arith) (rw q at u)

-- ---- the tests by the lists

pub pred-below : (j n : ℕ) → j < pred n → j < n
pred-below j zero h = h
pred-below j (suc n) h = omega arith

module _ (ns : List Node) (xs : List ℕ) where
  pub counts-uses : (n : ℕ) → length ns ≡ n → UseCounts ns xs → counts_test xs n ≡ uses_test ns
  unfolding counts_test uses_test
  counts-uses n e u =
      rw e
      (ap (λ (o : Option ℕ). need_none o NotUsedOnce none)
      (lowest-same (λ i. not (eqb (get_or xs i 0) 1)) (λ i. not (eqb (uses ns i) 1)) (pred n) (λ j h. ap (λ (x : ℕ). not (eqb x 1)) (u.counts j (rw e (pred-below j n h))))))

  pub nesting_depths : Nestings ns xs → nesting_test ns xs ≡ depths_test ns
  unfolding nesting_test depths_test too_deep
  nesting_depths u =
      ap (λ (o : Option ℕ). need_none o TooDeep none)
      (lowest-same (λ i. deep_at (node_at ns i) (get_or xs i 0)) (too_deep ns) (length ns) (λ j h. ap (deep_at (node_at ns j)) (u.around j h)))

-- of a list only the counts of the nodes are looked at
pub counts-first : (xs : List ℕ) (n : ℕ) → n ≤ length xs → counts_test (take n xs) (length (take n xs)) ≡ counts_test xs n
unfolding counts_test
counts-first xs n h =
    rw (length-take-le n xs h)
    (ap (λ (o : Option ℕ). need_none o NotUsedOnce none)
    (lowest-same (λ i. not (eqb (get_or (take n xs) i 0) 1)) (λ i. not (eqb (get_or xs i 0) 1)) (pred n) (λ j k. ap (λ (x : ℕ). not (eqb x 1)) (get_or-take n xs j 0 (pred-below j n k)))))
