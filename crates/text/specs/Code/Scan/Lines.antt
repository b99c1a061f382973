-- The rest of a line after its word, one field at a time. Assumes nothing.
use Rattle.std.specs.Prelude.{Bool, ◌||◌, ◌≡◌, drop, get_or, Some, None}
use Rattle.std.proofs.Math.Bool.{true, false}
use mathlib.Core.List.{List, [], ◌∷◌, ◌++◌, append_assoc}
use Rattle.std.proofs.Math.Option.{Option, none, some}
use Rattle.std.proofs.Math.Path.{refl, ap}
use Rattle.std.proofs.Common.{sym, ◌∙◌, add-one, length-drop, drop-drop, drop-cons}
use Prim.Native.Nat.{ℕ, zero, suc, ◌+◌, ◌≤◌, ◌<◌}
use native.Mathlib.Omega.{arith}
use Rattle.std.proofs.Math.Dec.{eqb, eqb-suc-zero, eqb-zero-suc, eqb-suc-suc}
use Rattle.std.proofs.Math.ListN.{length, length-append}
use borrow.Author.Tests.{eqb-true}
use Rattle.script.specs.Rows.{Row}
use Rattle.script.specs.Rows as Rows
use Rattle.script.specs.Tests.{pick}
use Rattle.script.specs.Tests.Laws.{true_or_false}
use Rattle.text.specs.Bytes.{lf, tab, entry_word}
use Rattle.text.specs.Fields.{decimal_up_to, type_of, same_bytes, kind_named}
use Rattle.text.specs.Grammar.{parts, on_first, on_numbers, numbers_up_to, node_with, node_by, entry_with, entry_from, line_from, line_of, up_to}
use Rattle.text.specs.Code.Scan.{starts_with, field_in, field_ends, line_in, line_ends, fields_after, operand_by, operand_at, located, line_at, entry_after, node_after}
use Rattle.text.specs.Code.Scan.Laws.{field-ends, field-most}
use Rattle.script.specs.Answers.Named.{same_parts}
use Rattle.text.specs.Code.Named.{Located}

-- ---- a line goes on after its first field

-- the rest of the text after its first field
abbrev pub rest_in : List ℕ → List ℕ
rest_in cs = drop (length (field_in cs)) cs

pub record GoesOn (cs : List ℕ) : Type 0 where
  pub line-is : line_in cs ≡ field_in cs ++ line_in (rest_in cs)
  pub ends_is : line_ends cs ≡ line_ends (rest_in cs)
  pub fields_are : parts tab (line_in cs) ≡ field_in cs ∷ fields_after (rest_in cs)

pub goes_on : (cs : List ℕ) → GoesOn cs
unfolding field_in line_in line_ends parts
goes_on [] = record { line-is = refl; ends_is = refl; fields_are = refl }
goes_on (c ∷ cs) = go (eqb c tab) (eqb c lf) refl refl (goes_on cs)
  where
    go : (t l : Bool) → eqb c tab ≡ t → eqb c lf ≡ l → GoesOn cs → GoesOn (c ∷ cs)
    go true true e f h = let z : ◌≡◌ {A = ℕ} 9 10 = sym (eqb-true c 9 e) ∙ eqb-true c 10 f in absurd (omega arith)
    go true false e f h = record { line-is = simp (e, f); ends_is = simp (e, f); fields_are = simp (e, f) }
    go false true e f h = record { line-is = simp (e, f); ends_is = simp (e, f); fields_are = simp (e, f) }
    go false false e f h =
        record {
          line-is = rw (e, f) (ap (◌∷◌ c) h.line-is);
          ends_is = rw (e, f) h.ends_is;
          fields_are = rw (e, f, e) (ap (on_first c) h.fields_are);
        }

-- ---- exactly so many numbers

unfoldable pub exactly : ℕ → ℕ → List (List ℕ) → Option (List ℕ)
exactly zero m [] = some []
exactly zero m (f ∷ fs) = none
exactly (suc n) m [] = none
exactly (suc n) m (f ∷ fs) = on_numbers (decimal_up_to m f) (exactly n m fs)

exactly-is : (n m : ℕ) (fs : List (List ℕ)) → exactly n m fs ≡ pick (eqb (length fs) n) (numbers_up_to m fs) none
unfolding exactly numbers_up_to
exactly-is zero m [] = refl
exactly-is zero m (f ∷ fs) = rw (eqb-suc-zero (length fs)) refl
exactly-is (suc n) m [] = rw (eqb-zero-suc n) refl
exactly-is (suc n) m (f ∷ fs) = rw (eqb-suc-suc (length fs) n) (ap (on_numbers (decimal_up_to m f)) (exactly-is n m fs) ∙ go (eqb (length fs) n) (decimal_up_to m f))
  where
    go : (b : Bool) (o : Option ℕ) → on_numbers o (pick b (numbers_up_to m fs) none) ≡ pick b (on_numbers o (numbers_up_to m fs)) none
    go true o = refl
    go false none = refl
    go false (some x) = refl

pub node-exactly : (k : ℕ) (r : Row) (fs : List (List ℕ)) → node_by k (some r) fs ≡ node_with k (exactly r.count (up_to (Rows.number_up_to r.form)) fs)
node-exactly k r fs = rw (exactly-is r.count (up_to (Rows.number_up_to r.form)) fs) (go (eqb (length fs) r.count) (numbers_up_to (up_to (Rows.number_up_to r.form)) fs))
  where
    go : (b : Bool) (o : Option (List ℕ)) → pick b (node_with k o) none ≡ node_with k (pick b o none)
    go true o = refl
    go false o = refl

-- ---- operands, one at a time, at a place of a text

abbrev pub behind : List ℕ → Option (List ℕ) → Option (List ℕ)
behind os none = none
behind os (some ps) = some (os ++ ps)

behind_more : (os : List ℕ) (n : ℕ) (o : Option (List ℕ)) → behind os (on_numbers (some n) o) ≡ behind (os ++ (n ∷ [])) o
behind_more os n none = refl
behind_more os n (some ps) = ap some (sym (append_assoc os (n ∷ []) ps))

-- the node line of kind k whose operands so far are os, with n more to come up to m, given the rest of the text
unfoldable pub node_rest : ℕ → ℕ → List ℕ → ℕ → ℕ → List ℕ → Located
node_rest k m os n at cs = located (line_ends cs) (node_with k (behind os (exactly n m (fields_after cs)))) (at + length (line_in cs) + 1)

located-none : (b : Bool) (at : ℕ) → located b none at ≡ None
located-none true at = refl
located-none false at = refl

-- what an operand tells that was found: a tab, the field after it, and where the rest begins
pub record FoundOperand (m at : ℕ) (cs : List ℕ) (x next : ℕ) : Type 0 where
  pub after-tab : List ℕ
  pub begins : cs ≡ tab ∷ after-tab
  pub number_is : decimal_up_to m (field_in after-tab) ≡ some x
  pub next-is : next ≡ at + 1 + length (field_in after-tab)

pub found-operand : (m at : ℕ) (cs : List ℕ) (x next : ℕ) → operand_at true m at cs ≡ Some (x, next) → FoundOperand m at cs x next
found-operand m at [] x next e = let z : ◌≡◌ {A = ℕ} 0 1 = cc in absurd (omega arith)
found-operand m at (c ∷ ds) x next e = go (eqb c tab) refl (decimal_up_to m (field_in ds)) refl e
  where
    go : (b : Bool) → eqb c tab ≡ b → (o : Option ℕ) → decimal_up_to m (field_in ds) ≡ o → pick b (operand_by o (at + 1 + length (field_in ds))) None ≡ Some (x, next) → FoundOperand m at (c ∷ ds) x next
    go true t none n e = let z : ◌≡◌ {A = ℕ} 0 1 = cc in absurd (omega arith)
    go true t (some y) n e = record { after-tab = ds; begins = ap (λ d. d ∷ ds) (eqb-true c tab t); number_is = n ∙ ap some (same_parts e).0; next-is = sym (same_parts e).1 }
    go false t o n e = let z : ◌≡◌ {A = ℕ} 0 1 = cc in absurd (omega arith)

-- the line goes on after it
module _ (k m : ℕ) (os : List ℕ) (n at : ℕ) (ds : List ℕ) (x : ℕ) (e : decimal_up_to m (field_in ds) ≡ some x) where
  rest-tab : node_rest k m os (suc n) at (tab ∷ ds) ≡ node_rest k m (os ++ (x ∷ [])) n (at + 1 + length (field_in ds)) (rest_in ds)
  unfolding node_rest exactly line_ends line_in
  rest-tab =
      let h = goes_on ds in
      let l : length (line_in ds) ≡ length (field_in ds) + length (line_in (rest_in ds)) = ap length h.line-is ∙ length-append (field_in ds) (line_in (rest_in ds)) in
      let p : at + suc (length (line_in ds)) + 1 ≡ at + 1 + length (field_in ds) + length (line_in (rest_in ds)) + 1 = omega arith in
      rw (p, h.fields_are, h.ends_is, e, behind_more os x (exactly n m (fields_after (rest_in ds)))) refl

pub rest-operand : (k m : ℕ) (os : List ℕ) (n at : ℕ) (cs : List ℕ) (x next : ℕ) (f : FoundOperand m at cs x next) → node_rest k m os (suc n) at cs ≡ node_rest k m (os ++ (x ∷ [])) n next (rest_in f.after-tab)
rest-operand k m os n at cs x next f =
    rw (f.begins, f.next-is) (rest-tab k m os n at f.after-tab x f.number_is)

-- no operand where one is wanted: the line is not of the form
pub rest_bad : (k m : ℕ) (os : List ℕ) (n at : ℕ) (cs : List ℕ) → operand_at true m at cs ≡ None → node_rest k m os (suc n) at cs ≡ None
unfolding node_rest exactly
rest_bad k m os n at [] e = located-none (line_ends []) (at + length (line_in []) + 1)
rest_bad k m os n at (c ∷ ds) e = go (eqb c tab) refl (decimal_up_to m (field_in ds)) refl e
  where
    go : (b : Bool) → eqb c tab ≡ b → (o : Option ℕ) → decimal_up_to m (field_in ds) ≡ o → pick b (operand_by o (at + 1 + length (field_in ds))) None ≡ None
        → located (line_ends (c ∷ ds)) (node_with k (behind os (exactly (suc n) m (pick b (parts tab (line_in ds)) [])))) (at + length (line_in (c ∷ ds)) + 1) ≡ None
    go true t none f e = rw ((goes_on ds).fields_are, f) (located-none (line_ends (c ∷ ds)) (at + length (line_in (c ∷ ds)) + 1))
    go true t (some y) f e = let z : ◌≡◌ {A = ℕ} 0 1 = cc in absurd (omega arith)
    go false t o f e = located-none (line_ends (c ∷ ds)) (at + length (line_in (c ∷ ds)) + 1)

-- ---- the line's end

pub rest-lf : (k m : ℕ) (os : List ℕ) (at : ℕ) (cs : List ℕ) → starts_with lf cs ≡ true → node_rest k m os 0 at cs ≡ located true (node_with k (some (os ++ []))) (at + 0 + 1)
unfolding node_rest exactly line_ends line_in
rest-lf k m os at [] e = absurd (true_or_false false e refl)
rest-lf k m os at (c ∷ ds) e =
    let l = eqb-true c lf e in
    rw l refl

pub rest_no_lf : (k m : ℕ) (os : List ℕ) (at : ℕ) (cs : List ℕ) → field_ends cs ≡ true → starts_with lf cs ≡ false → node_rest k m os 0 at cs ≡ None
unfolding node_rest exactly line_ends line_in
rest_no_lf k m os at [] f e = refl
rest_no_lf k m os at (c ∷ ds) f e = go (eqb c tab) refl
  where
    go : (b : Bool) → eqb c tab ≡ b → node_rest k m os 0 at (c ∷ ds) ≡ None
    go true t = rw (t, (goes_on ds).fields_are) (located-none (pick (eqb c lf) true (line_ends ds)) (at + length (pick (eqb c lf) [] (c ∷ line_in ds)) + 1))
    go false t = absurd (true_or_false (eqb c tab || eqb c lf) f (rw (t, e) refl))

-- ---- at a place of a text

pub rest_at : (text : List ℕ) (at n : ℕ) → drop n (drop at text) ≡ drop (at + n) text
rest_at text at n = drop-drop n at text

pub starts-within : (b : ℕ) (text : List ℕ) (at : ℕ) → starts_with b (drop at text) ≡ true → at < length text
starts-within b text at e = go (drop at text) refl e
  where
    go : (cs : List ℕ) → drop at text ≡ cs → starts_with b cs ≡ true → at < length text
    go [] d e = absurd (true_or_false false e refl)
    go (c ∷ cs) d e = let l = sym (length-drop at text) ∙ ap length d in omega arith

-- what follows the byte
pub starts_then : (b : ℕ) (text : List ℕ) (at : ℕ) → starts_with b (drop at text) ≡ true → drop at text ≡ b ∷ drop (at + 1) text
starts_then b text at e =
    let h = starts-within b text at e in
    let d = drop-cons text at 0 h in
    rw d (rw (add-one at) (ap (λ c. c ∷ drop (suc at) text) (eqb-true (get_or text at 0) b (rw d at e))))

pub operand_no_tab : (m at : ℕ) (cs : List ℕ) → starts_with tab cs ≡ false → operand_at true m at cs ≡ None
operand_no_tab m at [] e = refl
operand_no_tab m at (c ∷ cs) e = rw e refl

module _ (text : List ℕ) (at : ℕ) (e : starts_with tab (drop at text) ≡ true) where
  -- the field after the tab, and its end
  abbrev field_then : List ℕ
  field_then = field_in (drop (at + 1) text)

  pub operand-tab : (m : ℕ) → operand_at true m at (drop at text) ≡ operand_by (decimal_up_to m field_then) (at + 1 + length field_then)
  operand-tab m = rw (starts_then tab text at e) refl

  pub then_most : at + 1 + length field_then ≤ length text
  then_most =
      let h = starts-within tab text at e in
      let l = field-most (drop (at + 1) text) in
      let d = length-drop (at + 1) text in
      omega arith

  pub then_ends : field_ends (drop (at + 1 + length field_then) text) ≡ true
  then_ends = rw (← rest_at text (at + 1) (length field_then)) (field-ends (drop (at + 1) text))

-- ---- an entry line after its word

pub entry_no_tab : (at : ℕ) (cs : List ℕ) → starts_with tab cs ≡ false → entry_after at cs ≡ None
unfolding entry_after
entry_no_tab at [] e = located-none (line_ends []) (at + length (line_in []) + 1)
entry_no_tab at (c ∷ cs) e = rw e (located-none (line_ends (c ∷ cs)) (at + length (line_in (c ∷ cs)) + 1))

-- the rest of the line after the type's field
module _ (at : ℕ) (ds : List ℕ) where
  entry-tab : entry_after at (tab ∷ ds) ≡ located (line_ends (rest_in ds)) (entry_from (field_in ds ∷ fields_after (rest_in ds))) (at + 1 + length (field_in ds) + length (line_in (rest_in ds)) + 1)
  unfolding entry_after line_ends line_in
  entry-tab =
      let h = goes_on ds in
      let l : length (line_in ds) ≡ length (field_in ds) + length (line_in (rest_in ds)) = ap length h.line-is ∙ length-append (field_in ds) (line_in (rest_in ds)) in
      let p : at + suc (length (line_in ds)) + 1 ≡ at + 1 + length (field_in ds) + length (line_in (rest_in ds)) + 1 = omega arith in
      rw (p, h.fields_are, h.ends_is) refl

  entry_end : (rs : List ℕ) → rest_in ds ≡ rs → starts_with lf rs ≡ true → entry_after at (tab ∷ ds) ≡ located true (entry_with (type_of (field_in ds))) (at + 1 + length (field_in ds) + 1)
  unfolding line_ends line_in
  entry_end [] r e = absurd (true_or_false false e refl)
  entry_end (c ∷ rs) r e =
      let l = eqb-true c lf e in
      let z : at + 1 + length (field_in ds) + 0 + 1 ≡ at + 1 + length (field_in ds) + 1 = omega arith in
      entry-tab ∙ rw (r, l, z) refl

  entry-not_end : (rs : List ℕ) → rest_in ds ≡ rs → field_ends rs ≡ true → starts_with lf rs ≡ false → entry_after at (tab ∷ ds) ≡ None
  unfolding line_ends
  entry-not_end [] r f e = entry-tab ∙ rw r refl
  entry-not_end (c ∷ rs) r f e = entry-tab ∙ rw r (go (eqb c tab) refl)
    where
      go : (b : Bool) → eqb c tab ≡ b → located (line_ends (c ∷ rs)) (entry_from (field_in ds ∷ fields_after (c ∷ rs))) (at + 1 + length (field_in ds) + length (line_in (c ∷ rs)) + 1) ≡ None
      go true t = rw (t, (goes_on rs).fields_are) (located-none (line_ends (c ∷ rs)) (at + 1 + length (field_in ds) + length (line_in (c ∷ rs)) + 1))
      go false t = absurd (true_or_false (eqb c tab || eqb c lf) f (rw (t, e) refl))

module _ (text : List ℕ) (at : ℕ) (e : starts_with tab (drop at text) ≡ true) where
  pub entry-lf : starts_with lf (drop (at + 1 + length (field_then text at e)) text) ≡ true → entry_after at (drop at text) ≡ located true (entry_with (type_of (field_then text at e))) (at + 1 + length (field_then text at e) + 1)
  entry-lf f = rw (starts_then tab text at e) (entry_end at (drop (at + 1) text) (drop (at + 1 + length (field_then text at e)) text) (rest_at text (at + 1) (length (field_then text at e))) f)

  pub entry_no_lf : starts_with lf (drop (at + 1 + length (field_then text at e)) text) ≡ false → entry_after at (drop at text) ≡ None
  entry_no_lf f = rw (starts_then tab text at e) (entry-not_end at (drop (at + 1) text) (drop (at + 1 + length (field_then text at e)) text) (rest_at text (at + 1) (length (field_then text at e))) (then_ends text at e) f)

-- ---- a line and its word

-- the fields of the line that starts here
line-fields : (at : ℕ) (cs : List ℕ) → line_at at cs ≡ located (line_ends (rest_in cs)) (line_from (field_in cs ∷ fields_after (rest_in cs))) (at + length (field_in cs) + length (line_in (rest_in cs)) + 1)
unfolding line_at line_of
line-fields at cs =
    let h = goes_on cs in
    let l : length (line_in cs) ≡ length (field_in cs) + length (line_in (rest_in cs)) = ap length h.line-is ∙ length-append (field_in cs) (line_in (rest_in cs)) in
    let p : at + length (line_in cs) + 1 ≡ at + length (field_in cs) + length (line_in (rest_in cs)) + 1 = omega arith in
    rw (p, h.fields_are, h.ends_is) refl

module _ (text : List ℕ) (at : ℕ) where
  abbrev word_then : List ℕ
  word_then = field_in (drop at text)

  rest_then : rest_in (drop at text) ≡ drop (at + length word_then) text
  rest_then = rest_at text at (length word_then)

  pub word-most : at ≤ length text → at + length word_then ≤ length text
  word-most h =
      let l = field-most (drop at text) in
      let d = length-drop at text in
      omega arith

  pub word-ends : field_ends (drop (at + length word_then) text) ≡ true
  word-ends = rw (← rest_then) (field-ends (drop at text))

  pub line-entry : same_bytes entry_word word_then ≡ true → line_at at (drop at text) ≡ entry_after (at + length word_then) (drop (at + length word_then) text)
  unfolding entry_after
  line-entry e = line-fields at (drop at text) ∙ rw (e, rest_then) refl

  pub line-node : (k : ℕ) → same_bytes entry_word word_then ≡ false → kind_named word_then ≡ some k → line_at at (drop at text) ≡ node_after k (at + length word_then) (drop (at + length word_then) text)
  unfolding node_after
  line-node k e f = line-fields at (drop at text) ∙ rw (e, f, rest_then) refl

  pub line-none : same_bytes entry_word word_then ≡ false → kind_named word_then ≡ none → line_at at (drop at text) ≡ None
  line-none e f = line-fields at (drop at text) ∙ rw (e, f) (located-none (line_ends (rest_in (drop at text))) (at + length word_then + length (line_in (rest_in (drop at text))) + 1))
