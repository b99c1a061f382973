-- What the writer may count on after the tests: the used places are lent, every kind has a word, and the text is short; and from there to the
-- outcome of a call. Assumes nothing.
use Rattle.std.specs.Prelude.{true, false, List, ◌≡◌, ℕ, ◌+◌, ◌*◌, ◌≤◌, ◌<◌, length, take, Err, Ok}
use Rattle.std.proofs.Math.Option.{none}
use Rattle.std.proofs.Math.Path.{refl}
use Rattle.std.proofs.Common.{zero-add, arith, get_or-take}
use Rattle.std.proofs.Math.ListN.{length-append}
use Rattle.script.specs.Flat.{node_width, nodes_in, table_in}
use Rattle.script.specs.Flat.Laws.{length-nodes_in}
use Rattle.script.specs.Rows.Kinds.{kind_count}
use Rattle.script.specs.Rows.Laws.{row-kind}
use Rattle.script.specs.Table.{Table, nodes_of, entries_of, node_at, unused, table_test}
use Rattle.script.specs.Table.Laws.{passes, formed-at}
use Rattle.script.specs.Flat.{tested_by}
use Rattle.script.specs.Code.TableTests.Laws.{refused-some}
use Rattle.script.specs.declared.Refusal.{Refusal}
use Rattle.script.specs.declared.Refusal.TheVariants.{OutputTooShort}
use Rattle.text.specs.Code.Output.{Put, text_in}
use Rattle.text.specs.Code.Output.Laws.{put_then, put_text}
use Rattle.text.specs.SameTable.{text-most}
use Rattle.text.proofs.Writing.Laws.{enough-fits}
use Rattle.text.specs.Writing.{outcome, text_of, entries_text, nodes_text, long_enough, writing}

module _ (xs : List ℕ) (n : ℕ) (es : List ℕ) (m : ℕ) (e : table_test (table_in xs n es m) ≡ none) where
  pub entries-lent : m ≤ length es
  entries-lent = let p = passes (table_in xs n es m) e in omega arith

  pub nodes-lent : node_width * n ≤ length xs
  nodes-lent = let p = passes (table_in xs n es m) e in let l = length-nodes_in xs in omega arith

  pub kinds_known : (i : ℕ) → i < n → (node_at (nodes_in xs) i).kind < kind_count
  kinds_known i h =
      let p = passes (table_in xs n es m) e in
      let l = p.nodes_length in
      let f = formed-at (take n (nodes_in xs)) i (p.sound.formed i (omega arith)) in
      rw (get_or-take n (nodes_in xs) i unused h) at (row-kind _ f.row f.is_row)

  pub parts-most : length (entries_text (take m es)) + length (nodes_text (take n (nodes_in xs))) ≤ 2288
  unfolding text_of
  parts-most = rw length-append at (text-most (table_in xs n es m) e)

-- the entry lines and then the node lines are the text
pub put_parts : (t : Table) {k l : ℕ} {o₀ o₁ o₂ : List ℕ} → Put (entries_text (entries_of t)) 0 o₀ k o₁ → Put (nodes_text (nodes_of t)) k o₁ l o₂ → Put (text_in t) 0 o₀ l o₂
unfolding text_of
put_parts t p q = put_then p q

-- ---- the outcome of a call

module _ (t : Table) {out : List ℕ} where
  pub wrote : {n : ℕ} {out' : List ℕ} → table_test t ≡ none → long_enough out (text_in t) ≡ true → Put (text_in t) 0 out n out' → outcome (Ok n) out' ≡ writing t out
  unfolding writing
  wrote {n} {out'} e f p =
      rw (e, f, put_text p (enough-fits out (text_in t) f), p.next-is, zero-add) refl

  pub short : table_test t ≡ none → long_enough out (text_in t) ≡ false → outcome (Err OutputTooShort) out ≡ writing t out
  unfolding writing
  short e f = rw (e, f) refl

  pub turned_down : (r : Refusal) → tested_by (table_test t) ≡ Err r → outcome (Err r) out ≡ writing t out
  unfolding writing
  turned_down r e = rw (refused-some (table_test t) r e) refl
