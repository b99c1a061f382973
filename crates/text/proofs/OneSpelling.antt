-- Every script has one text (docs/SCRIPTS.md): a text that is read is the text of what it means, so that no two texts mean the same, and
-- writing what a call of the reader read gives the same bytes back. The table that is read passes every test. Assumes nothing.
use Rattle.std.specs.Prelude.{Bool, true, false, ◌&&◌, ◌≡◌, refl, ℕ, ◌-◌, ◌≤◌, leb, length, take, drop, replicate, Ok}
use Rattle.std.proofs.Math.Bool.{not}
use mathlib.Core.List.{List, [], ◌++◌}
use Rattle.std.proofs.Math.Option.{none}
use Rattle.std.proofs.Common.{sym, ap₂, ◌∙◌, arith, length-append, take_at, leb-true}
use Rattle.std.proofs.Math.Path.{ap}
use Rattle.std.proofs.lemmas.List.{length-replicate}
use Rattle.script.specs.Limits.{node_limit, entry_limit, byte_limit}
use Rattle.script.specs.Table.{unused, well_formed, tree_test, nodes_test, table_test}
use Rattle.script.specs.Table.Laws.{Sound, nodes_test-sound, passes_none}
use Rattle.script.specs.Tests.{pick, lowest}
use Rattle.script.specs.Tests.Laws.{both_true, none_need_none, none-lowest}
use Rattle.script.specs.declared.Node.{Node}
use Rattle.script.specs.declared.Refusal.TheVariants.{TableTooSmall, TextTooLong, BadOperand}
use Rattle.script.specs.declared.Script.{Script}
use Rattle.text.specs.Bytes.{lf}
use Rattle.text.specs.Grammar.{parts, Meaning, means, refused, lines_from, meaning_of}
use Rattle.text.specs.Reading.{filled, table_read}
use Rattle.text.specs.Reading as Reads
use Rattle.text.specs.SameTable.Text.{Some, some-parts, parts-some}
use Rattle.text.specs.Writing.{entries_text, nodes_text, text_of}
use Rattle.text.specs.Writing as Writes
use Rattle.text.proofs.Writing.Laws.{long-enough}
use Rattle.text.specs.OneSpelling.Lines.{joined-parts}
use Rattle.text.specs.OneSpelling.Text.{Whole, whole, taken-text, kept-none, taken-kept}
use Rattle.text.specs.OneSpelling.{ReadAs, table_after}

-- ---- texts

module _ (text es : List ℕ) (ns : List Node) (e : meaning_of text ≡ means es ns) where
  lines_read : Whole [] [] (parts lf text) es ns
  unfolding meaning_of
  lines_read = go (leb (length text) byte_limit) e
    where
      here : {ps : List (List ℕ)} → Some ps → lines_from 0 [] [] ps ≡ means es ns → Whole [] [] ps es ns
      here (some-parts {p = p} {ps = ps}) e = whole es ns 0 [] [] p ps e

      go : (b : Bool) → pick b (lines_from 0 [] [] (parts lf text)) (refused TextTooLong) ≡ means es ns → Whole [] [] (parts lf text) es ns
      go true e = here (parts-some lf text) e
      go false e = let z : ◌≡◌ {A = ℕ} 0 1 = cc in absurd (omega arith)

  -- a text that is read is written so
  pub read_written : text_of es ns ≡ text
  unfolding text_of entries_text nodes_text
  read_written = taken-text lines_read.lines ∙ joined-parts lf text

  nodes-sound : Sound ns
  unfolding nodes_test
  nodes-sound =
      let k = taken-kept lines_read.lines kept-none in
      nodes_test-sound ns
      (none_need_none (lowest (λ i. not (well_formed ns i)) (length ns)) BadOperand (tree_test ns)
      (none-lowest (λ i. not (well_formed ns i)) (length ns) (λ i h. ap not (k.formed i h)))
      lines_read.ended.tree)

  -- the table that is read passes its tests
  pub read_passes : (n m : ℕ) → node_limit ≤ n → entry_limit ≤ m → table_test (table_read es ns n m) ≡ none
  read_passes n m h l =
      let k = taken-kept lines_read.lines kept-none in
      let a : take (length ns) (filled ns n unused) ≡ ns = take_at ns _ (length ns) refl in
      let b : take (length es) (filled es m 0) ≡ es = take_at es _ (length es) refl in
      passes_none (table_read es ns n m)
      (record {
        lent_nodes = rw (length-append, length-replicate) (omega arith);
        lent_entries = rw (length-append, length-replicate) (omega arith);
        nodes_most = k.nodes;
        entries_most = k.entries;
        nodes_least = lines_read.ended.least;
        codes = rw b k.codes;
        nodes_length = ap length a;
        entries_length = ap length b;
        sound = rw a nodes-sound;
      })

pub one_text : (x y es : List ℕ) (ns : List Node) → meaning_of x ≡ means es ns → meaning_of y ≡ means es ns → x ≡ y
one_text x y es ns e f = sym (read_written x es ns e) ∙ read_written y es ns f

pub read_as : (text : List ℕ) (n m : ℕ) (s : Script) → (Reads.reading text n m).answer ≡ Ok s → ReadAs text n m s
unfolding Reads.reading
read_as text n m s e = go (leb node_limit n && leb entry_limit m) refl (meaning_of text) refl e
  where
    go : (b : Bool) → leb node_limit n && leb entry_limit m ≡ b → (t : Meaning) → meaning_of text ≡ t
        → Reads.answer_of (pick b t (refused TableTooSmall)) ≡ Ok s → ReadAs text n m s
    go true p (means es ns) q e =
        let b = both_true (leb node_limit n) (leb entry_limit m) p in
        record {
          entries = es;
          nodes = ns;
          lent_nodes = leb-true node_limit n b.0;
          lent_entries = leb-true entry_limit m b.1;
          meaning = q;
          counts = cc;
          outcome = rw (p, q) refl;
        }
    go true p (refused r) q e = let z : ◌≡◌ {A = ℕ} 0 1 = cc in absurd (omega arith)
    go false p t q e = let z : ◌≡◌ {A = ℕ} 0 1 = cc in absurd (omega arith)

write_read : (text out es : List ℕ) (ns : List Node) (n m : ℕ) → meaning_of text ≡ means es ns → node_limit ≤ n → entry_limit ≤ m → length text ≤ length out
    → Writes.writing (table_read es ns n m) out ≡ record { answer = Ok (length text); bytes = text ++ drop (length text) out }
unfolding Writes.writing
write_read text out es ns n m e h l f =
    rw (
      read_passes text es ns e n m h l,
      take_at ns (replicate (n - length ns) unused) (length ns) refl,
      take_at es (replicate (m - length es) 0) (length es) refl,
      read_written text es ns e,
      long-enough out text f,
    )
    refl

pub one_spelling : (text out : List ℕ) (n m : ℕ) (s : Script) → (Reads.reading text n m).answer ≡ Ok s → length text ≤ length out
    → Writes.writing (table_after (Reads.reading text n m) s) out ≡ record { answer = Ok (length text); bytes = text ++ drop (length text) out }
one_spelling text out n m s e h =
    let r = read_as text n m s e in
    ap₂ (λ (o : Reads.Outcome) (s : Script). Writes.writing (table_after o s) out) r.outcome r.counts
    ∙ write_read text out r.entries r.nodes n m r.meaning r.lent_nodes r.lent_entries h
