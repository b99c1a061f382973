-- What a trial leaves in the lent table, entries and output. Assumes nothing.
use Rattle.std.specs.Prelude.{List, ◌≡◌, refl, ℕ, ◌/◌, min, length, replicate, Err, Ok}
use Rattle.std.proofs.Common.{sym, ap, ◌∙◌}
use Rattle.std.proofs.lemmas.List.{length-replicate}
use Rattle.script.specs.Flat.{node_width}
use Rattle.script.specs.declared.Refusal.{Refusal}
use Rattle.script.specs.declared.Script.{Script}
use Rattle.script.specs.Table.{Table}
use Rattle.text.specs.Reading.{reading}
use Rattle.text.specs.Writing.{Outcome, writing}
use Rattle.copies.specs.Copies.{copied}
use Rattle.record_texts.specs.Texts.{Writes}
use Rattle.call_texts.specs.Tables.{place_count, table_as, ReadBack}
use Rattle.script.specs.Answers.Named.{Reading, Writing}

-- the output after a writing onto full stops
abbrev pub wrote_by : List ℕ → ℕ → List ℕ → ℕ → List ℕ → List ℕ
wrote_by xs nodes es used out = (writing (table_as xs nodes es used) (replicate (length out) 46)).bytes

-- the output after the writing of what was read; as it was, if nothing was
abbrev pub output_by : Reading → List ℕ → List ℕ → List ℕ → List ℕ
output_by (Ok s) xs es out = wrote_by xs s.nodes es s.entries out
output_by (Err r) xs es out = out

-- the table and the entries after the reading of a text, over sevens
abbrev pub table_after : List ℕ → List ℕ → List ℕ → List ℕ
table_after text table entries = copied (reading text place_count (length entries)).lent_nodes (min place_count (length table / node_width)) (replicate (length table) 7)

abbrev pub entries_after : List ℕ → List ℕ → List ℕ
entries_after text entries = (reading text place_count (length entries)).lent_entries

-- the places and entries hold what reading leaves, and the output what writing does
pub record Tried (text table entries out table₁ entries₁ out₁ : List ℕ) : Type 0 where
  pub table-left : table₁ ≡ table_after text table entries
  pub entries-left : entries₁ ≡ entries_after text entries
  pub out-left : out₁ ≡ output_by (reading text place_count (length entries)).answer table₁ entries₁ out

-- ---- how the trial comes to it

pub wrote-is : (t : Table) (out : List ℕ) {blank left : List ℕ} {r : Writing} → blank ≡ replicate (length out) 46 → Writes t blank r left
    → left ≡ (writing t (replicate (length out) 46)).bytes
wrote-is t out f w = ap (λ (o : Outcome). o.bytes) (w ∙ ap (writing t) f)

module _ (table entries : List ℕ) {text filled sevens table₁ entries₁ : List ℕ} {a : Reading} (f : filled ≡ replicate (length table) 7) (g : sevens ≡ replicate (length entries) 7)
    (r : ReadBack text filled (length sevens) a table₁ entries₁) where
  as_many : length sevens ≡ length entries
  as_many = ap length g ∙ length-replicate {A = ℕ} (length entries) 7

  table_is : table₁ ≡ table_after text table entries
  table_is = rw (as_many, f, length-replicate {A = ℕ} (length table) 7) at r.nodes_are

  entries_are : entries₁ ≡ entries_after text entries
  entries_are = rw as_many at r.entries_are

  answer-is : a ≡ (reading text place_count (length entries)).answer
  answer-is = rw as_many at r.answer-is

  pub tried_read : {s : Script} {out left : List ℕ} → a ≡ Ok s → left ≡ wrote_by table₁ s.nodes entries₁ s.entries out
      → Tried text table entries out table₁ entries₁ left
  tried_read e w = record { table-left = table_is; entries-left = entries_are; out-left = rw (sym answer-is ∙ e) w }

  pub tried-refused : {x : Refusal} {out : List ℕ} → a ≡ Err x → Tried text table entries out table₁ entries₁ out
  tried-refused e = record { table-left = table_is; entries-left = entries_are; out-left = rw (sym answer-is ∙ e) refl }
