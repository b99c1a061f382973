-- A whole call of the reader: 32 and 31 before the lines, and what every lent number holds after the unused places are cleared. Assumes nothing.
use Rattle.std.specs.Prelude.{List, [], ◌++◌, ◌≡◌, ℕ, ◌-◌, ◌*◌, ◌/◌, ◌≤◌, ◌<◌, length, take, drop, replicate, Err}
use Rattle.std.proofs.Math.Path.{refl}
use Rattle.std.proofs.Common.{sym, ap, ◌∙◌, arith, take-append-drop, length-take-le}
use Rattle.std.proofs.Math.Seq.{take-length}
use borrow.Author.Tests.{le-leb, lt-leb}
use Rattle.script.specs.Code.Clearing.{Cleared}
use Rattle.script.specs.Flat.{node_width, flat, nodes_in}
use Rattle.script.specs.Flat.Laws.{length-nodes_in, flat-nodes_in, enough-nodes}
use Rattle.script.specs.Limits.{node_limit, entry_limit, byte_limit}
use Rattle.script.specs.Table.{unused}
use Rattle.script.specs.declared.Refusal.{Refusal}
use Rattle.script.specs.declared.Refusal.TheVariants.{TextTooLong, TableTooSmall}
use Rattle.text.specs.Bytes.{lf}
use Rattle.text.specs.Grammar.{Meaning, refused, lines_from, parts, meaning_of}
use Rattle.text.specs.Reading.{nodes_read, entries_read, filled, tried, reading, leaves, reading_in}
use Rattle.text.specs.Code.Steps.{used_nodes, used_entries, Holds}
use Rattle.text.specs.Code.Steps.Taken.{same-frame}
use Rattle.script.specs.Answers.Named.{Reading}

-- ---- 32 and 31

pub holds-refused : (m : Meaning) (r : Refusal) (xs es : List ℕ) → m ≡ refused r → Holds m xs es (Err r) xs es
holds-refused m r xs es e =
    rw e (record { answer-is = refl; nodes_are = refl; entries_are = refl; nodes-room = omega arith; entries-room = omega arith; framed = same-frame xs es })

module _ (text xs es : List ℕ) where
  abbrev tried_in : Meaning
  tried_in = tried text (length (nodes_in xs)) (length es)

  pub few-nodes : length xs / node_width < node_limit → tried_in ≡ refused TableTooSmall
  few-nodes h =
      let l = length-nodes_in xs in
      rw (lt-leb node_limit (length (nodes_in xs)) (omega arith)) refl

  module _ (h : node_limit ≤ length xs / node_width) where
    pub few-entries : length es < entry_limit → tried_in ≡ refused TableTooSmall
    few-entries l = rw (enough-nodes xs h, lt-leb entry_limit (length es) l) refl

    module _ (l : entry_limit ≤ length es) where
      pub too_long : byte_limit < length text → tried_in ≡ refused TextTooLong
      unfolding meaning_of
      too_long b = rw (enough-nodes xs h, le-leb entry_limit (length es) l, lt-leb (length text) byte_limit b) refl

      pub not_too_long : length text ≤ byte_limit → tried_in ≡ lines_from 0 [] [] (parts lf text)
      unfolding meaning_of
      not_too_long b = rw (enough-nodes xs h, le-leb entry_limit (length es) l, le-leb (length text) byte_limit b) refl

-- ---- every lent number

module _ {m : Meaning} {xs es : List ℕ} {r : Reading} {xs₁ es₁ : List ℕ} (h : Holds m xs es r xs₁ es₁) where
  entries-left : {es₂ : List ℕ} → es₂ ≡ take (used_entries r) es₁ ++ replicate (length es₁ - used_entries r) 0 → es₂ ≡ filled (entries_read m) (length es) 0
  entries-left e =
      let l : length (entries_read m) ≡ used_entries r = sym (ap length h.entries_are) ∙ length-take-le (used_entries r) es₁ h.entries-room in
      e ∙ rw (h.entries_are, l, h.framed.entries-length) refl

  module _ {xs₂ : List ℕ} (c : Cleared (used_nodes r) xs₁ xs₂) where
    same_count : length (nodes_in xs₁) ≡ length (nodes_in xs)
    same_count = length-nodes_in xs₁ ∙ rw h.framed.table-length (sym (length-nodes_in xs))

    last-count : length (nodes_in xs₂) ≡ length (nodes_in xs)
    last-count = length-nodes_in xs₂ ∙ rw (c.table-length, h.framed.table-length) (sym (length-nodes_in xs))

    nodes-left : nodes_in xs₂ ≡ filled (nodes_read m) (length (nodes_in xs)) unused
    nodes-left =
        let l : length (nodes_read m) ≡ used_nodes r = sym (ap length h.nodes_are) ∙ length-take-le (used_nodes r) (nodes_in xs₁) h.nodes-room in
        c.nodes_are ∙ rw (h.nodes_are, l, same_count) refl

    rest-left : drop (node_width * length (nodes_in xs)) xs₂ ≡ drop (node_width * length (nodes_in xs)) xs
    rest-left = rw same_count at c.rest ∙ h.framed.rest

    table-left : xs₂ ≡ flat (filled (nodes_read m) (length (nodes_in xs)) unused) ++ drop (node_width * length (nodes_in xs)) xs
    table-left =
        let n = length-nodes_in xs₂ in
        let f = flat-nodes_in xs₂ (length (nodes_in xs₂)) (omega arith) in
        let g : flat (nodes_in xs₂) ≡ take (node_width * length (nodes_in xs)) xs₂ = rw (take-length (nodes_in xs₂)) at f ∙ rw last-count refl in
        sym (rw (← nodes-left, g, ← rest-left) (take-append-drop (node_width * length (nodes_in xs)) xs₂))

pub left_so : (text xs es : List ℕ) {r : Reading} {xs₁ es₁ xs₂ es₂ : List ℕ} → Holds (tried text (length (nodes_in xs)) (length es)) xs es r xs₁ es₁ → Cleared (used_nodes r) xs₁ xs₂
    → es₂ ≡ take (used_entries r) es₁ ++ replicate (length es₁ - used_entries r) 0 → leaves r xs₂ es₂ ≡ reading_in text xs es
unfolding reading_in reading
left_so text xs es h c e = rw (h.answer-is, table-left h c, entries-left h e) refl
