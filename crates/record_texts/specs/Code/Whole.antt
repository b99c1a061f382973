-- What a writing makes of a table that was copied: what it makes of the table itself; and what a reading leaves in flat form is what it leaves in records.
-- Assumes nothing.
use Rattle.std.specs.Prelude.{Bool, true, false, ◌&&◌, List, [], ◌++◌, ◌⊎◌, ◌≡◌, ℕ, ◌+◌, ◌-◌, ◌*◌, ◌≤◌, min, leb, take, drop, replicate}
use Rattle.std.proofs.Common.{append_assoc, append-nil, inl, inr, ◌∙◌, arith, take_at, take_all, leb-true, leb-false}
use Rattle.std.proofs.Math.Path.{refl, ap}
use Rattle.std.proofs.Math.ListN.{length, drop_of_length-le}
use Rattle.std.proofs.lemmas.List.{replicate-append-replicate}
use Rattle.std.proofs.Math.Seq.{length-take-le}
use Rattle.script.specs.Flat.{node_width, flat, nodes_in, table_in}
use Rattle.script.specs.Flat.Laws.{length-nodes_in, nodes_in-flat}
use Rattle.script.specs.Limits.{node_limit, entry_limit}
use Rattle.script.specs.Table.{unused}
use Rattle.script.specs.Table.Laws.{passes}
use Rattle.script.specs.Tests.{pick}
use Rattle.script.specs.Tests.Laws.{both_true}
use Rattle.script.specs.declared.Node.{Node}
use Rattle.script.specs.declared.Refusal.TheVariants.{TableTooSmall}
use Rattle.text.specs.Grammar.{Meaning, means, refused, meaning_of}
use Rattle.text.proofs.OneSpelling.{read_passes}
use Rattle.text.specs.Reading.{outcome_of as read_to, nodes_read, filled, table_read, tried, reading, leaves, left_by, reading_in}
use Rattle.text.specs.Writing.{text_of, outcome_of, writing}
use Rattle.copies.specs.Copies.{flat_size, CopiedOut, places, table_of}
use Rattle.copies.specs.Copies.Alike.{Alike, same_answer, alike, table-copied, nodes_in-none}
use Rattle.copies.specs.Copies.Laws.{filled_length}
use Rattle.record_texts.specs.Texts.{Writes, Reads}
use Rattle.script.specs.Answers.Named.{Reading}
use Rattle.script.specs.Answers.Named.{Writing}

-- ---- a writing

module _ (ns ms : List Node) (n : ℕ) (es : List ℕ) (m : ℕ) (a : Alike ns ms n es m) where
  write-alike : (out : List ℕ) → writing (table_of ns n es m) out ≡ writing (table_of ms n es m) out
  unfolding writing
  write-alike out = same_answer ns ms n es m a (λ o ks. outcome_of o (text_of (take m es) ks) out) (λ r. refl)

module _ (ns : List Node) (xs : List ℕ) (lent : ℕ) (left : List ℕ) (size : length xs ≡ flat_size) (c : CopiedOut ns xs lent left) (n : ℕ) (es : List ℕ) (m : ℕ) where
  pub write-copied : (out : List ℕ) (r : Writing) (bs : List ℕ) → Writes (table_in (take (node_width * lent) left) n es m) out r bs → Writes (table_of ns n es m) out r bs
  write-copied out r bs e =
      e ∙ ap (λ t. writing t out) (table-copied ns xs lent left size c n es m) ∙ write-alike (take lent ns) ns n es m (alike ns xs lent left size c n es m) out

-- ---- a reading

module _ (ns : List Node) where
  filled_on : (n lent : ℕ) → length ns ≤ n → n ≤ lent → filled (filled ns n unused) lent unused ≡ filled ns lent unused
  filled_on n lent h l =
      let k : (n - length ns) + (lent - n) ≡ lent - length ns = omega arith in
      rw (filled_length ns n h)
      (append_assoc ns (replicate (n - length ns) unused) (replicate (lent - n) unused)
      ∙ ap (◌++◌ ns) (replicate-append-replicate (n - length ns) (lent - n) unused ∙ ap (λ i. replicate i unused) k))

  -- nodes that were stored for n of the places, and nothing behind them where n is less
  places-left : (n lent : ℕ) (zs : List ℕ) → length ns ≤ n → n ≤ lent → (n ≡ lent) ⊎ (zs ≡ []) → places lent (flat (filled ns n unused) ++ zs) ≡ filled ns lent unused
  places-left n lent zs h l d = ap (λ ks. filled (take lent ks) lent unused) (nodes_in-flat (filled ns n unused) zs) ∙ ap (λ ks. filled ks lent unused) (first d) ∙ filled_on n lent h l
    where
      first : (n ≡ lent) ⊎ (zs ≡ []) → take lent (filled ns n unused ++ nodes_in zs) ≡ filled ns n unused
      first (inl e) = take_at (filled ns n unused) (nodes_in zs) lent (filled_length ns n h ∙ e)
      first (inr e) =
          let f = filled_length ns n h in
          ap (λ z. take lent (filled ns n unused ++ nodes_in z)) e ∙ ap (take lent) (nodes_in-none (filled ns n unused)) ∙ take_all lent (filled ns n unused) (omega arith)

-- a text has at most 128 nodes
nodes-most : (text : List ℕ) (t : Meaning) → meaning_of text ≡ t → length (nodes_read t) ≤ node_limit
nodes-most text (means es ns) e = (passes (table_read es ns node_limit entry_limit) (read_passes text es ns e node_limit entry_limit (omega arith) (omega arith))).nodes_most
nodes-most text (refused r) e = omega arith

-- a reading into n places has at most n nodes
tried-most : (text : List ℕ) (n m : ℕ) → length (nodes_read (tried text n m)) ≤ n
tried-most text n m = by (leb node_limit n && leb entry_limit m) refl
  where
    by : (b : Bool) → leb node_limit n && leb entry_limit m ≡ b → length (nodes_read (pick b (meaning_of text) (refused TableTooSmall))) ≤ n
    by true e =
        let h = leb-true node_limit n (both_true (leb node_limit n) (leb entry_limit m) e).0 in
        let k = nodes-most text (meaning_of text) refl in
        omega arith
    by false e = omega arith

module _ (text : List ℕ) (lent : ℕ) (xs es : List ℕ) (n : ℕ) (size : length xs ≡ flat_size) (least : n ≡ min lent node_limit) where
  abbrev m : ℕ
  m = length es

  -- what a reading into the first n nodes of xs leaves there
  left-first : reading_in text (take (node_width * n) xs) es ≡ left_by (reading text n m) []
  unfolding reading_in
  left-first =
      let l : length (take (node_width * n) xs) ≡ node_width * n = length-take-le (node_width * n) xs (omega arith) in
      let k : length (nodes_in (take (node_width * n) xs)) ≡ n = length-nodes_in (take (node_width * n) xs) ∙ rw l (omega arith) in
      rw (k, drop_of_length-le (take (node_width * n) xs) {i = node_width * n} (omega arith)) refl

  -- fewer places than a script can have are all read into; of more, the first 128, and xs has nothing behind these
  first_or_all : ((tried text n m ≡ tried text lent m) × ((n ≡ lent) ⊎ (drop (node_width * n) xs ≡ [])))
  first_or_all = by (leb node_limit lent) refl
    where
      by : (b : Bool) → leb node_limit lent ≡ b → ((tried text n m ≡ tried text lent m) × ((n ≡ lent) ⊎ (drop (node_width * n) xs ≡ [])))
      by true t =
          let h = leb-true node_limit lent t in
          let k : n ≡ node_limit = omega arith in
          (rw (k, t) refl, inr (drop_of_length-le xs {i = node_width * n} (omega arith)))
      by false t =
          let h = leb-false node_limit lent t in
          let k : n ≡ lent = omega arith in
          (rw k refl, inl k)

  module _ (r : Reading) (ys es' : List ℕ) (e : leaves r ys es' ≡ reading_in text (take (node_width * n) xs) es) where
    abbrev t : Meaning
    t = tried text n m

    whole : leaves r ys es' ≡ left_by (read_to t n m) []
    unfolding reading
    whole = e ∙ left-first

    nodes-left : places lent (ys ++ drop (node_width * n) xs) ≡ filled (nodes_read t) lent unused
    nodes-left =
        let numbers : ys ≡ flat (filled (nodes_read t) n unused) = ap (λ l. l.table) whole ∙ append-nil (flat (filled (nodes_read t) n unused)) in
        ap (λ zs. places lent (zs ++ drop (node_width * n) xs)) numbers
        ∙ places-left (nodes_read t) n lent (drop (node_width * n) xs) (tried-most text n m) (omega arith) first_or_all.1

    pub read_left : Reads text lent m r (places lent (ys ++ drop (node_width * n) xs)) es'
    unfolding reading
    read_left =
        (λ i. record { answer = ap (λ l. l.answer) whole i; lent_nodes = nodes-left i; lent_entries = ap (λ l. l.entries) whole i })
        ∙ ap (λ u. read_to u lent m) first_or_all.0
