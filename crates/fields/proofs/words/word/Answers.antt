-- `fields::words::word` meets its contract: the words stand in the order of the rows. Assumes nothing.
use native.Mathlib.Omega.{arith}
use mathlib.Core.Path.{refl}
use Rattle.std.proofs.Common.{◌≡◌, ◌<◌, ℕ, zero, suc, length, List, [], ◌∷◌, slice_index_or, Bor}
use Rattle.std.proofs.Math.ListN.{get_elem?}
use Rattle.script.specs.Rows.{Row, rows, row_of}
use Rattle.text.specs.Code.Output.{word_by, word_of}
use Rattle.fields.proofs.words.word.Goals as goal

-- each byte string is the word of the row in its place
data Words : List (Bor (List ℕ)) → List Row → Type 0 where
  none : Words [] []
  next : {b : Bor (List ℕ)} {r : Row} {bs : List (Bor (List ℕ))} {rs : List Row} → b.now ≡ r.word → Words bs rs → Words (b ∷ bs) (r ∷ rs)

word-at : {bs : List (Bor (List ℕ))} {rs : List Row} (b : Bor (List ℕ)) (k : ℕ) → Words bs rs → k < length bs
    → (slice_index_or bs k b).now ≡ word_by (get_elem? rs k)
word-at b k none l = absurd (omega arith)
word-at b zero (next e w) l = e
word-at b (suc k) (next e w) l = word-at b k w (omega arith)

pub bounds-kind : goal.bounds-kind
unfolding rows
bounds-kind c = omega arith

pub returns : goal.returns
unfolding word_of row_of rows
returns c = word-at _ c.args.kind
    (next refl (next refl (next refl (next refl (next refl (next refl (next refl (next refl
    (next refl (next refl (next refl (next refl (next refl (next refl (next refl none)))))))))))))))
    (omega arith)
