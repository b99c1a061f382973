-- The reader from line to line: what each line does to the nodes and entries so far, and how the text goes on. Assumes nothing.
use Rattle.std.specs.Prelude.{Bool, true, false, List, [], ◌∷◌, ◌≡◌, ℕ, suc, ◌+◌, ◌<◌, eqb, length, drop}
use Rattle.std.proofs.Math.Path.{refl}
use Rattle.std.proofs.Common.{ap, ◌∙◌, arith, length-drop, drop-drop}
use Rattle.script.specs.Tests.{pick}
use Rattle.script.specs.Tests.Laws.{true_or_false}
use Rattle.script.specs.declared.Node.{Node}
use Rattle.script.specs.declared.Refusal.TheVariants.{BadLine}
use Rattle.text.specs.Bytes.{lf}
use Rattle.text.specs.Grammar.{refused, admit, after, line_of, lines_from, parts, on_first}
use Rattle.text.specs.SameTable.Text.{parts-some, lines_next}
use Rattle.text.specs.Code.Scan.{line_in, line_ends}
use Rattle.text.specs.Code.Steps.{line_here}

-- ---- a line of a text

pub parts-line : (cs : List ℕ) → line_ends cs ≡ true → parts lf cs ≡ line_in cs ∷ parts lf (drop (suc (length (line_in cs))) cs)
unfolding parts line_in line_ends
parts-line [] e = absurd (true_or_false false e refl)
parts-line (c ∷ cs) e = go (eqb c lf) e (parts-line cs)
  where
    go : (b : Bool) → pick b true (line_ends cs) ≡ true → (line_ends cs ≡ true → parts lf cs ≡ line_in cs ∷ parts lf (drop (suc (length (line_in cs))) cs))
        → pick b ([] ∷ parts lf cs) (on_first c (parts lf cs)) ≡ pick b [] (c ∷ line_in cs) ∷ parts lf (drop (length (pick b [] (c ∷ line_in cs))) cs)
    go true e ih = refl
    go false e ih = ap (on_first c) (ih e)

pub parts_last : (cs : List ℕ) → line_ends cs ≡ false → parts lf cs ≡ cs ∷ []
unfolding parts line_ends
parts_last [] e = refl
parts_last (c ∷ cs) e = go (eqb c lf) e (parts_last cs)
  where
    go : (b : Bool) → pick b true (line_ends cs) ≡ false → (line_ends cs ≡ false → parts lf cs ≡ cs ∷ []) → pick b ([] ∷ parts lf cs) (on_first c (parts lf cs)) ≡ (c ∷ cs) ∷ []
    go true e ih = absurd (true_or_false true refl e)
    go false e ih = ap (on_first c) (ih e)

pub line-within : (cs : List ℕ) → line_ends cs ≡ true → length (line_in cs) < length cs
unfolding line_in line_ends
line-within [] e = absurd (true_or_false false e refl)
line-within (c ∷ cs) e = go (eqb c lf) e (line-within cs)
  where
    go : (b : Bool) → pick b true (line_ends cs) ≡ true → (line_ends cs ≡ true → length (line_in cs) < length cs) → length (pick b [] (c ∷ line_in cs)) < suc (length cs)
    go true e ih = omega arith
    go false e ih = let h = ih e in omega arith

-- the text goes on as its next line is admitted
module _ (i : ℕ) (es : List ℕ) (ns : List Node) where
  ended-line : (cs : List ℕ) → line_ends cs ≡ true → lines_from i es ns (parts lf cs) ≡ after (admit i es ns (line_of (line_in cs))) (λ es' ns'. lines_from (suc i) es' ns' (parts lf (drop (suc (length (line_in cs))) cs)))
  ended-line cs e = rw (parts-line cs e) (lines_next i es ns (line_in cs) (parts-some lf (drop (suc (length (line_in cs))) cs)))

  open_line : (c : ℕ) (cs : List ℕ) → line_ends (c ∷ cs) ≡ false → lines_from i es ns (parts lf (c ∷ cs)) ≡ refused (BadLine i)
  unfolding lines_from
  open_line c cs e = rw (parts_last (c ∷ cs) e) refl

  line_step : (cs : List ℕ) → 0 < length cs → lines_from i es ns (parts lf cs) ≡ after (admit i es ns (line_here cs)) (λ es' ns'. lines_from (suc i) es' ns' (parts lf (drop (suc (length (line_in cs))) cs)))
  line_step [] h = absurd (omega arith)
  line_step (c ∷ cs) h = go (line_ends (c ∷ cs)) refl
    where
      go : (b : Bool) → line_ends (c ∷ cs) ≡ b → lines_from i es ns (parts lf (c ∷ cs)) ≡ after (admit i es ns (line_here (c ∷ cs))) (λ es' ns'. lines_from (suc i) es' ns' (parts lf (drop (suc (length (line_in (c ∷ cs)))) (c ∷ cs))))
      go true e = ended-line (c ∷ cs) e ∙ rw e refl
      go false e = open_line c cs e ∙ rw e refl

  pub text-step : (text : List ℕ) (at : ℕ) → at < length text
      → lines_from i es ns (parts lf (drop at text)) ≡ after (admit i es ns (line_here (drop at text))) (λ es' ns'. lines_from (suc i) es' ns' (parts lf (drop (at + length (line_in (drop at text)) + 1) text)))
  text-step text at h =
      let d = length-drop at text in
      let p : at + length (line_in (drop at text)) + 1 ≡ at + suc (length (line_in (drop at text))) = omega arith in
      rw (p, ← drop-drop (suc (length (line_in (drop at text)))) at text) (line_step (drop at text) (omega arith))
