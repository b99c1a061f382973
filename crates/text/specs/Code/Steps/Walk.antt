-- The walk over all lines: what holds before each of them, how a line taken carries it on, and what a refused line or the end of the text gives.
-- Assumes nothing.
use Rattle.std.specs.Prelude.{List, [], ◌≡◌, refl, ℕ, suc, ◌+◌, ◌*◌, ◌≤◌, ◌<◌, ltb, length, drop, Err, Ok}
use Rattle.std.proofs.Math.Option.{Option, none, some}
use Rattle.std.proofs.Common.{sym, ◌∙◌, arith}
use Rattle.std.proofs.Math.ListN.{drop_of_length-le}
use Rattle.script.specs.Flat.Laws.{length-nodes_in}
use Rattle.script.specs.Flat.{node_width}
use Rattle.script.specs.Limits.{node_limit, entry_limit, size_of}
use Rattle.script.specs.Table.{tree_test}
use Rattle.script.specs.Tests.{need}
use Rattle.script.specs.declared.Refusal.{Refusal}
use Rattle.script.specs.declared.Refusal.TheVariants.{NoNode}
use Rattle.script.specs.declared.Script.{Script}
use Rattle.text.specs.Bytes.{lf}
use Rattle.text.specs.Grammar.{after, unless, at_end, lines_from, parts}
use Rattle.text.specs.Code.Scan.{line_in}
use Rattle.text.specs.Code.Steps.{nodes_by, entries_by, Kept, Framed, step_of, GoesTo, goes-next, Took, ended_by, Holds}
use Rattle.text.specs.Code.Steps.Laws.{text-step}
use Rattle.text.specs.Code.Steps.Taken.{same-frame, frames, nodes-length, entries-length}
use Rattle.text.specs.Code.Named.{Step}

-- before line i, which starts at `at`: what the rest means after the entries and nodes so far, the text means
pub record Walked (text xs₀ es₀ : List ℕ) (s : Script) (xs es : List ℕ) (at i : ℕ) : Type 0 where
  pub within : at ≤ length text
  pub lines-most : i ≤ at
  pub kept : Kept s xs es
  pub framed : Framed xs₀ es₀ xs es
  pub same : lines_from i (entries_by s es) (nodes_by s xs) (parts lf (drop at text)) ≡ lines_from 0 [] [] (parts lf text)

pub walk_start : (text xs es : List ℕ) → node_width * node_limit ≤ length xs → entry_limit ≤ length es → Walked text xs es (size_of 0 0) xs es 0 0
walk_start text xs es h l =
    record {
      within = omega arith;
      lines-most = omega arith;
      kept = record { lent-nodes = h; lent-entries = l; nodes-most = omega arith; entries-most = omega arith; formed = λ i b. absurd (omega arith) };
      framed = same-frame xs es;
      same = refl;
    }

-- where a line taken goes on
goes_at : {at next most : ℕ} {xs es : List ℕ} {s : Script} {n : ℕ} → GoesTo at next most xs es (Ok (s, n)) → (n ≡ next) × Kept s xs es × (at < next) × (next ≤ most)
goes_at (goes-next k a b) = (refl, k, a, b)

module _ {text xs₀ es₀ : List ℕ} {s : Script} {xs es : List ℕ} {at i : ℕ} (w : Walked text xs₀ es₀ s xs es at i) where
  -- the text goes on as the grammar admits the line
  walk_step : at < length text → {r : Step} {xs' es' : List ℕ} → Took text at i s xs es r xs' es'
      → after (step_of r xs' es') (λ es' ns'. lines_from (suc i) es' ns' (parts lf (drop (at + length (line_in (drop at text)) + 1) text))) ≡ lines_from 0 [] [] (parts lf text)
  walk_step h t = rw t.step_is (sym (text-step i (entries_by s es) (nodes_by s xs) text at h) ∙ w.same)

  pub walk_on : at < length text → {s' : Script} {next : ℕ} {xs' es' : List ℕ} → Took text at i s xs es (Ok (s', next)) xs' es' → Walked text xs₀ es₀ s' xs' es' next (suc i) × (at < next)
  walk_on h {s'} {next} {xs'} {es'} t =
      let g = goes_at t.goes in
      let n = g.0 in
      let l = w.lines-most in (
        record {
          within = omega (arith, g.3);
          lines-most = omega (arith, g.2);
          kept = g.1;
          framed = frames w.framed t.framed;
          same = rw n (walk_step h t);
        },
        omega (arith, g.2),
      )

  pub walk_refused : at < length text → {r : Refusal} {xs' es' : List ℕ} → Took text at i s xs es (Err r) xs' es' → Holds (lines_from 0 [] [] (parts lf text)) xs₀ es₀ (Err r) xs' es'
  walk_refused h t =
      rw (← walk_step h t)
      (record { answer-is = refl; nodes_are = refl; entries_are = refl; nodes-room = omega arith; entries-room = omega arith; framed = frames w.framed t.framed })

  -- the end of the text
  at_last : length text ≤ at → at_end (entries_by s es) (nodes_by s xs) ≡ lines_from 0 [] [] (parts lf text)
  unfolding lines_from parts
  at_last h = rw drop_of_length-le at w.same

ends_as : (o : Option Refusal) (s : Script) (xs es xs₀ es₀ : List ℕ) → Kept s xs es → Framed xs₀ es₀ xs es → Holds (unless o (entries_by s es) (nodes_by s xs)) xs₀ es₀ (ended_by o s) xs es
ends_as none s xs es xs₀ es₀ k f =
    let n = nodes-length [] 0 0 s xs es k in
    let e = entries-length [] 0 0 s xs es k in
    let l = length-nodes_in xs in
    let a = k.lent-nodes in
    let b = k.nodes-most in
    let c = k.lent-entries in
    let d = k.entries-most in
    record { answer-is = rw (n, e) refl; nodes_are = refl; entries_are = refl; nodes-room = omega arith; entries-room = omega arith; framed = f }
ends_as (some r) s xs es xs₀ es₀ k f =
    record { answer-is = refl; nodes_are = refl; entries_are = refl; nodes-room = omega arith; entries-room = omega arith; framed = f }

pub walk_end : {text xs₀ es₀ : List ℕ} {s : Script} {xs es : List ℕ} {at i : ℕ} → Walked text xs₀ es₀ s xs es at i → length text ≤ at
    → Holds (lines_from 0 [] [] (parts lf text)) xs₀ es₀ (ended_by (need (ltb 0 s.nodes) NoNode (tree_test (nodes_by s xs))) s) xs es
unfolding at_end
walk_end {s = s} {xs = xs} {es = es} w h =
    let n = nodes-length [] 0 0 s xs es w.kept in
    rw (← at_last w h) (rw n (ends_as (need (ltb 0 s.nodes) NoNode (tree_test (nodes_by s xs))) s xs es _ _ w.kept w.framed))
