-- `writer::put_entries` meets its contract: the lines of the entries from the loop's place on remain to be stored. Assumes nothing.
use mathlib.Core.Path.{◌≡◌, refl}
use Prim.Native.Nat.{ℕ, suc, ◌+◌, ◌<◌}
use mathlib.Core.List.{List, [], ◌++◌}
use native.Mathlib.Omega.{arith}
use native.Mathlib.Numerals.{add-one}
use lib.ListN.{get_or, length, drop}
use lib.Seq.{drop-cons, drop-length}
use Rattle.text.specs.Code.Output.Laws.{remains_all, remains_less, remains_room, remains_none}
use Rattle.text.specs.Writing.{entry_text, entries_text}
use Rattle.writer.proofs.put_entries.Goals as goal

one_more : (es : List ℕ) (i : ℕ) → i < length es → entries_text (drop i es) ≡ entry_text (get_or es i 0) ++ entries_text (drop (i + 1) es)
unfolding entries_text
one_more es i h = rw (add-one i, drop-cons es i 0 h) refl

no_more : (es : List ℕ) → entries_text (drop (length es) es) ≡ []
unfolding entries_text
no_more es = rw (drop-length es) refl

pub loop-t-init : goal.loop-t-init
loop-t-init c = remains_all

pub put_entry-at-requires : goal.put_entry-at-requires
put_entry-at-requires c =
    let es = c.args.entries.now in
    let l = c.loop-t in
    let r = rw (one_more es l.t-index (omega arith)) at l.invariant in
    let m = remains_room (entry_text (get_or es l.t-index 0)) _ r in
    omega (arith, c.requires)

pub loop-t-preserved : goal.loop-t-preserved
loop-t-preserved c =
    let es = c.args.entries.now in
    let l = c.loop-t in
    let r = rw (one_more es l.t-index (omega arith)) at l.invariant in
    remains_less {xs = entry_text (get_or es l.t-index 0)} r c.put_entry-at.ensures

pub returns : goal.returns
returns c =
    let es = c.args.entries.now in
    let l = c.loop-t in
    let e : l.t-index ≡ length es = omega arith in
    remains_none (rw (e, no_more es) at l.invariant)
