use Rattle.std.specs.Prelude.{List, ◌++◌, ◌≡◌, ℕ, ◌+◌, ◌≤◌, length, take, Option, Some, None}
use Rattle.std.specs.Io.KnownBytes.{Consumes}
use Rattle.std.proofs.Common.{arith, refl, length-take-le}
use Rattle.std.proofs.Math.Seq.{take-append-add}
use Rattle.std.proofs.lemmas.List.{take-append-le}
use Rattle.std.proofs.lemmas.Grind.{common_steps}
use Rattle.full_reads.proofs.read_full.Goals as goal

-- a read after another
both : (old mid new : Option (List ℕ)) (a b : List ℕ) → Consumes old mid a → Consumes mid new b → Consumes old new (a ++ b)
both None mid new a b p q = tt
both (Some x) None new a b p q = elim p [ ]
both (Some x) (Some y) None a b p q = elim q [ ]
both (Some x) (Some y) (Some z) a b p q = grind (arith, common_steps)

-- what stands in front after it
front : (xs ys rest : List ℕ) (d n : ℕ) → length xs ≡ d → n ≤ length ys → take (d + n) (xs ++ (ys ++ rest)) ≡ xs ++ take n ys
front xs ys rest d n e k = rw (← e, take-append-add xs (ys ++ rest) n, take-append-le n ys rest k) refl

pub loop-done-preserved : goal.loop-done-preserved
loop-done-preserved g c =
    let l = c.loop-done in
    record {
      count = grind (arith, common_steps);
      bytes =
          rw (front (take l.done l.into) c.read.new.buf _ l.done c.in-Ok.count (length-take-le l.done l.into l.invariant.count) c.in-Ok.ensures.bound.0)
          (both _ _ _ _ _ l.invariant.bytes c.in-Ok.ensures.bytes.0);
    }
