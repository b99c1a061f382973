-- When an output is long enough for a text. Assumes nothing.
use Rattle.std.specs.Prelude.{true, false, List, ◌≡◌, ℕ, ◌≤◌, ◌<◌, length}
use borrow.Author.Tests.{leb-true, le-leb, lt-leb}
use Rattle.text.specs.Writing.{long_enough}

module _ (out text : List ℕ) where
  pub too_short : length out < length text → long_enough out text ≡ false
  unfolding long_enough
  too_short h = lt-leb (length text) (length out) h

  pub long-enough : length text ≤ length out → long_enough out text ≡ true
  unfolding long_enough
  long-enough h = le-leb (length text) (length out) h

  pub enough-fits : long_enough out text ≡ true → length text ≤ length out
  unfolding long_enough
  enough-fits e = leb-true (length text) (length out) e
