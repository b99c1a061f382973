-- What holds after a step that can fail, whether it failed or not. Assumes nothing.
use Rattle.std.specs.Prelude.{Result, Ok, Err, OnOk, OnErr}

module _ {T E P : Type 0} where
  pub on_ok_anyway : (r : Result T E) → P → OnOk r P
  on_ok_anyway (Ok v) p = p
  on_ok_anyway (Err e) p = tt

  pub on_err_anyway : (r : Result T E) → P → OnErr r P
  on_err_anyway (Ok v) p = tt
  on_err_anyway (Err e) p = p
