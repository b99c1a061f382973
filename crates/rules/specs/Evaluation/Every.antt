-- What holds of every element of a list holds of the one at a place, and still after a store or one more at the end. Assumes nothing.
use Rattle.std.specs.Prelude.{List, [], ◌∷◌}

pub data Every {A : Type 0} (P : A → Type 0) : List A → Type 0 where
  no_value : Every P []
  one_value : {x : A} {xs : List A} → P x → Every P xs → Every P (x ∷ xs)
