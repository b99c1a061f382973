-- What holds of every element of a list holds of the one at a place, and still after a store or one more at the end. Assumes nothing.
use Rattle.std.specs.Prelude.{List, [], ◌∷◌, ◌++◌, ◌≡◌, ℕ, zero, suc, set}
use Rattle.std.proofs.Math.Option.{some, none-ne-some, some-injective}
use Rattle.std.proofs.Math.ListN.{get_elem?}
use Rattle.rules.specs.Evaluation.Every.{Every, no_value, one_value}

module _ {A : Type 0} {P : A → Type 0} where
  pub every_at : {xs : List A} (i : ℕ) {x : A} → Every P xs → get_elem? xs i ≡ some x → P x
  every_at i no_value e = absurd (none-ne-some _ e)
  every_at zero (one_value h hs) e = rw (some-injective _ _ e) at h
  every_at (suc i) (one_value h hs) e = every_at i hs e

  pub every_set : {xs : List A} (i : ℕ) {x : A} → Every P xs → P x → Every P (set xs i x)
  every_set i no_value k = no_value
  every_set zero (one_value h hs) k = one_value k hs
  every_set (suc i) (one_value h hs) k = one_value h (every_set i hs k)

  pub every_both : {xs ys : List A} → Every P xs → Every P ys → Every P (xs ++ ys)
  every_both no_value ks = ks
  every_both (one_value h hs) ks = one_value h (every_both hs ks)

  pub every_next : {xs : List A} {x : A} → Every P xs → P x → Every P (xs ++ (x ∷ []))
  every_next hs k = every_both hs (one_value k no_value)

  -- of every element, what it brings with it
  pub every_also : {Q : A → Type 0} {xs : List A} → ((x : A) → P x → Q x) → Every P xs → Every Q xs
  every_also f no_value = no_value
  every_also f (one_value {x = x} h hs) = one_value (f x h) (every_also f hs)
