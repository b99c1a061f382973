-- Values in lent bytes: the bytes that hold values are read as these values, and a value put at a place or behind the last one gives the bytes of the
-- values so changed. Assumes nothing.
use Rattle.std.specs.Prelude.{◌≡◌, ℕ, zero, suc, ◌+◌, ◌-◌, ◌*◌, ◌<◌, ◌≤◌, List, [], ◌∷◌, ◌++◌, length, take, drop, slice_set, refl}
use Rattle.std.proofs.Common.{ap, sym, ◌∙◌, arith, length-append, length-set, take-append-drop, length-take-le, take_at, drop-drop}
use Rattle.std.proofs.lemmas.List.Edits.{sets, sets-eq}
use Rattle.std.proofs.Math.Seq.{length_front, drop-append-add}
use Rattle.std.proofs.lemmas.List.{take-set-le}
use Rattle.script.specs.declared.Value.{Value}
use Rattle.rules.specs.Running.{bytes_of, all_bytes, values_of, stored}
use Rattle.rules.specs.Running.Laws.{AllInRange}
use Rattle.rules.proofs.Running.Laws.{values-bytes, length-bytes}
use Rattle.operators.specs.Steps.{Holds}

-- ---- lists

take-sets : (n : ℕ) (l : List ℕ) (i : ℕ) (vs : List ℕ) → n ≤ i → take n (sets l i vs) ≡ take n l
take-sets n l i [] h = refl
take-sets n l i (a ∷ vs) h = take-sets n (slice_set l i a) (suc i) vs (omega arith) ∙ take-set-le n l i a h

drop-behind : (p q : List ℕ) (m n : ℕ) → length p ≡ m → m ≤ n → drop n (p ++ drop m q) ≡ drop n q
drop-behind p q m n e h =
    let there : n ≡ length p + (n - m) = omega arith in
    let here : m + (n - m) ≡ n = omega arith in
    ap (λ k. drop k (p ++ drop m q)) there
    ∙ drop-append-add p (drop m q) (n - m)
    ∙ drop-drop (n - m) m q
    ∙ ap (λ k. drop k q) here

-- ---- bytes of several values

bytes_next : (vs : List Value) (v : Value) → all_bytes (vs ++ (v ∷ [])) ≡ all_bytes vs ++ bytes_of v
unfolding all_bytes
bytes_next [] v = refl
bytes_next (u ∷ vs) v = ap (λ r. bytes_of u ++ r) (bytes_next vs v)

sets-value : (vs : List Value) (rest : List ℕ) (i : ℕ) → i < length vs → (w : Value)
    → sets (all_bytes vs ++ rest) (5 * i) (bytes_of w) ≡ all_bytes (slice_set vs i w) ++ rest
unfolding all_bytes
sets-value [] rest i h w = absurd (omega arith)
sets-value (v ∷ vs) rest zero h w = refl
sets-value (v ∷ vs) rest (suc i) h w =
    let m : 5 * suc i ≡ suc (suc (suc (suc (suc (5 * i))))) = omega arith in
    rw m (ap (λ r. bytes_of v ++ r) (sets-value vs rest i (omega arith) w))

-- ---- read

pub holds-stored : {bs : List ℕ} {vs : List Value} → Holds bs vs → stored bs vs ≡ bs
holds-stored {bs} {vs} h = rw (← h.bytes) (take-append-drop (5 * length vs) bs)

pub holds-values : {bs : List ℕ} {vs : List Value} → Holds bs vs → values_of (length vs) bs ≡ vs
holds-values {bs} {vs} h =
    sym (ap (values_of (length vs)) (holds-stored h)) ∙ values-bytes (drop (5 * length vs) bs) h.ranged

-- bytes that begin as others do hold what those hold
pub holds_front : {bs left : List ℕ} {vs : List Value} → take (5 * length vs) left ≡ take (5 * length vs) bs → Holds bs vs → Holds left vs
holds_front e h = record { bytes = e ∙ h.bytes; ranged = h.ranged }

-- ---- written

pub stored-holds : (bs : List ℕ) {vs : List Value} → AllInRange vs → Holds (stored bs vs) vs
stored-holds bs {vs} r = record { bytes = take_at (all_bytes vs) (drop (5 * length vs) bs) (5 * length vs) (length-bytes vs); ranged = r }

pub stored-length : (bs : List ℕ) (vs : List Value) → 5 * length vs ≤ length bs → length (stored bs vs) ≡ length bs
stored-length bs vs h = length_front bs (all_bytes vs) (5 * length vs) (length-bytes vs ∙ sym (length-take-le (5 * length vs) bs h))

pub stored_over : (bs : List ℕ) (vs ws : List Value) → length vs ≤ length ws → stored (stored bs vs) ws ≡ stored bs ws
stored_over bs vs ws h =
    ap (λ r. all_bytes ws ++ r) (drop-behind (all_bytes vs) bs (5 * length vs) (5 * length ws) (length-bytes vs) (omega arith))

pub stored-set : {bs : List ℕ} {vs : List Value} → Holds bs vs → (i : ℕ) → i < length vs → (w : Value) → sets bs (5 * i) (bytes_of w) ≡ stored bs (slice_set vs i w)
stored-set {bs} {vs} h i l w =
    ap (λ r. sets r (5 * i) (bytes_of w)) (sym (holds-stored h))
    ∙ sets-value vs (drop (5 * length vs) bs) i l w
    ∙ ap (λ k. all_bytes (slice_set vs i w) ++ drop (5 * k) bs) (sym (length-set vs i w))

pub stored_next : {bs : List ℕ} {vs : List Value} → Holds bs vs → 5 * length vs + 4 < length bs → (v : Value)
    → sets bs (5 * length vs) (bytes_of v) ≡ stored bs (vs ++ (v ∷ []))
stored_next {bs} {vs} h l v =
    let m : 5 * length vs + 5 ≡ 5 * length (vs ++ (v ∷ [])) = simp length-append (omega arith) in
    sets-eq (bytes_of v) bs (5 * length vs) (omega arith)
    ∙ rw (h.bytes, m, bytes_next vs v)

-- what stands before a stored value stays
pub kept_next : (bs : List ℕ) (i : ℕ) (v : Value) → take i (sets bs i (bytes_of v)) ≡ take i bs
kept_next bs i v = take-sets i bs i (bytes_of v) (omega arith)
