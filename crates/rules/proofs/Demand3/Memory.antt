-- The cells beside the write log of a path. Each cell's content has its type, or a symbol that denotes the cell has a wrong write that no right one
-- followed; a consistent log leaves none of these, so the typing then fits the cells. Each step of a path keeps this. Assumes nothing.
use Rattle.std.specs.Prelude.{◌≡◌, refl, Bool, true, false, not, ◌&&◌, ◌||◌, List, [], ◌∷◌, ◌++◌, ◌⊎◌, ℕ, suc, ◌≤◌, ◌<◌, eqb, length, set}
use Rattle.std.proofs.Common.{sym, ap, ◌∙◌, subst, true≢false, inl, inr, arith, length-append, length-set, eqb-true, eq-eqb, ne_eqb}
use Rattle.std.proofs.Math.Option.{none, some}
use Rattle.std.proofs.lemmas.Bool.{eqb-false}
use Rattle.script.specs.Tests.{pick}
use Rattle.script.specs.Tests.Laws.{both_true, some-not-none}
use Rattle.script.specs.declared.Value.{Value}
use Rattle.script.specs.declared.Value.TheVariants.{Location}
use Rattle.rules.specs.Demand3.Meaning.{Entry, entry}
use Rattle.rules.specs.Demand3.Stands.{StandsFor, Distinct, valuation}
use Rattle.rules.proofs.Demand3.Stands.{stands-extends, stands-type, apart-differ, not-apart, same-cell, location_inside_lem}
use Rattle.rules.specs.Paths.{Write, write_of, is_right, has, consistent_after, lookup}
use Rattle.rules.specs.Symbolic.{Origin, made, initial, other, Symbolic, type_of, apart}
use Rattle.rules.specs.Typings.{At, here, there, HasType, is_location, Fits, HaveTypes, Extends}
use Rattle.rules.proofs.Typings.Laws.{split-last, at-below, below_at, at_same, at_last, at_set_same, at_set_other, at_unset, extends_self, extends_append, each-length, each_at, each_from, each-by, type-extends}
use Rattle.rules.specs.Demand3.Memory.{Holds, Memory, Pending, WrittenBelow, and-write, no_writes, pending, ref_write}

-- ---- a consistent log

or-false : (a b : Bool) → a ≡ false → b ≡ false → a || b ≡ false
or-false false b e f = f
or-false true b e f = e

none-pending : (mended : List ℕ) (log : List Write) (s : ℕ) → consistent_after mended log ≡ true → has mended s ≡ false → pending log s ≡ false
unfolding consistent_after has pending
none-pending mended [] s c h = refl
none-pending mended (w ∷ ws) s c h = go (λ m d k. none-pending m ws s d k) (eqb w.through s) refl (is_right w) refl c
  where
    go : ((m : List ℕ) → consistent_after m ws ≡ true → has m s ≡ false → pending ws s ≡ false)
        → (a : Bool) → eqb w.through s ≡ a → (b : Bool) → is_right w ≡ b
        → pick b (consistent_after (w.through ∷ mended) ws) (has mended w.through && consistent_after mended ws) ≡ true
        → pick a (not b) (pending ws s) ≡ false
    go ih true ea true eb d = refl
    go ih true ea false eb d =
        let q = both_true (has mended w.through) (consistent_after mended ws) d in
        absurd (true≢false (sym q.0 ∙ ap (has mended) (eqb-true w.through s ea) ∙ h))
    go ih false ea true eb d = ih (w.through ∷ mended) d (or-false (eqb w.through s) (has mended s) ea h)
    go ih false ea false eb d = ih mended (both_true (has mended w.through) (consistent_after mended ws) d).1 h

pub consistent-fits : {typing : List ℕ} {ρ : List Entry} {cells : List Value} {log : List Write}
    → Memory typing ρ cells log → consistent_after [] log ≡ true → Fits typing cells
unfolding has
consistent-fits {typing} {ρ} {cells} {log} m c = each-by cells typing (sym m.as_many) (λ l x t a b. settled l x t (m.contents l t x a b))
  where
    settled : (l : ℕ) (x : Value) (t : ℕ) → HasType typing x t ⊎ Pending ρ log l → HasType typing x t
    settled l x t (inl h) = h
    settled l x t (inr p) = absurd (true≢false (sym p.is-pending ∙ none-pending [] log p.through c refl))

-- ---- the start of a path, and the end of a typed block

pub fitting : {typing : List ℕ} {ρ : List Entry} {cells : List Value} → Fits typing cells → Distinct ρ
    → ((o : Origin) (s l : ℕ) → At ρ s (entry o (Location l)) → l < length cells) → Memory typing ρ cells []
unfolding lookup
fitting {typing} {ρ} {cells} f d live =
    record {
      as_many = sym (each-length f);
      contents = λ l t x a b. inl (typed_at a b);
      recent = λ o s l v a e. absurd (some-not-none v (sym e));
      written = no_writes;
      apart-cells = d;
      live = live;
    }
  where
    typed_at : {l t : ℕ} {x : Value} → At cells l x → At typing l t → HasType typing x t
    typed_at {t = t} a b = let q = each_at f b in subst (λ (y : Value). HasType typing y t) (at_same q.1 a) q.2

-- a location that has a type is below the cells
type-live : {typing : List ℕ} {cells : List Value} {l t : ℕ} → Fits typing cells → HasType typing (Location l) t → l < length cells
type-live f (is_location a h) = let e = each-length f in let b = at-below a in omega arith

pub value-live : {typing : List ℕ} {cells : List Value} {x : Value} {t : ℕ} → Fits typing cells → HasType typing x t
    → (l : ℕ) → x ≡ Location l → l < length cells
value-live {typing} {t = t} f h l e = type-live f (subst (λ (y : Value). HasType typing y t) e h)

-- two variables may be one cell
two-variables : (s u : ℕ) {o p : Origin} → o ≡ initial → p ≡ initial → apart o s p u ≡ false
unfolding apart
two-variables s u e f = rw (e, f) refl

valuation-at : (xs : List Value) {s : ℕ} {e : Entry} → At (valuation xs) s e → (e.origin ≡ initial) × At xs s e.value
valuation-at (x ∷ xs) here = (refl, here)
valuation-at (x ∷ xs) (there a) = let q = valuation-at xs a in (q.0, there q.1)
valuation-at [] {s = s} {e = e} x' = elim x' [ ]

pub memory_start : {typing : List ℕ} {cells env : List Value} {types : List ℕ} → Fits typing cells → HaveTypes typing env types
    → Memory typing (valuation env) cells []
memory_start {typing} {cells} {env} f h =
    fitting f (record { distinct = λ o p s u l a b. two-variables s u (valuation-at env a).0 (valuation-at env b).0 })
    (λ o s l a. let q = each_from h (valuation-at env a).1 in type-live f q.2)

-- ---- a fresh symbol

-- a symbol from elsewhere is apart from none
apart_other : (o : Origin) (s u : ℕ) → apart o s other u ≡ false
unfolding apart
apart_other made s u = refl
apart_other initial s u = refl
apart_other other s u = refl

other-apart : (s : ℕ) (o : Origin) (u : ℕ) → apart other s o u ≡ false
unfolding apart
other-apart s o u = refl

-- the log knows nothing of a symbol that is not made yet
unwritten : {n : ℕ} (log : List Write) → WrittenBelow n log → lookup other n log ≡ none
unfolding lookup
unwritten [] w = refl
unwritten {n} (w ∷ ws) (and-write h q) =
    ap (λ (b : Bool). pick b (lookup other n ws) (pick (eqb w.through n) (some w.value) none)) (apart_other w.origin w.through n)
    ∙ ap (λ (b : Bool). pick b (some w.value) none) (ne_eqb w.through n (λ e. omega arith))

pub snoc_length : {A : Type 0} (xs : List A) (x : A) → length (xs ++ (x ∷ [])) ≡ suc (length xs)
snoc_length xs x = omega (arith, length-append xs (x ∷ []))

written-more : {n m : ℕ} {log : List Write} → n ≤ m → WrittenBelow n log → WrittenBelow m log
written-more h no_writes = no_writes
written-more h (and-write {w = w} b q) = and-write {w = w} (omega arith) (written-more h q)

pending-extends : {ρ ρ' : List Entry} {log : List Write} {l : ℕ} → Extends ρ ρ' → Pending ρ log l → Pending ρ' log l
pending-extends {l = l} e p =
    record {
      origin = p.origin;
      through = p.through;
      denotes = e.keeps p.through (entry p.origin (Location l)) p.denotes;
      is-pending = p.is-pending;
    }

holds-extends : {typing typing' : List ℕ} {ρ ρ' : List Entry} {cells cells' : List Value} {l : ℕ} {v : Symbolic}
    → Extends typing typing' → Extends ρ ρ' → Extends cells cells' → Holds typing ρ cells l v → Holds typing' ρ' cells' l v
holds-extends {l = l} d r c h =
    record { content = h.content; placed = c.keeps l h.content h.placed; stands = stands-extends d r h.stands }

value_of : {e f : Entry} → e ≡ f → e.value ≡ f.value
value_of q = ap (λ (x : Entry). x.value) q

origin_of : {e f : Entry} → e ≡ f → e.origin ≡ f.origin
origin_of q = ap (λ (x : Entry). x.origin) q

pub memory-fresh : {typing : List ℕ} {ρ : List Entry} {cells : List Value} {log : List Write} {x : Value}
    → Memory typing ρ cells log → ((l : ℕ) → x ≡ Location l → l < length cells) → Memory typing (ρ ++ (entry other x ∷ [])) cells log
memory-fresh {typing} {ρ} {cells} {log} {x} m known =
    record {
      as_many = m.as_many;
      contents = λ l t y a b. still (m.contents l t y a b);
      recent = λ o s l v a e. recently o s l v e (split-last ρ a);
      written = written-more (omega (arith, snoc_length ρ (entry other x))) m.written;
      apart-cells = record { distinct = λ o p s u l a b. distinctly o p s u l (split-last ρ a) (split-last ρ b) };
      live = λ o s l a. lively o s l (split-last ρ a);
    }
  where
    still : {l t : ℕ} {y : Value} → HasType typing y t ⊎ Pending ρ log l → HasType typing y t ⊎ Pending (ρ ++ (entry other x ∷ [])) log l
    still (inl h) = inl h
    still (inr p) = inr (pending-extends (extends_append (entry other x ∷ [])) p)

    recently : (o : Origin) (s l : ℕ) (v : Symbolic) → lookup o s log ≡ some v
        → At ρ s (entry o (Location l)) ⊎ ((s ≡ length ρ) × (entry o (Location l) ≡ entry other x))
        → Holds typing (ρ ++ (entry other x ∷ [])) cells l v
    recently o s l v e (inl a) = holds-extends extends_self (extends_append (entry other x ∷ [])) extends_self (m.recent o s l v a e)
    recently o s l v e (inr q) =
        let n = unwritten log m.written in
        let z : ◌≡◌ {A = ℕ} 0 1 = cc (e, q.0, origin_of q.1, n) in absurd (omega arith)

    distinctly : (o p : Origin) (s u l : ℕ) → At ρ s (entry o (Location l)) ⊎ ((s ≡ length ρ) × (entry o (Location l) ≡ entry other x))
        → At ρ u (entry p (Location l)) ⊎ ((u ≡ length ρ) × (entry p (Location l) ≡ entry other x)) → apart o s p u ≡ false
    distinctly o p s u l (inl a) (inl b) = m.apart-cells.distinct o p s u l a b
    distinctly o p s u l (inl a) (inr q) = rw (origin_of q.1) (apart_other o s u)
    distinctly o p s u l (inr q) b = rw (origin_of q.1) (other-apart s p u)

    lively : (o : Origin) (s l : ℕ) → At ρ s (entry o (Location l)) ⊎ ((s ≡ length ρ) × (entry o (Location l) ≡ entry other x)) → l < length cells
    lively o s l (inl a) = m.live o s l a
    lively o s l (inr q) = known l (sym (value_of q.1))

-- ---- `ref`

some-inside : {a b : Symbolic} → some a ≡ some b → a ≡ b
some-inside q = cc

-- what `get` finds after a write, by the tests on that write
lookup-after : (w : Write) (log : List Write) (o : Origin) (s : ℕ) {v : Symbolic} {G : Type 0} → lookup o s (w ∷ log) ≡ some v
    → (apart w.origin w.through o s ≡ true → lookup o s log ≡ some v → G)
    → (w.through ≡ s → w.value ≡ v → G) → G
unfolding lookup
lookup-after w log o s {v} {G} e f g = go (apart w.origin w.through o s) refl (eqb w.through s) refl e
  where
    go : (a : Bool) → apart w.origin w.through o s ≡ a → (b : Bool) → eqb w.through s ≡ b
        → pick a (lookup o s log) (pick b (some w.value) none) ≡ some v → G
    go true ea b eb q = f ea q
    go false ea true eb q = g (eqb-true w.through s eb) (some-inside q)
    go false ea false eb q = absurd (some-not-none v (sym q))

-- a write through symbols that do not denote the cell leaves what is pending
pending-past : {ρ ρ' : List Entry} {log : List Write} {l : ℕ} (w : Write) → Extends ρ ρ'
    → ((o : Origin) (s : ℕ) → At ρ s (entry o (Location l)) → w.through ≡ s → ⊥) → Pending ρ log l → Pending ρ' (w ∷ log) l
unfolding pending
pending-past {log = log} {l = l} w e ne p =
    record {
      origin = p.origin;
      through = p.through;
      denotes = e.keeps p.through (entry p.origin (Location l)) p.denotes;
      is-pending =
          ap (λ (b : Bool). pick b (not (is_right w)) (pending log p.through)) (ne_eqb w.through p.through (ne p.origin p.through p.denotes))
          ∙ p.is-pending;
    }

pub memory-ref : {typing : List ℕ} {ρ : List Entry} {cells : List Value} {log : List Write} {v : Symbolic} {x : Value}
    → Memory typing ρ cells log → StandsFor typing ρ v x
    → Memory (typing ++ (type_of v ∷ [])) (ρ ++ (entry made (Location (length cells)) ∷ [])) (cells ++ (x ∷ [])) (ref_write ρ v ∷ log)
memory-ref {typing} {ρ} {cells} {log} {v} {x} m h =
    record {
      as_many = omega (arith, m.as_many, snoc_length typing (type_of v), snoc_length cells x);
      contents = λ l t y a b. content l t y (split-last cells a) (split-last typing b);
      recent = λ o s l u a e. recently o s l u e (split-last ρ a);
      written = and-write {w = ref_write ρ v} (omega (arith, longer)) (written-more (omega (arith, longer)) m.written);
      apart-cells = record { distinct = λ o p s u l a b. distinctly o p s u l (split-last ρ a) (split-last ρ b) };
      live = λ o s l a. lively o s l (split-last ρ a);
    }
  where
    newest : Entry
    newest = entry made (Location (length cells))

    longer : length (ρ ++ (newest ∷ [])) ≡ suc (length ρ)
    longer = snoc_length ρ newest

    content : (l t : ℕ) (y : Value) → At cells l y ⊎ ((l ≡ length cells) × (y ≡ x)) → At typing l t ⊎ ((l ≡ length typing) × (t ≡ type_of v))
        → HasType (typing ++ (type_of v ∷ [])) y t ⊎ Pending (ρ ++ (newest ∷ [])) (ref_write ρ v ∷ log) l
    content l t y (inl a) (inl b) = go (m.contents l t y a b)
      where
        go : HasType typing y t ⊎ Pending ρ log l → HasType (typing ++ (type_of v ∷ [])) y t ⊎ Pending (ρ ++ (newest ∷ [])) (ref_write ρ v ∷ log) l
        go (inl k) = inl (type-extends (extends_append (type_of v ∷ [])) k)
        go (inr p) = inr (pending-past (ref_write ρ v) (extends_append (newest ∷ [])) (λ o s c q. let k = at-below c in omega arith) p)
    content l t y (inl a) (inr q) = let k = at-below a in absurd (omega (arith, m.as_many, q.0))
    content l t y (inr q) (inl b) = let k = at-below b in absurd (omega (arith, m.as_many, q.0))
    content l t y (inr q) (inr r) =
        inl (subst (λ (z : Value). HasType (typing ++ (type_of v ∷ [])) z t) (sym q.1)
        (subst (λ (z : ℕ). HasType (typing ++ (type_of v ∷ [])) x z) (sym r.1) (type-extends (extends_append (type_of v ∷ [])) (stands-type h))))

    recently : (o : Origin) (s l : ℕ) (u : Symbolic) → lookup o s (ref_write ρ v ∷ log) ≡ some u
        → At ρ s (entry o (Location l)) ⊎ ((s ≡ length ρ) × (entry o (Location l) ≡ newest))
        → Holds (typing ++ (type_of v ∷ [])) (ρ ++ (newest ∷ [])) (cells ++ (x ∷ [])) l u
    recently o s l u e (inl a) =
        lookup-after (ref_write ρ v) log o s e
        (λ p q. holds-extends (extends_append (type_of v ∷ [])) (extends_append (newest ∷ [])) (extends_append (x ∷ [])) (m.recent o s l u a q))
        (λ p q. let k = at-below a in absurd (omega arith))
    recently o s l u e (inr q) =
        lookup-after (ref_write ρ v) log o s e
        (λ p r. absurd (true≢false (sym p ∙ not-apart made (length ρ) o s (sym q.0))))
        (λ p r. record {
          content = x;
          placed = subst (λ (k : ℕ). At (cells ++ (x ∷ [])) k x) (sym (location_inside_lem (value_of q.1))) (at_last cells x);
          stands = stands-extends (extends_append (type_of v ∷ [])) (extends_append (newest ∷ [])) (subst (λ (k : Symbolic). StandsFor typing ρ k x) r h);
        })

    -- the new cell is none of those that a symbol denotes
    distinctly : (o p : Origin) (s u l : ℕ) → At ρ s (entry o (Location l)) ⊎ ((s ≡ length ρ) × (entry o (Location l) ≡ newest))
        → At ρ u (entry p (Location l)) ⊎ ((u ≡ length ρ) × (entry p (Location l) ≡ newest)) → apart o s p u ≡ false
    distinctly o p s u l (inl a) (inl b) = m.apart-cells.distinct o p s u l a b
    distinctly o p s u l (inl a) (inr q) = let k = m.live o s l a in let e = location_inside_lem (value_of q.1) in absurd (omega arith)
    distinctly o p s u l (inr q) (inl b) = let k = m.live p u l b in let e = location_inside_lem (value_of q.1) in absurd (omega arith)
    distinctly o p s u l (inr q) (inr r) = not-apart o s p u (q.0 ∙ sym r.0)

    lively : (o : Origin) (s l : ℕ) → At ρ s (entry o (Location l)) ⊎ ((s ≡ length ρ) × (entry o (Location l) ≡ newest)) → l < length (cells ++ (x ∷ []))
    lively o s l (inl a) = omega (arith, m.live o s l a, snoc_length cells x)
    lively o s l (inr q) = omega (arith, location_inside_lem (value_of q.1), snoc_length cells x)

-- ---- `set`

pub memory-set : {typing : List ℕ} {ρ : List Entry} {cells : List Value} {log : List Write} {o : Origin} {t s l : ℕ} {v : Symbolic} {x : Value}
    → Memory typing ρ cells log → At ρ s (entry o (Location l)) → At typing l t → StandsFor typing ρ v x
    → Memory typing ρ (set cells l x) (write_of o t s v ∷ log)
unfolding pending
memory-set {typing} {ρ} {cells} {log} {o} {t} {s} {l} {v} {x} m denotes cell h =
    record {
      as_many = m.as_many ∙ sym (length-set cells l x);
      contents = λ k u y a b. content k u y a b (eqb k l) refl;
      recent = recently;
      written = and-write {w = newest} (at-below denotes) m.written;
      apart-cells = m.apart-cells;
      live = λ p u k a. omega (arith, m.live p u k a, length-set cells l x);
    }
  where
    newest : Write
    newest = write_of o t s v

    stored : At (set cells l x) l x
    stored = let q = below_at cells l (m.live o s l denotes) in at_set_same x q.1

    judged : (y : Value) → y ≡ x → (u : ℕ) → u ≡ t → (b : Bool) → is_right newest ≡ b → HasType typing y u ⊎ Pending ρ (newest ∷ log) l
    judged y ey u eu true e =
        inl (subst (λ (z : Value). HasType typing z u) (sym ey)
        (subst (λ (z : ℕ). HasType typing x z) (eqb-true (type_of v) t e ∙ sym eu) (stands-type h)))
    judged y ey u eu false e =
        inr (record {
          origin = o;
          through = s;
          denotes = denotes;
          is-pending =
              ap (λ (b : Bool). pick b (not (is_right newest)) (pending log s)) (eq-eqb s s refl)
              ∙ ap not e;
        })

    content : (k u : ℕ) (y : Value) → At (set cells l x) k y → At typing k u → (b : Bool) → eqb k l ≡ b → HasType typing y u ⊎ Pending ρ (newest ∷ log) k
    content k u y a c true e =
        let q = eqb-true k l e in
        subst (λ (z : ℕ). HasType typing y u ⊎ Pending ρ (newest ∷ log) z) (sym q)
        (judged y (at_same (subst (λ (z : ℕ). At (set cells l x) z y) q a) stored) u (at_same (subst (λ (z : ℕ). At typing z u) q c) cell) (is_right newest) refl)
    content k u y a c false e = go (m.contents k u y (at_unset cells l x (eqb-false k l e) a) c)
      where
        go : HasType typing y u ⊎ Pending ρ log k → HasType typing y u ⊎ Pending ρ (newest ∷ log) k
        go (inl q) = inl q
        go (inr p) = inr (pending-past newest extends_self (λ o' s' d q. eqb-false k l e (same-cell d (subst (λ (z : ℕ). At ρ z (entry o (Location l))) q denotes))) p)

    recently : (p : Origin) (u k : ℕ) (w : Symbolic) → At ρ u (entry p (Location k)) → lookup p u (newest ∷ log) ≡ some w → Holds typing ρ (set cells l x) k w
    recently p u k w a e =
        lookup-after newest log p u e
        (λ q r. let old = m.recent p u k w a r in
        record {
          content = old.content;
          placed = at_set_other x (λ z. apart-differ m.apart-cells denotes a q (sym z)) old.placed;
          stands = old.stands;
        })
        (λ q r. record {
          content = x;
          placed = subst (λ (z : ℕ). At (set cells l x) z x) (same-cell (subst (λ (z : ℕ). At ρ z (entry o (Location l))) q denotes) a) stored;
          stands = subst (λ (z : Symbolic). StandsFor typing ρ z x) r h;
        })
