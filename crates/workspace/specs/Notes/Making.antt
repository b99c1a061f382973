-- Making a note: the loop over the variables that it names, that it is right, and that the other notes stay right. Assumes nothing.
use Rattle.std.specs.Prelude.{Bool, List, ◌⊎◌, ◌≡◌, length, get_or, set, Some, None, Ok}
use Rattle.std.proofs.Math.Bool.{true, false}
use Rattle.std.proofs.Common.{inl, inr, ap, ◌∙◌, eq-or-lt_of_le, get_or-set_same, get_or-set_other}
use Rattle.std.proofs.Math.Option.{some}
use Rattle.std.proofs.Math.Path.{refl, sym}
use Prim.Native.Nat.{ℕ, suc, ◌+◌, ◌*◌, ◌-◌, ◌%◌, ◌≤◌, ◌<◌}
use Rattle.std.proofs.Math.Numerals.{add-one}
use native.Mathlib.Omega.{arith}
use Rattle.std.proofs.Math.Dec.{leb, eqb}
use Rattle.std.proofs.Math.ListN.{get_elem?, length-set}
use borrow.Author.Tests.{eqb-true, eqb-false, ne_eqb, leb-true, leb-false}
use Rattle.script.specs.Code.Forms.{tree_in}
use Rattle.script.specs.Tests.Laws.{true_or_false}
use Rattle.script.specs.Tree.{Expr}
use Rattle.rules.specs.Checking.{check}
use Rattle.rules.specs.Checking.Mentions.{mentions}
use Rattle.rules.proofs.Checking.Mentions.{check-same}
use Rattle.terms.specs.Places.{symbol_limit}
use Rattle.workspace.specs.Answers.{Count}
use Rattle.workspace.specs.Notes.{base_in, operand_in, note_depth, type_in, names_in, name_in, named_type, Named, named, Nameable, names_from, names_to, Naming, Names, noted_as, Agrees, NoteOf, Kept, Noted}
use Rattle.workspace.specs.Notes.Keeping.{note_same}
use Rattle.workspace.specs.Places.{base_at, name_limit, note_at, note_limit, note_width, notes_at, space_size, turn_at}
use Rattle.workspace.specs.State.{types_on}
use Rattle.workspace.specs.State.Laws.{types-at, types-length, types-kept, none-at}

-- ---- one variable more is named

-- first its number is stored, then its type
module _ (at count k : ℕ) (xs : List ℕ) where
  abbrev numbered : List ℕ
  numbered = set xs (at + 4 + 2 * count) k

  named_other : (j : ℕ) → (j ≡ at + 4 + 2 * count → ⊥) → (j ≡ at + 5 + 2 * count → ⊥) → get_or (named xs at count k) j 0 ≡ get_or xs j 0
  named_other j a b =
      get_or-set_other numbered (at + 5 + 2 * count) j (get_or numbered (2 * k) 0) 0 b ∙ get_or-set_other xs (at + 4 + 2 * count) j k 0 a

  named-length : length (named xs at count k) ≡ length xs
  named-length = simp length-set

  module _ (lent : at + note_width ≤ length xs) (few : count < name_limit) where
    named_name : name_in (named xs at count k) at count ≡ k
    named_name =
        get_or-set_other numbered (at + 5 + 2 * count) (at + 4 + 2 * count) (get_or numbered (2 * k) 0) 0 (λ e. omega arith)
        ∙ get_or-set_same xs (at + 4 + 2 * count) k 0 (omega arith)

    named-type : 2 * k < at → named_type (named xs at count k) at count ≡ get_or xs (2 * k) 0
    named-type l =
        get_or-set_same numbered (at + 5 + 2 * count) (get_or numbered (2 * k) 0) 0 (simp length-set (omega arith))
        ∙ get_or-set_other xs (at + 4 + 2 * count) (2 * k) k 0 (λ e. omega arith)

-- ---- the loop over the variables bound on the path

-- those below k are named that the tree mentions; k begins at the base, which may be above the depth
pub record Upto (e : Expr) (depth at : ℕ) (ws : List ℕ) (k count : ℕ) (left : List ℕ) : Type 0 where
  pub is : names_from e at k count (depth - k) left ≡ names_to e depth at ws
  pub naming : Naming e at ws k count left
  pub within : base_in ws ≤ depth → k ≤ depth
  pub bounded : k ≤ depth + base_in ws

module _ (e : Expr) (depth at : ℕ) (ws : List ℕ) where
  pub upto_start : Upto e depth at ws (base_in ws) 0 ws
  upto_start =
      record {
        is = refl;
        naming = record {
          same = refl;
          others = λ j h. refl;
          few = omega arith;
          inside = λ i l. absurd (omega arith);
          types = λ i l. absurd (omega arith);
          all = λ v l h m. absurd (omega arith);
        };
        within = λ h. h;
        bounded = omega arith;
      }

  module _ (n : Nameable ws depth at) (k count : ℕ) (left : List ℕ) (u : Upto e depth at ws k count left) (low : k < depth) where
    -- what is left at k
    left_on : depth - k ≡ suc (depth - (k + 1))
    left_on = omega arith

    -- k is not mentioned
    upto_same : mentions e k ≡ false → Upto e depth at ws (k + 1) count left
    unfolding names_from
    upto_same f =
        let s = u.naming in
        record {
          is = rw (add-one k) (rw (left_on, f, add-one k) at u.is);
          naming = record {
            same = s.same;
            others = s.others;
            few = s.few;
            inside = λ i l. let b = s.inside i l in omega (arith, b);
            types = s.types;
            all = λ v l h m. go v m (eq-or-lt_of_le {n = v} {m = k} (omega arith)) (s.all v l);
          };
          within = λ h. omega arith;
          bounded = omega arith;
        }
      where
        go : (v : ℕ) → mentions e v ≡ true → (v ≡ k) ⊎ (v < k) → (v < k → mentions e v ≡ true → (i : ℕ) × (i < count) × (name_in left at i ≡ v))
            → (i : ℕ) × (i < count) × (name_in left at i ≡ v)
        go v m (inr h) g = g h m
        go v m (inl q) g = absurd (true_or_false (mentions e k) (rw q at m) f)

    pub upto_on : mentions e k ≡ false → {xs : List ℕ} {m : ℕ} → xs ≡ left → m ≡ count → Upto e depth at ws (k + 1) m xs
    upto_on f p q = rw (p, q) (upto_same f)

    pub upto_named : count < name_limit → Named left at count k
    upto_named few =
        let s = u.naming.same in
        record { lent = omega (arith, s, n.lent, n.high); wide = omega (arith, s, n.lent); few = few; inside = omega (arith, low, n.small) }

    -- k is mentioned, and there is room
    module _ (few : count < name_limit) where
      abbrev more : List ℕ
      more = named left at count k

      lent : at + note_width ≤ length left
      lent = (upto_named few).lent

      earlier_name : (i : ℕ) → i < count → name_in more at i ≡ name_in left at i
      earlier_name i l = named_other at count k left (at + 4 + 2 * i) (λ q. omega arith) (λ q. omega arith)

      earlier-type : (i : ℕ) → i < count → named_type more at i ≡ named_type left at i
      earlier-type i l = named_other at count k left (at + 5 + 2 * i) (λ q. omega arith) (λ q. omega arith)

      more-inside : (i : ℕ) → (i ≡ count) ⊎ (i < count) → name_in more at i < k + 1
      more-inside i (inr l) = let b = u.naming.inside i l in let q = earlier_name i l in omega arith
      more-inside i (inl e) = let q = named_name at count k left lent few in rw e (omega arith)

      more-types : (i : ℕ) → (i ≡ count) ⊎ (i < count) → named_type more at i ≡ get_or ws (2 * name_in more at i) 0
      more-types i (inr l) = earlier-type i l ∙ u.naming.types i l ∙ ap (λ (j : ℕ). get_or ws (2 * j) 0) (sym (earlier_name i l))
      more-types i (inl e) =
          let b : 2 * k < at = omega (arith, low, n.small, n.low) in
          rw e
          (named-type at count k left lent few b
          ∙ u.naming.others (2 * k) (λ p q. omega arith)
          ∙ ap (λ (j : ℕ). get_or ws (2 * j) 0) (sym (named_name at count k left lent few)))

      more-all : (v : ℕ) → base_in ws ≤ v → mentions e v ≡ true → (v ≡ k) ⊎ (v < k) → (i : ℕ) × (i < count + 1) × (name_in more at i ≡ v)
      more-all v b m (inr h) = let p = u.naming.all v b h m in (p.0, omega (arith, p.1), earlier_name p.0 p.1 ∙ p.2)
      more-all v b m (inl q) = (count, omega arith, named_name at count k left lent few ∙ sym q)

      upto_one : mentions e k ≡ true → Upto e depth at ws (k + 1) (count + 1) more
      unfolding names_from
      upto_one m =
          let s = u.naming in
          let o : eqb count name_limit ≡ false = ne_eqb count name_limit (λ q. omega arith) in
          record {
            is = rw (add-one k, add-one count) (rw (left_on, m, o, add-one k) at u.is);
            naming = record {
              same = named-length at count k left ∙ s.same;
              others = λ j h. named_other at count k left j (λ q. h (omega arith) (omega arith)) (λ q. h (omega arith) (omega arith)) ∙ s.others j h;
              few = omega arith;
              inside = λ i l. more-inside i (eq-or-lt_of_le {n = i} {m = count} (omega arith));
              types = λ i l. more-types i (eq-or-lt_of_le {n = i} {m = count} (omega arith));
              all = λ v b h m. more-all v b m (eq-or-lt_of_le {n = v} {m = k} (omega arith));
            };
            within = λ h. omega arith;
            bounded = omega arith;
          }

      pub upto_more : mentions e k ≡ true → {xs : List ℕ} {m : ℕ} → xs ≡ more → m ≡ count + 1 → Upto e depth at ws (k + 1) m xs
      upto_more f p q = rw (p, q) (upto_one f)

  -- k is one too many
  pub upto_full : (k count : ℕ) (left : List ℕ) → Upto e depth at ws k count left → k < depth → mentions e k ≡ true → count ≡ 6
      → Names e depth at ws None left
  unfolding names_from
  upto_full k count left u low m six =
      let o : depth - k ≡ suc (depth - (k + 1)) = omega arith in
      record {
        is = rw (o, m, six) at u.is;
        same = u.naming.same;
        others = u.naming.others;
        few = λ q. cc;
        naming = λ q h. cc;
      }

  pub upto_end : (k count : ℕ) (left : List ℕ) → Upto e depth at ws k count left → depth ≤ k → Names e depth at ws (Some count) left
  unfolding names_from
  upto_end k count left u h =
      let o : depth - k ≡ 0 = omega arith in
      record {
        is = rw o at u.is;
        same = u.naming.same;
        others = u.naming.others;
        few = λ {count = m} p. let n : m ≡ count = cc in rw n u.naming.few;
        naming = λ {count = m} p b. let w = u.within b in let q : k ≡ depth = omega arith in let n : m ≡ count = cc in rw n (rw q at u.naming);
      }

-- ---- the other notes stay right

-- every place is as it was, but those of the note at this place and of the turn
record Elsewhere (at : ℕ) (ws left : List ℕ) : Type 0 where
  each : (k : ℕ) → (k ≡ turn_at → ⊥) → (at ≤ k → k < at + note_width → ⊥) → get_or left k 0 ≡ get_or ws k 0

module _ {ws left : List ℕ} (turn : ℕ) (s : Elsewhere (note_at turn) ws left) where
  base_same : base_in left ≡ base_in ws
  base_same = s.each base_at (λ e. omega arith) (λ a b. omega arith)

  variable-same : (k : ℕ) → k < symbol_limit → get_or left (2 * k) 0 ≡ get_or ws (2 * k) 0
  variable-same k l = s.each (2 * k) (λ e. omega arith) (λ a b. omega arith)

  module _ (small : base_in ws ≤ symbol_limit) (i : ℕ) (d : i ≡ turn → ⊥) where
    place_same : (k : ℕ) → note_at i ≤ k → k < note_at i + note_width → get_or left k 0 ≡ get_or ws k 0
    place_same k h l = s.each k (λ e. omega arith) (λ a b. omega arith)

    note_still : {limit depth : ℕ} {table : List ℕ} → NoteOf limit table ws (note_at i) depth → NoteOf limit table left (note_at i) depth
    note_still = note_same ws left base_same (λ k l. variable-same k (omega arith)) i place_same

  -- and so all are right if the new one is
  kept_still : {limit : ℕ} {table : List ℕ} → base_in ws ≤ symbol_limit → Kept limit table ws
      → ((depth : ℕ) → note_depth left (note_at turn) ≡ suc depth → NoteOf limit table left (note_at turn) depth) → Kept limit table left
  kept_still {limit} {table} small k new = record { notes = λ i l depth e. go i l depth e (eqb i turn) refl }
    where
      go : (i : ℕ) → i < note_limit → (depth : ℕ) → note_depth left (note_at i) ≡ suc depth → (b : Bool) → eqb i turn ≡ b → NoteOf limit table left (note_at i) depth
      go i l depth e true q = let p = eqb-true i turn q in rw p (new depth (rw p at e))
      go i l depth e false q =
          let d = eqb-false i turn q in
          note_still small i d (k.notes i l depth (sym (place_same small i d (note_at i + 1) (omega arith) (omega arith)) ∙ e))

-- ---- the new note is right

below_or_not : (a b : ℕ) → (a < b) ⊎ (b ≤ a)
below_or_not a b = go (leb b a) refl
  where
    go : (x : Bool) → leb b a ≡ x → (a < b) ⊎ (b ≤ a)
    go true e = inr (leb-true b a e)
    go false e = inl (leb-false b a e)

-- the first four numbers of the note at this place are these, and every other place but the turn's is as it was
record Put (at depth a t count : ℕ) (ws left : List ℕ) : Type 0 where
  operand : operand_in left at ≡ a
  variables : note_depth left at ≡ depth + 1
  type : type_in left at ≡ t
  names : names_in left at ≡ count
  others : (k : ℕ) → (k ≡ turn_at → ⊥) → (at ≤ k → k < at + 4 → ⊥) → get_or left k 0 ≡ get_or ws k 0

module _ {e : Expr} {depth at a t count : ℕ} {ws middle left : List ℕ} (low : notes_at ≤ at) (small : depth ≤ symbol_limit) (base : base_in ws ≤ depth)
    (n : Naming e at ws depth count middle) (p : Put at depth a t count middle left) where
  put_name : (i : ℕ) → name_in left at i ≡ name_in middle at i
  put_name i = p.others (at + 4 + 2 * i) (λ q. omega arith) (λ x y. omega arith)

  put_named : (i : ℕ) → named_type left at i ≡ named_type middle at i
  put_named i = p.others (at + 5 + 2 * i) (λ q. omega arith) (λ x y. omega arith)

  put_before : (k : ℕ) → k < turn_at → get_or left k 0 ≡ get_or ws k 0
  put_before k l = p.others k (λ q. omega arith) (λ x y. omega arith) ∙ n.others k (λ x y. omega arith)

  -- agreeing types are those that there are, at each variable that the tree mentions
  module _ {types : List ℕ} (l : length types ≡ depth) (g : Agrees left at types) where
    first-at : (k : ℕ) → k < base_in ws → get_elem? types k ≡ get_elem? (types_on ws depth) k
    first-at k h =
        let q = put_before base_at (omega arith) in
        g.first k (omega arith) ∙ ap some (put_before (2 * k) (omega arith)) ∙ sym (types-at ws depth k (omega arith))

    named-at : (k : ℕ) → k < depth → (i : ℕ) × (i < count) × (name_in middle at i ≡ k) → get_elem? types k ≡ get_elem? (types_on ws depth) k
    named-at k h w =
        let i = w.0 in
        let q : name_in left at i ≡ k = put_name i ∙ w.2 in
        let c : i < names_in left at = omega (arith, w.1, p.names) in
        ap (get_elem? types) (sym q)
        ∙ g.others i c
        ∙ ap some (put_named i ∙ n.types i w.1 ∙ ap (λ (j : ℕ). get_or ws (2 * j) 0) w.2)
        ∙ sym (types-at ws depth k h)

    beyond-at : (k : ℕ) → depth ≤ k → get_elem? types k ≡ get_elem? (types_on ws depth) k
    beyond-at k h = let q = types-length ws depth in none-at types k (omega arith) ∙ sym (none-at (types_on ws depth) k (omega arith))

    mentioned-at : (k : ℕ) → mentions e k ≡ true → get_elem? types k ≡ get_elem? (types_on ws depth) k
    mentioned-at k m = go (below_or_not k (base_in ws)) (below_or_not k depth)
      where
        go : (k < base_in ws) ⊎ (base_in ws ≤ k) → (k < depth) ⊎ (depth ≤ k) → get_elem? types k ≡ get_elem? (types_on ws depth) k
        go (inl h) z = first-at k h
        go (inr h) (inl z) = named-at k z (n.all k h z m)
        go (inr h) (inr z) = beyond-at k z

  put_right : {limit : ℕ} {table : List ℕ} → e ≡ tree_in table a → check limit e (types_on ws depth) ≡ Ok t → NoteOf limit table left at depth
  put_right {limit} f c =
      record {
        few = omega (arith, p.names, n.few);
        inside = λ i h. let q = put_name i in let b = n.inside i (omega (arith, h, p.names)) in omega arith;
        right = λ types l g.
            rw (p.operand, p.type, sym f) (check-same limit e types (types_on ws depth) (l ∙ sym (types-length ws depth)) (mentioned-at l g) ∙ c);
      }

-- ---- what becomes of the workspace

module _ (ws : List ℕ) (depth turn : ℕ) (its : turn ≡ get_or ws turn_at 0 % note_limit) (low : turn < note_limit) (lent : space_size ≤ length ws) (small : depth ≤ symbol_limit) where
  -- the note that is replaced says nothing from now on
  abbrev cleared : List ℕ
  cleared = set ws (note_at turn + 1) 0

  cleared_other : (k : ℕ) → (k ≡ note_at turn + 1 → ⊥) → get_or cleared k 0 ≡ get_or ws k 0
  cleared_other k d = get_or-set_other ws (note_at turn + 1) k 0 0 d

  cleared_length : length cleared ≡ length ws
  cleared_length = simp length-set

  pub cleared_nameable : Nameable cleared depth (note_at turn)
  cleared_nameable = record { lent = omega (arith, lent, cleared_length); small = small; low = omega arith; high = omega arith }

  module _ (table : List ℕ) (a t : ℕ) {r : Count} {middle : List ℕ} (n : Names (tree_in table a) depth (note_at turn) cleared r middle) where
    middle_other : (k : ℕ) → (note_at turn ≤ k → k < note_at turn + note_width → ⊥) → get_or middle k 0 ≡ get_or ws k 0
    middle_other k d =
        n.others k (λ x y. d (omega arith) (omega arith)) ∙ cleared_other k (λ e. d (omega arith) (omega arith))

    middle_nothing : note_depth middle (note_at turn) ≡ 0
    middle_nothing = n.others (note_at turn + 1) (λ x y. omega arith) ∙ get_or-set_same ws (note_at turn + 1) 0 0 (omega arith)

    middle_length : length middle ≡ length ws
    middle_length = n.same ∙ cleared_length

    -- there are too many variables to name: the note still says nothing
    pub noted_nothing : r ≡ None → Noted table depth a t ws middle
    unfolding noted_as
    noted_nothing o =
        record {
          is = rw (sym its, sym n.is, o) refl;
          same = middle_length;
          before = λ k l. middle_other k (λ x y. omega arith);
          beyond = λ k l. middle_other k (λ x y. omega arith);
          kept = λ limit base c k.
              kept_still turn (record { each = λ j d e. middle_other j e }) (omega arith) k (λ d e. absurd (omega (arith, e, middle_nothing)));
        }

    -- all are named: the note is whole with five stores more
    module _ {count : ℕ} (o : r ≡ Some count) where
      abbrev one : List ℕ
      one = set middle (note_at turn) a

      abbrev two : List ℕ
      two = set one (note_at turn + 1) (depth + 1)

      abbrev three : List ℕ
      three = set two (note_at turn + 2) t

      abbrev four : List ℕ
      four = set three (note_at turn + 3) count

      abbrev whole : List ℕ
      whole = set four turn_at (turn + 1)

      whole_put : Put (note_at turn) depth a t count middle whole
      whole_put =
          let at = note_at turn in
          let l = middle_length in
          record {
            operand =
                get_or-set_other four turn_at at (turn + 1) 0 (λ e. omega arith)
                ∙ get_or-set_other three (at + 3) at count 0 (λ e. omega arith)
                ∙ get_or-set_other two (at + 2) at t 0 (λ e. omega arith)
                ∙ get_or-set_other one (at + 1) at (depth + 1) 0 (λ e. omega arith)
                ∙ get_or-set_same middle at a 0 (omega arith);
            variables =
                get_or-set_other four turn_at (at + 1) (turn + 1) 0 (λ e. omega arith)
                ∙ get_or-set_other three (at + 3) (at + 1) count 0 (λ e. omega arith)
                ∙ get_or-set_other two (at + 2) (at + 1) t 0 (λ e. omega arith)
                ∙ get_or-set_same one (at + 1) (depth + 1) 0 (simp length-set (omega arith));
            type =
                get_or-set_other four turn_at (at + 2) (turn + 1) 0 (λ e. omega arith)
                ∙ get_or-set_other three (at + 3) (at + 2) count 0 (λ e. omega arith)
                ∙ get_or-set_same two (at + 2) t 0 (simp length-set (omega arith));
            names =
                get_or-set_other four turn_at (at + 3) (turn + 1) 0 (λ e. omega arith)
                ∙ get_or-set_same three (at + 3) count 0 (simp length-set (omega arith));
            others = λ k d e.
                get_or-set_other four turn_at k (turn + 1) 0 d
                ∙ get_or-set_other three (at + 3) k count 0 (λ q. e (omega arith) (omega arith))
                ∙ get_or-set_other two (at + 2) k t 0 (λ q. e (omega arith) (omega arith))
                ∙ get_or-set_other one (at + 1) k (depth + 1) 0 (λ q. e (omega arith) (omega arith))
                ∙ get_or-set_other middle at k a 0 (λ q. e (omega arith) (omega arith));
          }

      whole-elsewhere : Elsewhere (note_at turn) ws whole
      whole-elsewhere =
          record { each = λ k d e. whole_put.others k d (λ x y. e (omega arith) (omega arith)) ∙ middle_other k e }

      pub noted_all : Noted table depth a t ws whole
      unfolding noted_as
      noted_all =
          record {
            is = rw (sym its, sym n.is, o) refl;
            same = simp length-set middle_length;
            before = λ k l. whole-elsewhere.each k (λ e. omega arith) (λ x y. omega arith);
            beyond = λ k l. whole-elsewhere.each k (λ e. omega arith) (λ x y. omega arith);
            kept = λ limit base c k. kept_still turn whole-elsewhere (omega arith) k (λ d e. whole-right limit base c d e);
          }
        where
          whole-right : (limit : ℕ) → base_in ws ≤ depth → check limit (tree_in table a) (types_on ws depth) ≡ Ok t → (d : ℕ)
              → note_depth whole (note_at turn) ≡ suc d → NoteOf limit table whole (note_at turn) d
          whole-right limit base c d e =
              let b : base_in cleared ≤ depth = omega (arith, base, cleared_other base_at (λ q. omega arith)) in
              let f : types_on cleared depth ≡ types_on ws depth = types-kept ws cleared depth (λ k l. cleared_other k (λ q. omega arith)) in
              let q : d ≡ depth = omega (arith, e, whole_put.variables) in
              rw q (put_right (omega arith) small b (n.naming o b) whole_put refl (rw f c))
