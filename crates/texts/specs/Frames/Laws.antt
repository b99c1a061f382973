-- How a frame is read and what its trial leaves, by where it ends, and how the trials of all frames go on. Assumes nothing.
use Rattle.std.specs.Prelude.{Bool, true, false, cond, ◌&&◌, List, ◌++◌, ◌≡◌, length, take, drop, get_or, leb, ltb, eqb, Option, Some, None, IfSome, Result, Ok, Err, OnOk, OnErr}
use Rattle.std.specs.Fn.{Shared}
use Rattle.std.proofs.Math.Path.{refl}
use Rattle.std.proofs.Common.{sym, ap, ◌∙◌, zero-add, arith, lt-ltb, le-ltb, le-leb, eq-eqb, ne_eqb}
use Prim.Native.Nat.{ℕ, zero, suc, ◌+◌, ◌-◌, ◌≤◌, ◌<◌}
use Rattle.std.proofs.lemmas.Bool.{lt-leb, and_parts}
use Rattle.std.proofs.lemmas.List.{length-take, length-take-le, length-drop, take-take, get_or-take, get_or-drop}
use borrow.Author.Tests.{leb-true}
use denote.Ref.{MutBor}
use Rattle.trial.specs.Anyway.{on_ok_anyway, on_err_anyway}
use Rattle.trial.specs.Trials.{Malformed, Trial, Turns, Trials, no_turn, a_turn, all_tried, malformed, failed}
use Rattle.trial.specs.declared.Header.{Header}
use Rattle.trial.specs.Numbers.{largest, header_at}
use Rattle.trial.specs.Numbers.Laws.{BothWithin, header_within, header_past}
use Rattle.trial.specs.Places.{name_end}
use Rattle.trial.specs.Places.Laws.{name_within}
use Rattle.texts.specs.declared.Lent.{Lent}
use Rattle.texts.specs.Rounds.{Tried}
use Rattle.texts.specs.Frames.{Frame, is_whole, frame_of, frame_in, frame_by, frame_at, next_by, lent, after_frame, Framed, frames_by, after_frames}

-- ---- one frame

module _ (input : List ℕ) (room at : ℕ) where
  pub no_header : header_at input at ≡ None → frame_at input room at ≡ None
  unfolding frame_at
  no_header e = rw e refl

  module _ {h : Header} (e : header_at input at ≡ Some h) where
    by_header : frame_at input room at ≡ frame_in input room h.first h.second (name_end input h.name)
    unfolding frame_at
    by_header = rw e refl

    pub no_name : name_end input h.name ≡ None → frame_at input room at ≡ None
    no_name n = by_header ∙ rw n refl

    module _ {stop : ℕ} (n : name_end input h.name ≡ Some stop) where
      pub no_text : length input - (stop + 1) ≤ h.first → frame_at input room at ≡ None
      no_text t = by_header ∙ rw (n, le-ltb h.first (length input - (stop + 1)) t) refl

      module _ (t : h.first < length input - (stop + 1)) where
        pub no_end : (get_or input (stop + 1 + h.first) 0 ≡ 10 → ⊥) → frame_at input room at ≡ None
        no_end f = by_header ∙ rw (n, lt-ltb h.first (length input - (stop + 1)) t, ne_eqb (get_or input (stop + 1 + h.first) 0) 10 f) refl

        module _ (f : get_or input (stop + 1 + h.first) 0 ≡ 10) where
          pub no_room : room < h.second → frame_at input room at ≡ None
          no_room r = by_header
              ∙ rw (n, lt-ltb h.first (length input - (stop + 1)) t, eq-eqb (get_or input (stop + 1 + h.first) 0) 10 f, lt-leb h.second room r) refl

          pub is-frame : h.second ≤ room → frame_at input room at ≡ Some (frame_of input h.first h.second stop)
          is-frame r = by_header
              ∙ rw (n, lt-ltb h.first (length input - (stop + 1)) t, eq-eqb (get_or input (stop + 1 + h.first) 0) 10 f, le-leb h.second room r) refl

-- what `frame_at` does, test by test
pub ruleset frame_steps = (no_header, no_name, no_text, no_end, no_room, is-frame, name_within, length-take, length-drop, take-take, get_or-take, get_or-drop)

-- ---- a frame goes on, and its share has room

abbrev pub Onward : ℕ → ℕ → Option Frame → Type 0
Onward room at o = IfSome o (λ f. (at < f.next) × (f.share ≤ room))

frame-onward : (input : List ℕ) (room at : ℕ) → Onward room at (frame_at input room at)
unfolding frame_at
frame-onward input room at = go (header_at input at) (header_within input at)
  where
    whole : (h : Header) (stop : ℕ) → at < h.name → h.name < stop → (b : Bool) → is_whole input room h.first h.second stop ≡ b
        → Onward room at (cond b (Some (frame_of input h.first h.second stop)) None)
    whole h stop l n true e =
        let fits = ltb h.first (length input - (stop + 1)) && eqb (get_or input (stop + 1 + h.first) 0) 10 in
        (omega arith, leb-true h.second room (and_parts fits (leb h.second room) e).1)
    whole h stop l n false e = tt

    named : (h : Header) → at < h.name → (o : Option ℕ) → o ≡ name_end input h.name → Onward room at (frame_in input room h.first h.second o)
    named h l None e = tt
    named h l (Some stop) e = whole h stop l (name_within input h.name (sym e)).0 (is_whole input room h.first h.second stop) refl

    go : (o : Option Header) → BothWithin largest at o → Onward room at (frame_by input room o)
    go None w = tt
    go (Some h) w = named h w.2 (name_end input h.name) refl

pub share_most : (input : List ℕ) (room at : ℕ) {f : Frame} → frame_at input room at ≡ Some f → f.share ≤ room
share_most input room at {f} e = let w : Onward room at (Some f) = rw e at (frame-onward input room at) in w.1

pub share_lent : {A : Type 0} (xs : List A) (n : ℕ) → n ≤ length xs → n ≡ length (take n xs)
share_lent xs n h = sym (length-take-le n xs h)

-- past the end there is none
frame_past : (input : List ℕ) (room at : ℕ) → length input ≤ at → frame_at input room at ≡ None
unfolding frame_at
frame_past input room at h = rw (header_past input at h) refl

-- ---- all frames

-- from `at` on k frames are more than the input has, and their trials leave m
pub record Going (input : List ℕ) (at : ℕ) (l m : Lent) : Type 0 where
  pub turns : ℕ
  pub enough : length input ≤ at + turns
  pub rest : after_frames input turns at l ≡ m

module _ (input : List ℕ) where
  pub starts : (l : Lent) → Going input 0 l (after_frames input (length input) 0 l)
  starts l = record { turns = length input; enough = omega arith; rest = refl }

  module _ (at : ℕ) where
    -- a turn, after which there is a frame left or none
    turn-none : (k : ℕ) (l : Lent) → frame_at input (length l.out) at ≡ None → after_frames input k at l ≡ l
    unfolding after_frames
    turn-none zero l e = refl
    turn-none (suc k) l e = rw e refl

    turn-some : (k : ℕ) (l : Lent) {f : Frame} → frame_at input (length l.out) at ≡ Some f
        → after_frames input (suc k) at l ≡ after_frames input k f.next (after_frame (Some f) l)
    unfolding after_frames
    turn-some k l e = rw e refl

    module _ {l m : Lent} (g : Going input at l m) where
      pub ends : length input ≤ at → l ≡ m
      ends h = sym (turn-none g.turns l (frame_past input (length l.out) at h)) ∙ g.rest

      pub stops : {r : Option ℕ} {n : Lent} → Framed (frame_at input (length l.out) at) l r n → Malformed at r → n ≡ m
      stops {r} {n} w h = go (frame_at input (length l.out) at) refl (frame-onward input (length l.out) at) w.next-is w.left_is
        where
          go : (o : Option Frame) → frame_at input (length l.out) at ≡ o → Onward (length l.out) at o → r ≡ next_by o → n ≡ after_frame o l → n ≡ m
          go None e a p q = q ∙ sym (turn-none g.turns l e) ∙ g.rest
          go (Some f) e a p q = let k : f.next ≤ at = rw p at h in absurd (omega arith)

      pub on : {next : ℕ} {n : Lent} → Framed (frame_at input (length l.out) at) l (Some next) n → at < length input → at < next → Going input next n m
      on {next} {n} w i h = go (frame_at input (length l.out) at) refl w.next-is w.left_is g.turns g.enough g.rest
        where
          go : (o : Option Frame) → frame_at input (length l.out) at ≡ o → Some next ≡ next_by o → n ≡ after_frame o l
              → (k : ℕ) → length input ≤ at + k → after_frames input k at l ≡ m → Going input next n m
          go None e p q k c d = cc
          go (Some f) e p q zero c d = absurd (omega arith)
          go (Some f) e p q (suc k) c d =
              let s : next ≡ f.next = cc in
              record { turns = k; enough = omega arith; rest = rw (s, q) (sym (turn-some k l e) ∙ d) }

-- ---- the first frames

-- so many trials, of the frames from the input's start on, leave l, and the next frame starts at `at`
pub record Went (input : List ℕ) (first : Lent) (at : ℕ) (l : Lent) : Type 0 where
  pub turns : ℕ
  pub more : (k : ℕ) → after_frames input (turns + k) 0 first ≡ after_frames input k at l

module _ (input : List ℕ) where
  after-one : (at : ℕ) (l : Lent) → after_frames input (suc zero) at l ≡ after_frame (frame_at input (length l.out) at) l
  unfolding after_frames
  after-one at l = go (frame_at input (length l.out) at)
    where
      go : (o : Option Frame) → frames_by o l (λ f. after_frame (Some f) l) ≡ after_frame o l
      go None = refl
      go (Some f) = refl

  module _ (first : Lent) where
    pub went-none : Went input first 0 first
    went-none = record { turns = zero; more = λ k. ap (λ m. after_frames input m 0 first) (zero-add k) }

    module _ {at : ℕ} {l : Lent} (w : Went input first at l) where
      -- with the trial of the frame at `at`
      pub went_here : {n : Lent} → n ≡ after_frame (frame_at input (length l.out) at) l → (turns : ℕ) × (n ≡ after_frames input turns 0 first)
      went_here e = (w.turns + suc zero, e ∙ sym (after-one at l) ∙ sym (w.more (suc zero)))

      pub went_on : {next : ℕ} {n : Lent} → Framed (frame_at input (length l.out) at) l (Some next) n → Went input first next n
      went_on {next} {n} f = go (frame_at input (length l.out) at) refl f.next-is f.left_is
        where
          go : (o : Option Frame) → frame_at input (length l.out) at ≡ o → Some next ≡ next_by o → n ≡ after_frame o l → Went input first next n
          go None e p q = cc
          go (Some f) e p q =
              let s : next ≡ f.next = cc in
              record {
                turns = suc w.turns;
                more = λ k.
                    let m : suc w.turns + k ≡ w.turns + suc k = omega arith in
                    ap (λ i. after_frames input i 0 first) m ∙ w.more (suc k) ∙ turn-some input at k l e ∙ rw (s, q) refl;
              }

-- ---- the trial of a frame, or of none

pub no_frame : {o : Option Frame} {l : Lent} → o ≡ None → Framed o l None l
no_frame e = record { next-is = rw e refl; left_is = rw e refl }

pub framed : {o : Option Frame} {f : Frame} (l : Lent) {table₁ entries₁ out₁ : List ℕ} → o ≡ Some f
    → Tried f.text l.table l.entries (take f.share l.out) table₁ entries₁ out₁
    → Framed o l (Some f.next) (lent table₁ entries₁ (out₁ ++ drop f.share l.out))
framed l e w = record { next-is = rw e refl; left_is = rw (e, w.out-left, w.table-left, w.entries-left) refl }

-- ---- all trials, each of a frame

module _ {F E : Type 0} (g : Shared F (MutBor Lent × (ℕ × Unit {0})) (Result (Option ℕ) E × (MutBor Lent × Unit {0}))) (f : F) (input : List ℕ)
    (ok : (l m : Lent) (at : ℕ) (o : Option ℕ) → Trial g f l at (Ok o) m → Framed (frame_at input (length l.out) at) l o m)
    (err : (l m : Lent) (at : ℕ) (e : E) → Trial g f l at (Err e) m → m ≡ after_frame (frame_at input (length l.out) at) l) (first : Lent) where
  went : {at : ℕ} {l : Lent} → Turns g f (length input) first at l → Went input first at l
  went no_turn = went-none input first
  went (a_turn w i t h) = went_on input first (went w) (ok _ _ _ _ t)

  goes : {at : ℕ} {l : Lent} → Turns g f (length input) first at l → Going input at l (after_frames input (length input) 0 first)
  goes no_turn = starts input first
  goes (a_turn w i t h) = on input _ (goes w) (ok _ _ _ _ t) i h

  pub tried-ok : (r : Result (Unit {0}) E) (l : Lent) → Trials g f (length input) first r l → OnOk r (l ≡ after_frames input (length input) 0 first)
  tried-ok r l (all_tried w e) = ends input _ (goes w) e
  tried-ok r l (malformed w i t e) = on_ok_anyway r (stops input _ (goes w) (ok _ _ _ _ t) e)
  tried-ok (Ok v) l (failed w i t h) = cc
  tried-ok (Err e) l (failed w i t h) = tt

  pub tried-err : (r : Result (Unit {0}) E) (l : Lent) → Trials g f (length input) first r l → OnErr r ((turns : ℕ) × (l ≡ after_frames input turns 0 first))
  tried-err r l (all_tried w e) = tt
  tried-err r l (malformed w i t e) = on_err_anyway r (length input, stops input _ (goes w) (ok _ _ _ _ t) e)
  tried-err r l (failed w i t h) = on_err_anyway r (went_here input first (went w) (err _ _ _ _ t))

-- ---- what goes on, by its frame

pub stays : (room at : ℕ) → Onward room at None
stays room at = tt

pub goes_further : {room at : ℕ} (f : Frame) → at < f.next → f.share ≤ room → Onward room at (Some f)
goes_further f h r = (h, r)
