-- The steps of opening a strip: the scratch after a message was read, the canonical plan, and each answer. Assumes nothing.
use Prim.Native.Nat.{ℕ, ◌-◌, ◌≤◌}
use mathlib.Core.Path.{◌≡◌, refl, sym, ap, ap₂, ◌∙◌}
use mathlib.Core.Bool.{Bool, true, false, cond, ◌&&◌}
use mathlib.Core.List.{List, [], ◌∷◌}
use native.Mathlib.Omega.{arith}
use lib.Dec.{leb}
use lib.ListN.{length, take, drop, length-take, length-drop, length-append}
use lib.Seq.{take-append_seam, drop-append-le, take-append-le}
use Rattle.text.specs.Words.{join, same}
use Rattle.text.specs.Lent.{front}
use Rattle.space.specs.Reduced.{reduced}
use Rattle.space.specs.Fields.{inner}
use Rattle.outer.specs.Outer.{most}
use Rattle.kinds.specs.declared.MessageType.{MessageType}
use Rattle.kinds.specs.declared.MessageType.TheVariants.{Fpl}
use Rattle.message.specs.Answer.{Answer}
use Rattle.message.proofs.Reached.{accepted_taken}
use Rattle.message.proofs.Plans.{plan_type}
use Rattle.message.proofs.Canonical.{accepted_spelling}
use Rattle.message.proofs.Itself.{plan_spelling}
use Rattle.message.specs.Message.{sent_contents, record_in}
use Rattle.message.specs.Reading.{is_plan, spelling_of, answer_of, written_as as read_written, out_after as read_after, plans, plan_itself}
use Rattle.state.specs.declared.Strip.{Strip}
use Rattle.state.specs.State.{sound}
use Rattle.opening.specs.Opening.{canonical_plan, read_as_plan, not_read_as, read_as, opening_of, scratch_after}
use Rattle.std.specs.Prelude.{Ok, Err}
use Rattle.outer.specs.declared.Refusal.{Refusal}
use Rattle.outer.specs.Refusal.{refusal}

-- WHAT STANDS AT THE FRONT of a scratch: bytes that were written there, and what they have between their parentheses

module _ (w buf : List ℕ) (n : ℕ) (long : n ≡ length w) where
  pub front_whole : take n (front w buf) ≡ w
  unfolding front
  front_whole = rw long (take-append_seam w (drop (length w) buf))

  pub front_text : 2 ≤ n → take (n - 1 - 1) (drop 1 (front w buf)) ≡ inner w
  unfolding front
  front_text two =
      let h : 1 ≤ length w = omega arith in
      let l : n - 1 - 1 ≤ length (drop 1 w) = omega (arith, length-drop 1 w) in
      let z : n - 1 - 1 ≡ length w - 2 = omega arith in
      rw (drop-append-le 1 w (drop (length w) buf) h, take-append-le (n - 1 - 1) (drop 1 w) (drop (length w) buf) l, z)

-- A MESSAGE THAT WAS READ

-- its spelling is of two bytes at least
pub spelling_two : (m : List ℕ) (room : ℕ) (t : MessageType) (n : ℕ) → answer_of m room ≡ Ok (t, n) → 2 ≤ length (spelling_of t m)
spelling_two m room t n e =
    let cs = sent_contents (record_in t m) in
    omega (arith, ap length (accepted_spelling m room t n e), length-append (join 45 cs) (41 ∷ []))

pub read_bounds : (m : List ℕ) (room : ℕ) (t : MessageType) (n : ℕ) → answer_of m room ≡ Ok (t, n) → (2 ≤ n) × (n ≤ room)
read_bounds m room t n e =
    let k = accepted_taken t m room n e in
    (omega (arith, k.long, spelling_two m room t n e), omega (arith, k.long, k.fits))

pub read_long : (m : List ℕ) (room : ℕ) (t : MessageType) (n : ℕ) → answer_of m room ≡ Ok (t, n) → n ≡ length (spelling_of t m)
read_long m room t n e = (accepted_taken t m room n e).long

pub read_front : (m buf : List ℕ) (t : MessageType) (n : ℕ) → answer_of m (length buf) ≡ Ok (t, n) → read_after m buf ≡ front (spelling_of t m) buf
unfolding read_after
read_front m buf t n e = ap (λ (a : Answer). read_written a m buf) e

pub refused_stays : (m buf : List ℕ) (number field place : ℕ) → answer_of m (length buf) ≡ Err (refusal number field place) → read_after m buf ≡ buf
unfolding read_after
refused_stays m buf number field place e = ap (λ (a : Answer). read_written a m buf) e

-- THE CANONICAL PLAN is its own reduction: an accepted plan is spelled as it was sent, white space reduced

module _ (strip : List ℕ) where
  by_answer : (a : Answer) → answer_of strip most ≡ a
      → (plans a && same (reduced strip) strip) ≡ (read_as_plan a && same (spelling_of Fpl strip) strip)
  by_answer (Err r) e = refl
  by_answer (Ok (t, n)) e = go (is_plan t) refl
    where
      go : (b : Bool) → is_plan t ≡ b → (b && same (reduced strip) strip) ≡ (b && same (spelling_of Fpl strip) strip)
      go true p =
          let spelled : spelling_of t strip ≡ reduced strip = plan_spelling t strip (accepted_taken t strip most n e).reached p in
          ap (λ (w : List ℕ). same w strip) (sym spelled) ∙ ap (λ (u : MessageType). same (spelling_of u strip) strip) (plan_type t p)
      go false p = refl

  pub plan_itself_lem : plan_itself strip ≡ canonical_plan strip
  unfolding plan_itself canonical_plan
  plan_itself_lem = by_answer (answer_of strip most) refl

-- SLICES

pub inner_slice : (s : List ℕ) → take (length s - 1 - 1) (drop 1 s) ≡ inner s
inner_slice s = let z : length s - 1 - 1 ≡ length s - 2 = omega arith in ap (λ (k : ℕ). take k (drop 1 s)) z

pub slice_short : (k j n : ℕ) (w : List ℕ) → length w ≤ n → length (take k (drop j w)) ≤ n
slice_short k j n w h = omega (arith, length-take k (drop j w), length-drop j w)

-- THE WHOLE

module _ (strip : List ℕ) (held : Strip) (m scratch : List ℕ) where
  abbrev pub Whole : Answer → List ℕ → Type 0
  Whole answer after = (answer ≡ opening_of strip held m) × (after ≡ scratch_after (opening_of strip held m) m scratch)

  whole : (o : Answer) → opening_of strip held m ≡ o → (answer : Answer) (after : List ℕ)
      → answer ≡ o → after ≡ scratch_after o m scratch → Whole answer after
  whole o e answer after a w = (a ∙ sym e, w ∙ ap (λ (x : Answer). scratch_after x m scratch) (sym e))

  by_tests : (a b : Bool) → sound held ≡ a → canonical_plan strip ≡ b
      → opening_of strip held m ≡ cond (a && b) (read_as (answer_of m most)) (Err (refusal 15 0 0))
  unfolding opening_of
  by_tests a b e f = ap₂ (λ (x y : Bool). cond (x && y) (read_as (answer_of m most)) (Err (refusal 15 0 0))) e f

  pub unsound : sound held ≡ false → Whole (Err (refusal 15 0 0)) scratch
  unsound e = whole (Err (refusal 15 0 0)) (by_tests false (canonical_plan strip) e refl) _ _ refl refl

  module _ (is_sound : sound held ≡ true) where
    pub no_plan : canonical_plan strip ≡ false → Whole (Err (refusal 15 0 0)) scratch
    no_plan e = whole (Err (refusal 15 0 0)) (by_tests true false is_sound e) _ _ refl refl

    module _ (is_plan_lem : canonical_plan strip ≡ true) where
      reading : (a : Answer) → answer_of m most ≡ a → opening_of strip held m ≡ read_as a
      reading a e = by_tests true true is_sound is_plan_lem ∙ ap read_as e

      pub not_read : (r : Refusal) → answer_of m most ≡ Err r → (answer : Answer) → answer ≡ Err (not_read_as r) → Whole answer scratch
      not_read r e answer a = whole (Err (not_read_as r)) (reading (Err r) e) answer scratch a refl

      pub was_read_lem : (t : MessageType) (n : ℕ) → answer_of m most ≡ Ok (t, n) → (after : List ℕ) → after ≡ front (spelling_of t m) scratch
          → Whole (Ok (t, n)) after
      was_read_lem t n e after w = whole (Ok (t, n)) (reading (Ok (t, n)) e) (Ok (t, n)) after refl w
