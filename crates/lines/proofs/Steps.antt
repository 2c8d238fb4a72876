-- What was told of a piece, where there is room for its line. Assumes nothing.
use Prim.Native.Nat.{ℕ, ◌+◌, ◌*◌, ◌-◌, ◌≤◌, ◌<◌}
use mathlib.Core.Path.{◌≡◌, refl, sym, ap, ◌∙◌}
use mathlib.Core.Bool.{Bool, true, false}
use mathlib.Core.List.{List, [], ◌++◌}
use native.Mathlib.Omega.{arith}
use lib.Dec.{leb}
use lib.ListN.{length, take, drop, length-drop, take-append-drop}
use borrow.Author.Tests.{le-ltb, lt-ltb, leb-true, leb-false}
use Rattle.text.specs.Lent.{front}
use Rattle.text.proofs.Index.{rest}
use Rattle.text.proofs.Lent.{lent}
use Rattle.outer.specs.Refusal.{Checked}
use Rattle.outer.specs.Outer.{most, outer}
use Rattle.outer.proofs.Good.{good_passed}
use Rattle.kinds.specs.declared.MessageType.{MessageType}
use Rattle.message.specs.Answer.{Answer}
use Rattle.message.specs.Reading.{spelling_of, outer_as, answer_of, out_after}
use Rattle.message.proofs.Reached.{accepted_taken}
use Rattle.message.proofs.Canonical.{accepted_shorter}
use Rattle.message.proofs.Answers.{OuterNumber, outer-number, refused-leaves, accepted-writes, refused-number}
use Rattle.message.proofs.Places.{refused_place}
use Rattle.lines.specs.declared.Told.{Told}
use Rattle.lines.specs.Lines.{accepted_line, refused_line, line_as, line_of, no_room, Tells}
use Rattle.lines.proofs.Decimal.{refused_short, refused_least}
use Rattle.lines.proofs.Rooms.{enough}
use Rattle.lines.proofs.Writing.{as_long, length_accepted, whole}
use Rattle.std.specs.Prelude.{Ok, Err}
use Rattle.outer.specs.Refusal.{refusal}

-- where there is room, the answer is the piece's and the line is whole
pub record Whole (m out : List ℕ) (r : Told) (after : List ℕ) : Type 0 where
  pub answer_is : r.answer ≡ answer_of m most
  pub length_is : r.length ≡ length (line_of m)
  pub written : after ≡ front (line_of m) out

pub whole_told : (m out : List ℕ) (r : Told) (after : List ℕ) → Tells m out r after → length m + 12 ≤ length out → Whole m out r after
whole_told m out r after t h =
    let f = le-ltb (length out) (length m + 12) h in
    record { answer_is = rw f at t.answer_is; length_is = rw f at t.length_is; written = rw f at t.written }

-- A PIECE OF ONE BYTE is no message: its line takes nine
pub one_byte : (m : List ℕ) → length m ≤ 1 → length (line_of m) ≤ 9
unfolding line_of answer_of
one_byte m h = go (outer m) refl (outer-number m)
  where
    go : (o : Checked) → outer m ≡ o → OuterNumber o → length (line_as (outer_as o m most) m) ≤ 9
    go (Ok u) g n = let p = good_passed m g in absurd (omega (arith, p.framed.long))
    go (Err r) g n =
        refused_least r.number r.field r.place (omega (arith, n.1)) (omega (arith, n.2))
        (omega (arith, refused_place m most r.number r.field r.place (ap (λ (o : Checked). outer_as o m most) g)))

-- so no line takes more than nine times the bytes of its piece
pub nine_times : (m out : List ℕ) (r : Told) (after : List ℕ) → Tells m out r after → Whole m out r after → 1 ≤ length m → r.length ≤ 9 * length m
nine_times m out r after t w h = go (leb (length m) 1) refl
  where
    go : (b : Bool) → leb (length m) 1 ≡ b → r.length ≤ 9 * length m
    go true e = omega (arith, w.length_is, one_byte m (leb-true (length m) 1 e))
    go false e = omega (arith, t.short, leb-false (length m) 1 e)

-- no room
pub none_told : (m out : List ℕ) → length out < length m + 12 → Tells m out no_room out
unfolding front
none_told m out h =
    let r = lt-ltb (length out) (length m + 12) h in
    record { answer_is = rw r; length_is = rw r; written = rw r; short = omega arith }

-- the message is lent what lies behind the first seven bytes; `last` is what stands there afterwards
module _ (m out last : List ℕ) (wide : length m + 12 ≤ length out) where
  abbrev lent_part : List ℕ
  lent_part = take (length out - 7) (drop 7 out)

  abbrev mid : List ℕ
  mid = take 7 out ++ (last ++ drop (length out - 7) (drop 7 out))

  told : (a : Answer) → answer_of m (length lent_part) ≡ a → (r : ℕ) (after : List ℕ)
      → r ≡ length (line_as a m) → after ≡ front (line_as a m) out → r ≤ length m + 12
      → Tells m out (record { answer = a; length = r }) after
  unfolding line_of
  told a e r after l w s =
      let f = le-ltb (length out) (length m + 12) wide in
      let q : a ≡ answer_of m most = sym e ∙ enough m (length lent_part) (omega (arith, ap length (rest out 7), length-drop 7 out)) in
      record {
        answer_is = rw f q;
        length_is = rw f (l ∙ ap (λ (b : Answer). length (line_as b m)) q);
        written = rw f (w ∙ ap (λ (b : Answer). front (line_as b m) out) q);
        short = s;
      }

  module _ (t : MessageType) (n : ℕ) (e : answer_of m (length lent_part) ≡ Ok (t, n)) (w : last ≡ out_after m lent_part) where
    in_place_lem : mid ≡ take 7 out ++ front (spelling_of t m) (drop 7 out)
    in_place_lem = lent out (spelling_of t m) 7 last (w ∙ accepted-writes m lent_part t n e)

    long : n ≡ length (spelling_of t m)
    long = (accepted_taken t m (length lent_part) n e).long

    few : n ≤ length m
    few = accepted_shorter m (length lent_part) t n e

    pub accepted_fits : n + 8 ≤ length mid
    accepted_fits = omega (arith, as_long out (spelling_of t m) mid 7 in_place_lem (omega (arith, long, few)), few)

    pub accepted_told : (r : ℕ) (after : List ℕ) → r ≡ n + 8 → after ≡ front (accepted_line t (take n (drop 7 mid))) mid
        → Tells m out (record { answer = Ok (t, n); length = r }) after
    accepted_told r after p q =
        told (Ok (t, n)) e r after
        (p ∙ sym (length_accepted t out (spelling_of t m) n long (omega arith)))
        (q ∙ ap (λ (s : List ℕ). front (accepted_line t (take n (drop 7 s))) s) in_place_lem ∙ whole t out (spelling_of t m) n long (omega arith))
        (omega (arith, few))

  module _ (number field place : ℕ) (e : answer_of m (length lent_part) ≡ Err (refusal number field place)) (w : last
      ≡ out_after m lent_part) (b : field < 256) where
    as_it_was : mid ≡ out
    unfolding front
    as_it_was = lent out [] 7 last (w ∙ refused-leaves m lent_part number field place e) ∙ take-append-drop 7 out

    fitting : length (refused_line number field place) ≤ length m + 12
    fitting =
        refused_short number field place (length m) (refused-number m (length lent_part) number field place e).1 b
        (refused_place m (length lent_part) number field place e)

    pub refused_fits : length (refused_line number field place) ≤ length mid
    refused_fits = omega (arith, fitting, ap length as_it_was)

    pub refused_told : (r : ℕ) (after : List ℕ) → r ≡ length (refused_line number field place) → after ≡ front (refused_line number field place) mid
        → Tells m out (record { answer = Err (refusal number field place); length = r }) after
    refused_told r after p q =
        told (Err (refusal number field place)) e r after p (q
        ∙ ap (λ (s : List ℕ). front (refused_line number field place) s) as_it_was) (omega (arith, fitting))
