-- A walk over an input that says something of each piece writes it all, one behind the other. Assumes nothing.
use Prim.Native.Nat.{ℕ, ◌+◌, ◌-◌, ◌<◌, ◌≤◌}
use mathlib.Core.Path.{◌≡◌, sym, ap}
use mathlib.Core.List.{List, ◌++◌}
use native.Mathlib.Omega.{arith}
use lib.ListN.{length, take, drop, length-drop}
use lib.Seq.{length-take-le}
use Rattle.text.specs.Words.{Word}
use Rattle.text.specs.Lent.{front}
use Rattle.pieces.specs.Pieces.{white_ahead, piece_end, pieces_of}
use Rattle.pieces.proofs.Walk.{to_front, next_piece, no_piece}
use Rattle.text.proofs.Lent.{Writing, begin, due, all_written}
use Rattle.lines.specs.Lines.{each}
use Rattle.lines.proofs.Writing.{part_written}

-- a piece that begins before the end has some bytes, and ends there at the latest
pub record Some (s : List ℕ) (at e : ℕ) : Type 0 where
  pub long : at + length (take (e - at) (drop at s)) ≡ e
  pub least : 1 ≤ length (take (e - at) (drop at s))
  pub inside : e ≤ length s

pub some : (s : List ℕ) (at e : ℕ) → at < length s → e ≡ piece_end s at → Some s at e
some s at e h q =
    let l = length-take-le (e - at) (drop at s) (omega (arith, length-drop at s)) in
    record { long = omega arith; least = omega arith; inside = omega arith }

module _ (said : Word → List ℕ) (s out₀ : List ℕ) where
  -- a piece begins at `at`, and what is left to write is what is said from there on
  pub record At (out : List ℕ) (o at : ℕ) : Type 0 where
    pub none_ahead : white_ahead (drop at s) ≡ 0
    pub turn : Writing (each said (pieces_of s)) out₀ out o (each said (pieces_of (drop at s)))

  pub first : (at : ℕ) → at ≡ 0 + white_ahead (drop 0 s) → At out₀ 0 at
  first at e =
      let f = to_front s 0 at e in
      record { none_ahead = f.none_ahead; turn = due (begin (each said (pieces_of s)) out₀) (sym (ap (each said) f.same_pieces)) }

  pub next : {out : List ℕ} {o at : ℕ} → At out o at → (e to : ℕ) → at < length s → e ≡ piece_end s at → to ≡ e + white_ahead (drop e s)
      → (mid : List ℕ) (p : ℕ) → p ≡ o + length (said (take (e - at) (drop at s))) → mid ≡ take o out ++ front (said (take (e - at) (drop at s))) (drop o out)
      → At mid p to
  next {at = at} t e to h q r mid p l w =
      let f = to_front s e to r in
      let m = take (e - at) (drop at s) in
      let d = due t.turn (ap (each said) (next_piece s at e h t.none_ahead q)) in
      record {
        none_ahead = f.none_ahead;
        turn = due (part_written (said m) (each said (pieces_of (drop e s))) d mid p l w) (sym (ap (each said) f.same_pieces));
      }

  pub last : {out : List ℕ} {o at : ℕ} → At out o at → length s ≤ at → (o ≡ length (each said (pieces_of s))) × (out ≡ front (each said (pieces_of s)) out₀)
  last {at = at} t h = all_written (due t.turn (ap (each said) (no_piece s at h)))
