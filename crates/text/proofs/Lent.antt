-- What a lent slice holds: after a store, after a callee wrote at the front of its rest, and turn by turn until the whole is written.
-- Assumes nothing.
use Prim.Native.Nat.{ℕ, ◌+◌, ◌-◌, ◌<◌, ◌≤◌}
use mathlib.Core.Path.{◌≡◌, refl, sym, ap, ◌∙◌}
use mathlib.Core.List.{List, [], ◌∷◌, ◌++◌, append_assoc, append-nil}
use native.Mathlib.Omega.{arith}
use lib.ListN.{length, take, drop, set, length-append, length-drop, drop_of_length-le}
use lib.Seq.{drop-cons, drop-drop, take_all, take_at, drop_at, take-add, take-append_seam, drop-append_seam, take-length, length-take-le, set_split}
use Rattle.text.specs.Lent.{front}

-- a store, as writing one byte at the front of the rest
pub store : (out : List ℕ) (o x : ℕ) → o < length out → set out o x ≡ take o out ++ front (x ∷ []) (drop o out)
unfolding front
store out o x h = rw (set_split out o x h, drop-cons out o 0 h)

-- what a callee that was lent `&mut out[o..]` wrote at its front
pub lent : (out w : List ℕ) (o : ℕ) (ys : List ℕ) → ys ≡ front w (take (length out - o) (drop o out))
    → take o out ++ (ys ++ drop (length out - o) (drop o out)) ≡ take o out ++ front w (drop o out)
lent out w o ys e =
    let z : length (drop o out) ≤ length out - o = rw length-drop (omega arith) in
    rw (e, take_all (length out - o) (drop o out) z, drop_of_length-le (drop o out) z) (ap (λ (l : List ℕ). take o out ++ l) (append-nil _))

pub length_front : (w out : List ℕ) → length w ≤ length out → length (front w out) ≡ length out
unfolding front
length_front w out h = rw (length-append, length-drop) (omega arith)

-- a turn of a loop that writes: out holds the first o bytes of the whole, and the rest is as it was
module _ (whole out₀ out : List ℕ) (o : ℕ) (e : out ≡ take o whole ++ drop o out₀) (h : o ≤ length whole) (w rest : List ℕ) (d : drop o whole ≡ w ++ rest) where
  long : length (take o whole) ≡ o
  long = length-take-le o whole h

  pub next_out : take o out ++ front w (drop o out) ≡ take (o + length w) whole ++ drop (o + length w) out₀
  unfolding front
  next_out =
      rw (e, take_at (take o whole) (drop o out₀) o long, drop_at (take o whole) (drop o out₀) o long)
      (rw (drop-drop, take-add o (length w) whole, d, take-append_seam w rest) (sym (append_assoc (take o whole) w _)))

  pub next_rest : drop (o + length w) whole ≡ rest
  next_rest = rw (← drop-drop (length w) o whole, d) (drop-append_seam w rest)

  pub next_fits : o + length w + length rest ≡ length whole
  next_fits = omega (arith, ap length d ∙ length-append w rest, length-drop o whole)

pub whole_out : (whole out₀ out : List ℕ) (o : ℕ) → out ≡ take o whole ++ drop o out₀ → o ≡ length whole → out ≡ front whole out₀
unfolding front
whole_out whole out₀ out o e q = rw (e, q, take-length)

-- A WHOLE TEXT IN TURNS: out holds the first o bytes of the whole and is else as it was, and `left` is what is left of it
pub record Writing (whole out₀ out : List ℕ) (o : ℕ) (left : List ℕ) : Type 0 where
  pub inside : o ≤ length whole
  pub ahead : drop o whole ≡ left
  pub held : out ≡ take o whole ++ drop o out₀

pub begin : (whole out₀ : List ℕ) → Writing whole out₀ out₀ 0 whole
begin whole out₀ = record { inside = omega arith; ahead = refl; held = refl }

pub due : {whole out₀ out left left₁ : List ℕ} {o : ℕ} → Writing whole out₀ out o left → left ≡ left₁ → Writing whole out₀ out o left₁
due t e = record { inside = t.inside; ahead = t.ahead ∙ e; held = t.held }

module _ {whole out₀ out : List ℕ} {o : ℕ} (w left : List ℕ) (t : Writing whole out₀ out o (w ++ left)) where
  pub room : o + length w + length left ≡ length whole
  room = next_fits whole out₀ out o t.held t.inside w left t.ahead

  -- after w was put at the front of what is behind o
  pub onward : (mid : List ℕ) → mid ≡ take o out ++ front w (drop o out) → Writing whole out₀ mid (o + length w) left
  onward mid e =
      record {
        inside = omega (arith, room);
        ahead = next_rest whole out₀ out o t.held t.inside w left t.ahead;
        held = e ∙ next_out whole out₀ out o t.held t.inside w left t.ahead;
      }

pub all_written : {whole out₀ out : List ℕ} {o : ℕ} → Writing whole out₀ out o [] → (o ≡ length whole) × (out ≡ front whole out₀)
all_written {whole = whole} {out₀ = out₀} {out = out} {o = o} t =
    let z : o ≡ length whole = omega (arith, t.inside, ap length t.ahead, length-drop o whole) in
    (z, whole_out whole out₀ out o t.held z)

-- once it has room for what it holds, it is as long as it was
pub as_long : {whole out₀ out left : List ℕ} {o : ℕ} → Writing whole out₀ out o left → o ≤ length out₀ → length out ≡ length out₀
as_long {whole = whole} {out₀ = out₀} {o = o} t h =
    let k : length (take o whole) ≡ o = length-take-le o whole t.inside in
    ap length t.held ∙ length-append (take o whole) (drop o out₀) ∙ omega (arith, length-drop o out₀)
