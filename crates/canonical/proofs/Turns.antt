-- Writing into a lent slice: one text by two names, and two texts in turn. Nothing here speaks of field 19. Assumes nothing.
use Prim.Native.Nat.{ℕ, ◌+◌, ◌≤◌}
use mathlib.Core.Path.{◌≡◌, sym, subst}
use mathlib.Core.List.{List, ◌++◌, append_assoc}
use lib.ListN.{length, take, drop, length-append}
use lib.Seq.{drop-drop, take-append_seam, drop-append_seam}
use Rattle.text.specs.Lent.{front}

-- ONE TEXT BY TWO NAMES: what is asked and what is ensured of one is of the other

pub put_same : {v w ys : List ℕ} {r : ℕ} (out : List ℕ) → v ≡ w → (r ≡ length v) × (ys ≡ front v out) → (r ≡ length w) × (ys ≡ front w out)
put_same {ys = ys} {r = r} out e h = subst (λ (x : List ℕ). (r ≡ length x) × (ys ≡ front x out)) e h

pub room_same : {v w : List ℕ} (out : List ℕ) → v ≡ w → length v ≤ length out → length w ≤ length out
room_same out e h = subst (λ (x : List ℕ). length x ≤ length out) e h

-- IN TWO PARTS: u first, and v behind it
pub halves : (u v out mid : List ℕ) (n : ℕ) → n ≡ length u → mid ≡ front u out → take n mid ++ front v (drop n mid) ≡ front (u ++ v) out
unfolding front
halves u v out mid n e f =
    rw (f, e, take-append_seam u (drop (length u) out), drop-append_seam u (drop (length u) out), drop-drop (length v) (length u) out, length-append u v)
    (sym (append_assoc u v (drop (length u + length v) out)))
