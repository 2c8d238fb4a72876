-- Bytes that count, at an index. Assumes nothing.
use Prim.Native.Nat.{ℕ, zero, suc, ◌+◌, ◌-◌, ◌<◌, ◌≤◌}
use mathlib.Core.Path.{◌≡◌, refl, sym, ap, ◌∙◌}
use mathlib.Core.Bool.{Bool, true, false, ◌&&◌, false≢true}
use mathlib.Core.List.{List, ◌∷◌}
use native.Mathlib.Omega.{arith}
use lib.ListN.{length, drop, get_or}
use borrow.Author.Tests.{lt-ltb, le-ltb, not-true, not-false}
use Rattle.alphabet.specs.Alphabet.{white}
use Rattle.text.proofs.Index.{drop_here, drop_end}
use Rattle.space.specs.Places.{sent_from, in_run, counts_at, past_lead}

both : (a b : Bool) → (a && b) ≡ true → (a ≡ true) × (b ≡ true)
both true b e = (refl, e)
both false b e = absurd (false≢true e)

skipped : (r : Bool) (n b : ℕ) (s : List ℕ) → (r && white b) ≡ true → sent_from r n (b ∷ s) ≡ suc (sent_from (white b) n s)
unfolding sent_from
skipped r zero b s e = rw (e, (both r (white b) e).1)
skipped r (suc n) b s e = rw e

stopped : (r : Bool) (b : ℕ) (s : List ℕ) → (r && white b) ≡ false → sent_from r 0 (b ∷ s) ≡ 0
unfolding sent_from
stopped r b s e = rw e

passed : (r : Bool) (n b : ℕ) (s : List ℕ) → (r && white b) ≡ false → sent_from r (suc n) (b ∷ s) ≡ suc (sent_from (white b) n s)
unfolding sent_from
passed r n b s e = rw e

module _ (m : List ℕ) (at i : ℕ) (h : i < length m) (l : at ≤ i) where
  later : white (get_or m i 0) ≡ in_run m at (i + 1)
  later = let z : i + 1 - 1 ≡ i = omega arith in sym (rw (lt-ltb at (i + 1) (omega arith), z))

  pub count_stop : counts_at m at i ≡ true → sent_from (in_run m at i) 0 (drop i m) ≡ 0
  count_stop e = rw (drop_here m i h) (stopped (in_run m at i) (get_or m i 0) (drop (i + 1) m) (not-true (in_run m at i && white (get_or m i 0)) e))

  pub count_next : (n k : ℕ) → n ≡ suc k → counts_at m at i ≡ true
      → sent_from (in_run m at i) n (drop i m) ≡ suc (sent_from (in_run m at (i + 1)) k (drop (i + 1) m))
  count_next n k z e =
      ap (λ (x : ℕ). sent_from (in_run m at i) x (drop i m)) z
      ∙ ap (sent_from (in_run m at i) (suc k)) (drop_here m i h)
      ∙ passed (in_run m at i) k (get_or m i 0) (drop (i + 1) m) (not-true (in_run m at i && white (get_or m i 0)) e)
      ∙ ap (λ (r : Bool). suc (sent_from r k (drop (i + 1) m))) later

  pub count_skip : (n : ℕ) → counts_at m at i ≡ false → sent_from (in_run m at i) n (drop i m) ≡ suc (sent_from (in_run m at (i + 1)) n (drop (i + 1) m))
  count_skip n e =
      ap (sent_from (in_run m at i) n) (drop_here m i h)
      ∙ skipped (in_run m at i) n (get_or m i 0) (drop (i + 1) m) (not-false (in_run m at i && white (get_or m i 0)) e)
      ∙ ap (λ (r : Bool). suc (sent_from r n (drop (i + 1) m))) later

pub count_end : (r : Bool) (n : ℕ) (m : List ℕ) (i : ℕ) → length m ≤ i → sent_from r n (drop i m) ≡ 0
unfolding sent_from
count_end r n m i h = rw (drop_end m i h)

pub count_start : (m : List ℕ) (at : ℕ) → in_run m at at ≡ false
count_start m at = rw (le-ltb at at (omega arith))

pub lead_past : (n : ℕ) (m : List ℕ) (h : ℕ) → h < length m → h + 1 + sent_from false n (drop (h + 1) m) ≡ h + past_lead n (drop h m)
lead_past n m h l =
    let lead : h + past_lead n (drop h m) ≡ h + suc (sent_from false n (drop (h + 1) m)) = ap (λ (s : List ℕ). h + past_lead n s) (drop_here m h l) in
    omega arith

pub lead_none : (n : ℕ) (m : List ℕ) (h : ℕ) → length m ≤ h → h ≡ h + past_lead n (drop h m)
lead_none n m h l = let z : h + past_lead n (drop h m) ≡ h + 0 = ap (λ (s : List ℕ). h + past_lead n s) (drop_end m h l) in omega arith
