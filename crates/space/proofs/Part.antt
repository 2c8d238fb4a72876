-- A message reduced part by part: what is left of a part and behind it, and the scratch that it is written into. Assumes nothing.
use Prim.Native.Nat.{ℕ, zero, suc, ◌+◌, ◌-◌, ◌≤◌, ◌<◌}
use mathlib.Core.Path.{◌≡◌, refl, sym, ap, ◌∙◌}
use mathlib.Core.Bool.{Bool, true, false, cond, ◌&&◌}
use mathlib.Core.List.{List, [], ◌∷◌, ◌++◌, append_assoc, append-nil}
use native.Mathlib.Omega.{arith}
use lib.Dec.{eqb}
use lib.ListN.{length, get_or, take, drop, set, length-append, length-drop, length-set, take-append-drop}
use lib.Seq.{drop-drop, length-take-le, take_at, drop_at, get_or-append_seam}
use borrow.Author.Tests.{eqb-true}
use Rattle.alphabet.specs.Alphabet.{white}
use Rattle.text.specs.Lent.{front}
use Rattle.text.proofs.Tests.{both}
use Rattle.text.proofs.Index.{drop_here, drop_end}
use Rattle.text.proofs.Lent.{store, lent, Writing, begin, due, onward, all_written, as_long}
use Rattle.space.specs.Reduced.{opens, stands_for_run, kept, reduced_from, reduced}
use Rattle.space.specs.Part.{reduced_part, last_of, with_part}
use Rattle.text.specs.Pairs.{all_pairs}
use Rattle.space.specs.Stays.{regular, all_regular}
use Rattle.space.proofs.Reduced.{kept_length}
use Rattle.space.proofs.Stays.{Told, told_behind, regular_stays}

part_short : (a : Bool) (n : ℕ) (s : List ℕ) → length (reduced_part a n s) ≤ n
unfolding reduced_part
part_short a zero s = omega arith
part_short a (suc n) [] = omega arith
part_short a (suc n) (b ∷ s) = kept_length (white b) (stands_for_run a s) b _ _ (part_short (cond (white b) a (opens b)) n s)

-- REGULAR BYTES are left as they are

kept_same : (stands : Bool) (b : ℕ) (rest : List ℕ) (w : Bool) → cond w (eqb b 32 && stands) true ≡ true → kept w stands b rest ≡ b ∷ rest
kept_same stands b rest true e =
    let t = both (eqb b 32) stands e in
    rw t.1 (ap (λ (x : ℕ). x ∷ rest) (sym (eqb-true b 32 t.0)))
kept_same stands b rest false e = refl

part_regular : (a : Bool) (n : ℕ) (s : List ℕ) → n < length s → all_regular (take (suc n) s) ≡ true → reduced_part a n s ≡ take n s
unfolding reduced_part all_pairs
part_regular a zero s h e = refl
part_regular a (suc n) [] h e = absurd (omega arith)
part_regular a (suc n) (b ∷ []) h e = absurd (omega arith)
part_regular a (suc n) (b ∷ (c ∷ s)) h e =
    let t = both (regular b c) (all_regular (c ∷ take n s)) e in
    kept_same (stands_for_run a (c ∷ s)) b _ (white b) (regular_stays a b c s t.0)
    ∙ ap (λ (l : List ℕ). b ∷ l) (part_regular (cond (white b) a (opens b)) n (c ∷ s) (omega arith) t.1)

-- BEHIND A PART the byte written last tells where a run is just after `(` or `-`

told_same : (p : ℕ) (a : Bool) (s : List ℕ) → Told p a s → reduced_from a s ≡ reduced_from (opens p) s
unfolding reduced_from
told_same p a [] t = refl
told_same p a (b ∷ s) t = go (white b) (t (omega arith))
  where
    go : (w : Bool) → (w ≡ true → opens p ≡ a)
        → kept w (stands_for_run a s) b (reduced_from (cond w a (opens b)) s) ≡ kept w (stands_for_run (opens p) s) b
        (reduced_from (cond w (opens p) (opens b)) s)
    go true e = ap (λ (c : Bool). kept true (stands_for_run c s) b (reduced_from c s)) (sym (e refl))
    go false e = refl

-- x: what is written before the part
abbrev RestBehind : List ℕ → Bool → ℕ → List ℕ → Type 0
RestBehind x a n s = reduced_from a s ≡ reduced_part a n s ++ reduced_from (opens (last_of (x ++ reduced_part a n s))) (drop n s)

one_more_lem : (x : List ℕ) (y : ℕ) (a : Bool) (n : ℕ) (s : List ℕ) → RestBehind (x ++ (y ∷ [])) a n s
    → y ∷ reduced_from a s ≡ (y ∷ reduced_part a n s) ++ reduced_from (opens (last_of (x ++ (y ∷ reduced_part a n s)))) (drop n s)
one_more_lem x y a n s r =
    ap (λ (l : List ℕ). y ∷ l) r
    ∙ ap (λ (l : List ℕ). (y ∷ reduced_part a n s) ++ reduced_from (opens (last_of l)) (drop n s)) (append_assoc x (y ∷ []) (reduced_part a n s))

last_snoc : (x : List ℕ) (y : ℕ) → last_of (x ++ (y ∷ [])) ≡ y
last_snoc x y =
    let k : length (x ++ (y ∷ [])) - 1 ≡ length x = omega (arith, length-append x (y ∷ [])) in
    ap (λ (j : ℕ). get_or (x ++ (y ∷ [])) j 0) k ∙ get_or-append_seam x y [] 0

rest_step : (x : List ℕ) (a : Bool) (n b : ℕ) (s : List ℕ) (w k : Bool) → white b ≡ w → stands_for_run a s ≡ k → Told (last_of x) a (b ∷ s)
    → RestBehind (x ++ (b ∷ [])) (opens b) n s → (Told (last_of (x ++ (32 ∷ []))) a s → RestBehind (x ++ (32 ∷ [])) a n s)
    → (Told (last_of x) a s → RestBehind x a n s) → RestBehind x a (suc n) (b ∷ s)
unfolding reduced_from reduced_part
rest_step x a n b s false k ew ek t solid space out = rw ew (one_more_lem x b (opens b) n s solid)
rest_step x a n b s true true ew ek t solid space out = rw (ew, ek) (one_more_lem x 32 a n s (space (told_behind (last_of (x ++ (32 ∷ []))) a s ek)))
rest_step x a n b s true false ew ek t solid space out = rw (ew, ek) (out (λ h w. t (omega arith) ew))

part_rest : (x : List ℕ) (a : Bool) (n : ℕ) (s : List ℕ) → Told (last_of x) a s → RestBehind x a n s
unfolding reduced_from reduced_part
part_rest x a zero s t = told_same (last_of x) a s t ∙ ap (λ (l : List ℕ). reduced_from (opens (last_of l)) s) (sym (append-nil x))
part_rest x a (suc n) [] t = refl
part_rest x a (suc n) (b ∷ s) t =
    rest_step x a n b s (white b) (stands_for_run a s) refl refl t (part_rest (x ++ (b ∷ [])) (opens b) n s (λ h w. ap opens (last_snoc x b)))
    (part_rest (x ++ (32 ∷ [])) a n s) (part_rest x a n s)

-- ONE BYTE AFTER ANOTHER: from `from` to i they are reduced, behind the `at` bytes that were written before, and stand in buf up to n
pub record Bytewise (msg buf₀ : List ℕ) (from to at : ℕ) (buf : List ℕ) (last n i : ℕ) : Type 0 where
  pub begun : from ≤ i
  pub inside : i ≤ to
  pub short : n + from ≤ at + i
  pub room : length buf ≡ length buf₀
  pub writing : Writing (with_part (take at buf₀) (to - from) (drop from msg)) buf₀ buf n (reduced_part (opens last) (to - i) (drop i msg))

pub bytes_start : (msg buf : List ℕ) (from to at last : ℕ) → from ≤ to → at ≤ length buf → last ≡ last_of (take at buf)
    → Bytewise msg buf from to at buf last at from
bytes_start msg buf from to at last h l e =
    let k : length (take at buf) ≡ at = length-take-le at buf l in
    let w = reduced_part (opens (last_of (take at buf))) (to - from) (drop from msg) in
    record {
      begun = omega arith;
      inside = h;
      short = omega arith;
      room = refl;
      writing = record {
        inside = omega (arith, length-append (take at buf) w);
        ahead = drop_at (take at buf) w at k ∙ rw e;
        held = rw (take_at (take at buf) w at k) (sym (take-append-drop at buf));
      };
    }

module _ (msg buf₀ : List ℕ) (from to at : ℕ) (buf : List ℕ) (last n i : ℕ) (t : Bytewise msg buf₀ from to at buf last n i) where
  module _ (h : i < to) (l : to ≤ length msg) where
    -- what is left from here on, by the byte here
    here : reduced_part (opens last) (to - i) (drop i msg)
        ≡ kept (white (get_or msg i 0)) (stands_for_run (opens last) (drop (i + 1) msg)) (get_or msg i 0)
        (reduced_part (cond (white (get_or msg i 0)) (opens last) (opens (get_or msg i 0))) (to - (i + 1)) (drop (i + 1) msg))
    unfolding reduced_part
    here =
        let k : to - i ≡ suc (to - (i + 1)) = omega arith in
        let j : i < length msg = omega arith in
        rw (k, drop_here msg i j)

    -- x is stored
    stored : (x p : ℕ) → n < length buf → reduced_part (opens last) (to - i) (drop i msg) ≡ x ∷ reduced_part (opens p) (to - (i + 1)) (drop (i + 1) msg)
        → Bytewise msg buf₀ from to at (set buf n x) p (n + 1) (i + 1)
    stored x p r e =
        let rest = reduced_part (opens p) (to - (i + 1)) (drop (i + 1) msg) in
        record {
          begun = omega (arith, t.begun);
          inside = omega arith;
          short = omega (arith, t.short);
          room = length-set buf n x ∙ t.room;
          writing = onward (x ∷ []) rest (due t.writing e) (set buf n x) (store buf n x r);
        }

    pub byte_stored : n < length buf → white (get_or msg i 0) ≡ false
        → Bytewise msg buf₀ from to at (set buf n (get_or msg i 0)) (get_or msg i 0) (n + 1) (i + 1)
    byte_stored r e = stored (get_or msg i 0) (get_or msg i 0) r (here ∙ rw e)

    pub space_stored : n < length buf → white (get_or msg i 0) ≡ true → stands_for_run (opens last) (drop (i + 1) msg) ≡ true
        → Bytewise msg buf₀ from to at (set buf n 32) last (n + 1) (i + 1)
    space_stored r e s = stored 32 last r (here ∙ rw (e, s))

    pub white_out : white (get_or msg i 0) ≡ true → stands_for_run (opens last) (drop (i + 1) msg) ≡ false
        → Bytewise msg buf₀ from to at buf last n (i + 1)
    white_out e s =
        record {
          begun = omega (arith, t.begun);
          inside = omega arith;
          short = omega (arith, t.short);
          room = t.room;
          writing = due t.writing (here ∙ rw (e, s));
        }

  pub bytes_end : to ≤ i → let whole = with_part (take at buf₀) (to - from) (drop from msg) in (n ≡ length whole) × (buf ≡ front whole buf₀)
  unfolding reduced_part
  bytes_end h =
      let z : to - i ≡ 0 = omega arith in
      all_written (due t.writing (rw z))

-- ONE PART AFTER ANOTHER: up to i the message is reduced, and stands in buf up to n
pub record Partwise (msg buf₀ buf : List ℕ) (n i : ℕ) : Type 0 where
  pub short : n ≤ i
  pub inside : i ≤ length msg
  pub room : length buf ≡ length buf₀
  pub writing : Writing (reduced msg) buf₀ buf n (reduced_from (opens (last_of (take n buf))) (drop i msg))

pub parts_start : (msg buf : List ℕ) → Partwise msg buf buf 0 0
unfolding reduced opens
parts_start msg buf = record { short = omega arith; inside = omega arith; room = refl; writing = begin (reduced msg) buf }

pub parts_end : (msg buf₀ buf : List ℕ) (n i : ℕ) → Partwise msg buf₀ buf n i → length msg ≤ i → (n ≡ length (reduced msg)) × (buf ≡ front (reduced msg) buf₀)
unfolding reduced_from
parts_end msg buf₀ buf n i t h = all_written (due t.writing (rw (drop_end msg i h)))

module _ (msg buf₀ buf : List ℕ) (n i : ℕ) (t : Partwise msg buf₀ buf n i) (room : length msg ≤ length buf₀) (to : ℕ) (h : i ≤ to) (l : to ≤ length msg) where
  -- what is left of the bytes from i up to `to`
  abbrev part : List ℕ
  part = reduced_part (opens (last_of (take n buf))) (to - i) (drop i msg)

  few : n + (to - i) ≤ length buf
  few = omega (arith, t.short, t.room)

  next : (mid : List ℕ) (r : ℕ) → mid ≡ take n buf ++ front part (drop n buf) → r ≡ n + length part → Partwise msg buf₀ mid r to
  unfolding front
  next mid r e z =
      let s : length part ≤ to - i = part_short (opens (last_of (take n buf))) (to - i) (drop i msg) in
      let d : length (take n buf) ≡ n = length-take-le n buf (omega (arith, few)) in
      let x = take n buf ++ part in
      let m : length x ≡ n + length part = length-append (take n buf) part ∙ omega arith in
      let q : take (n + length part) mid ≡ x =
      rw (e, ← append_assoc (take n buf) part (drop (length part) (drop n buf))) (take_at x _ (n + length part) m) in
      let k : i + (to - i) ≡ to = omega arith in
      let b : drop (to - i) (drop i msg) ≡ drop to msg = drop-drop (to - i) i msg ∙ ap (λ (j : ℕ). drop j msg) k in
      let rest = reduced_from (opens (last_of x)) (drop (to - i) (drop i msg)) in
      let y = due t.writing (part_rest (take n buf) (opens (last_of (take n buf))) (to - i) (drop i msg) (λ u v. refl)) in
      let w = onward part rest y mid e in
      record { short = omega (arith, t.short); inside = l; room = as_long w (omega (arith, few, t.room)); writing = rw (z, q, ← b) w }

  pub part_reduced : (mid : List ℕ) (r : ℕ) → r ≡ length (with_part (take n buf) (to - i) (drop i msg))
      → mid ≡ front (with_part (take n buf) (to - i) (drop i msg)) buf → Partwise msg buf₀ mid r to
  unfolding front
  part_reduced mid r z e =
      let d : length (take n buf) ≡ n = length-take-le n buf (omega (arith, few)) in
      let m : length (take n buf ++ part) ≡ n + length part = length-append (take n buf) part ∙ omega arith in
      next mid r (e ∙ rw (m, ← drop-drop (length part) n buf) (append_assoc (take n buf) part _)) (z ∙ m)

  -- where its bytes are regular, they are copied
  pub part_copied : (ys : List ℕ) (r : ℕ) → to < length msg → all_regular (take (to + 1 - i) (drop i msg)) ≡ true
      → let w = take (to - i) (drop i msg) in (r ≡ length w) × (ys ≡ front w (take (length buf - n) (drop n buf)))
      → Partwise msg buf₀ (take n buf ++ (ys ++ drop (length buf - n) (drop n buf))) (n + r) to
  part_copied ys r g a e =
      let k : to + 1 - i ≡ suc (to - i) = omega arith in
      let j : to - i < length (drop i msg) = rw length-drop (omega arith) in
      let p : part ≡ take (to - i) (drop i msg) = part_regular (opens (last_of (take n buf))) (to - i) (drop i msg) j (rw k at a) in
      next _ (n + r) (lent buf part n ys (rw p e.1)) (rw (p, e.0))
