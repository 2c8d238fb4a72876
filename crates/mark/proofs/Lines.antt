-- The line of a place and how it is shown; how long the lines are. Assumes nothing.
use Prim.Native.Nat.{ℕ, zero, suc, ◌+◌, ◌-◌, ◌<◌, ◌≤◌, min}
use mathlib.Core.Path.{◌≡◌, refl, sym, ap, ◌∙◌}
use mathlib.Core.Bool.{Bool, true, false, cond}
use mathlib.Core.List.{List, [], ◌∷◌, ◌++◌, append-nil}
use native.Mathlib.Omega.{arith}
use native.Mathlib.Numerals.{add-one}
use lib.ListN.{length, take, drop, get_or, length-append, length-take, length-drop}
use Rattle.std.specs.Prelude.{Option, Some, None, reverse, replicate}
use Rattle.std.specs.List.{position_or_len}
use Rattle.std.specs.Option.{unwrap_or}
use lib.Dec.{ltb}
use lib.Seq.{length-take-le}
use Rattle.std.proofs.Math.Seq.{take-suc}
use Rattle.std.proofs.lemmas.List.{reverse-append}
use Rattle.std.proofs.lemmas.List.Recursion.{is_position_or_len}
use Rattle.std.proofs.lemmas.List.Sums.{prefix_len-le-length}
use Rattle.std.proofs.lemmas.Bool.{ltb-false}
use Rattle.text.specs.Lent.{front}
use Rattle.outer.specs.Outer.{most}
use Rattle.kinds.specs.declared.MessageType.{MessageType}
use Rattle.message.specs.Answer.{Answer}
use Rattle.message.specs.Reading.{answer_of}
use Rattle.lines.specs.Lines.{line_of as listing_line}
use Rattle.mark.specs.Mark.{ends_line, line_start, ahead, line_end, shown_as, shown_all, blanks, shown_line, mark_line, drawn_at, drawn, drawn_for, marked_of}
use Rattle.std.specs.Prelude.{Ok, Err}
use Rattle.outer.specs.Refusal.{refusal}

-- WHERE THE LINE BEGINS AND ENDS

ahead_place : (s : List ℕ) → ahead s ≡ position_or_len ends_line s
ahead_place s =
    is_position_or_len ahead ends_line refl
    (λ b t. let one : suc (ahead t) ≡ 1 + ahead t = omega arith in ap (λ n. cond (ends_line b) 0 n) one) s

unwrapped : (t : Bool) (p n : ℕ) → (t ≡ false → p ≡ n) → unwrap_or (cond t (Some p) None) n ≡ p
unwrapped true p n z = refl
unwrapped false p n z = sym (z refl)

-- what `position` found, and the length where it found none
pub ahead_found : (s : List ℕ) (r : Option ℕ) → r ≡ cond (ltb (position_or_len ends_line s) (length s)) (Some (position_or_len ends_line s)) None
    → (n : ℕ) → n ≡ length s → (u : ℕ) → u ≡ unwrap_or r n → u ≡ ahead s
ahead_found s r f n l u e =
    let p = position_or_len ends_line s in
    let b : p ≤ length s = prefix_len-le-length _ s in
    e ∙ ap (λ r. unwrap_or r n) f ∙ unwrapped (ltb p (length s)) p n (λ h. omega (arith, b, l, ltb-false p (length s) h)) ∙ sym (ahead_place s)

-- the line begins so many bytes back as stand there behind the last CR or LF
pub start_back : (s : List ℕ) (place : ℕ) → place ≤ length s → line_start s place ≡ place - ahead (reverse (take place s))
start_back s zero h = omega arith
start_back s (suc i) h =
    let x = get_or s i 0 in
    let turned : reverse (take (suc i) s) ≡ x ∷ reverse (take i s) = ap reverse (take-suc s i 0 (omega arith)) ∙ reverse-append (take i s) (x ∷ []) in
    go (ends_line x) (start_back s i (omega arith)) ∙ ap (λ t. suc i - ahead t) (sym turned)
  where
    go : (t : Bool) → line_start s i ≡ i - ahead (reverse (take i s)) → cond t (suc i) (line_start s i) ≡ suc i - cond t 0 (suc (ahead (reverse (take i s))))
    go true e = omega arith
    go false e = omega arith

-- HOW IT IS SHOWN

pub length_shown : (s : List ℕ) → length (shown_all s) ≡ length s
length_shown [] = refl
length_shown (b ∷ s) = ap suc (length_shown s)

shown_from : (s : List ℕ) (i : ℕ) → i < length s → drop i (shown_all s) ≡ shown_as (get_or s i 0) ∷ drop (suc i) (shown_all s)
shown_from [] i h = absurd (omega arith)
shown_from (b ∷ s) zero h = refl
shown_from (b ∷ s) (suc i) h = shown_from s i (omega arith)

pub shown_next : (s : List ℕ) (i : ℕ) → i < length s → drop i (shown_all s) ≡ (shown_as (get_or s i 0) ∷ []) ++ drop (i + 1) (shown_all s)
shown_next s i h = rw (add-one i) (shown_from s i h)

pub length_blanks : (n : ℕ) → length (blanks n) ≡ n
length_blanks zero = refl
length_blanks (suc n) = ap suc (length_blanks n)

-- as `fill` writes them
pub blanks_filled : (n : ℕ) (out w : List ℕ) → n ≤ length out → w ≡ replicate (length (take n out)) 32 → w ++ drop n out ≡ front (blanks n) out
unfolding front
blanks_filled n out w h e = rw (e, length-take-le n out h, same n) (ap (λ k. blanks n ++ drop k out) (sym (length_blanks n)))
  where
    same : (n : ℕ) → replicate n 32 ≡ blanks n
    same zero = refl
    same (suc n) = ap (λ s. 32 ∷ s) (same n)

-- HOW LONG THE LINES ARE

pub length_line : (s : List ℕ) → length (shown_line s) ≡ length s + 1
unfolding shown_line
length_line s = omega (arith, length-append (shown_all s) (10 ∷ []), length_shown s)

pub length_mark : (n : ℕ) → length (mark_line n) ≡ n + 2
unfolding mark_line
length_mark n = omega (arith, length-append (blanks n) (94 ∷ (10 ∷ [])), length_blanks n)

-- the line and the mark, where a line was found to begin and end
pub drawn_is : (s : List ℕ) (place start end : ℕ) → start ≡ line_start s place → end ≡ line_end s place
    → shown_line (take (end - start) (drop start s)) ++ mark_line (place - start) ≡ drawn_at s place
unfolding drawn_at
drawn_is s place start end a b = rw (a, b)

pub drawn_short : (s : List ℕ) (place : ℕ) → length (drawn s place) ≤ length s + length s + 3
unfolding drawn_at
drawn_short s place =
    let p = min (length s) place in
    let from = line_start s p in
    let line = take (line_end s p - from) (drop from s) in
    let l : length line ≤ length s = omega (arith, length-take (line_end s p - from) (drop from s), length-drop from s) in
    omega (arith, length-append (shown_line line) (mark_line (p - from)), length_line line, length_mark (p - from))

-- WHAT IS PRINTED, by the answer

pub accepted_marked : (m : List ℕ) (t : MessageType) (n : ℕ) → answer_of m most ≡ Ok (t, n) → listing_line m ≡ marked_of m
unfolding marked_of
accepted_marked m t n e = sym (ap (λ (a : Answer). listing_line m ++ drawn_for a m) e ∙ append-nil (listing_line m))

pub refused_marked : (m : List ℕ) (number field place : ℕ) → answer_of m most ≡ Err (refusal number field place) → listing_line m ++ drawn m place ≡ marked_of m
unfolding marked_of
refused_marked m number field place e = sym (ap (λ (a : Answer). listing_line m ++ drawn_for a m) e)
