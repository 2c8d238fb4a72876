-- What an output holds as a line is written to it. Assumes nothing.
use Prim.Native.Nat.{ℕ, ◌+◌, ◌<◌, ◌≤◌}
use mathlib.Core.Path.{◌≡◌, refl, sym, ap, subst, ◌∙◌}
use mathlib.Core.List.{List, [], ◌∷◌, ◌++◌, append_assoc}
use native.Mathlib.Omega.{arith}
use lib.Dec.{eqb}
use borrow.Author.Tests.{eqb-true}
use lib.ListN.{length, take, drop, set, get_or, length-append, length-drop, take-append-drop}
use lib.Seq.{drop-drop, take_at, drop_at, set_at, length-take-le, drop-append-add}
use Rattle.io.specs.Counts.{IsPrefixLen}
use Rattle.text.specs.Lent.{front}
use Rattle.text.proofs.Index.{drop_here}
use Rattle.text.proofs.Lent.{length_front, Writing, room, onward}
use Rattle.kinds.specs.declared.MessageType.{MessageType}
use Rattle.kinds.specs.Kinds.{types_read}
use Rattle.kinds.proofs.Names.{each}
use Rattle.lines.specs.Lines.{opening, accepted_line}

-- what is written from `at` on leaves the length
pub as_long : (out w mid : List ℕ) (at : ℕ) → mid ≡ take at out ++ front w (drop at out) → at + length w ≤ length out → length mid ≡ length out
as_long out w mid at q h =
    let d = length-drop at out in
    let l = ap length q in
    omega (arith, length-append (take at out) (front w (drop at out)), length-take-le at out (omega arith), length_front w (drop at out) (omega arith))

-- a byte stored just behind w, which was written from `at` on
pub stored : (out w mid : List ℕ) (at e x : ℕ) → mid ≡ take at out ++ front w (drop at out) → e ≡ at + length w → e < length out
    → set mid e x ≡ take at out ++ front (w ++ (x ∷ [])) (drop at out)
unfolding front
stored out w mid at e x q r h =
    let p = take at out ++ w in
    let v = w ++ (x ∷ []) in
    let l : length p ≡ e = omega (arith, length-append (take at out) w, length-take-le at out (omega arith)) in
    let k : at + length v ≡ e + 1 = omega (arith, length-append w (x ∷ [])) in
    let d : drop (length w) (drop at out) ≡ get_or out e 0 ∷ drop (e + 1) out
    = drop-drop (length w) at out ∙ ap (λ (i : ℕ). drop i out) (sym r) ∙ drop_here out e h in
    let b : drop (length v) (drop at out) ≡ drop (e + 1) out = drop-drop (length v) at out ∙ ap (λ (i : ℕ). drop i out) k in
    ap (λ (s : List ℕ). set s e x) (q ∙ sym (append_assoc (take at out) w (drop (length w) (drop at out))) ∙ ap (λ (s : List ℕ). p ++ s) d)
    ∙ set_at p (get_or out e 0) (drop (e + 1) out) x e l
    ∙ append_assoc (take at out) w (x ∷ drop (e + 1) out)
    ∙ ap (λ (s : List ℕ). take at out ++ s) (sym (append_assoc w (x ∷ []) (drop (e + 1) out)) ∙ ap (λ (s : List ℕ). v ++ s) (sym b))

-- THE NEXT PART of a whole that is written in turns: it fits, and once it is written the turn is the next part's

module _ {whole out₀ out : List ℕ} {o : ℕ} (w left : List ℕ) (t : Writing whole out₀ out o (w ++ left)) where
  pub part_fits : length whole ≤ length out₀ → o + length w ≤ length out
  part_fits h =
      let d = length-drop o out₀ in
      omega (arith, room w left t, ap length t.held, length-append (take o whole) (drop o out₀), length-take-le o whole t.inside)

  pub part_written : (mid : List ℕ) (p : ℕ) → p ≡ o + length w → mid ≡ take o out ++ front w (drop o out) → Writing whole out₀ mid p left
  part_written mid p e q = subst (λ (i : ℕ). Writing whole out₀ mid i left) (sym e) (onward w left t mid q)

-- what was written stands inside
pub counted : (w out₀ out : List ℕ) (o : ℕ) → o ≡ length w → out ≡ front w out₀ → IsPrefixLen o out
unfolding front
counted w out₀ out o l e =
    let n : o ≤ length out = omega (arith, ap length e, length-append w (drop (length w) out₀)) in
    (n, sym (length-take-le o out n))

-- WHAT STANDS AROUND A SPELLING

-- the bytes behind w, taken for a part of what was written
taken_along : (w out : List ℕ) (n k : ℕ) → k ≡ length w → k + n ≤ length out → front w out ≡ front (w ++ take n (drop k out)) out
unfolding front
taken_along w out n k e h =
    let d = drop k out in
    let l : length (w ++ take n d) ≡ k + n = omega (arith, length-append w (take n d), length-take-le n d (omega (arith, length-drop k out))) in
    ap (λ (i : ℕ). w ++ drop i out) (sym e)
    ∙ ap (λ (s : List ℕ). w ++ s) (sym (take-append-drop n d))
    ∙ sym (append_assoc w (take n d) (drop n d))
    ∙ ap (λ (s : List ℕ). (w ++ take n d) ++ s) (drop-drop n k out ∙ ap (λ (i : ℕ). drop i out) (sym l))

-- it is as long for every type
pub seven : (t : MessageType) → length (opening t) ≡ 7
unfolding opening types_read
seven t = eqb-true (length (opening t)) 7 (each (λ u. eqb (length (opening u)) 7) refl t)

pub around : (t : MessageType) (out mid : List ℕ) (n e : ℕ) → mid ≡ front (opening t) out → e ≡ 7 + n → e < length out
    → set mid e 10 ≡ front (accepted_line t (take n (drop 7 out))) out
unfolding accepted_line
around t out mid n e q r h =
    let l = seven t in
    let w = opening t ++ take n (drop 7 out) in
    let k : e ≡ 0 + length w
    = omega (arith, length-append (opening t) (take n (drop 7 out)), length-take-le n (drop 7 out) (omega (arith, length-drop 7 out))) in
    stored out w mid 0 e 10 (q ∙ taken_along (opening t) out n 7 (sym l) (omega arith)) k h
    ∙ ap (λ (s : List ℕ). front s out) (append_assoc (opening t) (take n (drop 7 out)) (10 ∷ []))

-- where the spelling was written in its place first
module _ (t : MessageType) (out spelling : List ℕ) (n : ℕ) (e : n ≡ length spelling) (h : 7 ≤ length out) where
  abbrev mid : List ℕ
  mid = take 7 out ++ front spelling (drop 7 out)

  in_place_lem : take n (drop 7 mid) ≡ spelling
  unfolding front
  in_place_lem =
      ap (take n) (drop_at (take 7 out) (front spelling (drop 7 out)) 7 (length-take-le 7 out h))
      ∙ take_at spelling (drop (length spelling) (drop 7 out)) n (sym e)

  behind : drop (7 + (n + 1)) mid ≡ drop (7 + (n + 1)) out
  unfolding front
  behind =
      sym (drop-drop (n + 1) 7 mid)
      ∙ ap (drop (n + 1)) (drop_at (take 7 out) (front spelling (drop 7 out)) 7 (length-take-le 7 out h))
      ∙ ap (λ (i : ℕ). drop (i + 1) (front spelling (drop 7 out))) e
      ∙ drop-append-add spelling (drop (length spelling) (drop 7 out)) 1
      ∙ drop-drop 1 (length spelling) (drop 7 out)
      ∙ ap (λ (i : ℕ). drop (i + 1) (drop 7 out)) (sym e)
      ∙ drop-drop (n + 1) 7 out

  pub length_accepted : length (accepted_line t spelling) ≡ n + 8
  unfolding accepted_line
  length_accepted = omega (arith, seven t, length-append (opening t) (spelling ++ (10 ∷ [])), length-append spelling (10 ∷ []))

  pub whole : front (accepted_line t (take n (drop 7 mid))) mid ≡ front (accepted_line t spelling) out
  unfolding front
  whole =
      let k : length (accepted_line t spelling) ≡ 7 + (n + 1) = omega (arith, length_accepted) in
      ap (λ (s : List ℕ). front (accepted_line t s) mid) in_place_lem
      ∙ ap (λ (i : ℕ). accepted_line t spelling ++ drop i mid) k
      ∙ ap (λ (s : List ℕ). accepted_line t spelling ++ s) behind
      ∙ ap (λ (i : ℕ). accepted_line t spelling ++ drop i out) (sym k)
