-- Letters at the front of a field stay, were sent there, and stand at the front of the first content. Assumes nothing.
use Prim.Native.Nat.{ℕ, zero, suc}
use mathlib.Core.Path.{◌≡◌, refl, ap, ◌∙◌}
use mathlib.Core.Bool.{Bool, true, false, cond, not, ◌&&◌, false≢true}
use mathlib.Core.List.{List, [], ◌∷◌, ◌++◌, append_assoc}
use lib.Dec.{eqb}
use lib.ListN.{take}
use Rattle.alphabet.specs.Alphabet.{letter}
use Rattle.text.specs.Words.{Word, split, join, onto, all, free}
use Rattle.text.proofs.Tests.{both, all-free}
use Rattle.text.proofs.Tidy.{letter_tidy}
use Rattle.space.specs.Reduced.{opens, reduced_from}
use Rattle.space.specs.Fields.{field_from, reduced_field}
use Rattle.space.proofs.Bytes.{tidy_solid, tidy_closes}
use Rattle.space.proofs.Fields.{cut}
use Rattle.sent.proofs.Ends.{first_sent}

-- w stands at the front of s
abbrev pub Front : Word → List ℕ → Type 0
Front w s = (t : List ℕ) × (s ≡ w ++ t)

-- THEY STAY

stay_from : (a : Bool) (w : Word) (t : List ℕ) → all letter w ≡ true → Front w (field_from a (w ++ t))
unfolding field_from
stay_from a [] t e = (field_from a t, refl)
stay_from a (b ∷ w) t e =
    let h = both (letter b) (all letter w) e in
    let r = stay_from (opens b) w t h.1 in
    (r.0, rw (tidy_solid b (letter_tidy b h.0), r.1))

pub letters_stay : (w : Word) (t : List ℕ) → all letter w ≡ true → Front w (reduced_field (w ++ t))
unfolding reduced_field
letters_stay w t e = stay_from true w t e

-- THEY WERE SENT THERE

pub letters_sent : (a : Bool) (w : Word) (y m : List ℕ) → all letter w ≡ true → reduced_from a m ≡ w ++ y → Front w m
letters_sent a [] y m e h = (m, refl)
letters_sent a (b ∷ w) y m e h =
    let k = both (letter b) (all letter w) e in
    let d = letter_tidy b k.0 in
    let r = first_sent b (w ++ y) (tidy_solid b d) (tidy_closes b d) a m h in
    let s = letters_sent (opens b) w y r.0 k.1 r.2 in
    (s.0, r.1 ∙ ap (λ (l : List ℕ). b ∷ l) s.1)

-- THE FIRST CONTENT begins with them

abbrev FirstBegins : Word → List Word → Type 0
FirstBegins w ws = (v : Word) × (vs : List Word) × (ws ≡ (w ++ v) ∷ vs)

first_piece : (c : ℕ) (w : Word) (s : List ℕ) → free c w ≡ true → FirstBegins w (split c (w ++ s))
first_piece c [] s e = cut c s
first_piece c (b ∷ w) s e = go (first_piece c w s) (eqb b c) e
  where
    go : (free c w ≡ true → FirstBegins w (split c (w ++ s))) → (t : Bool) → (not t && free c w) ≡ true
        → FirstBegins (b ∷ w) (cond t ([] ∷ split c (w ++ s)) (onto b (split c (w ++ s))))
    go ih true h = absurd (false≢true h)
    go ih false h = let r = ih h in (r.0, r.1, ap (onto b) r.2)

pub first_content : (w : Word) (s : List ℕ) → all letter w ≡ true → FirstBegins w (split 45 (w ++ s))
first_content w s e = first_piece 45 w s (all-free letter 45 refl w e)

-- and the other way round: what is joined begins with the first
pub joined_front : (c : Word) (cs : List Word) (z : List ℕ) → Front c (join 45 (c ∷ cs) ++ z)
joined_front c [] z = (z, refl)
joined_front c (d ∷ cs) z = (45 ∷ (join 45 (d ∷ cs) ++ z), append_assoc c (45 ∷ join 45 (d ∷ cs)) z)

-- BEFORE THE CLOSING `)`: letters at the front of a text and its `)` are letters of the text

pub before_closing : (n : ℕ) (x : List ℕ) → all letter (take n (x ++ (41 ∷ []))) ≡ true → take n x ≡ take n (x ++ (41 ∷ []))
before_closing zero x e = refl
before_closing (suc n) [] e = absurd (false≢true e)
before_closing (suc n) (b ∷ x) e =
    ap (λ (t : List ℕ). b ∷ t) (before_closing n x (both (letter b) (all letter (take n (x ++ (41 ∷ [])))) e).1)
