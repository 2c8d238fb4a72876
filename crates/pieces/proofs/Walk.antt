-- A walk over an input, from the front of one piece to the front of the next, meets the pieces one by one. Assumes nothing.
use Prim.Native.Nat.{ℕ, suc, ◌+◌, ◌-◌, ◌<◌, ◌≤◌, min}
use mathlib.Core.Path.{◌≡◌, refl, sym, ap, ◌∙◌}
use mathlib.Core.Bool.{Bool, true, false, cond, false≢true}
use mathlib.Core.List.{List, [], ◌∷◌}
use native.Mathlib.Omega.{arith}
use lib.Dec.{eqb}
use lib.ListN.{length, take, drop, length-drop}
use lib.Seq.{drop-drop}
use Rattle.std.proofs.lemmas.List.{take_rest}
use borrow.Author.Tests.{eqb-true}
use Rattle.alphabet.specs.Alphabet.{white}
use Rattle.text.specs.Words.{Word, onto, up_to}
use Rattle.text.proofs.Index.{drop_end}
use Rattle.pieces.specs.Pieces.{white_ahead, piece_end, parts, trimmed, unless_empty, kept, pieces_of}

-- WHITE SPACE AHEAD belongs to no piece

paren_not_white : (b : ℕ) → white b ≡ true → eqb b 41 ≡ false
unfolding white
paren_not_white b e = go (eqb b 41) refl
  where
    go : (x : Bool) → eqb b 41 ≡ x → x ≡ false
    go false p = refl
    go true p = absurd (false≢true (sym (ap white (eqb-true b 41 p)) ∙ e))

kept_onto : (b : ℕ) → white b ≡ true → (ws : List Word) → kept (onto b ws) ≡ kept ws
kept_onto b e [] = rw e
kept_onto b e (w ∷ ws) = rw e

white_byte : (b : ℕ) (s : List ℕ) → white b ≡ true → pieces_of (b ∷ s) ≡ pieces_of s
unfolding pieces_of
white_byte b s e = rw (paren_not_white b e) (kept_onto b e (parts s))

white_no_piece : (s : List ℕ) → pieces_of (drop (white_ahead s) s) ≡ pieces_of s
white_no_piece [] = refl
white_no_piece (b ∷ s) = go (white_no_piece s) (white b) refl
  where
    go : pieces_of (drop (white_ahead s) s) ≡ pieces_of s → (x : Bool) → white b ≡ x → pieces_of (drop (cond x (suc (white_ahead s)) 0) (b ∷ s))
        ≡ pieces_of (b ∷ s)
    go ih true p = ih ∙ sym (white_byte b s p)
    go ih false p = refl

white_over : (s : List ℕ) → white_ahead (drop (white_ahead s) s) ≡ 0
white_over [] = refl
white_over (b ∷ s) = go (white_over s) (white b) refl
  where
    go : white_ahead (drop (white_ahead s) s) ≡ 0 → (x : Bool) → white b ≡ x → white_ahead (drop (cond x (suc (white_ahead s)) 0) (b ∷ s)) ≡ 0
    go ih true p = ih
    go ih false p = rw p

-- THE FIRST PIECE, where no white space is ahead

-- how long it is
abbrev long : List ℕ → ℕ
long [] = 0
long (b ∷ s) = cond (eqb b 41) 1 (suc (long s))

-- the parts behind the first
abbrev later : List ℕ → List Word
later [] = []
later (b ∷ s) = cond (eqb b 41) (parts s) (later s)

parts_first : (s : List ℕ) → parts s ≡ take (long s) s ∷ later s
parts_first [] = refl
parts_first (b ∷ s) = go (parts_first s) (eqb b 41)
  where
    go : parts s ≡ take (long s) s ∷ later s → (x : Bool)
        → cond x ((b ∷ []) ∷ parts s) (onto b (parts s)) ≡ take (cond x 1 (suc (long s))) (b ∷ s) ∷ cond x (parts s) (later s)
    go ih true = refl
    go ih false = ap (onto b) ih

parts_later : (s : List ℕ) → kept (later s) ≡ pieces_of (drop (long s) s)
unfolding pieces_of
parts_later [] = refl
parts_later (b ∷ s) = go (parts_later s) (eqb b 41)
  where
    go : kept (later s) ≡ kept (parts (drop (long s) s)) → (x : Bool)
        → kept (cond x (parts s) (later s)) ≡ kept (parts (drop (cond x 1 (suc (long s))) (b ∷ s)))
    go ih true = refl
    go ih false = ih

long_is : (s : List ℕ) → long s ≡ min (length s) (suc (up_to 41 s))
long_is [] = omega arith
long_is (b ∷ s) = go (long_is s) (eqb b 41)
  where
    go : long s ≡ min (length s) (suc (up_to 41 s)) → (x : Bool) → cond x 1 (suc (long s)) ≡ min (suc (length s)) (suc (cond x 0 (suc (up_to 41 s))))
    go ih true = omega arith
    go ih false = omega arith

no_white : (b : ℕ) (s : List ℕ) → white_ahead (b ∷ s) ≡ 0 → white b ≡ false
no_white b s = go (white b)
  where
    go : (x : Bool) → cond x (suc (white_ahead s)) 0 ≡ 0 → x ≡ false
    go false z = refl
    go true z = absurd (omega arith)

whole : (b : ℕ) (w : Word) (ws : List Word) → white b ≡ false → unless_empty (trimmed (b ∷ w)) ws ≡ (b ∷ w) ∷ ws
whole b w ws e = rw e

first_piece : (s : List ℕ) → 0 < length s → white_ahead s ≡ 0 → pieces_of s ≡ take (long s) s ∷ pieces_of (drop (long s) s)
unfolding pieces_of
first_piece [] h z = absurd (omega arith)
first_piece (b ∷ s) h z =
    ap kept (parts_first (b ∷ s)) ∙ go (later (b ∷ s)) (eqb b 41) ∙ ap (λ (ws : List Word). take (long (b ∷ s)) (b ∷ s) ∷ ws) (parts_later (b ∷ s))
  where
    go : (ws : List Word) (x : Bool) → kept (take (cond x 1 (suc (long s))) (b ∷ s) ∷ ws) ≡ take (cond x 1 (suc (long s))) (b ∷ s) ∷ kept ws
    go ws true = whole b [] (kept ws) (no_white b s z)
    go ws false = whole b (take (long s) s) (kept ws) (no_white b s z)

-- THE WALK, at an index

-- over white space to the front of a piece
pub record Front (s : List ℕ) (from at : ℕ) : Type 0 where
  pub none_ahead : white_ahead (drop at s) ≡ 0
  pub same_pieces : pieces_of (drop at s) ≡ pieces_of (drop from s)

pub to_front : (s : List ℕ) (from at : ℕ) → at ≡ from + white_ahead (drop from s) → Front s from at
to_front s from at e =
    let d : drop at s ≡ drop (white_ahead (drop from s)) (drop from s) = ap (λ (i : ℕ). drop i s) e ∙ sym (drop-drop (white_ahead (drop from s)) from s) in
    record { none_ahead = ap white_ahead d ∙ white_over (drop from s); same_pieces = ap pieces_of d ∙ white_no_piece (drop from s) }

-- a piece, and what is behind it
pub next_piece : (s : List ℕ) (at e : ℕ) → at < length s → white_ahead (drop at s) ≡ 0 → e ≡ piece_end s at
    → pieces_of (drop at s) ≡ take (e - at) (drop at s) ∷ pieces_of (drop e s)
next_piece s at e h z q =
    let n : e ≡ at + long (drop at s) = omega (arith, long_is (drop at s), length-drop at s) in
    let l : e - at ≡ long (drop at s) = omega arith in
    first_piece (drop at s) (omega (arith, length-drop at s)) z
    ∙ ap (λ (t : List ℕ). take (long (drop at s)) (drop at s) ∷ pieces_of t) (drop-drop (long (drop at s)) at s ∙ ap (λ (i : ℕ). drop i s) (sym n))
    ∙ ap (λ (k : ℕ). take k (drop at s) ∷ pieces_of (drop e s)) (sym l)

pub no_piece : (s : List ℕ) (at : ℕ) → length s ≤ at → pieces_of (drop at s) ≡ []
unfolding pieces_of
no_piece s at h = ap pieces_of (drop_end s at h)

-- from the front of an input: its first piece, if there is one, and the pieces of what is behind it
pub front_piece : (s : List ℕ) (from e : ℕ) → from ≡ 0 + white_ahead (drop 0 s) → from < length s → e ≡ piece_end s from
    → pieces_of s ≡ take (e - from) (drop from s) ∷ pieces_of (take (length s - e) (drop e s))
front_piece s from e w h q =
    let f = to_front s 0 from w in
    sym f.same_pieces ∙ next_piece s from e h f.none_ahead q ∙ ap (λ (t : List ℕ). take (e - from) (drop from s) ∷ pieces_of t) (sym (take_rest s e))

pub no_front : (s : List ℕ) (from : ℕ) → from ≡ 0 + white_ahead (drop 0 s) → length s ≤ from → pieces_of s ≡ []
no_front s from w h = sym (to_front s 0 from w).same_pieces ∙ no_piece s from h

-- WHAT THE PIECES TAKE: each has a byte or more, and one behind the other they take no more than the input

abbrev pub Within : ℕ → List Word → Type 0
Within room [] = Unit
Within room (m ∷ ms) = (1 ≤ length m) × (length m ≤ room) × Within (room - length m) ms

abbrev total : List Word → ℕ
total [] = 0
total (w ∷ ws) = length w + total ws

onto_total : (b : ℕ) (ws : List Word) → total (onto b ws) ≡ suc (total ws)
onto_total b [] = refl
onto_total b (w ∷ ws) = omega arith

parts_total : (s : List ℕ) → total (parts s) ≡ length s
parts_total [] = refl
parts_total (b ∷ s) = go (parts_total s) (eqb b 41)
  where
    go : total (parts s) ≡ length s → (x : Bool) → total (cond x ((b ∷ []) ∷ parts s) (onto b (parts s))) ≡ suc (length s)
    go ih true = omega arith
    go ih false = onto_total b (parts s) ∙ ap suc ih

kept_within : (ws : List Word) (room : ℕ) → total ws ≤ room → Within room (kept ws)
kept_within [] room h = tt
kept_within (w ∷ ws) room h = go (trimmed w) (omega (arith, length-drop (white_ahead w) w)) (kept_within ws)
  where
    go : (t : Word) → length t ≤ length w → ((r : ℕ) → total ws ≤ r → Within r (kept ws)) → Within room (unless_empty t (kept ws))
    go [] k ih = ih room (omega arith)
    go (b ∷ t) k ih = (omega arith, omega arith, ih (room - length (b ∷ t)) (omega arith))

pub pieces_within : (s : List ℕ) → Within (length s) (pieces_of s)
unfolding pieces_of
pieces_within s = kept_within (parts s) (length s) (omega (arith, parts_total s))
