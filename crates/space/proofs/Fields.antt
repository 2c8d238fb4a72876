-- The fields of a reduced message: each is the reduction of what stood between the same marks of the message as sent. Assumes nothing.
use Prim.Native.Nat.{ℕ}
use mathlib.Core.Path.{◌≡◌, refl, sym, ap, ◌∙◌}
use mathlib.Core.Bool.{Bool, true, false, cond, not, ◌&&◌, ◌||◌}
use mathlib.Core.List.{List, [], ◌∷◌, ◌++◌, map}
use lib.Dec.{eqb}
use lib.ListN.{drop}
use borrow.Author.Tests.{eqb-true}
use Rattle.alphabet.specs.Alphabet.{white}
use Rattle.text.specs.Words.{Word, split, onto, before, after, up_to}
use Rattle.text.proofs.Index.{split_cut}
use Rattle.space.specs.Reduced.{opens, closes, stands_for_run, kept, reduced_from}
use Rattle.space.specs.Fields.{stands_in_field, field_from, reduced_field}
use Rattle.space.proofs.Bytes.{hyphen_solid, hyphen_opens, hyphen_closes, white_other}

-- PIECES, of which there is one at least

abbrev pub Cut : List Word → Type 0
Cut ws = (v : Word) × (vs : List Word) × (ws ≡ v ∷ vs)

pub cut : (c : ℕ) (s : List ℕ) → Cut (split c s)
cut c s = (before c s, after c (drop (up_to c s) s), split_cut c s)

-- BEFORE A BYTE THAT CLOSES

or_false : (k : Bool) → (k || false) ≡ k
or_false true = refl
or_false false = refl

kept_append : (w s : Bool) (b : ℕ) (x y : List ℕ) → kept w s b (x ++ y) ≡ kept w s b x ++ y
kept_append true true b x y = refl
kept_append true false b x y = refl
kept_append false s b x y = refl

module _ (c : ℕ) (t : List ℕ) (solid : white c ≡ false) (closing : closes c ≡ true) where
  stands_enclosed : (a : Bool) (x : List ℕ) → stands_for_run a (x ++ (c ∷ t)) ≡ stands_in_field a x
  unfolding stands_for_run stands_in_field
  stands_enclosed a [] = rw (solid, closing) (or_false a)
  stands_enclosed a (d ∷ x) = refl

  -- what stands before it is reduced as a field, it stays, and the rest is reduced
  pub enclosed : (a : Bool) (x : List ℕ) → reduced_from a (x ++ (c ∷ t)) ≡ field_from a x ++ (c ∷ reduced_from (opens c) t)
  unfolding reduced_from field_from
  enclosed a [] = rw solid
  enclosed a (b ∷ x) =
      rw (stands_enclosed a x, enclosed (cond (white b) a (opens b)) x) (kept_append (white b) (stands_in_field a x) b _ _)

-- FIELD BY FIELD

-- the first of the pieces with what it follows, the others behind a hyphen
abbrev pieces_from : Bool → List Word → List Word
pieces_from a [] = []
pieces_from a (w ∷ ws) = field_from a w ∷ map reduced_field ws

-- behind a hyphen the first is like the others
pieces_behind : (ws : List Word) → pieces_from true ws ≡ map reduced_field ws
unfolding reduced_field
pieces_behind [] = refl
pieces_behind (w ∷ ws) = refl

-- a byte goes onto the first
pieces_byte : (a : Bool) (b : ℕ) (ws : List Word) → white b ≡ false → onto b (pieces_from (opens b) ws) ≡ pieces_from a (onto b ws)
unfolding field_from
pieces_byte a b [] w = rw w
pieces_byte a b (v ∷ ws) w = rw w

-- white space stands for its run in its piece exactly where it does in the whole

stands_piece : (a : Bool) (bs : List ℕ) (v : Word) (vs : List Word) → split 45 bs ≡ v ∷ vs → stands_in_field a v ≡ stands_in_field a bs
unfolding stands_in_field stands_for_run
stands_piece a [] v vs d = let e : v ≡ [] = cc in rw e
stands_piece a (c ∷ bs) v vs d = go (eqb c 45) refl d
  where
    go : (t : Bool) → eqb c 45 ≡ t → cond t ([] ∷ split 45 bs) (onto c (split 45 bs)) ≡ v ∷ vs
        → stands_in_field a v ≡ not (white c) && (a || not (closes c))
    go true e d =
        let n : v ≡ [] = cc in
        rw (n, eqb-true c 45 e, hyphen_solid, hyphen_closes) (sym (or_false a))
    go false e d =
        let k = cut 45 bs in
        let n : v ≡ c ∷ k.0 = cc (ap (onto c) k.2) in
        rw n

pieces_white : (a : Bool) (b : ℕ) (bs : List ℕ) (s : Bool) → white b ≡ true → stands_in_field a bs ≡ s
    → split 45 (field_from a bs) ≡ pieces_from a (split 45 bs)
    → split 45 (field_from a (b ∷ bs)) ≡ pieces_from a (onto b (split 45 bs))
unfolding field_from
pieces_white a b bs true w e p =
    let k = cut 45 bs in
    let f = stands_piece a bs k.0 k.1 k.2 ∙ e in
    rw (w, e, p, k.2, w, f)
pieces_white a b bs false w e p =
    let k = cut 45 bs in
    let f = stands_piece a bs k.0 k.1 k.2 ∙ e in
    rw (w, e, p, k.2, w, f)

fields_step : (a : Bool) (b : ℕ) (bs : List ℕ) (w h : Bool) → white b ≡ w → eqb b 45 ≡ h
    → split 45 (field_from a bs) ≡ pieces_from a (split 45 bs)
    → split 45 (field_from (opens b) bs) ≡ pieces_from (opens b) (split 45 bs)
    → split 45 (field_from a (b ∷ bs)) ≡ pieces_from a (split 45 (b ∷ bs))
unfolding field_from
fields_step a b bs true h ew eh p q = rw (white_other b ew) (pieces_white a b bs (stands_in_field a bs) ew refl p)
fields_step a b bs false true ew eh p q =
    let o : opens b ≡ true = ap opens (eqb-true b 45 eh) ∙ hyphen_opens in
    rw (ew, eh, o) (ap (λ (l : List Word). [] ∷ l) ((rw o at q) ∙ pieces_behind (split 45 bs)))
fields_step a b bs false false ew eh p q = rw (ew, eh, q) (pieces_byte a b (split 45 bs) ew)

fields_from_lem : (a : Bool) (x : List ℕ) → split 45 (field_from a x) ≡ pieces_from a (split 45 x)
unfolding field_from
fields_from_lem a [] = refl
fields_from_lem a (b ∷ bs) = fields_step a b bs (white b) (eqb b 45) refl refl (fields_from_lem a bs) (fields_from_lem (opens b) bs)

-- the fields of what stands between `(` and `)` are, one by one, the reductions of the fields as sent
pub field_by_field : (x : List ℕ) → split 45 (reduced_field x) ≡ map reduced_field (split 45 x)
unfolding reduced_field
field_by_field x = fields_from_lem true x ∙ pieces_behind (split 45 x)
