-- The canonical record of field 19 says what the record says; so valid records have one canonical record exactly where they say the same.
-- Assumes nothing.
use Prim.Native.Nat.{ℕ}
use mathlib.Core.Path.{◌≡◌, refl, sym, ap, ap₂, subst, ◌∙◌}
use mathlib.Core.Bool.{Bool, true, false, cond, not}
use mathlib.Core.List.{List, [], ◌∷◌}
use mathlib.Core.Option.{Option, none, some}
use native.Mathlib.Omega.{arith}
use lib.Dec.{leb, eqb}
use lib.ListN.{length}
use borrow.Author.Tests.{eq-eqb}
use Rattle.alphabet.specs.Text.{bytes}
use Rattle.alphabet.specs.Alphabet.{one_of}
use Rattle.text.specs.Words.{Word, join, all, null}
use Rattle.text.proofs.Tests.{both, and_both, of_one}
use Rattle.shape.specs.declared.Elapsed.{Elapsed}
use Rattle.supplement.specs.Field19.{Count, Part, endurance, persons, radio, survival, jackets, dinghies, aircraft, remarks, pilot, Field19}
use Rattle.supplement.specs.Field19.{some_of, radio_letters, survival_letters, light_letters, jacket_radio_letters}
use Rattle.supplement.specs.Field19.{E, place, key_of, valid_part, in_order, valid19, spelt}
use Rattle.canonical.specs.Canonical.{sorted, shortest, canonical_part, canonical19}
use Rattle.canonical.specs.Meaning.{SameLetters, SameCount, SamePart, Same19, same_none, same_more, Keeps}
use Rattle.canonical.specs.Meaning.{same_endurance, same_persons, same_radio, same_survival, same_lights, same_jackets, same_colours, same_dinghies}
use Rattle.canonical.specs.Meaning.{same_aircraft, same_remarks, same_pilot}
use Rattle.canonical.proofs.Orders.{in_sorted, absent}

-- LETTERS

-- what holds of each byte of a word holds of all
one_all : (p : ℕ → Bool) (w : Word) → ((b : ℕ) → one_of b w ≡ true → p b ≡ true) → all p w ≡ true
one_all p [] f = refl
one_all p (c ∷ w) f =
    and_both (p c) (all p w) (f c (rw (eq-eqb c c refl)))
    (one_all p w (λ b e. f b (later (eqb b c) (one_of b w) e)))
  where
    later : (a d : Bool) → d ≡ true → cond a true d ≡ true
    later true d e = refl
    later false d e = e

letters_within : (u v w : Word) → all (λ b. one_of b v) u ≡ true → all (λ b. one_of b w) v ≡ true → all (λ b. one_of b w) u ≡ true
letters_within u v w e f = one_all (λ b. one_of b w) u (λ b i. of_one (λ c. one_of c w) v f b (of_one (λ c. one_of c v) u e b i))

letters_trans : (u v w : Word) → SameLetters u v → SameLetters v w → SameLetters u w
letters_trans u v w a b = (letters_within u v w a.0 b.0, letters_within w v u b.1 a.1)

either_way : (a b : Bool) → (a ≡ true → b ≡ true) → (b ≡ true → a ≡ true) → a ≡ b
either_way true b f g = sym (f refl)
either_way false true f g = g refl
either_way false false f g = refl

letters_one : (v w : Word) → SameLetters v w → (b : ℕ) → one_of b v ≡ one_of b w
letters_one v w a b = either_way (one_of b v) (one_of b w) (of_one (λ c. one_of c w) v a.0 b) (of_one (λ c. one_of c v) w a.1 b)

sorted_together : (set : List ℕ) (v w : Word) → SameLetters v w → sorted set v ≡ sorted set w
sorted_together [] v w a = refl
sorted_together (x ∷ set) v w a = rw (letters_one v w a x, sorted_together set v w a)

sorted_letters : (set : List ℕ) (w : Word) → some_of set w ≡ true → SameLetters w (sorted set w)
sorted_letters set w e = (
  one_all (λ b. one_of b (sorted set w)) w (λ b i. in_sorted b set w ∙ and_both (one_of b set) (one_of b w) (of_set b i (one_of b set) refl) i),
  one_all (λ b. one_of b w) (sorted set w) (λ b i. (both (one_of b set) (one_of b w) (sym (in_sorted b set w) ∙ i)).1),
)
  where
    of_set : (b : ℕ) → one_of b w ≡ true → (t : Bool) → one_of b set ≡ t → t ≡ true
    of_set b i true q = refl
    of_set b i false q = sym (absent set b q w (both (leb 1 (length w)) _ e).1) ∙ i

-- SAYING THE SAME goes both ways, and on

part_back : {p q : Part} → SamePart p q → SamePart q p
part_back (same_endurance e) = same_endurance (sym e)
part_back (same_persons e) = same_persons (sym e)
part_back (same_radio a) = same_radio (a.1, a.0)
part_back (same_survival a) = same_survival (a.1, a.0)
part_back (same_lights a) = same_lights (a.1, a.0)
part_back (same_jackets a b) = same_jackets (a.1, a.0) (b.1, b.0)
part_back (same_colours c e) = same_colours (sym c) (sym e)
part_back (same_dinghies m n c e) = same_dinghies (sym m) (sym n) (sym c) (sym e)
part_back (same_aircraft e) = same_aircraft (sym e)
part_back (same_remarks e) = same_remarks (sym e)
part_back (same_pilot e) = same_pilot (sym e)

part_on : {p q s : Part} → SamePart p q → SamePart q s → SamePart p s
part_on (same_endurance e) (same_endurance f) = same_endurance (e ∙ f)
part_on (same_persons e) (same_persons f) = same_persons (e ∙ f)
part_on (same_radio {v = u} {w = v} a) (same_radio {w} b) = same_radio (letters_trans u v w a b)
part_on (same_survival {v = u} {w = v} a) (same_survival {w} b) = same_survival (letters_trans u v w a b)
part_on (same_lights {v = u} {w = v} a) (same_lights {w} b) = same_lights (letters_trans u v w a b)
part_on (same_jackets {v = u} {w = v} {x} {y} a b) (same_jackets {w} {y = z} c d) = same_jackets (letters_trans u v w a c) (letters_trans x y z b d)
part_on (same_colours c e) (same_colours d f) = same_colours (c ∙ d) (e ∙ f)
part_on (same_dinghies m n c e) (same_dinghies k l d f) = same_dinghies (m ∙ k) (n ∙ l) (c ∙ d) (e ∙ f)
part_on (same_aircraft e) (same_aircraft f) = same_aircraft (e ∙ f)
part_on (same_remarks e) (same_remarks f) = same_remarks (e ∙ f)
part_on (same_pilot e) (same_pilot f) = same_pilot (e ∙ f)

pub same_back : {r q : Field19} → Same19 r q → Same19 q r
same_back same_none = same_none
same_back (same_more a s) = same_more (part_back a) (same_back s)

pub same_on : {r q s : Field19} → Same19 r q → Same19 q s → Same19 r s
same_on same_none same_none = same_none
same_on (same_more a s) (same_more b t) = same_more (part_on a b) (same_on s t)

-- THE CANONICAL RECORD says what the record says

part_said : (p : Part) → valid_part p ≡ true → SamePart p (canonical_part p)
part_said (endurance t) v = same_endurance refl
part_said (persons c) v = same_persons refl
part_said (radio w) v = same_radio (sorted_letters radio_letters w v)
part_said (survival w) v = same_survival (sorted_letters survival_letters w v)
part_said (jackets w none) v = same_lights (sorted_letters light_letters w (both (some_of light_letters w) true v).0)
part_said (jackets w (some u)) v =
    let h = both (some_of light_letters w) (some_of jacket_radio_letters u) v in
    same_jackets (sorted_letters light_letters w h.0) (sorted_letters jacket_radio_letters u h.1)
part_said (dinghies none c ws) v = same_colours refl refl
part_said (dinghies (some p) c ws) v = same_dinghies refl refl refl refl
part_said (aircraft ws) v = same_aircraft refl
part_said (remarks ws) v = same_remarks refl
part_said (pilot ws) v = same_pilot refl

parts_said : (r : Field19) → all valid_part r ≡ true → Same19 r (canonical19 r)
parts_said [] v = same_none
parts_said (p ∷ ps) v =
    let h = both (valid_part p) (all valid_part ps) v in
    same_more (part_said p h.0) (parts_said ps h.1)

valid_parts : (r : Field19) → valid19 r ≡ true → all valid_part r ≡ true
unfolding valid19
valid_parts r v = (both (in_order 0 r) (all valid_part r) (both (not (null r)) _ v).1).1

pub canonical_said : (r : Field19) → valid19 r ≡ true → Same19 r (canonical19 r)
canonical_said r v = parts_said r (valid_parts r v)

-- ONE CANONICAL RECORD of records that say the same

shortest_together : (c d : Count) → SameCount c d → shortest c ≡ shortest d
shortest_together c d e = ap (λ (n : ℕ). shortest (record { number = n; width = 0 })) e

part_together : {p q : Part} → SamePart p q → valid_part p ≡ true → valid_part q ≡ true → canonical_part p ≡ canonical_part q
part_together (same_endurance e) v w = ap endurance e
part_together (same_persons {c} {d} e) v w = ap persons (shortest_together c d e)
part_together (same_radio {v = x} {w = y} a) v w = ap radio (sorted_together radio_letters x y a)
part_together (same_survival {v = x} {w = y} a) v w = ap survival (sorted_together survival_letters x y a)
part_together (same_lights {v = x} {w = y} a) v w = ap (λ (l : Word). jackets l none) (sorted_together light_letters x y a)
part_together (same_jackets {v = k} {w = l} {x} {y} a b) v w =
    ap₂ (λ (lights radios : Word). jackets lights (some radios)) (sorted_together light_letters k l a) (sorted_together jacket_radio_letters x y b)
part_together (same_colours c e) v w = ap₂ (λ (x : Bool) (y : List Word). dinghies none x y) c e
part_together (same_dinghies {p} {q} {c} {d} {vs} {ws} m n i e) v w =
    ap₂ (λ (x y : Count). dinghies (some (x, y)) c vs) (shortest_together p.0 q.0 m) (shortest_together p.1 q.1 n)
    ∙ ap₂ (λ (x : Bool) (y : List Word). dinghies (some (shortest q.0, shortest q.1)) x y) i e
part_together (same_aircraft e) v w = ap aircraft e
part_together (same_remarks e) v w = ap remarks e
part_together (same_pilot e) v w = ap pilot e

parts_together : {r q : Field19} → Same19 r q → all valid_part r ≡ true → all valid_part q ≡ true → canonical19 r ≡ canonical19 q
parts_together same_none v w = refl
parts_together (same_more {p} {q} {ps} {qs} a s) v w =
    let g = both (valid_part p) (all valid_part ps) v in
    let h = both (valid_part q) (all valid_part qs) w in
    ap₂ (λ (x : Part) (xs : Field19). x ∷ xs) (part_together a g.0 h.0) (parts_together s g.1 h.1)

-- THE LAW

canonical_apart : (r q : Field19) → valid19 r ≡ true → valid19 q ≡ true → canonical19 r ≡ canonical19 q → Same19 r q
canonical_apart r q v w e = same_on (subst (Same19 r) e (canonical_said r v)) (same_back (canonical_said q w))

canonical_together : (r q : Field19) → valid19 r ≡ true → valid19 q ≡ true → Same19 r q → canonical19 r ≡ canonical19 q
canonical_together r q v w s = parts_together s (valid_parts r v) (valid_parts q w)

pub canonical_keeps : Keeps canonical19
canonical_keeps = record { apart = canonical_apart; together = canonical_together }

-- WHAT THE LAW REFUSES

abbrev lasting : ℕ → Field19
lasting minutes = endurance (record { 0 = minutes }) ∷ []

abbrev coloured : Word → Field19
coloured w = dinghies none false (w ∷ []) ∷ []

-- six persons, in so many digits
abbrev carrying : ℕ → Field19
carrying k = persons (record { number = 6; width = k }) ∷ []

-- a canonical record that forgets the elapsed time
pub timeless : (f : Field19 → Field19) → ((t u : Elapsed) (ps : Field19) → f (endurance t ∷ ps) ≡ f (endurance u ∷ ps)) → Keeps f → ⊥
unfolding valid19
timeless f forgets keeps = told (keeps.apart (lasting 465) (lasting 466) refl refl (forgets (record { 0 = 465 }) (record { 0 = 466 }) []))
  where
    told : Same19 (lasting 465) (lasting 466) → ⊥
    told (same_more (same_endurance e) s) = let m = ap (λ (t : Elapsed). t.0) e in omega arith

-- as that which makes 0000 of every elapsed time
abbrev untimed : Field19 → Field19
untimed [] = []
untimed (p ∷ ps) = cond (eqb (place (key_of p)) (place E)) (endurance (record { 0 = 0 })) (canonical_part p) ∷ untimed ps

untimed_refused : Keeps untimed → ⊥
untimed_refused = timeless untimed (λ t u ps. refl)

-- one that forgets the colours
pub colourless : (f : Field19 → Field19)
    → ((o : Option (Count × Count)) (c : Bool) (vs ws : List Word) (ps : Field19) → f (dinghies o c vs ∷ ps) ≡ f (dinghies o c ws ∷ ps)) → Keeps f → ⊥
unfolding valid19
colourless f forgets keeps =
    told (keeps.apart (coloured (bytes "RED")) (coloured (bytes "BLUE")) refl refl (forgets none false (bytes "RED" ∷ []) (bytes "BLUE" ∷ []) []))
  where
    told : Same19 (coloured (bytes "RED")) (coloured (bytes "BLUE")) → ⊥
    told (same_more (same_colours c e) s) = let l = ap (λ (ws : List Word). length (join 32 ws)) e in omega arith

-- and one that leaves everything as it was sent
pub unchanged : Keeps (λ r. r) → ⊥
unfolding valid19
unchanged keeps =
    let e = keeps.together (carrying 3) (carrying 1) refl refl (same_more (same_persons refl) same_none) in
    let l = ap (λ (r : Field19). length (join 32 (spelt r))) e in
    omega arith
