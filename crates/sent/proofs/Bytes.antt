-- What holds of every byte as sent: from what is left after the reduction, and from tidy contents. Assumes nothing.
use Prim.Native.Nat.{ℕ}
use mathlib.Core.Path.{◌≡◌, refl, ◌∙◌}
use mathlib.Core.Bool.{Bool, true, false, cond, not, ◌||◌}
use mathlib.Core.List.{List, [], ◌∷◌}
use lib.Dec.{eqb}
use borrow.Author.Tests.{not-true, eqb-true}
use Rattle.alphabet.specs.Text.{bytes}
use Rattle.alphabet.specs.Alphabet.{one_of, sign, white, text, in_alphabet}
use Rattle.text.specs.Words.{Word, split, join, all, null, free, tidy_byte, tidy_word, tidy}
use Rattle.text.proofs.Tests.{both, and_both, all_imp, all_append, other}
use Rattle.text.proofs.Joined.{join-split}
use Rattle.text.proofs.Tidy.{no_hyphen, no_opening, no_closing}
use Rattle.space.specs.Reduced.{opens, kept}
use Rattle.space.specs.Fields.{stands_in_field, field_from, reduced_field}
use Rattle.space.proofs.Bytes.{opening_solid, closing_solid}
use Rattle.outer.specs.Outer.{no_paren}

-- FROM WHAT IS LEFT: what holds of white space and of every byte left holds of every byte sent

module _ (p : ℕ → Bool) (blank : (b : ℕ) → white b ≡ true → p b ≡ true) where
  kept_sent : (s : Bool) (b : ℕ) (x : List ℕ) (w : Bool) → white b ≡ w → all p (kept w s b x) ≡ true → (p b ≡ true) × (all p x ≡ true)
  kept_sent true b x true e h = (blank b e, (both (p 32) (all p x) h).1)
  kept_sent false b x true e h = (blank b e, h)
  kept_sent s b x false e h = both (p b) (all p x) h

  sent_from_lem : (a : Bool) (x : List ℕ) → all p (field_from a x) ≡ true → all p x ≡ true
  unfolding field_from
  sent_from_lem a [] h = refl
  sent_from_lem a (b ∷ x) h =
      let k = kept_sent (stands_in_field a x) b (field_from (cond (white b) a (opens b)) x) (white b) refl h in
      and_both (p b) (all p x) k.0 (sent_from_lem (cond (white b) a (opens b)) x k.1)

  pub every_sent : (x : List ℕ) → all p (reduced_field x) ≡ true → all p x ≡ true
  unfolding reduced_field
  every_sent x h = sent_from_lem true x h

-- FROM TIDY CONTENTS: what holds of tidy bytes, of the space and of the hyphen holds of every byte of tidy contents joined

all_join : (p : ℕ → Bool) (c : ℕ) → p c ≡ true → (ws : List Word) → all (all p) ws ≡ true → all p (join c ws) ≡ true
all_join p c s [] e = refl
all_join p c s (w ∷ []) e = (both (all p w) true e).0
all_join p c s (w ∷ (v ∷ ws)) e =
    let h = both (all p w) (all (all p) (v ∷ ws)) e in
    all_append p w (c ∷ join c (v ∷ ws)) h.0 (and_both (p c) (all p (join c (v ∷ ws))) s (all_join p c s (v ∷ ws) h.1))

module _ (p : ℕ → Bool) (space : p 32 ≡ true) (tidied : (b : ℕ) → tidy_byte b ≡ true → p b ≡ true) where
  word_every : (w : Word) → tidy_word w ≡ true → all p w ≡ true
  word_every w h = all_imp tidy_byte p tidied w (both (not (null w)) (all tidy_byte w) h).1

  content_every : (c : Word) → tidy c ≡ true → all p c ≡ true
  unfolding tidy
  content_every c e = rw (join-split 32 c) at (all_join p 32 space (split 32 c) (all_imp tidy_word (all p) word_every (split 32 c) e))

  pub contents_every : p 45 ≡ true → (cs : List Word) → all tidy cs ≡ true → all p (join 45 cs) ≡ true
  contents_every hyphen cs e = all_join p 45 hyphen cs (all_imp tidy (all p) content_every cs e)

-- NO HYPHEN stands in a tidy content

pub content_free : (c : Word) → tidy c ≡ true → free 45 c ≡ true
content_free c e = content_every (λ b. not (eqb b 45)) refl (λ b h. other tidy_byte 45 no_hyphen b h) c e

-- NO PARENTHESIS

none_of_two : (b : ℕ) → not (eqb b 40) ≡ true → not (eqb b 41) ≡ true → no_paren b ≡ true
none_of_two b o c = rw (not-true (eqb b 40) o, not-true (eqb b 41) c)

pub white_no_paren : (b : ℕ) → white b ≡ true → no_paren b ≡ true
white_no_paren b w = none_of_two b (other white 40 opening_solid b w) (other white 41 closing_solid b w)

pub tidy_no_paren : (b : ℕ) → tidy_byte b ≡ true → no_paren b ≡ true
tidy_no_paren b e = none_of_two b (other tidy_byte 40 no_opening b e) (other tidy_byte 41 no_closing b e)

-- IN THE ALPHABET

pub white_alphabet : (b : ℕ) → white b ≡ true → in_alphabet b ≡ true
unfolding in_alphabet
white_alphabet b w = go (sign b) (white b) w
  where
    go : (s w : Bool) → w ≡ true → (s || (w || one_of b (bytes "()-?:.,'=/+"))) ≡ true
    go true w e = refl
    go false w e = rw e

oblique_alphabet : in_alphabet 47 ≡ true
unfolding in_alphabet white
oblique_alphabet = refl

text_alphabet : (b : ℕ) → text b ≡ true → in_alphabet b ≡ true
unfolding text
text_alphabet b e = (both (in_alphabet b) _ e).0

pub tidy_alphabet : (b : ℕ) → tidy_byte b ≡ true → in_alphabet b ≡ true
tidy_alphabet b e = go (text b) (eqb b 47) refl refl e
  where
    go : (t o : Bool) → text b ≡ t → eqb b 47 ≡ o → (t || o) ≡ true → in_alphabet b ≡ true
    go true o p q h = text_alphabet b p
    go false o p q h = rw (eqb-true b 47 (q ∙ h)) oblique_alphabet

pub marks_alphabet : (in_alphabet 32 ≡ true) × (in_alphabet 45 ≡ true) × (in_alphabet 40 ≡ true) × (in_alphabet 41 ≡ true)
unfolding in_alphabet white
marks_alphabet = (refl, refl, refl, refl)
