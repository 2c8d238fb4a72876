-- A message whose fields are tidy is its own reduction, and a run just after `(` or `-` spoils the field. Assumes nothing.
use Prim.Native.Nat.{ℕ}
use mathlib.Core.Path.{◌≡◌, refl, sym, ap, ◌∙◌}
use mathlib.Core.Bool.{Bool, true, false, false≢true}
use mathlib.Core.List.{List, [], ◌∷◌, ◌++◌, append_assoc}
use Rattle.alphabet.specs.Alphabet.{white}
use Rattle.text.specs.Words.{Word, join, all, tidy_byte, tidy_word, tidy}
use Rattle.text.proofs.Tests.{both}
use Rattle.text.proofs.Joined.{join-split}
use Rattle.space.specs.Reduced.{opens, stands_for_run, reduced_from, reduced}
use Rattle.space.specs.Fields.{stands_in_field, field_from, reduced_field}
use Rattle.space.proofs.Bytes.{space_white, hyphen_solid, closing_solid, hyphen_opens, tidy_solid, tidy_opens, tidy_closes}
use Rattle.space.proofs.Fields.{cut}
use Rattle.space.proofs.Frame.{first_stays}

-- A TIDY WORD stays as it is, and what stands behind it is not just after `(` or `-`

bytes_stay : (w : Word) (t : List ℕ) → all tidy_byte w ≡ true → reduced_from false (w ++ t) ≡ w ++ reduced_from false t
unfolding reduced_from
bytes_stay [] t e = refl
bytes_stay (b ∷ w) t e =
    let h = both (tidy_byte b) (all tidy_byte w) e in
    rw (tidy_solid b h.0, tidy_opens b h.0, bytes_stay w t h.1)

word_stays : (a : Bool) (w : Word) (t : List ℕ) → tidy_word w ≡ true → reduced_from a (w ++ t) ≡ w ++ reduced_from false t
unfolding reduced_from
word_stays a [] t e = absurd (false≢true e)
word_stays a (b ∷ w) t e =
    let h = both (tidy_byte b) (all tidy_byte w) e in
    rw (tidy_solid b h.0, tidy_opens b h.0, bytes_stay w t h.1)

-- a space before it stands for its run
space_stays : (w : Word) (t : List ℕ) → tidy_word w ≡ true → stands_for_run false (w ++ t) ≡ true
unfolding stands_for_run
space_stays [] t e = absurd (false≢true e)
space_stays (b ∷ w) t e =
    let h = both (tidy_byte b) (all tidy_byte w) e in
    rw (tidy_solid b h.0, tidy_closes b h.0)

-- MARKS

closing_byte : (a : Bool) → reduced_from a (41 ∷ []) ≡ 41 ∷ []
unfolding reduced_from
closing_byte a = rw closing_solid

hyphen_byte : (a : Bool) (t : List ℕ) → reduced_from a (45 ∷ t) ≡ 45 ∷ reduced_from true t
unfolding reduced_from
hyphen_byte a t = rw (hyphen_solid, hyphen_opens)

-- WORDS with one space between them

joined_stands : (w : Word) (ws : List Word) (t : List ℕ) → tidy_word w ≡ true → stands_for_run false (join 32 (w ∷ ws) ++ t) ≡ true
joined_stands w [] t e = space_stays w t e
joined_stands w (v ∷ ws) t e = rw (append_assoc w (32 ∷ join 32 (v ∷ ws)) t) (space_stays w _ e)

space_before : (t : List ℕ) → stands_for_run false t ≡ true → reduced_from false (32 ∷ t) ≡ 32 ∷ reduced_from false t
unfolding reduced_from
space_before t e = rw (space_white, e)

words_stay : (a : Bool) (w : Word) (ws : List Word) (t : List ℕ) → all tidy_word (w ∷ ws) ≡ true
    → reduced_from a (join 32 (w ∷ ws) ++ t) ≡ join 32 (w ∷ ws) ++ reduced_from false t
words_stay a w [] t e = word_stays a w t (both (tidy_word w) true e).0
words_stay a w (v ∷ ws) t e =
    let h = both (tidy_word w) (all tidy_word (v ∷ ws)) e in
    let j = join 32 (v ∷ ws) in
    let before = space_before (j ++ t) (joined_stands v ws t (both (tidy_word v) (all tidy_word ws) h.1).0) in
    let s = before ∙ ap (λ (l : List ℕ). 32 ∷ l) (words_stay false v ws t h.1) in
    rw (append_assoc w (32 ∷ j) t, append_assoc w (32 ∷ j) (reduced_from false t), word_stays a w (32 ∷ (j ++ t)) h.0) (ap (λ (l : List ℕ). w ++ l) s)

-- A TIDY CONTENT, and what stands behind it

content_stays : (a : Bool) (c t : List ℕ) → tidy c ≡ true → reduced_from a (c ++ t) ≡ c ++ reduced_from false t
unfolding tidy
content_stays a c t e =
    let k = cut 32 c in
    let j : join 32 (k.0 ∷ k.1) ≡ c = sym (ap (join 32) k.2) ∙ join-split 32 c in
    rw j at (words_stay a k.0 k.1 t (rw k.2 at e))

-- the contents of fields, with a hyphen between them and `)` behind
contents_stay : (a : Bool) (cs : List (List ℕ)) → all tidy cs ≡ true → reduced_from a (join 45 cs ++ (41 ∷ [])) ≡ join 45 cs ++ (41 ∷ [])
contents_stay a [] e = closing_byte a
contents_stay a (c ∷ []) e = content_stays a c (41 ∷ []) (both (tidy c) true e).0 ∙ ap (λ (l : List ℕ). c ++ l) (closing_byte false)
contents_stay a (c ∷ (d ∷ cs)) e =
    let h = both (tidy c) (all tidy (d ∷ cs)) e in
    let j = join 45 (d ∷ cs) in
    rw (append_assoc c (45 ∷ j) (41 ∷ []), content_stays a c (45 ∷ (j ++ (41 ∷ []))) h.0)
    (ap (λ (l : List ℕ). c ++ l) (hyphen_byte false (j ++ (41 ∷ [])) ∙ ap (λ (l : List ℕ). 45 ∷ l) (contents_stay true (d ∷ cs) h.1)))

-- a message whose fields are tidy is its own reduction
pub tidy_stays : (cs : List (List ℕ)) → all tidy cs ≡ true → reduced (40 ∷ (join 45 cs ++ (41 ∷ []))) ≡ 40 ∷ (join 45 cs ++ (41 ∷ []))
tidy_stays cs e = first_stays (join 45 cs ++ (41 ∷ [])) ∙ ap (λ (l : List ℕ). 40 ∷ l) (contents_stay true cs e)

-- A RUN AT THE FRONT OF A FIELD stays one space, also where nothing else stands there

run_front : (b : ℕ) (x : List ℕ) → white b ≡ true → (y : List ℕ) × (field_from true (b ∷ x) ≡ 32 ∷ y)
unfolding field_from stands_in_field stands_for_run
run_front b [] w = ([], rw w)
run_front b (c ∷ x) w = go (white c) refl (run_front c x)
  where
    go : (k : Bool) → white c ≡ k → (white c ≡ true → (y : List ℕ) × (field_from true (c ∷ x) ≡ 32 ∷ y))
        → (y : List ℕ) × (field_from true (b ∷ (c ∷ x)) ≡ 32 ∷ y)
    go true e ih = let r = ih e in (r.0, rw (w, e) (rw e at r.1))
    go false e ih = (c ∷ field_from (opens c) x, rw (w, e))

-- so it spoils the field
pub run_spoils : (b : ℕ) (x : List ℕ) → white b ≡ true → tidy (reduced_field (b ∷ x)) ≡ false
unfolding reduced_field tidy
run_spoils b x w = ap tidy (run_front b x w).1
