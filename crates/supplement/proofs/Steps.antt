-- A step over a word, by where its oblique stands. Assumes nothing.
use Prim.Native.Nat.{ℕ, suc, ◌+◌, ◌<◌, ◌≤◌}
use mathlib.Core.Path.{◌≡◌, refl, sym, ap, ◌∙◌}
use mathlib.Core.Bool.{Bool, true, false, cond, false≢true}
use mathlib.Core.List.{List, [], ◌∷◌}
use native.Mathlib.Omega.{arith}
use native.Mathlib.Numerals.{add-one}
use lib.ListN.{length, take, drop, get_or}
use lib.Seq.{length-take-le}
use lib.Dec.{ltb, eqb}
use borrow.Author.Tests.{ltb-true, ltb-false, lt-ltb, le-ltb, eqb-true, ne_eqb}
use Rattle.alphabet.specs.Text.{bytes}
use Rattle.alphabet.specs.Alphabet.{text, in_alphabet, white}
use Rattle.text.specs.Words.{Word, up_to, holds, same, text_word}
use Rattle.text.proofs.Tests.{same-eq}
use Rattle.text.proofs.Joined.{holds-free}
use Rattle.text.proofs.Tidy.{text_word_free}
use Rattle.supplement.specs.Field19.{Key, E, P, R, S, J, D, A, N, C, Other, spell_key, by_letter}
use Rattle.supplement.specs.declared.Stage.{Stage}
use Rattle.supplement.specs.declared.Stage.TheVariants.{Start, Endurance, Persons, Radio, Survival, Lights, JacketRadio, Number, Capacity, Colours}
use Rattle.supplement.specs.declared.Stage.TheVariants.{Aircraft, Remarks, Pilot, Refused}
use Rattle.supplement.specs.Field19.{keyed, place, count, some_of, colour, jacket_radio_letters, capacity_digits, cover}
use Rattle.supplement.specs.Walk.{past, shaded, first, further, opens, step}
use Rattle.supplement.proofs.Words.{count_text, some_text, colour_text}
use Rattle.supplement.proofs.Items.{key_spelled}

-- KEYS BY THEIR LETTERS

-- x is none of ks, as the last arm of a `match` says it
abbrev Missed : Type 0 → List ℕ → ℕ → Type 0
Missed T [] x = T
Missed T (k ∷ ks) x = Missed (T × (x ≡ k → ⊥)) ks x

pub no_letter : (b : ℕ) → Missed (Unit {0}) (bytes "EPRSJDANC") b → by_letter b ≡ Other
unfolding keyed
no_letter b r =
    rw (
      ne_eqb b 69 r.0.0.0.0.0.0.0.0.1,
      ne_eqb b 80 r.0.0.0.0.0.0.0.1,
      ne_eqb b 82 r.0.0.0.0.0.0.1,
      ne_eqb b 83 r.0.0.0.0.0.1,
      ne_eqb b 74 r.0.0.0.0.1,
      ne_eqb b 68 r.0.0.0.1,
      ne_eqb b 65 r.0.0.1,
      ne_eqb b 78 r.0.1,
      ne_eqb b 67 r.1,
    )

-- a key has one letter
key_letter : (k : Key) → ltb 0 (place k) ≡ true → length (spell_key k) ≡ 1
key_letter E e = refl
key_letter P e = refl
key_letter R e = refl
key_letter S e = refl
key_letter J e = refl
key_letter D e = refl
key_letter A e = refl
key_letter N e = refl
key_letter C e = refl
key_letter Other e = absurd (false≢true e)

pub no_key : (v : Word) → (length v ≡ 1 → ⊥) → place (keyed v) ≤ 0
no_key v n = go (ltb 0 (place (keyed v))) refl
  where
    go : (b : Bool) → ltb 0 (place (keyed v)) ≡ b → place (keyed v) ≤ 0
    go true e = absurd (n (ap length (sym (key_spelled v e)) ∙ key_letter (keyed v) e))
    go false e = ltb-false 0 (place (keyed v)) e

first_letter : (w : Word) → 0 < length w → take 1 w ≡ get_or w 0 0 ∷ []
first_letter [] h = absurd (omega arith)
first_letter (b ∷ w) h = refl

-- A STEP

module _ (stage : Stage) (w : Word) (o : ℕ) (end : o ≡ 0 + up_to 47 w) where
  at : o ≡ up_to 47 w
  at = omega arith

  step_further : length w ≤ o → step stage w ≡ further stage w
  unfolding step
  step_further h = rw (le-ltb (up_to 47 w) (length w) (omega arith))

  step_opens : o < length w → step stage w ≡ opens stage (keyed (take o w)) (drop (o + 1) w)
  unfolding step
  step_opens h = rw (lt-ltb (up_to 47 w) (length w) (omega arith), ← at, add-one o)

  step_long : o < length w → (o ≡ 1 → ⊥) → step stage w ≡ Refused
  step_long h n =
      let l : length (take o w) ≡ o = length-take-le o w (omega arith) in
      let z = no_key (take o w) (λ e. n (sym l ∙ e)) in
      step_opens h ∙ rw (le-ltb (past stage) (place (keyed (take o w))) (omega arith))

  step_one : o < length w → o ≡ 1 → step stage w ≡ opens stage (by_letter (get_or w 0 0)) (drop 2 w)
  step_one h one = step_opens h ∙ rw (one, first_letter w (omega arith))

-- a word that holds an oblique follows none: those that may are text words
module _ (w : Word) (held : holds 47 w ≡ true) where
  no_text : (p : Bool) → (p ≡ true → text_word w ≡ true) → p ≡ false
  no_text true f = absurd (false≢true (sym (holds-free 47 w (text_word_free w (f refl))) ∙ held))
  no_text false f = refl

  not_taken : (p : Bool) (stage : Stage) → (p ≡ true → text_word w ≡ true) → cond p stage Refused ≡ Refused
  not_taken p stage f = ap (λ (b : Bool). cond b stage Refused) (no_text p f)

  cover_text : same w cover ≡ true → text_word w ≡ true
  unfolding text in_alphabet white
  cover_text e = ap text_word (same-eq w cover e)

  not_shaded : shaded w ≡ Refused
  not_shaded =
      ap (λ (b : Bool). cond b Colours (cond (colour w) Colours Refused)) (no_text (same w cover) cover_text) ∙ not_taken (colour w) Colours (colour_text w)

  no_further : (stage : Stage) → further stage w ≡ Refused
  no_further Start = refl
  no_further Endurance = refl
  no_further Persons = refl
  no_further Radio = refl
  no_further Survival = refl
  no_further Lights = not_taken (some_of jacket_radio_letters w) JacketRadio (some_text jacket_radio_letters refl w)
  no_further JacketRadio = refl
  no_further Number = not_taken (count capacity_digits w) Capacity (count_text capacity_digits w)
  no_further Capacity = not_shaded
  no_further Colours = not_taken (colour w) Colours (colour_text w)
  no_further Aircraft = not_taken (text_word w) Aircraft (λ e. e)
  no_further Remarks = not_taken (text_word w) Remarks (λ e. e)
  no_further Pilot = not_taken (text_word w) Pilot (λ e. e)
  no_further Refused = refl

-- an oblique behind the first byte

pub second_inside : (w : Word) → eqb (get_or w 1 0) 47 ≡ true → 1 < length w
second_inside [] e = absurd (false≢true e)
second_inside (b ∷ []) e = absurd (false≢true e)
second_inside (b ∷ (c ∷ w)) e = omega arith

second_first : (w : Word) → eqb (get_or w 1 0) 47 ≡ true → eqb (get_or w 0 0) 47 ≡ false → up_to 47 w ≡ 1
second_first [] e q = absurd (false≢true e)
second_first (b ∷ []) e q = absurd (false≢true e)
second_first (b ∷ (c ∷ w)) e q = rw (q, e)

at_once : (w : Word) → eqb (get_or w 0 0) 47 ≡ true → up_to 47 w ≡ 0
at_once [] q = absurd (false≢true q)
at_once (b ∷ w) q = rw q

-- it is the first where the first stands there
found_second : (w : Word) → up_to 47 w < length w → up_to 47 w ≡ 1 → eqb (get_or w 1 0) 47 ≡ true
found_second [] h e = absurd (omega arith)
found_second (b ∷ []) h e = absurd (omega arith)
found_second (b ∷ (c ∷ w)) h e = go (eqb b 47) (eqb c 47) e
  where
    go : (x y : Bool) → cond x 0 (suc (cond y 0 (suc (up_to 47 w)))) ≡ 1 → y ≡ true
    go true y e = absurd (omega arith)
    go false true e = refl
    go false false e = absurd (omega arith)

no_oblique_key : by_letter 47 ≡ Other
unfolding keyed
no_oblique_key = refl

module _ (stage : Stage) (w : Word) where
  pub step_plain : eqb (get_or w 1 0) 47 ≡ false → step stage w ≡ further stage w
  step_plain n = go (holds 47 w) refl
    where
      go : (b : Bool) → holds 47 w ≡ b → step stage w ≡ further stage w
      go true h =
          let l = ltb-true (up_to 47 w) (length w) h in
          step_long stage w (up_to 47 w) (omega arith) l (λ e. false≢true (sym n ∙ found_second w l e)) ∙ sym (no_further w h stage)
      go false h = step_further stage w (up_to 47 w) (omega arith) (ltb-false (up_to 47 w) (length w) h)

  pub step_keyed : eqb (get_or w 1 0) 47 ≡ true → step stage w ≡ opens stage (by_letter (get_or w 0 0)) (drop 2 w)
  step_keyed e = go (eqb (get_or w 0 0) 47) refl
    where
      inside : 1 < length w
      inside = second_inside w e

      go : (b : Bool) → eqb (get_or w 0 0) 47 ≡ b → step stage w ≡ opens stage (by_letter (get_or w 0 0)) (drop 2 w)
      go true q =
          let z = at_once w q in
          let k : by_letter (get_or w 0 0) ≡ Other = ap by_letter (eqb-true (get_or w 0 0) 47 q) ∙ no_oblique_key in
          step_long stage w (up_to 47 w) (omega arith) (omega (arith, z, inside)) (λ o. omega (arith, z)) ∙ sym (rw (k, le-ltb (past stage) 0 (omega arith)))
      go false q = let o = second_first w e q in step_one stage w (up_to 47 w) (omega arith) (omega (arith, o, inside)) o

  -- so in a word that is not refused an oblique stands there or nowhere
  pub oblique_second : (step stage w ≡ Refused → ⊥) → cond (holds 47 w) (suc (up_to 47 w)) 0 ≡ cond (eqb (get_or w 1 0) 47) 2 0
  oblique_second n = go (eqb (get_or w 1 0) 47) refl
    where
      one : eqb (get_or w 1 0) 47 ≡ true → (b : Bool) → eqb (get_or w 0 0) 47 ≡ b → up_to 47 w ≡ 1
      one e true q =
          let z = at_once w q in
          let l = second_inside w e in
          absurd (n (step_long stage w (up_to 47 w) (omega arith) (omega (arith, z, l)) (λ o. omega (arith, z))))
      one e false q = second_first w e q

      none : eqb (get_or w 1 0) 47 ≡ false → (b : Bool) → holds 47 w ≡ b → cond b (suc (up_to 47 w)) 0 ≡ 0
      none e true h =
          let l = ltb-true (up_to 47 w) (length w) h in
          absurd (n (step_long stage w (up_to 47 w) (omega arith) l (λ o. false≢true (sym e ∙ found_second w l o))))
      none e false h = refl

      go : (b : Bool) → eqb (get_or w 1 0) 47 ≡ b → cond (holds 47 w) (suc (up_to 47 w)) 0 ≡ cond b 2 0
      go true e =
          let o = one e (eqb (get_or w 0 0) 47) refl in
          let l = second_inside w e in
          rw (o, lt-ltb 1 (length w) l)
      go false e = none e (holds 47 w) refl

  module _ (e : eqb (get_or w 1 0) 47 ≡ true) where
    pub step_late : place (by_letter (get_or w 0 0)) ≤ past stage → step stage w ≡ Refused
    step_late l = step_keyed e ∙ rw (le-ltb (past stage) (place (by_letter (get_or w 0 0))) l)

    pub step_first : past stage < place (by_letter (get_or w 0 0)) → step stage w ≡ first (by_letter (get_or w 0 0)) (drop 2 w)
    step_first l = step_keyed e ∙ rw (lt-ltb (past stage) (place (by_letter (get_or w 0 0))) l)
