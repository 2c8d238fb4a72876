-- The place of field 19 is right. Assumes nothing.
use Prim.Native.Nat.{ℕ, suc, ◌≤◌}
use mathlib.Core.Path.{◌≡◌, refl, sym, ap, ◌∙◌, subst}
use mathlib.Core.Bool.{Bool, true, false, ◌&&◌, ◌||◌, cond, false≢true, true≢false, and-false}
use mathlib.Core.List.{List, [], ◌∷◌}
use Rattle.std.specs.Prelude.{None, Some}
use native.Mathlib.Omega.{arith}
use lib.Dec.{ltb, eqb}
use lib.ListN.{length, take, drop}
use borrow.Author.Tests.{ltb-false, le-ltb, eqb-true}
use Rattle.alphabet.specs.Text.{bytes}
use Rattle.alphabet.specs.Alphabet.{digit, text, in_alphabet, white}
use Rattle.text.specs.Words.{Word, split, holds, before, behind, up_to, same, free, text_word}
use Rattle.text.proofs.Tests.{both, other, all-free, same-eq}
use Rattle.text.proofs.Joined.{holds-free}
use Rattle.text.proofs.Tidy.{text_word_free}
use Rattle.shape.specs.Time.{elapsed_fits, elapsed_hours}
use Rattle.shape.proofs.Times.{time_digits}
use Rattle.places.specs.Place.{IsPlace}
use Rattle.places.specs.Words.{ended, words_fit, content_fits}
use Rattle.places.proofs.Place.{place_of_language, either_place}
use Rattle.places.proofs.Words.{words_place_lem}
use Rattle.places.proofs.Texts.{text_free}
use Rattle.supplement.specs.Field19.{Key, E, P, R, S, J, D, A, N, C, Other, keyed, by_letter, place, count, some_of, colour, cover, fits19}
use Rattle.supplement.specs.Field19.{radio_letters, survival_letters, light_letters, jacket_radio_letters}
use Rattle.supplement.specs.declared.Stage.{Stage}
use Rattle.supplement.specs.declared.Stage.TheVariants.{Start, Endurance, Persons, Radio, Survival, Lights, JacketRadio, Number, Capacity, Colours}
use Rattle.supplement.specs.declared.Stage.TheVariants.{Aircraft, Remarks, Pilot, Refused}
use Rattle.supplement.specs.Walk.{past, complete, shaded, first, further, opens, step, walked}
use Rattle.supplement.proofs.Words.{count_text, some_text, colour_text}
use Rattle.supplement.proofs.Steps.{no_key}
use Rattle.supplement.proofs.Walk.{last, walk_fits}
use Rattle.supplement_places.specs.Places.{further_place, comes, oblique, item_place, word_place, stands, reached, walk, place19}
use Rattle.supplement_places.proofs.WordPlaces.{shaded_is, stands_taken, further_right, begins, begins_right}

-- WHAT A WORD IS: neither a further word nor the first of an item holds a space, and a further word holds no oblique

taken_text : (stage : Stage) → stands stage ≡ true → (p : Word → Bool) → ((w : Word) → p w ≡ true → text_word w ≡ true)
    → (w : Word) → stands (cond (p w) stage Refused) ≡ true → text_word w ≡ true
taken_text stage h p f w e = f w (sym (stands_taken stage h (p w)) ∙ e)

cover_text : text_word cover ≡ true
unfolding text in_alphabet white
cover_text = refl

shaded_text : (w : Word) → stands (shaded w) ≡ true → text_word w ≡ true
shaded_text w e = go (same cover w) refl (shaded_is w ∙ e)
  where
    go : (x : Bool) → same cover w ≡ x → (x || colour w) ≡ true → text_word w ≡ true
    go true q h = ap text_word (sym (same-eq cover w q)) ∙ cover_text
    go false q h = colour_text w h

further_text : (stage : Stage) (w : Word) → stands (further stage w) ≡ true → text_word w ≡ true
further_text Start w e = absurd (false≢true e)
further_text Endurance w e = absurd (false≢true e)
further_text Persons w e = absurd (false≢true e)
further_text Radio w e = absurd (false≢true e)
further_text Survival w e = absurd (false≢true e)
further_text Lights w e = taken_text JacketRadio refl (some_of jacket_radio_letters) (some_text jacket_radio_letters refl) w e
further_text JacketRadio w e = absurd (false≢true e)
further_text Number w e = taken_text Capacity refl (count 3) (count_text 3) w e
further_text Capacity w e = shaded_text w e
further_text Colours w e = taken_text Colours refl colour colour_text w e
further_text Aircraft w e = taken_text Aircraft refl text_word (λ v h. h) w e
further_text Remarks w e = taken_text Remarks refl text_word (λ v h. h) w e
further_text Pilot w e = taken_text Pilot refl text_word (λ v h. h) w e
further_text Refused w e = absurd (false≢true e)

dinghies_text : (w : Word) → stands (first D w) ≡ true → text_word w ≡ true
dinghies_text w e = go (count 2 w) refl e
  where
    go : (x : Bool) → count 2 w ≡ x → stands (cond x Number (shaded w)) ≡ true → text_word w ≡ true
    go true q h = count_text 2 w q
    go false q h = shaded_text w h

first_free : (k : Key) (w : Word) → stands (first k w) ≡ true → free 32 w ≡ true
first_free E w e = all-free digit 32 refl w (time_digits elapsed_hours w (sym (stands_taken Endurance refl (elapsed_fits w)) ∙ e))
first_free P w e = text_free w (taken_text Persons refl (count 3) (count_text 3) w e)
first_free R w e = text_free w (taken_text Radio refl (some_of radio_letters) (some_text radio_letters refl) w e)
first_free S w e = text_free w (taken_text Survival refl (some_of survival_letters) (some_text survival_letters refl) w e)
first_free J w e = text_free w (taken_text Lights refl (some_of light_letters) (some_text light_letters refl) w e)
first_free D w e = text_free w (dinghies_text w e)
first_free A w e = text_free w (taken_text Aircraft refl text_word (λ v h. h) w e)
first_free N w e = text_free w (taken_text Remarks refl text_word (λ v h. h) w e)
first_free C w e = text_free w (taken_text Pilot refl text_word (λ v h. h) w e)
first_free Other w e = absurd (false≢true e)

-- neither a space nor an oblique is the letter of a key

no_space_key : (stage : Stage) → comes stage 32 ≡ false
unfolding keyed
no_space_key stage = le-ltb (past stage) 0 (omega arith)

no_oblique_key : (stage : Stage) → comes stage 47 ≡ false
unfolding keyed
no_oblique_key stage = le-ltb (past stage) 0 (omega arith)

begins_free : (stage : Stage) (w : Word) → begins stage w ≡ true → free 32 w ≡ true
begins_free stage [] e = absurd (false≢true e)
begins_free stage (b ∷ []) e = absurd (true≢false (sym e ∙ and-false (comes stage b)))
begins_free stage (b ∷ (c ∷ v)) e =
    let g = both (comes stage b) (oblique c && stands (first (by_letter b) v)) e in
    let h = both (oblique c) (stands (first (by_letter b) v)) g.1 in
    rw (other (comes stage) 32 (no_space_key stage) b g.0, other oblique 32 refl c h.0) (first_free (by_letter b) v h.1)

-- A STEP is a further word, or the first of an item

-- a key has one letter
not_opened : (stage : Stage) (v w : Word) → (length v ≡ 1 → ⊥) → stands (opens stage (keyed v) w) ≡ false
not_opened stage v w n = let l = no_key v n in rw (le-ltb (past stage) (place (keyed v)) (omega arith))

begins_opens : (stage : Stage) (w : Word) → holds 47 w ≡ true → begins stage w ≡ stands (opens stage (keyed (before 47 w)) (behind 47 w))
begins_opens stage [] h = absurd (false≢true h)
begins_opens stage (b ∷ []) h = and-false (comes stage b) ∙ sym (go (eqb b 47) h)
  where
    go : (x : Bool) → ltb (cond x 0 1) 1 ≡ true → stands (opens stage (keyed (take (cond x 0 1) (b ∷ []))) (drop (suc (cond x 0 1)) (b ∷ []))) ≡ false
    go true q = not_opened stage [] [] (λ e. omega arith)
    go false q = absurd (false≢true q)
begins_opens stage (b ∷ (c ∷ v)) h = go (eqb b 47) refl (eqb c 47)
  where
    cut : Bool → Bool → ℕ
    cut x y = cond x 0 (suc (cond y 0 (suc (up_to 47 v))))

    opened : (x : Bool) → (x && stands (first (by_letter b) v)) ≡ stands (cond x (first (by_letter b) v) Refused)
    opened true = refl
    opened false = refl

    go : (x : Bool) → eqb b 47 ≡ x → (y : Bool)
        → (comes stage b && (y && stands (first (by_letter b) v)))
        ≡ stands (opens stage (keyed (take (cut x y) (b ∷ (c ∷ v)))) (drop (suc (cut x y)) (b ∷ (c ∷ v))))
    go true q y =
        ap (λ (x : Bool). x && (y && stands (first (by_letter b) v))) (ap (comes stage) (eqb-true b 47 q) ∙ no_oblique_key stage)
        ∙ sym (not_opened stage [] (c ∷ v) (λ e. omega arith))
    go false q true = opened (comes stage b)
    go false q false =
        and-false (comes stage b) ∙ sym (not_opened stage (b ∷ (c ∷ take (up_to 47 v) v)) (drop (suc (up_to 47 v)) v) (λ e. omega arith))

begins_held : (stage : Stage) (w : Word) → holds 47 w ≡ false → begins stage w ≡ false
begins_held stage [] h = refl
begins_held stage (b ∷ []) h = and-false (comes stage b)
begins_held stage (b ∷ (c ∷ v)) h = go (eqb c 47) refl
  where
    clash : (x : Bool) → suc (suc (length v)) ≤ cond x 0 1 → ⊥
    clash true l = omega arith
    clash false l = omega arith

    go : (y : Bool) → eqb c 47 ≡ y → (comes stage b && (y && stands (first (by_letter b) v))) ≡ false
    go true q =
        absurd (clash (eqb b 47)
        (subst (λ (y : Bool). suc (suc (length v)) ≤ cond (eqb b 47) 0 (suc (cond y 0 (suc (up_to 47 v))))) q
        (ltb-false (up_to 47 (b ∷ (c ∷ v))) (length (b ∷ (c ∷ v))) h)))
    go false q = and-false (comes stage b)

word_is : (stage : Stage) (w : Word) → (stands (further stage w) || begins stage w) ≡ stands (step stage w)
unfolding step
word_is stage w = go (holds 47 w) refl
  where
    or_none : (x : Bool) → (x || false) ≡ x
    or_none true = refl
    or_none false = refl

    no_further : holds 47 w ≡ true → (x : Bool) → stands (further stage w) ≡ x → x ≡ false
    no_further h true e = absurd (true≢false (sym h ∙ holds-free 47 w (text_word_free w (further_text stage w e))))
    no_further h false e = refl

    go : (x : Bool) → holds 47 w ≡ x
        → (stands (further stage w) || begins stage w) ≡ stands (cond x (opens stage (keyed (before 47 w)) (behind 47 w)) (further stage w))
    go true h = rw (no_further h (stands (further stage w)) refl) (begins_opens stage w h)
    go false h = rw (begins_held stage w h) (or_none (stands (further stage w)))

reached_ended : (stage : Stage) → ended (reached stage) ≡ stands stage
reached_ended stage = go (stands stage)
  where
    go : (x : Bool) → ended (cond x (Some stage) None) ≡ x
    go true = refl
    go false = refl

pub word_right : (stage : Stage) (w : Word) → IsPlace (λ v. ended (walk.after stage v)) w (word_place stage w)
word_right stage w =
    place_of_language (λ v. stands (further stage v) || begins stage v) (λ v. ended (walk.after stage v))
    (λ v. word_is stage v ∙ sym (reached_ended (step stage v))) w (word_place stage w)
    (either_place (λ v. stands (further stage v)) (begins stage) w (further_place stage w) (item_place stage w) (further_right stage w) (begins_right stage w))

-- THE WORDS

step_free : (stage : Stage) (w : Word) → ended (walk.after stage w) ≡ true → free 32 w ≡ true
step_free stage w e = go (stands (further stage w)) refl (word_is stage w ∙ sym (reached_ended (step stage w)) ∙ e)
  where
    go : (x : Bool) → stands (further stage w) ≡ x → (x || begins stage w) ≡ true → free 32 w ≡ true
    go true q h = text_free w (further_text stage w q)
    go false q h = begins_free stage w h

reached_some : (r stage : Stage) → reached r ≡ Some stage → (stands r ≡ true) × (r ≡ stage)
reached_some r stage = go (stands r) refl
  where
    go : (x : Bool) → stands r ≡ x → cond x (Some r) None ≡ Some stage → (stands r ≡ true) × (r ≡ stage)
    go true q e = (q, cc)
    go false q e = let z : ◌≡◌ {A = ℕ} 0 1 = cc in absurd (omega arith)

step_alive : (stage next : Stage) (w : Word) → walk.after stage w ≡ Some next → (complete next || stands next) ≡ true
step_alive stage next w e = let r = reached_some (step stage w) next e in go (complete next) (ap stands (sym r.1) ∙ r.0)
  where
    go : (x : Bool) → stands next ≡ true → (x || stands next) ≡ true
    go true h = refl
    go false h = h

-- behind each a word may follow, and the content end there
goes_on_lem : (stage : Stage) → stands stage ≡ true → (w : Word) × (next : Stage) × (walk.after stage w ≡ Some next) × (complete next ≡ true)
unfolding step keyed text in_alphabet white
goes_on_lem Start h = (bytes "C/A", Pilot, refl, refl)
goes_on_lem Endurance h = (bytes "C/A", Pilot, refl, refl)
goes_on_lem Persons h = (bytes "C/A", Pilot, refl, refl)
goes_on_lem Radio h = (bytes "C/A", Pilot, refl, refl)
goes_on_lem Survival h = (bytes "C/A", Pilot, refl, refl)
goes_on_lem Lights h = (bytes "C/A", Pilot, refl, refl)
goes_on_lem JacketRadio h = (bytes "C/A", Pilot, refl, refl)
goes_on_lem Number h = (bytes "0", Capacity, refl, refl)
goes_on_lem Capacity h = (bytes "C/A", Pilot, refl, refl)
goes_on_lem Colours h = (bytes "C/A", Pilot, refl, refl)
goes_on_lem Aircraft h = (bytes "C/A", Pilot, refl, refl)
goes_on_lem Remarks h = (bytes "C/A", Pilot, refl, refl)
goes_on_lem Pilot h = (bytes "A", Pilot, refl, refl)
goes_on_lem Refused h = absurd (false≢true h)

-- and behind a word that may not stand there, none

fallen : (stage : Stage) → stands stage ≡ false → stage ≡ Refused
fallen Start h = absurd (true≢false h)
fallen Endurance h = absurd (true≢false h)
fallen Persons h = absurd (true≢false h)
fallen Radio h = absurd (true≢false h)
fallen Survival h = absurd (true≢false h)
fallen Lights h = absurd (true≢false h)
fallen JacketRadio h = absurd (true≢false h)
fallen Number h = absurd (true≢false h)
fallen Capacity h = absurd (true≢false h)
fallen Colours h = absurd (true≢false h)
fallen Aircraft h = absurd (true≢false h)
fallen Remarks h = absurd (true≢false h)
fallen Pilot h = absurd (true≢false h)
fallen Refused h = refl

refused_step : (w : Word) → step Refused w ≡ Refused
unfolding step
refused_step w = go (holds 47 w)
  where
    go : (x : Bool) → cond x (opens Refused (keyed (before 47 w)) (behind 47 w)) Refused ≡ Refused
    go true = rw (last (keyed (before 47 w)))
    go false = refl

closed : (stage : Stage) → stands stage ≡ false → (w : Word) → walk.after stage w ≡ None
closed stage h w = rw (fallen stage h, refused_step w)

-- THE CONTENT is walked as it fits

walked_refused : (ws : List Word) → walked Refused ws ≡ false
walked_refused [] = refl
walked_refused (w ∷ ws) = ap (λ (r : Stage). walked r ws) (refused_step w) ∙ walked_refused ws

words_walked : (ws : List Word) (stage : Stage) → words_fit walk ws (reached stage) ≡ walked stage ws
words_walked [] stage = go (stands stage) refl
  where
    go : (x : Bool) → stands stage ≡ x → words_fit walk [] (cond x (Some stage) None) ≡ complete stage
    go true q = refl
    go false q = sym (ap complete (fallen stage q))
words_walked (w ∷ ws) stage = go (stands stage) refl (words_walked ws (step stage w))
  where
    go : (x : Bool) → stands stage ≡ x → words_fit walk ws (reached (step stage w)) ≡ walked (step stage w) ws
        → words_fit walk (w ∷ ws) (cond x (Some stage) None) ≡ walked (step stage w) ws
    go true q ih = ih
    go false q ih = sym (ap (λ (r : Stage). walked r (w ∷ ws)) (fallen stage q) ∙ walked_refused (w ∷ ws))

walk_is : (s : List ℕ) → content_fits walk Start s ≡ fits19 s
walk_is s = words_walked (split 32 s) Start ∙ walk_fits s

-- FIELD 19
pub placed19 : (s : List ℕ) → IsPlace fits19 s (place19 s)
unfolding place19
placed19 s =
    place_of_language (content_fits walk Start) fits19 walk_is s (place19 s)
    (words_place_lem walk word_place word_right step_free step_alive goes_on_lem closed Start s)
