-- A content that fits, word by word: what a word was read as is known without a test, and from a settled word on nothing is changed.
-- Assumes nothing.
use Prim.Native.Nat.{ℕ, ◌+◌, ◌-◌, ◌≤◌}
use mathlib.Core.Path.{◌≡◌, refl, sym, ap, ap₂, ◌∙◌}
use mathlib.Core.Bool.{Bool, true, false, cond, ◌||◌, false≢true}
use mathlib.Core.List.{List, [], ◌∷◌, ◌++◌}
use native.Mathlib.Omega.{arith}
use lib.Dec.{ltb, eqb}
use lib.ListN.{take, drop, get_or, take-append-drop}
use borrow.Author.Tests.{ltb-true, lt-ltb}
use Rattle.text.specs.Words.{Word, split, join, up_to, holds, before, behind, same, text_word}
use Rattle.text.proofs.Index.{split_at}
use Rattle.text.proofs.Joined.{join-split}
use Rattle.supplement.specs.Field19.{Key, E, P, R, S, J, D, A, N, C, Other, keyed, place, by_letter, colour, cover, first_of}
use Rattle.supplement.specs.declared.Stage.{Stage}
use Rattle.supplement.specs.declared.Stage.TheVariants.{Start, Endurance, Persons, Radio, Survival, Lights, JacketRadio, Number, Capacity, Colours}
use Rattle.supplement.specs.declared.Stage.TheVariants.{Aircraft, Remarks, Pilot, Refused}
use Rattle.supplement.specs.Walk.{past, shaded, first, further, opens, step, walked}
use Rattle.supplement.proofs.Walk.{walked_goes}
use Rattle.supplement.proofs.Steps.{step_keyed}
use Rattle.canonical.specs.Rewriting.{changed, up_to_oblique, rewrite, rewritten, settled}

-- NO WORD IS REFUSED

pub none_refused : (stage : Stage) (w : Word) (ws : List Word) → walked stage (w ∷ ws) ≡ true → step stage w ≡ Refused → ⊥
none_refused stage w ws e q = false≢true (sym (walked_goes Refused ws) ∙ sym (ap (λ (x : Stage). walked x ws) q) ∙ e)

-- so what a test decides for is what was read
pub passed : (x : Stage) (b : Bool) (stage : Stage) → x ≡ cond b stage Refused → (x ≡ Refused → ⊥) → stage ≡ x
passed x true stage e n = sym e
passed x false stage e n = absurd (n e)

pub shaded_one : (w : Word) → shaded w ≡ cond (same w cover || colour w) Colours Refused
shaded_one w = go (same w cover)
  where
    go : (b : Bool) → cond b Colours (cond (colour w) Colours Refused) ≡ cond (b || colour w) Colours Refused
    go true = refl
    go false = refl

-- a word with a key begins an item that may stand here
pub key_first : (stage : Stage) (w : Word) → (step stage w ≡ Refused → ⊥) → eqb (get_or w 1 0) 47 ≡ true
    → step stage w ≡ first (by_letter (get_or w 0 0)) (drop 2 w)
key_first stage w n e = step_keyed stage w e ∙ go (ltb (past stage) (place (by_letter (get_or w 0 0)))) (λ q. n (step_keyed stage w e ∙ q))
  where
    go : (b : Bool) → (cond b (first (by_letter (get_or w 0 0)) (drop 2 w)) Refused ≡ Refused → ⊥)
        → cond b (first (by_letter (get_or w 0 0)) (drop 2 w)) Refused ≡ first (by_letter (get_or w 0 0)) (drop 2 w)
    go true m = refl
    go false m = absurd (m refl)

-- SETTLED WORDS

-- a stage that was not refused is settled
abbrev Stays : Stage → Type 0
Stays stage = (stage ≡ Refused → ⊥) → settled stage ≡ true

stays : (b : Bool) (stage : Stage) → settled stage ≡ true → Stays (cond b stage Refused)
stays true stage e n = e
stays false stage e n = absurd (n refl)

-- the keys behind D are those of texts
late_stays : (k : Key) (w : Word) → ltb 6 (place k) ≡ true → Stays (first k w)
late_stays E w e = absurd (false≢true e)
late_stays P w e = absurd (false≢true e)
late_stays R w e = absurd (false≢true e)
late_stays S w e = absurd (false≢true e)
late_stays J w e = absurd (false≢true e)
late_stays D w e = absurd (false≢true e)
late_stays A w e = stays (text_word w) Aircraft refl
late_stays N w e = stays (text_word w) Remarks refl
late_stays C w e = stays (text_word w) Pilot refl
late_stays Other w e = absurd (false≢true e)

opens_stays : (stage : Stage) (k : Key) (w : Word) → 6 ≤ past stage → Stays (opens stage k w)
opens_stays stage k w h = go (ltb (past stage) (place k)) refl
  where
    go : (b : Bool) → ltb (past stage) (place k) ≡ b → Stays (cond b (first k w) Refused)
    go true e = let l = ltb-true (past stage) (place k) e in late_stays k w (lt-ltb 6 (place k) (omega arith))
    go false e = λ n. absurd (n refl)

settled_past : (stage : Stage) → settled stage ≡ true → 6 ≤ past stage
settled_past Start e = absurd (false≢true e)
settled_past Endurance e = absurd (false≢true e)
settled_past Persons e = absurd (false≢true e)
settled_past Radio e = absurd (false≢true e)
settled_past Survival e = absurd (false≢true e)
settled_past Lights e = absurd (false≢true e)
settled_past JacketRadio e = absurd (false≢true e)
settled_past Number e = absurd (false≢true e)
settled_past Capacity e = absurd (false≢true e)
settled_past Colours e = omega arith
settled_past Aircraft e = omega arith
settled_past Remarks e = omega arith
settled_past Pilot e = omega arith
settled_past Refused e = absurd (false≢true e)

-- a further word of such an item is read as the one before it
pub read_again : (stage : Stage) (w : Word) → settled stage ≡ true → (further stage w ≡ Refused → ⊥) → stage ≡ further stage w
read_again Start w e = absurd (false≢true e)
read_again Endurance w e = absurd (false≢true e)
read_again Persons w e = absurd (false≢true e)
read_again Radio w e = absurd (false≢true e)
read_again Survival w e = absurd (false≢true e)
read_again Lights w e = absurd (false≢true e)
read_again JacketRadio w e = absurd (false≢true e)
read_again Number w e = absurd (false≢true e)
read_again Capacity w e = absurd (false≢true e)
read_again Colours w e = passed (further Colours w) (colour w) Colours refl
read_again Aircraft w e = passed (further Aircraft w) (text_word w) Aircraft refl
read_again Remarks w e = passed (further Remarks w) (text_word w) Remarks refl
read_again Pilot w e = passed (further Pilot w) (text_word w) Pilot refl
read_again Refused w e = absurd (false≢true e)

step_stays : (stage : Stage) (w : Word) → settled stage ≡ true → Stays (step stage w)
unfolding step
step_stays stage w e = go (holds 47 w)
  where
    go : (b : Bool) → Stays (cond b (opens stage (keyed (before 47 w)) (behind 47 w)) (further stage w))
    go true = opens_stays stage (keyed (before 47 w)) (behind 47 w) (settled_past stage e)
    go false = λ n. sym (ap settled (read_again stage w e n)) ∙ e

changed_same : (stage : Stage) (w : Word) → settled stage ≡ true → changed stage w ≡ w
changed_same Start w e = refl
changed_same Endurance w e = refl
changed_same Persons w e = absurd (false≢true e)
changed_same Radio w e = absurd (false≢true e)
changed_same Survival w e = absurd (false≢true e)
changed_same Lights w e = absurd (false≢true e)
changed_same JacketRadio w e = absurd (false≢true e)
changed_same Number w e = absurd (false≢true e)
changed_same Capacity w e = absurd (false≢true e)
changed_same Colours w e = refl
changed_same Aircraft w e = refl
changed_same Remarks w e = refl
changed_same Pilot w e = refl
changed_same Refused w e = refl

rewrite_same : (stage : Stage) (w : Word) → settled stage ≡ true → rewrite stage w ≡ w
unfolding rewrite
rewrite_same stage w e =
    let n = up_to_oblique w in
    ap (λ (v : Word). take n w ++ v) (changed_same stage (drop n w) e) ∙ take-append-drop n w

settled_words : (stage : Stage) (ws : List Word) → settled stage ≡ true → walked stage ws ≡ true → rewritten stage ws ≡ ws
settled_words stage [] e f = refl
settled_words stage (w ∷ ws) e f =
    let k = step_stays stage w e (none_refused stage w ws f) in
    ap₂ (λ (v : Word) (vs : List Word). v ∷ vs) (rewrite_same (step stage w) w k) (settled_words (step stage w) ws k f)

-- where the word at `at` is settled, what is left to write is what is left of the content
pub settled_rest : (stage : Stage) (s : List ℕ) (at e : ℕ) → e ≡ at + up_to 32 (drop at s) → walked stage (split 32 (drop at s)) ≡ true
    → settled (step stage (take (e - at) (drop at s))) ≡ true → join 32 (rewritten stage (split 32 (drop at s))) ≡ drop at s
settled_rest stage s at e end f k = ap (join 32) (go (split 32 (drop at s)) _ _ (split_at 32 s at e end) f k) ∙ join-split 32 (drop at s)
  where
    go : (ws : List Word) (w : Word) (l : List Word) → ws ≡ w ∷ l → walked stage ws ≡ true → settled (step stage w) ≡ true → rewritten stage ws ≡ ws
    go [] w l q f k = refl
    go (v ∷ vs) w l q f k =
        let h : step stage v ≡ step stage w = ap (λ (xs : List Word). step stage (first_of xs)) q in
        let m = ap settled h ∙ k in
        ap₂ (λ (v : Word) (vs : List Word). v ∷ vs) (rewrite_same (step stage v) v m) (settled_words (step stage v) vs m f)
