-- Rewriting a content word by word gives its canonical spelling. Assumes nothing.
use Prim.Native.Nat.{ℕ, suc}
use mathlib.Core.Path.{◌≡◌, refl, sym, ap, ap₂, ◌∙◌}
use mathlib.Core.Bool.{Bool, true, false, cond, false≢true}
use mathlib.Core.List.{List, [], ◌∷◌, ◌++◌, append_assoc}
use native.Mathlib.Omega.{arith}
use lib.Dec.{ltb, eqb, leb-suc-suc}
use lib.ListN.{length, take, drop}
use borrow.Author.Tests.{eqb-true}
use Rattle.text.specs.Words.{Word, split, join, up_to, holds, before, behind, all, null, same, text_word}
use Rattle.text.proofs.Tests.{both}
use Rattle.shape.specs.Time.{elapsed_hours, elapsed_fits}
use Rattle.shape.proofs.Times.{time_exact}
use Rattle.supplement.specs.Field19.{Key, E, P, R, S, J, D, A, N, C, Other}
use Rattle.supplement.specs.declared.Stage.{Stage}
use Rattle.supplement.specs.declared.Stage.TheVariants.{Start, Endurance, Persons, Radio, Survival, Lights, JacketRadio, Number, Capacity, Colours}
use Rattle.supplement.specs.declared.Stage.TheVariants.{Aircraft, Remarks, Pilot, Refused}
use Rattle.supplement.specs.Field19.{keyed, spell_key, place, key_of, count, some_of, colour, radio_letters, survival_letters, light_letters}
use Rattle.supplement.specs.Field19.{persons_digits, number_digits, capacity_digits}
use Rattle.supplement.specs.Field19.{jacket_radio_letters, cover, words_of, opened, spelt, spell19, Item, Groups, put, group, after_pair, after_cover}
use Rattle.supplement.specs.Field19.{item_fits, fits19, part_of, parts_of, record19}
use Rattle.canonical.specs.Canonical.{sorted, canonical_part, canonical19, written19}
use Rattle.supplement.specs.Walk.{past, shaded, first, further, opens, step}
use Rattle.canonical.specs.Rewriting.{letters, stripped, changed, rewrite, rewritten, rewritten_text}
use Rattle.supplement.proofs.Walk.{goes, first_go, step_go, no_colours}
use Rattle.supplement.proofs.Parts.{part_read, cover_words}
use Rattle.supplement.proofs.Items.{key_spelled, above}
use Rattle.canonical.proofs.Orders.{sorted_by}
use Rattle.canonical.proofs.Counts.{stripped_shortest}
use Rattle.canonical.proofs.Canonical.{canonical_key}
use Rattle.canonical.proofs.Written.{written_fits}

-- the further words of an item, as they are written
abbrev others : Stage → List Word → List Word
others stage [] = []
others Start (w ∷ l) = w ∷ l
others Endurance (w ∷ l) = w ∷ l
others Persons (w ∷ l) = w ∷ l
others Radio (w ∷ l) = w ∷ l
others Survival (w ∷ l) = w ∷ l
others Lights (w ∷ l) = sorted jacket_radio_letters w ∷ l
others JacketRadio (w ∷ l) = w ∷ l
others Number (w ∷ l) = stripped w ∷ l
others Capacity (w ∷ l) = w ∷ l
others Colours (w ∷ l) = w ∷ l
others Aircraft (w ∷ l) = w ∷ l
others Remarks (w ∷ l) = w ∷ l
others Pilot (w ∷ l) = w ∷ l
others Refused (w ∷ l) = w ∷ l

-- a test that holds chooses its stage
chosen : (b : Bool) (stage : Stage) (T : Stage → Type 0) → b ≡ true → T stage → T (cond b stage Refused)
chosen true stage T e t = t
chosen false stage T e t = absurd (false≢true e)

-- a stage that goes on was not refused
tested : (b : Bool) (stage : Stage) (g : Groups) (T : Stage → Type 0) → goes (cond b stage Refused) g ≡ true → (b ≡ true → T stage)
    → T (cond b stage Refused)
tested true stage g T e t = t refl
tested false stage g T e t = absurd (false≢true e)

-- a stage that leaves its word as it is, and the words behind it
as_sent_lem : (stage : Stage) → ((w : Word) → changed stage w ≡ w) → ((w : Word) (l : List Word) → others stage (w ∷ l) ≡ w ∷ l)
    → (w : Word) (l : List Word) → changed stage w ∷ others stage l ≡ w ∷ l
as_sent_lem stage c f w [] = ap (λ (v : Word). v ∷ []) (c w)
as_sent_lem stage c f w (v ∷ l) = ap₂ (λ (u : Word) (k : List Word). u ∷ k) (c w) (f v l)

-- A FURTHER WORD

-- the words of an item from w on are l₁ at a stage
abbrev Writes : Word → List Word → List Word → Stage → Type 0
Writes w l l₁ stage = changed stage w ∷ others stage l ≡ l₁

module _ (w : Word) (l : List Word) (is : List Item) where
  colours_kept : goes (cond (colour w) Colours Refused) (l, is) ≡ true → Writes w l (w ∷ l) (cond (colour w) Colours Refused)
  colours_kept e = tested (colour w) Colours (l, is) (Writes w l (w ∷ l)) e (λ f. as_sent_lem Colours (λ v. refl) (λ v k. refl) w l)

  shaded_kept : goes (shaded w) (l, is) ≡ true → Writes w l (w ∷ l) (shaded w)
  shaded_kept = go (same w cover)
    where
      go : (b : Bool) → goes (cond b Colours (cond (colour w) Colours Refused)) (l, is) ≡ true
          → Writes w l (w ∷ l) (cond b Colours (cond (colour w) Colours Refused))
      go true e = as_sent_lem Colours (λ v. refl) (λ v k. refl) w l
      go false e = colours_kept e

  further_kept : (stage : Stage) → goes (further stage w) (l, is) ≡ true → Writes w l (others stage (w ∷ l)) (further stage w)
  further_kept Start e = absurd (false≢true e)
  further_kept Endurance e = absurd (false≢true e)
  further_kept Persons e = absurd (false≢true e)
  further_kept Radio e = absurd (false≢true e)
  further_kept Survival e = absurd (false≢true e)
  further_kept Lights e =
      tested (some_of jacket_radio_letters w) JacketRadio (l, is) (Writes w l (sorted jacket_radio_letters w ∷ l)) e
      (λ f. ap₂ (λ (v : Word) (k : List Word). v ∷ k) (sorted_by letters jacket_radio_letters refl w f) (others_same l))
    where
      others_same : (l : List Word) → others JacketRadio l ≡ l
      others_same [] = refl
      others_same (v ∷ l) = refl
  further_kept JacketRadio e = absurd (false≢true e)
  further_kept Number e =
      tested (count capacity_digits w) Capacity (l, is) (Writes w l (stripped w ∷ l)) e (λ f. ap (λ (k : List Word). stripped w ∷ k) (others_same l))
    where
      others_same : (l : List Word) → others Capacity l ≡ l
      others_same [] = refl
      others_same (v ∷ l) = refl
  further_kept Capacity e = shaded_kept e
  further_kept Colours e = colours_kept e
  further_kept Aircraft e = tested (text_word w) Aircraft (l, is) (Writes w l (w ∷ l)) e (λ f. as_sent_lem Aircraft (λ v. refl) (λ v k. refl) w l)
  further_kept Remarks e = tested (text_word w) Remarks (l, is) (Writes w l (w ∷ l)) e (λ f. as_sent_lem Remarks (λ v. refl) (λ v k. refl) w l)
  further_kept Pilot e = tested (text_word w) Pilot (l, is) (Writes w l (w ∷ l)) e (λ f. as_sent_lem Pilot (λ v. refl) (λ v k. refl) w l)
  further_kept Refused e = absurd (false≢true e)

-- THE FIRST WORD OF AN ITEM

shaded_colours : (w : Word) (l : List Word) → all colour (after_cover (w ∷ l)) ≡ true → shaded w ≡ Colours
shaded_colours w l = go (same w cover)
  where
    go : (b : Bool) → all colour (cond b l (w ∷ l)) ≡ true → cond b Colours (cond (colour w) Colours Refused) ≡ Colours
    go true e = refl
    go false e = chosen (colour w) Colours (λ s. s ≡ Colours) (both (colour w) (all colour l) e).0 refl

abbrev canonical_words : Key → List Word → List Word
canonical_words k ws = words_of (canonical_part (part_of k ws))

-- without a pair
plain_dinghies : (w : Word) (l : List Word) → count number_digits w ≡ false → all colour (after_cover (after_pair (w ∷ l))) ≡ true
    → Writes w l (canonical_words D (w ∷ l)) (first D w)
plain_dinghies w [] q e = rw (q, shaded_colours w [] e) (sym (cover_words (w ∷ [])))
plain_dinghies w (v ∷ l) q e =
    let f : all colour (after_cover (w ∷ (v ∷ l))) ≡ true = rw q at e in
    rw (q, shaded_colours w (v ∷ l) f) (sym (cover_words (w ∷ (v ∷ l))))

-- with one
paired_dinghies : (w : Word) (l : List Word) → count number_digits w ≡ true → all colour (after_cover (after_pair (w ∷ l))) ≡ true
    → Writes w l (canonical_words D (w ∷ l)) (first D w)
paired_dinghies w [] q e = absurd (false≢true (sym (no_colours w [] q) ∙ e))
paired_dinghies w (v ∷ l) q e = go (count capacity_digits v) refl
  where
    go : (b : Bool) → count capacity_digits v ≡ b → Writes w (v ∷ l) (canonical_words D (w ∷ (v ∷ l))) (first D w)
    go true r =
        rw (q, r)
        (ap₂ (λ (x : Word) (k : List Word). x ∷ k) (stripped_shortest number_digits (omega arith) w q)
        (ap₂ (λ (y : Word) (k : List Word). y ∷ k) (stripped_shortest capacity_digits (omega arith) v r) (sym (cover_words l))))
    go false r =
        let f : all colour (after_cover (w ∷ (v ∷ l))) ≡ true = rw (q, r) at e in
        absurd (false≢true (sym (no_colours w (v ∷ l) q) ∙ f))

dinghies_kept : (w : Word) (l : List Word) → all colour (after_cover (after_pair (w ∷ l))) ≡ true → Writes w l (canonical_words D (w ∷ l)) (first D w)
dinghies_kept w l e = go (count number_digits w) refl
  where
    go : (b : Bool) → count number_digits w ≡ b → Writes w l (canonical_words D (w ∷ l)) (first D w)
    go true q = paired_dinghies w l q e
    go false q = plain_dinghies w l q e

first_kept : (k : Key) (w : Word) (l : List Word) → item_fits k (w ∷ l) ≡ true → Writes w l (canonical_words k (w ∷ l)) (first k w)
first_kept E w [] e =
    chosen (elapsed_fits w) Endurance (Writes w [] (canonical_words E (w ∷ []))) e (ap (λ (v : Word). v ∷ []) (sym (time_exact elapsed_hours w e)))
first_kept E w (v ∷ l) e = absurd (false≢true e)
first_kept P w [] e =
    chosen (count persons_digits w) Persons (Writes w [] (canonical_words P (w ∷ []))) e
    (ap (λ (v : Word). v ∷ []) (stripped_shortest persons_digits (omega arith) w e))
first_kept P w (v ∷ l) e = absurd (false≢true e)
first_kept R w [] e =
    chosen (some_of radio_letters w) Radio (Writes w [] (canonical_words R (w ∷ []))) e (ap (λ (v : Word). v ∷ []) (sorted_by letters radio_letters refl w e))
first_kept R w (v ∷ l) e = absurd (false≢true e)
first_kept S w [] e =
    chosen (some_of survival_letters w) Survival (Writes w [] (canonical_words S (w ∷ []))) e
    (ap (λ (v : Word). v ∷ []) (sorted_by letters survival_letters refl w e))
first_kept S w (v ∷ l) e = absurd (false≢true e)
first_kept J w [] e =
    let f = (both (some_of light_letters w) true e).0 in
    chosen (some_of light_letters w) Lights (Writes w [] (canonical_words J (w ∷ []))) f (ap (λ (v : Word). v ∷ []) (sorted_by letters light_letters refl w f))
first_kept J w (v ∷ []) e =
    let f = (both (some_of light_letters w) (some_of jacket_radio_letters v) e).0 in
    chosen (some_of light_letters w) Lights (Writes w (v ∷ []) (canonical_words J (w ∷ (v ∷ [])))) f
    (ap (λ (u : Word). u ∷ (sorted jacket_radio_letters v ∷ [])) (sorted_by letters light_letters refl w f))
first_kept J w (v ∷ (u ∷ l)) e = absurd (false≢true (both (some_of light_letters w) false e).1)
first_kept D w l e = dinghies_kept w l e
first_kept A w l e =
    chosen (text_word w) Aircraft (Writes w l (w ∷ l)) (both (text_word w) (all text_word l) e).0 (as_sent_lem Aircraft (λ v. refl) (λ v k. refl) w l)
first_kept N w l e =
    chosen (text_word w) Remarks (Writes w l (w ∷ l)) (both (text_word w) (all text_word l) e).0 (as_sent_lem Remarks (λ v. refl) (λ v k. refl) w l)
first_kept C w l e = chosen (text_word w) Pilot (Writes w l (w ∷ l)) (both (text_word w) (all text_word l) e).0
    (as_sent_lem Pilot (λ v. refl) (λ v k. refl) w l)
first_kept Other w l e = absurd (false≢true e)

-- A WORD

-- the bytes up to the oblique, and it
oblique_seam : (w : Word) → holds 47 w ≡ true → take (suc (up_to 47 w)) w ≡ before 47 w ++ (47 ∷ [])
oblique_seam [] h = absurd (false≢true h)
oblique_seam (b ∷ w) h = go (oblique_seam w) (eqb b 47) refl h
  where
    go : (holds 47 w ≡ true → take (suc (up_to 47 w)) w ≡ before 47 w ++ (47 ∷ []))
        → (t : Bool) → eqb b 47 ≡ t → ltb (cond t 0 (suc (up_to 47 w))) (suc (length w)) ≡ true
        → b ∷ take (cond t 0 (suc (up_to 47 w))) w ≡ take (cond t 0 (suc (up_to 47 w))) (b ∷ w) ++ (47 ∷ [])
    go ih true e h = cc (eqb-true b 47 e)
    go ih false e h = ap (λ (t : List ℕ). b ∷ t) (ih (sym (leb-suc-suc (suc (up_to 47 w)) (length w)) ∙ h))

module _ (stage : Stage) (w : Word) (g : Groups) where
  abbrev behind_it : List Word
  behind_it = spelt (canonical19 (parts_of g.1))

  -- the item that w begins, as it is written
  abbrev item : List Word
  item =
      opened (spell_key (key_of (canonical_part (part_of (keyed (before 47 w)) (behind 47 w ∷ g.0)))))
      (canonical_words (keyed (before 47 w)) (behind 47 w ∷ g.0))

  -- the same, at a stage that w is read as
  abbrev Begins : Stage → Type 0
  Begins read = (take (suc (up_to 47 w)) w ++ changed read (behind 47 w)) ∷ (others read g.0 ++ behind_it) ≡ item ++ behind_it

  begins : holds 47 w ≡ true → ltb (past stage) (place (keyed (before 47 w))) ≡ true → goes (first (keyed (before 47 w)) (behind 47 w)) g ≡ true
      → Begins (first (keyed (before 47 w)) (behind 47 w))
  begins h p e =
      let k = keyed (before 47 w) in
      let v = behind 47 w in
      let f : item_fits k (v ∷ g.0) ≡ true = (both (item_fits k (v ∷ g.0)) _ (sym (first_go k v g.0 g.1) ∙ e)).0 in
      let head : take (suc (up_to 47 w)) w ++ changed (first k v) v ≡ spell_key k ++ (47 ∷ changed (first k v) v)
      = ap (λ (u : Word). u ++ changed (first k v) v) (oblique_seam w h)
      ∙ append_assoc (before 47 w) (47 ∷ []) (changed (first k v) v)
      ∙ ap (λ (u : Word). u ++ (47 ∷ changed (first k v) v)) (sym (key_spelled (before 47 w) (above (past stage) (place k) p))) in
      ap (λ (u : Word). u ∷ (others (first k v) g.0 ++ behind_it)) head
      ∙ sym
      (ap₂ (λ (key : Key) (ws : List Word). opened (spell_key key) ws ++ behind_it)
      (canonical_key (part_of k (v ∷ g.0)) ∙ (part_read k (v ∷ g.0) f).key)
      (sym (first_kept k v g.0 f)))

  item_kept : holds 47 w ≡ true → goes (opens stage (keyed (before 47 w)) (behind 47 w)) g ≡ true → Begins (opens stage (keyed (before 47 w)) (behind 47 w))
  item_kept h = go (ltb (past stage) (place (keyed (before 47 w)))) refl
    where
      go : (b : Bool) → ltb (past stage) (place (keyed (before 47 w))) ≡ b
          → goes (cond b (first (keyed (before 47 w)) (behind 47 w)) Refused) g ≡ true
          → Begins (cond b (first (keyed (before 47 w)) (behind 47 w)) Refused)
      go true p e = begins h p e
      go false p e = absurd (false≢true e)

  word_kept : goes (step stage w) g ≡ true
      → rewrite (step stage w) w ∷ (others (step stage w) g.0 ++ behind_it) ≡ others stage (put w g).0 ++ spelt (canonical19 (parts_of (put w g).1))
  unfolding step rewrite
  word_kept e = go (holds 47 w) refl e
    where
      chose : Bool → Stage
      chose b = cond b (opens stage (keyed (before 47 w)) (behind 47 w)) (further stage w)

      led : Bool → ℕ
      led b = cond b (suc (up_to 47 w)) 0

      grouped : Bool → Groups
      grouped b = cond b ([], record { key = keyed (before 47 w); words = behind 47 w ∷ g.0 } ∷ g.1) (w ∷ g.0, g.1)

      go : (b : Bool) → holds 47 w ≡ b → goes (chose b) g ≡ true
          → (take (led b) w ++ changed (chose b) (drop (led b) w)) ∷ (others (chose b) g.0 ++ behind_it)
          ≡ others stage (grouped b).0 ++ spelt (canonical19 (parts_of (grouped b).1))
      go true h f = item_kept h f
      go false h f = ap (λ (l : List Word). l ++ behind_it) (further_kept w g.0 g.1 stage f)

-- ALL OF THEM

rewritten_goes : (stage : Stage) (ws : List Word) → goes stage (group ws) ≡ true
    → rewritten stage ws ≡ others stage (group ws).0 ++ spelt (canonical19 (parts_of (group ws).1))
rewritten_goes stage [] e = refl
rewritten_goes stage (w ∷ ws) e =
    let f : goes (step stage w) (group ws) ≡ true = step_go stage w (group ws) ∙ e in
    ap (λ (l : List Word). rewrite (step stage w) w ∷ l) (rewritten_goes (step stage w) ws f) ∙ word_kept stage w (group ws) f

none_left : (g : Groups) → goes Start g ≡ true → others Start g.0 ≡ []
none_left g e = go g.0 (both (null g.0) _ e).0
  where
    go : (l : List Word) → null l ≡ true → others Start l ≡ []
    go [] q = refl
    go (w ∷ l) q = absurd (false≢true q)

pub written_words : (s : List ℕ) → fits19 s ≡ true → written19 s ≡ rewritten_text s
unfolding fits19 record19 spell19 rewritten_text
written_words s e =
    let g = group (split 32 s) in
    written_fits s e
    ∙ ap (join 32) (sym (rewritten_goes Start (split 32 s) e ∙ ap (λ (l : List Word). l ++ spelt (canonical19 (parts_of g.1))) (none_left g e)))
