-- Walking word by word comes out as the items do: whether a content fits is what the code's steps find. Assumes nothing.
use Prim.Native.Nat.{ℕ, ◌+◌, ◌-◌, ◌<◌}
use mathlib.Core.Path.{◌≡◌, refl, ◌∙◌}
use mathlib.Core.Bool.{Bool, true, false, cond, ◌&&◌, ◌||◌}
use mathlib.Core.List.{List, [], ◌∷◌}
use lib.ListN.{length, take, drop}
use lib.Dec.{ltb}
use Rattle.std.specs.List.{fold}
use Rattle.text.specs.Words.{Word, split, holds, before, behind, all, null, same, up_to, text_word}
use Rattle.text.proofs.Index.{split_at, after_here}
use Rattle.shape.specs.Time.{elapsed_fits}
use Rattle.supplement.specs.Field19.{Key, E, P, R, S, J, D, A, N, C, Other}
use Rattle.supplement.specs.declared.Stage.{Stage}
use Rattle.supplement.specs.declared.Stage.TheVariants.{Start, Endurance, Persons, Radio, Survival, Lights, JacketRadio, Number, Capacity, Colours}
use Rattle.supplement.specs.declared.Stage.TheVariants.{Aircraft, Remarks, Pilot, Refused}
use Rattle.supplement.specs.Field19.{keyed, place, count, some_of, colour, radio_letters, survival_letters, light_letters, jacket_radio_letters}
use Rattle.supplement.specs.Field19.{persons_digits, number_digits, capacity_digits}
use Rattle.supplement.specs.Field19.{cover, Item, Groups, put, group, one, after_pair, after_cover, item_fits, items_fit, groups_fit, fits19}
use Rattle.supplement.proofs.Words.{no_shade}
use Rattle.supplement.specs.Walk.{complete, shaded, first, further, opens, step, walked}

-- what may follow a stage: words of its item, and the items behind it
abbrev pub capacity : List Word → Bool
capacity [] = false
capacity (w ∷ ws) = count capacity_digits w && all colour (after_cover ws)

abbrev pub goes : Stage → Groups → Bool
goes Start g = groups_fit g
goes Endurance g = null g.0 && items_fit 1 g.1
goes Persons g = null g.0 && items_fit 2 g.1
goes Radio g = null g.0 && items_fit 3 g.1
goes Survival g = null g.0 && items_fit 4 g.1
goes Lights g = (null g.0 || one (some_of jacket_radio_letters) g.0) && items_fit 5 g.1
goes JacketRadio g = null g.0 && items_fit 5 g.1
goes Number g = capacity g.0 && items_fit 6 g.1
goes Capacity g = all colour (after_cover g.0) && items_fit 6 g.1
goes Colours g = all colour g.0 && items_fit 6 g.1
goes Aircraft g = all text_word g.0 && items_fit 7 g.1
goes Remarks g = all text_word g.0 && items_fit 8 g.1
goes Pilot g = all text_word g.0 && items_fit 9 g.1
goes Refused g = false

-- A FURTHER WORD

colours_go : (w : Word) (l : List Word) (is : List Item) → goes (cond (colour w) Colours Refused) (l, is) ≡ (all colour (w ∷ l) && items_fit 6 is)
colours_go w l is = go (colour w)
  where
    go : (b : Bool) → goes (cond b Colours Refused) (l, is) ≡ ((b && all colour l) && items_fit 6 is)
    go true = refl
    go false = refl

shaded_go : (w : Word) (l : List Word) (is : List Item) → goes (shaded w) (l, is) ≡ (all colour (after_cover (w ∷ l)) && items_fit 6 is)
shaded_go w l is = go (same w cover)
  where
    go : (b : Bool) → goes (cond b Colours (cond (colour w) Colours Refused)) (l, is) ≡ (all colour (cond b l (w ∷ l)) && items_fit 6 is)
    go true = refl
    go false = colours_go w l is

further_go : (stage : Stage) (w : Word) (l : List Word) (is : List Item) → goes (further stage w) (l, is) ≡ goes stage (w ∷ l, is)
further_go Start w l is = refl
further_go Endurance w l is = refl
further_go Persons w l is = refl
further_go Radio w l is = refl
further_go Survival w l is = refl
further_go Lights w [] is = go (some_of jacket_radio_letters w)
  where
    go : (b : Bool) → goes (cond b JacketRadio Refused) ([], is) ≡ (b && items_fit 5 is)
    go true = refl
    go false = refl
further_go Lights w (v ∷ l) is = go (some_of jacket_radio_letters w)
  where
    go : (b : Bool) → goes (cond b JacketRadio Refused) (v ∷ l, is) ≡ false
    go true = refl
    go false = refl
further_go JacketRadio w l is = refl
further_go Number w l is = go (count capacity_digits w)
  where
    go : (b : Bool) → goes (cond b Capacity Refused) (l, is) ≡ ((b && all colour (after_cover l)) && items_fit 6 is)
    go true = refl
    go false = refl
further_go Capacity w l is = shaded_go w l is
further_go Colours w l is = colours_go w l is
further_go Aircraft w l is = go (text_word w)
  where
    go : (b : Bool) → goes (cond b Aircraft Refused) (l, is) ≡ ((b && all text_word l) && items_fit 7 is)
    go true = refl
    go false = refl
further_go Remarks w l is = go (text_word w)
  where
    go : (b : Bool) → goes (cond b Remarks Refused) (l, is) ≡ ((b && all text_word l) && items_fit 8 is)
    go true = refl
    go false = refl
further_go Pilot w l is = go (text_word w)
  where
    go : (b : Bool) → goes (cond b Pilot Refused) (l, is) ≡ ((b && all text_word l) && items_fit 9 is)
    go true = refl
    go false = refl
further_go Refused w l is = refl

-- THE FIRST WORD OF AN ITEM

-- an item of one word, at a stage behind which the next item comes
one_go : (stage : Stage) (n : ℕ) → ((g : Groups) → goes stage g ≡ (null g.0 && items_fit n g.1))
    → (p : Word → Bool) (w : Word) (l : List Word) (is : List Item) → goes (cond (p w) stage Refused) (l, is) ≡ (one p (w ∷ l) && items_fit n is)
one_go stage n f p w [] is = go (p w)
  where
    go : (b : Bool) → goes (cond b stage Refused) ([], is) ≡ (b && items_fit n is)
    go true = f ([], is)
    go false = refl
one_go stage n f p w (v ∷ l) is = go (p w)
  where
    go : (b : Bool) → goes (cond b stage Refused) (v ∷ l, is) ≡ false
    go true = f (v ∷ l, is)
    go false = refl

-- an item of text words
texts_go : (stage : Stage) (n : ℕ) → ((g : Groups) → goes stage g ≡ (all text_word g.0 && items_fit n g.1))
    → (w : Word) (l : List Word) (is : List Item) → goes (cond (text_word w) stage Refused) (l, is) ≡ (all text_word (w ∷ l) && items_fit n is)
texts_go stage n f w l is = go (text_word w)
  where
    go : (b : Bool) → goes (cond b stage Refused) (l, is) ≡ ((b && all text_word l) && items_fit n is)
    go true = f (l, is)
    go false = refl

pub no_colours : (w : Word) (l : List Word) → count number_digits w ≡ true → all colour (after_cover (w ∷ l)) ≡ false
no_colours w l e = let h = no_shade number_digits w e in rw (h.0, h.1)

dinghies_go : (w : Word) (l : List Word) (is : List Item) → goes (first D w) (l, is) ≡ (all colour (after_cover (after_pair (w ∷ l))) && items_fit 6 is)
dinghies_go w [] is = go (count number_digits w) refl
  where
    go : (b : Bool) → count number_digits w ≡ b → goes (cond b Number (shaded w)) ([], is) ≡ (all colour (after_cover (w ∷ [])) && items_fit 6 is)
    go true e = rw (no_colours w [] e)
    go false e = shaded_go w [] is
dinghies_go w (v ∷ l) is = go (count number_digits w) refl
  where
    paired : count number_digits w ≡ true → (c : Bool)
        → ((c && all colour (after_cover l)) && items_fit 6 is) ≡ (all colour (after_cover (cond c l (w ∷ (v ∷ l)))) && items_fit 6 is)
    paired e true = refl
    paired e false = rw (no_colours w (v ∷ l) e)

    go : (b : Bool) → count number_digits w ≡ b
        → goes (cond b Number (shaded w)) (v ∷ l, is) ≡ (all colour (after_cover (cond (b && count capacity_digits v) l (w ∷ (v ∷ l)))) && items_fit 6 is)
    go true e = paired e (count capacity_digits v)
    go false e = shaded_go w (v ∷ l) is

pub first_go : (k : Key) (w : Word) (l : List Word) (is : List Item) → goes (first k w) (l, is) ≡ (item_fits k (w ∷ l) && items_fit (place k) is)
first_go E w l is = one_go Endurance 1 (λ g. refl) elapsed_fits w l is
first_go P w l is = one_go Persons 2 (λ g. refl) (count persons_digits) w l is
first_go R w l is = one_go Radio 3 (λ g. refl) (some_of radio_letters) w l is
first_go S w l is = one_go Survival 4 (λ g. refl) (some_of survival_letters) w l is
first_go J w l is = go (some_of light_letters w)
  where
    go : (b : Bool) → goes (cond b Lights Refused) (l, is) ≡ ((b && (null l || one (some_of jacket_radio_letters) l)) && items_fit 5 is)
    go true = refl
    go false = refl
first_go D w l is = dinghies_go w l is
first_go A w l is = texts_go Aircraft 7 (λ g. refl) w l is
first_go N w l is = texts_go Remarks 8 (λ g. refl) w l is
first_go C w l is = texts_go Pilot 9 (λ g. refl) w l is
first_go Other w l is = refl

-- no key is behind the last
pub last : (k : Key) → ltb 9 (place k) ≡ false
last E = refl
last P = refl
last R = refl
last S = refl
last J = refl
last D = refl
last A = refl
last N = refl
last C = refl
last Other = refl

-- an item may begin where its key is behind those that were read
opens_go : (n : ℕ) (k : Key) (w : Word) (l : List Word) (is : List Item)
    → goes (cond (ltb n (place k)) (first k w) Refused) (l, is) ≡ items_fit n (record { key = k; words = w ∷ l } ∷ is)
opens_go n k w l is = go (ltb n (place k))
  where
    go : (b : Bool) → goes (cond b (first k w) Refused) (l, is) ≡ (b && (item_fits k (w ∷ l) && items_fit (place k) is))
    go true = first_go k w l is
    go false = refl

never_opens : (k : Key) (w : Word) (g : Groups) → goes (cond (ltb 9 (place k)) (first k w) Refused) g ≡ false
never_opens k w g = rw (last k)

item_go : (stage : Stage) (k : Key) (w : Word) (l : List Word) (is : List Item)
    → goes (opens stage k w) (l, is) ≡ goes stage ([], record { key = k; words = w ∷ l } ∷ is)
item_go Start k w l is = opens_go 0 k w l is
item_go Endurance k w l is = opens_go 1 k w l is
item_go Persons k w l is = opens_go 2 k w l is
item_go Radio k w l is = opens_go 3 k w l is
item_go Survival k w l is = opens_go 4 k w l is
item_go Lights k w l is = opens_go 5 k w l is
item_go JacketRadio k w l is = opens_go 5 k w l is
item_go Number k w l is = never_opens k w (l, is)
item_go Capacity k w l is = opens_go 6 k w l is
item_go Colours k w l is = opens_go 6 k w l is
item_go Aircraft k w l is = opens_go 7 k w l is
item_go Remarks k w l is = opens_go 8 k w l is
item_go Pilot k w l is = opens_go 9 k w l is
item_go Refused k w l is = never_opens k w (l, is)

-- A STEP, AND ALL OF THEM

pub step_go : (stage : Stage) (w : Word) (g : Groups) → goes (step stage w) g ≡ goes stage (put w g)
unfolding step
step_go stage w g = go (holds 47 w)
  where
    go : (b : Bool) → goes (cond b (opens stage (keyed (before 47 w)) (behind 47 w)) (further stage w)) g
        ≡ goes stage (cond b ([], record { key = keyed (before 47 w); words = behind 47 w ∷ g.0 } ∷ g.1) (w ∷ g.0, g.1))
    go true = item_go stage (keyed (before 47 w)) (behind 47 w) g.0 g.1
    go false = further_go stage w g.0 g.1

complete_goes : (stage : Stage) → complete stage ≡ goes stage ([], [])
complete_goes Start = refl
complete_goes Endurance = refl
complete_goes Persons = refl
complete_goes Radio = refl
complete_goes Survival = refl
complete_goes Lights = refl
complete_goes JacketRadio = refl
complete_goes Number = refl
complete_goes Capacity = refl
complete_goes Colours = refl
complete_goes Aircraft = refl
complete_goes Remarks = refl
complete_goes Pilot = refl
complete_goes Refused = refl

pub walked_goes : (stage : Stage) (ws : List Word) → walked stage ws ≡ goes stage (group ws)
walked_goes stage [] = complete_goes stage
walked_goes stage (w ∷ ws) = walked_goes (step stage w) ws ∙ step_go stage w (group ws)

pub walk_fits : (s : List ℕ) → walked Start (split 32 s) ≡ fits19 s
unfolding fits19
walk_fits s = walked_goes Start (split 32 s)

-- word by word, as a fold
pub walked_folded : (stage : Stage) (ws : List Word) → walked stage ws ≡ complete (fold step stage ws)
walked_folded stage [] = refl
walked_folded stage (w ∷ ws) = walked_folded (step stage w) ws

-- word by word at an index, where the next word ends at e
module _ (stage : Stage) (s : List ℕ) (at e : ℕ) (end : e ≡ at + up_to 32 (drop at s)) where
  abbrev word : Word
  word = take (e - at) (drop at s)

  pub walked_next : e < length s → walked stage (split 32 (drop at s)) ≡ walked (step stage word) (split 32 (drop (e + 1) s))
  walked_next h = rw (split_at 32 s at e end, after_here 32 s e h)
