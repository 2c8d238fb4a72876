-- Where the fields of a text end: how the ends are gathered, and what they give. Assumes nothing.
use Prim.Native.Nat.{ℕ, zero, suc, ◌+◌, ◌-◌, ◌≤◌, ◌<◌}
use mathlib.Core.Path.{◌≡◌, refl, sym, ap, ap₂, subst, ◌∙◌}
use mathlib.Core.Bool.{Bool, true, false}
use mathlib.Core.List.{List, []}
use native.Mathlib.Omega.{arith}
use native.Mathlib.Nat.{add-zero}
use native.Mathlib.Numerals.{add-one}
use lib.Dec.{ltb}
use lib.ListN.{length, take, drop, get_or, set, length-set, length-drop}
use lib.Seq.{drop-drop, get_or-drop, get_or-set_same, get_or-set_other}
use borrow.Author.Count.{below_more}
use borrow.Author.Tests.{ltb-true, ltb-false}
use Rattle.text.specs.Words.{Word, split, up_to, after, free}
use Rattle.text.proofs.Index.{find_here, find_next, find_end, find_part, split_at, split_cut, after_here, after_end}
use Rattle.kinds.specs.declared.MessageType.{MessageType}
use Rattle.kinds.specs.Kinds.{forms_of, most_fields}
use Rattle.message.specs.Ends.{start_in, EndAt, Ends, Noted}
use Rattle.message.proofs.Walk.{Even}

-- A TEXT has one field at least
pub some_field : (s : List ℕ) → 0 < length (split 45 s)
some_field s = omega (arith, ap length (split_cut 45 s))

-- THE ENDS KNOWN

start_behind : (ends : List ℕ) (j : ℕ) → 0 < j → start_in ends j ≡ get_or ends (j - 1) 0 + 1
start_behind ends zero l = absurd (omega arith)
start_behind ends (suc j) l = let z : suc j - 1 ≡ j = omega arith in ap (λ (i : ℕ). get_or ends i 0 + 1) (sym z)

module _ (s ends : List ℕ) (k : Ends s ends) where
  -- behind a field with another behind it stands its hyphen
  more_behind : (j : ℕ) → j + 1 < length (split 45 s) → drop j (split 45 s) ≡ split 45 (drop (start_in ends j) s)
      → drop (j + 1) (split 45 s) ≡ split 45 (drop (get_or ends j 0 + 1) s)
  more_behind j h from = go (ltb (get_or ends j 0) (length s)) refl
    where
      behind : drop (j + 1) (split 45 s) ≡ after 45 (drop (get_or ends j 0) s)
      behind =
          sym (drop-drop 1 j (split 45 s))
          ∙ ap (drop 1) (from ∙ split_at 45 s (start_in ends j) (get_or ends j 0) (k.known j (omega arith)).end)

      go : (b : Bool) → ltb (get_or ends j 0) (length s) ≡ b → drop (j + 1) (split 45 s) ≡ split 45 (drop (get_or ends j 0 + 1) s)
      go true p = behind ∙ after_here 45 s (get_or ends j 0) (ltb-true (get_or ends j 0) (length s) p)
      go false p =
          let none = ap length (behind ∙ after_end 45 s (get_or ends j 0) (ltb-false (get_or ends j 0) (length s) p)) in
          absurd (omega (arith, none, length-drop (j + 1) (split 45 s)))

  -- the fields from j on are those of the text from where field j begins
  fields_from_lem : (j : ℕ) → j < length (split 45 s) → drop j (split 45 s) ≡ split 45 (drop (start_in ends j) s)
  fields_from_lem zero h = refl
  fields_from_lem (suc j) h =
      let l : j + 1 < length (split 45 s) = omega arith in
      ap (λ (i : ℕ). drop i (split 45 s)) (sym (add-one j)) ∙ more_behind j l (fields_from_lem j (omega arith))

  module _ (j : ℕ) (h : j < length (split 45 s)) where
    content_known : take (get_or ends j 0 - start_in ends j) (drop (start_in ends j) s) ≡ get_or (split 45 s) j []
    content_known =
        let cut = fields_from_lem j h ∙ split_at 45 s (start_in ends j) (get_or ends j 0) (k.known j h).end in
        sym (ap (λ (i : ℕ). get_or (split 45 s) i []) (sym (add-zero j)) ∙ sym (get_or-drop j (split 45 s) 0 []) ∙ ap (λ (l : List Word). get_or l 0 []) cut)

    -- the first field, and any other, as the code cuts them out
    pub content_first : j ≡ 0 → take (get_or ends j 0) s ≡ get_or (split 45 s) j []
    content_first z =
        let y : start_in ends j ≡ 0 = ap (start_in ends) z in
        let n : get_or ends j 0 - start_in ends j ≡ get_or ends j 0 = omega arith in
        sym (ap₂ (λ (l i : ℕ). take l (drop i s)) n y) ∙ content_known

    pub content_later : 0 < j → take (get_or ends j 0 - (get_or ends (j - 1) 0 + 1)) (drop (get_or ends (j - 1) 0 + 1) s) ≡ get_or (split 45 s) j []
    content_later l = ap (λ (i : ℕ). take (get_or ends j 0 - i) (drop i s)) (sym (start_behind ends j l)) ∙ content_known

    pub inside_first : get_or ends j 0 ≤ length s
    inside_first = (k.known j h).inside

    pub inside_later : 0 < j → get_or ends (j - 1) 0 + 1 ≤ get_or ends j 0
    inside_later l = omega (arith, start_behind ends j l, (k.known j h).end)

-- IN A WALK over the fields, at field j, which begins at `at`

module _ (t : MessageType) (n : ℕ) (s ends : List ℕ) (k : Ends s ends) (whole : length (forms_of t n) ≡ length (split 45 s)) (at j : ℕ)
    (even : Even t n s at j) where
  pub one_more_lem : j < length (split 45 s)
  one_more_lem = omega (arith, length-drop j (forms_of t n), some_field (drop at s))

  pub inside_ends : j < most_fields
  inside_ends = omega (arith, one_more_lem, k.few)

  pub end_known : at ≡ start_in ends j → EndAt s at (get_or ends j 0)
  end_known e = subst (λ (i : ℕ). EndAt s i (get_or ends j 0)) (sym e) (k.known j one_more_lem)

pub start_next : (ends : List ℕ) (j : ℕ) → get_or ends j 0 + 1 ≡ start_in ends (j + 1)
start_next ends j = rw (add-one j)

-- THE ENDS GATHERED, up to a place i before which n are noted

pub start_set : (ends : List ℕ) (j e i : ℕ) → i ≤ j → start_in (set ends j e) i ≡ start_in ends i
start_set ends j e zero h = refl
start_set ends j e (suc i) h = ap (λ (x : ℕ). x + 1) (get_or-set_other ends j i e 0 (λ z. omega arith))

-- the fields left at a place are one more than those behind its next hyphen
parts : (s : List ℕ) (i e : ℕ) → e ≡ i + up_to 45 (drop i s) → length (split 45 (drop i s)) ≡ 1 + length (after 45 (drop e s))
parts s i e end = omega (arith, ap length (split_at 45 s i e end))

pub noted_none : (s ends : List ℕ) → length ends ≡ most_fields → length (split 45 s) ≤ most_fields → Noted s ends 0 0
noted_none s ends long few =
    record { inside = omega arith; long = long; few = few; reaches = refl; left = omega arith; known = λ j h. absurd (omega arith) }

module _ (s ends : List ℕ) (n i : ℕ) (g : Noted s ends n i) where
  pub noted_room : n < most_fields
  noted_room = omega (arith, g.left, g.few, some_field (drop i s))

  -- nothing more is noted on the way to a place that has the same next hyphen
  noted_to : (e : ℕ) → e ≤ length s → i + up_to 45 (drop i s) ≡ e + up_to 45 (drop e s) → Noted s ends n e
  noted_to e h p =
      record {
        inside = h;
        long = g.long;
        few = g.few;
        reaches = g.reaches ∙ p;
        left = omega (arith, g.left, parts s i (i + up_to 45 (drop i s)) refl, parts s e (i + up_to 45 (drop i s)) p);
        known = g.known;
      }

  pub noted_pass : i < length s → (get_or s i 0 ≡ 45 → ⊥) → Noted s ends n (i + 1)
  noted_pass h f = noted_to (i + 1) (omega arith) (omega (arith, find_next 45 s i h f))

  pub noted_over : (e : ℕ) → i ≤ e → e ≤ length s → free 45 (take (e - i) (drop i s)) ≡ true → Noted s ends n e
  noted_over e l h f = noted_to e h (find_part 45 s i e l h f)

  -- field n ends at e
  module _ (e : ℕ) (end : e ≡ i + up_to 45 (drop i s)) (within : e ≤ length s) where
    set_same : get_or (set ends n e) n 0 ≡ e
    set_same = get_or-set_same ends n e 0 (omega (arith, noted_room, g.long))

    here : EndAt s (start_in (set ends n e) n) (get_or (set ends n e) n 0)
    here = rw (set_same, start_set ends n e n (omega arith)) (record { end = end ∙ sym g.reaches; inside = within })

    earlier : (j : ℕ) → j < n → EndAt s (start_in (set ends n e) j) (get_or (set ends n e) j 0)
    earlier j h =
        let l : j ≤ n = omega arith in
        rw (start_set ends n e j l, get_or-set_other ends n j e 0 (λ z. omega arith)) (g.known j h)

    so_far : (j : ℕ) → j < n + 1 → EndAt s (start_in (set ends n e) j) (get_or (set ends n e) j 0)
    so_far = below_more (λ (j : ℕ). EndAt s (start_in (set ends n e) j) (get_or (set ends n e) j 0)) n earlier here

  pub noted_more : i < length s → get_or s i 0 ≡ 45 → Noted s (set ends n i) (n + 1) (i + 1)
  noted_more h f =
      let end : i ≡ i + up_to 45 (drop i s) = omega (arith, find_here 45 s i h f) in
      let start : start_in (set ends n i) (n + 1) ≡ i + 1 = sym (start_next (set ends n i) n) ∙ ap (λ (x : ℕ). x + 1) (set_same i end g.inside) in
      record {
        inside = omega arith;
        long = length-set ends n i ∙ g.long;
        few = g.few;
        reaches = ap (λ (x : ℕ). x + up_to 45 (drop x s)) start;
        left = omega (arith, g.left, parts s i i end, ap length (after_here 45 s i h));
        known = so_far i end g.inside;
      }

  -- the last field ends with the text
  pub noted_all : i ≡ length s → Ends s (set ends n (length s))
  noted_all z =
      let end : length s ≡ i + up_to 45 (drop i s) = omega (arith, z, find_end 45 s i (omega arith)) in
      let none = ap length (after_end 45 s (length s) (omega arith)) in
      let all : length (split 45 s) ≡ n + 1 = omega (arith, g.left, parts s i (length s) end, none) in
      record { few = g.few; known = λ j l. so_far (length s) end (omega arith) j (omega arith) }
