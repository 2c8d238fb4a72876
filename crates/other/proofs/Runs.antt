-- Text bytes at an index: what the code knows of the word that begins with them, by the byte that ends them. Assumes nothing.
use Prim.Native.Nat.{ℕ, suc, ◌+◌, ◌-◌, ◌<◌, ◌≤◌}
use mathlib.Core.Path.{◌≡◌, refl, sym, ap, ◌∙◌}
use mathlib.Core.Bool.{Bool, true, false, cond, ◌&&◌, not, false≢true}
use mathlib.Core.List.{List, [], ◌∷◌, ◌++◌, append-nil}
use native.Mathlib.Omega.{arith}
use lib.Dec.{ltb, eqb}
use lib.ListN.{length, take, drop, get_or, length-drop, take-append-drop}
use lib.Seq.{drop-drop, get_or-drop}
use lib.Arith.{lt_of_le-ne}
use borrow.Author.Tests.{ne_eqb, eqb-true, eqb-false, ltb-true, lt-ltb, le-ltb}
use Rattle.alphabet.specs.Alphabet.{sign, text, in_alphabet, white}
use Rattle.text.specs.Words.{Word, split, onto, after, up_to, holds, before, all, null, leading, free, text_word}
use Rattle.text.proofs.Index.{drop_here, find_here, find_end, split_cut, all-leading}
use Rattle.text.proofs.Tests.{both, and_false, all_imp, all-free, of_elem, rank-elem}
use Rattle.text.proofs.Joined.{holds_seam, before_seam, behind_seam, holds-free}
use Rattle.text.proofs.Tidy.{sign_text}
use Rattle.other.specs.declared.Rule.{Rule}
use Rattle.other.specs.Rules.{Edition18, rank_in, rule_in, word_fits, single, more_fits}
use Rattle.other.specs.Field18.{fit_from, fit_more}
use Rattle.other.proofs.Texts.{word_text}
use Rattle.other.proofs.Index.{fit_step, more_step}

-- BYTES AT THE FRONT THAT PASS A TEST

module _ (p : ℕ → Bool) where
  leading_stop : (s : List ℕ) → leading p s < length s → p (get_or s (leading p s) 0) ≡ false
  leading_stop [] h = absurd (omega arith)
  leading_stop (b ∷ s) h = go (leading_stop s) (p b) refl h
    where
      go : (leading p s < length s → p (get_or s (leading p s) 0) ≡ false)
          → (t : Bool) → p b ≡ t → cond t (suc (leading p s)) 0 < suc (length s) → p (get_or (b ∷ s) (cond t (suc (leading p s)) 0) 0) ≡ false
      go ih true e h = ih (omega arith)
      go ih false e h = e

  -- a byte that does not pass it, somewhere in a word
  all_odd : (k : Word) (b : ℕ) (v : Word) → p b ≡ false → all p (k ++ (b ∷ v)) ≡ false
  all_odd [] b v e = rw e
  all_odd (x ∷ k) b v e = and_false (p x) (all p (k ++ (b ∷ v))) (all_odd k b v e)

  -- those from `at` on end at e
  module _ (s : List ℕ) (at e : ℕ) (end : e ≡ at + leading p (drop at s)) where
    pub run_all : all p (take (e - at) (drop at s)) ≡ true
    run_all = let n : e - at ≡ leading p (drop at s) = omega arith in rw n (all-leading p (drop at s))

    run_stop : e < length s → p (get_or s e 0) ≡ false
    run_stop h =
        let l : leading p (drop at s) < length (drop at s) = simp length-drop (omega arith) in
        ap p (ap (λ (i : ℕ). get_or s i 0) end ∙ sym (get_or-drop at s (leading p (drop at s)) 0)) ∙ leading_stop (drop at s) l

-- THE WORD THAT BEGINS WITH THEM

-- bytes free of c belong to the first piece
split_prefix : (c : ℕ) (k : Word) (u : List ℕ) (w : Word) (ws : List Word) → free c k ≡ true → split c u ≡ w ∷ ws → split c (k ++ u) ≡ (k ++ w) ∷ ws
split_prefix c [] u w ws e h = h
split_prefix c (b ∷ k) u w ws e h = go (λ f. split_prefix c k u w ws f h) (eqb b c) e
  where
    go : (free c k ≡ true → split c (k ++ u) ≡ (k ++ w) ∷ ws)
        → (t : Bool) → (not t && free c k) ≡ true → cond t ([] ∷ split c (k ++ u)) (onto b (split c (k ++ u))) ≡ (b ∷ (k ++ w)) ∷ ws
    go ih true q = absurd (false≢true q)
    go ih false q = ap (onto b) (ih q)

pub no_space : text 32 ≡ false
unfolding text in_alphabet white
no_space = refl

no_oblique : text 47 ≡ false
unfolding text in_alphabet white
no_oblique = refl

-- whether one ends at e
pub over_ends : (s : List ℕ) (e : ℕ) → length s ≤ e → true ≡ eqb (up_to 32 (drop e s)) 0
over_ends s e h = rw (find_end 32 s e h)

pub ends_space : (s : List ℕ) (e : ℕ) → e < length s → eqb (get_or s e 0) 32 ≡ eqb (up_to 32 (drop e s)) 0
ends_space s e h = sym (ap (λ (t : List ℕ). eqb (up_to 32 t) 0) (drop_here s e h) ∙ go (eqb (get_or s e 0) 32))
  where
    go : (b : Bool) → eqb (cond b 0 (suc (up_to 32 (drop (e + 1) s)))) 0 ≡ b
    go true = refl
    go false = ne_eqb (suc (up_to 32 (drop (e + 1) s))) 0 (λ q. omega arith)

-- where none does, a byte stands there, and no space
module _ (s : List ℕ) (e : ℕ) (le : e ≤ length s) (n : eqb (up_to 32 (drop e s)) 0 ≡ false) where
  pub not_over_lem : e < length s
  not_over_lem = lt_of_le-ne le (λ q. eqb-false (up_to 32 (drop e s)) 0 n (find_end 32 s e (omega arith)))

  not_space : get_or s e 0 ≡ 32 → ⊥
  not_space q = eqb-false (up_to 32 (drop e s)) 0 n (find_here 32 s e not_over_lem q)

module _ (s : List ℕ) (at e : ℕ) (le : at ≤ e) (run : all text (take (e - at) (drop at s)) ≡ true) where
  abbrev bytes_to : Word
  bytes_to = take (e - at) (drop at s)

  whole : bytes_to ++ drop e s ≡ drop at s
  whole =
      let z : at + (e - at) ≡ e = omega arith in
      ap (λ (t : List ℕ). bytes_to ++ t) (ap (λ (i : ℕ). drop i s) (sym z) ∙ sym (drop-drop (e - at) at s)) ∙ take-append-drop (e - at) (drop at s)

  -- it ends with them
  word_here : eqb (up_to 32 (drop e s)) 0 ≡ true → split 32 (drop at s) ≡ bytes_to ∷ after 32 (drop e s)
  word_here q =
      let z : up_to 32 (drop e s) ≡ 0 = eqb-true (up_to 32 (drop e s)) 0 q in
      ap (split 32) (sym whole)
      ∙ split_prefix 32 bytes_to (drop e s) [] (after 32 (drop e s)) (all-free text 32 no_space bytes_to run) (rw z at (split_cut 32 (drop e s)))
      ∙ ap (λ (w : Word). w ∷ after 32 (drop e s)) (append-nil bytes_to)

  -- it goes on with another byte
  word_on : e < length s → (get_or s e 0 ≡ 32 → ⊥) → (w : Word) (ws : List Word) → split 32 (drop (e + 1) s) ≡ w ∷ ws
      → split 32 (drop at s) ≡ (bytes_to ++ (get_or s e 0 ∷ w)) ∷ ws
  word_on h n w ws cut =
      ap (split 32) (sym whole)
      ∙ split_prefix 32 bytes_to (drop e s) (get_or s e 0 ∷ w) ws (all-free text 32 no_space bytes_to run)
      (ap (split 32) (drop_here s e h) ∙ rw (ne_eqb (get_or s e 0) 32 n, cut))

-- WHAT IT IS: with no oblique, a word; with an oblique behind text bytes, an item; with another byte behind them, nothing that fits

refuted : (b : Bool) → (b ≡ true → ⊥) → b ≡ false
refuted true n = absurd (n refl)
refuted false n = refl

odd_before : (c : ℕ) (k : Word) (b : ℕ) (v : Word) → free c k ≡ true → (b ≡ c → ⊥) → before c (k ++ (b ∷ v)) ≡ k ++ (b ∷ before c v)
odd_before c [] b v f n = rw (ne_eqb b c n)
odd_before c (x ∷ k) b v f n = go (odd_before c k b v) (eqb x c) f
  where
    go : (free c k ≡ true → (b ≡ c → ⊥) → before c (k ++ (b ∷ v)) ≡ k ++ (b ∷ before c v))
        → (t : Bool) → (not t && free c k) ≡ true → take (cond t 0 (suc (up_to c (k ++ (b ∷ v))))) (x ∷ (k ++ (b ∷ v))) ≡ x ∷ (k ++ (b ∷ before c v))
    go ih true q = absurd (false≢true q)
    go ih false q = ap (λ (t : Word). x ∷ t) (ih q n)

odd_fits : (r : Rule) (k : Word) (b : ℕ) (v : Word) → text b ≡ false → word_fits r (k ++ (b ∷ v)) ≡ false
odd_fits r k b v o =
    refuted (word_fits r (k ++ (b ∷ v)))
    (λ e. false≢true (sym (all_odd text k b v o) ∙ (both (not (null (k ++ (b ∷ v)))) (all text (k ++ (b ∷ v))) (word_text r (k ++ (b ∷ v)) e)).1))

-- of text bytes a free rule asks no more than that there is one
pub some_text : (w : Word) → all text w ≡ true → ltb 0 (length w) ≡ text_word w
some_text [] e = refl
some_text (b ∷ w) e = lt-ltb 0 (suc (length w)) (omega arith) ∙ sym e

module _ (ed : Edition18) where
  first_plain : (last : ℕ) (w : Word) (ws : List Word) → all text w ≡ true → fit_from ed last (w ∷ ws) ≡ false
  first_plain last w ws e = fit_step ed last w ws ∙ rw (holds-free 47 w (all-free text 47 no_oblique w e))

  pub more_plain : (k : ℕ) (w : Word) (ws : List Word) → all text w ≡ true → fit_more ed k (w ∷ ws) ≡ (more_fits (rule_in ed k) w && fit_more ed k ws)
  more_plain k w ws e = more_step ed k w ws ∙ rw (holds-free 47 w (all-free text 47 no_oblique w e))

  module _ (key : Word) (e : all text key ≡ true) (f : Word) (ws : List Word) where
    key_free : free 47 key ≡ true
    key_free = all-free text 47 no_oblique key e

    first_item : (last : ℕ) → fit_from ed last ((key ++ (47 ∷ f)) ∷ ws)
        ≡ (ltb last (rank_in ed key) && (word_fits (rule_in ed (rank_in ed key)) f && fit_more ed (rank_in ed key) ws))
    first_item last =
        fit_step ed last (key ++ (47 ∷ f)) ws
        ∙ rw (holds_seam 47 key f key_free, before_seam 47 key f key_free, behind_seam 47 key f key_free)

    more_item : (k : ℕ) → fit_more ed k ((key ++ (47 ∷ f)) ∷ ws) ≡ fit_from ed k ((key ++ (47 ∷ f)) ∷ ws)
    more_item k =
        let w = key ++ (47 ∷ f) in
        more_step ed k w ws
        ∙ ap (λ (t : Bool). cond t (fit_from ed k (w ∷ ws)) (more_fits (rule_in ed k) w && fit_more ed k ws)) (holds_seam 47 key f key_free)

  module _ (named : all (all sign) ed.keys ≡ true) where
    pub key_signs : (last : ℕ) (key : Word) → ltb last (rank_in ed key) ≡ true → all sign key ≡ true
    key_signs last key e =
        let h : last < rank_in ed key = ltb-true last (rank_in ed key) e in
        of_elem (all sign) ed.keys named key
        (sym (rank-elem 1 key ed.keys (omega arith)) ∙ ap not (ne_eqb (rank_in ed key) 0 (λ q. omega arith)))

    module _ (k : Word) (e : all text k ≡ true) (b : ℕ) (o : text b ≡ false) (n : b ≡ 47 → ⊥) (v : Word) (ws : List Word) where
      abbrev odd : Word
      odd = k ++ (b ∷ v)

      no_key : (last : ℕ) → ltb last (rank_in ed (before 47 odd)) ≡ false
      no_key last =
          refuted (ltb last (rank_in ed (before 47 odd)))
          (λ q. false≢true
          (sym (all_odd text k b (before 47 v) o)
          ∙ ap (all text) (sym (odd_before 47 k b v (all-free text 47 no_oblique k e) n))
          ∙ all_imp sign text sign_text (before 47 odd) (key_signs last (before 47 odd) q)))

      first_odd : (last : ℕ) → fit_from ed last (odd ∷ ws) ≡ false
      first_odd last = fit_step ed last odd ws ∙ and_false (holds 47 odd) _ (rw (no_key last))

      more_odd : (r : ℕ) → fit_more ed r (odd ∷ ws) ≡ false
      more_odd r = more_step ed r odd ws ∙ go (holds 47 odd)
        where
          go : (t : Bool) → cond t (fit_from ed r (odd ∷ ws)) (more_fits (rule_in ed r) odd && fit_more ed r ws) ≡ false
          go true = first_odd r
          go false = rw (and_false (not (single (rule_in ed r))) (word_fits (rule_in ed r) odd) (odd_fits (rule_in ed r) k b v o))

-- AT AN INDEX: the text bytes from `at` on end at e

-- an item, whose key has an oblique behind it at o
module _ (s : List ℕ) (at o : ℕ) (le : at ≤ o) (inside : o < length s) (oblique : get_or s o 0 ≡ 47) (run : all text (take (o - at) (drop at s)) ≡ true)
    (ed : Edition18) (last k : ℕ) (key : k ≡ rank_in ed (take (o - at) (drop at s))) where
  item_cut : (w : Word) (ws : List Word) → split 32 (drop (o + 1) s) ≡ w ∷ ws
      → fit_from ed last (split 32 (drop at s)) ≡ (ltb last k && (word_fits (rule_in ed k) w && fit_more ed k ws))
  item_cut w ws cut =
      ap (fit_from ed last) (word_on s at o le run inside (λ q. absurd (omega arith)) w ws cut)
      ∙ ap (λ (b : ℕ). fit_from ed last ((take (o - at) (drop at s) ++ (b ∷ w)) ∷ ws)) oblique
      ∙ first_item ed (take (o - at) (drop at s)) run w ws last
      ∙ ap (λ (n : ℕ). ltb last n && (word_fits (rule_in ed n) w && fit_more ed n ws)) (sym key)

  pub item_late : k ≤ last → fit_from ed last (split 32 (drop at s)) ≡ false
  item_late h = item_cut _ _ (split_cut 32 (drop (o + 1) s)) ∙ rw (le-ltb last k h)

  module _ (e : ℕ) (end : e ≡ o + 1 + leading text (drop (o + 1) s)) (most : e ≤ length s) where
    from_le : o + 1 ≤ e
    from_le = omega arith

    pub item_odd : eqb (up_to 32 (drop e s)) 0 ≡ false → fit_from ed last (split 32 (drop at s)) ≡ false
    item_odd n =
        let w = take (e - (o + 1)) (drop (o + 1) s) in
        let v = take (up_to 32 (drop (e + 1) s)) (drop (e + 1) s) in
        let f = odd_fits (rule_in ed k) w (get_or s e 0) v (run_stop text s (o + 1) e end (not_over_lem s e most n)) in
        item_cut (w ++ (get_or s e 0 ∷ v)) _
        (word_on s (o + 1) e from_le (run_all text s (o + 1) e end) (not_over_lem s e most n) (not_space s e most n) v _ (split_cut 32 (drop (e + 1) s)))
        ∙ and_false (ltb last k) _ (rw f)

    pub item_word : eqb (up_to 32 (drop e s)) 0 ≡ true
        → fit_from ed last (split 32 (drop at s))
        ≡ (ltb last k && (word_fits (rule_in ed k) (take (e - (o + 1)) (drop (o + 1) s)) && fit_more ed k (after 32 (drop e s))))
    item_word q = item_cut _ _ (word_here s (o + 1) e from_le (run_all text s (o + 1) e end) q)

module _ (s : List ℕ) (at e : ℕ) (end : e ≡ at + leading text (drop at s)) (most : e ≤ length s) (ed : Edition18) (k : ℕ) where
  at_le : at ≤ e
  at_le = omega arith

  run_text : all text (take (e - at) (drop at s)) ≡ true
  run_text = run_all text s at e end

  -- a word ends there
  pub from_word : eqb (up_to 32 (drop e s)) 0 ≡ true → fit_from ed k (split 32 (drop at s)) ≡ false
  from_word q = ap (fit_from ed k) (word_here s at e at_le run_text q) ∙ first_plain ed k (take (e - at) (drop at s)) (after 32 (drop e s)) run_text

  pub more_word : eqb (up_to 32 (drop e s)) 0 ≡ true
      → fit_more ed k (split 32 (drop at s)) ≡ (more_fits (rule_in ed k) (take (e - at) (drop at s)) && fit_more ed k (after 32 (drop e s)))
  more_word q = ap (fit_more ed k) (word_here s at e at_le run_text q) ∙ more_plain ed k (take (e - at) (drop at s)) (after 32 (drop e s)) run_text

  module _ (n : eqb (up_to 32 (drop e s)) 0 ≡ false) where
    abbrev rest_to : Word
    rest_to = take (up_to 32 (drop (e + 1) s)) (drop (e + 1) s)

    abbrev behind_it_lem : List Word
    behind_it_lem = after 32 (drop (up_to 32 (drop (e + 1) s)) (drop (e + 1) s))

    goes_on_lem : split 32 (drop at s) ≡ (take (e - at) (drop at s) ++ (get_or s e 0 ∷ rest_to)) ∷ behind_it_lem
    goes_on_lem = word_on s at e at_le run_text (not_over_lem s e most n) (not_space s e most n) rest_to behind_it_lem (split_cut 32 (drop (e + 1) s))

    -- an oblique stands there
    pub more_from : get_or s e 0 ≡ 47 → fit_more ed k (split 32 (drop at s)) ≡ fit_from ed k (split 32 (drop at s))
    more_from b =
        let w = goes_on_lem ∙ ap (λ (b : ℕ). (take (e - at) (drop at s) ++ (b ∷ rest_to)) ∷ behind_it_lem) b in
        ap (fit_more ed k) w ∙ more_item ed (take (e - at) (drop at s)) run_text rest_to behind_it_lem k ∙ sym (ap (fit_from ed k) w)

    -- another byte stands there
    module _ (named : all (all sign) ed.keys ≡ true) (b : get_or s e 0 ≡ 47 → ⊥) where
      no_text : text (get_or s e 0) ≡ false
      no_text = run_stop text s at e end (not_over_lem s e most n)

      pub from_other : fit_from ed k (split 32 (drop at s)) ≡ false
      from_other = ap (fit_from ed k) goes_on_lem ∙ first_odd ed named (take (e - at) (drop at s)) run_text (get_or s e 0) no_text b rest_to behind_it_lem k

      pub more_other : fit_more ed k (split 32 (drop at s)) ≡ false
      more_other = ap (fit_more ed k) goes_on_lem ∙ more_odd ed named (take (e - at) (drop at s)) run_text (get_or s e 0) no_text b rest_to behind_it_lem k
