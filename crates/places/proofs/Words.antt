-- The place of a form of words is right. Assumes nothing.
use Prim.Native.Nat.{ℕ, suc, ◌+◌, ◌-◌, ◌<◌, ◌≤◌}
use mathlib.Core.Path.{◌≡◌, refl, sym, ap, ◌∙◌, subst}
use mathlib.Core.Bool.{Bool, true, false, ◌||◌, not, cond, false≢true, true≢false}
use mathlib.Core.List.{List, [], ◌∷◌, ◌++◌, append_assoc, append-nil}
use Rattle.std.specs.Prelude.{Option, Some, None}
use native.Mathlib.Omega.{arith}
use lib.Dec.{ltb, eqb}
use lib.ListN.{length, take, drop, length-append}
use borrow.Author.Tests.{ltb-true, ltb-false, eqb-true, eqb-false}
use Rattle.text.specs.Words.{Word, all, null, free, onto, split, join}
use Rattle.text.proofs.Index.{null-split}
use Rattle.text.proofs.Tests.{both, all_append}
use Rattle.text.proofs.Joined.{join-split, split_one, split_first}
use Rattle.places.specs.Place.{IsPlace, Hopeful, Hopeless}
use Rattle.places.specs.Words.{Words, ended, words_fit, content_fits, onward, words_place}
use Rattle.places.proofs.Parts.{stops, cut, all_take, take_in, take_beyond, take_rest}
use Rattle.places.proofs.Cuts.{but}

-- words that hold no space, as those of a cut content do
free-split : (s : List ℕ) → all (free 32) (split 32 s) ≡ true
free-split [] = refl
free-split (b ∷ s) = go (eqb b 32) refl (split 32 s) (free-split s)
  where
    go : (x : Bool) → eqb b 32 ≡ x → (ws : List Word) → all (free 32) ws ≡ true
        → all (free 32) (cond x ([] ∷ ws) (onto b ws)) ≡ true
    go true e ws h = h
    go false e [] h = rw e
    go false e (w ∷ ws) h = let q = both (free 32 w) (all (free 32) ws) h in rw (e, q.0, q.1)

pub some_of_lem : {A : Type 0} (o : Option A) → ended o ≡ true → (k : A) × (o ≡ Some k)
some_of_lem None e = absurd (false≢true e)
some_of_lem (Some k) e = (k, refl)

pub none_of : {A : Type 0} (o : Option A) → ended o ≡ false → o ≡ None
none_of None e = refl
none_of (Some k) e = absurd (true≢false e)

pub none_fits : (W : Words) (ws : List Word) → words_fit W ws None ≡ false
none_fits W [] = refl
none_fits W (w ∷ ws) = refl

module _ (W : Words) (pw : W.K → Word → ℕ)
    (right : (k : W.K) (w : Word) → IsPlace (λ v. ended (W.after k v)) w (pw k w))
    (no_space : (k : W.K) (w : Word) → ended (W.after k w) ≡ true → free 32 w ≡ true)
    (alive : (k j : W.K) (w : Word) → W.after k w ≡ Some j → (W.final j || W.goes j) ≡ true)
    (more : (k : W.K) → W.goes k ≡ true → (w : Word) × (j : W.K) × (W.after k w ≡ Some j) × (W.final j ≡ true))
    (closed : (k : W.K) → W.goes k ≡ false → (w : Word) → W.after k w ≡ None) where
  -- one word, and a word with others behind it
  one : (k : W.K) (w : Word) → free 32 w ≡ true → content_fits W k w ≡ words_fit W [] (W.after k w)
  one k w f = rw (split_one 32 w f)

  first : (k : W.K) (w : Word) (y : List ℕ) → free 32 w ≡ true → content_fits W k (w ++ (32 ∷ y)) ≡ words_fit W (split 32 y) (W.after k w)
  first k w y f = rw (split_first 32 w y f)

  -- a word that fits is completed by nothing, or by a space and a word
  finish : (k j : W.K) (w : Word) → W.after k w ≡ Some j → (t : List ℕ) × (content_fits W k (w ++ t) ≡ true)
  finish k j w e = go (W.final j) refl (alive k j w e)
    where
      go : (x : Bool) → W.final j ≡ x → (x || W.goes j) ≡ true → (t : List ℕ) × (content_fits W k (w ++ t) ≡ true)
      go true q h = ([], ap (content_fits W k) (append-nil w) ∙ one k w (no_space k w (rw e)) ∙ rw (e, q))
      go false q h =
          let m = more j h in (
            32 ∷ m.0,
            first k w m.0 (no_space k w (rw e))
                ∙ ap (words_fit W (split 32 m.0)) e
                ∙ ap (λ (ws : List Word). words_fit W ws (Some j)) (split_one 32 m.0 (no_space j m.0 (ap ended m.2)))
                ∙ ap (words_fit W []) m.2
                ∙ m.3,
          )

  -- a prefix of a word goes on by what completes the word
  on_word : (k : W.K) (w : Word) (y : List ℕ) (i : ℕ) → i < length w → Hopeful (λ v. ended (W.after k v)) w i → Hopeful (content_fits W k) (w ++ y) i
  on_word k w y i l h =
      let s = some_of_lem (W.after k (take (suc i) w ++ h.0)) h.1 in
      let t = finish k s.0 (take (suc i) w ++ h.0) s.1 in (
        h.0 ++ t.0,
        ap (λ (v : List ℕ). content_fits W k (v ++ (h.0 ++ t.0))) (take_in i w y l)
            ∙ ap (content_fits W k) (sym (append_assoc (take (suc i) w) h.0 t.0))
            ∙ t.1,
      )

  -- a word that is not one, whatever stands behind it
  dead : (k : W.K) (w : Word) (r : List ℕ) → free 32 w ≡ true → stops (but 32) r ≡ true → W.after k w ≡ None → content_fits W k (w ++ r) ≡ false
  dead k w [] f st e = ap (content_fits W k) (append-nil w) ∙ one k w f ∙ rw e
  dead k w (b ∷ r) f st e =
      ap (λ (c : ℕ). content_fits W k (w ++ (c ∷ r))) (is_space (eqb b 32) refl st) ∙ first k w r f ∙ rw e (none_fits W (split 32 r))
    where
      is_space : (x : Bool) → eqb b 32 ≡ x → not (not x) ≡ true → b ≡ 32
      is_space true q h = eqb-true b 32 q
      is_space false q h = absurd (false≢true h)

  off_word : (k : W.K) (w : Word) (y : List ℕ) (i : ℕ) → free 32 w ≡ true → i < length w → Hopeless (λ v. ended (W.after k v)) w i
      → Hopeless (content_fits W k) (w ++ y) i
  off_word k w y i f l n t =
      let c = cut (but 32) t in
      ap (λ (v : List ℕ). content_fits W k (v ++ t)) (take_in i w y l)
      ∙ ap (λ (v : List ℕ). content_fits W k (take (suc i) w ++ v)) c.whole
      ∙ ap (content_fits W k) (sym (append_assoc (take (suc i) w) c.a c.r))
      ∙ dead k (take (suc i) w ++ c.a) c.r (all_append (but 32) (take (suc i) w) c.a (all_take (but 32) (suc i) w f) c.inside) c.stop
      (none_of (W.after k (take (suc i) w ++ c.a)) (n c.a))

  -- the last word
  last : (k : W.K) (w : Word) → free 32 w ≡ true → IsPlace (content_fits W k) (w ++ []) (pw k w)
  last k w f =
      let r = right k w in
      let m : length (w ++ []) ≡ length w + 0 = length-append w [] in
      let p = r.within in
      record {
        within = omega arith;
        before = λ i h. on_word k w [] i (omega arith) (r.before i h);
        there = λ h. off_word k w [] (pw k w) f (omega arith) (r.there (omega arith));
      }

  -- a word with others behind it
  module _ (k : W.K) (w : Word) (y : List ℕ) (f : free 32 w ≡ true) where
    long : length (w ++ (32 ∷ y)) ≡ length w + suc (length y)
    long = length-append w (32 ∷ y)

    at_space : (t : List ℕ) → take (suc (length w)) (w ++ (32 ∷ y)) ++ t ≡ w ++ (32 ∷ t)
    at_space t =
        let z : length w ≡ length w + 0 = omega arith in
        ap (λ (n : ℕ). take (suc n) (w ++ (32 ∷ y)) ++ t) z ∙ ap (λ (v : List ℕ). v ++ t) (take_beyond 0 w (32 ∷ y)) ∙ append_assoc w (32 ∷ []) t

    stuck : W.after k w ≡ None → IsPlace (content_fits W k) (w ++ (32 ∷ y)) (pw k w)
    stuck e =
        let r = right k w in
        let p = r.within in
        let m = long in
        record {
          within = omega arith;
          before = λ i h. on_word k w (32 ∷ y) i (omega arith) (r.before i h);
          there = λ h. go (ltb (pw k w) (length w)) refl;
        }
      where
        go : (x : Bool) → ltb (pw k w) (length w) ≡ x → Hopeless (content_fits W k) (w ++ (32 ∷ y)) (pw k w)
        go true q =
            let l : pw k w < length w = ltb-true (pw k w) (length w) q in
            off_word k w (32 ∷ y) (pw k w) f l ((right k w).there l)
        go false q =
            let l : length w ≤ pw k w = ltb-false (pw k w) (length w) q in
            let p = (right k w).within in
            let same : pw k w ≡ length w = omega arith in
            subst (Hopeless (content_fits W k) (w ++ (32 ∷ y))) (sym same)
            (λ t. ap (content_fits W k) (at_space t) ∙ first k w t f ∙ rw e (none_fits W (split 32 t)))

    module _ (j : W.K) (e : W.after k w ≡ Some j) where
      inside : (i : ℕ) → i < length w → Hopeful (content_fits W k) (w ++ (32 ∷ y)) i
      inside i l =
          let t = finish k j w e in (
            drop (suc i) w ++ t.0,
            ap (λ (v : List ℕ). content_fits W k (v ++ (drop (suc i) w ++ t.0))) (take_in i w (32 ∷ y) l)
                ∙ ap (content_fits W k) (sym (append_assoc (take (suc i) w) (drop (suc i) w) t.0) ∙ ap (λ (v : List ℕ). v ++ t.0) (take_rest i w))
                ∙ t.1,
          )

      ends : W.goes j ≡ false → IsPlace (content_fits W k) (w ++ (32 ∷ y)) (length w)
      ends o =
          let m = long in
          record {
            within =
                omega arith;
            before = inside;
            there = λ h t. ap (content_fits W k) (at_space t) ∙ first k w t f ∙ rw e (none_more (split 32 t) (some_word t));
          }
        where
          some_word : (t : List ℕ) → (split 32 t ≡ [] → ⊥)
          some_word t q = let z : ◌≡◌ {A = Bool} true false = sym (ap null q) ∙ null-split 32 t in true≢false z

          none_more : (ws : List Word) → (ws ≡ [] → ⊥) → words_fit W ws (Some j) ≡ false
          none_more [] n = absurd (n refl)
          none_more (v ∷ ws) n = rw (closed j o v) (none_fits W ws)

      goes : W.goes j ≡ true → (q : ℕ) → IsPlace (content_fits W j) y q → IsPlace (content_fits W k) (w ++ (32 ∷ y)) (suc (length w) + q)
      goes o q ih =
          let m = long in
          let p = ih.within in
          record { within = omega arith; before = λ i h. before_at i h (ltb i (length w)) refl; there = λ h t. beyond_off (omega arith) t }
        where
          cut_at : (i : ℕ) (t : List ℕ) → take (suc (length w + suc i)) (w ++ (32 ∷ y)) ++ t ≡ w ++ (32 ∷ (take (suc i) y ++ t))
          cut_at i t = ap (λ (v : List ℕ). v ++ t) (take_beyond (suc i) w (32 ∷ y)) ∙ append_assoc w (32 ∷ take (suc i) y) t

          beyond_off : q < length y → (t : List ℕ) → content_fits W k (take (suc (suc (length w) + q)) (w ++ (32 ∷ y)) ++ t) ≡ false
          beyond_off l t =
              let n : suc (length w) + q ≡ length w + suc q = omega arith in
              ap (λ (i : ℕ). content_fits W k (take (suc i) (w ++ (32 ∷ y)) ++ t)) n
              ∙ ap (content_fits W k) (cut_at q t) ∙ first k w (take (suc q) y ++ t) f ∙ rw e (ih.there l t)

          beyond : (i : ℕ) (n : ℕ) → n ≡ length w + suc i → i < q → Hopeful (content_fits W k) (w ++ (32 ∷ y)) n
          beyond i n z l =
              let h = ih.before i l in (
                h.0,
                ap (λ (x : ℕ). content_fits W k (take (suc x) (w ++ (32 ∷ y)) ++ h.0)) z
                    ∙ ap (content_fits W k) (cut_at i h.0) ∙ first k w (take (suc i) y ++ h.0) f ∙ rw e h.1,
              )

          at : (n : ℕ) → n ≡ length w → Hopeful (content_fits W k) (w ++ (32 ∷ y)) n
          at n z =
              let u = more j o in (
                u.0,
                ap (λ (x : ℕ). content_fits W k (take (suc x) (w ++ (32 ∷ y)) ++ u.0)) z
                    ∙ ap (content_fits W k) (at_space u.0) ∙ first k w u.0 f
                    ∙ ap (words_fit W (split 32 u.0)) e
                    ∙ ap (λ (ws : List Word). words_fit W ws (Some j)) (split_one 32 u.0 (no_space j u.0 (ap ended u.2)))
                    ∙ ap (words_fit W []) u.2
                    ∙ u.3,
              )

          before_at : (i : ℕ) → i < suc (length w) + q → (x : Bool) → ltb i (length w) ≡ x → Hopeful (content_fits W k) (w ++ (32 ∷ y)) i
          before_at i h true z = inside i (ltb-true i (length w) z)
          before_at i h false z = pick (eqb i (length w)) refl
            where
              pick : (x : Bool) → eqb i (length w) ≡ x → Hopeful (content_fits W k) (w ++ (32 ∷ y)) i
              pick true g = at i (eqb-true i (length w) g)
              pick false g =
                  let d : i ≡ length w → ⊥ = eqb-false i (length w) g in
                  let m : length w ≤ i = ltb-false i (length w) z in
                  beyond (i - suc (length w)) i (omega arith) (omega arith)

    step : (q : W.K → ℕ) → ((j : W.K) → IsPlace (content_fits W j) y (q j)) → (o : Option W.K) → W.after k w ≡ o
        → IsPlace (content_fits W k) (w ++ (32 ∷ y)) (onward W o (pw k w) (length w) q)
    step q ih None e = stuck e
    step q ih (Some j) e = go (W.goes j) refl
      where
        go : (x : Bool) → W.goes j ≡ x → IsPlace (content_fits W k) (w ++ (32 ∷ y)) (cond x (suc (length w) + q j) (length w))
        go true o = goes j e o (q j) (ih j)
        go false o = ends j e o

  joined : (w : Word) (ws : List Word) → all (free 32) (w ∷ ws) ≡ true → (k : W.K) → IsPlace (content_fits W k) (join 32 (w ∷ ws)) (words_place W pw k (w ∷ ws))
  joined w [] f k = subst (λ (s : List ℕ). IsPlace (content_fits W k) s (pw k w)) (append-nil w) (last k w (both (free 32 w) true f).0)
  joined w (v ∷ ws) f k =
      let g = both (free 32 w) (all (free 32) (v ∷ ws)) f in
      step k w (join 32 (v ∷ ws)) g.0 (λ j. words_place W pw j (v ∷ ws)) (joined v ws g.1) (W.after k w) refl

  -- THE PLACE OF A FORM OF WORDS
  pub words_place_lem : (k : W.K) (s : List ℕ) → IsPlace (content_fits W k) s (words_place W pw k (split 32 s))
  words_place_lem k s = go (split 32 s) refl (free-split s)
    where
      go : (ws : List Word) → split 32 s ≡ ws → all (free 32) ws ≡ true → IsPlace (content_fits W k) s (words_place W pw k ws)
      go [] e f = let z : ◌≡◌ {A = Bool} true false = sym (ap null e) ∙ null-split 32 s in absurd (true≢false z)
      go (w ∷ ws) e f =
          subst (λ (t : List ℕ). IsPlace (content_fits W k) t (words_place W pw k (w ∷ ws))) (ap (join 32) (sym e) ∙ join-split 32 s) (joined w ws f k)
