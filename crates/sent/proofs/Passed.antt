-- A message that passes numbers 1 to 3: its reduction is the message of its contents, of which there is one more than hyphens, and the
-- three letters behind its `(` begin the first. Assumes nothing.
use Prim.Native.Nat.{ℕ, ◌+◌}
use mathlib.Core.Path.{◌≡◌, refl, sym, ap, ◌∙◌}
use mathlib.Core.Bool.{true}
use mathlib.Core.List.{List, [], ◌∷◌, ◌++◌}
use native.Mathlib.Numerals.{add-one}
use lib.Dec.{eqb}
use lib.ListN.{length, get_or, take, drop, take-append-drop}
use lib.Seq.{take_at}
use Rattle.alphabet.specs.Alphabet.{letter}
use Rattle.text.specs.Words.{Word, split, all}
use Rattle.text.proofs.Joined.{join-split}
use Rattle.space.specs.Reduced.{reduced}
use Rattle.space.specs.Fields.{reduced_field, inner, Framed}
use Rattle.space.specs.Hyphens.{one_more, hyphens}
use Rattle.space.proofs.Frame.{frame, frame_stays, inner_reduced}
use Rattle.space.proofs.Hyphens.{same_count, fields_count}
use Rattle.outer.specs.Outer.{Passed}
use Rattle.sent.specs.Sent.{message_of, contents}
use Rattle.sent.proofs.Letters.{letters_stay, first_content, before_closing}

-- HYPHENS: a message in its frame has those of what stands between

hyphens_closed : (x : List ℕ) → hyphens (x ++ (41 ∷ [])) ≡ hyphens x
unfolding hyphens
hyphens_closed [] = refl
hyphens_closed (b ∷ x) = ap (one_more (eqb b 45)) (hyphens_closed x)

hyphens_framed : (x : List ℕ) → hyphens (40 ∷ (x ++ (41 ∷ []))) ≡ hyphens x
unfolding hyphens
hyphens_framed x = hyphens_closed x

-- A MESSAGE IN ITS FRAME

module _ (m : List ℕ) (f : Framed m) where
  pub framed_message : reduced m ≡ message_of (contents m)
  framed_message = frame (reduced m) (frame_stays m f) ∙ ap (λ (l : List ℕ). 40 ∷ (l ++ (41 ∷ []))) (sym (join-split 45 (inner (reduced m))))

  hyphens_inner : hyphens (inner (reduced m)) ≡ hyphens m
  hyphens_inner = sym (hyphens_framed (inner (reduced m))) ∙ ap hyphens (sym (frame (reduced m) (frame_stays m f))) ∙ same_count m

  pub framed_count : length (contents m) ≡ hyphens m + 1
  framed_count = fields_count (inner (reduced m)) ∙ rw (hyphens_inner, add-one)

  -- as many letters as there are behind `(`
  pub framed_letters : (n : ℕ) → length (take n (drop 1 m)) ≡ n → all letter (take n (drop 1 m)) ≡ true
      → take n (get_or (contents m) 0 []) ≡ take n (drop 1 m)
  framed_letters n l e =
      let behind : drop 1 m ≡ inner m ++ (41 ∷ []) = ap (drop 1) (frame m f) in
      let w = take n (drop 1 m) in
      let front : take n (inner m) ≡ w = rw (sym behind) at (before_closing n (inner m) (rw behind at e)) in
      let whole : inner m ≡ w ++ drop n (inner m) = sym (rw front at (take-append-drop n (inner m))) in
      let s = letters_stay w (drop n (inner m)) e in
      let text : inner (reduced m) ≡ w ++ s.0 = inner_reduced m f ∙ ap reduced_field whole ∙ s.1 in
      let c = first_content w s.0 e in
      let first : get_or (contents m) 0 [] ≡ w ++ c.0 = ap (λ (x : List ℕ). get_or (split 45 x) 0 []) text ∙ ap (λ (ws : List Word). get_or ws 0 []) c.2 in
      rw first (take_at w c.0 n l)

-- A MESSAGE THAT PASSES

module _ (m : List ℕ) (p : Passed m) where
  pub passed_message : reduced m ≡ message_of (contents m)
  passed_message = framed_message m p.framed

  pub passed_count : length (contents m) ≡ hyphens m + 1
  passed_count = framed_count m p.framed

  pub passed_three : length (take 3 (drop 1 m)) ≡ 3 → all letter (take 3 (drop 1 m)) ≡ true → take 3 (get_or (contents m) 0 []) ≡ take 3 (drop 1 m)
  passed_three l e = framed_letters m p.framed 3 l e
