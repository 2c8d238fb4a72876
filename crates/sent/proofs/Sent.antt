-- A message whose reduction is the message of tidy contents, so those contents with white space as it may be sent: it has those contents, it
-- passes numbers 1 to 3 where it is short enough, and the three letters that begin its first content stand behind its `(`. Assumes nothing.
use Prim.Native.Nat.{ℕ, ◌+◌, ◌-◌, ◌≤◌, ◌<◌}
use mathlib.Core.Path.{◌≡◌, refl, sym, ap, ◌∙◌}
use mathlib.Core.Bool.{true, false}
use mathlib.Core.List.{List, [], ◌∷◌, ◌++◌, append_assoc}
use native.Mathlib.Omega.{arith}
use lib.ListN.{length, get_or, take, drop, length-append, take-append-drop}
use lib.Seq.{take_at, length-take-le}
use Rattle.alphabet.specs.Alphabet.{letter, in_alphabet}
use Rattle.text.specs.Words.{Word, split, join, all, free, tidy}
use Rattle.text.proofs.Tests.{all_imp, all_append}
use Rattle.text.proofs.Joined.{split-join}
use Rattle.space.specs.Reduced.{opens, reduced}
use Rattle.space.specs.Fields.{reduced_field, inner, Framed}
use Rattle.space.specs.Hyphens.{hyphens}
use Rattle.space.proofs.Bytes.{opening_solid, closing_solid}
use Rattle.space.proofs.Reduced.{never_longer}
use Rattle.space.proofs.Frame.{frame, frame_inner, inner_reduced}
use Rattle.space.proofs.Tidy.{tidy_stays}
use Rattle.outer.specs.Outer.{outer, no_paren, Passed}
use Rattle.outer.proofs.Good.{passed_good}
use Rattle.sent.specs.Sent.{message_of, contents}
use Rattle.sent.proofs.Bytes.{every_sent, contents_every, content_free, white_no_paren, tidy_no_paren, white_alphabet, tidy_alphabet, marks_alphabet}
use Rattle.sent.proofs.Ends.{Begins, opening_inside, first_sent, last_sent}
use Rattle.sent.proofs.Letters.{Front, letters_sent, joined_front}
use Rattle.sent.proofs.Passed.{framed_count}
use Rattle.std.specs.Prelude.{Ok}

-- tidy contents joined are cut into themselves
cut_again : (cs : List Word) → all tidy cs ≡ true → 0 < length cs → split 45 (join 45 cs) ≡ cs
cut_again [] t n = absurd (omega arith)
cut_again (c ∷ cs) t n = split-join 45 c cs (all_imp tidy (free 45) content_free (c ∷ cs) t)

-- ANY CONTENTS

module _ (m : List ℕ) (cs : List Word) (e : reduced m ≡ message_of cs) where
  -- the message of the contents is no longer than what was sent
  pub sent_longer : length (message_of cs) ≤ length m
  sent_longer = rw e at (never_longer m)

  sent_behind : Begins 40 (join 45 cs ++ (41 ∷ [])) m
  unfolding reduced
  sent_behind = first_sent 40 (join 45 cs ++ (41 ∷ [])) opening_solid opening_inside false m e

  sent_last : get_or m (length m - 1) 0 ≡ 41
  unfolding reduced
  sent_last = last_sent false m (40 ∷ join 45 cs) 41 closing_solid (omega (arith, sent_longer)) e

  pub sent_framed : Framed m
  sent_framed =
      let l : length (join 45 cs ++ (41 ∷ [])) ≡ length (join 45 cs) + 1 = length-append (join 45 cs) (41 ∷ []) in
      record { long = omega (arith, sent_longer); first = ap (λ (s : List ℕ). get_or s 0 0) sent_behind.1; last = sent_last }

  -- what stands between, reduced as a field, is the contents joined
  sent_text : reduced_field (inner m) ≡ join 45 cs
  sent_text = sym (inner_reduced m sent_framed) ∙ ap inner e ∙ frame_inner (join 45 cs)

-- TIDY CONTENTS, one at least

module _ (m : List ℕ) (cs : List Word) (t : all tidy cs ≡ true) (n : 0 < length cs) (e : reduced m ≡ message_of cs) where
  pub sent_contents_lem : contents m ≡ cs
  sent_contents_lem = ap (λ (r : List ℕ). split 45 (inner r)) e ∙ ap (split 45) (frame_inner (join 45 cs)) ∙ cut_again cs t n

  pub sent_count : hyphens m + 1 ≡ length cs
  sent_count = sym (framed_count m (sent_framed m cs e)) ∙ ap length sent_contents_lem

  between_parens : all no_paren (inner m) ≡ true
  between_parens = every_sent no_paren white_no_paren (inner m) (rw (sent_text m cs e) (contents_every no_paren refl tidy_no_paren refl cs t))

  between_alphabet : all in_alphabet (inner m) ≡ true
  between_alphabet =
      every_sent in_alphabet white_alphabet (inner m)
      (rw (sent_text m cs e) (contents_every in_alphabet marks_alphabet.0 tidy_alphabet marks_alphabet.1 cs t))

  whole_alphabet : all in_alphabet (40 ∷ (inner m ++ (41 ∷ []))) ≡ true
  whole_alphabet = rw marks_alphabet.2 (all_append in_alphabet (inner m) (41 ∷ []) between_alphabet (rw marks_alphabet.3))

  pub sent_passes : length m ≤ 1800 → Passed m
  sent_passes short =
      record {
        short = short;
        framed = sent_framed m cs e;
        between = between_parens;
        letters = ap (all in_alphabet) (frame m (sent_framed m cs e)) ∙ whole_alphabet;
      }

  pub sent_good : length m ≤ 1800 → outer m ≡ Ok tt
  sent_good short = passed_good m (sent_passes short)

  first_front : (k : ℕ) → Front (take k (get_or cs 0 [])) (join 45 cs ++ (41 ∷ []))
  first_front k = go cs n
    where
      go : (cs : List Word) → 0 < length cs → Front (take k (get_or cs 0 [])) (join 45 cs ++ (41 ∷ []))
      go [] n = absurd (omega arith)
      go (c ∷ cs) n =
          let r = joined_front c cs (41 ∷ []) in
          (drop k c ++ r.0, r.1 ∙ ap (λ (l : List ℕ). l ++ r.0) (sym (take-append-drop k c)) ∙ append_assoc (take k c) (drop k c) r.0)

  pub sent_three : 3 ≤ length (get_or cs 0 []) → all letter (take 3 (get_or cs 0 [])) ≡ true → take 3 (drop 1 m) ≡ take 3 (get_or cs 0 [])
  sent_three l h =
      let w = take 3 (get_or cs 0 []) in
      let b = sent_behind m cs e in
      let f = first_front 3 in
      let s = letters_sent (opens 40) w f.0 b.0 h (b.2 ∙ f.1) in
      let behind : drop 1 m ≡ w ++ s.0 = ap (drop 1) b.1 ∙ s.1 in
      rw behind (take_at w s.0 3 (length-take-le 3 (get_or cs 0 []) l))

-- THE SPELLING of tidy contents is such a message: all of the above holds of it with `spelling_stays cs t` for e
pub spelling_stays : (cs : List Word) → all tidy cs ≡ true → reduced (message_of cs) ≡ message_of cs
spelling_stays cs t = tidy_stays cs t
