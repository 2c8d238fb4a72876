-- The place of a form of words, with one space between them, where what a word may be depends on the words before it. Assumes nothing.
use Rattle.std.specs.Prelude.{ℕ, suc, ◌+◌, Bool, true, false, cond, List, [], ◌∷◌, length, Option, Some, None}
use Rattle.text.specs.Words.{Word, split}

-- A FORM OF WORDS: what is known behind some words (K), what is known behind one word more, if it may stand there, whether the content may end,
-- and whether a further word may follow
pub record Words : Type 1 where
  pub K : Type 0
  pub after : K → Word → Option K
  pub final : K → Bool
  pub goes : K → Bool

-- one by its parts
abbrev pub form : (K : Type 0) → (K → Word → Option K) → (final goes : K → Bool) → Words
form K after final goes = record { K = K; after = after; final = final; goes = goes }

abbrev pub ended : {A : Type 0} → Option A → Bool
ended None = false
ended (Some k) = true

-- the words from here on
abbrev pub words_fit : (W : Words) → List Word → Option W.K → Bool
words_fit W [] None = false
words_fit W [] (Some k) = W.final k
words_fit W (w ∷ ws) None = false
words_fit W (w ∷ ws) (Some k) = words_fit W ws (W.after k w)

-- a content, cut at its spaces
abbrev pub content_fits : (W : Words) → W.K → List ℕ → Bool
content_fits W k s = words_fit W (split 32 s) (Some k)

-- THE PLACE, from the place in each word: the first word that does not fit has it, or the space behind the last that fits
abbrev pub onward : (W : Words) → Option W.K → (here n : ℕ) → (W.K → ℕ) → ℕ
onward W None here n there = here
onward W (Some k) here n there = cond (W.goes k) (suc n + there k) n

abbrev pub words_place : (W : Words) → (W.K → Word → ℕ) → W.K → List Word → ℕ
words_place W pw k [] = 0
words_place W pw k (w ∷ []) = pw k w
words_place W pw k (w ∷ (v ∷ ws)) = onward W (W.after k w) (pw k w) (length w) (λ j. words_place W pw j (v ∷ ws))
