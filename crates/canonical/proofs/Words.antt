-- Field 19 word by word: what is left to write at a word. Assumes nothing.
use Prim.Native.Nat.{ℕ, ◌+◌, ◌-◌, ◌<◌, ◌≤◌}
use mathlib.Core.Path.{◌≡◌, refl, sym, ap, ◌∙◌}
use mathlib.Core.Bool.{Bool, true, false, cond}
use mathlib.Core.List.{List, [], ◌∷◌, ◌++◌, append-nil}
use lib.Dec.{eqb}
use lib.ListN.{length, take, drop}
use Rattle.text.specs.Words.{Word, onto, split, join, after, up_to}
use Rattle.text.proofs.Index.{split_at, after_here, after_end}
use Rattle.supplement.specs.declared.Stage.{Stage}
use Rattle.supplement.specs.Walk.{step}
use Rattle.canonical.specs.Rewriting.{changed, rewrite, rewritten}

-- by its stage
pub read_as_lem : {stage k : Stage} (w : Word) → stage ≡ k → changed stage w ≡ changed k w
read_as_lem w e = ap (λ (x : Stage). changed x w) e

-- WHAT IS LEFT TO WRITE behind a word: nothing, or a space and the words that follow
abbrev pub spaced : Stage → List Word → List ℕ
spaced stage [] = []
spaced stage (w ∷ ws) = 32 ∷ join 32 (rewritten stage (w ∷ ws))

join_spaced : (v : Word) (stage : Stage) (ws : List Word) → join 32 (v ∷ rewritten stage ws) ≡ v ++ spaced stage ws
join_spaced v stage [] = sym (append-nil v)
join_spaced v stage (w ∷ ws) = refl

-- cutting gives one word at least
spaced_split : (stage : Stage) (t : List ℕ) → spaced stage (split 32 t) ≡ 32 ∷ join 32 (rewritten stage (split 32 t))
spaced_split stage [] = refl
spaced_split stage (b ∷ t) = go (eqb b 32)
  where
    begun : (ws : List Word) → spaced stage (onto b ws) ≡ 32 ∷ join 32 (rewritten stage (onto b ws))
    begun [] = refl
    begun (w ∷ ws) = refl

    go : (c : Bool)
        → spaced stage (cond c ([] ∷ split 32 t) (onto b (split 32 t))) ≡ 32 ∷ join 32 (rewritten stage (cond c ([] ∷ split 32 t) (onto b (split 32 t))))
    go true = refl
    go false = begun (split 32 t)

module _ (stage read : Stage) (s : List ℕ) (at e : ℕ) (end : e ≡ at + up_to 32 (drop at s)) (stepped : read ≡ step stage (take (e - at) (drop at s))) where
  -- the word at `at`
  abbrev word : Word
  word = rewrite read (take (e - at) (drop at s))

  pub text_at : join 32 (rewritten stage (split 32 (drop at s))) ≡ word ++ spaced read (after 32 (drop e s))
  text_at = rw (split_at 32 s at e end, ← stepped) (join_spaced word read (after 32 (drop e s)))

  pub text_last : length s ≤ e → join 32 (rewritten stage (split 32 (drop at s))) ≡ word ++ []
  text_last h = text_at ∙ ap (λ (ws : List Word). word ++ spaced read ws) (after_end 32 s e h)

  pub text_next : e < length s → join 32 (rewritten stage (split 32 (drop at s))) ≡ word ++ (32 ∷ join 32 (rewritten read (split 32 (drop (e + 1) s))))
  text_next h =
      text_at ∙ ap (λ (t : List ℕ). word ++ t) (ap (spaced read) (after_here 32 s e h) ∙ spaced_split read (drop (e + 1) s))
