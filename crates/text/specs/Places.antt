-- Where a cursor stands after a step. Assumes nothing.
use Rattle.std.specs.Prelude.{◌≡◌, ℕ, ◌≤◌, ◌<◌, List, length, drop}
use Rattle.text.specs.Words.{behind}

-- `next` is the place behind the piece at `at` and the c that ends it, or the end
pub record Stepped (c : ℕ) (s : List ℕ) (at next : ℕ) : Type 0 where
  pub inside : next ≤ length s
  pub over : drop next s ≡ behind c (drop at s)
  pub further : at < length s → at < next
