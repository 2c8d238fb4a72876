-- What a field form is, and what is proved of each. The message's theorems are proved once, over whatever fields its type lists.
-- Assumes nothing.
use Rattle.std.specs.Prelude.{ℕ, ◌≤◌, ◌≡◌, Bool, true, cond, List, length}
use Rattle.std.proofs.Math.Option.{Option, none, some}
use Rattle.text.specs.Words.{tidy}

-- A FIELD FORM: its records, which of them are valid, the one spelling of each, which contents fit, and the record of a content that fits.
-- `canonical` is the record that is kept and written: the same record but in field 19, whose letters and counts are put in order.
pub record Field : Type 1 where
  pub Record : Type 0
  pub valid : Record → Bool
  pub spell : Record → List ℕ
  pub fits : List ℕ → Bool
  pub record_of : List ℕ → Record
  pub canonical : Record → Record

-- a content's record, where it fits
abbrev pub read : (f : Field) → List ℕ → Option f.Record
read f s = cond (f.fits s) (some (f.record_of s)) none

-- WHAT IS PROVED OF A FIELD FORM

pub record Laws (f : Field) : Type 0 where
  -- a content that is read as a record is that record's spelling: nothing is lost
  pub exact : (s : List ℕ) (r : f.Record) → read f s ≡ some r → f.spell r ≡ s
  -- what is read is valid
  pub sound : (s : List ℕ) (r : f.Record) → read f s ≡ some r → f.valid r ≡ true
  -- a valid record is what its spelling is read as
  pub complete : (r : f.Record) → f.valid r ≡ true → read f (f.spell r) ≡ some r
  -- a content that fits is words of text bytes and obliques, with one space between them
  pub tidied : (s : List ℕ) → f.fits s ≡ true → tidy s ≡ true
  -- the canonical record is valid, is its own canonical record, and its spelling is no longer
  pub kept : (r : f.Record) → f.valid r ≡ true → f.valid (f.canonical r) ≡ true
  pub settled : (r : f.Record) → f.canonical (f.canonical r) ≡ f.canonical r
  pub shorter : (r : f.Record) → f.valid r ≡ true → length (f.spell (f.canonical r)) ≤ length (f.spell r)
