-- The records of a list of fields, field by field: what is said of a message is said of these, whatever fields its type lists.
-- Assumes nothing.
use Rattle.std.specs.Prelude.{Bool, true, false, ◌&&◌, List, [], ◌∷◌}
use Rattle.text.specs.Words.{Word}
use Rattle.shape.specs.Field.{Field, Laws}

-- a record of each field
abbrev pub Records : List Field → Type 0
Records [] = Unit
Records (f ∷ fs) = f.Record × Records fs

-- the fields' contents, as they were sent
abbrev pub contents_of : (fs : List Field) → Records fs → List Word
contents_of [] rs = []
contents_of (f ∷ fs) rs = f.spell rs.0 ∷ contents_of fs rs.1

-- each record valid
abbrev pub valid_all : (fs : List Field) → Records fs → Bool
valid_all [] rs = true
valid_all (f ∷ fs) rs = f.valid rs.0 && valid_all fs rs.1

-- each record as it is kept and written
abbrev pub canonical_all : (fs : List Field) → Records fs → Records fs
canonical_all [] rs = tt
canonical_all (f ∷ fs) rs = (f.canonical rs.0, canonical_all fs rs.1)

-- as many contents as fields, and each fits
abbrev pub fit_all : List Field → List Word → Bool
fit_all [] [] = true
fit_all [] (c ∷ cs) = false
fit_all (f ∷ fs) [] = false
fit_all (f ∷ fs) (c ∷ cs) = f.fits c && fit_all fs cs

-- the records of contents that fit
abbrev pub records_of : (fs : List Field) → List Word → Records fs
records_of [] cs = tt
records_of (f ∷ fs) [] = (f.record_of [], records_of fs [])
records_of (f ∷ fs) (c ∷ cs) = (f.record_of c, records_of fs cs)

-- the laws of each field
abbrev pub LawsAll : List Field → Type 0
LawsAll [] = Unit
LawsAll (f ∷ fs) = Laws f × LawsAll fs
