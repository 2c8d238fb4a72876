-- What is written of a message's fields is the spelling of its canonical record. Assumes nothing.
use Prim.Native.Nat.{ℕ, ◌<◌}
use mathlib.Core.Path.{◌≡◌, refl, sym, ap, ap₂, ◌∙◌}
use mathlib.Core.Bool.{Bool, true, false, not, cond, false≢true}
use mathlib.Core.List.{List, [], ◌∷◌, ◌++◌, map, append_assoc}
use native.Mathlib.Omega.{arith}
use lib.Dec.{eqb}
use lib.ListN.{length}
use borrow.Author.Tests.{eqb-true, not-true}
use Rattle.text.specs.Words.{Word, join, all}
use Rattle.text.proofs.Tests.{both}
use Rattle.sent.specs.Sent.{message_of}
use Rattle.records.specs.Records.{contents_of, canonical_all, fit_all, records_of, LawsAll}
use Rattle.kinds.specs.declared.Form.{Form}
use Rattle.kinds.specs.Kinds.{number_of}
use Rattle.forms.specs.Field22.{which_of}
use Rattle.forms.specs.Forms.{field_of, is_entry, written_of}
use Rattle.forms.proofs.Forms.{laws_of, written_canonical}
use Rattle.message.specs.Reading.{spelled_from}
use Rattle.message.specs.Message.{ranks_in}

-- the laws of the fields of a list of forms
pub laws_all : (fs : List Form) → LawsAll (map field_of fs)
laws_all [] = tt
laws_all (f ∷ fs) = (laws_of f, laws_all fs)

-- what is written of each content
abbrev pub written_all : List Form → List Word → List Word
written_all [] cs = []
written_all (f ∷ fs) [] = []
written_all (f ∷ fs) (c ∷ cs) = written_of f c ∷ written_all fs cs

-- behind `(` or `-`, up to `)`
joined : (lead : ℕ) (f : Form) (fs : List Form) (c : Word) (cs : List Word) → length fs ≡ length cs
    → spelled_from lead (f ∷ fs) (c ∷ cs) ≡ lead ∷ (join 45 (written_all (f ∷ fs) (c ∷ cs)) ++ (41 ∷ []))
joined lead f [] c [] l = refl
joined lead f [] c (d ∷ cs) l = absurd (omega arith)
joined lead f (g ∷ fs) c [] l = absurd (omega arith)
joined lead f (g ∷ fs) c (d ∷ cs) l =
    ap (λ (w : List ℕ). lead ∷ (written_of f c ++ w)) (joined 45 g fs d cs (omega arith))
    ∙ ap (λ (w : List ℕ). lead ∷ w) (sym (append_assoc (written_of f c) (45 ∷ join 45 (written_all (g ∷ fs) (d ∷ cs))) (41 ∷ [])))

pub spelled_message : (fs : List Form) (cs : List Word) → 0 < length fs → length fs ≡ length cs → spelled_from 40 fs cs ≡ message_of (written_all fs cs)
spelled_message [] cs n l = absurd (omega arith)
spelled_message (f ∷ fs) [] n l = absurd (omega arith)
spelled_message (f ∷ fs) (c ∷ cs) n l = joined 40 f fs c cs (omega arith)

-- what is written are the contents of the canonical records
pub written_all_lem : (fs : List Form) (cs : List Word) → fit_all (map field_of fs) cs ≡ true
    → written_all fs cs ≡ contents_of (map field_of fs) (canonical_all (map field_of fs) (records_of (map field_of fs) cs))
written_all_lem [] [] e = refl
written_all_lem [] (c ∷ cs) e = absurd (false≢true e)
written_all_lem (f ∷ fs) [] e = absurd (false≢true e)
written_all_lem (f ∷ fs) (c ∷ cs) e =
    let h = both ((field_of f).fits c) (fit_all (map field_of fs) cs) e in
    ap₂ (λ (w : Word) (ws : List Word). w ∷ ws) (written_canonical f c h.0) (written_all_lem fs cs h.1)

-- WHAT WRITING KEEPS: all but field 19

plain_form : (f : Form) (c : Word) → eqb (number_of f) 19 ≡ false → written_of f c ≡ c
plain_form f c e = rw e

-- entries stay as they are
entry_stays : (f : Form) → is_entry f ≡ true → eqb (number_of f) 19 ≡ false
entry_stays f e = ap (λ (n : ℕ). eqb n 19) (eqb-true (number_of f) 22 e)

pub ranks_stay : (fs : List Form) (cs : List Word) → ranks_in fs (written_all fs cs) ≡ ranks_in fs cs
ranks_stay [] cs = refl
ranks_stay (f ∷ fs) [] = refl
ranks_stay (f ∷ fs) (c ∷ cs) = go (ranks_stay fs cs) (is_entry f) refl
  where
    go : ranks_in fs (written_all fs cs) ≡ ranks_in fs cs → (b : Bool) → is_entry f ≡ b
        → cond b (which_of (written_of f c) ∷ ranks_in fs (written_all fs cs)) (ranks_in fs (written_all fs cs)) ≡ cond b (which_of c ∷ ranks_in fs cs)
        (ranks_in fs cs)
    go ih true p = ap₂ (λ (r : ℕ) (rs : List ℕ). r ∷ rs) (ap which_of (plain_form f c (entry_stays f p))) ih
    go ih false p = ih

-- a list of forms without field 19 stays as it is
pub all_stay_lem : (fs : List Form) (cs : List Word) → length fs ≡ length cs → all (λ f. not (eqb (number_of f) 19)) fs ≡ true → written_all fs cs ≡ cs
all_stay_lem [] [] l e = refl
all_stay_lem [] (c ∷ cs) l e = absurd (omega arith)
all_stay_lem (f ∷ fs) [] l e = absurd (omega arith)
all_stay_lem (f ∷ fs) (c ∷ cs) l e =
    let h = both (not (eqb (number_of f) 19)) (all (λ f. not (eqb (number_of f) 19)) fs) e in
    ap₂ (λ (w : Word) (ws : List Word). w ∷ ws) (plain_form f c (not-true (eqb (number_of f) 19) h.0)) (all_stay_lem fs cs (omega arith) h.1)
