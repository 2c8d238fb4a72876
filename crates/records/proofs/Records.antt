-- The laws of each field give the same laws of a list of fields. Assumes nothing.
use Prim.Native.Nat.{ℕ, ◌+◌, ◌≤◌}
use mathlib.Core.Path.{◌≡◌, refl, sym, ap, ap₂, ◌∙◌}
use mathlib.Core.Bool.{true, false≢true}
use mathlib.Core.List.{List, [], ◌∷◌}
use native.Mathlib.Omega.{arith}
use lib.ListN.{length, length-append}
use Rattle.text.specs.Words.{Word, join, all, tidy}
use Rattle.text.proofs.Tests.{both, and_both}
use Rattle.shape.specs.Field.{Field}
use Rattle.shape.proofs.Fields.{read_some, fits_spelling, spelling_fits}
use Rattle.records.specs.Records.{Records, contents_of, valid_all, canonical_all, fit_all, records_of, LawsAll}

-- contents that fit are those of their records, which are valid
pub all_spelled : (fs : List Field) → LawsAll fs → (cs : List Word) → fit_all fs cs ≡ true
    → (contents_of fs (records_of fs cs) ≡ cs) × (valid_all fs (records_of fs cs) ≡ true)
all_spelled [] k [] e = (refl, refl)
all_spelled [] k (c ∷ cs) e = absurd (false≢true e)
all_spelled (f ∷ fs) k [] e = absurd (false≢true e)
all_spelled (f ∷ fs) k (c ∷ cs) e =
    let h = both (f.fits c) (fit_all fs cs) e in
    let one = fits_spelling f k.0 c h.0 in
    let more = all_spelled fs k.1 cs h.1 in
    (ap₂ (λ (w : Word) (ws : List Word). w ∷ ws) one.1 more.0, and_both (f.valid (f.record_of c)) _ one.0 more.1)

-- the contents of valid records fit, and give the records back
pub all_taken : (fs : List Field) → LawsAll fs → (rs : Records fs) → valid_all fs rs ≡ true
    → (fit_all fs (contents_of fs rs) ≡ true) × (records_of fs (contents_of fs rs) ≡ rs)
all_taken [] k rs v = (refl, refl)
all_taken (f ∷ fs) k rs v =
    let h = both (f.valid rs.0) (valid_all fs rs.1) v in
    let one = spelling_fits f k.0 rs.0 h.0 in
    let back = (read_some f (f.spell rs.0) rs.0 (k.0.complete rs.0 h.0)).1 in
    let more = all_taken fs k.1 rs.1 h.1 in
    (and_both (f.fits (f.spell rs.0)) _ one more.0, ap₂ (λ (r : f.Record) (q : Records fs). (r, q)) back more.1)

pub all-tidy : (fs : List Field) → LawsAll fs → (cs : List Word) → fit_all fs cs ≡ true → all tidy cs ≡ true
all-tidy [] k [] e = refl
all-tidy [] k (c ∷ cs) e = absurd (false≢true e)
all-tidy (f ∷ fs) k [] e = absurd (false≢true e)
all-tidy (f ∷ fs) k (c ∷ cs) e =
    let h = both (f.fits c) (fit_all fs cs) e in
    and_both (tidy c) (all tidy cs) (k.0.tidied c h.0) (all-tidy fs k.1 cs h.1)

-- canonical records are valid, are their own canonical records, and are spelled in no more bytes
pub all_kept : (fs : List Field) → LawsAll fs → (rs : Records fs) → valid_all fs rs ≡ true → valid_all fs (canonical_all fs rs) ≡ true
all_kept [] k rs v = refl
all_kept (f ∷ fs) k rs v =
    let h = both (f.valid rs.0) (valid_all fs rs.1) v in
    and_both (f.valid (f.canonical rs.0)) _ (k.0.kept rs.0 h.0) (all_kept fs k.1 rs.1 h.1)

pub all_settled : (fs : List Field) → LawsAll fs → (rs : Records fs) → canonical_all fs (canonical_all fs rs) ≡ canonical_all fs rs
all_settled [] k rs = refl
all_settled (f ∷ fs) k rs = ap₂ (λ (r : f.Record) (q : Records fs). (r, q)) (k.0.settled rs.0) (all_settled fs k.1 rs.1)

-- as many bytes, one more for each content
total : List Word → ℕ
total [] = 0
total (w ∷ ws) = length w + 1 + total ws

join_total : (c : ℕ) (w : Word) (ws : List Word) → length (join c (w ∷ ws)) + 1 ≡ total (w ∷ ws)
unfolding total
join_total c w [] = omega arith
join_total c w (v ∷ ws) = omega (arith, length-append w (c ∷ join c (v ∷ ws)), join_total c v ws)

total_shorter : (fs : List Field) → LawsAll fs → (rs : Records fs) → valid_all fs rs ≡ true
    → total (contents_of fs (canonical_all fs rs)) ≤ total (contents_of fs rs)
unfolding total
total_shorter [] k rs v = omega arith
total_shorter (f ∷ fs) k rs v =
    let h = both (f.valid rs.0) (valid_all fs rs.1) v in
    omega (arith, k.0.shorter rs.0 h.0, total_shorter fs k.1 rs.1 h.1)

pub all_shorter : (fs : List Field) → LawsAll fs → (rs : Records fs) → valid_all fs rs ≡ true
    → length (join 45 (contents_of fs (canonical_all fs rs))) ≤ length (join 45 (contents_of fs rs))
all_shorter [] k rs v = omega arith
all_shorter (f ∷ fs) k rs v =
    let a = join_total 45 (f.spell (f.canonical rs.0)) (contents_of fs (canonical_all fs rs.1)) in
    let b = join_total 45 (f.spell rs.0) (contents_of fs rs.1) in
    omega (arith, total_shorter (f ∷ fs) k rs v)

-- valid records with equal contents are equal
pub all_one : (fs : List Field) → LawsAll fs → (rs qs : Records fs) → valid_all fs rs ≡ true → valid_all fs qs ≡ true
    → contents_of fs rs ≡ contents_of fs qs → rs ≡ qs
all_one fs k rs qs v w e = sym (all_taken fs k rs v).1 ∙ ap (records_of fs) e ∙ (all_taken fs k qs w).1
