-- An entry of field 22, for whatever numbers and forms there are: contents that fit and valid records determine one another. Assumes nothing.
use Prim.Native.Nat.{ℕ, zero, suc, ◌+◌, ◌-◌, ◌<◌, ◌≤◌}
use mathlib.Core.Path.{◌≡◌, refl, sym, ap, ap₂, ◌∙◌}
use mathlib.Core.Bool.{Bool, true, ◌&&◌, not}
use mathlib.Core.List.{List, [], ◌∷◌, ◌++◌}
use native.Mathlib.Omega.{arith}
use lib.Dec.{leb, ltb, eqb}
use lib.ListN.{length, get_or}
use borrow.Author.Tests.{leb-true, ltb-true, le-leb, lt-ltb, eqb-true, ne_eqb, not-true}
use Rattle.alphabet.specs.Alphabet.{digit}
use Rattle.text.specs.Words.{Word, split, onto, holds, before, behind, all, null, free, same, rank, tidy_byte, tidy_word, tidy}
use Rattle.text.proofs.Tests.{both, and_both, all_imp, other, same-eq, of_elem, rank-elem}
use Rattle.text.proofs.Joined.{seam, holds_seam, before_seam, behind_seam}
use Rattle.text.proofs.Tidy.{no_space, digit_tidy, oblique_tidy}
use Rattle.shape.specs.Field.{Field, Laws}
use Rattle.shape.proofs.Fields.{plain, read_some, fits_spelling, spelling_fits}
use Rattle.other.specs.Field18.{field18}
use Rattle.other.proofs.Field18.{field18_laws}
use Rattle.records.specs.Records.{LawsAll}
use Rattle.forms.specs.Field22.{Entries, number_of, form_named, rank_named, Entry, spell_entry, valid_entry, fits_entry, record_entry, entry_form}

-- A TIDY CONTENT stays tidy behind bytes of a tidy word

onto-tidy : (b : ℕ) (ws : List Word) → tidy_byte b ≡ true → all tidy_word ws ≡ true → all tidy_word (onto b ws) ≡ true
onto-tidy b [] t e = rw t
onto-tidy b (w ∷ ws) t e =
    let h = both (tidy_word w) (all tidy_word ws) e in
    let k = both (not (null w)) (all tidy_byte w) h.0 in
    rw (t, k.1) h.1

tidy-cons : (b : ℕ) (s : List ℕ) → tidy_byte b ≡ true → tidy s ≡ true → tidy (b ∷ s) ≡ true
unfolding tidy
tidy-cons b s t e = rw (not-true (eqb b 32) (other tidy_byte 32 no_space b t)) (onto-tidy b (split 32 s) t e)

tidy-behind : (w : Word) (s : List ℕ) → all tidy_byte w ≡ true → tidy s ≡ true → tidy (w ++ s) ≡ true
tidy-behind [] s a e = e
tidy-behind (b ∷ w) s a e = let h = both (tidy_byte b) (all tidy_byte w) a in tidy-cons b (w ++ s) h.0 (tidy-behind w s h.1 e)

-- WHAT IS ASKED OF NUMBERS AND FORMS

module _ (es : Entries) where
  -- each of a list has its place as its rank, counted from k, and no oblique
  abbrev pub standing : ℕ → List Word → Bool
  standing k [] = true
  standing k (v ∷ vs) = (eqb (rank v es.numbers) k && free 47 v) && standing (suc k) vs

  -- one or two digits, and the number of its rank
  abbrev pub label : Word → Bool
  label w =
      same (number_of es (rank w es.numbers)) w
      && (leb (rank w es.numbers) (length es.numbers) && (leb 1 (length w) && (leb (length w) 2 && all digit w)))

-- numbers that are so, and forms that keep the laws of a field form
pub record Sound (es : Entries) : Type 0 where
  pub stand : standing es 1 es.numbers ≡ true
  pub numbers : all (label es) es.numbers ≡ true
  pub laws : LawsAll es.forms

stands : (es : Entries) (k : ℕ) (vs : List Word) → standing es k vs ≡ true
    → (i : ℕ) → i < length vs → (rank (get_or vs i []) es.numbers ≡ k + i) × (free 47 (get_or vs i []) ≡ true)
stands es k [] e i h = absurd (omega arith)
stands es k (v ∷ vs) e zero h =
    let r = rank v es.numbers in
    let p = both (eqb r k) (free 47 v) (both (eqb r k && free 47 v) (standing es (suc k) vs) e).0 in
    let q = eqb-true r k p.0 in
    (omega arith, p.1)
stands es k (v ∷ vs) e (suc i) h =
    let q = stands es (suc k) vs (both (eqb (rank v es.numbers) k && free 47 v) (standing es (suc k) vs) e).1 i (omega arith) in
    (omega (arith, q.0), q.1)

nth_laws : (fs : List Field) → LawsAll fs → (d : Field) → Laws d → (n : ℕ) → Laws (get_or fs n d)
nth_laws [] ks d k n = k
nth_laws (f ∷ fs) ks d k zero = ks.0
nth_laws (f ∷ fs) ks d k (suc n) = nth_laws fs ks.1 d k n

-- a word that has a rank is the number of that rank, one or two digits
pub record Label (es : Entries) (w : Word) : Type 0 where
  pub spelt : number_of es (rank w es.numbers) ≡ w
  pub most : rank w es.numbers ≤ length es.numbers
  pub some : leb 1 (length w) ≡ true
  pub short : leb (length w) 2 ≡ true
  pub digits : all digit w ≡ true

-- a content that fits
pub record Fitting (es : Entries) (s : List ℕ) : Type 0 where
  pub cut : holds 47 s ≡ true
  pub some : 0 < rank_named es s
  pub rest : (form_named es (rank_named es s)).fits (behind 47 s) ≡ true

pub entry_fitting : (es : Entries) (s : List ℕ) → fits_entry es s ≡ true → Fitting es s
entry_fitting es s e =
    let g = both (holds 47 s) _ e in
    let h = both (ltb 0 (rank_named es s)) _ g.1 in
    record { cut = g.0; some = ltb-true 0 (rank_named es s) h.0; rest = h.1 }

-- a valid record
record Valid (es : Entries) (r : Entry es) : Type 0 where
  ranked : rank (number_of es r.which) es.numbers ≡ r.which
  clear : free 47 (number_of es r.which) ≡ true
  least : 1 ≤ r.which
  good : (form_named es r.which).valid r.content ≡ true

module _ (es : Entries) (k : Sound es) where
  -- THE NUMBERS

  pub number_ranked : (n : ℕ) → 1 ≤ n → n ≤ length es.numbers → (rank (number_of es n) es.numbers ≡ n) × (free 47 (number_of es n) ≡ true)
  number_ranked n l g =
      let q = stands es 1 es.numbers k.stand (n - 1) (omega arith) in
      let z : 1 + (n - 1) ≡ n = omega arith in
      (q.0 ∙ z, q.1)

  pub ranked_number : (w : Word) → 0 < rank w es.numbers → Label es w
  ranked_number w h =
      let r = rank w es.numbers in
      let n : not (eqb r 0) ≡ true = ap not (ne_eqb r 0 (λ e. omega arith)) in
      let p = of_elem (label es) es.numbers k.numbers w (sym (rank-elem 1 w es.numbers (omega arith)) ∙ n) in
      let a = both (same (number_of es r) w) _ p in
      let b = both (leb r (length es.numbers)) _ a.1 in
      let c = both (leb 1 (length w)) _ b.1 in
      let d = both (leb (length w) 2) (all digit w) c.1 in
      record {
        spelt = same-eq (number_of es r) w a.0;
        most = leb-true r (length es.numbers) b.0;
        some = c.0;
        short = d.0;
        digits = d.1;
      }

  -- THE FORMS

  pub form_laws : (n : ℕ) → Laws (form_named es n)
  form_laws n = nth_laws es.forms k.laws field18 field18_laws (n - 1)

  -- A CONTENT THAT FITS

  module _ (s : List ℕ) (e : fits_entry es s ≡ true) where
    abbrev n : ℕ
    n = rank_named es s

    p : Fitting es s
    p = entry_fitting es s e

    spelled : spell_entry es (record_entry es s) ≡ s
    spelled =
        ap₂ (λ (v w : Word). v ++ (47 ∷ w)) (ranked_number (before 47 s) p.some).spelt
        (fits_spelling (form_named es n) (form_laws n) (behind 47 s) p.rest).1
        ∙ seam 47 s p.cut

    held : valid_entry es (record_entry es s) ≡ true
    held =
        and_both (leb 1 n) _ (le-leb 1 n p.some)
        (and_both (leb n (length es.numbers)) _ (le-leb n (length es.numbers) (ranked_number (before 47 s) p.some).most)
        (fits_spelling (form_named es n) (form_laws n) (behind 47 s) p.rest).0)

    tidied : tidy s ≡ true
    tidied =
        let a = all_imp digit tidy_byte digit_tidy (before 47 s) (ranked_number (before 47 s) p.some).digits in
        let b = (form_laws n).tidied (behind 47 s) p.rest in
        ap tidy (sym (seam 47 s p.cut)) ∙ tidy-behind (before 47 s) (47 ∷ behind 47 s) a (tidy-cons 47 (behind 47 s) oblique_tidy b)

  -- A VALID RECORD

  module _ (r : Entry es) (v : valid_entry es r ≡ true) where
    abbrev w : ℕ
    w = r.which

    abbrev f : Field
    f = form_named es w

    parts : Valid es r
    parts =
        let g = both (leb 1 w) _ v in
        let h = both (leb w (length es.numbers)) _ g.1 in
        let l = leb-true 1 w g.0 in
        let q = number_ranked w l (leb-true w (length es.numbers) h.0) in
        record { ranked = q.0; clear = q.1; least = l; good = h.1 }

    -- the number and the content of its spelling
    which_back : rank_named es (spell_entry es r) ≡ w
    which_back = ap (λ (x : Word). rank x es.numbers) (before_seam 47 (number_of es w) (f.spell r.content) parts.clear) ∙ parts.ranked

    content_back : behind 47 (spell_entry es r) ≡ f.spell r.content
    content_back = behind_seam 47 (number_of es w) (f.spell r.content) parts.clear

    taken : fits_entry es (spell_entry es r) ≡ true
    taken =
        and_both (holds 47 (spell_entry es r)) _ (holds_seam 47 (number_of es w) (f.spell r.content) parts.clear)
        (rw (which_back, content_back) (and_both (ltb 0 w) _ (lt-ltb 0 w parts.least) (spelling_fits f (form_laws w) r.content parts.good)))

    kept : f.record_of (f.spell r.content) ≡ r.content
    kept = (read_some f (f.spell r.content) r.content ((form_laws w).complete r.content parts.good)).1

    back : record_entry es (spell_entry es r) ≡ r
    back =
        ap₂ (λ (m : ℕ) (t : List ℕ). made m t) which_back content_back
        ∙ ap (λ (c : (form_named es r.which).Record). record { which = r.which; content = c }) kept
      where
        made : ℕ → List ℕ → Entry es
        made m t = record { which = m; content = (form_named es m).record_of t }

  pub entry_laws : Laws (entry_form es)
  entry_laws = plain (entry_form es) (λ r. refl) (record { spelled = spelled; held = held; taken = taken; back = back; tidied = tidied })
