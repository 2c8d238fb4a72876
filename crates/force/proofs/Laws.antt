-- The amended plan is the plan with one entry's content put in after the other, in any order; and its text is cut into its fields again.
-- Assumes nothing.
use Prim.Native.Nat.{ℕ, zero, suc, ◌+◌, ◌-◌, ◌≤◌}
use mathlib.Core.Path.{◌≡◌, refl, sym, ap, ap₂, ◌∙◌}
use mathlib.Core.Bool.{Bool, true, false, cond, ◌&&◌, not, false≢true}
use mathlib.Core.List.{List, [], ◌∷◌, ◌++◌, map}
use mathlib.Core.Option.{Option, none, some}
use native.Mathlib.Omega.{arith}
use lib.Dec.{ltb, eqb}
use lib.ListN.{length, drop, get_or, set, length-set}
use lib.Seq.{get_or-set_same, get_or-set_other, set_comm, drop-cons}
use borrow.Author.Tests.{eq-eqb, ne_eqb, eqb-true, eqb-false, ltb-true, not-true}
use Rattle.alphabet.specs.Alphabet.{one_of}
use Rattle.text.specs.Words.{Word, onto, split, join, up_to, before, behind, holds, all, free}
use Rattle.text.proofs.Tests.{both, and_both, all_append, all_drop}
use Rattle.text.proofs.Joined.{split-join}
use Rattle.shape.specs.Field.{Field}
use Rattle.kinds.specs.declared.MessageType.TheVariants.{Chg}
use Rattle.kinds.specs.Kinds.{entries, brief_forms, forms_of, first_entry}
use Rattle.records.specs.Records.{fit_all}
use Rattle.forms.specs.Field22.{which_of, fits22}
use Rattle.forms.specs.Forms.{field_of}
use Rattle.forms.proofs.Labels.{rank_most}
use Rattle.message.specs.Message.{ranks_in, none_twice}
use Rattle.force.specs.InForce.{entries_of, lookup, named_by, field_at, bare, put_in, changed_by, fields_from, amended_by, replaced, replaced_by}
use Rattle.force.specs.InForce.{ranks_of, all_named, Reordered}
use Rattle.force.specs.InForce.Reordered.{empty, keep, swap, join as both-orders}

-- FIELDS by their places

fields_same : (f g : ℕ → Word) → ((i : ℕ) → f i ≡ g i) → (j n : ℕ) → fields_from f j n ≡ fields_from g j n
fields_same f g h j zero = refl
fields_same f g h j (suc n) = ap₂ (λ (w : Word) (ws : List Word). w ∷ ws) (h j) (fields_same f g h (suc j) n)

pub fields_are : (cs : List Word) (j n : ℕ) → j + n ≡ length cs → fields_from (λ i. get_or cs i []) j n ≡ drop j cs
fields_are cs j zero h = sym (none_left cs j (omega arith))
  where
    none_left : (l : List Word) (i : ℕ) → length l ≤ i → drop i l ≡ []
    none_left [] zero k = refl
    none_left [] (suc i) k = refl
    none_left (w ∷ l) zero k = absurd (omega arith)
    none_left (w ∷ l) (suc i) k = none_left l i (omega arith)
fields_are cs j (suc n) h =
    ap (λ (ws : List Word). get_or cs j [] ∷ ws) (fields_are cs (suc j) n (omega arith)) ∙ sym (drop-cons cs j [] (omega arith))

-- ONE ENTRY AFTER THE OTHER

-- a field that no entry names
lookup_none : (k : ℕ) (es : List Word) → one_of k (ranks_of es) ≡ false → lookup k es ≡ none
lookup_none k [] h = refl
lookup_none k (e ∷ es) h = go (lookup_none k es) (eqb k (which_of e)) refl h
  where
    go : (one_of k (ranks_of es) ≡ false → lookup k es ≡ none)
        → (b : Bool) → eqb k (which_of e) ≡ b → cond b true (one_of k (ranks_of es)) ≡ false → lookup k (e ∷ es) ≡ none
    go ih true q p = absurd (false≢true (sym p))
    go ih false q p = rw (ne_eqb (which_of e) k (λ z. eqb-false k (which_of e) q (sym z))) (ih p)

-- the field of rank 0, where each entry names one of the eight
lookup_first : (es : List Word) → all_named es ≡ true → lookup 0 es ≡ none
lookup_first [] h = refl
lookup_first (e ∷ es) h =
    let p = both (ltb 0 (which_of e)) (all_named es) h in
    rw (ne_eqb (which_of e) 0 (λ z. omega (arith, ltb-true 0 (which_of e) p.0))) (lookup_first es p.1)

pub named_lookup : (chg : List ℕ) (k : ℕ) → all_named (entries_of chg) ≡ true → named_by chg k ≡ lookup k (entries_of chg)
unfolding named_by
named_lookup chg k h = go (eqb k 0) refl
  where
    go : (b : Bool) → eqb k 0 ≡ b → cond b none (lookup k (entries_of chg)) ≡ lookup k (entries_of chg)
    go true q = sym (ap (λ (i : ℕ). lookup i (entries_of chg)) (eqb-true k 0 q) ∙ lookup_first (entries_of chg) h)
    go false q = refl

length_replaced : (cs es : List Word) → length (replaced_by cs es) ≡ length cs
length_replaced cs [] = refl
length_replaced cs (e ∷ es) = length_replaced (replaced cs e) es ∙ length-set cs (which_of e) (put_in (which_of e) (behind 47 e) (get_or cs (which_of e) []))

-- a field after one entry: what the entry makes of it where it names it, otherwise as it was
replaced_here : (cs : List Word) (e : Word) → length cs ≡ 9 → get_or (replaced cs e) (which_of e) [] ≡ put_in (which_of e) (behind 47 e)
    (get_or cs (which_of e) [])
replaced_here cs e l =
    get_or-set_same cs (which_of e) (put_in (which_of e) (behind 47 e) (get_or cs (which_of e) [])) [] (omega (arith, rank_most (before 47 e)))

replaced_other : (cs : List Word) (e : Word) (k : ℕ) → (k ≡ which_of e → ⊥) → get_or (replaced cs e) k [] ≡ get_or cs k []
replaced_other cs e k h = get_or-set_other cs (which_of e) k (put_in (which_of e) (behind 47 e) (get_or cs (which_of e) [])) [] h

-- a field after all entries: what the one that names it makes of it, or what it was
pub replaced_at : (cs es : List Word) (k : ℕ) → length cs ≡ 9 → none_twice (ranks_of es) ≡ true
    → get_or (replaced_by cs es) k [] ≡ changed_by k (lookup k es) (get_or cs k [])
replaced_at cs [] k l h = refl
replaced_at cs (e ∷ es) k l h =
    replaced_at (replaced cs e) es k (length_replaced cs (e ∷ []) ∙ l) p.1 ∙ go (eqb (which_of e) k) refl
  where
    p : (not (one_of (which_of e) (ranks_of es)) ≡ true) × (none_twice (ranks_of es) ≡ true)
    p = both (not (one_of (which_of e) (ranks_of es))) (none_twice (ranks_of es)) h

    go : (b : Bool) → eqb (which_of e) k ≡ b
        → changed_by k (lookup k es) (get_or (replaced cs e) k []) ≡ changed_by k (cond b (some (behind 47 e)) (lookup k es)) (get_or cs k [])
    go true q =
        let z = eqb-true (which_of e) k q in
        let gone : lookup k es ≡ none
        = ap (λ (i : ℕ). lookup i es) (sym z) ∙ lookup_none (which_of e) es (not-true (one_of (which_of e) (ranks_of es)) p.0) in
        ap (λ (o : Option Word). changed_by k o (get_or (replaced cs e) k [])) gone
        ∙ ap (λ (i : ℕ). get_or (replaced cs e) i []) (sym z)
        ∙ replaced_here cs e l
        ∙ ap (λ (i : ℕ). put_in i (behind 47 e) (get_or cs i [])) z
    go false q = ap (changed_by k (lookup k es)) (replaced_other cs e k (λ z. eqb-false (which_of e) k q (sym z)))

pub amended_replaced : (plan chg : List ℕ) → length (split 45 plan) ≡ 9 → all_named (entries_of chg) ≡ true → none_twice (ranks_of (entries_of chg)) ≡ true
    → amended_by plan chg ≡ replaced_by (split 45 plan) (entries_of chg)
amended_replaced plan chg l a n =
    fields_same (λ i. changed_by i (named_by chg i) (field_at plan i)) (λ i. get_or (replaced_by (split 45 plan) (entries_of chg)) i [])
    (λ i. ap (λ (o : Option Word). changed_by i o (field_at plan i)) (named_lookup chg i a) ∙ sym (replaced_at (split 45 plan) (entries_of chg) i l n)) 0 9
    ∙ fields_are (replaced_by (split 45 plan) (entries_of chg)) 0 9 (omega (arith, length_replaced (split 45 plan) (entries_of chg)))

-- IN ANY ORDER

flip : (a b : ℕ) → eqb a b ≡ eqb b a
flip a b = go (eqb a b) refl
  where
    go : (x : Bool) → eqb a b ≡ x → x ≡ eqb b a
    go true q = sym (eq-eqb b a (sym (eqb-true a b q)))
    go false q = sym (ne_eqb b a (λ z. eqb-false a b q (sym z)))

one_moved : (k : ℕ) {es fs : List Word} → Reordered es fs → one_of k (ranks_of es) ≡ one_of k (ranks_of fs)
one_moved k empty = refl
one_moved k (keep e r) = ap (cond (eqb k (which_of e)) true) (one_moved k r)
one_moved k (swap e f {es}) = go (eqb k (which_of e)) (eqb k (which_of f))
  where
    go : (a b : Bool) → cond a true (cond b true (one_of k (ranks_of es))) ≡ cond b true (cond a true (one_of k (ranks_of es)))
    go true true = refl
    go true false = refl
    go false true = refl
    go false false = refl
one_moved k (both-orders r s) = one_moved k r ∙ one_moved k s

pub twice_moved : {es fs : List Word} → Reordered es fs → none_twice (ranks_of es) ≡ none_twice (ranks_of fs)
twice_moved empty = refl
twice_moved (keep e r) = ap₂ (λ (a b : Bool). not a && b) (one_moved (which_of e) r) (twice_moved r)
twice_moved (swap e f {es}) =
    go (eqb (which_of e) (which_of f)) (one_of (which_of e) (ranks_of es)) (one_of (which_of f) (ranks_of es))
    ∙ ap (λ (x : Bool). not (cond x true (one_of (which_of f) (ranks_of es))) && (not (one_of (which_of e) (ranks_of es)) && none_twice (ranks_of es)))
    (flip (which_of e) (which_of f))
  where
    go : (x a b : Bool) → (not (cond x true a) && (not b && none_twice (ranks_of es))) ≡ (not (cond x true b) && (not a && none_twice (ranks_of es)))
    go true a b = refl
    go false true true = refl
    go false true false = refl
    go false false true = refl
    go false false false = refl
twice_moved (both-orders r s) = twice_moved r ∙ twice_moved s

-- two entries that name different fields
replaced_two : (cs : List Word) (e f : Word) → (which_of e ≡ which_of f → ⊥) → replaced (replaced cs e) f ≡ replaced (replaced cs f) e
replaced_two cs e f h =
    let a = put_in (which_of e) (behind 47 e) (get_or cs (which_of e) []) in
    let b = put_in (which_of f) (behind 47 f) (get_or cs (which_of f) []) in
    ap (λ (w : Word). set (replaced cs e) (which_of f) (put_in (which_of f) (behind 47 f) w)) (replaced_other cs e (which_of f) (λ z. h (sym z)))
    ∙ set_comm cs (which_of e) (which_of f) a b h
    ∙ ap (λ (w : Word). set (replaced cs f) (which_of e) (put_in (which_of e) (behind 47 e) w)) (sym (replaced_other cs f (which_of e) h))

pub replaced_moved : (cs : List Word) {es fs : List Word} → Reordered es fs → none_twice (ranks_of es) ≡ true → replaced_by cs es ≡ replaced_by cs fs
replaced_moved cs empty h = refl
replaced_moved cs (keep e {es} r) h =
    replaced_moved (replaced cs e) r (both (not (one_of (which_of e) (ranks_of es))) (none_twice (ranks_of es)) h).1
replaced_moved cs (swap e f {es}) h =
    let p = both (not (one_of (which_of e) (ranks_of (f ∷ es)))) (none_twice (ranks_of (f ∷ es))) h in
    ap (λ (l : List Word). replaced_by l es)
    (replaced_two cs e f (apart (eqb (which_of e) (which_of f)) refl (not-true (one_of (which_of e) (ranks_of (f ∷ es))) p.0)))
  where
    apart : (b : Bool) → eqb (which_of e) (which_of f) ≡ b → cond b true (one_of (which_of e) (ranks_of es)) ≡ false → which_of e ≡ which_of f → ⊥
    apart true q n = absurd (false≢true (sym n))
    apart false q n = eqb-false (which_of e) (which_of f) q
replaced_moved cs (both-orders r s) h = replaced_moved cs r h ∙ replaced_moved cs s (sym (twice_moved r) ∙ h)

-- THE ENTRIES OF A CHG, whose fields fit: each names one of the eight, and their ranks are those of the message

entry_named_lem : (e : Word) → fits22 e ≡ true → ltb 0 (which_of e) ≡ true
unfolding fits22
entry_named_lem e q = (both (ltb 0 (which_of e)) _ (both (holds 47 e) _ q).1).0

entries_named_lem : (n : ℕ) (es : List Word) → fit_all (map field_of (entries n)) es ≡ true → all_named es ≡ true
entries_named_lem zero [] h = refl
entries_named_lem zero (e ∷ es) h = absurd (false≢true h)
entries_named_lem (suc n) [] h = absurd (false≢true h)
entries_named_lem (suc n) (e ∷ es) h =
    let p = both (fits22 e) (fit_all (map field_of (entries n)) es) h in
    and_both (ltb 0 (which_of e)) (all_named es) (entry_named_lem e p.0) (entries_named_lem n es p.1)

fit_behind : (fs gs : List Field) (cs : List Word) → fit_all (fs ++ gs) cs ≡ true → fit_all gs (drop (length fs) cs) ≡ true
fit_behind [] gs cs h = h
fit_behind (f ∷ fs) gs [] h = absurd (false≢true h)
fit_behind (f ∷ fs) gs (c ∷ cs) h = fit_behind fs gs cs (both (f.fits c) (fit_all (fs ++ gs) cs) h).1

pub chg_named : (n : ℕ) (cs : List Word) → fit_all (map field_of (forms_of Chg n)) cs ≡ true → all_named (drop first_entry cs) ≡ true
unfolding forms_of brief_forms
chg_named n cs h = entries_named_lem (n - 5) (drop first_entry cs) (fit_behind (map field_of brief_forms) (map field_of (entries (n - 5))) cs h)

ranks_of_entries : (n : ℕ) (es : List Word) → n ≡ length es → ranks_in (entries n) es ≡ ranks_of es
ranks_of_entries zero [] h = refl
ranks_of_entries zero (e ∷ es) h = absurd (omega arith)
ranks_of_entries (suc n) [] h = absurd (omega arith)
ranks_of_entries (suc n) (e ∷ es) h = ap (λ (ks : List ℕ). which_of e ∷ ks) (ranks_of_entries n es (omega arith))

pub chg_ranks : (n : ℕ) (cs : List Word) → n ≡ length cs → ranks_in (forms_of Chg n) cs ≡ ranks_of (drop first_entry cs)
unfolding forms_of brief_forms
chg_ranks n [] h = refl
chg_ranks n (a ∷ []) h = refl
chg_ranks n (a ∷ (b ∷ [])) h = refl
chg_ranks n (a ∷ (b ∷ (c ∷ []))) h = refl
chg_ranks n (a ∷ (b ∷ (c ∷ (d ∷ [])))) h = refl
chg_ranks n (a ∷ (b ∷ (c ∷ (d ∷ (e ∷ es))))) h = ranks_of_entries (n - 5) es (omega arith)

-- CUT AGAIN: no content has a hyphen

pieces_free : (s : List ℕ) → all (free 45) (split 45 s) ≡ true
pieces_free [] = refl
pieces_free (b ∷ s) = go (pieces_free s) (eqb b 45) refl
  where
    begun : (ws : List Word) → eqb b 45 ≡ false → all (free 45) ws ≡ true → all (free 45) (onto b ws) ≡ true
    begun [] q h = rw q
    begun (w ∷ ws) q h = rw q h

    go : all (free 45) (split 45 s) ≡ true → (x : Bool) → eqb b 45 ≡ x → all (free 45) (cond x ([] ∷ split 45 s) (onto b (split 45 s))) ≡ true
    go ih true q = ih
    go ih false q = begun (split 45 s) q ih

get_d_free : (ws : List Word) (j : ℕ) → all (free 45) ws ≡ true → free 45 (get_or ws j []) ≡ true
get_d_free [] j h = refl
get_d_free (w ∷ ws) zero h = (both (free 45 w) (all (free 45) ws) h).0
get_d_free (w ∷ ws) (suc j) h = get_d_free ws j (both (free 45 w) (all (free 45) ws) h).1

pub field_free : (s : List ℕ) (j : ℕ) → free 45 (field_at s j) ≡ true
field_free s j = get_d_free (split 45 s) j (pieces_free s)

put_free : (k : ℕ) (c own : Word) → free 45 c ≡ true → free 45 own ≡ true → free 45 (put_in k c own) ≡ true
put_free k c own p q = go (bare k c)
  where
    go : (b : Bool) → free 45 (cond b (c ++ drop 4 own) c) ≡ true
    go true = all_append (λ b. not (eqb b 45)) c (drop 4 own) p (all_drop (λ b. not (eqb b 45)) 4 own q)
    go false = p

lookup_free : (k : ℕ) (es : List Word) (own : Word) → all (free 45) es ≡ true → free 45 own ≡ true → free 45 (changed_by k (lookup k es) own) ≡ true
lookup_free k [] own h f = f
lookup_free k (e ∷ es) own h f = go (lookup_free k es own p.1 f) (eqb (which_of e) k)
  where
    p : (free 45 e ≡ true) × (all (free 45) es ≡ true)
    p = both (free 45 e) (all (free 45) es) h

    go : free 45 (changed_by k (lookup k es) own) ≡ true → (b : Bool) → free 45 (changed_by k (cond b (some (behind 47 e)) (lookup k es)) own) ≡ true
    go ih true = put_free k (behind 47 e) own (all_drop (λ b. not (eqb b 45)) (suc (up_to 47 e)) e p.0) f
    go ih false = ih

pub changed_free : (plan chg : List ℕ) (k : ℕ) → free 45 (changed_by k (named_by chg k) (field_at plan k)) ≡ true
unfolding named_by
changed_free plan chg k = go (eqb k 0)
  where
    go : (b : Bool) → free 45 (changed_by k (cond b none (lookup k (entries_of chg))) (field_at plan k)) ≡ true
    go true = field_free plan k
    go false = lookup_free k (entries_of chg) (field_at plan k) (all_drop (free 45) first_entry (split 45 chg) (pieces_free chg)) (field_free plan k)

fields_free : (f : ℕ → Word) → ((i : ℕ) → free 45 (f i) ≡ true) → (j n : ℕ) → all (free 45) (fields_from f j n) ≡ true
fields_free f h j zero = refl
fields_free f h j (suc n) = and_both (free 45 (f j)) (all (free 45) (fields_from f (suc j) n)) (h j) (fields_free f h (suc j) n)

-- so nine fields that are joined are cut into themselves
pub nine_cut : (f : ℕ → Word) → ((i : ℕ) → free 45 (f i) ≡ true) → split 45 (join 45 (fields_from f 0 9)) ≡ fields_from f 0 9
nine_cut f h = split-join 45 (f 0) (fields_from f 1 8) (fields_free f h 0 9)
