-- Of an accepted CHG one entry names a field: which of them is looked up makes no difference. Assumes nothing.
use Prim.Native.Nat.{ℕ, zero, suc, ◌-◌}
use mathlib.Core.Path.{◌≡◌, refl, sym, ap, ◌∙◌}
use mathlib.Core.Bool.{Bool, true, false, not, cond, false≢true}
use mathlib.Core.List.Memᴰ
use mathlib.Core.List.{List, [], ◌∷◌, ◌++◌, Memᴰ}
use mathlib.Core.Option.{some}
use native.Mathlib.Omega.{arith}
use lib.Dec.{eqb}
use lib.ListN.{length, drop, length-drop}
use borrow.Author.Tests.{eq-eqb, not-true}
use Rattle.alphabet.specs.Alphabet.{one_of}
use Rattle.text.specs.Words.{Word, before, behind, all, same, rank}
use Rattle.text.proofs.Tests.{both, same-eq, same_self}
use Rattle.kinds.specs.declared.MessageType.TheVariants.{Chg}
use Rattle.kinds.specs.declared.Form.{Form}
use Rattle.kinds.specs.Kinds.{forms_of, brief_forms, entries}
use Rattle.forms.specs.Field22.{labels, which_of}
use Rattle.forms.specs.Forms.{is_entry}
use Rattle.message.specs.Message.{ranks_in, none_twice}
use Rattle.message.proofs.Valid.{Fitting, fitting_length}
use Rattle.history.specs.History.{entry_of}

ranks_none : (fs : List Form) → [] ≡ ranks_in fs []
ranks_none [] = refl
ranks_none (f ∷ fs) = refl

-- the ranks that a message's entries have are those of what stands behind its other fields
ranks_behind : (fs gs : List Form) (ds : List Word) → all (λ f. not (is_entry f)) fs ≡ true → ranks_in (fs ++ gs) ds ≡ ranks_in gs (drop (length fs) ds)
ranks_behind [] gs ds e = refl
ranks_behind (f ∷ fs) gs [] e = ranks_none gs
ranks_behind (f ∷ fs) gs (d ∷ ds) e =
    let h = both (not (is_entry f)) (all (λ g. not (is_entry g)) fs) e in
    ap (λ (b : Bool). cond b (which_of d ∷ ranks_in (fs ++ gs) ds) (ranks_in (fs ++ gs) ds)) (not-true (is_entry f) h.0) ∙ ranks_behind fs gs ds h.1

-- the ranks of entries alone
abbrev ranks : List Word → List ℕ
ranks [] = []
ranks (e ∷ es) = which_of e ∷ ranks es

one_of_ranks : (es : List Word) (e : Word) → Memᴰ e es → one_of (which_of e) (ranks es) ≡ true
one_of_ranks [] e i = absurd (Memᴰ.not-nil i)
one_of_ranks (v ∷ es) e (Memᴰ.head q) =
    ap (λ (b : Bool). cond b true (one_of (which_of e) (ranks es))) (eq-eqb (which_of e) (which_of v) (ap which_of q))
one_of_ranks (v ∷ es) e (Memᴰ.tail i) = go (eqb (which_of e) (which_of v)) (one_of_ranks es e i)
  where
    go : (b : Bool) → one_of (which_of e) (ranks es) ≡ true → cond b true (one_of (which_of e) (ranks es)) ≡ true
    go true h = refl
    go false h = h

entries_ranks : (n : ℕ) (es : List Word) → length es ≡ n → ranks_in (entries n) es ≡ ranks es
entries_ranks zero [] l = refl
entries_ranks zero (e ∷ es) l = absurd (omega arith)
entries_ranks (suc n) [] l = refl
entries_ranks (suc n) (e ∷ es) l = ap (λ (rs : List ℕ). which_of e ∷ rs) (entries_ranks n es (omega arith))

-- an entry that has a number is the one that is looked up by it
entry_only : (number : Word) (es : List Word) → none_twice (ranks es) ≡ true → (e : Word) → Memᴰ e es → before 47 e ≡ number
    → entry_of number es ≡ some (behind 47 e)
entry_only number [] o e i q = absurd (Memᴰ.not-nil i)
entry_only number (v ∷ es) o e (Memᴰ.head p) q =
    let s : same (before 47 v) number ≡ true
    = ap (λ (w : Word). same (before 47 w) number) (sym p) ∙ ap (λ (w : Word). same w number) q ∙ same_self number in
    ap (λ (b : Bool). cond b (some (behind 47 v)) (entry_of number es)) s ∙ ap (λ (w : Word). some (behind 47 w)) (sym p)
entry_only number (v ∷ es) o e (Memᴰ.tail i) q = go (entry_only number es h.1 e i q) (same (before 47 v) number) refl
  where
    h : (not (one_of (which_of v) (ranks es)) ≡ true) × (none_twice (ranks es) ≡ true)
    h = both (not (one_of (which_of v) (ranks es))) (none_twice (ranks es)) o

    go : entry_of number es ≡ some (behind 47 e) → (b : Bool) → same (before 47 v) number ≡ b
        → cond b (some (behind 47 v)) (entry_of number es) ≡ some (behind 47 e)
    go ih true p =
        let z : which_of v ≡ which_of e = ap (λ (w : Word). rank w labels) (same-eq (before 47 v) number p ∙ sym q) in
        let k : one_of (which_of v) (ranks es) ≡ true = ap (λ (r : ℕ). one_of r (ranks es)) z ∙ one_of_ranks es e i in
        absurd (false≢true (sym (not-true (one_of (which_of v) (ranks es)) h.0) ∙ k))
    go ih false p = ih

-- the forms of a CHG: five, and entries

five : length brief_forms ≡ 5
unfolding brief_forms
five = refl

none_entries : all (λ f. not (is_entry f)) brief_forms ≡ true
unfolding brief_forms
none_entries = refl

change_forms : (n : ℕ) → forms_of Chg n ≡ brief_forms ++ entries (n - 5)
unfolding forms_of
change_forms n = refl

-- whichever entry has a number, the history looks up that one
pub only_entry : (n : ℕ) (ds : List Word) → Fitting Chg n ds → (number e : Word) → Memᴰ e (drop 5 ds) → before 47 e ≡ number
    → entry_of number (drop 5 ds) ≡ some (behind 47 e)
only_entry n ds k number e i q = entry_only number (drop 5 ds) (ap none_twice (sym same_ranks) ∙ k.once) e i q
  where
    long : length (drop 5 ds) ≡ n - 5
    long = length-drop 5 ds ∙ ap (λ (j : ℕ). j - 5) (fitting_length Chg n ds k)

    same_ranks : ranks_in (forms_of Chg n) ds ≡ ranks (drop 5 ds)
    same_ranks =
        ap (λ (fs : List Form). ranks_in fs ds) (change_forms n)
        ∙ ranks_behind brief_forms (entries (n - 5)) ds none_entries
        ∙ ap (λ (j : ℕ). ranks_in (entries (n - 5)) (drop j ds)) five
        ∙ entries_ranks (n - 5) (drop 5 ds) long
