-- A message's fields are without fault exactly where each fits and no entry names a field twice. Assumes nothing.
use Prim.Native.Nat.{ℕ, suc, ◌+◌, ◌<◌}
use mathlib.Core.Path.{◌≡◌, refl, sym, ap, subst, ◌∙◌}
use mathlib.Core.Bool.{Bool, true, false, ◌&&◌, not, cond, false≢true}
use mathlib.Core.List.{List, [], ◌∷◌, map}
use native.Mathlib.Omega.{arith}
use lib.Dec.{eqb}
use lib.ListN.{length}
use borrow.Author.Tests.{eqb-true, eqb-false, eq-eqb, ne_eqb, not-true}
use Rattle.alphabet.specs.Alphabet.{one_of}
use Rattle.text.specs.Words.{Word, all}
use Rattle.text.proofs.Tests.{both, and_both}
use Rattle.records.specs.Records.{fit_all}
use Rattle.kinds.specs.declared.Form.{Form}
use Rattle.kinds.specs.declared.MessageType.{MessageType}
use Rattle.kinds.specs.Kinds.{forms_of}
use Rattle.forms.specs.Field22.{which_of}
use Rattle.forms.specs.Forms.{field_of, is_entry, rank_in, fault_of}
use Rattle.forms.proofs.Forms.{fault_fits, fits_fault, fault_once}
use Rattle.forms.proofs.Field22.{fitting}
use Rattle.forms.proofs.Faults.{fault_none}
use Rattle.message.specs.Answer.{Fault, fault_at}
use Rattle.message.specs.Reading.{fault_from, fault_in}
use Rattle.message.specs.Message.{ranks_in, none_twice}
use Rattle.std.specs.Prelude.{Ok, Err}

-- none of xs is one of earlier
abbrev pub fresh : List ℕ → List ℕ → Bool
fresh earlier xs = all (λ x. not (one_of x earlier)) xs

-- what is not one of a list is not its first, nor one of the others
other_two : (x r : ℕ) (earlier : List ℕ) → not (one_of x (r ∷ earlier)) ≡ true → (eqb x r ≡ false) × (not (one_of x earlier) ≡ true)
other_two x r earlier e = go (eqb x r) refl e
  where
    go : (b : Bool) → eqb x r ≡ b → not (cond b true (one_of x earlier)) ≡ true → (eqb x r ≡ false) × (not (one_of x earlier) ≡ true)
    go true p q = absurd (false≢true q)
    go false p q = (p, q)

eqb_sym : (x y : ℕ) → eqb x y ≡ false → eqb y x ≡ false
eqb_sym x y e = ne_eqb y x (λ p. eqb-false x y e (sym p))

fresh_fewer : (r : ℕ) (earlier xs : List ℕ) → fresh (r ∷ earlier) xs ≡ true → fresh earlier xs ≡ true
fresh_fewer r earlier [] e = refl
fresh_fewer r earlier (x ∷ xs) e =
    let h = both (not (one_of x (r ∷ earlier))) (fresh (r ∷ earlier) xs) e in
    and_both (not (one_of x earlier)) (fresh earlier xs) (other_two x r earlier h.0).1 (fresh_fewer r earlier xs h.1)

fresh_first : (r : ℕ) (earlier xs : List ℕ) → fresh (r ∷ earlier) xs ≡ true → not (one_of r xs) ≡ true
fresh_first r earlier [] e = refl
fresh_first r earlier (x ∷ xs) e =
    let h = both (not (one_of x (r ∷ earlier))) (fresh (r ∷ earlier) xs) e in
    rw (eqb_sym x r (other_two x r earlier h.0).0) (fresh_first r earlier xs h.1)

fresh_more : (r : ℕ) (earlier xs : List ℕ) → not (one_of r xs) ≡ true → fresh earlier xs ≡ true → fresh (r ∷ earlier) xs ≡ true
fresh_more r earlier [] n e = refl
fresh_more r earlier (x ∷ xs) n e =
    let h = both (not (one_of x earlier)) (fresh earlier xs) e in
    let m = other_two r x xs n in
    rw (eqb_sym r x m.0, h.0) (fresh_more r earlier xs m.1 h.1)

-- a content that fits: an entry names one of the eight, and any other form has no fault whatever came before
entry_some : (f : Form) (c : Word) → is_entry f ≡ true → (field_of f).fits c ≡ true → 0 < which_of c
entry_some f c p e = (fitting c (fault_none c (rw p at (fits_fault f c e)))).some

fits_plain : (again : Bool) (f : Form) (c : Word) → is_entry f ≡ false → (field_of f).fits c ≡ true → fault_of again f c ≡ 0
fits_plain again f c p e = rw (p, e)

-- entries that fit name one of the eight
ranks_some : (fs : List Form) (cs : List Word) → fit_all (map field_of fs) cs ≡ true → not (one_of 0 (ranks_in fs cs)) ≡ true
ranks_some [] cs e = refl
ranks_some (f ∷ fs) [] e = refl
ranks_some (f ∷ fs) (c ∷ cs) e = go (ranks_some fs cs h.1) (is_entry f) refl
  where
    h : ((field_of f).fits c ≡ true) × (fit_all (map field_of fs) cs ≡ true)
    h = both ((field_of f).fits c) (fit_all (map field_of fs) cs) e

    go : not (one_of 0 (ranks_in fs cs)) ≡ true → (b : Bool) → is_entry f ≡ b → not (one_of 0 (cond b (which_of c ∷ ranks_in fs cs) (ranks_in fs cs))) ≡ true
    go ih true p = rw (ne_eqb 0 (which_of c) (λ z. omega (arith, entry_some f c p h.0))) ih
    go ih false p = ih

pub record Faultless (earlier : List ℕ) (fs : List Form) (cs : List Word) : Type 0 where
  pub fit : fit_all (map field_of fs) cs ≡ true
  pub new : fresh earlier (ranks_in fs cs) ≡ true
  pub once : none_twice (ranks_in fs cs) ≡ true

pub clear_faultless : (earlier : List ℕ) (j : ℕ) (fs : List Form) (cs : List Word) → length fs ≡ length cs → fault_from earlier j fs cs ≡ Ok tt
    → Faultless earlier fs cs
clear_faultless earlier j [] [] l e = record { fit = refl; new = refl; once = refl }
clear_faultless earlier j [] (c ∷ cs) l e = absurd (omega arith)
clear_faultless earlier j (f ∷ fs) [] l e = absurd (omega arith)
clear_faultless earlier j (f ∷ fs) (c ∷ cs) l e =
    go (clear_faultless (rank_in f c ∷ earlier) (suc j) fs cs (omega arith)) (eqb (fault_of (one_of (rank_in f c) earlier) f c) 0) refl e
  where
    step : fault_of (one_of (rank_in f c) earlier) f c ≡ 0 → Faultless (rank_in f c ∷ earlier) fs cs → (b : Bool) → is_entry f ≡ b
        → Faultless earlier (f ∷ fs) (c ∷ cs)
    step z k true p =
        let w : rank_in f c ≡ which_of c = rw p in
        let new : fresh (which_of c ∷ earlier) (ranks_in fs cs) ≡ true = ap (λ (r : ℕ). fresh (r ∷ earlier) (ranks_in fs cs)) (sym w) ∙ k.new in
        let first : one_of (which_of c) earlier ≡ false = ap (λ (r : ℕ). one_of r earlier) (sym w) ∙ fault_once (one_of (rank_in f c) earlier) f c p z in
        record {
          fit = and_both ((field_of f).fits c) _ (fault_fits (one_of (rank_in f c) earlier) f c z) k.fit;
          new = rw (p, first) (fresh_fewer (which_of c) earlier (ranks_in fs cs) new);
          once = rw (p, fresh_first (which_of c) earlier (ranks_in fs cs) new) k.once;
        }
    step z k false p =
        record {
          fit = and_both ((field_of f).fits c) _ (fault_fits (one_of (rank_in f c) earlier) f c z) k.fit;
          new = rw p (fresh_fewer (rank_in f c) earlier (ranks_in fs cs) k.new);
          once = rw p k.once;
        }

    go : (fault_from (rank_in f c ∷ earlier) (suc j) fs cs ≡ Ok tt → Faultless (rank_in f c ∷ earlier) fs cs) → (b : Bool)
        → eqb (fault_of (one_of (rank_in f c) earlier) f c) 0 ≡ b
        → cond b (fault_from (rank_in f c ∷ earlier) (suc j) fs cs) (Err (fault_at (fault_of (one_of (rank_in f c) earlier) f c) j)) ≡ Ok tt
        → Faultless earlier (f ∷ fs) (c ∷ cs)
    go ih true p q = step (eqb-true (fault_of (one_of (rank_in f c) earlier) f c) 0 p) (ih q) (is_entry f) refl
    go ih false p q = cc

pub faultless_clear : (earlier : List ℕ) (j : ℕ) (fs : List Form) (cs : List Word) → Faultless earlier fs cs → fault_from earlier j fs cs ≡ Ok tt
faultless_clear earlier j [] cs k = refl
faultless_clear earlier j (f ∷ fs) [] k = refl
faultless_clear earlier j (f ∷ fs) (c ∷ cs) k = go (faultless_clear (rank_in f c ∷ earlier) (suc j) fs cs) (is_entry f) refl
  where
    h : ((field_of f).fits c ≡ true) × (fit_all (map field_of fs) cs ≡ true)
    h = both ((field_of f).fits c) (fit_all (map field_of fs) cs) k.fit

    go : (Faultless (rank_in f c ∷ earlier) fs cs → fault_from (rank_in f c ∷ earlier) (suc j) fs cs ≡ Ok tt) → (b : Bool) → is_entry f ≡ b
        → fault_from earlier j (f ∷ fs) (c ∷ cs) ≡ Ok tt
    go ih true p =
        let w : rank_in f c ≡ which_of c = rw p in
        let new : (not (one_of (which_of c) earlier) && fresh earlier (ranks_in fs cs)) ≡ true = rw p at k.new in
        let once : (not (one_of (which_of c) (ranks_in fs cs)) && none_twice (ranks_in fs cs)) ≡ true = rw p at k.once in
        let a = both (not (one_of (which_of c) earlier)) (fresh earlier (ranks_in fs cs)) new in
        let b = both (not (one_of (which_of c) (ranks_in fs cs))) (none_twice (ranks_in fs cs)) once in
        let again : one_of (rank_in f c) earlier ≡ false = ap (λ (r : ℕ). one_of r earlier) w ∙ not-true (one_of (which_of c) earlier) a.0 in
        let z : fault_of (one_of (rank_in f c) earlier) f c ≡ 0 = ap (λ (x : Bool). fault_of x f c) again ∙ fits_fault f c h.0 in
        let m : fresh (rank_in f c ∷ earlier) (ranks_in fs cs) ≡ true
        = ap (λ (r : ℕ). fresh (r ∷ earlier) (ranks_in fs cs)) w ∙ fresh_more (which_of c) earlier (ranks_in fs cs) b.0 a.1 in
        rw (eq-eqb (fault_of (one_of (rank_in f c) earlier) f c) 0 z) (ih (record { fit = h.1; new = m; once = b.1 }))
    go ih false p =
        let w : rank_in f c ≡ 0 = rw p in
        let new : fresh earlier (ranks_in fs cs) ≡ true = rw p at k.new in
        let once : none_twice (ranks_in fs cs) ≡ true = rw p at k.once in
        let z = fits_plain (one_of (rank_in f c) earlier) f c p h.0 in
        let m : fresh (rank_in f c ∷ earlier) (ranks_in fs cs) ≡ true
        = ap (λ (r : ℕ). fresh (r ∷ earlier) (ranks_in fs cs)) w ∙ fresh_more 0 earlier (ranks_in fs cs) (ranks_some fs cs h.1) new in
        rw (eq-eqb (fault_of (one_of (rank_in f c) earlier) f c) 0 z) (ih (record { fit = h.1; new = m; once = once }))

-- THE FIELD OF A FAULT is one of the fields

abbrev FaultBefore : ℕ → Fault → Type 0
FaultBefore n (Ok u) = Unit
FaultBefore n (Err r) = r.field < n

fault_before : (earlier : List ℕ) (i : ℕ) (fs : List Form) (cs : List Word) → FaultBefore (i + length cs) (fault_from earlier i fs cs)
fault_before earlier i [] cs = tt
fault_before earlier i (f ∷ fs) [] = tt
fault_before earlier i (f ∷ fs) (c ∷ cs) =
    go (eqb (fault_of (one_of (rank_in f c) earlier) f c) 0) (fault_before (rank_in f c ∷ earlier) (suc i) fs cs)
  where
    further : Fault
    further = fault_from (rank_in f c ∷ earlier) (suc i) fs cs

    go : (b : Bool) → FaultBefore (suc i + length cs) further
        → FaultBefore (i + suc (length cs)) (cond b further (Err (fault_at (fault_of (one_of (rank_in f c) earlier) f c) i)))
    go true h = let z : suc i + length cs ≡ i + suc (length cs) = omega arith in subst (λ (n : ℕ). FaultBefore n further) z h
    go false h = omega arith

pub fault_inside : (t : MessageType) (n : ℕ) (cs : List Word) (number j : ℕ) → fault_in t n cs ≡ Err (fault_at number j) → j < length cs
unfolding fault_in
fault_inside t n cs number j e =
    let inside : j < 0 + length cs = subst (FaultBefore (0 + length cs)) e (fault_before [] 0 (forms_of t n) cs) in
    omega arith
