-- Contents that fit a type, as many as it may have: they are the contents of one valid record, and a message with them is read through.
-- Assumes nothing.
use Prim.Native.Nat.{ℕ, ◌≤◌, ◌<◌}
use mathlib.Core.Path.{◌≡◌, refl, sym, ap, ap₂, subst, ◌∙◌}
use mathlib.Core.Bool.{Bool, true, false, ◌&&◌, ◌||◌, not, cond, false≢true}
use mathlib.Core.List.{List, [], ◌∷◌}
use native.Mathlib.Omega.{arith}
use lib.Dec.{leb, eqb}
use lib.ListN.{length, take, get_or, length-take, length-map}
use borrow.Author.Tests.{leb-true, le-leb, eqb-true, eq-eqb}
use Rattle.alphabet.specs.Alphabet.{letter}
use Rattle.text.specs.Words.{Word, all, same, tidy}
use Rattle.text.proofs.Tests.{both, and_both, same-eq, same_self}
use Rattle.shape.specs.Field.{Field}
use Rattle.space.specs.Reduced.{reduced}
use Rattle.sent.specs.Sent.{message_of, contents}
use Rattle.sent.proofs.Passed.{passed_count, passed_three}
use Rattle.sent.proofs.Sent.{sent_contents_lem, sent_count, sent_three, sent_good}
use Rattle.outer.specs.Outer.{Passed}
use Rattle.outer.proofs.Good.{good_passed}
use Rattle.kinds.specs.declared.MessageType.{MessageType}
use Rattle.kinds.specs.Kinds.{least_of, greatest_of, forms_of, name_of, types_read, type_named}
use Rattle.kinds.proofs.Fields.{least_some, forms_length}
use Rattle.kinds.proofs.Names.{name_read, read_name, each}
use Rattle.records.specs.Records.{Records, valid_all, fit_all, records_of}
use Rattle.records.proofs.Records.{all_spelled, all_taken, all-tidy}
use Rattle.forms.specs.Forms.{field_of}
use Rattle.message.specs.Reading.{count_of, fault_in, is_plan, unexplained_in, three}
use Rattle.message.specs.Message.{Message, fields_of, sent_contents, ranks_in, none_twice, names_type, explained, valid_message, message_from}
use Rattle.message.proofs.Faults.{Faultless, fresh, clear_faultless, faultless_clear}
use Rattle.message.proofs.Written.{laws_all}
use Rattle.message.proofs.Reached.{Reached}
use Rattle.std.specs.Prelude.{Ok}

-- NAMES: three letters

pub name_long : (t : MessageType) → length (name_of t) ≡ 3
unfolding types_read
name_long t = eqb-true (length (name_of t)) 3 (each (λ u. eqb (length (name_of u)) 3) refl t)

pub name_letters : (t : MessageType) → all letter (name_of t) ≡ true
unfolding types_read
name_letters t = each (λ u. all letter (name_of u)) refl t

-- EXPLAINED: an FPL leaves no field unexplained, and of other types nothing is asked

explained_none : (b : Bool) (u : ℕ) → (not b || eqb u 0) ≡ true → cond b u 0 ≡ 0
explained_none true u e = eqb-true u 0 e
explained_none false u e = refl

none_explained : (b : Bool) (u : ℕ) → cond b u 0 ≡ 0 → (not b || eqb u 0) ≡ true
none_explained true u e = eq-eqb u 0 e
none_explained false u e = refl

-- AS MANY contents as fields

fit_length : (fs : List Field) (cs : List Word) → fit_all fs cs ≡ true → length fs ≡ length cs
fit_length [] [] e = refl
fit_length [] (c ∷ cs) e = absurd (false≢true e)
fit_length (f ∷ fs) [] e = absurd (false≢true e)
fit_length (f ∷ fs) (c ∷ cs) e = let h = fit_length fs cs (both (f.fits c) (fit_all fs cs) e).1 in omega arith

none_earlier : (xs : List ℕ) → fresh [] xs ≡ true
none_earlier [] = refl
none_earlier (x ∷ xs) = none_earlier xs

-- CONTENTS THAT FIT A TYPE, n of them

pub record Fitting (t : MessageType) (n : ℕ) (cs : List Word) : Type 0 where
  pub least : least_of t ≤ n
  pub most : n ≤ greatest_of t
  pub fit : fit_all (fields_of t n) cs ≡ true
  pub named : take 3 (get_or cs 0 []) ≡ name_of t
  pub once : none_twice (ranks_in (forms_of t n) cs) ≡ true
  pub explains : explained t cs ≡ true

-- their record
abbrev pub filled : MessageType → ℕ → List Word → Message
filled t n cs = record { type = t; count = n; fields = records_of (fields_of t n) cs }

-- a record with valid fields whose contents fit its type is valid
pub fitting_valid : (M : Message) → valid_all (fields_of M.type M.count) M.fields ≡ true → Fitting M.type M.count (sent_contents M)
    → valid_message M ≡ true
unfolding valid_message
fitting_valid M v f =
    let t = M.type in
    let n = M.count in
    let cs = sent_contents M in
    let counted = and_both (leb (least_of t) n) (leb n (greatest_of t)) (le-leb (least_of t) n f.least) (le-leb n (greatest_of t) f.most) in
    let named = ap (λ (w : Word). same w (name_of t)) f.named ∙ same_self (name_of t) in
    let twice = and_both (none_twice (ranks_in (forms_of t n) cs)) (explained t cs) f.once f.explains in
    and_both _ _ counted (and_both _ _ v (and_both (names_type t cs) _ named twice))

module _ (t : MessageType) (n : ℕ) (cs : List Word) (f : Fitting t n cs) where
  pub fitting_forms : length (forms_of t n) ≡ n
  fitting_forms = forms_length t n f.least f.most

  pub fitting_length : length cs ≡ n
  fitting_length = sym (fit_length (fields_of t n) cs f.fit) ∙ length-map (forms_of t n) field_of ∙ fitting_forms

  pub fitting_some : 0 < length cs
  fitting_some = omega (arith, least_some t, fitting_length)

  pub fitting_tidy : all tidy cs ≡ true
  fitting_tidy = all-tidy (fields_of t n) (laws_all (forms_of t n)) cs f.fit

  -- the record has these contents
  pub filled_contents : sent_contents (filled t n cs) ≡ cs
  filled_contents = (all_spelled (fields_of t n) (laws_all (forms_of t n)) cs f.fit).0

  -- it is the one that is made of the contents alone
  pub filled_from : filled t n cs ≡ message_from t cs
  filled_from = ap (λ (k : ℕ). filled t k cs) (sym fitting_length)

  -- and it is valid
  pub filled_valid : valid_message (filled t n cs) ≡ true
  filled_valid =
      fitting_valid (filled t n cs) (all_spelled (fields_of t n) (laws_all (forms_of t n)) cs f.fit).1
      (subst (λ (ws : List Word). Fitting t n ws) (sym filled_contents) f)

  -- a message with these contents has passed numbers 1 to 10
  module _ (m : List ℕ) (short : length m ≤ 1800) (e : reduced m ≡ message_of cs) where
    pub fitting_contents : contents m ≡ cs
    fitting_contents = sent_contents_lem m cs fitting_tidy fitting_some e

    pub fitting_count : count_of m ≡ n
    fitting_count = sent_count m cs fitting_tidy fitting_some e ∙ fitting_length

    fitting_three : three m ≡ name_of t
    fitting_three =
        let w = get_or cs 0 [] in
        let long : 3 ≤ length w = omega (arith, length-take 3 w, ap length f.named, name_long t) in
        sent_three m cs fitting_tidy fitting_some e long (ap (all letter) f.named ∙ name_letters t) ∙ f.named

    fitting_clear : fault_in t n cs ≡ Ok tt
    unfolding fault_in
    fitting_clear = faultless_clear [] 0 (forms_of t n) cs (record { fit = f.fit; new = none_earlier (ranks_in (forms_of t n) cs); once = f.once })

    fitting_explained : cond (is_plan t) (unexplained_in cs) 0 ≡ 0
    fitting_explained = explained_none (is_plan t) (unexplained_in cs) f.explains

    pub fitting_reached : Reached t m
    fitting_reached =
        record {
          good = sent_good m cs fitting_tidy fitting_some e short;
          named = ap type_named fitting_three ∙ name_read t;
          least = rw fitting_count f.least;
          most = rw fitting_count f.most;
          clear = ap₂ (λ (k : ℕ) (ws : List Word). fault_in t k ws) fitting_count fitting_contents ∙ fitting_clear;
          explained = ap (λ (ws : List Word). cond (is_plan t) (unexplained_in ws) 0) fitting_contents ∙ fitting_explained;
        }

-- THE CONTENTS OF A VALID RECORD fit its type, and give the record back

module _ (M : Message) (v : valid_message M ≡ true) where
  pub valid_fields : valid_all (fields_of M.type M.count) M.fields ≡ true
  unfolding valid_message
  valid_fields =
      let a = both (leb (least_of M.type) M.count && leb M.count (greatest_of M.type)) _ v in
      (both (valid_all (fields_of M.type M.count) M.fields) _ a.1).0

  pub valid_fitting : Fitting M.type M.count (sent_contents M)
  unfolding valid_message
  valid_fitting =
      let t = M.type in
      let n = M.count in
      let cs = sent_contents M in
      let a = both (leb (least_of t) n && leb n (greatest_of t)) _ v in
      let b = both (leb (least_of t) n) (leb n (greatest_of t)) a.0 in
      let c = both (valid_all (fields_of t n) M.fields) _ a.1 in
      let d = both (names_type t cs) _ c.1 in
      let g = both (none_twice (ranks_in (forms_of t n) cs)) (explained t cs) d.1 in
      record {
        least = leb-true (least_of t) n b.0;
        most = leb-true n (greatest_of t) b.1;
        fit = (all_taken (fields_of t n) (laws_all (forms_of t n)) M.fields c.0).0;
        named = same-eq (take 3 (get_or cs 0 [])) (name_of t) d.0;
        once = g.0;
        explains = g.1;
      }

  pub valid_filled : filled M.type M.count (sent_contents M) ≡ M
  valid_filled =
      ap (λ (rs : Records (fields_of M.type M.count)). record { type = M.type; count = M.count; fields = rs })
      (all_taken (fields_of M.type M.count) (laws_all (forms_of M.type M.count)) M.fields valid_fields).1

  pub valid_from : message_from M.type (sent_contents M) ≡ M
  valid_from = sym (filled_from M.type M.count (sent_contents M) valid_fitting) ∙ valid_filled

-- a message that has passed numbers 1 to 10 has contents that fit
module _ (t : MessageType) (m : List ℕ) (r : Reached t m) where
  pub reached_passed : Passed m
  reached_passed = good_passed m r.good

  reached_lengths : length (forms_of t (count_of m)) ≡ length (contents m)
  reached_lengths = forms_length t (count_of m) r.least r.most ∙ sym (passed_count m reached_passed)

  reached_faultless : Faultless [] (forms_of t (count_of m)) (contents m)
  unfolding fault_in
  reached_faultless = clear_faultless [] 0 (forms_of t (count_of m)) (contents m) reached_lengths r.clear

  reached_three : three m ≡ name_of t
  reached_three = read_name (three m) t r.named

  pub reached_fitting : Fitting t (count_of m) (contents m)
  reached_fitting =
      let q = reached_three in
      record {
        least = r.least;
        most = r.most;
        fit = reached_faultless.fit;
        named = passed_three m reached_passed (ap length q ∙ name_long t) (ap (all letter) q ∙ name_letters t) ∙ q;
        once = reached_faultless.once;
        explains = none_explained (is_plan t) (unexplained_in (contents m)) r.explained;
      }
