-- The plan as an accepted message amends it: field by field what the history has, and its contents fit an FPL's forms. Assumes nothing.
use Prim.Native.Nat.{ℕ, zero, suc, ◌+◌, ◌-◌, ◌≤◌, ◌<◌}
use mathlib.Core.Path.{◌≡◌, refl, sym, ap, ap₂, subst, fun_ext, ◌∙◌}
use mathlib.Core.Bool.{Bool, true, false, cond, false≢true}
use mathlib.Core.List.{List, [], ◌∷◌, ◌++◌, map}
use mathlib.Core.Option
use mathlib.Core.Option.{Option, none, some}
use native.Mathlib.Omega.{arith}
use lib.Dec.{eqb}
use lib.ListN.{length, take, drop, get_or, take-append-drop}
use borrow.Author.Tests.{eqb-true, eqb-false, eq-eqb, ne_eqb}
use Rattle.alphabet.specs.Text.{bytes}
use Rattle.text.specs.Words.{Word, split, before, behind, all, null, same, rank}
use Rattle.text.proofs.Tests.{both, and_both, same-eq, same_self}
use Rattle.shape.specs.Field.{Field}
use Rattle.shape.specs.Time.{clock_hours, time_fits}
use Rattle.head.specs.Field3.{field3}
use Rattle.head.specs.Field7.{field7}
use Rattle.head.specs.Field8.{field8}
use Rattle.head.specs.Field9.{field9}
use Rattle.equipment.specs.Field10.{field10, present}
use Rattle.aerodromes.specs.Aerodromes.{four_letters, joined}
use Rattle.aerodromes.specs.Field13.{fits13, field13}
use Rattle.aerodromes.specs.Field16.{field16plan}
use Rattle.aerodromes.proofs.Aerodromes.{joined_four, joined_time, cut_aerodrome, cut_joined}
use Rattle.route.specs.Field15.{field15}
use Rattle.other.specs.Field18.{field18, fits18}
use Rattle.dates.specs.Dates.{date_in, with_date}
use Rattle.dates.proofs.Dates.{word_date}
use Rattle.dates.proofs.With.{with_fits}
use Rattle.records.specs.Records.{fit_all}
use Rattle.kinds.specs.declared.MessageType.{MessageType}
use Rattle.kinds.specs.declared.MessageType.TheVariants.{Fpl}
use Rattle.kinds.specs.declared.Role.{Role}
use Rattle.kinds.specs.declared.Role.TheVariants.{Files, Changes, Delays, Cancels, Departs, Arrives, Neither}
use Rattle.kinds.specs.declared.Form.{Form}
use Rattle.kinds.specs.declared.Form.TheVariants.{Field22}
use Rattle.kinds.specs.Kinds.{role_of, forms_of, plan_forms, plan13, plan18, brief13, brief18, first_entry}
use Rattle.kinds.proofs.Roles.{form_code, form_one}
use Rattle.forms.specs.Field22.{labels, label_of, named as named_fields, field_named, which_of, fits22}
use Rattle.forms.specs.Forms.{field_of}
use Rattle.forms.proofs.Field22.{fitting}
use Rattle.forms.proofs.Labels.{label_ranked, ranked_label}
use Rattle.message.specs.Reading.{unexplained_in}
use Rattle.message.specs.Message.{fields_of}
use Rattle.message.proofs.Valid.{Fitting, fitting_length}
use Rattle.force.specs.InForce.{lookup, named_by, put_in, changed_by, fields_from}
use Rattle.force.proofs.Laws.{fields_are}
use Rattle.amending.specs.Amended.{dated_by, amended}
use Rattle.history.specs.Eighteen.{date_told, other_items, eighteen}
use Rattle.history.specs.History.{Part, place_for, number_for, within, plan_in, nine, Told, entry_of, entered, named, carried, given_by, with_told}
use Rattle.history.specs.History.Part.{heading, identification, rules, aircraft, equipment, aerodrome, off_block, route, destination}
use Rattle.history.specs.History.Part.{elapsed_and_alternates, date, other}
use Rattle.history.proofs.Destination.{put_destination, put_behind, put_fits}
use Rattle.history.proofs.Eighteen.{date_told_lem, told_exact, told_date, told_others}

-- A LIST OF FIELDS BY THEIR PLACES

pub nine_places : (cs : List Word) → length cs ≡ 9 → cs ≡ fields_from (λ k. get_or cs k []) 0 9
nine_places cs e = sym (fields_are cs 0 9 (sym e))

pub fit_at : (d : Field) (fs : List Field) (cs : List Word) → fit_all fs cs ≡ true → (i : ℕ) → i < length fs → (get_or fs i d).fits (get_or cs i []) ≡ true
fit_at d [] cs e i l = absurd (omega arith)
fit_at d (f ∷ fs) [] e i l = absurd (false≢true e)
fit_at d (f ∷ fs) (c ∷ cs) e zero l = (both (f.fits c) (fit_all fs cs) e).0
fit_at d (f ∷ fs) (c ∷ cs) e (suc i) l = fit_at d fs cs (both (f.fits c) (fit_all fs cs) e).1 i (omega arith)

fit_from_lem : (d : Field) (g : ℕ → Word) (fs : List Field) (j : ℕ) → ((i : ℕ) → i < length fs → (get_or fs i d).fits (g (j + i)) ≡ true)
    → fit_all fs (fields_from g j (length fs)) ≡ true
fit_from_lem d g [] j h = refl
fit_from_lem d g (f ∷ fs) j h =
    let z : j + 0 ≡ j = omega arith in
    and_both (f.fits (g j)) _ (subst (λ (k : ℕ). f.fits (g k) ≡ true) z (h 0 (omega arith)))
    (fit_from_lem d g fs (suc j) (λ i l. shifted i (h (suc i) (omega arith))))
  where
    shifted : (i : ℕ) → (get_or fs i d).fits (g (j + suc i)) ≡ true → (get_or fs i d).fits (g (suc j + i)) ≡ true
    shifted i e = let z : j + suc i ≡ suc j + i = omega arith in subst (λ (k : ℕ). (get_or fs i d).fits (g k) ≡ true) z e

-- THE NINE FIELDS OF AN FPL

abbrev plan_fields : List Field
plan_fields = field3 ∷ field7 ∷ field8 ∷ field9 ∷ field10 present ∷ field13 ∷ field15 ∷ field16plan ∷ field18 ∷ []

plan_fields_lem : fields_of Fpl 9 ≡ plan_fields
unfolding forms_of plan_forms
plan_fields_lem = refl

pub plan_fit : (cs : List Word) → Fitting Fpl 9 cs → (i : ℕ) → i < 9 → (get_or plan_fields i field18).fits (get_or cs i []) ≡ true
plan_fit cs f i l = fit_at field18 plan_fields cs (ap (λ (fs : List Field). fit_all fs cs) (sym plan_fields_lem) ∙ f.fit) i l

-- nine fields of which each fits, field 3 as it was, nothing unexplained
nine_fit : (cs : List Word) → Fitting Fpl 9 cs → (g : ℕ → Word) → ((i : ℕ) → i < 9 → (get_or plan_fields i field18).fits (g i) ≡ true) → g 0 ≡ get_or cs 0 []
    → unexplained_in (fields_from g 0 9) ≡ 0 → Fitting Fpl 9 (fields_from g 0 9)
unfolding forms_of plan_forms
nine_fit cs f g h q u =
    record {
      least = omega arith;
      most = omega arith;
      fit = fit_from_lem field18 g plan_fields 0 (λ i l. let z : 0 + i ≡ i = omega arith in rw z (h i l));
      named = ap (take 3) q ∙ f.named;
      once = refl;
      explains = eq-eqb (unexplained_in (fields_from g 0 9)) 0 u;
    }

-- ENTRIES: a list of forms that are all entries

pub entries_fit : (fs : List Form) (es : List Word) → all (λ f. eqb (form_code f) (form_code Field22)) fs ≡ true → fit_all (map field_of fs) es ≡ true
    → all fits22 es ≡ true
entries_fit [] [] k e = refl
entries_fit [] (w ∷ es) k e = absurd (false≢true e)
entries_fit (f ∷ fs) [] k e = refl
entries_fit (f ∷ fs) (w ∷ es) k e =
    let j = both (eqb (form_code f) (form_code Field22)) (all (λ f. eqb (form_code f) (form_code Field22)) fs) k in
    let h = both ((field_of f).fits w) (fit_all (map field_of fs) es) e in
    and_both (fits22 w) (all fits22 es) (ap (λ (g : Form). (field_of g).fits w) (sym (form_one f Field22 j.0)) ∙ h.0) (entries_fit fs es j.1 h.1)

-- an entry's content fits the field that it names
pub lookup_fits : (k : ℕ) (es : List Word) → all fits22 es ≡ true → (w : Word) → lookup k es ≡ some w → (field_named k).fits w ≡ true
lookup_fits k [] a w e = let z : ◌≡◌ {A = ℕ} 0 1 = cc in absurd (omega arith)
lookup_fits k (v ∷ es) a w e = go (lookup_fits k es (both (fits22 v) (all fits22 es) a).1 w) (eqb (which_of v) k) refl e
  where
    go : (lookup k es ≡ some w → (field_named k).fits w ≡ true) → (b : Bool) → eqb (which_of v) k ≡ b
        → cond b (some (behind 47 v)) (lookup k es) ≡ some w → (field_named k).fits w ≡ true
    go ih true p q =
        let z : behind 47 v ≡ w = cc in
        let h = (fitting v (both (fits22 v) (all fits22 es) a).0).rest in
        subst (λ (c : Word). (field_named k).fits c ≡ true) z (subst (λ (n : ℕ). (field_named n).fits (behind 47 v) ≡ true) (eqb-true (which_of v) k p) h)
    go ih false p q = ih q

-- an entry names the field of rank k exactly where its number is that field's
ranked_same : (v : Word) (k : ℕ) → 1 ≤ k → k ≤ 8 → same (before 47 v) (label_of k) ≡ eqb (which_of v) k
ranked_same v k l g = go (eqb (which_of v) k) refl (same (before 47 v) (label_of k)) refl
  where
    go : (b : Bool) → eqb (which_of v) k ≡ b → (c : Bool) → same (before 47 v) (label_of k) ≡ c → c ≡ b
    go true p c q =
        let e = eqb-true (which_of v) k p in
        let w : label_of k ≡ before 47 v = ap label_of (sym e) ∙ (ranked_label (before 47 v) (omega (arith, e))).spelt in
        sym q ∙ ap (same (before 47 v)) w ∙ same_self (before 47 v)
    go false p true q =
        let e : which_of v ≡ k = ap (λ (w : Word). rank w labels) (same-eq (before 47 v) (label_of k) q) ∙ (label_ranked k l g).0 in
        absurd (eqb-false (which_of v) k p e)
    go false p false q = refl

-- what the history looks up by number is what is looked up by rank
pub entry_lookup : (k : ℕ) → 1 ≤ k → k ≤ 8 → (es : List Word) → entry_of (label_of k) es ≡ lookup k es
entry_lookup k l g [] = refl
entry_lookup k l g (v ∷ es) =
    ap (λ (b : Bool). cond b (some (behind 47 v)) (entry_of (label_of k) es)) (ranked_same v k l g)
    ∙ ap (cond (eqb (which_of v) k) (some (behind 47 v))) (entry_lookup k l g es)

-- so a part is as an entry's content says, if that is so of each content that fits
module _ (f : Part) (k : ℕ) (q : number_for f ≡ label_of k) (l : 1 ≤ k) (g : k ≤ 8) (c : Word)
    (alike : (w : Word) → (field_named k).fits w ≡ true → Option.get_or (entered f (some w)) (within f c) ≡ within f (put_in k w c)) where
  lookup_named : (es : List Word) → all fits22 es ≡ true → Option.get_or (named f es) (within f c) ≡ within f (changed_by k (lookup k es) c)
  lookup_named es a =
      ap (λ (o : Option Word). Option.get_or (entered f o) (within f c)) (ap (λ (number : Word). entry_of number es) q ∙ entry_lookup k l g es)
      ∙ go (lookup k es) refl
    where
      go : (o : Option Word) → lookup k es ≡ o → Option.get_or (entered f o) (within f c) ≡ within f (changed_by k o c)
      go none p = refl
      go (some w) p = alike w (lookup_fits k es a w p)

-- no entry names field 3
three_unranked : rank (bytes "3") labels ≡ 0
unfolding labels
three_unranked = refl

no_heading : (es : List Word) → all fits22 es ≡ true → entry_of (bytes "3") es ≡ none
no_heading [] a = refl
no_heading (v ∷ es) a = go (no_heading es (both (fits22 v) (all fits22 es) a).1) (same (before 47 v) (bytes "3")) refl
  where
    go : entry_of (bytes "3") es ≡ none → (b : Bool) → same (before 47 v) (bytes "3") ≡ b
        → cond b (some (behind 47 v)) (entry_of (bytes "3") es) ≡ none
    go ih true p =
        let z : which_of v ≡ 0 = ap (λ (w : Word). rank w labels) (same-eq (before 47 v) (bytes "3") p) ∙ three_unranked in
        absurd (omega (arith, z, (fitting v (both (fits22 v) (all fits22 es) a).0).some))
    go ih false p = ih

changed_part : (f : Part) (es : List Word) → all fits22 es ≡ true → (c : Word)
    → within f (changed_by (place_for f) (cond (eqb (place_for f) 0) none (lookup (place_for f) es)) c) ≡ Option.get_or (named f es) (within f c)
unfolding labels
changed_part heading es a c = sym (ap (λ (o : Option Word). Option.get_or (entered heading o) c) (no_heading es a))
changed_part identification es a c = sym (lookup_named identification 1 refl (omega arith) (omega arith) c (λ w h. refl) es a)
changed_part rules es a c = sym (lookup_named rules 2 refl (omega arith) (omega arith) c (λ w h. refl) es a)
changed_part aircraft es a c = sym (lookup_named aircraft 3 refl (omega arith) (omega arith) c (λ w h. refl) es a)
changed_part equipment es a c = sym (lookup_named equipment 4 refl (omega arith) (omega arith) c (λ w h. refl) es a)
changed_part aerodrome es a c = sym (lookup_named aerodrome 5 refl (omega arith) (omega arith) c (λ w h. refl) es a)
changed_part off_block es a c = sym (lookup_named off_block 5 refl (omega arith) (omega arith) c (λ w h. refl) es a)
changed_part route es a c = sym (lookup_named route 6 refl (omega arith) (omega arith) c (λ w h. refl) es a)
changed_part destination es a c = sym (lookup_named destination 7 refl (omega arith) (omega arith) c (λ w h. put_destination w c h) es a)
changed_part elapsed_and_alternates es a c =
    sym (lookup_named elapsed_and_alternates 7 refl (omega arith) (omega arith) c (λ w h. put_behind w c h) es a)
changed_part date es a c = sym (lookup_named date 8 refl (omega arith) (omega arith) c (λ w h. refl) es a)
changed_part other es a c = sym (lookup_named other 8 refl (omega arith) (omega arith) c (λ w h. refl) es a)

-- A TIME PUT IN

module _ (a b : Word) (p : fits13 a ≡ true) (q : fits13 b ≡ true) where
  retimed_aerodrome : take 4 (take 4 a ++ drop 4 b) ≡ take 4 a
  retimed_aerodrome = cut_aerodrome (take 4 a) (joined_four clock_hours a p) (drop 4 b)

  retimed_time : drop 4 (take 4 a ++ drop 4 b) ≡ drop 4 b
  retimed_time = cut_joined (take 4 a) (joined_four clock_hours a p) (drop 4 b)

  retimed_fits : fits13 (take 4 a ++ drop 4 b) ≡ true
  unfolding joined
  retimed_fits =
      and_both (four_letters (take 4 (take 4 a ++ drop 4 b))) (time_fits clock_hours (drop 4 (take 4 a ++ drop 4 b)))
      (ap four_letters retimed_aerodrome ∙ joined_four clock_hours a p)
      (ap (time_fits clock_hours) retimed_time ∙ joined_time clock_hours b q)

-- A DATE PUT IN

module _ (own t : Word) (p : fits18 own ≡ true) (q : fits18 t ≡ true) where
  redated_date : date_told (dated_by (date_in t) own) ≡ Option.get_or (carried (date_told t)) (date_told own)
  redated_date = go (null (date_in t)) refl ∙ ap (λ (d : Word). Option.get_or (carried d) (date_told own)) (sym (date_told_lem t))
    where
      go : (b : Bool) → null (date_in t) ≡ b
          → date_told (cond b own (with_date (date_in t) own)) ≡ Option.get_or (cond b none (some (date_in t))) (date_told own)
      go true n = refl
      go false n = told_date own p (date_in t) (word_date t q n)

  redated_others : other_items (dated_by (date_in t) own) ≡ other_items own
  redated_others = go (null (date_in t)) refl
    where
      go : (b : Bool) → null (date_in t) ≡ b → other_items (cond b own (with_date (date_in t) own)) ≡ other_items own
      go true n = refl
      go false n = told_others own p (date_in t) (word_date t q n)

  redated_fits : fits18 (dated_by (date_in t) own) ≡ true
  redated_fits = go (null (date_in t)) refl
    where
      go : (b : Bool) → null (date_in t) ≡ b → fits18 (cond b own (with_date (date_in t) own)) ≡ true
      go true n = p
      go false n = with_fits (date_in t) own p (word_date t q n)

-- AN ENTRY'S CONTENT PUT IN: what fits the form of the entry makes of the plan's field one that fits an FPL's

entry_fits_lem : (i : ℕ) → i < 8 → (w own : Word) → (get_or named_fields i field18).fits w ≡ true → (get_or plan_fields (suc i) field18).fits own ≡ true
    → (get_or plan_fields (suc i) field18).fits (put_in (suc i) w own) ≡ true
entry_fits_lem zero l w own p q = p
entry_fits_lem (suc zero) l w own p q = p
entry_fits_lem (suc (suc zero)) l w own p q = p
entry_fits_lem (suc (suc (suc zero))) l w own p q = p
entry_fits_lem (suc (suc (suc (suc zero)))) l w own p q = p
entry_fits_lem (suc (suc (suc (suc (suc zero))))) l w own p q = p
entry_fits_lem (suc (suc (suc (suc (suc (suc zero)))))) l w own p q = put_fits w own p q
entry_fits_lem (suc (suc (suc (suc (suc (suc (suc zero))))))) l w own p q = p
entry_fits_lem (suc (suc (suc (suc (suc (suc (suc (suc i)))))))) l w own p q = absurd (omega arith)

-- THE FIELDS AFTER A MESSAGE of contents ds, by their places

abbrev after : Role → List Word → List Word → ℕ → Word
after Changes cs ds k = changed_by k (cond (eqb k 0) none (lookup k (drop first_entry ds))) (get_or cs k [])
after Delays cs ds k =
    cond (eqb k 5) (take 4 (get_or cs k []) ++ drop 4 (get_or ds brief13 []))
    (cond (eqb k 8) (dated_by (date_in (get_or ds brief18 [])) (get_or cs k [])) (get_or cs k []))
after Cancels cs ds k = get_or cs k []
after Departs cs ds k = get_or cs k []
after Arrives cs ds k = get_or cs k []
after Files cs ds k = get_or cs k []
after Neither cs ds k = get_or cs k []

amended_after : (role : Role) (plan text : List ℕ) → amended role plan text ≡ fields_from (after role (split 45 plan) (split 45 text)) 0 9
unfolding named_by
amended_after Changes plan text = refl
amended_after Delays plan text = refl
amended_after Cancels plan text = refl
amended_after Departs plan text = refl
amended_after Arrives plan text = refl
amended_after Files plan text = refl
amended_after Neither plan text = refl

nine_parts : (g : ℕ → Word) → fits18 (g 8) ≡ true → nine (λ f. within f (g (place_for f))) ≡ fields_from g 0 9
nine_parts g e =
    ap₂ (λ (v w : Word). g 0 ∷ g 1 ∷ g 2 ∷ g 3 ∷ g 4 ∷ v ∷ g 6 ∷ w ∷ eighteen (date_told (g 8)) (other_items (g 8)) ∷ [])
    (take-append-drop 4 (g 5)) (take-append-drop 4 (g 7))
    ∙ ap (λ (w : Word). g 0 ∷ g 1 ∷ g 2 ∷ g 3 ∷ g 4 ∷ g 5 ∷ g 6 ∷ g 7 ∷ w ∷ []) (told_exact (g 8) e)

place_after : (g : ℕ → Word) (p : Part) → get_or (fields_from g 0 9) (place_for p) [] ≡ g (place_for p)
place_after g heading = refl
place_after g identification = refl
place_after g rules = refl
place_after g aircraft = refl
place_after g equipment = refl
place_after g aerodrome = refl
place_after g off_block = refl
place_after g route = refl
place_after g destination = refl
place_after g elapsed_and_alternates = refl
place_after g date = refl
place_after g other = refl

-- the contents of the plan of an FPL's contents
pub nine_plan : (cs : List Word) → Fitting Fpl 9 cs → nine (plan_in cs) ≡ cs
nine_plan cs f = nine_parts (λ k. get_or cs k []) (plan_fit cs f plan18 (omega arith)) ∙ sym (nine_places cs (fitting_length Fpl 9 cs f))

-- what is asked of the message's contents
pub record Sayings (role : Role) (ds : List Word) : Type 0 where
  pub entries_right : role ≡ Changes → all fits22 (drop first_entry ds) ≡ true
  pub time_right : role ≡ Delays → fits13 (get_or ds brief13 []) ≡ true
  pub other_right : role ≡ Delays → fits18 (get_or ds brief18 []) ≡ true

module _ (cs ds : List Word) (f : Fitting Fpl 9 cs) where
  thirteen : fits13 (get_or cs plan13 []) ≡ true
  thirteen = plan_fit cs f plan13 (omega arith)

  last : fits18 (get_or cs plan18 []) ≡ true
  last = plan_fit cs f plan18 (omega arith)

  part_after : (role : Role) → Sayings role ds → (p : Part) → within p (after role cs ds (place_for p)) ≡ Option.get_or (given_by role ds p) (plan_in cs p)
  part_after Changes s p = changed_part p (drop first_entry ds) (s.entries_right refl) (get_or cs (place_for p) [])
  part_after Delays s heading = refl
  part_after Delays s identification = refl
  part_after Delays s rules = refl
  part_after Delays s aircraft = refl
  part_after Delays s equipment = refl
  part_after Delays s aerodrome = retimed_aerodrome (get_or cs plan13 []) (get_or ds brief13 []) thirteen (s.time_right refl)
  part_after Delays s off_block = retimed_time (get_or cs plan13 []) (get_or ds brief13 []) thirteen (s.time_right refl)
  part_after Delays s route = refl
  part_after Delays s destination = refl
  part_after Delays s elapsed_and_alternates = refl
  part_after Delays s date = redated_date (get_or cs plan18 []) (get_or ds brief18 []) last (s.other_right refl)
  part_after Delays s other = redated_others (get_or cs plan18 []) (get_or ds brief18 []) last (s.other_right refl)
  part_after Cancels s p = refl
  part_after Departs s p = refl
  part_after Arrives s p = refl
  part_after Files s p = refl
  part_after Neither s p = refl

  changed_fit : all fits22 (drop first_entry ds) ≡ true → (i : ℕ) → i < 9 → (get_or plan_fields i field18).fits (after Changes cs ds i) ≡ true
  changed_fit a zero l = plan_fit cs f 0 l
  changed_fit a (suc i) l =
      ap (λ (b : Bool). (get_or plan_fields (suc i) field18).fits (changed_by (suc i) (cond b none (lookup (suc i) (drop first_entry ds)))
      (get_or cs (suc i) [])))
      (ne_eqb (suc i) 0 (λ z. omega arith))
      ∙ go (lookup (suc i) (drop first_entry ds)) refl
    where
      go : (o : Option Word) → lookup (suc i) (drop first_entry ds) ≡ o → (get_or plan_fields (suc i) field18).fits
          (changed_by (suc i) o (get_or cs (suc i) [])) ≡ true
      go none q = plan_fit cs f (suc i) l
      go (some w) q =
          let z : suc i - 1 ≡ i = omega arith in
          entry_fits_lem i (omega arith) w (get_or cs (suc i) [])
          (subst (λ (k : ℕ). (get_or named_fields k field18).fits w ≡ true) z (lookup_fits (suc i) (drop first_entry ds) a w q))
          (plan_fit cs f (suc i) l)

  delayed_fit : fits13 (get_or ds brief13 []) ≡ true → fits18 (get_or ds brief18 []) ≡ true
      → (i : ℕ) → i < 9 → (get_or plan_fields i field18).fits (after Delays cs ds i) ≡ true
  delayed_fit a o i l = go (eqb i 5) refl (eqb i 8) refl
    where
      time : ℕ → Word
      time k = take 4 (get_or cs k []) ++ drop 4 (get_or ds brief13 [])

      date_in_lem : ℕ → Word
      date_in_lem k = dated_by (date_in (get_or ds brief18 [])) (get_or cs k [])

      go : (b : Bool) → eqb i 5 ≡ b → (d : Bool) → eqb i 8 ≡ d → (get_or plan_fields i field18).fits
          (cond b (time i) (cond d (date_in_lem i) (get_or cs i []))) ≡ true
      go true q d r =
          subst (λ (k : ℕ). (get_or plan_fields k field18).fits (time k) ≡ true) (sym (eqb-true i 5 q))
          (retimed_fits (get_or cs plan13 []) (get_or ds brief13 []) thirteen a)
      go false q true r =
          subst (λ (k : ℕ). (get_or plan_fields k field18).fits (date_in_lem k) ≡ true) (sym (eqb-true i 8 r))
          (redated_fits (get_or cs plan18 []) (get_or ds brief18 []) last o)
      go false q false r = plan_fit cs f i l

  after_fit : (role : Role) → Sayings role ds → (i : ℕ) → i < 9 → (get_or plan_fields i field18).fits (after role cs ds i) ≡ true
  after_fit Changes s i l = changed_fit (s.entries_right refl) i l
  after_fit Delays s i l = delayed_fit (s.time_right refl) (s.other_right refl) i l
  after_fit Cancels s i l = plan_fit cs f i l
  after_fit Departs s i l = plan_fit cs f i l
  after_fit Arrives s i l = plan_fit cs f i l
  after_fit Files s i l = plan_fit cs f i l
  after_fit Neither s i l = plan_fit cs f i l

  after_first : (role : Role) → after role cs ds 0 ≡ get_or cs 0 []
  after_first Changes = refl
  after_first Delays = refl
  after_first Cancels = refl
  after_first Departs = refl
  after_first Arrives = refl
  after_first Files = refl
  after_first Neither = refl

  module _ (t : MessageType) (s : Sayings (role_of t) ds) where
    abbrev role_told : Role
    role_told = role_of t

    abbrev said_to_lem : Told
    said_to_lem = record { type = t; fields = ds }

    after_nine : fields_from (after role_told cs ds) 0 9 ≡ nine (with_told (plan_in cs) said_to_lem)
    after_nine =
        sym (nine_parts (after role_told cs ds) (after_fit role_told s plan18 (omega arith))) ∙ ap nine (fun_ext (λ p. part_after role_told s p))

    -- the contents of the amended plan fit
    pub amended_fits : unexplained_in (nine (with_told (plan_in cs) said_to_lem)) ≡ 0 → Fitting Fpl 9 (nine (with_told (plan_in cs) said_to_lem))
    amended_fits u =
        subst (Fitting Fpl 9) after_nine
        (nine_fit cs f (after role_told cs ds) (after_fit role_told s) (after_first role_told) (ap unexplained_in after_nine ∙ u))

    -- and they are what the update makes
    pub amended_nine : (plan text : List ℕ) → split 45 plan ≡ cs → split 45 text ≡ ds → amended role_told plan text ≡ nine (with_told (plan_in cs) said_to_lem)
    amended_nine plan text p q =
        amended_after role_told plan text
        ∙ ap₂ (λ (x y : List Word). fields_from (after role_told x y) 0 9) p q
        ∙ after_nine

    -- a part of the amended plan is cut from its contents
    pub amended_part : (p : Part) → plan_in (nine (with_told (plan_in cs) said_to_lem)) p ≡ with_told (plan_in cs) said_to_lem p
    amended_part p =
        ap (λ (ws : List Word). plan_in ws p) (sym after_nine) ∙ ap (within p) (place_after (after role_told cs ds) p) ∙ part_after role_told s p
