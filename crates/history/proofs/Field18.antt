-- FIELD 18 AFTER ANY RUN (document 02, request 5): `left18` is the theorem to read. It is as the last accepted CHG naming it or DLA carrying a date left
-- it, or as filed. Assumes nothing.
use Prim.Native.Nat.{ℕ}
use mathlib.Core.Path.{◌≡◌, refl, sym, ap, subst, ◌∙◌}
use mathlib.Core.Bool.{true}
use mathlib.Core.List.Memᴰ
use mathlib.Core.List.{List, [], ◌∷◌, Memᴰ}
use mathlib.Core.Logic.{⊎_elim}
use mathlib.Core.Option
use mathlib.Core.Option.{Option, none, some}
use native.Mathlib.Omega.{arith}
use lib.ListN.{length, drop, get_or}
use Rattle.alphabet.specs.Text.{bytes}
use Rattle.text.specs.Words.{Word, all}
use Rattle.other.specs.Field18.{fits18}
use Rattle.sent.specs.Sent.{contents}
use Rattle.kinds.specs.declared.MessageType.TheVariants.{Fpl}
use Rattle.kinds.specs.declared.Role.{Role}
use Rattle.kinds.specs.declared.Role.TheVariants.{Files, Changes, Delays, Cancels, Departs, Arrives, Neither}
use Rattle.kinds.specs.Kinds.{role_of, plan18, brief18, first_entry}
use Rattle.forms.specs.Field22.{labels, fits22}
use Rattle.message.specs.Reading.{count_of, answer_of}
use Rattle.strip.specs.Updating.{Updated, update_of, out_after}
use Rattle.state.specs.declared.Strip.{Strip}
use Rattle.history.specs.Eighteen.{date_told, other_items, eighteen}
use Rattle.history.specs.History.{nine, spelled, Told, entry_of, entered, carried, given_by, with_told, names_by, carries_by, Leaves18, Left18}
use Rattle.history.specs.History.Part.{date, other}
use Rattle.history.specs.History.Left18.{never_set, by_change, by_delay}
use Rattle.history.specs.Demand3.{updater, Standing, Offer, told, put_as, entered_as, answered, offered, offered_all, log_all}
use Rattle.history.specs.Demand3.{plan_on, amended_on, filed_as}
use Rattle.history.proofs.Strip.{plain_spelling, strip_contents, fpl_fits, proper_stripped}
use Rattle.history.proofs.Eighteen.{told_exact}
use Rattle.history.proofs.Amended.{plan_fit, entry_lookup, lookup_fits, Sayings}
use Rattle.history.proofs.Causes.{sayings, Took, Verdict, verdict}
use Rattle.history.proofs.Demand3.{fits, heard, took_fits, took_written}
use Rattle.message.proofs.Reached.{accepted_taken}
use Rattle.std.specs.Prelude.{Ok, Err}

-- WHAT ONE MESSAGE MAKES OF IT, as it stood

data Step18 (role : Role) (ds : List Word) (w : Word) : Word → Type 0 where
  kept : names_by role ds ≡ none → carries_by role ds ≡ none → Step18 role ds w w
  changed : {c : Word} → names_by role ds ≡ some c → Step18 role ds w c
  delayed : {d : Word} → carries_by role ds ≡ some d → Step18 role ds w (eighteen d (other_items w))

-- an entry of 18 fits
entry_fits18 : (es : List Word) → all fits22 es ≡ true → (c : Word) → entry_of (bytes "18") es ≡ some c → fits18 c ≡ true
unfolding labels
entry_fits18 es a c q = lookup_fits 8 es a c (sym (entry_lookup 8 (omega arith) (omega arith) es) ∙ q)

module _ (ds : List Word) (w : Word) (e : fits18 w ≡ true) where
  abbrev made : Role → Word
  made role = eighteen (Option.get_or (given_by role ds date) (date_told w)) (Option.get_or (given_by role ds other) (other_items w))

  as_it_was : (role : Role) → names_by role ds ≡ none → carries_by role ds ≡ none → Step18 role ds w (eighteen (date_told w) (other_items w))
  as_it_was role p q = subst (Step18 role ds w) (sym (told_exact w e)) (kept p q)

  step18 : (role : Role) → Sayings role ds → Step18 role ds w (made role)
  step18 Changes s = go (entry_of (bytes "18") (drop first_entry ds)) refl
    where
      go : (o : Option Word) → entry_of (bytes "18") (drop first_entry ds) ≡ o
          → Step18 Changes ds w (eighteen (Option.get_or (entered date o) (date_told w)) (Option.get_or (entered other o) (other_items w)))
      go none q = as_it_was Changes q refl
      go (some c) q =
          subst (Step18 Changes ds w) (sym (told_exact c (entry_fits18 (drop first_entry ds) (s.entries_right refl) c q))) (changed q)
  step18 Delays s = go (carried (date_told (get_or ds brief18 []))) refl
    where
      go : (o : Option Word) → carried (date_told (get_or ds brief18 [])) ≡ o
          → Step18 Delays ds w (eighteen (Option.get_or o (date_told w)) (other_items w))
      go none q = as_it_was Delays refl q
      go (some d) q = delayed q
  step18 Cancels s = as_it_was Cancels refl refl
  step18 Departs s = as_it_was Departs refl refl
  step18 Arrives s = as_it_was Arrives refl refl
  step18 Files s = as_it_was Files refl refl
  step18 Neither s = as_it_was Neither refl refl

-- ONE MESSAGE MORE IN THE LOG

module _ (filed : Word) where
  leaves : (m : Told) (log : List Told) → Leaves18 m → ((l : Told) → Memᴰ l log → Leaves18 l) → (l : Told) → Memᴰ l (m ∷ log) → Leaves18 l
  leaves m log e f l i = ⊎_elim (λ (q : l ≡ m). subst Leaves18 (sym q) e) (λ (j : Memᴰ l log). f l j) (Memᴰ.cases_cons i)

  further : (m : Told) (log : List Told) (v : Word) → Leaves18 m → Left18 filed log v → Left18 filed (m ∷ log) v
  further m log v e (never_set f) = never_set (leaves m log e f)
  further m log v e (by_change later n earlier f x) = by_change (m ∷ later) n earlier (leaves m later e f) x
  further m log v e (by_delay later n earlier f x h) = by_delay (m ∷ later) n earlier (leaves m later e f) x h

  one_more_lem : (m : Told) (log : List Told) (w v : Word) → Step18 (role_of m.type) m.fields w v → Left18 filed log w → Left18 filed (m ∷ log) v
  one_more_lem m log w v (kept p q) h = further m log w (p, q) h
  one_more_lem m log w v (changed x) h = by_change [] m log (λ l i. absurd (Memᴰ.not-nil i)) x
  one_more_lem m log w v (delayed x) h = by_delay [] m log (λ l i. absurd (Memᴰ.not-nil i)) x h

-- AFTER AN ACCEPTED MESSAGE

abbrev eighteen_on : List ℕ → Word
eighteen_on strip = get_or (contents strip) plan18 []

module _ (strip : List ℕ) (s : Strip) (m : List ℕ) (room : ℕ) (held : Strip) (n : ℕ) (k : Took strip s m room held n) where
  abbrev told_so : Told
  told_so = record { type = k.passes.type; fields = contents m }

  stood : fits18 (eighteen_on strip) ≡ true
  stood = plan_fit (contents strip) (proper_stripped strip s k.passes.proper).fits plan18 (omega arith)

  new_is : eighteen_on (spelled (amended_on strip m)) ≡ made (contents m) (eighteen_on strip) stood (role_of k.passes.type)
  new_is =
      ap (λ (cs : List Word). get_or cs plan18 []) (strip_contents (nine (amended_on strip m)) (took_fits strip s m room held n k))
      ∙ ap (λ (x : Told). eighteen (with_told (plan_on strip) x date) (with_told (plan_on strip) x other)) (heard strip s m room held n k)

  took18 : Step18 (role_of k.passes.type) (contents m) (eighteen_on strip) (eighteen_on (spelled (amended_on strip m)))
  took18 =
      subst (Step18 (role_of k.passes.type) (contents m) (eighteen_on strip)) (sym new_is)
      (step18 (contents m) (eighteen_on strip) stood (role_of k.passes.type)
      (sayings k.passes.type (count_of m) (contents m) (fits strip s m room held n k)))

-- AFTER ANY RUN

module _ (filed : Word) where
  stepped18 : (b : Standing) (log : List Told) (o : Offer) → Left18 filed log (eighteen_on b.strip)
      → (u : Updated) → update_of b.strip b.held o.bytes (length o.lent) ≡ u
      → Left18 filed (entered_as u o.bytes log) (eighteen_on (put_as u (out_after b.strip b.held o.bytes o.lent) b).strip)
  stepped18 b log o h (Ok (held, n)) e =
      let room = length o.lent in
      let k : Took b.strip b.held o.bytes room held n
      = subst (Verdict b.strip b.held o.bytes room) e (verdict b.strip b.held o.bytes room) in
      let new = spelled (amended_on b.strip o.bytes) in
      subst (λ (v : List ℕ). Left18 filed (told o.bytes ∷ log) (eighteen_on v)) (sym (took_written b.strip b.held o.bytes room held n k o.lent e))
      (subst (λ (x : Told). Left18 filed (x ∷ log) (eighteen_on new)) (sym (heard b.strip b.held o.bytes room held n k))
      (one_more_lem filed (told_so b.strip b.held o.bytes room held n k) log (eighteen_on b.strip) (eighteen_on new)
      (took18 b.strip b.held o.bytes room held n k) h))
  stepped18 b log o h (Err r) e = h

  kept18 : (run : List Offer) (b : Standing) (log : List Told) → Left18 filed log (eighteen_on b.strip)
      → Left18 filed (log_all updater b log run) (eighteen_on (offered_all updater b run).strip)
  kept18 [] b log h = h
  kept18 (o ∷ os) b log h =
      kept18 os (offered updater b o) (entered_as (answered updater b o) o.bytes log) (stepped18 b log o h (answered updater b o) refl)

pub left18 : (m : List ℕ) (room n : ℕ) → answer_of m room ≡ Ok (Fpl, n) → (run : List Offer)
    → Left18 (get_or (contents m) plan18 []) (log_all updater (filed_as m) [] run) (get_or (contents (offered_all updater (filed_as m) run).strip) plan18 [])
left18 m room n e run =
    let k = accepted_taken Fpl m room n e in
    let as_filed : eighteen_on (filed_as m).strip ≡ get_or (contents m) plan18 []
    = ap eighteen_on (plain_spelling Fpl m refl k.reached)
    ∙ ap (λ (cs : List Word). get_or cs plan18 []) (strip_contents (contents m) (fpl_fits m k.reached)) in
    kept18 (get_or (contents m) plan18 []) run (filed_as m) []
    (subst (Left18 (get_or (contents m) plan18 []) []) (sym as_filed) (never_set (λ l i. absurd (Memᴰ.not-nil i))))
