-- The entries of an accepted CHG, sent one by one in any order, leave the strip and the record that the CHG leaves, if each is accepted. Assumes nothing.
use Prim.Native.Nat.{ℕ}
use mathlib.Core.Path.{◌≡◌, refl, sym, ap, ap₂, subst, ◌∙◌}
use mathlib.Core.Bool.{true}
use mathlib.Core.List.{List, [], ◌∷◌}
use lib.ListN.{length, drop}
use Rattle.text.specs.Words.{Word, split}
use Rattle.space.specs.Fields.{inner}
use Rattle.outer.specs.Outer.{most}
use Rattle.sent.specs.Sent.{message_of, contents}
use Rattle.kinds.specs.declared.MessageType.{MessageType}
use Rattle.kinds.specs.declared.MessageType.TheVariants.{Fpl, Chg}
use Rattle.kinds.specs.Kinds.{role_of, first_entry}
use Rattle.outer.proofs.Same.{ok_same}
use Rattle.message.specs.Reading.{count_of}
use Rattle.message.specs.Message.{none_twice}
use Rattle.message.proofs.Reached.{Reached, accepted_taken}
use Rattle.message.proofs.Valid.{Fitting, fitting_length, reached_fitting}
use Rattle.force.specs.InForce.{entries_of, replaced, replaced_by, ranks_of, all_named}
use Rattle.force.proofs.Laws.{amended_replaced, replaced_moved, chg_named, chg_ranks}
use Rattle.state.specs.declared.Strip.{Strip}
use Rattle.state.specs.State.{next_of}
use Rattle.opening.specs.Opening.{text_said}
use Rattle.strip.specs.Updating.{Updated, out_after}
use Rattle.history.specs.History.{nine}
use Rattle.history.specs.Demand3.{updater, Standing, Offer, Proper, amended_on, put_as, offered, offered_all}
use Rattle.history.proofs.Strip.{said_contents, strip_contents, Stripped, proper_stripped, plan_contents}
use Rattle.history.proofs.Causes.{event, amended_on_lem, Took, Verdict, verdict}
use Rattle.history.proofs.Demand3.{took_fits, took_written}
use Rattle.demands.specs.Turns.{standing}
use Rattle.demands.specs.Bundles.{Accepts, OneByOne, none_left, and_then, SameOneByOne}
use Rattle.std.specs.Prelude.{Ok}

-- ONE ACCEPTED CHG: the strip's contents with its entries put in, one after the other; the record stays

module _ (b : Standing) (o : Offer) (es : List Word) (c : Accepts updater b o es) where
  took : Took b.strip b.held o.bytes (length o.lent) c.held c.written
  took =
      subst (Verdict b.strip b.held o.bytes (length o.lent)) c.accepted
      (verdict b.strip b.held o.bytes (length o.lent))

  proper : Proper b.strip b.held
  proper = took.passes.proper

  stripped : Stripped b.strip
  stripped = proper_stripped b.strip b.held proper

  type_is : took.passes.type ≡ Chg
  type_is = (ok_same took.passes.type Chg took.passes.long c.long (sym took.passes.read ∙ c.read)).0

  -- a CHG does not move the state
  held_is : c.held ≡ b.held
  held_is = took.moved ∙ ap (λ (t : MessageType). next_of b.held (event (role_of t) (contents o.bytes))) type_is

  reached : Reached Chg o.bytes
  reached = (accepted_taken Chg o.bytes most c.long c.read).reached

  fits : Fitting Chg (count_of o.bytes) (contents o.bytes)
  fits = reached_fitting Chg o.bytes reached

  -- each entry names a field, and no two the same
  named : all_named es ≡ true
  named = ap all_named (sym c.entries_are) ∙ chg_named (count_of o.bytes) (contents o.bytes) fits.fit

  once : none_twice (ranks_of es) ≡ true
  once =
      let n = count_of o.bytes in
      ap (λ (l : List Word). none_twice (ranks_of l)) (sym c.entries_are)
      ∙ ap none_twice (sym (chg_ranks n (contents o.bytes) (sym (fitting_length Chg n (contents o.bytes) fits))))
      ∙ fits.once

  said : entries_of (text_said Chg o.bytes) ≡ es
  said = ap (λ (l : List Word). drop first_entry l) (said_contents Chg o.bytes refl reached) ∙ c.entries_are

  planned : split 45 (inner b.strip) ≡ contents b.strip
  planned = plan_contents b.strip stripped

  changed : nine (amended_on b.strip o.bytes) ≡ replaced_by (contents b.strip) es
  changed =
      sym (amended_on_lem b.strip b.held o.bytes (length o.lent) proper Chg c.long c.read refl)
      ∙ amended_replaced (inner b.strip) (text_said Chg o.bytes)
      (ap length planned ∙ fitting_length Fpl 9 (contents b.strip) stripped.fits)
      (ap all_named said ∙ named)
      (ap (λ (l : List Word). none_twice (ranks_of l)) said ∙ once)
      ∙ ap₂ replaced_by planned said

  stands : offered updater b o ≡ standing (message_of (replaced_by (contents b.strip) es)) b.held
  stands =
      ap (λ (u : Updated). put_as u (out_after b.strip b.held o.bytes o.lent) b) c.accepted
      ∙ ap₂ standing
      (took_written b.strip b.held o.bytes (length o.lent) c.held c.written took o.lent c.accepted ∙ ap message_of changed)
      held_is

  -- and they can be cut from the new strip again
  cut : contents (message_of (replaced_by (contents b.strip) es)) ≡ replaced_by (contents b.strip) es
  cut =
      ap (λ (l : List Word). contents (message_of l)) (sym changed)
      ∙ strip_contents (nine (amended_on b.strip o.bytes))
      (took_fits b.strip b.held o.bytes (length o.lent) c.held c.written took)
      ∙ changed

-- A RUN OF SINGLES puts its entries in, in the order of their coming

run_stands : (held : Strip) (cs : List Word) → contents (message_of cs) ≡ cs → (b : Standing) → b ≡ standing (message_of cs) held
    → (run : List Offer) (es : List Word) → OneByOne updater b run es → offered_all updater b run ≡ standing (message_of (replaced_by cs es)) held
run_stands held cs q b e [] [] none_left = e
run_stands held cs q b e [] (x ∷ es) singles = elim singles [ ]
run_stands held cs q b e (o ∷ run) [] singles = elim singles [ ]
run_stands held cs q b e (o ∷ run) (x ∷ es) (and_then c rest) =
    let p : contents b.strip ≡ cs = ap (λ (y : Standing). contents y.strip) e ∙ q in
    let after = ap₂ (λ (l : List Word) (h : Strip). standing (message_of (replaced l x)) h) p (ap (λ (y : Standing). y.held) e) in
    run_stands held (replaced cs x) (subst (λ (l : List Word). contents (message_of (replaced l x)) ≡ replaced l x) p (cut b o (x ∷ []) c))
    (offered updater b o) (stands b o (x ∷ []) c ∙ after) run es rest

-- THE THEOREM

pub one_by_one : SameOneByOne updater
one_by_one b bundle es c fs r singles h =
    let cs = contents b.strip in
    let spelt = (stripped b bundle es c).spelt in
    run_stands b.held cs (sym (ap contents spelt)) b (ap (λ (w : List ℕ). standing w b.held) spelt) singles fs h
    ∙ ap (λ (l : List Word). standing (message_of l) b.held) (sym (replaced_moved cs r (once b bundle es c)))
    ∙ sym (stands b bundle es c)
