-- A strip that a message may be offered to is the spelling of nine contents that fit, and they can be cut from it again; what an accepted
-- message says are its contents. Assumes nothing.
use Prim.Native.Nat.{ℕ, ◌≤◌}
use mathlib.Core.Path.{◌≡◌, refl, sym, ap, subst, ◌∙◌}
use mathlib.Core.Bool.{Bool, true, false, ◌&&◌, ◌||◌, not, false≢true}
use mathlib.Core.List.{List}
use native.Mathlib.Omega.{arith}
use lib.Dec.{eqb}
use lib.ListN.{length}
use Rattle.text.specs.Words.{Word, split, all, same}
use Rattle.text.proofs.Tests.{both, and_both, same-eq, same_self}
use Rattle.space.specs.Reduced.{reduced}
use Rattle.space.specs.Fields.{inner}
use Rattle.outer.specs.Outer.{most}
use Rattle.sent.specs.Sent.{message_of, contents}
use Rattle.sent.proofs.Sent.{sent_contents_lem, spelling_stays}
use Rattle.kinds.specs.declared.MessageType.{MessageType}
use Rattle.kinds.specs.declared.MessageType.TheVariants.{Fpl}
use Rattle.kinds.specs.declared.Role.{Role}
use Rattle.kinds.specs.declared.Role.TheVariants.{Files, Changes, Delays, Cancels, Departs, Arrives, Neither}
use Rattle.kinds.specs.declared.Form.{Form}
use Rattle.kinds.specs.Kinds.{least_of, greatest_of, role_of, types_read, forms_of, number_of}
use Rattle.kinds.specs.Kinds.{plan_forms, brief_forms, request_forms, arrival_forms, diverted_forms, supplement_forms}
use Rattle.kinds.proofs.Fields.{each_count}
use Rattle.message.specs.Answer.{Answer}
use Rattle.message.specs.Reading.{count_of, spelling_of, answer_of}
use Rattle.message.proofs.Plans.{plan_type}
use Rattle.message.proofs.Written.{spelled_message, all_stay_lem}
use Rattle.message.proofs.Reached.{Reached, reached_accepted, accepted_taken}
use Rattle.message.proofs.Valid.{Fitting, fitting_forms, fitting_length, fitting_some, fitting_tidy, fitting_reached, reached_fitting, reached_passed}
use Rattle.state.specs.declared.Strip.{Strip}
use Rattle.state.specs.State.{sound}
use Rattle.opening.specs.Opening.{read_as_plan, canonical_plan, text_said}
use Rattle.history.specs.Demand3.{Proper}
use Rattle.std.specs.Prelude.{Ok, Err}

-- CONTENTS THAT FIT are cut from their message again

pub cut_again : (t : MessageType) (n : ℕ) (cs : List Word) → Fitting t n cs → split 45 (inner (message_of cs)) ≡ cs
cut_again t n cs f =
    let tidy = fitting_tidy t n cs f in
    let stays = spelling_stays cs tidy in
    ap (λ (w : List ℕ). split 45 (inner w)) (sym stays) ∙ sent_contents_lem (message_of cs) cs tidy (fitting_some t n cs f) stays

-- WITHOUT FIELD 19 what is written are the contents

abbrev kept : Form → Bool
kept f = not (eqb (number_of f) 19)

-- the types that file a plan or update it
abbrev pub plain : Role → Bool
plain Files = true
plain Changes = true
plain Delays = true
plain Cancels = true
plain Departs = true
plain Arrives = true
plain Neither = false

plain_forms : (t : MessageType) (n : ℕ) → least_of t ≤ n → n ≤ greatest_of t → plain (role_of t) ≡ true → all kept (forms_of t n) ≡ true
unfolding types_read forms_of plan_forms brief_forms request_forms arrival_forms diverted_forms supplement_forms
plain_forms t n l g e = rw e at (each_count (λ u k. not (plain (role_of u)) || all kept (forms_of u k)) refl t n l g)

module _ (t : MessageType) (m : List ℕ) (p : plain (role_of t) ≡ true) (r : Reached t m) where
  reached_fits : Fitting t (count_of m) (contents m)
  reached_fits = reached_fitting t m r

  pub plain_spelling : spelling_of t m ≡ message_of (contents m)
  unfolding spelling_of
  plain_spelling =
      let forms = fitting_forms t (count_of m) (contents m) reached_fits in
      let long = fitting_length t (count_of m) (contents m) reached_fits in
      let some = fitting_some t (count_of m) (contents m) reached_fits in
      let even = forms ∙ sym long in
      spelled_message (forms_of t (count_of m)) (contents m) (omega (arith, even, some)) even
      ∙ ap message_of (all_stay_lem (forms_of t (count_of m)) (contents m) even (plain_forms t (count_of m) reached_fits.least reached_fits.most p))

  -- what the message says
  pub said_contents : split 45 (text_said t m) ≡ contents m
  said_contents = ap (λ (w : List ℕ). split 45 (inner w)) plain_spelling ∙ cut_again t (count_of m) (contents m) reached_fits

-- NINE CONTENTS THAT FIT make a strip

module _ (cs : List Word) (f : Fitting Fpl 9 cs) where
  abbrev strip_of : List ℕ
  strip_of = message_of cs

  stays : reduced strip_of ≡ message_of cs
  stays = spelling_stays cs (fitting_tidy Fpl 9 cs f)

  pub strip_contents : contents strip_of ≡ cs
  strip_contents = sent_contents_lem strip_of cs (fitting_tidy Fpl 9 cs f) (fitting_some Fpl 9 cs f) stays

  module _ (short : length (message_of cs) ≤ 1800) where
    pub strip_reached : Reached Fpl strip_of
    strip_reached = fitting_reached Fpl 9 cs f strip_of short stays

    pub strip_spelling : spelling_of Fpl strip_of ≡ strip_of
    strip_spelling = plain_spelling Fpl strip_of refl strip_reached ∙ ap message_of strip_contents

    pub strip_read : answer_of strip_of 1800 ≡ Ok (Fpl, length strip_of)
    strip_read =
        let e = ap length strip_spelling in
        reached_accepted Fpl strip_of 1800 strip_reached (omega (arith, e, short)) ∙ ap (λ (n : ℕ). Ok (Fpl, n)) e

    pub strip_proper : (s : Strip) → sound s ≡ true → Proper strip_of s
    strip_proper s h = record { long = length strip_of; read = strip_read; canonical = strip_spelling; held_sound = h }

-- and a strip that is read as an FPL, and is its own spelling, has such contents

pub fpl_fits : (m : List ℕ) → Reached Fpl m → Fitting Fpl 9 (contents m)
fpl_fits m r =
    let f = reached_fitting Fpl m r in
    let n : count_of m ≡ 9 = omega (arith, f.least, f.most) in
    subst (λ (k : ℕ). Fitting Fpl k (contents m)) n f

pub record Stripped (strip : List ℕ) : Type 0 where
  pub fits : Fitting Fpl 9 (contents strip)
  pub spelt : strip ≡ message_of (contents strip)
  pub short : length strip ≤ 1800

pub proper_stripped : (strip : List ℕ) (s : Strip) → Proper strip s → Stripped strip
proper_stripped strip s p =
    let k = accepted_taken Fpl strip 1800 p.long p.read in
    record {
      fits = fpl_fits strip k.reached;
      spelt = sym p.canonical ∙ plain_spelling Fpl strip refl k.reached;
      short = (reached_passed Fpl strip k.reached).short;
    }

-- THE TEST of the update is the same

pub tested_proper : (strip : List ℕ) (s : Strip) → (sound s && canonical_plan strip) ≡ true → Proper strip s
unfolding canonical_plan
tested_proper strip s e =
    let a = both (sound s) (canonical_plan strip) e in
    let b = both (read_as_plan (answer_of strip most)) (same (spelling_of Fpl strip) strip) a.1 in
    go a.0 (same-eq (spelling_of Fpl strip) strip b.1) (answer_of strip most) refl b.0
  where
    go : sound s ≡ true → spelling_of Fpl strip ≡ strip → (r : Answer) → answer_of strip most ≡ r → read_as_plan r ≡ true → Proper strip s
    go h c (Ok (t, n)) q z = record { long = n; read = q ∙ ap (λ (u : MessageType). Ok (u, n)) (plan_type t z); canonical = c; held_sound = h }
    go h c (Err r) q z = absurd (false≢true z)

pub proper_tested : (strip : List ℕ) (s : Strip) → Proper strip s → (sound s && canonical_plan strip) ≡ true
unfolding canonical_plan
proper_tested strip s p =
    let c = ap (λ (w : List ℕ). same w strip) p.canonical ∙ same_self strip in
    and_both (sound s) (canonical_plan strip) p.held_sound
    (and_both (read_as_plan (answer_of strip most)) (same (spelling_of Fpl strip) strip) (ap read_as_plan p.read) c)

-- the contents that the update cuts from a strip
pub plan_contents : (strip : List ℕ) → Stripped strip → split 45 (inner strip) ≡ contents strip
plan_contents strip k = ap (λ (w : List ℕ). split 45 (inner w)) k.spelt ∙ cut_again Fpl 9 (contents strip) k.fits
