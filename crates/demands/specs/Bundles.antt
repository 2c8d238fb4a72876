-- Several changes in one, or one by one (document 02, request 14), of any updater: a CHG with its entries, single CHGs in its place, and what is claimed
-- of the two. Assumes nothing.
use Rattle.std.specs.Prelude.{ℕ, ◌≡◌, List, [], ◌∷◌, drop, Ok}
use Rattle.text.specs.Words.{Word}
use Rattle.outer.specs.Outer.{most}
use Rattle.sent.specs.Sent.{contents}
use Rattle.kinds.specs.declared.MessageType.TheVariants.{Chg}
use Rattle.kinds.specs.Kinds.{first_entry}
use Rattle.message.specs.Reading.{answer_of}
use Rattle.force.specs.InForce.{Reordered}
use Rattle.state.specs.declared.Strip.{Strip}
use Rattle.history.specs.Demand3.{Updater, Standing, Offer, answered, offered, offered_all}
use Rattle.demands.specs.Examples.{Example, updated, not_updated}

-- A CHG WITH THE ENTRIES es, ACCEPTED on the strip b. The entries stand behind its fields 3, 7, 13, 16 and 18. Of those, of its white space and of the
-- room lent nothing is asked but that it is accepted
pub record Accepts (U : Updater) (b : Standing) (o : Offer) (es : List Word) : Type 0 where
  pub long : ℕ
  pub read : answer_of o.bytes most ≡ Ok (Chg, long)
  pub entries_are : drop first_entry (contents o.bytes) ≡ es
  pub held : Strip
  pub written : ℕ
  pub accepted : answered U b o ≡ Ok (held, written)

-- ONE BY ONE: a run of single CHGs, each with one entry and each accepted on the strip at its turn; the first is offered to b. The entries are listed in
-- the order of their coming
pub data OneByOne (U : Updater) : Standing → List Offer → List Word → Type 0 where
  none_left : {b : Standing} → OneByOne U b [] []
  and_then : {b : Standing} {o : Offer} {run : List Offer} {e : Word} {es : List Word} → Accepts U b o (e ∷ []) → OneByOne U (offered U b o) run es
      → OneByOne U b (o ∷ run) (e ∷ es)

-- THE CLAIM. Take a CHG accepted on a strip; send its entries instead as single CHGs, in any order. If every one is accepted, the final strip, byte for
-- byte, and its record equal those from the bundle
abbrev pub SameOneByOne : Updater → Type 0
SameOneByOne U =
    (b : Standing) (bundle : Offer) (es : List Word) → Accepts U b bundle es
    → (fs : List Word) → Reordered es fs → (singles : List Offer) → OneByOne U b singles fs
    → offered_all U b singles ≡ offered U b bundle

-- EXAMPLES, which are computed in proofs/BundleExamples.antt

-- a ZZZZ and its explanation: the bundle; the explanation first, then the ZZZZ; and the ZZZZ first, which is refused, so that nothing is claimed
abbrev pub of_unlisted : List Example
of_unlisted =
    updated "(FPL-ABC12-IS-B738/M-SDFG/S-EHAM0930-N0440F310 DCT PAM DCT-EDDF0100 EDDK-0)" "(CHG-ABC12-EHAM0930-EDDF-0-9/ZZZZ/M-18/TYP/X)"
    "(FPL-ABC12-IS-ZZZZ/M-SDFG/S-EHAM0930-N0440F310 DCT PAM DCT-EDDF0100 EDDK-TYP/X)"
    ∷ (updated "(FPL-ABC12-IS-B738/M-SDFG/S-EHAM0930-N0440F310 DCT PAM DCT-EDDF0100 EDDK-0)" "(CHG-ABC12-EHAM0930-EDDF-0-18/TYP/X)"
    "(FPL-ABC12-IS-B738/M-SDFG/S-EHAM0930-N0440F310 DCT PAM DCT-EDDF0100 EDDK-TYP/X)"
    ∷ (updated "(FPL-ABC12-IS-B738/M-SDFG/S-EHAM0930-N0440F310 DCT PAM DCT-EDDF0100 EDDK-TYP/X)" "(CHG-ABC12-EHAM0930-EDDF-0-9/ZZZZ/M)"
    "(FPL-ABC12-IS-ZZZZ/M-SDFG/S-EHAM0930-N0440F310 DCT PAM DCT-EDDF0100 EDDK-TYP/X)"
    ∷ (not_updated "(FPL-ABC12-IS-B738/M-SDFG/S-EHAM0930-N0440F310 DCT PAM DCT-EDDF0100 EDDK-0)" "(CHG-ABC12-EHAM0930-EDDF-0-9/ZZZZ/M)" 10 9 0 ∷ [])))

-- each later head suits the strip at its turn: behind a bare 16 it has the new destination, behind a 7 the new identification; with the old it is refused
abbrev pub of_heads : List Example
of_heads =
    updated "(FPL-ABC12-IS-B738/M-SDFG/S-EHAM0930-N0440F310 DCT PAM DCT-EDDF0100 EDDK-0)" "(CHG-ABC12-EHAM0930-EDDF-0-7/XYZ9-13/EHAM1015-16/EDDN)"
    "(FPL-XYZ9-IS-B738/M-SDFG/S-EHAM1015-N0440F310 DCT PAM DCT-EDDN0100 EDDK-0)"
    ∷ (updated "(FPL-ABC12-IS-B738/M-SDFG/S-EHAM0930-N0440F310 DCT PAM DCT-EDDF0100 EDDK-0)" "(CHG-ABC12-EHAM0930-EDDF-0-16/EDDN)"
    "(FPL-ABC12-IS-B738/M-SDFG/S-EHAM0930-N0440F310 DCT PAM DCT-EDDN0100 EDDK-0)"
    ∷ (updated "(FPL-ABC12-IS-B738/M-SDFG/S-EHAM0930-N0440F310 DCT PAM DCT-EDDN0100 EDDK-0)" "(CHG-ABC12-EHAM0930-EDDN-0-7/XYZ9)"
    "(FPL-XYZ9-IS-B738/M-SDFG/S-EHAM0930-N0440F310 DCT PAM DCT-EDDN0100 EDDK-0)"
    ∷ (updated "(FPL-XYZ9-IS-B738/M-SDFG/S-EHAM0930-N0440F310 DCT PAM DCT-EDDN0100 EDDK-0)" "(CHG-XYZ9-EHAM0930-EDDN-0-13/EHAM1015)"
    "(FPL-XYZ9-IS-B738/M-SDFG/S-EHAM1015-N0440F310 DCT PAM DCT-EDDN0100 EDDK-0)"
    ∷ (not_updated "(FPL-XYZ9-IS-B738/M-SDFG/S-EHAM0930-N0440F310 DCT PAM DCT-EDDN0100 EDDK-0)" "(CHG-ABC12-EHAM0930-EDDF-0-13/EHAM1015)" 12 0 0 ∷ []))))
