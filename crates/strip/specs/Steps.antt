-- What the steps of an update give, from the two texts: an answer with the output that goes with it.
-- Assumes nothing.
use Rattle.std.specs.Prelude.{ℕ, ◌+◌, ◌≤◌, ◌≡◌, List, length, Ok, Err}
use Rattle.text.specs.Words.{split}
use Rattle.text.specs.Lent.{front}
use Rattle.outer.specs.Outer.{most}
use Rattle.kinds.specs.declared.Role.{Role}
use Rattle.state.specs.declared.Strip.{Strip}
use Rattle.amending.specs.Amended.{amended, new_strip}
use Rattle.strip.specs.Updating.{Updated, amended_as, offered_as}

-- a plan of nine fields and a message, each as long as a message may be without its parentheses
abbrev pub Texts : List ℕ → List ℕ → Type 0
Texts plan said = (length (split 45 plan) ≡ 9) × (length plan + 2 ≤ most) × (length said + 2 ≤ most)

abbrev pub written_text : Updated → Role → List ℕ → List ℕ → List ℕ → List ℕ
written_text (Ok (held, n)) role plan said out = front (new_strip role plan said) out
written_text (Err r) role plan said out = out

-- an answer that is due, and the output that goes with it
abbrev pub Due : Updated → Role → List ℕ → List ℕ → List ℕ → Updated → List ℕ → Type 0
Due due role plan said out answer after = (answer ≡ due) × (after ≡ written_text due role plan said out)

abbrev pub Amends : Role → Strip → List ℕ → List ℕ → List ℕ → Updated → List ℕ → Type 0
Amends role next plan said out answer after = Due (amended_as (amended role plan said) next (length out)) role plan said out answer after

abbrev pub Offers : Role → Strip → List ℕ → List ℕ → List ℕ → Updated → List ℕ → Type 0
Offers role held plan said out answer after = Due (offered_as role plan held said (length out)) role plan said out answer after
