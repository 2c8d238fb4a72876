-- THE BOARD MEETS WHAT IS ASKED: `meets` is the theorem to read. Assumes nothing.
use mathlib.Core.Path.{ap}
use Rattle.std.specs.Prelude.{Option}
use Rattle.rooms.specs.declared.Firm.{Firm}
use Rattle.rooms.specs.Rooms.{House, empty, said_to}
use Rattle.rooms.specs.Rooms.Act.{update, clear}
use Rattle.rooms.specs.Keeper.{keeper, after_all}
use Rattle.rooms.specs.Demands.{Updatings, Clearings, Strangers, Meets}
use Rattle.rooms.proofs.Independent.{independent}
use Rattle.rooms.proofs.Counts.{counts, filings_right}
use Rattle.rooms.proofs.Lives.{lives_right}
use Rattle.rooms.proofs.Journal.{replays}

module _ (H : House) where
  updatings : Updatings H (keeper H)
  updatings cs n f e k m = ap (λ (w : Option Firm). said_to H w (after_all H (empty H) cs) (update k m)) e

  clearings : Clearings H (keeper H)
  clearings cs n f e k = ap (λ (w : Option Firm). said_to H w (after_all H (empty H) cs) (clear k)) e

  strangers : Strangers H (keeper H)
  strangers cs n e a = ap (λ (w : Option Firm). said_to H w (after_all H (empty H) cs) a) e

  -- THE THEOREM
  pub meets : Meets H (keeper H)
  meets =
      record {
        counts = counts H;
        filing_right = filings_right H;
        updating_right = updatings;
        clearing_right = clearings;
        strangers_refused = strangers;
        independent = independent H;
        lived = lives_right H;
        replayed = replays H;
      }
