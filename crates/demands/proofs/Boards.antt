-- ONE BOARD FOR TWO HANDLERS: all that was asked of it holds. Assumes nothing.
use Rattle.board.proofs.Runs.{faithful}
use Rattle.board.proofs.Demands.{board_meets, each_strip, handlers_apart}
use Rattle.board.proofs.Never.{filing_never, updating_never}
use Rattle.demands.specs.Boards.{OneBoard}

pub one_board : OneBoard
one_board =
    record {
      counted = board_meets.counts;
      files = board_meets.filing_right;
      updates = board_meets.updating_right;
      clears = board_meets.clearing_right;
      strangers = board_meets.strangers_refused;
      apart = board_meets.independent;
      each = each_strip;
      files_never = filing_never;
      updates_never = updating_never;
      again = board_meets.replayed;
      by_code = faithful;
      apart_in_code = handlers_apart;
    }
