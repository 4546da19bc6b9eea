use Rattle.handover.proofs.Rows.{first_row, first_rows, later_rows, words_early, words_late}
use Rattle.handover.proofs.Turns.{step_there_and_back, step_back_and_there}
use Rattle.handover.proofs.recursion_stands.Goals as goal

pub returns : goal.returns
returns c =
    record {
      first_row = first_row;
      first_rows = first_rows;
      later_rows = later_rows;
      words_early = words_early;
      words_late = words_late;
      undone = step_there_and_back;
      redone = step_back_and_there;
    }
