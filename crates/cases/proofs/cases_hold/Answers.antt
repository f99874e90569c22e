use Rattle.cases.proofs.LastTicket.{tickets_in_range}
use Rattle.cases.proofs.LongBlanks.{equal_blanks}
use Rattle.cases.proofs.ShortTexts.{short_sheets, end_line}
use Rattle.cases.proofs.SmallLoads.{none_improves, costs}
use Rattle.cases.proofs.WorkedRun.{worked_run}
use Rattle.cases.proofs.cases_hold.Goals as goal

pub returns : goal.returns
returns c = record {
  run = worked_run;
  chains = none_improves;
  costs = costs;
  tickets = tickets_in_range;
  sheets = short_sheets;
  frame = end_line;
  blank = equal_blanks;
}
