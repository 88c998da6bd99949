-- What a C caller is told: each answer of the library as a struct of numbers.
use Rattle.std.specs.Prelude.{ℕ}
use Rattle.calls.specs.Calls.{Reply, refused, done, Work}
use Rattle.tape_model.specs.declared.Ticket.{Ticket}
use Rattle.tape_model.specs.declared.Head.{Head}
use Rattle.tape_model.specs.Ticket.{no_ticket}
use Rattle.tape_model.specs.declared.Totals.{Totals}
use Rattle.tape_model.specs.Reader.{Reading, ticket, at_end}
use Rattle.trucks.specs.declared.TrucksOfTwo.{TrucksOfTwo}
use Rattle.pairing.specs.declared.Counts.{Counts}
use Rattle.receptions.specs.Receptions.{PartingReply, refused_at, not_parted, Mast, first_mast, second_mast, Part}
use Rattle.c_answers.specs.declared.HtAnswer.{HtAnswer}
use Rattle.c_answers.specs.declared.HtWritten.{HtWritten}
use Rattle.c_answers.specs.declared.HtOpened.{HtOpened}
use Rattle.c_answers.specs.declared.HtUnpackedTicket.{HtUnpackedTicket}
use Rattle.c_answers.specs.declared.HtUnpackedHead.{HtUnpackedHead}
use Rattle.c_answers.specs.declared.HtReading.{HtReading}
use Rattle.c_answers.specs.declared.HtTruckCount.{HtTruckCount}
use Rattle.c_answers.specs.declared.HtTruckCounts.{HtTruckCounts}
use Rattle.c_answers.specs.declared.HtParted.{HtParted}
use Rattle.c_answers.specs.declared.HtReception.{HtReception}
use Rattle.c_answers.specs.declared.HtPaired.{HtPaired}

-- `refused` is 0 where the call was done; else it is the number, and all that the call would answer is zeros (but for a reading's position, and the place beside 10)

unfoldable pub written_numbers : Reply ℕ → HtWritten
written_numbers (refused n) = record { refused = n; bytes = 0 }
written_numbers (done bytes) = record { refused = 0; bytes = bytes }

unfoldable pub answer_numbers : Reply Work → HtAnswer
answer_numbers (refused n) = record { refused = n; bytes = 0; steps = 0 }
answer_numbers (done work) = record { refused = 0; bytes = work.bytes; steps = work.steps }

unfoldable pub opened_numbers : Reply Totals → HtOpened
opened_numbers (refused n) = record { refused = n; tickets = 0; net = 0 }
opened_numbers (done totals) = record { refused = 0; tickets = totals.tickets; net = totals.net }

-- the zeros in place of a head
abbrev pub no_head : Head
no_head = record { device = 0; shift = 0; sheet = 0 }

unfoldable pub ticket_numbers : Reply Ticket → HtUnpackedTicket
ticket_numbers (refused n) = record { refused = n; ticket = no_ticket }
ticket_numbers (done t) = record { refused = 0; ticket = t }

unfoldable pub head_numbers : Reply Head → HtUnpackedHead
head_numbers (refused n) = record { refused = n; head = no_head }
head_numbers (done h) = record { refused = 0; head = h }

-- what was read, and the position after it
unfoldable pub reading_numbers : Reply Reading → ℕ → HtReading
reading_numbers (refused n) position = record { refused = n; at_end = 0; position = position; ticket = no_ticket }
reading_numbers (done at_end) position = record { refused = 0; at_end = 1; position = position; ticket = no_ticket }
reading_numbers (done (ticket t)) position = record { refused = 0; at_end = 0; position = position; ticket = t }

unfoldable pub count_numbers : Reply ℕ → HtTruckCount
count_numbers (refused n) = record { refused = n; trucks = 0 }
count_numbers (done n) = record { refused = 0; trucks = n }

unfoldable pub counts_numbers : Reply TrucksOfTwo → HtTruckCounts
counts_numbers (refused n) = record { refused = n; both = 0; either = 0; just_one = 0 }
counts_numbers (done n) = record { refused = 0; both = n.both; either = n.either; just_one = n.just_one }

-- 10 comes with the place; where the receptions do not part the field is 0
unfoldable pub parted_numbers : PartingReply → HtParted
parted_numbers (refused_at n place) = record { refused = n; place = place }
parted_numbers not_parted = record { refused = 0; place = 0 }

-- the mast, 1 or 2, and the bytes from the start of its reception
abbrev pub mast_number : Mast → ℕ
mast_number first_mast = 1
mast_number second_mast = 2

unfoldable pub part_numbers : Part → HtReception
part_numbers part = record { mast = mast_number part.mast; bytes = part.bytes }

unfoldable pub paired_numbers : Reply Counts → HtPaired
paired_numbers (refused n) = record { refused = n; pairs = 0; left_first = 0; left_second = 0 }
paired_numbers (done n) = record { refused = 0; pairs = n.pairs; left_first = n.left_first; left_second = n.left_second }
