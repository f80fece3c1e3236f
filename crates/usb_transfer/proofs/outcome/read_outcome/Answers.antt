-- `read_outcome` meets its contract. Assumes nothing.
use Rattle.std.proofs.Common.{sym}
use Rattle.usb_transfer.proofs.Outcomes.{takes_none, takes_garbled, takes_cut, takes_whole}
use Rattle.usb_transfer.proofs.outcome.read_outcome.Goals as goal

pub returns-then-rest-lt-HEADER_LEN : goal.returns-then-rest-lt-HEADER_LEN
returns-then-rest-lt-HEADER_LEN c = takes_none _ c.if-rest-lt-HEADER_LEN.true

pub returns-then-not-outcome_listed : goal.returns-then-not-outcome_listed
returns-then-not-outcome_listed c =
    takes_garbled _ c.if-rest-lt-HEADER_LEN.false (sym c.if-not-outcome_listed.ensures)

pub returns-then-rest-size : goal.returns-then-rest-size
returns-then-rest-size c = takes_cut _ c.if-rest-lt-HEADER_LEN.false (sym c.if-not-outcome_listed.ensures)
    (rw c.data_size-size.ensures.0 at c.if-rest-size.true)

pub returns : goal.returns
returns c =
    let size = c.data_size-size.ensures in
    rw size.0
    (takes_whole _ c.if-rest-lt-HEADER_LEN.false (sym c.if-not-outcome_listed.ensures)
    (rw size.0 at c.if-rest-size.false)
    (rw size.0 at size.1))
