-- `sequences::tallies::tally` meets its contract. Assumes nothing.
use Rattle.sequences.proofs.tallies.tally.Goals as goal

pub returns-then-agrees : goal.returns-then-agrees
returns-then-agrees c =
    let ok = c.if-agrees.true in
    record { seen_after = c.count.ensures; tallied = record { counts = simp ok c.count-then-agrees.ensures; notes = simp ok; number_noted = simp ok } }

pub returns : goal.returns
returns c =
    let differs = c.if-agrees.false in
    let noted = c.note.ensures in
    record { seen_after = c.count.ensures; tallied = record { counts = simp differs; notes = simp differs noted.0; number_noted = simp differs noted.1 } }
