-- What the replay of a file leaves in the counts.
use Rattle.std.specs.Prelude.{◌≡◌, ℕ, ◌+◌}
use Rattle.sequences.specs.declared.tally.Tally.{Tally}
use Rattle.sequences.specs.Counts.{tallied}
use Rattle.replays.specs.declared.file.RecordKind.{RecordKind}
use Rattle.replays.specs.declared.file.Replayed.{Replayed}
use Rattle.replays.specs.Files.{IsOf}

-- the tally after n records of a file, whatever these are: each record is tallied by its number, from 0
pub data Counted (kind : RecordKind) (tally : Tally) : ℕ → Tally → Type 0 where
  none : Counted kind tally 0 tally
  another : {n : ℕ} {before after : Tally} (r : Replayed)
      → Counted kind tally n before → IsOf kind r → after ≡ tallied before r.entry r.agrees n
      → Counted kind tally (n + 1) after

-- all records that were read are counted
pub record CountsFile (kind : RecordKind) (tally tally' : Tally) : Type 0 where
  pub records : ℕ
  pub counts : Counted kind tally records tally'
