-- What was read of a file.
use Rattle.std.specs.Prelude.{◌≡◌, List, ℕ, ◌<◌, codes}
use Rattle.recorded.specs.declared.entry.EntryPoint.TheVariants.{ConfigurationWalk}
use Rattle.recorded.specs.Entries.{number_of}
use Rattle.replays.specs.declared.file.RecordKind.{RecordKind}
use Rattle.replays.specs.declared.file.RecordKind.TheVariants.{Call, Walk}
use Rattle.replays.specs.declared.file.Replayed.{Replayed}

abbrev pub kind_name : RecordKind → List ℕ
kind_name Call = codes "call"
kind_name Walk = codes "walk"

-- what was read of calls is counted as a call, "entry: 0 root attach, .., 6 connection change", and what was read of walks as a walk
abbrev pub IsOf : RecordKind → Replayed → Type 0
IsOf Call replayed = number_of replayed.entry < 7
IsOf Walk replayed = replayed.entry ≡ ConfigurationWalk
