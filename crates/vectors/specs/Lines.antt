-- What is written of the counts.
use Rattle.std.specs.Prelude.{List, [], ◌∷◌, ◌++◌, ℕ, codes, decimal}
use Rattle.std.specs.List.{flat_map}
use Rattle.recorded.specs.declared.entry.EntryPoint.{EntryPoint}
use Rattle.recorded.specs.declared.entry.EntryPoint.TheVariants.{RootAttach, Scan, PortCheck, ChildReset, ChildCheck}
use Rattle.recorded.specs.declared.entry.EntryPoint.TheVariants.{RetriedReset, ConnectionChange, ConfigurationWalk}
use Rattle.recorded.specs.Entries.{name}
use Rattle.sequences.specs.declared.tally.Tally.{Tally}
use Rattle.sequences.specs.Counts.{count_of, count_text}
use Rattle.replays.specs.declared.file.RecordKind.{RecordKind}
use Rattle.replays.specs.Files.{kind_name}

-- how many records of an entry point agreed, of how many
abbrev pub count_line : Tally → EntryPoint → List ℕ
count_line tally entry = name entry ++ codes ": " ++ count_text (count_of tally.counts entry) ++ codes "\n"

unfoldable pub entry_points : List EntryPoint
entry_points =
    RootAttach ∷ Scan ∷ PortCheck ∷ ChildReset ∷ ChildCheck ∷ RetriedReset ∷ ConnectionChange ∷ ConfigurationWalk ∷ []

-- a line for each entry point, in the order of their numbers
abbrev pub count_lines : Tally → List ℕ
count_lines tally = flat_map (count_line tally) entry_points

-- a line for a call or walk that differs
abbrev pub differing_line : RecordKind → ℕ → List ℕ
differing_line kind number = kind_name kind ++ codes " " ++ decimal number ++ codes " differs\n"

abbrev pub differing : RecordKind → List ℕ → List ℕ
differing kind numbers = flat_map (differing_line kind) numbers
