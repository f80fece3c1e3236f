-- The entry points: their numbers in calls.bin, and their names.
use Rattle.std.specs.Prelude.{◌≡◌, ℕ, ◌≤◌, ◌<◌, List, codes, MatchResult}
use Rattle.std.specs.declared.result.Result.{Result}
use Rattle.recorded.specs.declared.entry.EntryPoint.{EntryPoint}
use Rattle.recorded.specs.declared.entry.EntryPoint.TheVariants.{RootAttach, Scan, PortCheck, ChildReset, ChildCheck}
use Rattle.recorded.specs.declared.entry.EntryPoint.TheVariants.{RetriedReset, ConnectionChange, ConfigurationWalk}
use Rattle.recorded.specs.declared.entry.NoEntryPoint.{NoEntryPoint}

-- "entry: 0 root attach, 1 scan, 2 port check, 3 child reset, 4 child check, 5 retried reset, 6 connection change"; a walk comes after them
abbrev pub number_of : EntryPoint → ℕ
number_of RootAttach = 0
number_of Scan = 1
number_of PortCheck = 2
number_of ChildReset = 3
number_of ChildCheck = 4
number_of RetriedReset = 5
number_of ConnectionChange = 6
number_of ConfigurationWalk = 7

-- the entry point of a call that has this number, or none
abbrev pub IsNumbered : ℕ → Result EntryPoint NoEntryPoint → Type 0
IsNumbered number r = MatchResult r (λ entry. (number < 7) × (number_of entry ≡ number)) (λ _. 7 ≤ number)

abbrev pub name : EntryPoint → List ℕ
name RootAttach = codes "root attach"
name Scan = codes "scan"
name PortCheck = codes "port check"
name ChildReset = codes "child reset"
name ChildCheck = codes "child check"
name RetriedReset = codes "retried reset"
name ConnectionChange = codes "connection change"
name ConfigurationWalk = codes "configuration walk"
