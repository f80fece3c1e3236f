-- What was read of a file.
use Rattle.std.specs.Prelude.{◌≡◌, Bool, true, List, ℕ, ◌*◌, ◌<◌, ◌++◌, length, take, drop, None, Some}
use Rattle.std.specs.declared.option.Option.{Option}
use Rattle.std.specs.Io.KnownBytes.{Consumes}
use Rattle.recorded.specs.Heads.{asked_in, recorded_in, walk_in, fits, walk_fits}
use Rattle.recorded.specs.declared.file.RecordedCall.{RecordedCall}
use Rattle.recorded.specs.declared.head.RecordedWalk.{RecordedWalk}

-- n bytes were asked for into a buffer: the bytes behind them stay, and every file holds 0 bytes more
pub record Asks (n : ℕ) (buffer buffer' : List ℕ) (r : Bool) : Type 0 where
  pub long : length buffer' ≡ length buffer
  pub behind : drop n buffer' ≡ drop n buffer
  pub none : n ≡ 0 → r ≡ true

-- a call that was read may be run in the buffers that there are; its number of edits is a byte
abbrev pub CallRead : Option RecordedCall → Type 0
CallRead (Some call) = (fits call.asked ≡ true) × (call.asked.edits < 256)
CallRead None = Unit {0}

-- likewise a walk
abbrev pub WalkRead : Option RecordedWalk → Type 0
WalkRead (Some walk) = walk_fits walk ≡ true
WalkRead None = Unit {0}

-- a call that was read is what a reader had left before: its head, its edits and its outcomes, which stand at the front of the buffers
abbrev pub CallIsNext : Option (List ℕ) → Option (List ℕ) → List ℕ → List ℕ → Option RecordedCall → Type 0
CallIsNext old new edits outcomes (Some call) =
    (head : List ℕ) × (length head ≡ 48) × (call.asked ≡ asked_in head) × (call.recorded ≡ recorded_in head)
    × Consumes old new (head ++ take (call.asked.edits * 5) edits ++ take call.asked.outcomes_len outcomes)
CallIsNext old new edits outcomes None = Unit {0}

-- likewise a walk: its head and its descriptors
abbrev pub WalkIsNext : Option (List ℕ) → Option (List ℕ) → List ℕ → Option RecordedWalk → Type 0
WalkIsNext old new descriptors (Some walk) =
    (head : List ℕ) × (length head ≡ 16) × (walk ≡ walk_in head)
    × Consumes old new (head ++ take walk.descriptors_len descriptors)
WalkIsNext old new descriptors None = Unit {0}
