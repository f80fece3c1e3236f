-- What the code reads at the start of the outcomes that are left, and what `take_outcome` makes of it.
use Rattle.std.specs.Prelude.{◌≡◌, List, ℕ, ◌+◌, ◌≤◌, ◌<◌, min, length, take, drop, Result, Ok, Err, IfOk}
use Rattle.usb_types.specs.declared.types.Halt.{Halt}
use Rattle.usb_model.specs.Programs.{Ran, done, halt}
use Rattle.usb_model.specs.World.{World}
use Rattle.usb_model.specs.Transfer.{Outcome, taken, take_outcome}
use Rattle.usb_transfer.specs.declared.outcome.Header.{Header}

-- how `take_outcome` ends where `rest` is left
abbrev pub took : ℕ → List ℕ → World → Result Header Halt → Ran World Outcome
took asked rest w (Ok h) =
    done (record { submit = h.submit; error = h.error; delivered = take (min h.size asked) (drop 4 rest) })
    (taken (4 + h.size) w)
took asked rest w (Err h) = halt h w

-- a whole outcome: both codes are listed, and the data is there
pub record Good (rest : List ℕ) (h : Header) : Type 0 where
  pub submit : h.submit < 10
  pub error : h.error < 32
  pub small : h.size < 65536
  pub inside : 4 + h.size ≤ length rest

-- the code read `rest`
pub record Takes (rest : List ℕ) (r : Result Header Halt) : Type 0 where
  pub is : (asked : ℕ) (w : World) → drop w.at.taken w.outcomes ≡ rest → take_outcome asked w ≡ took asked rest w r
  pub good : IfOk r (Good rest)
