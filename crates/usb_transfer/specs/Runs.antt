-- What a function of the driver promises: that it ran a program of the model, from the world that its bus stands for at entry to the
-- one at exit.
use Rattle.std.specs.Prelude.{◌≡◌, List, ℕ, ◌≤◌, length, Result, Ok, Err}
use Rattle.std.specs.Borrow.{Bor}
use Rattle.usb_types.specs.Answers.{Answer}
use Rattle.usb_types.specs.declared.types.Failure.{Failure}
use Rattle.usb_store.specs.Layout.{store_length}
use Rattle.usb_model.specs.declared.Progress.{Progress}
use Rattle.usb_model.specs.Programs.{ran}
use Rattle.usb_model.specs.World.{World, M}
use Rattle.usb_transfer.specs.declared.bus.UsbBus.{UsbBus}

-- what a bus lends, and how far the call has come
abbrev pub world : UsbBus → World
world bus = record { store = bus.store.now; log = bus.log.now; outcomes = bus.outcomes.now; at = bus.at }

-- where a call starts
abbrev pub nothing_done : Progress
nothing_done = record { logged = 0; taken = 0; requests = 0 }

-- what every function may rely on, and keeps
pub record Fit (w : World) : Type 0 where
  pub whole : length w.store ≡ store_length
  pub logged : w.at.logged ≤ length w.log
  pub taken : w.at.taken ≤ length w.outcomes
  pub counted : w.at.requests ≤ w.at.logged

abbrev pub Ready : UsbBus → Type 0
Ready bus = Fit (world bus)

-- the same slices are lent, of the same lengths
pub record Lends (bus bus' : UsbBus) : Type 0 where
  pub store : bus'.store.ghost_name ≡ bus.store.ghost_name
  pub log : bus'.log.ghost_name ≡ bus.log.ghost_name
  pub outcomes : bus'.outcomes ≡ bus.outcomes
  pub store_length : length bus'.store.now ≡ length bus.store.now
  pub log_length : length bus'.log.now ≡ length bus.log.now

-- it ran m and answered r
pub record Does {A : Type 0} (m : M A) (bus bus' : UsbBus) (r : Result A Failure) : Type 0 where
  pub is : m (world bus) ≡ ran r (world bus')
  pub fit : Ready bus'
  pub lends : Lends bus bus'

-- ---- the log alone

pub record Room (bus : UsbBus) : Type 0 where
  pub logged : bus.at.logged ≤ length bus.log.now
  pub counted : bus.at.requests ≤ bus.at.logged

-- it ran m on the log and answered r, whatever store and outcomes are, and left these as they were
pub record Logs (m : M (Unit {0})) (bus bus' : UsbBus) (r : Answer) : Type 0 where
  pub is : m (world bus) ≡ ran r (world bus')
  pub stored : bus'.store.now ≡ bus.store.now
  pub room : Room bus'
  pub taken : bus'.at.taken ≡ bus.at.taken
  pub fit : Ready bus → Ready bus'
  pub lends : Lends bus bus'

-- ---- parts of the outcomes

-- a part of the outcomes as its bytes
abbrev pub bytes_of : Result (Bor (List ℕ)) Failure → Result (List ℕ) Failure
bytes_of (Ok part) = Ok part.now
bytes_of (Err failure) = Err failure

-- it ran m and answered with the bytes of a slice
abbrev pub Gives : M (List ℕ) → UsbBus → UsbBus → Result (Bor (List ℕ)) Failure → Type 0
Gives m bus bus' r = Does m bus bus' (bytes_of r)
