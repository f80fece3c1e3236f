-- A result of which only a stop goes on upward. Assumes nothing.
use Rattle.std.specs.Prelude.{◌≡◌, Ok, Err}
use Rattle.usb_types.specs.Answers.{Answer}
use Rattle.usb_types.specs.declared.types.Failure.{Failure}
use Rattle.usb_types.specs.declared.types.Failure.TheVariants.{Error, Stop}
use Rattle.usb_model.specs.Programs.{attempt}
use Rattle.usb_model.specs.World.{M}
use Rattle.usb_transfer.specs.declared.bus.UsbBus.{UsbBus}
use Rattle.usb_transfer.specs.Runs.{Does}
use Rattle.usb_transfer.proofs.Steps.{NotStop, attempted, attempt_stopped}
use Rattle.usb_hub.specs.Parts.{ignored}

not_stop : (a : Answer) → Ok tt ≡ ignored a → NotStop a
not_stop (Ok x) e = tt
not_stop (Err (Error c)) e = tt
not_stop (Err (Stop h)) e = cc

module _ {m : M (Unit {0})} {b b₁ : UsbBus} where
  pub kept : {a : Answer} → Ok tt ≡ ignored a → Does m b b₁ a → Does (attempt m) b b₁ (Ok a)
  kept {a} e d = attempted d (not_stop a e)

  pub stopped : (a : Answer) {f : Failure} → Err f ≡ ignored a → Does m b b₁ a → Does {A = Answer} (attempt m) b b₁ (Err f)
  stopped (Ok x) e d = cc
  stopped (Err (Error c)) e d = cc
  stopped (Err (Stop h)) {f} e d = let same : f ≡ Stop h = cc in rw same (attempt_stopped d)
