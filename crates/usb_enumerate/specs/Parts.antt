-- The parts of the model's programs for which the code has functions of their own, and what the allocation of a place promises.
use Rattle.std.specs.Prelude.{◌≡◌, cond, ℕ, eqb, Result}
use Rattle.usb_types.specs.declared.types.Failure.{Failure}
use Rattle.usb_store.specs.Values.{low_speed}
use Rattle.usb_model.specs.Programs.{ran}
use Rattle.usb_model.specs.Usbd.{usb_allocate_device}
use Rattle.usb_transfer.specs.declared.bus.UsbBus.{UsbBus}
use Rattle.usb_transfer.specs.Runs.{world, Ready, Lends}

-- low speed devices have packets of 8 bytes
unfoldable pub first_size : ℕ → ℕ
first_size speed = cond (eqb speed low_speed) 8 64

-- it gave a place or none, whatever log and outcomes are, and left these as they were, and how far the call has come
pub record Allocates (bus bus' : UsbBus) (r : Result ℕ Failure) : Type 0 where
  pub is : usb_allocate_device (world bus) ≡ ran r (world bus')
  pub logged : bus'.log.now ≡ bus.log.now
  pub at : bus'.at ≡ bus.at
  pub fit : Ready bus → Ready bus'
  pub lends : Lends bus bus'
