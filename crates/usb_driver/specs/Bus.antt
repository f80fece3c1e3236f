-- What the functions that attach devices rely on and promise.
use Rattle.std.specs.Prelude.{ℕ, ◌≤◌, ◌<◌}
use Rattle.usb_types.specs.Answers.{Answer}
use Rattle.usb_store.specs.Layout.{place_count}
use Rattle.usb_device.specs.Device.{first_unused, free_places}
use Rattle.usb_model.specs.World.{World, M}
use Rattle.usb_model.specs.Attach.{attach_below}
use Rattle.usb_model.specs.Kept.{Good}
use Rattle.usb_transfer.specs.declared.bus.UsbBus.{UsbBus}
use Rattle.usb_transfer.specs.Runs.{world, Fit, Does}

-- the rules of a sound store on which loops and recursion rest, and a place that is used
pub record Bus (place : ℕ) (w : World) : Type 0 where
  pub fit : Fit w
  pub good : Good w
  pub used : place < first_unused w.store
  pub inside : place < place_count

abbrev pub OnBus : ℕ → UsbBus → Type 0
OnBus place bus = Bus place (world bus)

-- it ran m and answered r, whatever bound m's attaches have that is not below the free places
abbrev pub Attaches : ((ℕ → M (Unit {0})) → M (Unit {0})) → UsbBus → UsbBus → Answer → Type 0
Attaches m bus bus' r = (n : ℕ) → free_places bus.store.now ≤ n → Does (m (attach_below n)) bus bus' r
