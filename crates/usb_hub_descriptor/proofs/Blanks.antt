-- `hub_read_descriptor` from the blank descriptor on, written line by line. Assumes nothing.
use Rattle.std.specs.Prelude.{ℕ, eqb}
use Rattle.usb_types.specs.Answers.{Answer}
use Rattle.usb_store.specs.Layout.{hub_field, hub_descriptor_field}
use Rattle.usb_store.specs.Values.{hub_without_descriptor, hub_with_descriptor}
use Rattle.usb_device.specs.Device.{blank}
use Rattle.usb_model.specs.Programs.{◌>>=◌, ◌>>◌, look, when}
use Rattle.usb_model.specs.World.{M, get, put, put_bytes}
use Rattle.usb_transfer.specs.declared.bus.UsbBus.{UsbBus}
use Rattle.usb_transfer.specs.Runs.{Does}
use Rattle.usb_hub_descriptor.specs.Parts.{put_blank}

pub regrouped : (hub : ℕ) (k : M (Unit {0})) {b b' : UsbBus} {r : Answer} → Does (put_blank hub >> k) b b' r
    → Does (get hub hub_field >>= λ data'. when (eqb data' hub_without_descriptor) (put hub hub_field hub_with_descriptor
    >> put_bytes hub hub_descriptor_field (blank 9)) >> k) b b' r
unfolding put_blank get look ◌>>=◌ ◌>>◌
regrouped hub k d = record { is = d.is; fit = d.fit; lends = d.lends }
