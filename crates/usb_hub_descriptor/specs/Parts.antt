-- The lines of `hub_read_descriptor` for which the code has a function of its own.
use Rattle.std.specs.Prelude.{ℕ, eqb}
use Rattle.usb_store.specs.Layout.{hub_field, hub_descriptor_field}
use Rattle.usb_store.specs.Values.{hub_without_descriptor, hub_with_descriptor}
use Rattle.usb_device.specs.Device.{blank}
use Rattle.usb_model.specs.Programs.{◌>>=◌, ◌>>◌, when}
use Rattle.usb_model.specs.World.{M, get, put, put_bytes}

unfoldable pub put_blank : ℕ → M (Unit {0})
put_blank hub = do
  data' ← get hub hub_field
  when (eqb data' hub_without_descriptor) (do
    put hub hub_field hub_with_descriptor
    put_bytes hub hub_descriptor_field (blank 9))
