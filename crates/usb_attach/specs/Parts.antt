-- The lines of `usb_attach_device` up to the class of the device.
use Rattle.std.specs.Prelude.{ℕ}
use Rattle.usb_store.specs.Layout.{number_field, status_field}
use Rattle.usb_store.specs.Values.{default_status}
use Rattle.usb_model.specs.Programs.{◌>>=◌, ◌>>◌, succeed, attempt}
use Rattle.usb_model.specs.World.{M, get, put}
use Rattle.usb_model.specs.Usbd.{usb_read_device_descriptor, usb_set_address, usb_configure}

unfoldable pub default_state : ℕ → M (Unit {0})
default_state place = do
  put place number_field 0
  usb_read_device_descriptor place
  put place status_field default_status

unfoldable pub addressed : ℕ → ℕ → M (Unit {0})
addressed place address = do
  result ← attempt (usb_set_address place address)
  put place number_field address
  succeed result

unfoldable pub described : ℕ → M (Unit {0})
described place = do
  usb_read_device_descriptor place
  usb_configure place 0

unfoldable pub enumerated : ℕ → M (Unit {0})
enumerated place = do
  address ← get place number_field
  default_state place
  addressed place address
  described place
