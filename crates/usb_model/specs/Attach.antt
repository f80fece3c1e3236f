-- usbd.rs: the attach of a device, and of the root hub.
use Rattle.std.specs.Prelude.{ℕ, zero, suc}
use Rattle.usb_types.specs.Descriptors.{is_hub_class}
use Rattle.usb_store.specs.Layout.{place_count, number_field, speed_field, status_field, interface_class_field}
use Rattle.usb_store.specs.Values.{default_status, powered_status}
use Rattle.usb_model.specs.Programs.{◌>>=◌, ◌>>◌, skip, succeed, attempt, when}
use Rattle.usb_model.specs.World.{M, get, put}
use Rattle.usb_model.specs.Usbd.{usb_read_device_descriptor, usb_set_address, usb_configure, usb_allocate_device}
use Rattle.usb_model.specs.Hub.{hub_attach}

-- `UsbAttachDevice` (USB 2.0 9.1.2): "A failed first descriptor read leaves number 0; a failed SetAddress restores it". "Interface
-- class 9 runs the hub attach"; the class is that of interface 0 of the record, whether one was stored or not. `attach` is the
-- attach of the devices behind a hub.
unfoldable pub usb_attach_device : (ℕ → M (Unit {0})) → ℕ → M (Unit {0})
usb_attach_device attach place = do
  address ← get place number_field
  put place number_field 0
  usb_read_device_descriptor place
  put place status_field default_status
  result ← attempt (usb_set_address place address)
  put place number_field address
  succeed result
  usb_read_device_descriptor place
  usb_configure place 0
  class ← get place interface_class_field
  when (is_hub_class class) (hub_attach attach place)

-- "A hub's attach starts its children's, which may start a hub's again. Free places fall": the number bounds the free places, and a
-- device is attached only after it has taken one, so attach_below 0 is never run (proofs/Cycle.antt, `attach_fuel`)
unfoldable pub attach_below : ℕ → ℕ → M (Unit {0})
attach_below zero place = skip
attach_below (suc free) place = usb_attach_device (attach_below free) place

-- the attach of a new device, on any store
abbrev pub attach_new : ℕ → M (Unit {0})
attach_new = attach_below place_count

-- `UsbAttachRootHub` where no root hub is attached: the speed is the root speed, and the hub has its power
unfoldable pub usb_attach_root_hub : ℕ → M (Unit {0})
usb_attach_root_hub speed = do
  place ← usb_allocate_device
  put place speed_field speed
  put place status_field powered_status
  attach_new place
