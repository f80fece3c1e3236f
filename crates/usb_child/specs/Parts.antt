-- The lines of `hub_port_connection_changed` up to the attach of the new device.
use Rattle.std.specs.Prelude.{Bool, not, ◌&&◌, ◌||◌, ℕ, ◌+◌, eqb}
use Rattle.usb_types.specs.declared.types.ErrorCode.TheVariants.{Incompatible}
use Rattle.usb_store.specs.Layout.{speed_field, port_number_field, parent_field, child_field}
use Rattle.usb_model.specs.Programs.{◌>>=◌, ◌>>◌, return, throw, when}
use Rattle.usb_model.specs.World.{M, get, put, micro_delay, dwc_update_host_frame_interval}
use Rattle.usb_model.specs.Features.{port_connection, port_enable, c_port_connection, bit}
use Rattle.usb_model.specs.Usbd.{usb_allocate_device}
use Rattle.usb_model.specs.Hub.{hub_port_get_status, clear_port_feature, port_status, hub_port_reset2, speed_of}

unfoldable pub start_change : ℕ → ℕ → M (Unit {0})
start_change hub port = do
  dwc_update_host_frame_interval
  hub_port_get_status hub port
  clear_port_feature hub c_port_connection port
  hub_port_get_status hub port

unfoldable pub no_new_device : ℕ → ℕ → Bool
no_new_device status child = (not (bit port_connection status) && not (bit port_enable status)) || not (eqb child 0)

unfoldable pub reset_changed : ℕ → ℕ → M (Unit {0})
reset_changed hub port = do
  start_change hub port
  status ← port_status hub port
  child ← get hub (child_field port)
  when (no_new_device status child) (throw Incompatible)
  micro_delay 300000
  hub_port_reset2 hub port

-- speed, hub and port of the device at a place
abbrev pub set_port : ℕ → ℕ → ℕ → M (Unit {0})
set_port hub port place = do
  status ← port_status hub port
  put place speed_field (speed_of status)
  put place parent_field (hub + 1)
  put place port_number_field port

unfoldable pub place_child : ℕ → ℕ → ℕ → M (Unit {0})
place_child hub port place = do
  put hub (child_field port) (place + 1)
  hub_port_get_status hub port
  set_port hub port place

unfoldable pub new_child : ℕ → ℕ → M ℕ
new_child hub port = do
  reset_changed hub port
  place ← usb_allocate_device
  place_child hub port place
  return place
