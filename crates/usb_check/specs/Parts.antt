-- The lines of `hub_check_connection` that attach no device.
use Rattle.std.specs.Prelude.{Bool, not, ◌&&◌, ◌||◌, ℕ, suc, Option, None, Some, eqb}
use Rattle.usb_store.specs.Layout.{number_field, child_field}
use Rattle.usb_model.specs.Programs.{◌>>=◌, ◌>>◌, return, ignore, when}
use Rattle.usb_model.specs.World.{M, get}
use Rattle.usb_model.specs.Features.{port_connection, port_enable, port_suspend, port_over_current, c_port_connection, c_port_enable, c_port_over_current, c_port_reset, bit}
use Rattle.usb_model.specs.Hub.{differ, clear_port_feature, hub_power_on, hub_port_get_status, port_status}
use Rattle.usb_check.specs.declared.Due.{Due}

unfoldable pub clear_if : ℕ → ℕ → ℕ → Bool → M (Unit {0})
clear_if hub feature port due = when due (clear_port_feature hub feature port)

-- "Over-current is answered by ClearFeature 3"
unfoldable pub over_current : ℕ → ℕ → ℕ → M (Unit {0})
over_current hub port status = when (bit c_port_over_current status) (do
  ignore (clear_port_feature hub port_over_current port)
  ignore (hub_power_on hub))

unfoldable pub clear_changes : ℕ → ℕ → ℕ → M (Unit {0})
clear_changes hub port status = do
  over_current hub port status
  ignore (clear_if hub c_port_enable port (bit c_port_enable status))

-- "0 none, else place + 1"
abbrev pub child_byte : Option ℕ → ℕ
child_byte None = 0
child_byte (Some place) = suc place

-- a connected port with a child was disabled
unfoldable pub is_dropped : ℕ → ℕ → Bool
is_dropped status child =
    bit c_port_enable status && (not (bit port_enable status) && bit port_connection status && not (eqb child 0))

-- "On the root hub, which is known by its number, a change of the connected bit counts as a connection change"
unfoldable pub is_changed : ℕ → ℕ → ℕ → Bool
is_changed number before status =
    bit c_port_connection status || (eqb number 1 && differ (bit port_connection before) (bit port_connection status))

-- the first read, and the changes that are cleared before a connection change is started
unfoldable pub start_check : ℕ → ℕ → M Due
start_check hub port = do
  before ← port_status hub port
  hub_port_get_status hub port
  status ← port_status hub port
  number ← get hub number_field
  clear_changes hub port status
  child ← get hub (child_field port)
  return (record { status = status; dropped = is_dropped status child; changed = is_changed number before status })

unfoldable pub end_check : ℕ → ℕ → ℕ → M (Unit {0})
end_check hub port status = do
  clear_if hub port_suspend port (bit port_suspend status)
  clear_if hub c_port_reset port (bit c_port_reset status)
