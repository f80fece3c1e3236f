-- The lines of `await_enabled` and `reset_tries` for which the code has functions of their own.
use Rattle.std.specs.Prelude.{Bool, not, ◌&&◌, ◌||◌, ℕ}
use Rattle.usb_types.specs.declared.types.ErrorCode.TheVariants.{Device}
use Rattle.usb_model.specs.Programs.{◌>>=◌, ◌>>◌, return, throw, when}
use Rattle.usb_model.specs.World.{M}
use Rattle.usb_model.specs.Features.{port_connection, port_enable, port_reset, c_port_connection, c_port_reset, bit}
use Rattle.usb_model.specs.Hub.{set_port_feature, port_status, await_enabled}

unfoldable pub reset_or_enabled : ℕ → Bool
reset_or_enabled status = bit c_port_reset status || bit port_enable status

unfoldable pub is_lost : ℕ → Bool
is_lost status = bit c_port_connection status || not (bit port_connection status)

-- one try: was the port seen enabled?
unfoldable pub try_reset : ℕ → ℕ → M Bool
try_reset hub port = do
  set_port_feature hub port_reset port
  seen ← await_enabled 10 hub port
  status ← port_status hub port
  when (seen && is_lost status) (throw Device)
  return (seen && bit port_enable status)
