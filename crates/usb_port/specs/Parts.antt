-- The parts of the model's programs for which the code has functions of their own.
use Rattle.std.specs.Prelude.{ℕ}
use Rattle.usb_model.specs.Programs.{◌>>◌, ignore}
use Rattle.usb_model.specs.World.{M, micro_delay}
use Rattle.usb_model.specs.Features.{port_reset, c_port_reset}
use Rattle.usb_model.specs.Hub.{set_port_feature, clear_port_feature, hub_port_get_status}

-- ---- lines of `await_reset`, `await_enabled`, `hub_port_reset2` and `reset_tries`

unfoldable pub delayed_status : ℕ → ℕ → ℕ → M (Unit {0})
delayed_status hub port microseconds = do
  micro_delay microseconds
  hub_port_get_status hub port

unfoldable pub reset_port : ℕ → ℕ → M (Unit {0})
reset_port hub port = do
  ignore (clear_port_feature hub c_port_reset port)
  set_port_feature hub port_reset port
