-- The lines of `hub_check_connection_device` for which the code has a function of its own.
use Rattle.std.specs.Prelude.{not, ℕ, ◌+◌, eqb}
use Rattle.usb_types.specs.declared.types.ErrorCode.TheVariants.{Device}
use Rattle.usb_store.specs.Layout.{child_field}
use Rattle.usb_model.specs.Programs.{◌>>=◌, ◌>>◌, throw, when}
use Rattle.usb_model.specs.World.{M, get}
use Rattle.usb_model.specs.Hub.{hub_check_connection}

unfoldable pub check_child : (ℕ → M (Unit {0})) → ℕ → ℕ → ℕ → M (Unit {0})
check_child attach hub child port = do
  hub_check_connection attach hub port
  stands ← get hub (child_field port)
  when (not (eqb stands (child + 1))) (throw Device)
