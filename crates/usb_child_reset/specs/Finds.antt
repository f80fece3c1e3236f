-- What the port of a child is: `port_of_child`, which changes nothing.
use Rattle.std.specs.Prelude.{◌≡◌, List, ℕ, ◌<◌, Option, None, Some, IfSome, Result, Ok, Err}
use Rattle.usb_types.specs.declared.types.ErrorCode.TheVariants.{Argument}
use Rattle.usb_types.specs.declared.types.Failure.{Failure}
use Rattle.usb_types.specs.declared.types.Failure.TheVariants.{Error}
use Rattle.usb_store.specs.Layout.{ports_per_hub}
use Rattle.usb_model.specs.Programs.{ran}
use Rattle.usb_model.specs.World.{World}
use Rattle.usb_model.specs.Hub.{port_of_child}

abbrev pub found : Option ℕ → Result ℕ Failure
found (Some port) = Ok port
found None = Err (Error Argument)

-- in every world with that store
pub record Finds (hub child : ℕ) (s : List ℕ) (r : Option ℕ) : Type 0 where
  pub is : (w : World) → w.store ≡ s → port_of_child hub child w ≡ ran (found r) w
  pub port : IfSome r (λ port. port < ports_per_hub)
