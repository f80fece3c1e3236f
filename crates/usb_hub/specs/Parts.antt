-- The parts of the model's programs for which the code has functions of their own.
use Rattle.std.specs.Prelude.{Bool, cond, ℕ, zero, suc, Option, None, Some, Ok, Err, ◌+◌, ◌*◌, eqb}
use Rattle.usb_types.specs.Requests.{clear_feature_code, set_feature_code, to_port, device_request}
use Rattle.usb_types.specs.declared.request.UsbDeviceRequest.{UsbDeviceRequest}
use Rattle.usb_types.specs.Answers.{Answer}
use Rattle.usb_types.specs.declared.types.Failure.TheVariants.{Error, Stop}
use Rattle.usb_model.specs.Programs.{ignore, each}
use Rattle.usb_model.specs.World.{M}
use Rattle.usb_model.specs.Features.{port_power}
use Rattle.usb_model.specs.Hub.{set_port_feature}

-- a failure counts as Ok; a halt stays
abbrev pub ignored : Answer → Answer
ignored (Ok _) = Ok tt
ignored (Err (Error e)) = Ok tt
ignored (Err (Stop h)) = Err (Stop h)

-- the byte of a child: "0 none, else place + 1"
abbrev pub place_of : ℕ → Option ℕ
place_of zero = None
place_of (suc place) = Some place

abbrev pub feature_request : ℕ → ℕ → Bool → UsbDeviceRequest
feature_request feature port set = device_request to_port (cond set set_feature_code clear_feature_code) feature (port + 1) 0

-- the lines of `hub_power_on`
abbrev pub power_delay : ℕ → ℕ
power_delay count = cond (eqb count 0) 50 count * 2000

unfoldable pub power_ports : ℕ → ℕ → M (Unit {0})
power_ports hub count = each count 0 (λ port. ignore (set_port_feature hub port_power port))
