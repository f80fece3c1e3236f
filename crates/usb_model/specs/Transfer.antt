-- usbd.rs: the control transfer over document 01's stand-in for `HcdSubmitControlMessage`, and the descriptor read.
use Rattle.std.specs.Prelude.{not, List, ℕ, ◌+◌, ◌*◌, min, ltb, length, get_or, take, drop}
use Rattle.usb_types.specs.Numbers.{number_in}
use Rattle.usb_types.specs.Outcomes.{listed, error_word, result_of}
use Rattle.usb_types.specs.Requests.{get_descriptor_code, device_request}
use Rattle.usb_types.specs.Actions.{packet_size, request_action}
use Rattle.usb_types.specs.declared.types.ErrorCode.TheVariants.{Device}
use Rattle.usb_types.specs.declared.types.Halt.TheVariants.{GarbledOutcome, OutcomesSpent}
use Rattle.usb_types.specs.declared.request.UsbDeviceRequest.{UsbDeviceRequest}
use Rattle.usb_store.specs.Layout.{number_field, speed_field, error_field, last_transfer_field, max_packet_size0_field}
pub use Rattle.usb_model.specs.declared.Buffer.{Buffer}
use Rattle.usb_model.specs.Programs.{◌>>=◌, ◌>>◌, return, throw, stop, look, change, succeed, when}
use Rattle.usb_model.specs.World.{World, M, get, put_bytes, put_number, log_request}

-- "byte 0 is the submit code, byte 1 the error", and the bytes that were delivered
pub record Outcome : Type 0 where
  pub submit : ℕ
  pub error : ℕ
  pub delivered : List ℕ

-- so many bytes of the outcomes further
abbrev pub taken : ℕ → World → World
taken n w = record {
  store = w.store;
  log = w.log;
  outcomes = w.outcomes;
  at = record { logged = w.at.logged; taken = w.at.taken + n; requests = w.at.requests };
}

-- what is left of the outcomes
abbrev pub outcomes_left : World → List ℕ
outcomes_left w = drop w.at.taken w.outcomes

-- "bytes 2-3 the length, then that many data bytes", of the first of some outcomes
abbrev pub size_of : List ℕ → ℕ
size_of outcomes = number_in outcomes 2 2

-- that outcome, for a request that asks for so many bytes: "deliver the first min(length, asked) bytes"
abbrev pub outcome_of : ℕ → List ℕ → Outcome
outcome_of asked outcomes = record {
  submit = get_or outcomes 0 0;
  error = get_or outcomes 1 0;
  delivered = take (min (size_of outcomes) asked) (drop 4 outcomes);
}

-- "An outcome with fewer than 4 header bytes is −14, then −13 is tested, then missing data is −14"
unfoldable pub take_outcome : ℕ → M Outcome
take_outcome asked = do
  outcomes ← look outcomes_left
  when (ltb (length outcomes) 4) (stop OutcomesSpent)
  when (not (listed (get_or outcomes 0 0) (get_or outcomes 1 0))) (stop GarbledOutcome)
  when (ltb (length outcomes) (4 + size_of outcomes)) (stop OutcomesSpent)
  change (taken (4 + size_of outcomes))
  return (outcome_of asked outcomes)

-- where delivered bytes go: at most `room` of them, to a field of the device
abbrev pub into : ℕ → ℕ → Buffer
into field room = record { field = field; room = room }

-- the bytes are handed back and not stored
abbrev pub nowhere : Buffer
nowhere = into 0 0

-- `UsbControlMessage` (USB 2.0 9.3), a request of the device at a place to an address. "An action is logged before its outcome is
-- taken"; "store error, deliver .., set last transfer to that count, return the code; failures deliver too". The result that
-- `UsbControlMessage` makes of the code and the error is `result_of`.
unfoldable pub usb_control_message : ℕ → ℕ → UsbDeviceRequest → Buffer → M (List ℕ)
usb_control_message place address request buffer = do
  speed ← get place speed_field
  size ← get place max_packet_size0_field
  log_request (request_action (record { device = address; speed = speed; max_size = packet_size size }) request)
  outcome ← take_outcome request.length
  put_number place error_field 4 (error_word outcome.error)
  put_bytes place buffer.field (take buffer.room outcome.delivered)
  put_number place last_transfer_field 4 (length outcome.delivered)
  succeed (result_of outcome.submit outcome.error)
  return outcome.delivered

-- a request to the device's own number
unfoldable pub control : ℕ → UsbDeviceRequest → Buffer → M (List ℕ)
control place request buffer = do
  address ← get place number_field
  usb_control_message place address request buffer

-- the same, where less than `minimum` bytes are an error: `if device.last_transfer < minimum { return ErrorDevice; }`
unfoldable pub read : ℕ → UsbDeviceRequest → ℕ → Buffer → M (List ℕ)
read place request minimum buffer = do
  bytes ← control place request buffer
  when (ltb (length bytes) minimum) (throw Device)
  return bytes

-- `UsbGetDescriptor` (USB 2.0 9.4.3): type and index are the two bytes of wValue, and no language is named
unfoldable pub usb_get_descriptor : ℕ → ℕ → ℕ → ℕ → ℕ → ℕ → Buffer → M (List ℕ)
usb_get_descriptor place recipient type index size minimum buffer =
    read place (device_request recipient get_descriptor_code (type * 256 + index) 0 size) minimum buffer
