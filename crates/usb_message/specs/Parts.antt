-- The parts of the control message for which the code has functions of their own, and what the functions promise.
use Rattle.std.specs.Prelude.{List, ℕ, ◌+◌, ◌≤◌, ◌<◌, length, take}
use Rattle.usb_types.specs.Outcomes.{error_word, result_of}
use Rattle.usb_types.specs.Actions.{packet_size}
use Rattle.usb_types.specs.declared.pipe.UsbPipeAddress.{UsbPipeAddress}
use Rattle.usb_store.specs.Layout.{place_length, place_count, speed_field, last_transfer_field, max_packet_size0_field}
use Rattle.usb_store.specs.Layout as Layout
use Rattle.usb_store.specs.Access.{byte_at}
use Rattle.usb_model.specs.declared.Buffer.{Buffer}
use Rattle.usb_model.specs.Programs.{◌>>=◌, ◌>>◌, return, succeed}
use Rattle.usb_model.specs.World.{M, put_bytes, put_number}
use Rattle.usb_model.specs.Transfer.{take_outcome}

-- the pipe of the device at a place to an address
abbrev pub pipe_of : List ℕ → ℕ → ℕ → UsbPipeAddress
pipe_of store place address = record {
  device = address;
  speed = byte_at store place speed_field;
  max_size = packet_size (byte_at store place max_packet_size0_field);
}

-- the place of a device, and room for the bytes in it
pub record Fits (place : ℕ) (buffer : Buffer) : Type 0 where
  pub inside : place < place_count
  pub room : buffer.field + buffer.room ≤ place_length

-- "store error, deliver .., set last transfer to that count"
unfoldable pub keeping : ℕ → ℕ → List ℕ → Buffer → M (Unit {0})
keeping place error bytes buffer = do
  put_number place Layout.error_field 4 (error_word error)
  put_bytes place buffer.field (take buffer.room bytes)
  put_number place last_transfer_field 4 (length bytes)

-- `usb_control_message` from the outcome on
unfoldable pub receiving : ℕ → ℕ → Buffer → M (List ℕ)
receiving place asked buffer = do
  outcome ← take_outcome asked
  keeping place outcome.error outcome.delivered buffer
  succeed (result_of outcome.submit outcome.error)
  return outcome.delivered
