-- The 16 bytes of an action (document 01, "Action").
use Rattle.std.specs.Prelude.{cond, List, ◌∷◌, ◌++◌, ℕ, ltb, replicate}
use Rattle.usb_types.specs.Numbers.{little_endian}
use Rattle.usb_types.specs.Requests.{setup_bytes, direction_bit}
use Rattle.usb_types.specs.declared.request.UsbDeviceRequest.{UsbDeviceRequest}
use Rattle.usb_types.specs.declared.pipe.UsbPipeAddress.{UsbPipeAddress}

-- "16 bytes"
abbrev pub action_length : ℕ
action_length = 16

-- "packet size (0 to 3 for 8, 16, 32, 64)", by the rule of types.rs
unfoldable pub packet_size : ℕ → ℕ
packet_size n = cond (ltb n 9) 0 (cond (ltb n 17) 1 (cond (ltb n 33) 2 3))

-- "kind (1 request ..), device address, direction (1 In), speed, packet size, three zeros, the 8 setup bytes"
abbrev pub request_action : UsbPipeAddress → UsbDeviceRequest → List ℕ
request_action pipe q =
    1 ∷ pipe.device ∷ direction_bit q.request_type ∷ pipe.speed ∷ pipe.max_size ∷ 0 ∷ 0 ∷ 0 ∷ setup_bytes q

-- "A wait has its microseconds in bytes 8-11; all else zero"
abbrev pub wait_action : ℕ → List ℕ
wait_action microseconds = (2 ∷ replicate 7 0) ++ little_endian 4 microseconds ++ replicate 4 0

-- "3 DwcUpdateHostFrameInterval"
abbrev pub frame_interval_action : List ℕ
frame_interval_action = 3 ∷ replicate 15 0
