-- Every action has 16 bytes. Assumes nothing.
use mathlib.Core.Path.{◌≡◌, refl}
use Prim.Native.Nat.{ℕ}
use lib.ListN.{length}
use Rattle.usb_types.specs.declared.request.UsbDeviceRequest.{UsbDeviceRequest}
use Rattle.usb_types.specs.declared.pipe.UsbPipeAddress.{UsbPipeAddress}
use Rattle.usb_types.specs.Actions.{request_action, wait_action, frame_interval_action}

pub request_length : (pipe : UsbPipeAddress) (q : UsbDeviceRequest) → length (request_action pipe q) ≡ 16
request_length pipe q = refl

pub wait_length : (microseconds : ℕ) → length (wait_action microseconds) ≡ 16
wait_length microseconds = refl

pub frame_length : length frame_interval_action ≡ 16
frame_length = refl
