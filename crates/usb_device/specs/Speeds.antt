-- The byte of a speed.
use Rattle.std.specs.Prelude.{ℕ}
use Rattle.usb_store.specs.Values.{high_speed, full_speed, low_speed}
use Rattle.usb_device.specs.declared.device.UsbSpeed.{UsbSpeed}
use Rattle.usb_device.specs.declared.device.UsbSpeed.TheVariants.{High, Full, Low}

abbrev pub speed_number : UsbSpeed → ℕ
speed_number High = high_speed
speed_number Full = full_speed
speed_number Low = low_speed
