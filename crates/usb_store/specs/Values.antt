-- The values that fields of a place hold (document 01, "Store").
use Rattle.std.specs.Prelude.{ℕ}

-- UsbSpeed
abbrev pub high_speed : ℕ
high_speed = 0

abbrev pub full_speed : ℕ
full_speed = 1

abbrev pub low_speed : ℕ
low_speed = 2

-- UsbDeviceStatus, USB 2.0 9.1
abbrev pub attached_status : ℕ
attached_status = 0

abbrev pub powered_status : ℕ
powered_status = 1

abbrev pub default_status : ℕ
default_status = 2

abbrev pub addressed_status : ℕ
addressed_status = 3

abbrev pub configured_status : ℕ
configured_status = 4

-- the hub byte: no hub data, hub data without descriptor, with
abbrev pub not_hub : ℕ
not_hub = 0

abbrev pub hub_without_descriptor : ℕ
hub_without_descriptor = 1

abbrev pub hub_with_descriptor : ℕ
hub_with_descriptor = 2
