-- usbd.rs: the device descriptor, address, configuration, and the place of a new device.
use Rattle.std.specs.Prelude.{if◌then◌else◌, not, ℕ, eqb, length}
use Rattle.usb_types.specs.Requests.{set_address_code, set_configuration_code, to_device, device_request}
use Rattle.usb_types.specs.Descriptors as Descriptors
use Rattle.usb_types.specs.declared.types.ErrorCode.TheVariants.{Device, BusFull}
use Rattle.usb_store.specs.Layout.{place_count, number_field, speed_field, status_field, configuration_index_field, device_descriptor_field, max_packet_size0_field, configuration_descriptor_field, total_length_field, configuration_value_field, interfaces_field}
use Rattle.usb_store.specs.Values.{high_speed, low_speed, default_status, addressed_status, configured_status}
use Rattle.usb_device.specs.Device.{new_device, first_unused}
use Rattle.usb_model.specs.Programs.{◌>>=◌, ◌>>◌, return, skip, throw, look, succeed, when}
use Rattle.usb_model.specs.World.{M, get, get_bytes, get_number, put, put_bytes, micro_delay}
use Rattle.usb_model.specs.Transfer.{into, nowhere, usb_control_message, control, usb_get_descriptor}
use Rattle.usb_model.specs.Walk.{record_length, walk}

-- a read of the device descriptor's 18 bytes (USB 2.0 table 9-8): how many came
unfoldable pub read_device_descriptor : ℕ → ℕ → M ℕ
read_device_descriptor place minimum = do
  bytes ← usb_get_descriptor place to_device Descriptors.device_descriptor_type 0 18 minimum (into device_descriptor_field 18)
  return (length bytes)

-- `UsbReadDeviceDescriptor` (USB 2.0 5.5.3): low and full speed devices may have a smaller packet size than was assumed, so 8 bytes
-- are enough for the first read, and the second goes by the packet size just delivered
unfoldable pub usb_read_device_descriptor : ℕ → M (Unit {0})
usb_read_device_descriptor place = do
  speed ← get place speed_field
  put place max_packet_size0_field (if eqb speed low_speed then 8 else 64)
  if eqb speed high_speed
      then (do
        read_device_descriptor place 18
        skip)
      else (do
        count ← read_device_descriptor place 8
        when (not (eqb count 18)) (do
          read_device_descriptor place 18
          skip))

-- `UsbSetAddress` (USB 2.0 9.4.6): the request goes to address 0. The device may take 2 ms to recover (9.2.6.3); the Rust waits 10.
unfoldable pub usb_set_address : ℕ → ℕ → M (Unit {0})
usb_set_address place address = do
  status ← get place status_field
  when (not (eqb status default_status)) (throw Device)
  usb_control_message place 0 (device_request to_device set_address_code address 0 0) nowhere
  micro_delay 10000
  put place number_field address
  put place status_field addressed_status

-- `UsbSetConfigure` (USB 2.0 9.4.7)
unfoldable pub usb_set_configure : ℕ → ℕ → M (Unit {0})
usb_set_configure place configuration = do
  status ← get place status_field
  when (not (eqb status addressed_status)) (throw Device)
  control place (device_request to_device set_configuration_code configuration 0 0) nowhere
  put place configuration_index_field configuration
  put place status_field configured_status

-- `UsbConfigure` (USB 2.0 9.4.3, 9.6.3): the configuration descriptor, then all of its wTotalLength bytes, over which the walk runs.
-- A total length of 0 still sends the second request.
unfoldable pub usb_configure : ℕ → ℕ → M (Unit {0})
usb_configure place configuration = do
  status ← get place status_field
  when (not (eqb status addressed_status)) (throw Device)
  usb_get_descriptor place to_device Descriptors.configuration_descriptor_type configuration 9 9 (into configuration_descriptor_field 9)
  total ← get_number place total_length_field 2
  full ← usb_get_descriptor place to_device Descriptors.configuration_descriptor_type configuration total total nowhere
  put place configuration_index_field configuration
  kept ← get_bytes place interfaces_field record_length
  let result = walk full kept
  put_bytes place interfaces_field result.kept
  succeed result.answer
  value ← get place configuration_value_field
  usb_set_configure place value

-- `UsbAllocateDevice`: the first place that is not used. "bus full: a child is due and all 32 places are used"
unfoldable pub usb_allocate_device : M ℕ
usb_allocate_device = do
  place ← look (λ w. first_unused w.store)
  when (eqb place place_count) (throw BusFull)
  put_bytes place 0 (new_device place)
  return place
