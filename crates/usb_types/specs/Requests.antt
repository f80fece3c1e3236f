-- Setup packets (USB 2.0 9.3 and table 9-2).
use Rattle.std.specs.Prelude.{cond, ◌||◌, List, ◌∷◌, ◌++◌, ℕ, ◌+◌, ◌*◌, eqb, leb}
use Rattle.usb_types.specs.Numbers.{little_endian}
use Rattle.usb_types.specs.declared.request.UsbDeviceRequest.{UsbDeviceRequest}

-- bRequest, table 9-4
abbrev pub get_status_code : ℕ
get_status_code = 0

abbrev pub clear_feature_code : ℕ
clear_feature_code = 1

abbrev pub set_feature_code : ℕ
set_feature_code = 3

abbrev pub set_address_code : ℕ
set_address_code = 5

abbrev pub get_descriptor_code : ℕ
get_descriptor_code = 6

abbrev pub get_configuration_code : ℕ
get_configuration_code = 8

abbrev pub set_configuration_code : ℕ
set_configuration_code = 9

abbrev pub get_interface_code : ℕ
get_interface_code = 10

abbrev pub synch_frame_code : ℕ
synch_frame_code = 12

-- type and recipient, bits 6 to 0 of bmRequestType: standard to a device (table 9-3), class to a hub and to one of its
-- ports (table 11-15)
abbrev pub to_device : ℕ
to_device = 0

abbrev pub to_hub : ℕ
to_hub = 32

abbrev pub to_port : ℕ
to_port = 35

-- table 9-3: 1 for the standard requests whose data goes from the device to the host, In; GetStatus, ClearFeature, SetFeature
-- and GetDescriptor of the hub class (tables 11-15 and 11-16) have the same codes and directions
unfoldable pub direction_of : ℕ → ℕ
direction_of request =
    cond (eqb request get_status_code || eqb request get_descriptor_code || eqb request get_configuration_code || eqb request get_interface_code || eqb request synch_frame_code)
    1 0

-- table 9-2: bit 7 of bmRequestType is the direction, 1 for In
unfoldable pub direction_bit : ℕ → ℕ
direction_bit request_type = cond (leb 128 request_type) 1 0

unfoldable pub device_request : ℕ → ℕ → ℕ → ℕ → ℕ → UsbDeviceRequest
device_request recipient request value index length = record {
  request_type = direction_of request * 128 + recipient;
  request = request;
  value = value;
  index = index;
  length = length;
}

-- table 9-2: the eight bytes in their order
abbrev pub setup_bytes : UsbDeviceRequest → List ℕ
setup_bytes q =
    q.request_type ∷ q.request ∷ little_endian 2 q.value ++ little_endian 2 q.index ++ little_endian 2 q.length
