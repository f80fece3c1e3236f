-- The fields of a place, by their offsets (document 01, "Store").
use Rattle.std.specs.Prelude.{List, ℕ, ◌+◌, ◌*◌, replicate}

-- "32 places of 1,152 bytes"
abbrev pub place_count : ℕ
place_count = 32

abbrev pub place_length : ℕ
place_length = 1152

abbrev pub store_length : ℕ
store_length = 36864

abbrev pub empty_store : List ℕ
empty_store = replicate store_length 0

-- "ten children", one for each port
abbrev pub ports_per_hub : ℕ
ports_per_hub = 10

abbrev pub used_field : ℕ
used_field = 0

abbrev pub number_field : ℕ
number_field = 1

abbrev pub speed_field : ℕ
speed_field = 2

abbrev pub status_field : ℕ
status_field = 3

abbrev pub configuration_index_field : ℕ
configuration_index_field = 4

abbrev pub port_number_field : ℕ
port_number_field = 5

-- 0 none, else place + 1
abbrev pub parent_field : ℕ
parent_field = 6

-- 0 no, 1 without descriptor, 2 with
abbrev pub hub_field : ℕ
hub_field = 7

abbrev pub error_field : ℕ
error_field = 8

abbrev pub last_transfer_field : ℕ
last_transfer_field = 12

-- USB 2.0 table 9-8, 18 bytes
abbrev pub device_descriptor_field : ℕ
device_descriptor_field = 16

-- bMaxPacketSize0, its byte 7
abbrev pub max_packet_size0_field : ℕ
max_packet_size0_field = 23

-- USB 2.0 table 9-10, 9 bytes
abbrev pub configuration_descriptor_field : ℕ
configuration_descriptor_field = 34

-- wTotalLength, its bytes 2 and 3
abbrev pub total_length_field : ℕ
total_length_field = 36

-- bConfigurationValue, its byte 5
abbrev pub configuration_value_field : ℕ
configuration_value_field = 39

-- USB 2.0 table 11-13, 9 bytes
abbrev pub hub_descriptor_field : ℕ
hub_descriptor_field = 43

-- bNbrPorts, its byte 2
abbrev pub port_count_field : ℕ
port_count_field = 45

-- bPwrOn2PwrGood, its byte 5
abbrev pub power_good_delay_field : ℕ
power_good_delay_field = 48

-- USB 2.0 11.24.2.6, 4 bytes
abbrev pub hub_status_field : ℕ
hub_status_field = 52

-- USB 2.0 11.24.2.7, ten of 4 bytes
abbrev pub port_status_field : ℕ → ℕ
port_status_field port = 56 + 4 * port

-- ten bytes, 0 none, else place + 1
abbrev pub children_field : ℕ
children_field = 96

abbrev pub child_field : ℕ → ℕ
child_field port = 96 + port

abbrev pub max_children_field : ℕ
max_children_field = 106

-- USB 2.0 table 9-12, eight of 9 bytes
abbrev pub interfaces_field : ℕ
interfaces_field = 128

-- bNumEndpoints and bInterfaceClass of interface 0
abbrev pub endpoint_count_field : ℕ
endpoint_count_field = 132

abbrev pub interface_class_field : ℕ
interface_class_field = 133

-- bEndpointAddress and bmAttributes of interface 0's first endpoint
abbrev pub endpoint_address_field : ℕ
endpoint_address_field = 202

abbrev pub endpoint_attributes_field : ℕ
endpoint_attributes_field = 203
