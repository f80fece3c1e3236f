-- Descriptor types and the interface class of a hub.
use Rattle.std.specs.Prelude.{Bool, cond, ℕ, eqb}
use Rattle.usb_types.specs.declared.descriptors.DescriptorKind.{DescriptorKind}
use Rattle.usb_types.specs.declared.descriptors.DescriptorKind.TheVariants.{Interface, Endpoint, Other}

-- bDescriptorType, USB 2.0 tables 9-5 and 11-13
abbrev pub device_descriptor_type : ℕ
device_descriptor_type = 1

abbrev pub configuration_descriptor_type : ℕ
configuration_descriptor_type = 2

abbrev pub interface_descriptor_type : ℕ
interface_descriptor_type = 4

abbrev pub endpoint_descriptor_type : ℕ
endpoint_descriptor_type = 5

abbrev pub hub_descriptor_type : ℕ
hub_descriptor_type = 41

-- bInterfaceClass of a hub, USB 2.0 11.23.1
abbrev pub hub_class : ℕ
hub_class = 9

-- document 01, "Configuration walk": "Interface (4) or endpoint (5)"
unfoldable pub kind_of : ℕ → DescriptorKind
kind_of type = cond (eqb type interface_descriptor_type) Interface (cond (eqb type endpoint_descriptor_type) Endpoint Other)

-- "Interface class 9 runs the hub attach"
unfoldable pub is_hub_class : ℕ → Bool
is_hub_class class = eqb class hub_class
