-- The lines of `hub_attach` up to its ports.
use Rattle.std.specs.Prelude.{Bool, not, ◌&&◌, List, ℕ, ◌%◌, min, eqb, ltb}
use Rattle.usb_types.specs.declared.types.ErrorCode.TheVariants.{Incompatible}
use Rattle.usb_store.specs.Layout.{hub_field, port_count_field, max_children_field, endpoint_count_field, endpoint_address_field, endpoint_attributes_field, ports_per_hub}
use Rattle.usb_store.specs.Access.{byte_at}
use Rattle.usb_store.specs.Values.{hub_without_descriptor}
use Rattle.usb_model.specs.Programs.{◌>>=◌, ◌>>◌, throw, when}
use Rattle.usb_model.specs.World.{M, get, put}
use Rattle.usb_model.specs.Hub.{hub_read_descriptor, hub_get_status, hub_power_on}

unfoldable pub hub_endpoint : List ℕ → ℕ → Bool
hub_endpoint store hub =
    eqb (byte_at store hub endpoint_count_field) 1 && not (ltb (byte_at store hub endpoint_address_field) 128) && eqb (byte_at store hub endpoint_attributes_field % 4) 3

abbrev pub ports_of : ℕ → ℕ
ports_of count = min count ports_per_hub

unfoldable pub hub_described : ℕ → M (Unit {0})
hub_described hub = do
  put hub hub_field hub_without_descriptor
  put hub max_children_field 1
  hub_read_descriptor hub
  ports ← get hub port_count_field
  put hub max_children_field (ports_of ports)

unfoldable pub hub_powered : ℕ → M (Unit {0})
hub_powered hub = do
  hub_get_status hub
  hub_power_on hub
  hub_get_status hub

unfoldable pub hub_ready : ℕ → M (Unit {0})
hub_ready hub = do
  count ← get hub endpoint_count_field
  when (not (eqb count 1)) (throw Incompatible)
  address ← get hub endpoint_address_field
  when (ltb address 128) (throw Incompatible)
  attributes ← get hub endpoint_attributes_field
  when (not (eqb (attributes % 4) 3)) (throw Incompatible)
  hub_described hub
  hub_powered hub
