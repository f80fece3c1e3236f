-- A hub's ten ports as a record (document 01, "a record holding its ten ports"; hcd/hub.rs, `HubDevice`).
use Rattle.std.specs.Prelude.{◌≡◌, List, [], ◌∷◌, ℕ, zero, suc, ◌+◌, ◌<◌, ◌^◌, length, get_or}
use Rattle.usb_store.specs.Layout.{port_status_field, children_field, child_field, max_children_field, ports_per_hub}
use Rattle.usb_store.specs.Access.{byte_at, number_at, with_byte, with_bytes, with_number}
use Rattle.usb_device.specs.declared.hub.HubDevice.{HubDevice}

-- a value for each of n ports from one on
abbrev pub ports_from : ℕ → ℕ → (ℕ → ℕ) → List ℕ
ports_from zero port f = []
ports_from (suc n) port f = f port ∷ ports_from n (port + 1) f

-- a value for each of the ports 0 to 9
abbrev pub ten_ports : (ℕ → ℕ) → List ℕ
ten_ports f = ports_from ports_per_hub 0 f

-- "56 ten port statuses of 4; 96 ten children (0 none, else place+1); 106 MaxChildren"
unfoldable pub hub_at : List ℕ → ℕ → HubDevice
hub_at s place = record {
  port_status = ten_ports (λ port. number_at s place (port_status_field port) 4);
  children = ten_ports (λ port. byte_at s place (child_field port));
  max_children = byte_at s place max_children_field;
}

-- the statuses of the ports from one on
unfoldable pub with_statuses : List ℕ → ℕ → ℕ → List ℕ → List ℕ
with_statuses s place port [] = s
with_statuses s place port (v ∷ vs) = with_statuses (with_number s place (port_status_field port) 4 v) place (port + 1) vs

unfoldable pub with_hub : List ℕ → ℕ → HubDevice → List ℕ
with_hub s place h =
    with_byte (with_bytes (with_statuses s place 0 h.port_status) place children_field h.children) place max_children_field h.max_children

-- what the struct of the code keeps to: ten statuses of four bytes, and ten children
pub record TenPorts (h : HubDevice) : Type 0 where
  pub statuses : length h.port_status ≡ 10
  pub fits : (port : ℕ) → get_or h.port_status port 0 < 256 ^ 4
  pub children : length h.children ≡ 10
