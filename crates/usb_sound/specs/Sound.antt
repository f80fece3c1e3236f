-- A sound store, rule by rule (document 01, "A sound store: .."). Definitions only.
use Rattle.std.specs.Prelude.{◌≡◌, ◌⊎◌, ◌≢◌, List, [], ◌∷◌, ℕ, ◌+◌, ◌≤◌, ◌<◌, length}
use Rattle.usb_store.specs.Layout.{place_count, place_length, store_length, used_field, number_field, speed_field, status_field, port_number_field, parent_field, hub_field, error_field, hub_descriptor_field, child_field, max_children_field, ports_per_hub}
use Rattle.usb_store.specs.Access.{byte_at, number_at}
use Rattle.usb_store.specs.Values.{not_hub, hub_without_descriptor}
use Rattle.usb_place.specs.Rules.{OneOf, speeds, statuses, errors, hubs, Zero}

-- "A device is a used place"
abbrev pub IsUsed : List ℕ → ℕ → Type 0
IsUsed s p = (p < place_count) × (byte_at s p used_field ≡ 1)

-- the place p stands as a child at port q of place h
abbrev pub IsChild : List ℕ → ℕ → ℕ → ℕ → Type 0
IsChild s h q p = byte_at s h (child_field q) ≡ p + 1

-- the parent of place p is 0, or place h with port q
abbrev pub ParentFits : List ℕ → ℕ → ℕ → ℕ → Type 0
ParentFits s h q p = (byte_at s p parent_field ≡ 0) ⊎ ((byte_at s p parent_field ≡ h + 1) × (byte_at s p port_number_field ≡ q))

-- the place p is a child exactly once, of a hub at a smaller place; its parent is 0 or that hub, with that port
pub record ChildOnce (s : List ℕ) (p : ℕ) : Type 0 where
  pub hub : ℕ
  pub port : ℕ
  pub smaller : hub < p
  pub within : port < ports_per_hub
  pub is-hub : byte_at s hub hub_field ≢ 0
  pub stands : IsChild s hub port p
  pub once : (h q : ℕ) → h < place_count → q < ports_per_hub → IsChild s h q p → (h ≡ hub) × (q ≡ port)
  pub parent : ParentFits s hub port p

pub record Sound (s : List ℕ) : Type 0 where
  -- 32 places of 1,152 bytes
  pub whole : length s ≡ store_length
  -- used is 0 or 1
  pub used : (p : ℕ) → p < place_count → OneOf (byte_at s p used_field) (0 ∷ 1 ∷ [])
  -- unused places are zero
  pub unused : (p : ℕ) → p < place_count → byte_at s p used_field ≡ 0 → (f : ℕ) → f < place_length → byte_at s p f ≡ 0
  -- speed, status, error and hub hold listed values
  pub speed : (p : ℕ) → p < place_count → OneOf (byte_at s p speed_field) speeds
  pub status : (p : ℕ) → p < place_count → OneOf (byte_at s p status_field) statuses
  pub error : (p : ℕ) → p < place_count → OneOf (number_at s p error_field 4) errors
  pub hub : (p : ℕ) → p < place_count → OneOf (byte_at s p hub_field) hubs
  -- number is 0 or place + 1
  pub number : (p : ℕ) → p < place_count → OneOf (byte_at s p number_field) (0 ∷ (p + 1) ∷ [])
  -- MaxChildren at most 10
  pub max-children : (p : ℕ) → p < place_count → byte_at s p max_children_field ≤ ports_per_hub
  -- children are used places
  pub children : (h q p : ℕ) → h < place_count → q < ports_per_hub → IsChild s h q p → IsUsed s p
  -- place 0 is nobody's child
  pub root : (h q : ℕ) → h < place_count → q < ports_per_hub → IsChild s h q 0 → ⊥
  -- every other used place is a child exactly once, of a hub at a smaller place; parent is 0 or that hub, with that port
  pub child : (p : ℕ) → 0 < p → IsUsed s p → ChildOnce s p
  -- no unused place stands before a used one
  pub packed : (p q : ℕ) → p < q → IsUsed s q → IsUsed s p
  -- place 0's parent is 0
  pub root_parent : byte_at s 0 parent_field ≡ 0
  -- hub 0 means bytes 43-106 are zero, hub 1 that 43-51 are
  pub no-hub : (p : ℕ) → p < place_count → byte_at s p hub_field ≡ not_hub → Zero s p hub_descriptor_field max_children_field
  pub no_descriptor : (p : ℕ) → p < place_count → byte_at s p hub_field ≡ hub_without_descriptor → Zero s p hub_descriptor_field 51
  -- bytes 107-127 and 1,096-1,151 are zero
  pub gap : (p : ℕ) → p < place_count → Zero s p 107 127
  pub tail : (p : ℕ) → p < place_count → Zero s p 1096 1151
