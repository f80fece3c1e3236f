-- How many devices and hubs a store holds, d and h of demand 3 (document 01, "d and h are counted in the store left").
use Rattle.std.specs.Prelude.{Bool, not, ◌&&◌, List, ℕ, ◌+◌, ◌*◌, eqb}
use Rattle.usb_store.specs.Layout.{place_count, used_field, hub_field}
use Rattle.usb_store.specs.Access.{byte_at}
use Rattle.usb_store.specs.Values.{not_hub}
use Rattle.usb_device.specs.Device.{places_below}
use Rattle.usb_model.specs.Entry.{Lent, Left, Verdict, accepted, refused}

-- "A device is a used place"
abbrev pub is_device : List ℕ → ℕ → Bool
is_device s place = not (eqb (byte_at s place used_field) 0)

abbrev pub devices : List ℕ → ℕ
devices s = places_below (is_device s) place_count

-- "h of them hubs", "a hub has a hub byte other than 0"
abbrev pub is_hub : List ℕ → ℕ → Bool
is_hub s place = is_device s place && not (eqb (byte_at s place hub_field) not_hub)

abbrev pub hubs : List ℕ → ℕ
hubs s = places_below (is_hub s) place_count

-- demand 3: "Each root attach, in the list or stopped, leaving d devices, h of them hubs, sent at most 8·d + 444·h requests"
abbrev pub most_requests : List ℕ → ℕ
most_requests s = 8 * devices s + 444 * hubs s

-- the store that a call leaves: the new store, stopped calls included; after an entry refusal the old one
abbrev pub store_left : Verdict → Lent → Left → List ℕ
store_left accepted lent left = left.new
store_left (refused r) lent left = lent.old
