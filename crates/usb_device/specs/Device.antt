-- A new device, and the places that are not used (document 01, "a new place holds `UsbDevice::new` as `UsbAllocateDevice`
-- amends it"; usbd/device.rs).
use Rattle.std.specs.Prelude.{Option, Bool, cond, List, [], ◌∷◌, ◌++◌, ℕ, zero, suc, ◌+◌, ◌-◌, eqb, ltb, if◌then◌else◌, Some, None, replicate, set}
use Rattle.usb_store.specs.Layout.{used_field, place_count}
use Rattle.usb_store.specs.Access.{byte_at}
use Rattle.usb_store.specs.Values.{full_speed, attached_status}

abbrev pub repeat : ℕ → List ℕ → List ℕ
repeat zero block = []
repeat (suc n) block = block ++ repeat n block

-- a descriptor of n bytes by `Default`, whose type is `DescriptorType::Device`, 1
abbrev pub blank : ℕ → List ℕ
blank n = 0 ∷ 1 ∷ replicate (n - 2) 0

-- the device descriptor by `Default`, whose class is `DeviceClassHub`, 9, with a packet size of 8
abbrev pub blank_device : List ℕ
blank_device = 0 ∷ 1 ∷ 0 ∷ 0 ∷ 9 ∷ 0 ∷ 0 ∷ 8 ∷ replicate 10 0

-- used, number, speed, status, configuration index, port number, parent, hub; error and last transfer; the device and the
-- configuration descriptor; no hub data; eight interfaces; eight times sixteen endpoints; the rest zero
unfoldable pub new_device : ℕ → List ℕ
new_device place =
    (1 ∷ (place + 1) ∷ full_speed ∷ attached_status ∷ 255 ∷ 0 ∷ 0 ∷ 0 ∷ replicate 8 0)
    ++ blank_device ++ blank 9 ++ replicate 85 0
    ++ repeat 8 (blank 9) ++ repeat 128 (blank 7) ++ replicate 56 0

-- the first of the n places from p on that is not used, or the place after them
unfoldable pub first_unused_from : List ℕ → ℕ → ℕ → ℕ
first_unused_from s zero p = p
first_unused_from s (suc n) p = cond (eqb (byte_at s p used_field) 0) p (first_unused_from s n (p + 1))

-- the first place that is not used, or 32 where the bus is full
abbrev pub first_unused : List ℕ → ℕ
first_unused s = first_unused_from s place_count 0

-- the first place that is not used, if there is one
abbrev pub free_place : List ℕ → Option ℕ
free_place s = if ltb (first_unused s) place_count then Some (first_unused s) else None

-- how many of the first n places pass a test
unfoldable pub places_below : (ℕ → Bool) → ℕ → ℕ
places_below test zero = 0
places_below test (suc n) = cond (test n) 1 0 + places_below test n

-- how many places are not used
abbrev pub free_places : List ℕ → ℕ
free_places s = places_below (λ place. eqb (byte_at s place used_field) 0) place_count

-- n bytes set to 1, one every step bytes from first on
unfoldable pub marked : List ℕ → ℕ → ℕ → ℕ → List ℕ
marked bytes first step zero = bytes
marked bytes first step (suc n) = marked (set bytes first 1) (first + step) step n
