-- Access to the store, by place and by the field's offset in it.
use Rattle.std.specs.Prelude.{◌≡◌, List, [], ◌∷◌, ℕ, zero, suc, ◌+◌, ◌*◌, ◌≤◌, ◌<◌, length, get_or, take, drop}
use Rattle.usb_types.specs.Numbers.{little_endian, from_little_endian}
use Rattle.usb_store.specs.Layout.{place_count, place_length, store_length}

-- vs over the elements of a list from index i on; what lies past the list's end is dropped
abbrev pub write : List ℕ → ℕ → List ℕ → List ℕ
write [] i vs = []
write (x ∷ s) (suc i) vs = x ∷ write s i vs
write (x ∷ s) zero [] = x ∷ s
write (x ∷ s) zero (v ∷ vs) = v ∷ write s zero vs

-- where a field of a place starts in the store
abbrev pub offset : ℕ → ℕ → ℕ
offset place field = place * place_length + field

-- what each access asks: a whole store, one of its places, and n bytes of the place from field on
pub record Within (store : List ℕ) (place field n : ℕ) : Type 0 where
  pub whole : length store ≡ store_length
  pub inside : place < place_count
  pub room : field + n ≤ place_length

unfoldable pub byte_at : List ℕ → ℕ → ℕ → ℕ
byte_at store place field = get_or store (offset place field) 0

unfoldable pub bytes_at : List ℕ → ℕ → ℕ → ℕ → List ℕ
bytes_at store place field n = take n (drop (offset place field) store)

-- the store with the bytes vs in a field
unfoldable pub with_bytes : List ℕ → ℕ → ℕ → List ℕ → List ℕ
with_bytes store place field vs = write store (offset place field) vs

abbrev pub with_byte : List ℕ → ℕ → ℕ → ℕ → List ℕ
with_byte store place field v = with_bytes store place field (v ∷ [])

-- "Multi-byte fields are little-endian": a number of n bytes
abbrev pub number_at : List ℕ → ℕ → ℕ → ℕ → ℕ
number_at store place field n = from_little_endian (bytes_at store place field n)

abbrev pub with_number : List ℕ → ℕ → ℕ → ℕ → ℕ → List ℕ
with_number store place field n v = with_bytes store place field (little_endian n v)
