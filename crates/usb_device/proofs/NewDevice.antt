-- What new_device builds is the new device, byte for byte. Assumes nothing.
use mathlib.Core.Path.{◌≡◌, refl, sym, ap, ◌∙◌}
use mathlib.Core.Logic.{◌⊎◌, ⊎_elim}
use mathlib.Core.List.{List, ◌++◌}
use Prim.Native.Nat.{ℕ, ◌+◌, ◌*◌, ◌-◌, ◌≤◌, ◌<◌}
use native.Mathlib.Nat.{add-zero}
use native.Mathlib.Omega.{arith}
use lib.ListN.{length, get_or, take, drop, set, replicate, get_or-replicate}
use lib.Seq.{get_or-take, get_or-drop}
use Rattle.usb_store.specs.Layout.{place_count, place_length, store_length, used_field, number_field, speed_field, status_field, parent_field, hub_field, error_field}
use Rattle.usb_store.specs.Access.{with_bytes}
use Rattle.usb_store.specs.Values.{full_speed, attached_status, not_hub}
use Rattle.usb_store.proofs.Writes.{part_back}
use Rattle.usb_device.specs.Device.{new_device, marked}

pub length_new : (place : ℕ) → length (new_device place) ≡ 1152
unfolding new_device
length_new place = refl

-- the bytes at its start
pub record NewBytes (p : ℕ) : Type 0 where
  pub used : get_or (new_device p) used_field 0 ≡ 1
  pub number : get_or (new_device p) number_field 0 ≡ p + 1
  pub speed : get_or (new_device p) speed_field 0 ≡ full_speed
  pub status : get_or (new_device p) status_field 0 ≡ attached_status
  pub parent : get_or (new_device p) parent_field 0 ≡ 0
  pub hub : get_or (new_device p) hub_field 0 ≡ not_hub

pub new_bytes : (p : ℕ) → NewBytes p
unfolding new_device
new_bytes p = record { used = refl; number = refl; speed = refl; status = refl; parent = refl; hub = refl }

zero_run : (l : List ℕ) (a n : ℕ) → take n (drop a l) ≡ replicate n 0 → (g : ℕ) → a ≤ g → g < a + n → get_or l g 0 ≡ 0
zero_run l a n e g x y =
    let i : g ≡ a + (g - a) = omega arith in
    ap (λ (k : ℕ). get_or l k 0) i ∙ sym (get_or-drop a l (g - a) 0) ∙ sym (get_or-take n (drop a l) (g - a) 0 (omega arith))
    ∙ ap (λ (m : List ℕ). get_or m (g - a) 0) e ∙ get_or-replicate n (g - a) 0 0 (omega arith)

pub new_error : (p i : ℕ) → i < 4 → get_or (new_device p) (error_field + i) 0 ≡ 0
unfolding new_device
new_error p i l = zero_run (new_device p) error_field 4 refl (error_field + i) (omega arith) (omega arith)

-- no hub data, and the bytes that are not used
pub new_zero : (p g : ℕ) → g < 1152 → ((43 ≤ g) × (g < 128)) ⊎ (1096 ≤ g) → get_or (new_device p) g 0 ≡ 0
unfolding new_device
new_zero p g l = ⊎_elim (λ h. zero_run (new_device p) 43 85 refl g h.0 h.1) (λ h. zero_run (new_device p) 1096 56 refl g h l)

-- zeros, with the single bytes
abbrev singles : ℕ → List ℕ → List ℕ
singles place zeros = set (set (set (set (set (set (set (set zeros 0 1) 1 (place + 1)) 2 1) 4 255) 17 1) 20 9) 23 8) 35 1

-- then the types of the interfaces, then those of the endpoints
module _ (place : ℕ) {zeros interfaces : List ℕ} (e : zeros ≡ replicate 1152 0) (f : interfaces ≡ marked (singles place zeros) 129 9 8) where
  first_marks : interfaces ≡ marked (singles place (replicate 1152 0)) 129 9 8
  first_marks = f ∙ ap (λ (l : List ℕ). marked (singles place l) 129 9 8) e

  pub built : {all : List ℕ} → all ≡ marked interfaces 201 7 128 → all ≡ new_device place
  unfolding new_device marked
  built g = g ∙ ap (λ (l : List ℕ). marked l 201 7 128) first_marks

-- the bytes of the place were lent
pub put_new : (s : List ℕ) (place : ℕ) {vs : List ℕ} → length s ≡ store_length → place < place_count → vs ≡ new_device place
    → take (place * place_length) s ++ (vs ++ drop (place * place_length + place_length - place * place_length)
    (drop (place * place_length) s)) ≡ with_bytes s place 0 (new_device place)
unfolding with_bytes
put_new s place e h new =
    let span : place * place_length + place_length - place * place_length ≡ place_length = omega arith in
    rw (new, span, add-zero) (part_back s (place * place_length) place_length (new_device place) (length_new place) (omega arith))
