-- SetAddress and SetConfiguration: what each does to a place in the middle of its attach. Assumes nothing.
use mathlib.Core.Path.{◌≡◌, refl, sym, ap, ◌∙◌}
use mathlib.Core.Bool.{Bool, false, not, ◌&&◌}
use mathlib.Core.Logic.{◌⊎◌, inl, inr}
use mathlib.Core.List.{List, [], ◌∷◌}
use Prim.Native.Nat.{ℕ, suc, ◌+◌, ◌≤◌, ◌<◌}
use native.Mathlib.Omega.{arith}
use borrow.Author.Tests.{eq-eqb, ne_eqb}
use lib.Dec.{eqb}
use Rattle.usb_types.specs.Requests.{set_address_code, set_configuration_code, to_device, direction_of, device_request}
use Rattle.usb_types.specs.declared.request.UsbDeviceRequest.{UsbDeviceRequest}
use Rattle.usb_store.specs.Layout.{number_field, status_field}
use Rattle.usb_store.specs.Access.{byte_at, with_byte}
use Rattle.usb_store.specs.Values.{default_status, addressed_status}
use Rattle.usb_store.proofs.Fields.{byte_same}
use Rattle.usb_store.proofs.Cells.{byte_beside}
use Rattle.usb_model.specs.World.{put_bytes, put}
use Rattle.usb_model.specs.Transfer.{Outcome, nowhere}
use Rattle.usb_model.specs.Usbd.{usb_set_address}
use Rattle.usb_model.specs.History.{Event, asked, waited, acknowledged, is_request, sets_address, configures, resets}
use Rattle.usb_model.specs.Demand3.{Once, now, NoResetSince, since, EndedWell}
use Rattle.usb_model.specs.Demand3 as Claim
use Rattle.usb_model.proofs.Bytes.{bytes_one}
use Rattle.usb_model.proofs.Stores.{Follows, plain_follows}
use Rattle.usb_model.proofs.Functions.{small}
use Rattle.usb_model.proofs.Triples.{does_post, State, store, Does, does_map, does_pre, does_next, does_known, does_unless, does_store}
use Rattle.usb_model.proofs.Events.{Added, wait_adds}
use Rattle.usb_model.proofs.Quiet.{Keys, Adds, none, more}
use Rattle.usb_model.proofs.Messages.{Acknowledged, Unacknowledged, message_does}
use Rattle.usb_model.proofs.Parts.{Still, added_step, still_wait, sends_none, head_keys}
use Rattle.usb_model.proofs.Invariant.{NotOf, once_adds, Aside, Only}
use Rattle.usb_model.proofs.Middle.{spared_key, Stable, Mid, mid_still, mid_write, mid_event, count_hit, count_miss}

-- ---- the two stories that a place carries through its attach

abbrev pub AfterReset : ℕ → ℕ → List Event → Type 0
AfterReset hub port = NoResetSince (EndedWell (hub + 1) port)

abbrev pub AfterAddress : ℕ → ℕ → ℕ → List Event → Type 0
AfterAddress x hub port = Once (Claim.Addressed x (AfterReset hub port))

no_reset_adds : {P : List Event → Type 0} {h h' : List Event} → Adds Still h h' → NoResetSince P h → NoResetSince P h'
no_reset_adds none r = r
no_reset_adds (more y a) r = since y.reset (no_reset_adds a r)

pub reset_stable : Stable AfterReset
reset_stable hub port h h' a r = no_reset_adds a r

pub address_stable : {x : ℕ} → Stable (AfterAddress x)
address_stable hub port h h' a o = once_adds a o

-- ---- the two events

abbrev address_of : ℕ → UsbDeviceRequest
address_of x = device_request to_device set_address_code (x + 1) 0 0

abbrev pub configuration_of : ℕ → UsbDeviceRequest
configuration_of v = device_request to_device set_configuration_code v 0 0

address_event : (n x : ℕ) (o : Outcome) → sets_address n (asked 0 (address_of x) o) ≡ (eqb (x + 1) n && acknowledged o)
unfolding sets_address is_request device_request direction_of
address_event n x o = refl

address_configures : (n x : ℕ) (o : Outcome) → configures n (asked 0 (address_of x) o) ≡ false
unfolding configures is_request device_request direction_of
address_configures n x o = refl

address_resets : (x : ℕ) (o : Outcome) → resets (asked 0 (address_of x) o) ≡ false
unfolding resets is_request device_request direction_of
address_resets x o = refl

pub configuration_event : (n a v : ℕ) (o : Outcome) → configures n (asked a (configuration_of v) o) ≡ (eqb a n && acknowledged o)
unfolding configures is_request device_request direction_of
configuration_event n a v o = refl

pub configuration_addresses : (n a v : ℕ) (o : Outcome) → sets_address n (asked a (configuration_of v) o) ≡ false
unfolding sets_address is_request device_request direction_of
configuration_addresses n a v o = refl

-- of another place's address the test says no; of its own what the outcome says
other_address : (x n : ℕ) (b : Bool) → NotOf (Only x) n → (eqb (x + 1) n && b) ≡ false
other_address x n b d = rw (ne_eqb (x + 1) n (λ e. d x (sym e) refl)) refl

pub own_address : (x : ℕ) (b : Bool) → (eqb (x + 1) (x + 1) && b) ≡ b
own_address x b = rw (eq-eqb (x + 1) (x + 1) refl) refl

address_aside : (x : ℕ) (o : Outcome) → Aside (Only x) (asked 0 (address_of x) o)
address_aside x o = record {
  address = λ n d. address_event n x o ∙ other_address x n (acknowledged o) d;
  configuration = λ n d. address_configures n x o;
}

pub configuration_aside : (x v : ℕ) (o : Outcome) → Aside (Only x) (asked (x + 1) (configuration_of v) o)
configuration_aside x v o = record {
  address = λ n d. configuration_addresses n (x + 1) v o;
  configuration = λ n d. configuration_event n (x + 1) v o ∙ other_address x n (acknowledged o) d;
}

module _ {h₀ : List Event} (H : ℕ → Type 0) (x : ℕ) (inside : x < 32) where
  -- ---- SetAddress

  abbrev pub Unaddressed : State h₀ → Type 0
  Unaddressed = Mid H x AfterReset default_status 0 0 0

  -- its address was acknowledged once
  abbrev pub At : ℕ → ℕ → State h₀ → Type 0
  At st n = Mid H x (AfterAddress x) st n 1 0

  missed : (t : State h₀) → Unacknowledged Keys x (address_of x) nowhere Unaddressed 0 t → Unaddressed t
  missed t u =
      let o = u.outcome in
      let a = u.answered in
      mid_event x (asked 0 (address_of x) o) (address_aside x o) (λ q g k. a.keep q g (spared_key k)) a.past
      (count_miss (sets_address (x + 1)) _ a.before.past (address_event (x + 1) x o ∙ own_address x (acknowledged o) ∙ u.failed) ∙ a.pre.addressings)
      (count_miss (configures (x + 1)) _ a.before.past (address_configures (x + 1) x o) ∙ a.pre.configurings)
      (λ hub port r. since (address_resets x o) r) a.pre

  hit : {bytes : List ℕ} (t : State h₀) → Acknowledged Keys x (address_of x) nowhere Unaddressed 0 bytes t → At default_status 0 t
  hit t u =
      let o = u.outcome in
      let a = u.answered in
      mid_event x (asked 0 (address_of x) o) (address_aside x o) (λ q g k. a.keep q g (spared_key k)) a.past
      (count_hit (sets_address (x + 1)) _ a.before.past (address_event (x + 1) x o ∙ own_address x (acknowledged o) ∙ u.good)
      ∙ ap suc a.pre.addressings)
      (count_miss (configures (x + 1)) _ a.before.past (address_configures (x + 1) x o) ∙ a.pre.configurings)
      (λ hub port r. now (Claim.addressed r u.good)) a.pre

  -- a byte of the place itself
  pub own_follows : (f v : ℕ) (s : State h₀) → 0 < f → f < 96 → v < 256 → Follows (store s) (with_byte (store s) x f v)
  own_follows f v s l m h = plain_follows s.good x f (v ∷ []) (small f l m) (bytes_one h)

  pub own_same : (f v : ℕ) (s : State h₀) → f < 1152 → byte_at (with_byte (store s) x f v) x f ≡ v
  own_same f v s l = byte_same (store s) x f v (record { whole = s.good.whole; inside = inside; room = omega arith })

  pub own_other : (f v g : ℕ) (s : State h₀) → f < 1152 → g < 1152 → (f + 1 ≤ g) ⊎ (g < f)
      → byte_at (with_byte (store s) x f v) x g ≡ byte_at (store s) x g
  own_other f v g s l m a = byte_beside (store s) x f (v ∷ []) x g (omega arith) m (λ _. a)

  module _ {R : ℕ → ℕ → List Event → Type 0} {st n c d : ℕ} {N : State h₀ → Type 0} where
    pub put-number : (v : ℕ) → v < 256 → Does (Mid H x R st n c d) (put x number_field v) (λ _. Mid H x R st v c d) N
    unfolding put_bytes
    put-number v l = does_store (λ t. with_byte t x number_field v) (λ s m.
        let w = own_follows number_field v s (omega arith) (omega arith) l in (
          w,
          mid_write x st v number_field (v ∷ []) w (omega arith) (omega arith) (inl (omega arith))
              (own_other number_field v status_field s (omega arith) (omega arith) (inl (omega arith)) ∙ m.status) (own_same number_field v s (omega arith)) m,
        ))

    pub put_status : (v : ℕ) → v < 256 → Does (Mid H x R st n c d) (put x status_field v) (λ _. Mid H x R v n c d) N
    unfolding put_bytes
    put_status v l = does_store (λ t. with_byte t x status_field v) (λ s m.
        let w = own_follows status_field v s (omega arith) (omega arith) l in (
          w,
          mid_write x v n status_field (v ∷ []) w (omega arith) (omega arith) (inl (omega arith)) (own_same status_field v s (omega arith))
              (own_other status_field v number_field s (omega arith) (omega arith) (inr (omega arith)) ∙ m.number) m,
        ))

  pub set_address_does : Does Unaddressed (usb_set_address x (x + 1)) (λ _. At addressed_status (x + 1)) Unaddressed
  unfolding usb_set_address
  set_address_does =
      does_known _ x status_field default_status (λ s m. m.status) (
      does_next (does_unless (not (eqb default_status default_status)) _ (λ s m. m)) (
      does_pre (λ s m. m.0) (
      does_next (does_map (λ s p. p) (λ _ t u. hit t u) missed
      (message_does Keys x (address_of x) nowhere (sends_none head_keys to_device set_address_code (x + 1) 0 (omega arith) (omega arith)
      (omega arith) (omega arith) 0 (omega arith)) 0 (omega arith))) (
      does_next (does_post (λ _ t a. ticked t a) (wait_adds {P = At default_status 0} {N = Unaddressed} 10000 (omega arith))) (
      does_next (put-number (x + 1) (omega arith)) (put_status addressed_status (omega arith)))))))
    where
      ticked : (t : State h₀) → Added (At default_status 0) (waited 10000) t → At default_status 0 t
      ticked t a = mid_still x address_stable (added_step (still_wait 10000) a) a.pre
