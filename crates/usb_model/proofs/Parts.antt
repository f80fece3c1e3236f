-- The parts of the driver that keep every key and add no event that the claim speaks of. Assumes nothing.
use mathlib.Core.Path.{◌≡◌, refl, ap, subst}
use mathlib.Core.Bool.{Bool, true, false, cond}
use mathlib.Core.Logic.{inl}
use mathlib.Core.List.{List}
use Prim.Native.Nat.{ℕ, ◌+◌, ◌*◌, ◌≤◌, ◌<◌, ◌^◌}
use native.Mathlib.Omega.{arith}
use lib.Dec.{eqb}
use Rattle.usb_types.specs.Requests.{get_status_code, clear_feature_code, set_feature_code, get_descriptor_code, to_device, to_hub, to_port, direction_of, device_request}
use Rattle.usb_store.specs.Layout.{speed_field, hub_field, device_descriptor_field, max_packet_size0_field, hub_status_field, port_status_field, max_children_field, power_good_delay_field}
use Rattle.usb_store.specs.Access.{byte_at}
use Rattle.usb_model.specs.World.{get, micro_delay, dwc_update_host_frame_interval}
use Rattle.usb_model.specs.Features.{port_power}
use Rattle.usb_model.specs.Transfer.{Outcome, into, nowhere, usb_get_descriptor}
use Rattle.usb_model.specs.Usbd.{read_device_descriptor, usb_read_device_descriptor}
use Rattle.usb_model.specs.Hub.{hub_get_status, hub_change_port_feature, clear_port_feature, set_port_feature, hub_power_on, hub_port_get_status, port_status}
use Rattle.usb_model.specs.History.{Event, asked, waited, framed, is_request, sets_address, configures, resets}
use Rattle.usb_model.proofs.Primitives.{room_none, plain}
use Rattle.usb_model.proofs.Functions.{packet_small, codes, small}
use Rattle.usb_model.proofs.Reading.{TwoBytes}
use Rattle.usb_model.proofs.Triples.{State, leads_map, Gives, Keeps, Preorder, k_bind, k_next, k_return, k_skip, k_look, k_get, k_number, k_if, k_when, k_ignore, k_each}
use Rattle.usb_model.proofs.Events.{Added, wait_adds, frame_adds}
use Rattle.usb_model.proofs.Quiet.{eighth, fortieth, Keys, keys_clear, Clear, Quiet, quiet_order, adds_one, adds_map, put_quiet}
use Rattle.usb_model.proofs.Messages.{clear_none, Sendable, control_quiet, read_quiet}

-- ---- kinds of events

-- sets no address and configures nothing
pub record Calm (e : Event) : Type 0 where
  pub address : (n : ℕ) → sets_address n e ≡ false
  pub configuration : (n : ℕ) → configures n e ≡ false

-- and resets no port
pub record Still (e : Event) : Type 0 where
  pub calm : Calm e
  pub reset : resets e ≡ false

abbrev still : {e : Event} → ((n : ℕ) → sets_address n e ≡ false) → ((n : ℕ) → configures n e ≡ false) → resets e ≡ false → Still e
still a b c = record { calm = record { address = a; configuration = b }; reset = c }

pub still_wait : (us : ℕ) → Still (waited us)
unfolding sets_address configures resets
still_wait us = still (λ n. refl) (λ n. refl) refl

pub still_frame : Still framed
unfolding sets_address configures resets
still_frame = still (λ n. refl) (λ n. refl) refl

pub still_device : (type index size address : ℕ) (o : Outcome)
    → Still (asked address (device_request to_device get_descriptor_code (type * 256 + index) 0 size) o)
unfolding sets_address configures resets is_request device_request direction_of
still_device type index size address o = still (λ n. refl) (λ n. refl) refl

pub still_hub_descriptor : (value size address : ℕ) (o : Outcome) → Still (asked address (device_request to_hub get_descriptor_code value 0 size) o)
unfolding sets_address configures resets is_request device_request direction_of
still_hub_descriptor value size address o = still (λ n. refl) (λ n. refl) refl

pub still_hub_status : (address : ℕ) (o : Outcome) → Still (asked address (device_request to_hub get_status_code 0 0 4) o)
unfolding sets_address configures resets is_request device_request direction_of
still_hub_status address o = still (λ n. refl) (λ n. refl) refl

pub still_port_status : (port address : ℕ) (o : Outcome) → Still (asked address (device_request to_port get_status_code 0 (port + 1) 4) o)
unfolding sets_address configures resets is_request device_request direction_of
still_port_status port address o = still (λ n. refl) (λ n. refl) refl

pub still_clear : (feature port address : ℕ) (o : Outcome)
    → Still (asked address (device_request to_port clear_feature_code feature (port + 1) 0) o)
unfolding sets_address configures resets is_request device_request direction_of
still_clear feature port address o = still (λ n. refl) (λ n. refl) refl

pub still_power : (port address : ℕ) (o : Outcome) → Still (asked address (device_request to_port set_feature_code port_power (port + 1) 0) o)
unfolding sets_address configures resets is_request device_request direction_of
still_power port address o = still (λ n. refl) (λ n. refl) refl

-- a reset is calm
pub calm_reset : (port address : ℕ) (o : Outcome) → Calm (asked address (device_request to_port set_feature_code 4 (port + 1) 0) o)
unfolding sets_address configures resets is_request device_request direction_of
calm_reset port address o = record { address = λ n. refl; configuration = λ n. refl }

-- ---- requests as they are sent

two : (recipient code value index size : ℕ) → value < 65536 → index < 65536 → size < 65536
    → TwoBytes (device_request recipient code value index size)
unfolding device_request
two recipient code value index size a b c = record { value = a; index = b; length = c }

-- a request that stores nothing
pub sends_none : {K : ℕ → ℕ → Type 0} {p : ℕ} → Clear K p 8 8 → (recipient code value index : ℕ) → recipient < 128 → code < 256
    → value < 65536 → index < 65536 → (size : ℕ) → size < 65536 → Sendable K p (device_request recipient code value index size) nowhere
sends_none {K} {p} head recipient code value index r c v i size l = record {
  codes = codes recipient code value index size r c;
  two = two recipient code value index size v i l;
  fits = room_none refl;
  head = head;
  clear = clear_none p 0;
}

-- a request that stores into a field before the children
pub sends_into : {K : ℕ → ℕ → Type 0} {p : ℕ} → Clear K p 8 8 → (field room : ℕ) → Clear K p field room → 0 < field → field + room ≤ 96
    → (recipient code value index size : ℕ) → recipient < 128 → code < 256 → value < 65536 → index < 65536 → size < 65536
    → Sendable K p (device_request recipient code value index size) (into field room)
sends_into head field room clear past low recipient code value index size r c v i l = record {
  codes = codes recipient code value index size r c;
  two = two recipient code value index size v i l;
  fits = plain (record { past = past; room = omega arith; apart = inl low });
  head = head;
  clear = clear;
}

pub head_keys : {p : ℕ} → Clear Keys p 8 8
head_keys = keys_clear (eighth (omega arith) (omega arith))

pub port_sendable : (p port : ℕ) → port < 10 → Sendable Keys p (device_request to_port get_status_code 0 (port + 1) 4) (into (port_status_field port) 4)
port_sendable p port l =
    sends_into head_keys (port_status_field port) 4 (keys_clear (fortieth (omega arith) (omega arith))) (omega arith) (omega arith) to_port
    get_status_code 0 (port + 1) 4 (omega arith) (omega arith) (omega arith) (omega arith) (omega arith)

module _ {h₀ : List Event} where
  abbrev pub Calmly : State h₀ → State h₀ → Type 0
  Calmly = Quiet Keys Calm

  abbrev pub Stilly : State h₀ → State h₀ → Type 0
  Stilly = Quiet Keys Still

  abbrev order : Preorder Stilly
  order = quiet_order Keys Still

  pub calm_of_still : {s t : State h₀} → Quiet Keys Still s t → Quiet Keys Calm s t
  calm_of_still r = record { keep = r.keep; past = adds_map (λ e x. x.calm) r.past }

  pub added_step : {K : ℕ → ℕ → Type 0} {E : Event → Type 0} {P : State h₀ → Type 0} {t : State h₀} {e : Event} → E e → (a : Added P e t)
      → Quiet K E a.before t
  added_step x a = record { keep = λ q g k. ap (λ (l : List ℕ). byte_at l q g) a.same; past = adds_one x a.past }

  added_quiet : {K : ℕ → ℕ → Type 0} {E : Event → Type 0} {s t : State h₀} {e : Event} → E e → Added (λ u. u ≡ s) e t → Quiet K E s t
  added_quiet {K} {E} {s} {t} x a = subst (λ (u : State h₀). Quiet K E u t) a.pre (added_step x a)

  pub waits_still : (us : ℕ) → us < 256 ^ 4 → Keeps Stilly (micro_delay us)
  waits_still us h = record {
    run = λ s. leads_map ((wait_adds {P = λ u. u ≡ s} {N = Stilly s} us h).run s refl)
        (λ a t x. (added_quiet (still_wait us) x, tt)) (λ t x. x);
  }

  pub frame_still : Keeps Stilly dwc_update_host_frame_interval
  frame_still = record { run = λ s. leads_map ((frame_adds {P = λ u. u ≡ s} {N = Stilly s}).run s refl) (λ a t x. (added_quiet still_frame x, tt)) (λ t x. x) }

  device_still : (p minimum : ℕ) → Keeps Stilly (read_device_descriptor p minimum)
  unfolding read_device_descriptor usb_get_descriptor
  device_still p minimum = k_bind order
      (read_quiet Keys p _ (into device_descriptor_field 18)
      (sends_into head_keys device_descriptor_field 18 (keys_clear (eighth (omega arith) (omega arith))) (omega arith) (omega arith) to_device
      get_descriptor_code 256 0 18 (omega arith) (omega arith) (omega arith) (omega arith) (omega arith)) (still_device 1 0 18) minimum)
      λ bytes _. k_return order _ tt

  pub read_device_still : (p : ℕ) → Keeps Stilly (usb_read_device_descriptor p)
  unfolding usb_read_device_descriptor
  read_device_still p =
      k_bind order (k_get order p speed_field) λ speed _.
      k_next order (put_quiet Keys Still p max_packet_size0_field _ (keys_clear (eighth (omega arith) (omega arith)))
      (small max_packet_size0_field (omega arith) (omega arith)) (packet_small (eqb speed 2))) (
      k_if order (eqb speed 0)
      (k_next order (device_still p 18) (k_skip order))
      (k_bind order (device_still p 8) λ count _. k_when order _ (k_next order (device_still p 18) (k_skip order))))

  pub hub_status_still : (p : ℕ) → Keeps Stilly (hub_get_status p)
  unfolding hub_get_status
  hub_status_still p = k_next order
      (read_quiet Keys p _ (into hub_status_field 4) (sends_into head_keys hub_status_field 4 (keys_clear (fortieth (omega arith) (omega arith)))
      (omega arith) (omega arith) to_hub get_status_code 0 0 4 (omega arith) (omega arith) (omega arith) (omega arith) (omega arith))
      still_hub_status _)
      (k_skip order)

  pub clear_still : (p feature port : ℕ) → feature < 65536 → port < 10 → Keeps Stilly (clear_port_feature p feature port)
  unfolding hub_change_port_feature
  clear_still p feature port h l = k_next order
      (control_quiet Keys p _ nowhere (sends_none head_keys to_port clear_feature_code feature (port + 1) (omega arith) (omega arith) h
      (omega arith) 0 (omega arith)) (still_clear feature port))
      (k_skip order)

  power_still : (p port : ℕ) → port < 10 → Keeps Stilly (set_port_feature p port_power port)
  unfolding hub_change_port_feature
  power_still p port l = k_next order
      (control_quiet Keys p _ nowhere (sends_none head_keys to_port set_feature_code port_power (port + 1) (omega arith) (omega arith)
      (omega arith) (omega arith) 0 (omega arith)) (still_power port))
      (k_skip order)

  k_most : (p : ℕ) → Gives Stilly (λ v. v ≤ 10) (get p max_children_field)
  unfolding get
  k_most p = k_look order _ (λ s. s.good.most p)

  pub power_on_still : (p : ℕ) → Keeps Stilly (hub_power_on p)
  unfolding hub_power_on
  power_on_still p =
      k_bind order (k_get order p hub_field) λ data' _.
      k_when order _ (
      k_bind order (k_most p) λ count most.
      k_bind order (k_get order p power_good_delay_field) λ delay l.
      k_next order (k_each order _ _ (λ port h. k_ignore order (power_still p port (omega (arith, most))))) (waits_still _ (wait (eqb delay 0) delay l)))
    where
      wait : (b : Bool) (delay : ℕ) → delay < 256 → cond b 50 delay * 2000 < 256 ^ 4
      wait true delay l = omega arith
      wait false delay l = omega arith

  pub port_status_still : (p port : ℕ) → port < 10 → Keeps Stilly (hub_port_get_status p port)
  unfolding hub_port_get_status
  port_status_still p port l =
      k_next order (read_quiet Keys p _ (into (port_status_field port) 4) (port_sendable p port l) (still_port_status port) _) (k_skip order)

  pub status_still : (p port : ℕ) → Keeps Stilly (port_status p port)
  unfolding port_status
  status_still p port = k_number order p _ 4
