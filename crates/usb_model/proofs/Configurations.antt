-- SetConfiguration, and the configuration of a place in the middle of its attach. Assumes nothing.
use mathlib.Core.Path.{◌≡◌, refl, sym, ap, ◌∙◌, subst}
use mathlib.Core.Bool.{not}
use mathlib.Core.Logic.{◌⊎◌, inl, inr, ◌≢◌}
use mathlib.Core.List.{List, [], ◌∷◌}
use Prim.Native.Nat.{ℕ, suc, ◌+◌, ◌*◌, ◌≤◌, ◌<◌, ◌^◌}
use native.Mathlib.Omega.{arith}
use lib.Dec.{eqb, ltb}
use lib.ListN.{length}
use Rattle.usb_types.specs.Numbers.{from_little_endian}
use Rattle.usb_types.specs.Requests.{get_descriptor_code, set_configuration_code, to_device, device_request}
use Rattle.usb_types.specs.declared.request.UsbDeviceRequest.{UsbDeviceRequest}
use Rattle.usb_types.proofs.LittleEndian.{from_below}
use Rattle.usb_store.specs.Layout.{used_field, number_field, status_field, configuration_index_field, configuration_descriptor_field, configuration_value_field, total_length_field, interfaces_field}
use Rattle.usb_store.specs.Access.{byte_at, bytes_at, with_byte}
use Rattle.usb_store.specs.Values.{addressed_status, configured_status}
use Rattle.usb_store.proofs.Fields.{Apart, bytes_length, bytes_most}
use Rattle.usb_device.specs.Device.{first_unused}
use Rattle.usb_store.proofs.Cells.{spot_apart}
use Rattle.usb_model.specs.World.{M, get_bytes, get_number, put, put_bytes}
use Rattle.usb_model.specs.Transfer.{Outcome, into, nowhere, read, usb_get_descriptor}
use Rattle.usb_model.specs.Walk.{record_length, walk}
use Rattle.usb_model.specs.Usbd.{usb_set_configure, usb_configure}
use Rattle.usb_model.specs.Kept.{Bytes}
use Rattle.usb_model.specs.History.{Event, asked, acknowledged, sets_address, configures}
use Rattle.usb_model.specs.Demand3.{Once, now, ago, ConfiguredWith, configured, Anything, ShownConfigured, Story, root, child}
use Rattle.usb_model.proofs.Bytes.{bytes-at, byte-at}
use Rattle.usb_model.proofs.Record.{walk_long, walk_bytes}
use Rattle.usb_model.proofs.Functions.{small}
use Rattle.usb_model.proofs.Triples.{does_first, State, store, Does, does_map, does_pre, does_bind, does_next, does_return, does_get, does_known, does_unless, does_succeed, does_store, does_keep, does_given, Gives, Keeps, k_look}
use Rattle.usb_model.proofs.Quiet.{Key, value, Keys, Quiet, quiet_order, keys_clear, fourth, last, put_quiet, bytes_quiet, write_quiet, key_low}
use Rattle.usb_model.proofs.Quiet as Quiet
use Rattle.usb_model.proofs.Messages.{Sendable, Answered, Acknowledged, Unacknowledged, control_does, read_quiet}
use Rattle.usb_model.proofs.Parts.{Still, Stilly, still_device, sends_none, sends_into, head_keys}
use Rattle.usb_model.proofs.Invariant.{expected, once_adds, back, calm_aside}
use Rattle.usb_model.proofs.Middle.{Origin, is_root, is_child, Spared, spared, spared_key, Mid, Fine, mid_still, mid_write, mid_event, mid_fine, count_hit, count_miss}
use Rattle.usb_model.proofs.Addresses.{AfterAddress, address_stable, configuration_of, configuration_event, configuration_addresses, configuration_aside, own_address, own_follows, own_same, own_other, At}

abbrev AfterConfigured : ℕ → ℕ → ℕ → ℕ → List Event → Type 0
AfterConfigured x v hub port = Once (ConfiguredWith x v (AfterAddress x hub port))

-- ---- the configuration descriptor, which holds the value

away : {g : ℕ} → Key g → g ≢ configuration_value_field → (configuration_descriptor_field + 9 ≤ g) ⊎ (g < configuration_descriptor_field)
away Quiet.used n = inr (omega arith)
away Quiet.number n = inr (omega arith)
away Quiet.status n = inr (omega arith)
away Quiet.hub n = inr (omega arith)
away value n = absurd (n refl)
away (Quiet.child j l) n = inl (omega arith)

abbrev head_of : UsbDeviceRequest
head_of = device_request to_device get_descriptor_code (2 * 256 + 0) 0 9

head_sendable : (x : ℕ) → Sendable (Spared x) x head_of (into configuration_descriptor_field 9)
head_sendable x = sends_into
    (record { apart = λ q g k. head_keys.apart q g (spared_key k) })
    configuration_descriptor_field 9 (record { apart = λ q g k. clear q g k }) (omega arith) (omega arith) to_device get_descriptor_code (2 * 256 + 0) 0 9
    (omega arith) (omega arith) (omega arith) (omega arith) (omega arith)
  where
    clear : (q g : ℕ) → Spared x q g → Apart x configuration_descriptor_field 9 q g 1
    clear q g (spared k n) = spot_apart x configuration_descriptor_field 9 q g (omega arith) (key_low k) (λ e. away k (n e))

-- a device that may become a hub, or is one
pub record Settled {h₀ : List Event} (H : ℕ → Type 0) (x : ℕ) (s : State h₀) : Type 0 where
  pub is_fine : Fine H s
  pub number : byte_at (store s) x number_field ≡ x + 1
  pub used : byte_at (store s) x used_field ≡ 1
  pub first : x + 1 ≤ first_unused (store s)

module _ {h₀ : List Event} (H : ℕ → Type 0) (x : ℕ) (inside : x < 32) where
  abbrev Ready : State h₀ → Type 0
  Ready = At H x inside addressed_status (x + 1)

  pub at_fine : (s : State h₀) → Ready s → Fine H s
  at_fine s m = mid_fine x (omega arith) refl m

  index_still : (v : ℕ) → v < 256 → Keeps {h₀ = h₀} Stilly (put x configuration_index_field v)
  index_still v l =
      put_quiet Keys Still x configuration_index_field v (keys_clear (fourth (omega arith) (omega arith)))
      (small configuration_index_field (omega arith) (omega arith)) l

  module _ (v : ℕ) (small-value : v < 256) where
    record Before (s : State h₀) : Type 0 where
      middle : Ready s
      its_value : byte_at (store s) x configuration_value_field ≡ v

    -- the SetConfiguration was acknowledged
    record Acked (st : ℕ) (s : State h₀) : Type 0 where
      middle : Mid H x (AfterConfigured x v) st (x + 1) 1 1 s
      its_value : byte_at (store s) x configuration_value_field ≡ v
      told : Once (ConfiguredWith x v Anything) s.past

    unset : (t : State h₀) → Unacknowledged Keys x (configuration_of v) nowhere Before (x + 1) t → Fine H t
    unset t u =
        let o = u.outcome in
        let a = u.answered in
        at_fine t (mid_event x (asked (x + 1) (configuration_of v) o) (configuration_aside x v o) (λ q g k. a.keep q g (spared_key k)) a.past
        (count_miss (sets_address (x + 1)) _ a.before.past (configuration_addresses (x + 1) (x + 1) v o) ∙ a.pre.middle.addressings)
        (count_miss (configures (x + 1)) _ a.before.past
        (configuration_event (x + 1) (x + 1) v o ∙ own_address x (acknowledged o) ∙ u.failed) ∙ a.pre.middle.configurings)
        (λ hub port r. ago r) a.pre.middle)

    is_set : {bytes : List ℕ} (t : State h₀) → Acknowledged Keys x (configuration_of v) nowhere Before (x + 1) bytes t → Acked addressed_status t
    is_set t u =
        let o = u.outcome in
        let a = u.answered in
        record {
          middle =
              mid_event x (asked (x + 1) (configuration_of v) o) (configuration_aside x v o) (λ q g k. a.keep q g (spared_key k)) a.past
              (count_miss (sets_address (x + 1)) _ a.before.past (configuration_addresses (x + 1) (x + 1) v o) ∙ a.pre.middle.addressings)
              (count_hit (configures (x + 1)) _ a.before.past
              (configuration_event (x + 1) (x + 1) v o ∙ own_address x (acknowledged o) ∙ u.good) ∙ ap suc a.pre.middle.configurings)
              (λ hub port r. now (configured r u.good)) a.pre.middle;
          its_value = a.keep x configuration_value_field value ∙ a.pre.its_value;
          told = subst (Once (ConfiguredWith x v Anything)) (sym a.past) (now (configured tt u.good));
        }

    settle : (s : State h₀) → Acked configured_status s → Settled H x s
    settle s a =
        let m = a.middle in
        let shown : ShownConfigured (store s) x = record { device = (inside, m.used); status = m.status } in
        record {
          is_fine = record {
            inv = back x m.but (record {
              fresh = λ e. absurd (omega (arith, e, m.used));
              plain = λ _. m.used;
              once = m.addressings ∙ ap expected (sym m.status);
              numbered = λ e. absurd (e m.no-hub);
              story = λ _. tell m.origin;
            }) (λ _. shown);
            known = m.known;
          };
          number = m.number;
          used = m.used;
          first = m.first;
        }
      where
        tell : Origin (store s) x (AfterConfigured x v) s.past → Story (store s) x s.past
        tell (is_root e) = root e (subst (λ (b : ℕ). Once (ConfiguredWith x b Anything) s.past) (sym a.its_value) a.told)
        tell (is_child {hub} {port} t r) =
            child t (subst (λ (b : ℕ). Once (ConfiguredWith x b (AfterAddress x hub port)) s.past) (sym a.its_value) r)
            a.middle.addressings

    acked_still : {st : ℕ} (s t : State h₀) → Acked st s → Quiet Keys Still s t → Acked st t
    acked_still s t a r = record {
      middle = mid_still x (λ hub port h h' y o. once_adds y o) r a.middle;
      its_value = r.keep x configuration_value_field value ∙ a.its_value;
      told = once_adds r.past a.told;
    }

    index_put : Does (Acked addressed_status) (put x configuration_index_field v) (λ _. Acked addressed_status) (Fine H)
    unfolding put_bytes
    index_put = does_store (λ t. with_byte t x configuration_index_field v) (λ s a.
        let w = own_follows H x inside configuration_index_field v s (omega arith) (omega arith) small-value in
        (w, acked_still s _ a (write_quiet Keys Still s x configuration_index_field (v ∷ []) 1 w (keys_clear (fourth (omega arith) (omega arith))) (omega arith))))

    status_put : Does (Acked addressed_status) (put x status_field configured_status) (λ _. Settled H x) (Fine H)
    unfolding put_bytes
    status_put = does_store (λ t. with_byte t x status_field configured_status) (λ s a.
        let w = own_follows H x inside status_field configured_status s (omega arith) (omega arith) (omega arith) in (
          w,
          settle _ (record {
            middle =
                mid_write x configured_status (x + 1) status_field (configured_status ∷ []) w (omega arith) (omega arith) (inl (omega arith))
                (own_same H x inside status_field configured_status s (omega arith))
                (own_other H x inside status_field configured_status number_field s (omega arith) (omega arith) (inr (omega arith)) ∙ a.middle.number)
                a.middle;
            its_value =
                own_other H x inside status_field configured_status configuration_value_field s (omega arith) (omega arith) (inl (omega arith)) ∙ a.its_value;
            told = a.told;
          }),
        ))

    set_configure_does : Does Before (usb_set_configure x v) (λ _. Settled H x) (Fine H)
    unfolding usb_set_configure
    set_configure_does =
        does_known _ x status_field addressed_status (λ s m. m.middle.status) (
        does_next (does_unless (not (eqb addressed_status addressed_status)) _ (λ s m. at_fine s m.middle)) (
        does_pre (λ s m. m.0) (
        does_next (does_map (λ s p. p) (λ _ t u. is_set t u) unset
        (control_does Keys x (configuration_of v) nowhere
        (sends_none head_keys to_device set_configuration_code v 0 (omega arith) (omega arith) (omega arith) (omega arith) 0 (omega arith)) (x + 1)
        (λ s m. m.middle.number))) (
        does_next index_put status_put))))

  head_ready : {o : Outcome} {t : State h₀} → Answered (Spared x) x head_of (into configuration_descriptor_field 9) Ready (x + 1) o t → Ready t
  head_ready {o} a =
      let y : Still (asked (x + 1) head_of o) = still_device 2 0 9 (x + 1) o in
      mid_event x (asked (x + 1) head_of o) (calm_aside y.calm) a.keep a.past
      (count_miss (sets_address (x + 1)) _ a.before.past (y.calm.address (x + 1)) ∙ a.pre.addressings)
      (count_miss (configures (x + 1)) _ a.before.past (y.calm.configuration (x + 1)) ∙ a.pre.configurings)
      (λ hub port r. ago r) a.pre

  read_head : Does Ready (usb_get_descriptor x to_device 2 0 9 9 (into configuration_descriptor_field 9)) (λ _. Ready) (Fine H)
  unfolding usb_get_descriptor read
  read_head =
      does_bind (does_map (λ s p. p) (λ _ t u. head_ready u.answered) (λ t u. at_fine t (head_ready u.answered))
      (control_does (Spared x) x head_of (into configuration_descriptor_field 9) (head_sendable x) (x + 1) (λ s m. m.number)))
      λ bytes. does_next (does_unless (ltb (length bytes) 9) _ at_fine) (does_return bytes (λ s m. m.0))

  -- a part that keeps the place ready
  keep_ready : {A : Type 0} {S : A → Type 0} {m : M A} → Gives {h₀ = h₀} Stilly S m → Does Ready m (λ a s. Ready s × S a) (Fine H)
  keep_ready k = does_keep Ready k (λ s t m r. mid_still x address_stable r m) at_fine

  total_low : Gives {h₀ = h₀} Stilly (λ v. v < 65536) (get_number x total_length_field 2)
  unfolding get_number
  total_low = k_look (quiet_order Keys Still) _ (λ s.
      let long : length (bytes_at (store s) x total_length_field 2) ≡ 2 = bytes_length (store s) x total_length_field 2 (omega (arith, s.good.whole)) in
      subst (λ (n : ℕ). from_little_endian (bytes_at (store s) x total_length_field 2) < 256 ^ n) long
      (from_below (bytes_at (store s) x total_length_field 2) (bytes-at (store s) x total_length_field 2 s.good.store).below))

  full_still : (total : ℕ) → total < 65536 → Gives {h₀ = h₀} Stilly Bytes (usb_get_descriptor x to_device 2 0 total total nowhere)
  unfolding usb_get_descriptor
  full_still total low =
      read_quiet Keys x _ nowhere
      (sends_none head_keys to_device get_descriptor_code (2 * 256 + 0) 0 (omega arith) (omega arith) (omega arith) (omega arith) total low)
      (still_device 2 0 total) total

  record_still : Gives {h₀ = h₀} Stilly (λ bytes. Bytes bytes × (length bytes ≤ record_length)) (get_bytes x interfaces_field record_length)
  unfolding get_bytes
  record_still =
      k_look (quiet_order Keys Still) _
      (λ s. (bytes-at (store s) x interfaces_field record_length s.good.store, bytes_most (store s) x interfaces_field record_length))

  pub configure_does : Does Ready (usb_configure x 0) (λ _. Settled H x) (Fine H)
  unfolding usb_configure
  configure_does =
      does_known _ x status_field addressed_status (λ s m. m.status) (
      does_next (does_unless (not (eqb addressed_status addressed_status)) _ at_fine) (
      does_pre (λ s m. m.0) (
      does_next read_head (
      does_bind (keep_ready total_low) λ total.
      does_given (λ s m. m.1) λ low.
      does_pre (λ s m. m.0) (
      does_bind (keep_ready (full_still total low)) λ full.
      does_given (λ s m. m.1) λ bytes.
      does_pre (λ s m. m.0) (
      does_next (does_first (keep_ready (index_still 0 (omega arith)))) (
      does_bind (keep_ready record_still) λ kept.
      does_given (λ s m. m.1) λ k.
      does_pre (λ s m. m.0) (
      does_next (does_first (keep_ready (walked_still full kept bytes k.0 k.1))) (
      does_next (does_succeed (walk full kept).answer (λ e. at_fine)) (
      does_pre (λ s m. m.0) (
      does_bind (does_get x configuration_value_field) λ v.
      does_given (λ s m. subst (λ (n : ℕ). n < 256) (sym m.1) (byte-at (store s) x configuration_value_field s.good.store)) λ l.
      does_pre (λ s m. record { middle = m.0; its_value = sym m.1 }) (set_configure_does v l))))))))))))
    where
      walked_still : (full kept : List ℕ) → Bytes full → Bytes kept → length kept ≤ record_length
          → Keeps {h₀ = h₀} Stilly (put_bytes x interfaces_field (walk full kept).kept)
      walked_still full kept b c l =
          bytes_quiet Keys Still x interfaces_field record_length (walk full kept).kept (keys_clear (last (omega arith) (omega arith)))
          (record { past = omega arith; room = omega arith; apart = inr (omega arith) }) (omega (arith, walk_long full kept))
          (walk_bytes full kept b c)
