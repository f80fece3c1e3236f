-- Hub attach and attach keep the invariant between store and history, with any number that bounds the free places; so do a scan and the
-- root attach. Assumes nothing.
use mathlib.Core.Path.{◌≡◌, refl, sym, ap, ◌∙◌, subst}
use mathlib.Core.Bool.{Bool, true, false, not, ◌&&◌, true≢false, and-eq-true_iff}
use mathlib.Core.Logic.{◌⊎◌, inl, inr, ⊎_elim, ◌≢◌}
use mathlib.Core.List.{List, [], ◌∷◌}
use Prim.Native.Nat.{ℕ, zero, suc, ◌+◌, ◌-◌, ◌*◌, ◌≤◌, ◌<◌, min}
use native.Mathlib.Omega.{arith}
use native.Mathlib.Decide.{ℕ_discrete, dec_lt}
use borrow.Author.Tests.{eqb-false, not-true}
use lib.Dec.{eqb}
use lib.ListN.{get_or}
use Rattle.usb_types.specs.Descriptors.{is_hub_class}
use Rattle.usb_types.specs.Requests.{get_descriptor_code, to_hub}
use Rattle.usb_types.specs.Answers.{Answer}
use Rattle.usb_store.specs.Layout.{used_field, number_field, speed_field, status_field, hub_field, hub_descriptor_field, port_count_field, child_field, max_children_field, interface_class_field, endpoint_count_field, endpoint_address_field, endpoint_attributes_field, configuration_value_field}
use Rattle.usb_store.specs.Access.{byte_at, with_byte}
use Rattle.usb_store.specs.Values.{attached_status, powered_status, default_status, addressed_status, hub_without_descriptor, hub_with_descriptor}
use Rattle.usb_device.specs.Device.{blank, first_unused}
use Rattle.usb_device.proofs.Free.{first_most, first_before}
use Rattle.usb_store.proofs.Cells.{byte_else}
use Rattle.usb_model.specs.Programs.{◌>>=◌, ◌>>◌, succeed, ignore, when, each}
use Rattle.usb_model.specs.World.{M, get, put, put_bytes}
use Rattle.usb_model.specs.Transfer.{into, nowhere, usb_get_descriptor}
use Rattle.usb_model.specs.Usbd.{usb_read_device_descriptor, usb_configure}
use Rattle.usb_model.specs.Hub.{is_ok, hub_read_descriptor, hub_check_connection, hub_attach, scan_port, hub_check_for_change}
use Rattle.usb_model.specs.Attach.{usb_attach_device, attach_below, usb_attach_root_hub}
use Rattle.usb_model.specs.Kept.{Bytes}
use Rattle.usb_model.specs.History.{Event}
use Rattle.usb_model.proofs.Bytes.{bytes_blank}
use Rattle.usb_model.proofs.Stores.{plain_low, Follows, most_follows}
use Rattle.usb_model.proofs.Functions.{small, middle}
use Rattle.usb_model.proofs.Triples.{does_post, does_first, State, store, stored, Does, does_map, does_pre, does_bind, does_next, does_skip, does_get, does_known, does_when, does_unless, does_succeed, does_attempt, Attempted, does_ignore, does_each, does_keep, does_given, does_store, Gives, Keeps, k_store}
use Rattle.usb_model.proofs.Quiet.{Keys, key_low, Quiet, none, quiet_order, keys_clear, second, fortieth, last, put_quiet, bytes_quiet, write_quiet}
use Rattle.usb_model.proofs.Messages.{read_quiet}
use Rattle.usb_model.proofs.Parts.{calm_of_still, Still, Stilly, still_hub_descriptor, sends_none, sends_into, head_keys, read_device_still, hub_status_still, power_on_still}
use Rattle.usb_model.proofs.Invariant.{expected, Inv, story_map, Held, other, its_use, its_child, Aside, but_kept, stands_kept, Only, aside, back}
use Rattle.usb_model.proofs.Middle.{is_root, Stable, Mid, Fine, fine_calm, mid_still, mid_fine}
use Rattle.usb_model.proofs.Addresses.{own_follows, own_same, AfterReset, reset_stable, address_stable, Unaddressed, At, put-number, put_status, set_address_does}
use Rattle.usb_model.proofs.Configurations.{Settled, at_fine, configure_does}
use Rattle.usb_model.proofs.Births.{Allocated, does_allocate, new_does, new_mid}
use Rattle.usb_model.proofs.Claims.{Enters, keeps_fine, check_does}

-- the hubs of H, and x
abbrev pub Also : (ℕ → Type 0) → ℕ → ℕ → Type 0
Also H x q = H q ⊎ (q ≡ x)

early : (st : ℕ) → st < 3 → 0 ≡ expected st
early zero l = refl
early (suc zero) l = refl
early (suc (suc zero)) l = refl
early (suc (suc (suc st))) l = absurd (omega arith)

module _ {h₀ : List Event} where
  pub fine_less : {H G : ℕ → Type 0} {s : State h₀} → ((q : ℕ) → G q → H q) → Fine H s → Fine G s
  fine_less f y = record { inv = y.inv; known = record { hubs = λ q h. y.known.hubs q (f q h); first = λ q h. y.known.first q (f q h) } }

  -- ---- a place becomes a hub

  module _ {H : ℕ → Type 0} {x v : ℕ} (inside : x < 32) (v_low : v < 256) (v-not : v ≢ 0) {s : State h₀} (p : Settled H x s) where
    hub_follows : Follows (store s) (with_byte (store s) x hub_field v)
    hub_follows = own_follows H x inside hub_field v s (omega arith) (omega arith) v_low

    is-hub : byte_at (with_byte (store s) x hub_field v) x hub_field ≢ 0
    is-hub z = v-not (sym (own_same H x inside hub_field v s (omega arith)) ∙ z)

    else_hub : (q g : ℕ) → g < 1152 → (q ≡ x → g ≢ hub_field) → byte_at (with_byte (store s) x hub_field v) q g ≡ byte_at (store s) q g
    else_hub q g l n = byte_else (store s) x hub_field v q g (omega arith) l n

    hub_held : Quiet (Held (Only x)) (Aside (Only x)) s (stored s (with_byte (store s) x hub_field v) hub_follows)
    hub_held = record { keep = keep; past = none }
      where
        keep : (q g : ℕ) → Held (Only x) q g → byte_at (with_byte (store s) x hub_field v) q g ≡ byte_at (store s) q g
        keep q g (other n k) = else_hub q g (key_low k) (λ e. absurd (n e))
        keep q g its_use = else_hub q used_field (omega arith) (λ _. omega arith)
        keep q g (its_child j l) = else_hub q (child_field j) (omega arith) (λ _. omega arith)

    hub_fine : Fine (Also H x) (stored s (with_byte (store s) x hub_field v) hub_follows)
    hub_fine =
        let i = p.is_fine.inv.place x inside (λ z. z) in
        let st = else_hub x status_field (omega arith) (λ _. omega arith) in
        let u = else_hub x used_field (omega arith) (λ _. omega arith) in
        record {
          inv = back x (but_kept hub_held (aside x p.is_fine.inv)) (record {
            fresh = λ e. absurd (omega (arith, e, u, p.used));
            plain = λ _. u ∙ p.used;
            once = i.once ∙ ap expected (sym st);
            numbered = λ _. else_hub x number_field (omega arith) (λ _. omega arith) ∙ p.number;
            story = λ e. story_map x (λ h j. stands_kept hub_held) refl (λ P o. o)
                (else_hub x configuration_value_field (omega arith) (λ _. omega arith)) (i.story (sym st ∙ e));
          }) (λ l.
              let y = p.is_fine.inv.belongs (x + 1) (λ q e z. z) l in
              let e : y.0 ≡ x = omega (arith, y.1) in
              record {
                device = (inside, u ∙ p.used);
                status = st ∙ ap (λ (q : ℕ). byte_at (store s) q status_field) (sym e) ∙ y.2.status;
              });
          known = record {
            hubs = λ q. ⊎_elim (λ h z. old_hub q h z (ℕ_discrete q x))
                (λ e z. is-hub (ap (λ (k : ℕ). byte_at (with_byte (store s) x hub_field v) k hub_field) (sym e) ∙ z));
            first = λ q. ⊎_elim (λ h. omega (arith, hub_follows.first, p.is_fine.known.first q h)) (λ e. omega (arith, hub_follows.first, p.first, e));
          };
        }
      where
        old_hub : (q : ℕ) → H q → byte_at (with_byte (store s) x hub_field v) q hub_field ≡ 0 → Dec (q ≡ x) → ⊥
        old_hub q h z (yes e) = is-hub (ap (λ (k : ℕ). byte_at (with_byte (store s) x hub_field v) k hub_field) (sym e) ∙ z)
        old_hub q h z (no n) = p.is_fine.known.hubs q h (sym (else_hub q hub_field (omega arith) (λ e. absurd (n e))) ∙ z)

  put_hub : {H : ℕ → Type 0} {N : State h₀ → Type 0} {x : ℕ} (v : ℕ) → x < 32 → v < 256 → v ≢ 0
      → Does (Settled H x) (put x hub_field v) (λ _. Fine (Also H x)) N
  unfolding put_bytes
  put_hub {x = x} v inside l n = does_store (λ t. with_byte t x hub_field v) (λ s p. (hub_follows inside l n p, hub_fine inside l n p))

  -- MaxChildren is no key
  most_still : (x v : ℕ) → x < 32 → v ≤ 10 → Keeps {h₀ = h₀} Stilly (put x max_children_field v)
  unfolding put_bytes
  most_still x v inside l = k_store (quiet_order Keys Still) (λ t. with_byte t x max_children_field v) (λ s.
      let w = most_follows s.good x v inside l in
      (w, write_quiet Keys Still s x max_children_field (v ∷ []) 1 w (keys_clear (last (omega arith) (omega arith))) (omega arith)))

  -- ---- hub attach

  module _ (H : ℕ → Type 0) (x : ℕ) (inside : x < 32) where
    -- a known hub may be made one again
    hublike : (s : State h₀) → Fine (Also H x) s → Settled (Also H x) x s
    hublike s f =
        let i = f.inv.place x inside (λ z. z) in
        let h = f.known.hubs x (inr refl) in
        record { is_fine = f; number = i.numbered h; used = i.plain h; first = omega (arith, f.known.first x (inr refl)) }

    header_still : Gives {h₀ = h₀} Stilly Bytes (usb_get_descriptor x to_hub 41 0 2 2 nowhere)
    unfolding usb_get_descriptor
    header_still =
        read_quiet Keys x _ nowhere
        (sends_none head_keys to_hub get_descriptor_code (41 * 256 + 0) 0 (omega arith) (omega arith) (omega arith) (omega arith) 2 (omega arith))
        (still_hub_descriptor (41 * 256 + 0) 2) 2

    descriptor_still : (n : ℕ) → n < 256 → Gives {h₀ = h₀} Stilly Bytes (usb_get_descriptor x to_hub 41 0 n n (into hub_descriptor_field 9))
    unfolding usb_get_descriptor
    descriptor_still n l = read_quiet Keys x _ (into hub_descriptor_field 9)
        (sends_into head_keys hub_descriptor_field 9 (keys_clear (fortieth (omega arith) (omega arith))) (omega arith) (omega arith) to_hub
        get_descriptor_code (41 * 256 + 0) 0 n (omega arith) (omega arith) (omega arith) (omega arith) (omega arith))
        (still_hub_descriptor (41 * 256 + 0) n) n

    descriptor_does : Does {h₀ = h₀} (Fine (Also H x)) (hub_read_descriptor x) (λ _. Fine (Also H x)) (Fine (Also H x))
    unfolding hub_read_descriptor
    descriptor_does =
        does_bind (does_keep (Fine (Also H x)) header_still (λ s t f r. fine_calm (calm_of_still r) f) (λ s f. f)) λ header.
        does_given (λ s p. p.1) λ bytes.
        does_pre (λ s p. p.0) (
        does_bind (does_first (does_get {N = Fine (Also H x)} x hub_field)) λ data'.
        does_next (does_when _ (λ _. made) (λ _ s f. f)) (
        does_next (keeps_fine (Also H x) (descriptor_still (get_or header 0 0) (bytes.below 0))) does_skip))
      where
        made : Does {h₀ = h₀} (Fine (Also H x)) (put x hub_field hub_with_descriptor >> put_bytes x hub_descriptor_field (blank 9)) (λ _. Fine (Also H x)) (Fine (Also H x))
        made = does_next
            (does_pre hublike (does_post (λ _ s f. fine_less (λ q h. inl h) f)
            (put_hub {N = Fine (Also H x)} hub_with_descriptor inside (omega arith) (omega arith))))
            (keeps_fine (Also H x) (bytes_quiet Keys Still x hub_descriptor_field 9 (blank 9) (keys_clear (fortieth (omega arith) (omega arith)))
            (plain_low (omega arith) (omega arith)) (omega arith) (bytes_blank 9)))

    module _ (attach : ℕ → M (Unit {0})) (enters : Enters h₀ attach) where
      ports_does : Does {h₀ = h₀} (Fine (Also H x)) (get x max_children_field >>= λ children. each children 0
          (λ port. ignore (hub_check_connection attach x port))) (λ _. Fine (Also H x)) (Fine (Also H x))
      ports_does =
          does_bind (does_get x max_children_field) λ children.
          does_given (λ s p. subst (λ (n : ℕ). n ≤ 10) (sym p.1) (s.good.most x)) λ most.
          does_pre (λ s p. p.0) (does_each children 0 (λ port l. does_ignore (check_does (Also H x) x port (inr refl) inside (omega arith) attach enters)))

      pub hub_attach_does : Does {h₀ = h₀} (Settled H x) (hub_attach attach x) (λ _. Fine H) (Fine H)
      unfolding hub_attach
      hub_attach_does =
          does_bind (does_get x endpoint_count_field) λ count.
          does_next (does_unless _ _ (λ s p. p.0.is_fine)) (
          does_bind (does_get x endpoint_address_field) λ address.
          does_next (does_unless _ _ (λ s p. p.0.0.0.is_fine)) (
          does_bind (does_get x endpoint_attributes_field) λ attributes.
          does_next (does_unless _ _ (λ s p. p.0.0.0.0.0.is_fine)) (
          does_pre (λ s p. p.0.0.0.0.0.0) (
          does_next (put_hub hub_without_descriptor inside (omega arith) (omega arith)) (
          does_map (λ s p. p) (λ _ s f. fine_less (λ q h. inl h) f) (λ s f. fine_less (λ q h. inl h) f) (
          does_next (keeps_fine (Also H x) (most_still x 1 inside (omega arith))) (
          does_next descriptor_does (
          does_bind (does_first (does_get {N = Fine (Also H x)} x port_count_field)) λ ports.
          does_next (keeps_fine (Also H x) (most_still x (min ports 10) inside (omega arith))) (
          does_next (keeps_fine (Also H x) (hub_status_still x)) (
          does_next (keeps_fine (Also H x) (power_on_still x)) (
          does_next (keeps_fine (Also H x) (hub_status_still x)) ports_does)))))))))))

  -- ---- attach

  -- a part that keeps the place in the middle
  keeps_mid : (H : ℕ → Type 0) (x : ℕ) {R : ℕ → ℕ → List Event → Type 0} {st n c d : ℕ} → Stable R
      → ((s : State h₀) → Mid H x R st n c d s → Fine H s) → {A : Type 0} {S : A → Type 0} {m : M A} → Gives {h₀ = h₀} Stilly S m
      → Does {h₀ = h₀} (Mid H x R st n c d) m (λ _. Mid H x R st n c d) (Fine H)
  keeps_mid H x k f g = does_first (does_keep _ g (λ s t m r. mid_still x k r m) f)

  module _ (attach : ℕ → M (Unit {0})) (enters : Enters h₀ attach) (H : ℕ → Type 0) (x : ℕ) (inside : x < 32) where
    -- the rest, once the address is set
    addressed_does : Does {h₀ = h₀} (At H x inside addressed_status (x + 1))
        (usb_read_device_descriptor x >> (usb_configure x 0
        >> (get x interface_class_field >>= λ class. when (is_hub_class class) (hub_attach attach x)))) (λ _. Fine H) (Fine H)
    addressed_does =
        does_next (keeps_mid H x address_stable (at_fine H x inside) (read_device_still x)) (
        does_next (configure_does H x inside) (
        does_bind (does_get x interface_class_field) λ class.
        does_pre (λ s p. p.0) (does_when (is_hub_class class) (λ _. hub_attach_does H x inside attach enters) (λ _ s p. p.is_fine))))

    unaddressed_fine : (s : State h₀) → Mid H x AfterReset default_status (x + 1) 0 0 s → Fine H s
    unaddressed_fine s m = mid_fine x (omega arith) refl m

    -- whatever came of SetAddress, the number is restored
    answered_does : (result : Answer) (b : Bool) → is_ok result ≡ b
        → Does {h₀ = h₀} (Attempted (At H x inside addressed_status (x + 1)) (Unaddressed H x inside) result)
        (put x number_field (x + 1) >> (succeed result >> (usb_read_device_descriptor x
        >> (usb_configure x 0 >> (get x interface_class_field >>= λ class. when (is_hub_class class) (hub_attach attach x)))))) (λ _. Fine H) (Fine H)
    answered_does result true e = does_pre (λ s a. a.ok e) (
        does_next (put-number H x inside (x + 1) (omega arith)) (
        does_next (does_succeed result (λ n. absurd (true≢false (sym e ∙ n)))) (does_pre (λ s p. p.0) addressed_does)))
    answered_does result false e = does_pre (λ s a. a.error e) (
        does_next (put-number H x inside (x + 1) (omega arith)) (
        does_next (does_succeed result (λ n s m. unaddressed_fine s m)) (record { run = λ s p. absurd (true≢false (sym p.1 ∙ e)) })))

    pub attach_does : (st : ℕ) → st < 3
        → Does {h₀ = h₀} (Mid H x AfterReset st (x + 1) 0 0) (usb_attach_device attach x) (λ _. Fine H) (Fine H)
    unfolding usb_attach_device
    attach_does st l =
        does_known _ x number_field (x + 1) (λ s m. m.number) (
        does_next (put-number H x inside 0 (omega arith)) (
        does_next (keeps_mid H x reset_stable (λ s m. mid_fine x (omega arith) (early st l) m) (read_device_still x)) (
        does_next (put_status H x inside default_status (omega arith)) (
        does_bind (does_attempt (set_address_does H x inside)) λ result. answered_does result (is_ok result) refl))))

  pub attach_below_does : (free : ℕ) → Enters h₀ (attach_below free)
  unfolding attach_below
  attach_below_does zero H x st inside l =
      does_post (λ _ s m. mid_fine x (omega arith) (early st l) m) (does_skip {N = Fine H})
  attach_below_does (suc free) H x st inside l = attach_does (attach_below free) (attach_below_does free) H x inside st l

  -- ---- scan

  either_fine : {H : ℕ → Type 0} (r : Answer) (s : State h₀) → Attempted (Fine H) (Fine H) r s → (b : Bool) → is_ok r ≡ b → Fine H s
  either_fine r s a true e = a.ok e
  either_fine r s a false e = a.error e

  -- a child that the scan goes into is a known hub
  record Found (H : ℕ → Type 0) (hub port child data' : ℕ) (s : State h₀) : Type 0 where
    is_fine : Fine H s
    its_child : child ≡ byte_at (store s) hub (child_field port)
    its_hub : data' ≡ byte_at (store s) (child - 1) hub_field

  found_fine : {H : ℕ → Type 0} {hub port child data' : ℕ} → port < 10 → child ≢ 0 → data' ≢ 0 → (s : State h₀)
      → Found H hub port child data' s → Fine (Also H (child - 1)) s
  found_fine {H} {hub} {port} {child} {data'} l c d s f =
      let above = s.good.child hub port l (λ z. c (f.its_child ∙ z)) in
      record {
        inv = f.is_fine.inv;
        known = record {
          hubs = λ q. ⊎_elim (λ h. f.is_fine.known.hubs q h) (λ e z. d (f.its_hub ∙ ap (λ (k : ℕ). byte_at (store s) k hub_field) (sym e) ∙ z));
          first = λ q. ⊎_elim (λ h. f.is_fine.known.first q h) (λ e. omega (arith, e, above.used, above.above, f.its_child));
        };
      }

  module _ (free : ℕ) where
    scan_port_does : (below : ℕ → M (Unit {0}))
        → ((q : ℕ) (G : ℕ → Type 0) → G q → q < 32 → Does {h₀ = h₀} (Fine G) (below q) (λ _. Fine G) (Fine G))
        → (hub port : ℕ) (H : ℕ → Type 0) → H hub → hub < 32 → port < 10
        → Does {h₀ = h₀} (Fine H) (scan_port (attach_below free) below hub port) (λ _. Fine H) (Fine H)
    unfolding scan_port
    scan_port_does below scans hub port H h l m =
        does_bind (does_post (λ r s a. either_fine r s a (is_ok r) refl)
        (does_attempt {N = Fine H} (check_does H hub port h l m (attach_below free) (attach_below_does free)))) λ result.
        does_bind (does_get hub (child_field port)) λ child.
        does_bind (does_get (child - 1) hub_field) λ data'.
        does_pre {P = Found H hub port child data'} (λ s p. record { is_fine = p.0.0; its_child = p.0.1; its_hub = p.1 }) (
        does_when (is_ok result && not (eqb child 0) && not (eqb data' 0))
        (λ e.
        let c = eqb-false child 0 (not-true _ (middle (is_ok result) (not (eqb data' 0)) e)) in
        let d = eqb-false data' 0 (not-true _ ((and-eq-true_iff (is_ok result && not (eqb child 0)) (not (eqb data' 0))).0 e).1) in
        does_given {F = child - 1 < 32} (λ s f. omega (arith, (found_fine m c d s f).known.first (child - 1) (inr refl), first_most (store s))) λ low.
        does_map (found_fine m c d) (λ _ s f. fine_less (λ q g. inl g) f) (λ s f. fine_less (λ q g. inl g) f)
        (scans (child - 1) (Also H (child - 1)) (inr refl) low))
        (λ _ s f. f.is_fine))

    pub scan_does : (above hub : ℕ) (H : ℕ → Type 0) → H hub → hub < 32
        → Does {h₀ = h₀} (Fine H) (hub_check_for_change (attach_below free) above hub) (λ _. Fine H) (Fine H)
    unfolding hub_check_for_change
    scan_does zero hub H h l = does_skip
    scan_does (suc above) hub H h l =
        does_bind (does_get hub max_children_field) λ count.
        does_given (λ s p. subst (λ (n : ℕ). n ≤ 10) (sym p.1) (s.good.most hub)) λ most.
        does_pre (λ s p. p.0) (does_each count 0 (λ port m. scan_port_does (hub_check_for_change (attach_below free) above) (scan_does above)
        hub port H h l (omega arith)))

  -- ---- root attach

  -- no root hub is attached
  pub record Rootless (s : State h₀) : Type 0 where
    pub inv : Inv s
    pub unused : byte_at (store s) 0 used_field ≡ 0

  rootless_fine : (s : State h₀) → Rootless s → Fine (λ _. ⊥) s
  rootless_fine s r = record { inv = r.inv; known = record { hubs = λ q h. absurd h; first = λ q h. absurd h } }

  root_mid : (x : ℕ) (t : State h₀) → Allocated Rootless x t → Mid (λ _. ⊥) x AfterReset attached_status (x + 1) 0 0 t
  root_mid x t a =
      new_mid (λ _. ⊥) (new_does (λ _. ⊥) rootless_fine a) (is_root (a.here ∙ none (dec_lt 0 (first_unused (store a.before)))))
    where
      none : Dec (0 < first_unused (store a.before)) → first_unused (store a.before) ≡ 0
      none (yes l) = absurd (first_before (store a.before) 0 l a.pre.unused)
      none (no l) = omega arith

  pub root_does : (speed : ℕ) → speed < 256 → Does {h₀ = h₀} Rootless (usb_attach_root_hub speed) (λ _. Fine (λ _. ⊥)) (Fine (λ _. ⊥))
  unfolding usb_attach_root_hub
  root_does speed l =
      does_allocate rootless_fine λ x.
      does_given (λ s a. a.inside) λ inside.
      does_pre (root_mid x) (
      does_next (keeps_mid (λ _. ⊥) x reset_stable (λ s m. mid_fine x (omega arith) refl m)
      (put_quiet Keys Still x speed_field speed (keys_clear second) (small speed_field (omega arith) (omega arith)) l)) (
      does_next (put_status (λ _. ⊥) x inside powered_status (omega arith)) (attach_below_does 32 (λ _. ⊥) x powered_status inside (omega arith))))
