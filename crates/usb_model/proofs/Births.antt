-- A new device: a place is allocated, and the device stands at the port that was reset for it. Assumes nothing.
use mathlib.Core.Path.{◌≡◌, refl, sym, ap, ◌∙◌, subst}
use mathlib.Core.Logic.{◌⊎◌, inl, inr, ◌≢◌}
use mathlib.Core.List.{List, [], ◌∷◌}
use Prim.Native.Nat.{ℕ, ◌+◌, ◌≤◌, ◌<◌}
use native.Mathlib.Omega.{arith}
use native.Mathlib.Decide.{ℕ_discrete, dec_lt}
use lib.ListN.{get_or}
use Rattle.usb_store.specs.Layout.{used_field, number_field, status_field, hub_field, child_field}
use Rattle.usb_store.specs.Access.{byte_at, with_bytes, with_byte}
use Rattle.usb_store.specs.Values.{attached_status}
use Rattle.usb_store.proofs.Fields.{byte_same}
use Rattle.usb_device.specs.Device.{new_device, first_unused}
use Rattle.usb_device.proofs.NewDevice.{new_bytes}
use Rattle.usb_device.proofs.Free.{new_elsewhere, first-unused, new_byte}
use Rattle.usb_sound.specs.Sound.{IsUsed}
use Rattle.usb_store.proofs.Cells.{byte_beside}
use Rattle.usb_model.specs.Programs.{Ran, on, ◌>>=◌}
use Rattle.usb_model.specs.World.{put_bytes, World, M, put}
use Rattle.usb_model.specs.Usbd.{usb_allocate_device}
use Rattle.usb_model.specs.History.{Event, sets_address, configures, count}
use Rattle.usb_model.specs.Demand3.{Once, Stands}
use Rattle.usb_model.proofs.Ways.{Allocates, bus_full, allocated, allocate_ends}
use Rattle.usb_model.proofs.Stores.{Follows, new_follows, first_new, child_follows}
use Rattle.usb_model.proofs.Triples.{State, store, stored, Leads, bad, Does, does_store}
use Rattle.usb_model.proofs.Invariant.{expected, PlaceInv, Inv, own_low, place_map, aside}
use Rattle.usb_model.proofs.Middle.{Origin, is_child, Mid, Fine, hubs_kept}
use Rattle.usb_model.proofs.Addresses.{AfterReset}

-- ---- allocation

module _ {h₀ : List Event} where
  -- t came from a state of P by a new device at the place x
  pub record Allocated (P : State h₀ → Type 0) (x : ℕ) (t : State h₀) : Type 0 where
    pub before : State h₀
    pub pre : P before
    pub here : x ≡ first_unused (store before)
    pub inside : x < 32
    pub is : store t ≡ with_bytes (store before) x 0 (new_device x)
    pub past : t.past ≡ before.past

  pub does_allocate : {P N : State h₀ → Type 0} {B : Type 0} {Q : B → State h₀ → Type 0} {k : ℕ → M B} → ((s : State h₀) → P s → N s)
      → ((x : ℕ) → Does (Allocated P x) (k x) Q N) → Does P (usb_allocate_device >>= k) Q N
  unfolding ◌>>=◌
  does_allocate {P} {N} {B} {Q} {k} f h = record { run = λ s p. go s p (allocate_ends s.world) }
    where
      go : (s : State h₀) → P s → {r : Ran World ℕ} → Allocates s.world r → Leads Q N (on r k)
      go s p bus_full = bad s (f s p)
      go s p (allocated {p = x} e inside) =
          (h x).run (stored s (with_bytes (store s) x 0 (new_device x)) (new_follows s.good x e inside)) (record {
            before = s;
            pre = p;
            here = e;
            inside = inside;
            is = refl;
            past = refl;
          })

module _ {h₀ : List Event} (H : ℕ → Type 0) where
  -- a device that was just allocated
  pub record New (x : ℕ) (t : State h₀) : Type 0 where
    pub is_fine : Fine H t
    pub inside : x < 32
    pub its_use : byte_at (store t) x used_field ≡ 1
    pub its_status : byte_at (store t) x status_field ≡ attached_status
    pub its_number : byte_at (store t) x number_field ≡ x + 1
    pub its_hub : byte_at (store t) x hub_field ≡ 0
    pub first : x + 1 ≤ first_unused (store t)

  module _ {P : State h₀ → Type 0} (was : (s : State h₀) → P s → Fine H s) {x : ℕ} {t : State h₀} (a : Allocated P x t) where
    abbrev s : State h₀
    s = a.before

    unused : byte_at (store s) x used_field ≡ 0
    unused = ap (λ (q : ℕ). byte_at (store s) q used_field) a.here ∙ first-unused (store s) (omega (arith, a.here, a.inside))

    pub else_same : (q g : ℕ) → q ≢ x → g < 1152 → byte_at (store t) q g ≡ byte_at (store s) q g
    else_same q g n l = ap (λ (w : List ℕ). byte_at w q g) a.is ∙ new_elsewhere (store s) x q g l n

    new_is : (g : ℕ) → g < 1152 → byte_at (store t) x g ≡ get_or (new_device x) g 0
    new_is g l = ap (λ (w : List ℕ). byte_at w x g) a.is ∙ new_byte (store s) x g s.good.whole a.inside l

    used_else : (q : ℕ) → byte_at (store s) q used_field ≡ 1 → q ≢ x
    used_else q u e = omega (arith, sym u ∙ ap (λ (k : ℕ). byte_at (store s) k used_field) e ∙ unused)

    device_new : {q : ℕ} → IsUsed (store s) q → IsUsed (store t) q
    device_new {q} d = (d.0, else_same q used_field (used_else q d.1) (omega arith) ∙ d.1)

    stands_new : {k j q : ℕ} → Stands (store s) k j q → Stands (store t) k j q
    stands_new {k} {j} y = record {
      device = device_new y.device;
      low = y.low;
      child = else_same k (child_field j) (used_else k y.device.1) (omega (arith, y.low)) ∙ y.child;
    }

    others : (q : ℕ) → q ≢ x → PlaceInv (store s) s.past q → PlaceInv (store t) t.past q
    others q n i =
        place_map q (λ k j. stands_new) (ap (count (sets_address (q + 1))) a.past) (λ R o. subst (Once R) (sym a.past) o)
        (λ g o. else_same q g n (omega (arith, own_low o))) i

    itself : PlaceInv (store s) s.past x → PlaceInv (store t) t.past x
    itself i =
        let b = new_bytes x in
        record {
          fresh = λ e. absurd (omega (arith, e, new_is used_field (omega arith), b.used));
          plain = λ d. absurd (d (new_is hub_field (omega arith) ∙ b.hub));
          once =
              ap (count (sets_address (x + 1))) a.past ∙ i.once
              ∙ ap expected (i.fresh unused ∙ sym (new_is status_field (omega arith) ∙ b.status));
          numbered = λ d. absurd (d (new_is hub_field (omega arith) ∙ b.hub));
          story = λ e. absurd (omega (arith, e, new_is status_field (omega arith), b.status));
        }

    inv_new : Inv s → Inv t
    inv_new i = record {
      place = λ q l _. at_place q l (ℕ_discrete q x);
      belongs = λ n d l.
          let y = i.belongs n (λ q e z. z) (subst (λ (h : List Event). 0 < count (configures n) h) a.past l) in (
            y.0,
            y.1,
            record {
              device = device_new y.2.device;
              status = else_same y.0 status_field (used_else y.0 y.2.device.1) (omega arith) ∙ y.2.status;
            },
          );
    }
      where
        at_place : (q : ℕ) → q < 32 → Dec (q ≡ x) → PlaceInv (store t) t.past q
        at_place q l (yes e) = subst (PlaceInv (store t) t.past) (sym e) (itself (i.place x a.inside (λ z. z)))
        at_place q l (no n) = others q n (i.place q l (λ z. z))

    pub new_does : New x t
    new_does =
        let b = new_bytes x in
        let f = was s a.pre in
        let later : x + 1 ≤ first_unused (store t) = subst (λ (w : List ℕ). x + 1 ≤ first_unused w) (sym a.is) (first_new s.good x a.here a.inside) in
        record {
          is_fine = record {
            inv = inv_new f.inv;
            known = hubs_kept (λ q h. else_same q hub_field (known_else f q h) (omega arith)) (omega (arith, later, a.here)) f.known;
          };
          inside = a.inside;
          its_use = new_is used_field (omega arith) ∙ b.used;
          its_status = new_is status_field (omega arith) ∙ b.status;
          its_number = new_is number_field (omega arith) ∙ b.number;
          its_hub = new_is hub_field (omega arith) ∙ b.hub;
          first = later;
        }
      where
        known_else : Fine H s → (q : ℕ) → H q → q ≢ x
        known_else f q h e = omega (arith, e, a.here, f.known.first q h)

-- a new device is in the middle of its attach
pub new_mid : {h₀ : List Event} (H : ℕ → Type 0) {x : ℕ} {t : State h₀} → New H x t → Origin (store t) x AfterReset t.past
    → Mid H x AfterReset attached_status (x + 1) 0 0 t
new_mid H {x} {t} n origin =
    let f = n.is_fine in
    let i = f.inv.place x n.inside (λ z. z) in
    record {
      but = aside x f.inv;
      used = n.its_use;
      status = n.its_status;
      no-hub = n.its_hub;
      number = n.its_number;
      addressings = i.once ∙ ap expected n.its_status;
      configurings = none_of (dec_lt 0 (count (configures (x + 1)) t.past));
      origin = origin;
      known = f.known;
      first = n.first;
    }
  where
    none_of : Dec (0 < count (configures (x + 1)) t.past) → count (configures (x + 1)) t.past ≡ 0
    none_of (no l) = omega arith
    none_of (yes l) =
        let y = n.is_fine.inv.belongs (x + 1) (λ q e z. z) l in
        let e : y.0 ≡ x = omega (arith, y.1) in
        absurd (omega (arith, ap (λ (q : ℕ). byte_at (store t) q status_field) (sym e) ∙ y.2.status, n.its_status))

-- ---- the child's byte

module _ {h₀ : List Event} (H : ℕ → Type 0) (k j : ℕ) (known : H k) (below : k < 32) (low : j < 10) where
  -- a new device that has a port without a child, which was reset for it
  pub record Coming (x : ℕ) (t : State h₀) : Type 0 where
    pub new : New H x t
    pub above : k < x
    pub vacant : byte_at (store t) k (child_field j) ≡ 0
    pub reset : AfterReset k j t.past

  -- it stands there
  pub record Born (x : ℕ) (t : State h₀) : Type 0 where
    pub new : New H x t
    pub stands : Stands (store t) k j x
    pub reset : AfterReset k j t.past

  module _ {x : ℕ} {s : State h₀} (c : Coming x s) where
    abbrev with_child : List ℕ
    with_child = with_byte (store s) k (child_field j) (x + 1)

    -- every byte but this one
    rest_same : (q g : ℕ) → g < 1152 → ((q ≡ k) → (child_field j + 1 ≤ g) ⊎ (g < child_field j)) → byte_at with_child q g ≡ byte_at (store s) q g
    rest_same q g l n = byte_beside (store s) k (child_field j) ((x + 1) ∷ []) q g (omega arith) l n

    own_rest : (q g : ℕ) → g < 43 → byte_at with_child q g ≡ byte_at (store s) q g
    own_rest q g l = rest_same q g (omega arith) (λ _. inr (omega arith))

    follows : Follows (store s) with_child
    follows = child_follows s.good k j (x + 1) below low (omega (arith, c.above)) c.new.first

    device_rest : {q : ℕ} → IsUsed (store s) q → IsUsed with_child q
    device_rest {q} d = (d.0, own_rest q used_field (omega arith) ∙ d.1)

    -- a child stands at another port
    stands_rest : {h i q : ℕ} → Stands (store s) h i q → Stands with_child h i q
    stands_rest {h} {i} {q} y = record { device = device_rest y.device; low = y.low; child = go (ℕ_discrete h k) (dec_lt j i) (dec_lt i j) ∙ y.child }
      where
        go : Dec (h ≡ k) → Dec (j < i) → Dec (i < j) → byte_at with_child h (child_field i) ≡ byte_at (store s) h (child_field i)
        go (no n) a b = rest_same h (child_field i) (omega (arith, y.low)) (λ e. absurd (n e))
        go (yes e) (yes a) b = rest_same h (child_field i) (omega (arith, y.low)) (λ _. inl (omega arith))
        go (yes e) (no a) (yes b) = rest_same h (child_field i) (omega (arith, y.low)) (λ _. inr (omega arith))
        go (yes e) (no a) (no b) =
            let same : i ≡ j = omega arith in
            absurd (omega (arith, y.child, ap (λ (m : ℕ). byte_at (store s) m (child_field i)) e ∙ ap (λ (m : ℕ). byte_at (store s) k (child_field m)) same ∙ c.vacant))

    inv_rest : Inv s → Inv (stored s with_child follows)
    inv_rest i = record {
      place = λ q l _. place_map q (λ h m. stands_rest) refl (λ R o. o) (λ g o. own_rest q g (own_low o)) (i.place q l (λ z. z));
      belongs = λ n d l. let y = i.belongs n d l in (
        y.0,
        y.1,
        record {
          device = device_rest y.2.device;
          status = own_rest y.0 status_field (omega arith) ∙ y.2.status;
        },
      );
    }

    born : Born x (stored s with_child follows)
    born =
        let n = c.new in
        let hub_used : byte_at (store s) k used_field ≡ 1 = (n.is_fine.inv.place k below (λ z. z)).plain (n.is_fine.known.hubs k known) in
        record {
          new = record {
            is_fine = record { inv = inv_rest n.is_fine.inv; known = hubs_kept (λ q _. own_rest q hub_field (omega arith)) follows.first n.is_fine.known };
            inside = n.inside;
            its_use = own_rest x used_field (omega arith) ∙ n.its_use;
            its_status = own_rest x status_field (omega arith) ∙ n.its_status;
            its_number = own_rest x number_field (omega arith) ∙ n.its_number;
            its_hub = own_rest x hub_field (omega arith) ∙ n.its_hub;
            first = omega (arith, follows.first, n.first);
          };
          stands = record {
            device = (below, own_rest k used_field (omega arith) ∙ hub_used);
            low = low;
            child = byte_same (store s) k (child_field j) (x + 1) (record { whole = s.good.whole; inside = below; room = omega arith });
          };
          reset = c.reset;
        }

  pub put_child : {N : State h₀ → Type 0} (x : ℕ) → Does (Coming x) (put k (child_field j) (x + 1)) (λ _. Born x) N
  unfolding put_bytes
  put_child x = does_store (λ t. with_byte t k (child_field j) (x + 1)) (λ s c. (follows c, born c))

  -- the place is in the middle of its attach
  pub born_mid : {x : ℕ} {t : State h₀} → Born x t → Mid H x AfterReset attached_status (x + 1) 0 0 t
  born_mid b = new_mid H b.new (is_child b.stands b.reset)
