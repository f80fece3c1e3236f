-- Connection change and port check keep the invariant between store and history. Assumes nothing.
use mathlib.Core.Path.{◌≡◌, sym, ◌∙◌, subst}
use mathlib.Core.Bool.{Bool, not, ◌&&◌, ◌||◌}
use mathlib.Core.List.{List}
use Prim.Native.Nat.{ℕ, ◌+◌, ◌<◌}
use native.Mathlib.Omega.{arith}
use borrow.Author.Tests.{eqb-true, not-false}
use lib.Dec.{eqb}
use Rattle.usb_store.specs.Layout.{used_field, number_field, speed_field, status_field, port_number_field, parent_field, hub_field, child_field}
use Rattle.usb_store.specs.Access.{byte_at}
use Rattle.usb_store.specs.Values.{attached_status}
use Rattle.usb_model.specs.Programs.{when}
use Rattle.usb_model.specs.World.{M}
use Rattle.usb_model.specs.Features.{port_connection, port_enable, port_suspend, port_over_current, c_port_connection, c_port_enable, c_port_reset, bit}
use Rattle.usb_model.specs.Hub.{speed_of, hub_port_reset2, hub_port_connection_changed, hub_check_connection}
use Rattle.usb_model.specs.History.{Event}
use Rattle.usb_model.proofs.Functions.{small, speed_listed}
use Rattle.usb_model.proofs.Accepted.{neither}
use Rattle.usb_model.proofs.Triples.{does_first, State, store, Does, does_pre, does_bind, does_next, does_get, does_when, does_unless, does_ignore, does_keep, does_given, leads_map, Gives}
use Rattle.usb_model.proofs.Quiet.{Keys, Quiet, quiet_order, keys_clear, second, fourth, put_quiet}
use Rattle.usb_model.proofs.Quiet as Quiet
use Rattle.usb_model.proofs.Parts.{calm_of_still, Calm, Still, Stilly, waits_still, frame_still, clear_still, power_on_still, port_status_still, status_still}
use Rattle.usb_model.proofs.Resets.{reset2_does}
use Rattle.usb_model.proofs.Invariant.{calm_held, stands_kept}
use Rattle.usb_model.proofs.Middle.{Mid, Fine, fine_calm, use_kept}
use Rattle.usb_model.proofs.Addresses.{AfterReset, reset_stable}
use Rattle.usb_model.proofs.Births.{Allocated, does_allocate, new_does, else_same, Coming, Born, put_child, born_mid}

-- what an attach of a new device is to do
abbrev pub Enters : List Event → (ℕ → M (Unit {0})) → Type 1
Enters h₀ attach =
    (H : ℕ → Type 0) (x st : ℕ) → x < 32 → st < 3 → Does {h₀ = h₀} (Mid H x AfterReset st (x + 1) 0 0) (attach x) (λ _. Fine H) (Fine H)

module _ {h₀ : List Event} (H : ℕ → Type 0) where
  -- a part that adds still events and keeps the keys
  pub keeps_fine : {A : Type 0} {S : A → Type 0} {m : M A} → Gives {h₀ = h₀} Stilly S m → Does {h₀ = h₀} (Fine H) m (λ _. Fine H) (Fine H)
  keeps_fine k = does_first (does_keep (Fine H) k (λ s t f r. fine_calm (calm_of_still r) f) (λ s f. f))

  module _ (k j : ℕ) (known : H k) (below : k < 32) (low : j < 10) where
    -- the port has no child
    record Vacant (s : State h₀) : Type 0 where
      is_fine : Fine H s
      vacant : byte_at (store s) k (child_field j) ≡ 0

    record AfterPort (s : State h₀) : Type 0 where
      is_fine : Fine H s
      vacant : byte_at (store s) k (child_field j) ≡ 0
      reset : AfterReset k j s.past

    vacant_still : (s t : State h₀) → Vacant s → Quiet Keys Still s t → Vacant t
    vacant_still s t v r = record { is_fine = fine_calm (calm_of_still r) v.is_fine; vacant = r.keep k (child_field j) (Quiet.child j low) ∙ v.vacant }

    born_still : (x : ℕ) (s t : State h₀) → Born H k j known below low x s → Quiet Keys Still s t → Born H k j known below low x t
    born_still x s t b r =
        let n = b.new in
        record {
          new = record {
            is_fine = fine_calm (calm_of_still r) n.is_fine;
            inside = n.inside;
            its_use = r.keep x used_field Quiet.used ∙ n.its_use;
            its_status = r.keep x status_field Quiet.status ∙ n.its_status;
            its_number = r.keep x number_field Quiet.number ∙ n.its_number;
            its_hub = r.keep x hub_field Quiet.hub ∙ n.its_hub;
            first = omega (arith, n.first, use_kept (store s) (store t) (λ q. r.keep q used_field Quiet.used));
          };
          stands = stands_kept {X = λ _. ⊥} (calm_held (calm_of_still r)) b.stands;
          reset = reset_stable k j s.past t.past r.past b.reset;
        }

    -- the reset of the port
    resets_port : Does Vacant (hub_port_reset2 k j) (λ _. AfterPort) (Fine H)
    resets_port = record {
      run = λ s v.
          let own : byte_at (store s) k number_field ≡ k + 1 = (v.is_fine.inv.place k below (λ z. z)).numbered (v.is_fine.known.hubs k known) in
          leads_map ((reset2_does s k j below low own).run s ((quiet_order Keys Calm).same s))
          (λ _ t r. record {
            is_fine = fine_calm r.calmly v.is_fine;
            vacant = r.calmly.keep k (child_field j) (Quiet.child j low) ∙ v.vacant;
            reset = r.reset;
          })
          (λ t r. fine_calm r v.is_fine);
    }

    coming : (x : ℕ) (t : State h₀) → Allocated AfterPort x t → Coming H k j known below low x t
    coming x t a =
        let above : k < x = omega (arith, a.here, a.pre.is_fine.known.first k known) in
        record {
          new = new_does H (λ s p. p.is_fine) a;
          above = above;
          vacant = else_same H (λ s p. p.is_fine) a k (child_field j) (λ e. omega arith) (omega arith) ∙ a.pre.vacant;
          reset = subst (AfterReset k j) (sym a.past) a.pre.reset;
        }

    keeps_vacant : {A : Type 0} {S : A → Type 0} {m : M A} → Gives {h₀ = h₀} Stilly S m → Does Vacant m (λ _. Vacant) (Fine H)
    keeps_vacant q = does_first (does_keep Vacant q vacant_still (λ s v. v.is_fine))

    keeps_born : (x : ℕ) {A : Type 0} {S : A → Type 0} {m : M A} → Gives {h₀ = h₀} Stilly S m
        → Does {h₀ = h₀} (Born H k j known below low x) m (λ _. Born H k j known below low x) (Fine H)
    keeps_born x q =
        does_first (does_keep (Born H k j known below low x) q (born_still x) (λ s b. b.new.is_fine))

    module _ (attach : ℕ → M (Unit {0})) (enters : Enters h₀ attach) where
      pub connection_does : Does {h₀ = h₀} (Fine H) (hub_port_connection_changed attach k j) (λ _. Fine H) (Fine H)
      unfolding hub_port_connection_changed
      connection_does =
          does_next (keeps_fine frame_still) (
          does_next (keeps_fine (port_status_still k j low)) (
          does_next (keeps_fine (clear_still k c_port_connection j (omega arith) low)) (
          does_next (keeps_fine (port_status_still k j low)) (
          does_bind (keeps_fine (status_still k j)) λ status.
          does_bind (does_get k (child_field j)) λ child.
          does_next (does_unless ((not (bit port_connection status) && not (bit port_enable status)) || not (eqb child 0)) _ (λ s p. p.0)) (
          does_pre (λ s p. record {
            is_fine = p.0.0;
            vacant = sym p.0.1 ∙ eqb-true child 0 (not-false _
                (neither (not (bit port_connection status) && not (bit port_enable status)) (not (eqb child 0)) p.1).1);
          }) (
          does_next (keeps_vacant (waits_still 300000 (omega arith))) (
          does_next resets_port (
          does_allocate (λ s p. p.is_fine) λ x.
          does_given (λ s a. a.inside) λ inside.
          does_pre (λ s a. coming x s a) (
          does_next (put_child H k j known below low x) (
          does_next (keeps_born x (port_status_still k j low)) (
          does_bind (keeps_born x (status_still k j)) λ after.
          does_next (keeps_born x (put_quiet Keys Still x speed_field (speed_of after) (keys_clear second)
          (small speed_field (omega arith) (omega arith)) (omega (arith, speed_listed after)))) (
          does_next (keeps_born x (put_quiet Keys Still x parent_field (k + 1) (keys_clear (fourth (omega arith) (omega arith)))
          (small parent_field (omega arith) (omega arith)) (omega arith))) (
          does_next (keeps_born x (put_quiet Keys Still x port_number_field j (keys_clear (fourth (omega arith) (omega arith)))
          (small port_number_field (omega arith) (omega arith)) (omega arith))) (
          does_pre (λ s b. born_mid H k j known below low b) (enters H x attached_status inside (omega arith))))))))))))))))

      pub check_does : Does {h₀ = h₀} (Fine H) (hub_check_connection attach k j) (λ _. Fine H) (Fine H)
      unfolding hub_check_connection
      check_does =
          does_bind (keeps_fine (status_still k j)) λ before.
          does_next (keeps_fine (port_status_still k j low)) (
          does_bind (keeps_fine (status_still k j)) λ status.
          does_bind (does_first (does_get {N = Fine H} k number_field)) λ number.
          does_next (maybe _ (does_next (does_ignore (keeps_fine (clear_still k port_over_current j (omega arith) low)))
          (does_ignore (keeps_fine (power_on_still k))))) (
          does_next (maybe _ (does_next (does_ignore (keeps_fine (clear_still k c_port_enable j (omega arith) low))) (
          does_bind (does_first (does_get {N = Fine H} k (child_field j))) λ child. maybe _ (does_ignore connection_does)))) (
          does_next (maybe _ (does_ignore connection_does)) (
          does_next (maybe _ (keeps_fine (clear_still k port_suspend j (omega arith) low)))
          (maybe _ (keeps_fine (clear_still k c_port_reset j (omega arith) low)))))))
        where
          maybe : (b : Bool) {m : M (Unit {0})} → Does {h₀ = h₀} (Fine H) m (λ _. Fine H) (Fine H)
              → Does {h₀ = h₀} (Fine H) (when b m) (λ _. Fine H) (Fine H)
          maybe b h = does_when b (λ _. h) (λ _ s p. p)
