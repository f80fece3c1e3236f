-- The status reads of a reset: a turn of each loop, over plain values. Assumes nothing.
use Rattle.std.specs.Prelude.{◌≡◌, Bool, true, false, cond, ℕ, suc, ◌+◌, ◌-◌, ◌<◌, ◌≤◌, Result, Ok, Err, IsErr, IsErrAnd}
use Rattle.std.proofs.Common.{arith, ap, sym, ◌∙◌}
use Rattle.usb_types.specs.declared.types.Failure.{Failure}
use Rattle.usb_store.specs.Layout.{port_status_field}
use Rattle.usb_store.specs.Access.{number_at}
use Rattle.usb_model.specs.Programs.{Ran, on, ◌>>=◌, ◌>>◌, return, look}
use Rattle.usb_model.specs.World.{World, M, get_number, micro_delay}
use Rattle.usb_model.specs.Features.{c_port_reset, bit}
use Rattle.usb_model.specs.Hub.{hub_port_get_status, port_status, await_reset}
use Rattle.usb_transfer.specs.declared.bus.UsbBus.{UsbBus}
use Rattle.usb_transfer.specs.Runs.{world, Ready, Does}
use Rattle.usb_transfer.proofs.Steps.{next, next_failed, got_number, taken_if, returned, Going, goes_to}
use Rattle.usb_transfer.proofs.Regroups.{Same, same, join, does_as, next_next}
use Rattle.usb_port.specs.Parts.{delayed_status}

-- the stored status of a port
abbrev pub status_in : UsbBus → ℕ → ℕ → ℕ
status_in b hub port = number_at b.store.now hub (port_status_field port) 4

-- the wait and the read, then k on the status
abbrev pub reading : {B : Type 0} → ℕ → ℕ → ℕ → (ℕ → M B) → M B
reading hub port us k = micro_delay us >> (hub_port_get_status hub port >> (port_status hub port >>= k))

-- reads until a test holds: what each of them gives, by how many are left after it
module _ (hub port us : ℕ) (await : ℕ → M Bool) (test seen : ℕ → Bool)
    (turn : (n : ℕ) → Same (reading hub port us (λ status. cond (test status) (return (seen n)) (await n))) (await (suc n)))
    (left n : ℕ) (e : left ≡ suc n) where
  abbrev rest : ℕ → M Bool
  rest status = cond (test status) (return (seen n)) (await n)

  turned : Same (delayed_status hub port us >> (port_status hub port >>= rest)) (await left)
  unfolding delayed_status
  turned = rw e (join (next_next (micro_delay us) (hub_port_get_status hub port) _ (same _)) (turn n))

  module _ {b b₁ : UsbBus} where
    pub await_failed : {f : Failure} {r : Result Bool Failure} → Does (delayed_status hub port us) b b₁ (Err f)
        → IsErr r × IsErrAnd r (λ g. g ≡ f) → Does (await left) b b₁ r
    await_failed d x = does_as turned (next_failed _ d x)

    module _ (d : Does (delayed_status hub port us) b b₁ (Ok tt)) {status : ℕ} (s : status ≡ status_in b₁ hub port) where
      pub await_seen : test status ≡ true → Does (await left) b b₁ (Ok (seen n))
      unfolding port_status
      await_seen t = does_as turned (next _ d (got_number _ _ _ _ s (taken_if (await n) t (returned d.fit (seen n)))))

      pub await_goes : {m : M Bool} {b₀ : UsbBus} → test status ≡ false → Going m b₀ (await left) b → Going m b₀ (await n) b₁
      unfolding port_status get_number look ◌>>=◌ ◌>>◌
      await_goes t g =
          let read = ap (λ (r : Ran World (Unit {0})). on r (λ _. port_status hub port >>= rest)) d.is in
          let last = ap (λ (t : Bool). cond t (return (seen n)) (await n) (world b₁)) (ap test (sym s) ∙ t) in
          goes_to g (await n) (sym (turned.is (world b)) ∙ read ∙ last) d.fit d.lends

pub reset_turn : (hub port n : ℕ)
    → Same (reading hub port 50000 (λ status. cond (bit c_port_reset status) (return true) (await_reset n hub port))) (await_reset (suc n) hub port)
unfolding await_reset
reset_turn hub port n = same _

-- the reads that are left before one of them
pub one_more : (n i : ℕ) → i < n → n - i ≡ suc (n - (i + 1))
one_more n i l = omega arith

module _ (hub port n i : ℕ) (l : i < n) where
  pub reset_failed : {b b₁ : UsbBus} {f : Failure} {r : Result Bool Failure} → Does (delayed_status hub port 50000) b b₁ (Err f)
      → IsErr r × IsErrAnd r (λ g. g ≡ f) → Does (await_reset (n - i) hub port) b b₁ r
  reset_failed = await_failed hub port 50000 (λ left. await_reset left hub port) (bit c_port_reset) (λ _. true) (reset_turn hub port) _ _ (one_more n i l)

  module _ {b b₁ : UsbBus} (d : Does (delayed_status hub port 50000) b b₁ (Ok tt)) {status : ℕ} (s : status ≡ status_in b₁ hub port) where
    pub reset_seen : bit c_port_reset status ≡ true → Does (await_reset (n - i) hub port) b b₁ (Ok true)
    reset_seen = await_seen hub port 50000 (λ left. await_reset left hub port) (bit c_port_reset) (λ _. true) (reset_turn hub port) _ _ (one_more n i l) d s

    pub reset_goes : {m : M Bool} {b₀ : UsbBus} → bit c_port_reset status ≡ false
        → Going m b₀ (await_reset (n - i) hub port) b → Going m b₀ (await_reset (n - (i + 1)) hub port) b₁
    reset_goes = await_goes hub port 50000 (λ left. await_reset left hub port) (bit c_port_reset) (λ _. true) (reset_turn hub port) _ _ (one_more n i l) d s

pub reset_none : (hub port n i : ℕ) {b : UsbBus} → n ≤ i → Ready b → Does (await_reset (n - i) hub port) b b (Ok false)
unfolding await_reset
reset_none hub port n i l f = let none : n - i ≡ 0 = omega arith in rw none (returned f false)
