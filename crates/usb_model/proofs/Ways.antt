-- The ways in which the primitive steps end: an action is logged or the log is full; an outcome is taken or there is none; a place is
-- allocated or the bus is full. Assumes nothing.
use mathlib.Core.Path.{◌≡◌, refl}
use mathlib.Core.Bool.{Bool, true, false, cond, not}
use mathlib.Core.List.{List}
use Prim.Native.Nat.{ℕ, ◌+◌, ◌-◌, ◌≤◌, ◌<◌}
use native.Mathlib.Omega.{arith}
use borrow.Author.Tests.{ltb-false, eqb-false}
use lib.Dec.{eqb, ltb}
use lib.ListN.{length, get_or}
use Rattle.usb_types.specs.Outcomes.{listed}
use Rattle.usb_types.specs.declared.types.Halt.{Halt}
use Rattle.usb_types.specs.declared.types.Halt.TheVariants.{GarbledOutcome, OutcomesSpent, LogFull}
use Rattle.usb_types.specs.declared.types.ErrorCode.TheVariants.{BusFull}
use Rattle.usb_store.specs.Access.{write, with_bytes}
use Rattle.usb_device.specs.Device.{new_device, first_unused}
use Rattle.usb_device.proofs.Free.{first_most}
use Rattle.usb_model.specs.Programs.{Ran, done, fail, halt, on, ◌>>=◌, ◌>>◌, return, skip, throw, stop, look, change, when}
use Rattle.usb_model.specs.World.{World, with_store, put_bytes, appended, counted, log_action, log_request}
use Rattle.usb_model.specs.Transfer.{Outcome, taken, outcomes_left, size_of, outcome_of, take_outcome}
use Rattle.usb_model.specs.Usbd.{usb_allocate_device}

abbrev pub is_done : {A : Type 0} → Ran World A → Bool
is_done (done a w) = true
is_done (fail e w) = false
is_done (halt h w) = false

-- the world with one action more, and the requests counted
abbrev pub logged_world : World → List ℕ → ℕ → World
logged_world w action requests = record {
  store = w.store;
  log = write w.log w.at.logged action;
  outcomes = w.outcomes;
  at = record { logged = w.at.logged + 16; taken = w.at.taken; requests = requests };
}

pub data Logs (action : List ℕ) (w : World) (requests : ℕ) : Ran World (Unit {0}) → Type 0 where
  full : Logs action w requests (halt LogFull w)
  logged : 16 ≤ length w.log - w.at.logged → Logs action w requests (done tt (logged_world w action requests))

module _ (action : List ℕ) (w : World) where
  pub log_ends : Logs action w w.at.requests (log_action action w)
  unfolding log_action ◌>>=◌ ◌>>◌ look when stop skip change
  log_ends = go (ltb (length w.log - w.at.logged) 16) refl
    where
      go : (b : Bool) → ltb (length w.log - w.at.logged) 16 ≡ b
          → Logs action w w.at.requests (on (cond b (stop {A = Unit {0}} LogFull) skip w) (λ _. change (appended action)))
      go true e = full
      go false e = logged (ltb-false _ 16 e)

  counts : {r : Ran World (Unit {0})} → Logs action w w.at.requests r → Logs action w (w.at.requests + 1) (on r (λ _. change counted))
  unfolding change
  counts full = full
  counts (logged room) = logged room

  -- a request is counted
  pub request_ends : Logs action w (w.at.requests + 1) (log_request action w)
  unfolding log_request ◌>>◌
  request_ends = counts log_ends

pub data Takes (asked : ℕ) (w : World) : Ran World Outcome → Type 0 where
  missing : {h : Halt} → Takes asked w (halt h w)
  whole : 4 + size_of (outcomes_left w) ≤ length (outcomes_left w)
      → Takes asked w (done (outcome_of asked (outcomes_left w)) (taken (4 + size_of (outcomes_left w)) w))

pub take_ends : (asked : ℕ) (w : World) → Takes asked w (take_outcome asked w)
unfolding take_outcome ◌>>=◌ ◌>>◌ look when stop skip change return
take_ends asked w =
    let left : List ℕ = outcomes_left w in
    go (ltb (length left) 4) (not (listed (get_or left 0 0) (get_or left 1 0))) (ltb (length left) (4 + size_of left)) refl
  where
    go : (short garbled cut : Bool) → ltb (length (outcomes_left w)) (4 + size_of (outcomes_left w)) ≡ cut
        → Takes asked w ((when short (stop OutcomesSpent) >> (when garbled (stop GarbledOutcome) >> (when cut (stop OutcomesSpent) >>
        (change (taken (4 + size_of (outcomes_left w))) >> return (outcome_of asked (outcomes_left w)))))) w)
    go true garbled cut e = missing
    go false true cut e = missing
    go false false true e = missing
    go false false false e = whole (ltb-false _ _ e)

pub data Allocates (w : World) : Ran World ℕ → Type 0 where
  bus_full : Allocates w (fail BusFull w)
  allocated : {p : ℕ} → p ≡ first_unused w.store → p < 32 → Allocates w (done p (with_store (with_bytes w.store p 0 (new_device p)) w))

pub allocate_ends : (w : World) → Allocates w (usb_allocate_device w)
unfolding usb_allocate_device ◌>>=◌ ◌>>◌ look when throw skip put_bytes change return
allocate_ends w = go (first_unused w.store) refl (eqb (first_unused w.store) 32) refl
  where
    go : (p : ℕ) → p ≡ first_unused w.store → (b : Bool) → eqb p 32 ≡ b
        → Allocates w (on (cond b (throw {A = Unit {0}} BusFull) skip w) (λ _. put_bytes p 0 (new_device p) >> return p))
    go p e true t = bus_full
    go p e false t = allocated e (omega (arith, eqb-false p 32 t, e, first_most w.store))
