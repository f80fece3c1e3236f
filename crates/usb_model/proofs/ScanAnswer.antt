-- A scan does not fail: it is done, or a halt stops it. "scan (`HubCheckForChange`, answers 0)". Assumes nothing.
use mathlib.Core.Bool.{Bool, true, false}
use Prim.Native.Nat.{ℕ, zero, suc, ◌+◌}
use Rattle.usb_types.specs.declared.types.Halt.{Halt}
use Rattle.usb_model.specs.Programs.{Ran, done, fail, halt, on, ◌>>=◌, ◌>>◌, skip, look, caught, attempt, when, each}
use Rattle.usb_model.specs.World.{World, M, get}
use Rattle.usb_model.specs.Hub.{scan_port, hub_check_for_change}

pub data Ended {A : Type 0} : Ran World A → Type 0 where
  finished : {a : A} {w : World} → Ended (done a w)
  stopped : {h : Halt} {w : World} → Ended (halt h w)

record Succeeds {A : Type 0} (m : M A) : Type 0 where
  run : (w : World) → Ended (m w)

ended_on : {A B : Type 0} {r : Ran World A} {k : A → M B} → Ended r → ((a : A) → Succeeds (k a)) → Ended (on r k)
ended_on (finished {a} {w}) h = (h a).run w
ended_on stopped h = stopped

bind : {A B : Type 0} {m : M A} {k : A → M B} → Succeeds m → ((a : A) → Succeeds (k a)) → Succeeds (m >>= k)
unfolding ◌>>=◌
bind p h = record { run = λ w. ended_on (p.run w) h }

next : {A B : Type 0} {m : M A} {k : M B} → Succeeds m → Succeeds k → Succeeds (m >> k)
unfolding ◌>>◌
next p h = record { run = λ w. ended_on (p.run w) (λ _. h) }

skips : Succeeds skip
unfolding skip
skips = record { run = λ w. finished }

gets : (p f : ℕ) → Succeeds (get p f)
unfolding get look
gets p f = record { run = λ w. finished }

ended_caught : (r : Ran World (Unit {0})) → Ended (caught r)
ended_caught (done a w) = finished
ended_caught (fail e w) = finished
ended_caught (halt h w) = stopped

attempts : (m : M (Unit {0})) → Succeeds (attempt m)
unfolding attempt
attempts m = record { run = λ w. ended_caught (m w) }

whens : (b : Bool) {m : M (Unit {0})} → Succeeds m → Succeeds (when b m)
unfolding when
whens true h = h
whens false h = skips

eachs : (n from : ℕ) {body : ℕ → M (Unit {0})} → ((i : ℕ) → Succeeds (body i)) → Succeeds (each n from body)
unfolding each
eachs zero from h = skips
eachs (suc n) from h = next (h from) (eachs n (from + 1) h)

scan-port : (attach below : ℕ → M (Unit {0})) → ((place : ℕ) → Succeeds (below place)) → (hub port : ℕ)
    → Succeeds (scan_port attach below hub port)
unfolding scan_port
scan-port attach below h hub port = bind (attempts _) λ result. bind (gets hub _) λ child. bind (gets _ _) λ data'. whens _ (h _)

scan_succeeds : (attach : ℕ → M (Unit {0})) (above hub : ℕ) → Succeeds (hub_check_for_change attach above hub)
unfolding hub_check_for_change
scan_succeeds attach zero hub = skips
scan_succeeds attach (suc above) hub = bind (gets hub _) λ count. eachs count 0
    (λ port. scan-port attach (hub_check_for_change attach above) (scan_succeeds attach above) hub port)

pub scan_ends : (attach : ℕ → M (Unit {0})) (above hub : ℕ) (w : World) → Ended (hub_check_for_change attach above hub w)
scan_ends attach above hub w = (scan_succeeds attach above hub).run w
