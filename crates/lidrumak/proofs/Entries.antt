-- The ways through the exported calls, over plain values. Assumes nothing.
use mathlib.Core.Path.{◌≡◌, refl, sym, ap, ◌∙◌, subst}
use mathlib.Core.List.{List}
use Prim.Native.Nat.{ℕ, ◌+◌, ◌≤◌, ◌<◌}
use native.Mathlib.Omega.{arith}
use lib.IntN.{ℤ}
use lib.ListN.{length, get_or}
use mir.Syntax.{w8}
use mir.Val.{Fits}
use borrow.Author.Tests.{lt-ltb, le-ltb, eq-eqb, ne_eqb}
use Rattle.usb_types.specs.Answers.{answer_number, refusal_number}
use Rattle.usb_types.specs.declared.types.Refusal.{Refusal}
use Rattle.usb_types.specs.declared.types.Refusal.TheVariants.{BadArgument}
use Rattle.std.specs.Prelude.{Bool, Result, Ok, Err}
use Rattle.usb_types.specs.Answers.{Answer}
use Rattle.usb_types.specs.declared.types.ErrorCode.{ErrorCode}
use Rattle.usb_types.specs.declared.types.Failure.TheVariants.{Error, Stop}
use Rattle.usb_model.specs.Programs.{ran}
use Rattle.usb_store.specs.Layout.{place_count, ports_per_hub}
use Rattle.usb_device.specs.Device.{first_unused}
use Rattle.usb_sound.specs.Sound.{Sound}
use Rattle.usb_model.specs.World.{World, M}
use Rattle.usb_model.specs.Walk.{record_length, walk}
use Rattle.usb_model.specs.Entry as Model
use Rattle.usb_model.specs.Entry.{Lent, start, leaves, answered, call, no_port, is_unused, configuration_walk}
use Rattle.usb_model.specs.Kept.{Bytes, Good, LentBytes}
use Rattle.usb_model.proofs.Entries.{start_good}
use Rattle.usb_model.proofs.Accepted.{HubAccepted, root_accepted, hub_accepted, port_inside, used_inside}
use Rattle.usb_transfer.specs.declared.bus.UsbBus.{UsbBus}
use Rattle.usb_transfer.specs.Runs.{world, nothing_done, Fit, Does}
use Rattle.usb_walk.specs.Steps.{ends_with, answer_of}
use Rattle.usb_driver.specs.Bus.{Bus, OnBus}
use Rattle.lidrumak.specs.declared.call.Call.{Call}
use Rattle.lidrumak.specs.declared.call.Call.TheVariants.{RootAttach, Scan, PortCheck, ChildReset, ChildCheck, RetriedReset, ConnectionChange}
use Rattle.lidrumak.specs.Entries.{verdict, CanRun}
use Rattle.usb_entry.specs.declared.reply.Reply.{Reply}
use Rattle.usb_entry.specs.Replies.{left, walk_left, refusal_reply, answer_reply, told}

-- ---- a call, refused or run

answered_is : (a : Answer) (w : World) → leaves (answer_number a) w ≡ answered (ran a w)
answered_is (Ok _) w = refl
answered_is (Err (Error e)) w = refl
answered_is (Err (Stop h)) w = refl

module _ (l : Lent) (m : M (Unit {0})) {verdict : Model.Verdict} {v : Result (Unit {0}) Refusal} (e : told v ≡ verdict) where
  pub refused_call : {r : Refusal} → v ≡ Err r → (reply : Reply) → reply ≡ refusal_reply r → left reply l.new l.log ≡ call l verdict m
  unfolding call
  refused_call f reply g = rw (← e, f, g)

  -- the driver ran m in the model's first world; the slices hold what the bus held
  pub accepted_call : v ≡ Ok tt → {b b₁ : UsbBus} {a : Answer} → world b ≡ start l → Does m b b₁ a
      → (reply : Reply) → reply ≡ answer_reply a b₁.at.requests → {s log : List ℕ} → s ≡ b₁.store.now → log ≡ b₁.log.now
      → left reply s log ≡ call l verdict m
  unfolding call
  accepted_call f {b} {b₁} {a} k d reply g es el =
      rw (← e, f, g, es, el) (answered_is a (world b₁) ∙ ap answered (sym d.is ∙ ap m k))

pub accepts : {verdict : Model.Verdict} {v : Result (Unit {0}) Refusal} → told v ≡ verdict → v ≡ Ok tt → verdict ≡ Model.accepted
accepts e f = sym e ∙ ap told f

-- ---- the first world of a call

-- a slice of u8 holds bytes
pub bytes_of : {l : List ℕ} → ((i : ℕ) → Fits w8 (get_or l i 0)) → Bytes l
bytes_of f = record { below = λ i. (f i).fits }

-- the bus of a call lends its slices, and the store is copied
pub first_world : (l : Lent) (b : UsbBus) → b.store.now ≡ l.old → b.log.now ≡ l.log → b.outcomes.now ≡ l.outcomes → b.at ≡ nothing_done → world b ≡ start l
first_world l b s g o a = rw (s, g, o, a) refl

-- what the functions of the driver ask of it
pub record Started (w : World) : Type 0 where
  pub fit : Fit w
  pub good : Good w

pub started : (l : Lent) → LentBytes l → Sound l.old → {w : World} → w ≡ start l → Started w
started l bytes r e =
    let good = start_good l bytes r in
    subst Started (sym e) (record {
      fit = record { whole = good.whole; logged = good.logged; taken = good.taken; counted = omega arith };
      good = good;
    })

pub on_bus : (l : Lent) → LentBytes l → Sound l.old → {w : World} → w ≡ start l
    → (place : ℕ) → place < place_count → place + 1 ≤ first_unused l.old → Bus place w
on_bus l bytes r e place inside used =
    let s = started l bytes r refl in
    subst (Bus place) (sym e) (record { fit = s.fit; good = s.good; used = omega arith; inside = inside })

-- ---- an accepted call

-- the store is sound, and as long as the new one
pub record Accepted (l : Lent) : Type 0 where
  pub lengths : length l.new ≡ length l.old
  pub is_sound : Sound l.old

pub accepted_lends : (c : Call) (l : Lent) → verdict c l ≡ Model.accepted → Accepted l
accepted_lends (RootAttach speed) l e = let p = root_accepted l speed e in record { lengths = p.lengths; is_sound = p.is_sound }
accepted_lends (Scan hub) l e = let p = hub_accepted l hub _ e in record { lengths = p.lengths; is_sound = p.is_sound }
accepted_lends (PortCheck hub port) l e = let p = hub_accepted l hub _ e in record { lengths = p.lengths; is_sound = p.is_sound }
accepted_lends (ChildReset hub child) l e = let p = hub_accepted l hub _ e in record { lengths = p.lengths; is_sound = p.is_sound }
accepted_lends (ChildCheck hub child) l e = let p = hub_accepted l hub _ e in record { lengths = p.lengths; is_sound = p.is_sound }
accepted_lends (RetriedReset hub port) l e = let p = hub_accepted l hub _ e in record { lengths = p.lengths; is_sound = p.is_sound }
accepted_lends (ConnectionChange hub port) l e = let p = hub_accepted l hub _ e in record { lengths = p.lengths; is_sound = p.is_sound }

module _ (l : Lent) (bytes : LentBytes l) (b : UsbBus) (k : world b ≡ start l) where
  at_hub : (hub : ℕ) {bad : Bool} → HubAccepted l hub bad → OnBus hub b
  at_hub hub p = on_bus l bytes p.is_sound k hub p.inside p.first

  at_port : (hub port : ℕ) → Model.hub_verdict l hub (no_port port) ≡ Model.accepted → OnBus hub b × (port < ports_per_hub)
  at_port hub port e = let p = hub_accepted l hub _ e in (at_hub hub p, port_inside port p.good)

  at_child : (hub child : ℕ) → Model.hub_verdict l hub (is_unused l child) ≡ Model.accepted → OnBus hub b × (child < place_count)
  at_child hub child e = let p = hub_accepted l hub _ e in (at_hub hub p, used_inside l child p.good)

  pub can_run : (c : Call) → verdict c l ≡ Model.accepted → CanRun c b
  can_run (RootAttach speed) e =
      let p = root_accepted l speed e in
      let s = started l bytes p.is_sound k in
      (s.fit, s.good, omega (arith, p.low))
  can_run (Scan hub) e = at_hub hub (hub_accepted l hub _ e)
  can_run (PortCheck hub port) e = at_port hub port e
  can_run (ChildReset hub child) e = at_child hub child e
  can_run (ChildCheck hub child) e = at_child hub child e
  can_run (RetriedReset hub port) e = at_port hub port e
  can_run (ConnectionChange hub port) e = at_port hub port e

-- ---- the walk alone

module _ (d kept : List ℕ) (n : ℤ) where
  pub too_long : n ≡ refusal_number BadArgument → 65535 < length d → walk_left n kept ≡ configuration_walk d kept
  unfolding configuration_walk
  too_long e h = simp (lt-ltb 65535 (length d) h, e)

  module _ (short : length d ≤ 65535) where
    pub wrong_record : n ≡ refusal_number BadArgument → (length kept ≡ record_length → ⊥) → walk_left n kept ≡ configuration_walk d kept
    unfolding configuration_walk
    wrong_record e h = simp (le-ltb 65535 (length d) short, ne_eqb (length kept) record_length h, e)

    pub walked_all : length kept ≡ record_length → (answer : Result (Unit {0}) ErrorCode) (after : List ℕ) → ends_with answer after ≡ walk d kept
        → n ≡ answer_number (answer_of answer) → walk_left n after ≡ configuration_walk d kept
    unfolding configuration_walk
    walked_all h answer after w e = simp (le-ltb 65535 (length d) short, eq-eqb (length kept) record_length h, e, ← w)
