-- Every call leaves what `Accounts` says, refused or not. Assumes nothing.
use Rattle.std.specs.Prelude.{Ok, Err}
use mathlib.Core.Path.{◌≡◌, refl, sym, ◌∙◌}
use mathlib.Core.Bool.{Bool, true, false, cond, not, ◌||◌}
use mathlib.Core.Logic.{◌≢◌}
use mathlib.Core.List.{List}
use Prim.Native.Nat.{ℕ, ◌+◌, ◌≤◌, ◌<◌}
use native.Mathlib.Omega.{arith}
use native.Mathlib.Decide.{dec_lt}
use lib.Dec.{eqb, ltb}
use lib.IntN.{ℤ}
use lib.ListN.{length, get_or-eq_default}
use Rattle.usb_types.specs.Numbers.{minus}
use Rattle.usb_types.specs.Answers.{error_number, halt_number, answer_number, refusal_number}
use Rattle.usb_types.specs.declared.types.ErrorCode.{ErrorCode}
use Rattle.usb_types.specs.declared.types.ErrorCode.TheVariants.{General, Argument, Retry, Device, Incompatible, Compiler, Memory, Timeout, Disconnected, GarbledConfiguration, BusFull}
use Rattle.usb_types.specs.declared.types.Halt.{Halt}
use Rattle.usb_types.specs.declared.types.Halt.TheVariants.{GarbledOutcome, OutcomesSpent, LogFull}
use Rattle.usb_types.specs.Answers.{Answer}
use Rattle.usb_types.specs.declared.types.Failure.TheVariants.{Error, Stop}
use Rattle.usb_types.specs.declared.types.Refusal.{Refusal}
use Rattle.usb_types.specs.declared.types.Refusal.TheVariants.{BadArgument, StoreDamaged, AlreadyAttached, RootSpeed}
use Rattle.usb_store.specs.Layout.{store_length, child_field, max_children_field}
use Rattle.usb_store.specs.Access.{byte_at}
use Rattle.usb_sound.specs.Sound.{Sound}
use Rattle.usb_sound.proofs.Hubs.{child_below, used_leads}
use Rattle.usb_model.specs.Programs.{Ran}
use Rattle.usb_model.specs.World.{World, M}
use Rattle.usb_model.specs.Walk.{record_length, walk}
use Rattle.usb_model.specs.Attach.{attach_new, usb_attach_root_hub}
use Rattle.usb_model.specs.Entry.{Lent, Verdict, accepted, refused, is_unused, no_port, root_verdict, hub_verdict, start, leaves, answered, call, root_attach, scan, port_check, child_reset, child_check, retried_reset, connection_change, configuration_walk}
use Rattle.usb_model.specs.Kept.{Bytes, kinds_in, Above, Good, Onward, Listed, LentBytes, Accounts, WalkAccounts}
use Rattle.usb_model.proofs.Accepted.{port_inside, root_accepted, hub_accepted}
use Rattle.usb_model.proofs.Keeps.{Any, Left, is-done, is_failed, is_halted}
use Rattle.usb_model.proofs.Onward.{long, log-length, later_kept, kinds_logged, requests_logged}
use Rattle.usb_model.proofs.Walks.{Reach, reach_here}
use Rattle.usb_model.proofs.Record.{walk_long, walk_bytes}
use Rattle.usb_model.proofs.Functions.{child-reset, reset}
use Rattle.usb_model.proofs.Pairs.{Alike, one}
use Rattle.usb_model.proofs.Cycle.{attach_walks, connection_changed, check_connection, check_device, root_hub, check_for_change}

-- ---- a sound store is good

-- past the store there is nothing
outside : (s : List ℕ) (h f : ℕ) → length s ≡ store_length → 32 ≤ h → byte_at s h f ≡ 0
unfolding byte_at
outside s h f whole l = get_or-eq_default s 0 (omega arith)

module _ (lent : Lent) (bytes : LentBytes lent) (r : Sound lent.old) where
  pub start_good : Good (start lent)
  start_good = record {
    whole = r.whole;
    logged = omega arith;
    taken = omega arith;
    store = bytes.old;
    log = bytes.log;
    outcomes = bytes.outcomes;
    most = λ h. most h (dec_lt h 32);
    child = λ h q l n. child h q l n (dec_lt h 32);
  }
    where
      most : (h : ℕ) → Dec (h < 32) → byte_at lent.old h max_children_field ≤ 10
      most h (yes l) = r.max-children h l
      most h (no l) = omega (arith, outside lent.old h max_children_field r.whole (omega arith))

      child : (h q : ℕ) → q < 10 → byte_at lent.old h (child_field q) ≢ 0 → Dec (h < 32) → Above lent.old h q
      child h q l n (yes m) =
          let b = child_below lent.old r h q m l n in
          record { above = omega (arith, b.above, n); used = omega (arith, used_leads lent.old r _ (b.inside, b.used), n) }
      child h q l n (no m) = absurd (n (outside lent.old h (child_field q) r.whole (omega arith)))

-- ---- answers of the table

listed : (n : ℕ) → n ≤ 16 → Listed (minus n)
listed n h = record { number = n; most = h; is = refl }

error-listed : (e : ErrorCode) → Listed (error_number e)
error-listed General = listed 1 (omega arith)
error-listed Argument = listed 2 (omega arith)
error-listed Retry = listed 3 (omega arith)
error-listed Device = listed 4 (omega arith)
error-listed Incompatible = listed 5 (omega arith)
error-listed Compiler = listed 6 (omega arith)
error-listed Memory = listed 7 (omega arith)
error-listed Timeout = listed 8 (omega arith)
error-listed Disconnected = listed 9 (omega arith)
error-listed GarbledConfiguration = listed 10 (omega arith)
error-listed BusFull = listed 11 (omega arith)

halt_listed : (h : Halt) → Listed (halt_number h)
halt_listed GarbledOutcome = listed 13 (omega arith)
halt_listed OutcomesSpent = listed 14 (omega arith)
halt_listed LogFull = listed 15 (omega arith)

answer_listed : (a : Answer) → Listed (answer_number a)
answer_listed (Ok _) = listed 0 (omega arith)
answer_listed (Err (Error e)) = error-listed e
answer_listed (Err (Stop h)) = halt_listed h

refusal_listed : (r : Refusal) → Listed (refusal_number r)
refusal_listed BadArgument = listed 2 (omega arith)
refusal_listed StoreDamaged = listed 16 (omega arith)
refusal_listed AlreadyAttached = listed 4 (omega arith)
refusal_listed RootSpeed = listed 12 (omega arith)

-- ---- what is left

module _ (lent : Lent) (bytes : LentBytes lent) where
  leaves_of : {v : World} {answer : ℤ} → Listed answer → length lent.new ≡ length lent.old → Onward (start lent) v → Good v
      → Accounts lent (leaves answer v)
  leaves_of a e o g = record {
    answer = a;
    new_length = o.store ∙ sym e;
    new_bytes = g.store;
    log-length = log-length o refl g.logged;
    log_bytes = g.log;
    actions = o.actions;
    room = long o refl g.logged;
    later = later_kept o refl g.logged;
    kinds = kinds_logged o refl g.logged;
    requests = requests_logged o refl g.logged refl;
  }

  answered_of : {n : ℕ} {r : Ran World (Unit {0})} → length lent.new ≡ length lent.old → Left (Reach (start lent) n) Any r
      → Accounts lent (answered r)
  answered_of e (is-done x q) = leaves_of (listed 0 (omega arith)) e x.onward x.good
  answered_of l (is_failed {e} x) = leaves_of (error-listed e) l x.onward x.good
  answered_of l (is_halted {h} x) = leaves_of (halt_listed h) l x.onward x.good

  -- a call that is refused, or runs
  called : {n : ℕ} (v : Verdict) (m : M (Unit {0}))
      → (v ≡ accepted → (length lent.new ≡ length lent.old) × Left (Reach (start lent) n) Any (m (start lent)))
      → Accounts lent (call lent v m)
  unfolding call kinds_in
  called accepted m h = answered_of (h refl).0 (h refl).1
  called (refused r) m h = record {
    answer = refusal_listed r;
    new_length = refl;
    new_bytes = bytes.new;
    log-length = refl;
    log_bytes = bytes.log;
    actions = 0;
    room = omega arith;
    later = refl;
    kinds = refl;
    requests = refl;
  }

-- ---- the entry points

module _ (lent : Lent) (bytes : LentBytes lent) where
  -- an entry that names a hub: its program walks where the hub is known, and the other arguments are good
  of_hub : (hub : ℕ) (bad : Bool) (m : M (Unit {0})) → (bad ≡ false → Alike (start lent) (hub + 1) m m)
      → Accounts lent (call lent (hub_verdict lent hub bad) m)
  of_hub hub bad m h = called lent bytes _ m (λ e.
      let x = hub_accepted lent hub bad e in
      (x.lengths, ((h x.good).run (start lent) (reach_here (start lent) (start_good lent bytes x.is_sound) x.first)).walk))

  pub root_attach_accounts : (speed : ℕ) → Accounts lent (root_attach speed lent)
  unfolding root_attach
  root_attach_accounts speed = called lent bytes (root_verdict lent speed) (usb_attach_root_hub speed) (λ e.
      let x = root_accepted lent speed e in (
        x.lengths,
        ((root_hub (start lent) speed (omega (arith, x.low))).run (start lent)
            (reach_here (start lent) (start_good lent bytes x.is_sound) (omega arith))).walk,
      ))

  pub scan_accounts : (hub : ℕ) → Accounts lent (scan hub lent)
  unfolding scan
  scan_accounts hub = of_hub hub false _ (λ _. check_for_change 32 (start lent) 32 hub)

  pub port_check_accounts : (hub port : ℕ) → Accounts lent (port_check hub port lent)
  unfolding port_check
  port_check_accounts hub port =
      of_hub hub (no_port port) _
      (λ e. check_connection attach_new attach_new (λ v _. attach_walks 32 v) hub port (omega arith) (port_inside port e))

  pub connection_change_accounts : (hub port : ℕ) → Accounts lent (connection_change hub port lent)
  unfolding connection_change
  connection_change_accounts hub port =
      of_hub hub (no_port port) _
      (λ e. connection_changed attach_new attach_new (λ v _. attach_walks 32 v) hub port (omega arith) (port_inside port e))

  pub child_check_accounts : (hub child : ℕ) → Accounts lent (child_check hub child lent)
  unfolding child_check
  child_check_accounts hub child =
      of_hub hub (is_unused lent child) _ (λ _. check_device attach_new attach_new (λ v _. attach_walks 32 v) hub child (omega arith))

  pub child_reset_accounts : (hub child : ℕ) → Accounts lent (child_reset hub child lent)
  unfolding child_reset
  child_reset_accounts hub child = of_hub hub (is_unused lent child) _ (λ _. one (child-reset hub child))

  pub retried_reset_accounts : (hub port : ℕ) → Accounts lent (retried_reset hub port lent)
  unfolding retried_reset
  retried_reset_accounts hub port = of_hub hub (no_port port) _ (λ e. one (reset hub port (port_inside port e)))

pub walk_accounts : (descriptors kept : List ℕ) → Bytes descriptors → Bytes kept → WalkAccounts kept (configuration_walk descriptors kept)
unfolding configuration_walk
walk_accounts d kept b c = go (ltb 65535 (length d) || not (eqb (length kept) record_length))
  where
    go : (bad : Bool)
        → WalkAccounts kept (cond bad (record { answer = refusal_number BadArgument; kept = kept }) (record {
          answer = answer_number (walk d kept).answer;
          kept = (walk d kept).kept;
        }))
    go true = record { answer = refusal_listed BadArgument; kept_length = refl; kept_bytes = c }
    go false = record { answer = answer_listed (walk d kept).answer; kept_length = walk_long d kept; kept_bytes = walk_bytes d kept b c }
