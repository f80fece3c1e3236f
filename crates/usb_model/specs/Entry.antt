-- The entry points, whole: the refusals in document 01's order, the call on a copy of the old store, the answer and the count.
use Rattle.std.specs.Prelude.{if◌then◌else◌, Bool, false, not, ◌||◌, List, ℕ, eqb, leb, ltb, ℤ, length}
use Rattle.usb_types.specs.Numbers.{minus}
use Rattle.usb_types.specs.Answers.{error_number, halt_number, answer_number, refusal_number}
use Rattle.usb_types.specs.declared.types.Refusal.{Refusal}
use Rattle.usb_types.specs.declared.types.Refusal.TheVariants.{BadArgument, StoreDamaged, AlreadyAttached, RootSpeed}
use Rattle.usb_store.specs.Layout.{place_count, store_length, used_field, hub_field}
use Rattle.usb_store.specs.Access.{byte_at}
use Rattle.usb_store.specs.Values.{not_hub}
use Rattle.usb_sound.specs.Test.{sound}
use Rattle.usb_model.specs.Programs.{Ran, done, fail, halt, end_of}
use Rattle.usb_model.specs.World.{World, M}
use Rattle.usb_model.specs.Walk.{record_length, walk}
use Rattle.usb_model.specs.Hub.{hub_port_reset, hub_child_reset, hub_port_connection_changed, hub_check_connection, hub_check_connection_device, hub_check_for_change}
use Rattle.usb_model.specs.Attach.{attach_new, usb_attach_root_hub}

-- what the caller lends
pub record Lent : Type 0 where
  pub old : List ℕ
  pub new : List ℕ
  pub outcomes : List ℕ
  pub log : List ℕ

-- what a call leaves: the answer by document 01's table, the requests logged, the new store and the log
pub record Left : Type 0 where
  pub answer : ℤ
  pub requests : ℕ
  pub new : List ℕ
  pub log : List ℕ

-- ---- refusals

pub data Verdict : Type 0 where
  accepted : Verdict
  refused : Refusal → Verdict

-- the first refusal counts
infixr 10 ◌else_if◌
abbrev pub ◌else_if◌ : Verdict → Verdict → Verdict
accepted else_if v = v
refused r else_if v = refused r

abbrev pub refused_if : Bool → Refusal → Verdict
refused_if b r = if b then refused r else accepted

-- "either store not 36,864 bytes"
abbrev pub wrong_length : Lent → Bool
wrong_length lent = not (eqb (length lent.old) store_length) || not (eqb (length lent.new) store_length)

-- "the old store breaks a rule": `sound` is true exactly where `Sound` holds (usb_sound, proofs/Decides.antt)
abbrev pub damaged : Lent → Bool
damaged lent = not (sound lent.old)

abbrev pub is_unused : Lent → ℕ → Bool
is_unused lent place = leb place_count place || eqb (byte_at lent.old place used_field) 0

-- "hub place above 31, unused or not a hub"
abbrev pub no_hub : Lent → ℕ → Bool
no_hub lent hub = is_unused lent hub || eqb (byte_at lent.old hub hub_field) not_hub

-- "port above 9"
abbrev pub no_port : ℕ → Bool
no_port port = ltb 9 port

-- "or a root speed above 3 ..., is −2; then −16; then, for root attach, already attached −4, and −12"
unfoldable pub root_verdict : Lent → ℕ → Verdict
root_verdict lent speed =
    refused_if (wrong_length lent || ltb 3 speed) BadArgument
    else_if refused_if (damaged lent) StoreDamaged
    else_if refused_if (not (eqb (byte_at lent.old 0 used_field) 0)) AlreadyAttached
    else_if refused_if (eqb speed 3) RootSpeed

-- "then, for the others, hub place above 31, unused or not a hub, child place above 31 or unused, or port above 9: −2"; `bad` is the
-- test of the child or the port
unfoldable pub hub_verdict : Lent → ℕ → Bool → Verdict
hub_verdict lent hub bad =
    refused_if (wrong_length lent) BadArgument
    else_if refused_if (damaged lent) StoreDamaged
    else_if refused_if (no_hub lent hub || bad) BadArgument

-- ---- the call

-- the old store copied, nothing logged, nothing taken
abbrev pub start : Lent → World
start lent = record {
  store = lent.old;
  log = lent.log;
  outcomes = lent.outcomes;
  at = record { logged = 0; taken = 0; requests = 0 };
}

abbrev pub leaves : ℤ → World → Left
leaves answer w = record { answer = answer; requests = w.at.requests; new = w.store; log = w.log }

-- how a run ended, as a number of document 01's table
abbrev pub number_of : Ran World (Unit {0}) → ℤ
number_of (done a w) = minus 0
number_of (fail e w) = error_number e
number_of (halt h w) = halt_number h

-- "Every other answer leaves in the new store the state at that moment, in the log the actions so far, and the number of requests
-- logged"
abbrev pub answered : Ran World (Unit {0}) → Left
answered r = leaves (number_of r) (end_of r)

-- "These entry refusals change no lent byte and report 0 requests"
unfoldable pub call : Lent → Verdict → M (Unit {0}) → Left
call lent (refused r) m = record { answer = refusal_number r; requests = 0; new = lent.new; log = lent.log }
call lent accepted m = answered (m (start lent))

-- `UsbAttachRootHub`
unfoldable pub root_attach : ℕ → Lent → Left
root_attach speed lent = call lent (root_verdict lent speed) (usb_attach_root_hub speed)

-- `HubCheckForChange`
unfoldable pub scan : ℕ → Lent → Left
scan hub lent = call lent (hub_verdict lent hub false) (hub_check_for_change attach_new place_count hub)

-- `HubCheckConnection`
unfoldable pub port_check : ℕ → ℕ → Lent → Left
port_check hub port lent = call lent (hub_verdict lent hub (no_port port)) (hub_check_connection attach_new hub port)

-- `HubChildReset`
unfoldable pub child_reset : ℕ → ℕ → Lent → Left
child_reset hub child lent = call lent (hub_verdict lent hub (is_unused lent child)) (hub_child_reset hub child)

-- `HubCheckConnectionDevice`
unfoldable pub child_check : ℕ → ℕ → Lent → Left
child_check hub child lent =
    call lent (hub_verdict lent hub (is_unused lent child)) (hub_check_connection_device attach_new hub child)

-- `HubPortReset`
unfoldable pub retried_reset : ℕ → ℕ → Lent → Left
retried_reset hub port lent = call lent (hub_verdict lent hub (no_port port)) (hub_port_reset hub port)

-- `HubPortConnectionChanged`
unfoldable pub connection_change : ℕ → ℕ → Lent → Left
connection_change hub port lent =
    call lent (hub_verdict lent hub (no_port port)) (hub_port_connection_changed attach_new hub port)

-- ---- the walk alone

pub record WalkLeft : Type 0 where
  pub answer : ℤ
  pub kept : List ℕ

-- "Over 65,535 descriptor bytes, or a record of another length, is −2 with the record unchanged"
unfoldable pub configuration_walk : List ℕ → List ℕ → WalkLeft
configuration_walk descriptors kept =
    if ltb 65535 (length descriptors) || not (eqb (length kept) record_length)
    then (record { answer = refusal_number BadArgument; kept = kept })
    else (record { answer = answer_number (walk descriptors kept).answer; kept = (walk descriptors kept).kept })
