-- Demand 3 (usb_model, specs/Demand3.antt) in the terms of the exports' contracts: of the bytes that a caller lends, and of the replies
-- and the bytes that it gets back. proofs/Calls.antt proves `Histories` and `Reports`.
use Rattle.std.specs.Prelude.{◌≡◌, List, [], ℕ, ◌/◌, ◌≤◌}
use Rattle.usb_types.specs.Actions.{action_length}
use Rattle.usb_types.specs.Answers.{halt_number}
use Rattle.usb_types.specs.declared.types.Halt.{Halt}
use Rattle.usb_store.specs.Layout.{empty_store}
use Rattle.usb_model.specs.Programs.{end_of}
use Rattle.usb_model.specs.Entry.{Lent, Left, accepted, start, root_attach, scan, port_check}
use Rattle.usb_model.specs.Kept.{LentBytes, requests_in, Accounts}
use Rattle.usb_model.specs.Count.{most_requests, store_left}
use Rattle.usb_model.specs.History.{Event, joined}
use Rattle.usb_model.specs.Demand3.{Call, attaches, scans, checks, verdict, program, Demand}
use Rattle.usb_entry.specs.declared.reply.Reply.{Reply}
use Rattle.usb_entry.specs.Replies.{left}

-- what a call leaves by the contract of `lidrumak_root_attach`, `lidrumak_scan` or `lidrumak_port_check`
abbrev pub promised : Call → Lent → Left
promised (attaches speed) lent = root_attach speed lent
promised (scans hub) lent = scan hub lent
promised (checks hub port) lent = port_check hub port lent

-- A call that was made: the bytes lent to it, its reply, and what the new store and the log hold after it. `is` is the contract.
pub record Made (c : Call) : Type 0 where
  pub lends : Lent
  pub bytes : LentBytes lends
  pub reply : Reply
  pub new : List ℕ
  pub log : List ℕ
  pub is : left reply new log ≡ promised c lends

abbrev pub left_by : {c : Call} → Made c → Left
left_by made = left made.reply made.new made.log

-- "Answers −13 to −15 stop the whole call"
abbrev pub Stopped : Reply → Type 0
Stopped reply = (h : Halt) × (reply.answer ≡ halt_number h)

-- how many actions a call logs (proofs/Calls.antt, `whole_actions`)
abbrev pub actions_of : Call → Lent → ℕ
actions_of c lent = (end_of (program c (start lent))).at.logged / action_length

-- "For every list of root attaches, scans and port checks, refused ones among them": the store s that it leaves, and its history h
pub data Calls : List ℕ → List Event → Type 0 where
  -- "the first on an empty store"
  empty : Calls empty_store []
  -- "After an entry refusal the next call takes the same store, and the history gains nothing"
  refusal : {s : List ℕ} {h : List Event} → Calls s h → (c : Call) (made : Made c) → made.lends.old ≡ s
      → (verdict c made.lends ≡ accepted → ⊥) → Calls s h
  -- "each run to its end on the store that the one before it left"; "a call stopped by −13 to −15 stays out of the list"; "The history is
  -- the actions that the calls logged, joined in order, each request with its outcome and result"
  ran : {s : List ℕ} {h : List Event} → Calls s h → (c : Call) (made : Made c) → made.lends.old ≡ s
      → verdict c made.lends ≡ accepted → (Stopped made.reply → ⊥)
      → Calls made.new (joined (actions_of c made.lends) made.log made.lends.outcomes h)

-- "Each root attach, in the list or stopped, leaving d devices, h of them hubs, sent at most 8·d + 444·h requests": the count in its reply
abbrev pub Bounded : List ℕ → Type 0
Bounded s =
    (speed : ℕ) (made : Made (attaches speed)) → made.lends.old ≡ s
    → made.reply.requests ≤ most_requests (store_left (verdict (attaches speed) made.lends) made.lends (left_by made))

-- demand 3, one claim on the whole list
abbrev pub Histories : Type 0
Histories = (s : List ℕ) (h : List Event) → Calls s h → Demand s h × Bounded s

-- "Requests sent are the actions of kind 1 that the call logged": of every root attach, scan and port check, refused or stopped ones too,
-- `Accounts` says that the reply counts them; those of an accepted call are counted among the actions that join the history
pub record Reported {c : Call} (made : Made c) : Type 0 where
  pub accounts : Accounts made.lends (left_by made)
  pub sent : verdict c made.lends ≡ accepted → made.reply.requests ≡ requests_in (actions_of c made.lends) made.log

abbrev pub Reports : Type 0
Reports = (c : Call) (made : Made c) → Reported made
