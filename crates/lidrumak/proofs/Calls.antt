-- Demand 3 of the exported calls, from demand 3 of the model and the exports' contracts. Assumes nothing.
use mathlib.Core.Path.{◌≡◌, refl, sym, ap, ap₂, ◌∙◌, subst}
use mathlib.Core.List.{List}
use Prim.Native.Nat.{ℕ, ◌*◌, ◌≤◌}
use native.Mathlib.Omega.{arith}
use Rattle.usb_types.specs.Answers.{halt_number}
use Rattle.usb_types.specs.declared.types.Halt.{Halt}
use Rattle.usb_model.specs.Programs.{Ran, done, fail, halt, end_of}
use Rattle.usb_model.specs.World.{World}
use Rattle.usb_model.specs.Entry.{Lent, Left, accepted, start, answered, call}
use Rattle.usb_model.specs.Kept.{LentBytes, requests_in, Accounts}
use Rattle.usb_model.specs.Count.{most_requests, store_left}
use Rattle.usb_model.specs.History.{Event}
use Rattle.usb_model.specs.Demand3 as Model
use Rattle.usb_model.specs.Demand3.{Call, attaches, scans, checks, verdict, program, entry, Ended, finished, failed, Reached}
use Rattle.usb_model.proofs.Keeps.{left_holds}
use Rattle.usb_model.proofs.Onward.{requests_logged}
use Rattle.usb_model.proofs.Entries.{root_attach_accounts, scan_accounts, port_check_accounts}
use Rattle.usb_model.proofs.Demand3.{demand3, call_walks, attaches_is, scans_is, checks_is}
use Rattle.lidrumak.specs.Calls.{promised, Made, left_by, actions_of, Calls, empty, refusal, ran, Histories, Reports}

-- ---- whole actions

whole_actions : (lent : Lent) → LentBytes lent → (c : Call) → verdict c lent ≡ accepted
    → (end_of (program c (start lent))).at.logged ≡ 16 * actions_of c lent
whole_actions lent bytes c v = omega (arith, (left_holds (call_walks lent bytes c v).1).onward.logged)

-- ---- the contracts, as demand 3 has them

promised_is : (c : Call) (lent : Lent) → promised c lent ≡ entry c lent
promised_is (attaches speed) lent = sym (attaches_is speed lent)
promised_is (scans hub) lent = sym (scans_is hub lent)
promised_is (checks hub port) lent = sym (checks_is hub port lent)

entry_is : (c : Call) (made : Made c) → left_by made ≡ entry c made.lends
entry_is c made = made.is ∙ promised_is c made.lends

-- an accepted call, also a stopped one
accepted_is : (c : Call) (made : Made c) → verdict c made.lends ≡ accepted → left_by made ≡ answered (program c (start made.lends))
unfolding call
accepted_is c made v = entry_is c made ∙ rw v refl

-- ---- a list of calls

-- an answer that is none of −13 to −15 is that of a run that ended
ended : (r : Ran World (Unit {0})) → ((h : Halt) → (answered r).answer ≡ halt_number h → ⊥) → Ended r (end_of r)
ended (done a w) n = finished
ended (fail e w) n = failed
ended (halt h w) n = absurd (n h refl)

reached : {s : List ℕ} {h : List Event} → Calls s h → Reached s h
reached empty = Model.empty
reached (refusal r c made e n) = Model.refusal (reached r) c made.lends e n
reached (ran r c made e v n) =
    let is = accepted_is c made v in
    let d = ended (program c (start made.lends)) (λ h a. n (h, ap (λ (l : Left). l.answer) is ∙ a)) in
    let new : made.new ≡ (end_of (program c (start made.lends))).store = ap (λ (l : Left). l.new) is in
    let log : made.log ≡ (end_of (program c (start made.lends))).log = ap (λ (l : Left). l.log) is in
    let whole = whole_actions made.lends made.bytes c v in
    rw (new, log) (Model.ran (reached r) c made.lends e made.bytes v d (actions_of c made.lends) whole)

pub histories : Histories
histories s h r =
    let claim = demand3 s h (reached r) in (
      claim.0,
      λ speed made e.
          subst (λ (x : Left). x.requests ≤ most_requests (store_left (verdict (attaches speed) made.lends) made.lends x))
          (sym (entry_is (attaches speed) made)) (claim.1 speed made.lends e made.bytes),
    )

-- ---- the count in a reply

accounts : (c : Call) (made : Made c) → Accounts made.lends (left_by made)
accounts (attaches speed) made = rw made.is (root_attach_accounts made.lends made.bytes speed)
accounts (scans hub) made = rw made.is (scan_accounts made.lends made.bytes hub)
accounts (checks hub port) made = rw made.is (port_check_accounts made.lends made.bytes hub port)

sent : (c : Call) (made : Made c) → verdict c made.lends ≡ accepted
    → made.reply.requests ≡ requests_in (actions_of c made.lends) made.log
sent c made v =
    let is = accepted_is c made v in
    let r = left_holds (call_walks made.lends made.bytes c v).1 in
    let n : r.onward.actions ≡ actions_of c made.lends = omega (arith, r.onward.logged) in
    ap (λ (l : Left). l.requests) is
    ∙ requests_logged r.onward refl r.good.logged refl
    ∙ ap₂ requests_in n (sym (ap (λ (l : Left). l.log) is))

pub reports : Reports
reports c made = record { accounts = accounts c made; sent = sent c made }
