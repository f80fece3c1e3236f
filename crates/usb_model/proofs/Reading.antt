-- The history is what the model did: an action that is logged at the end adds its one event. Assumes nothing.
use mathlib.Core.Path.{◌≡◌, refl, sym, ap, ◌∙◌, subst}
use mathlib.Core.List.{List, [], ◌∷◌}
use Prim.Native.Nat.{ℕ, zero, suc, ◌+◌, ◌*◌, ◌≤◌, ◌<◌, ◌^◌}
use native.Mathlib.Nat.{zero-add, suc-add}
use native.Mathlib.Omega.{arith}
use lib.ListN.{length, take, drop}
use lib.Seq.{take-take, take-nil, drop-drop}
use Rattle.usb_types.specs.Numbers.{number_in}
use Rattle.usb_types.specs.Actions.{request_action, wait_action, frame_interval_action}
use Rattle.usb_types.specs.declared.request.UsbDeviceRequest.{UsbDeviceRequest}
use Rattle.usb_types.specs.declared.pipe.UsbPipeAddress.{UsbPipeAddress}
use Rattle.usb_types.proofs.LittleEndian.{from_le}
use Rattle.usb_store.specs.Access.{write}
use Rattle.usb_store.proofs.Writes.{take_write, at_write}
use Rattle.usb_model.specs.World.{World}
use Rattle.usb_model.specs.Transfer.{size_of, outcome_of}
use Rattle.usb_model.specs.History.{Event, asked, waited, framed, request_of, Reading, reading, read_action, read_log}

-- what is taken after a drop
drop_take : (n m : ℕ) (l : List ℕ) → drop n (take (n + m) l) ≡ take m (drop n l)
drop_take zero m l = rw zero-add refl
drop_take (suc n) m [] = rw suc-add (sym (take-nil m))
drop_take (suc n) m (x ∷ l) = rw suc-add (drop_take n m l)

-- ---- n actions and one more

-- the first n actions are read off the first 16 n bytes
read_front : (n : ℕ) (l m : List ℕ) (r : Reading) → take (16 * n) l ≡ take (16 * n) m → read_log n l r ≡ read_log n m r
unfolding read_log
read_front zero l m r e = refl
read_front (suc n) l m r e =
    let more : 16 * suc n ≡ 16 + 16 * n = omega arith in
    let first : take 16 l ≡ take 16 m = sym (take-take 16 (16 * suc n) l (omega arith)) ∙ ap (take 16) e ∙ take-take 16 (16 * suc n) m (omega arith) in
    let rest : take (16 * n) (drop 16 l) ≡ take (16 * n) (drop 16 m) = sym (drop_take 16 (16 * n) l) ∙ ap (drop 16) (rw more at e) ∙ drop_take 16 (16 * n) m in
    read_front n (drop 16 l) (drop 16 m) (read_action (take 16 l) r) rest ∙ ap (λ (a : List ℕ). read_log n (drop 16 m) (read_action a r)) first

read_last : (n : ℕ) (log : List ℕ) (r : Reading) → read_log (n + 1) log r ≡ read_action (take 16 (drop (16 * n) log)) (read_log n log r)
unfolding read_log
read_last zero log r = refl
read_last (suc n) log r =
    let more : 16 + 16 * n ≡ 16 * suc n = omega arith in
    ap (λ (k : ℕ). read_log k log r) (suc-add n 1)
    ∙ read_last n (drop 16 log) (read_action (take 16 log) r)
    ∙ ap (λ (l : List ℕ). read_action (take 16 l) (read_log n (drop 16 log) (read_action (take 16 log) r)))
    (drop-drop (16 * n) 16 log ∙ ap (λ (k : ℕ). drop k log) more)

-- ---- what a world's log reads as, after the history h₀

pub record Reads (h₀ : List Event) (w : World) (h : List Event) : Type 0 where
  pub actions : ℕ
  pub logged : w.at.logged ≡ 16 * actions
  pub is : read_log actions w.log (reading h₀ w.outcomes) ≡ reading h (drop w.at.taken w.outcomes)

-- an action at the end of the log, which adds to the history and takes some outcomes
pub reads_more : {h₀ h h' : List Event} {w : World} (action : List ℕ) (taken requests : ℕ) → Reads h₀ w h → length action ≡ 16
    → w.at.logged + 16 ≤ length w.log
    → read_action action (reading h (drop w.at.taken w.outcomes)) ≡ reading h' (drop taken w.outcomes)
    → Reads h₀ (record {
      store = w.store;
      log = write w.log w.at.logged action;
      outcomes = w.outcomes;
      at = record { logged = w.at.logged + 16; taken = taken; requests = requests };
    }) h'
reads_more {h₀} {h} {h'} {w} action taken requests r long room e = record {
  actions = r.actions + 1;
  logged = omega (arith, r.logged);
  is = whole;
}
  where
    log : List ℕ
    log = write w.log w.at.logged action

    here : take 16 (drop (16 * r.actions) log) ≡ action
    here =
        ap (λ (k : ℕ). take 16 (drop k log)) (sym r.logged)
        ∙ subst (λ (k : ℕ). take k (drop w.at.logged log) ≡ action) long (at_write w.log w.at.logged action (omega arith))

    before : take (16 * r.actions) log ≡ take (16 * r.actions) w.log
    before =
        ap (λ (k : ℕ). take k log) (sym r.logged)
        ∙ take_write w.log w.at.logged action
        ∙ ap (λ (k : ℕ). take k w.log) r.logged

    whole : read_log (r.actions + 1) log (reading h₀ w.outcomes) ≡ reading h' (drop taken w.outcomes)
    whole =
        read_last r.actions log (reading h₀ w.outcomes)
        ∙ ap (λ (a : List ℕ). read_action a (read_log r.actions log (reading h₀ w.outcomes))) here
        ∙ ap (read_action action) (read_front r.actions log w.log (reading h₀ w.outcomes) before ∙ r.is)
        ∙ e

-- ---- the three kinds of action

pub reads_wait : (us : ℕ) (r : Reading) → us < 256 ^ 4 → read_action (wait_action us) r ≡ reading (waited us ∷ r.past) r.rest
unfolding read_action number_in
reads_wait us r h = ap (λ (k : ℕ). reading (waited k ∷ r.past) r.rest) (from_le 4 us h)

pub reads_frame : (r : Reading) → read_action frame_interval_action r ≡ reading (framed ∷ r.past) r.rest
unfolding read_action
reads_frame r = refl

-- a request whose numbers fit their two bytes
pub record TwoBytes (q : UsbDeviceRequest) : Type 0 where
  pub value : q.value < 256 ^ 2
  pub index : q.index < 256 ^ 2
  pub length : q.length < 256 ^ 2

request-of : (pipe : UsbPipeAddress) (q : UsbDeviceRequest) → TwoBytes q → request_of (drop 8 (request_action pipe q)) ≡ q
unfolding request_of number_in
request-of pipe q t = rw (from_le 2 q.value t.value, from_le 2 q.index t.index, from_le 2 q.length t.length) refl

pub reads_request : (pipe : UsbPipeAddress) (q : UsbDeviceRequest) (r : Reading) → TwoBytes q
    → read_action (request_action pipe q) r ≡ reading (asked pipe.device q (outcome_of q.length r.rest) ∷ r.past) (drop (4 + size_of r.rest) r.rest)
unfolding read_action
reads_request pipe q r t =
    ap (λ (x : UsbDeviceRequest). reading (asked pipe.device x (outcome_of x.length r.rest) ∷ r.past)
    (drop (4 + size_of r.rest) r.rest)) (request-of pipe q t)
