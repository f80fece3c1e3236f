-- The steps that the functions of the driver are made of walk. Assumes nothing.
use mathlib.Core.Path.{◌≡◌, refl}
use mathlib.Core.Bool.{Bool, true, false, cond}
use mathlib.Core.List.{List, [], ◌∷◌}
use Prim.Native.Nat.{ℕ, ◌+◌, ◌≤◌, ◌<◌, min}
use native.Mathlib.Omega.{arith}
use lib.Dec.{leb, ltb}
use lib.ListN.{length, take, drop, length-take, length-drop}
use Rattle.usb_types.specs.Numbers.{little_endian}
use Rattle.usb_types.specs.Actions.{request_action, wait_action, frame_interval_action, packet_size}
use Rattle.usb_types.specs.Requests.{direction_bit}
use Rattle.usb_types.proofs.LittleEndian.{length_le}
use Rattle.usb_types.proofs.Lengths.{request_length, wait_length, frame_length}
use Rattle.usb_types.specs.declared.request.UsbDeviceRequest.{UsbDeviceRequest}
use Rattle.usb_types.specs.declared.pipe.UsbPipeAddress.{UsbPipeAddress}
use Rattle.usb_store.specs.Layout.{child_field, max_children_field, error_field, last_transfer_field}
use Rattle.usb_store.proofs.Fields.{bytes_most}
use Rattle.usb_store.proofs.Writes.{length_write}
use Rattle.usb_device.proofs.Free.{first_most}
use Rattle.usb_model.specs.Programs.{Ran}
use Rattle.usb_model.specs.World.{World, with_store, get, get_bytes, get_number, put, put_bytes, put_number, log_action, log_request, micro_delay, dwc_update_host_frame_interval}
use Rattle.usb_model.specs.Transfer.{Outcome, taken, outcomes_left, size_of, outcome_of, take_outcome, Buffer, usb_control_message, control, read}
use Rattle.usb_model.specs.Kept.{Bytes, kinds_in, requests_in, is_kind, Good, Onward}
use Rattle.usb_model.proofs.Bytes.{bytes_one, bytes_cons, bytes_append, zeros, bytes_le, bytes_take, bytes_drop, bytes_write, bytes-at, byte-at}
use Rattle.usb_model.proofs.Onward.{onward_same}
use Rattle.usb_model.proofs.Stores.{Plain, plain_low, plain_less, none_follows, plain_follows, most_follows, child_follows, store_onward, store_good, Follows}
use Rattle.usb_model.proofs.Keeps.{Any, Left, is-done, is_halted, bind, next, gives, throws, looks, changes, succeeds, whens}
use Rattle.usb_model.proofs.Ways.{logged_world, Logs, full, logged, log_ends, request_ends, Takes, missing, whole, take_ends}
use Rattle.usb_model.proofs.Walks.{Reach, Walks, Goes, reach_on}

-- ---- the store

written : {u w : World} {n : ℕ} (t : List ℕ) → Reach u n w → Follows w.store t → Reach u n (with_store t w)
written t r f = reach_on r (store_onward t f) (store_good t f r.good)

module _ {u : World} {n : ℕ} where
  pub gets : (p f : ℕ) → Walks u n (get p f) (λ v. v < 256)
  unfolding get
  gets p f = looks _ (λ w r. byte-at w.store p f r.good.store)

  pub gets_most : (p : ℕ) → Walks u n (get p max_children_field) (λ v. v ≤ 10)
  unfolding get
  gets_most p = looks _ (λ w r. r.good.most p)

  pub gets_number : (p f k : ℕ) → Goes u n (get_number p f k)
  unfolding get_number
  gets_number p f k = looks _ (λ w r. tt)

  pub gets_bytes : (p f k : ℕ) → Walks u n (get_bytes p f k) (λ bytes. Bytes bytes × (length bytes ≤ k))
  unfolding get_bytes
  gets_bytes p f k = looks _ (λ w r. (bytes-at w.store p f k r.good.store, bytes_most w.store p f k))

  puts_none : (p f : ℕ) → Goes u n (put_bytes p f [])
  unfolding put_bytes
  puts_none p f = changes _ (λ w x. written _ x (none_follows x.good p f))

  pub puts_bytes : (p f k : ℕ) (vs : List ℕ) → Plain f k → length vs ≤ k → Bytes vs → Goes u n (put_bytes p f vs)
  unfolding put_bytes
  puts_bytes p f k vs r l b = changes _ (λ w x. written _ x (plain_follows x.good p f vs (plain_less l r) b))

  pub puts : (p f v : ℕ) → Plain f 1 → v < 256 → Goes u n (put p f v)
  puts p f v r l = puts_bytes p f 1 (v ∷ []) r (omega arith) (bytes_one l)

  pub puts_number : (p f k v : ℕ) → Plain f k → Goes u n (put_number p f k v)
  puts_number p f k v r = puts_bytes p f k (little_endian k v) r (omega (arith, length_le k v)) (bytes_le k v)

  pub puts_most : (p v : ℕ) → p < n → v ≤ 10 → Goes u n (put p max_children_field v)
  unfolding put_bytes
  puts_most p v h l = changes _ (λ w x. written _ x (most_follows x.good p v (omega (arith, x.used, first_most w.store)) l))

  pub puts_child : (p j c : ℕ) → j < 10 → p + 1 < c → c ≤ n → Goes u n (put p (child_field j) c)
  unfolding put_bytes
  puts_child p j c h above low =
      changes _
      (λ w x. written _ x (child_follows x.good p j c (omega (arith, x.used, first_most w.store)) h above (omega (arith, x.used))))

-- ---- the log

pub log_onward : {w : World} (action : List ℕ) (requests : ℕ) → length action ≡ 16 → kinds_in is_kind 1 action ≡ 1
    → requests ≡ w.at.requests + requests_in 1 action → Onward w (logged_world w action requests)
log_onward {w} action requests long kind e = record {
  store = refl;
  free = omega arith;
  first = omega arith;
  outcomes = refl;
  taken = omega arith;
  actions = 1;
  news = action;
  news_length = long;
  kinds = kind;
  log = refl;
  logged = refl;
  requests = e;
}

pub log_good : {w : World} (action : List ℕ) (requests : ℕ) → Bytes action → w.at.logged + 16 ≤ length w.log → Good w
    → Good (logged_world w action requests)
log_good {w} action requests b room g = record {
  whole = g.whole;
  logged = omega (arith, length_write w.log w.at.logged action);
  taken = g.taken;
  store = g.store;
  log = bytes_write w.log w.at.logged action g.log b;
  outcomes = g.outcomes;
  most = g.most;
  child = g.child;
}

module _ {u : World} {n : ℕ} (action : List ℕ) (long : length action ≡ 16) (kind : kinds_in is_kind 1 action ≡ 1) (b : Bytes action) where
  log_left : {w : World} {r : Ran World (Unit {0})} (requests : ℕ) → requests ≡ w.at.requests + requests_in 1 action → Reach u n w
      → Logs action w requests r
      → Left (Reach u n) Any r
  log_left requests e x full = is_halted x
  log_left {w} requests e x (logged room) =
      is-done (reach_on x (log_onward action requests long kind e) (log_good {w = w} action requests b (omega (arith, room, x.good.logged)) x.good)) tt

  -- an action that is no request
  pub logs : requests_in 1 action ≡ 0 → Goes u n (log_action action)
  logs none = record { run = λ w x. log_left _ (omega (arith, none)) x (log_ends action w) }

  -- a request, which is counted
  pub sends : requests_in 1 action ≡ 1 → Goes u n (log_request action)
  sends one = record { run = λ w x. log_left _ (omega (arith, one)) x (request_ends action w) }

pub wait_bytes : (microseconds : ℕ) → Bytes (wait_action microseconds)
wait_bytes microseconds = bytes_append (bytes_cons (omega arith) (zeros 7)) (bytes_append (bytes_le 4 microseconds) (zeros 4))

pub frame_bytes : Bytes frame_interval_action
frame_bytes = bytes_cons (omega arith) (zeros 15)

module _ {u : World} {n : ℕ} where
  pub waits : (microseconds : ℕ) → Goes u n (micro_delay microseconds)
  unfolding micro_delay kinds_in
  waits microseconds = logs (wait_action microseconds) (wait_length microseconds) refl (wait_bytes microseconds) refl

  pub frames : Goes u n dwc_update_host_frame_interval
  unfolding dwc_update_host_frame_interval kinds_in
  frames = logs frame_interval_action frame_length refl frame_bytes refl

-- ---- a control message

-- a request whose two code bytes are bytes
pub record Byte-codes (q : UsbDeviceRequest) : Type 0 where
  pub type : q.request_type < 256
  pub code : q.request < 256

direction_low : (t : ℕ) → direction_bit t < 256
unfolding direction_bit
direction_low t = go (leb 128 t)
  where
    go : (b : Bool) → cond {A = ℕ} b 1 0 < 256
    go true = omega arith
    go false = omega arith

pub packet_low : (n : ℕ) → packet_size n < 256
unfolding packet_size
packet_low n = go (ltb n 9) (ltb n 17) (ltb n 33)
  where
    go : (a b c : Bool) → cond {A = ℕ} a 0 (cond b 1 (cond c 2 3)) < 256
    go true b c = omega arith
    go false true c = omega arith
    go false false true = omega arith
    go false false false = omega arith

pub request_bytes : (pipe : UsbPipeAddress) (q : UsbDeviceRequest) → pipe.device < 256 → pipe.speed < 256 → pipe.max_size < 256
    → Byte-codes q → Bytes (request_action pipe q)
request_bytes pipe q a s m c =
    bytes_cons (omega arith) (bytes_cons a (bytes_cons (direction_low q.request_type)
    (bytes_cons s (bytes_cons m (bytes_cons (omega arith) (bytes_cons (omega arith) (bytes_cons (omega arith)
    (bytes_cons c.type (bytes_cons c.code (bytes_append (bytes_le 2 q.value) (bytes_append (bytes_le 2 q.index) (bytes_le 2 q.length))))))))))))

took_onward : {w : World} (k : ℕ) → Onward w (taken k w)
took_onward {w} k =
    let o : Onward w w = onward_same w in
    record {
      store = refl;
      free = omega arith;
      first = omega arith;
      outcomes = refl;
      taken = omega arith;
      actions = o.actions;
      news = o.news;
      news_length = o.news_length;
      kinds = o.kinds;
      log = o.log;
      logged = o.logged;
      requests = o.requests;
    }

pub took_good : {w : World} (k : ℕ) → w.at.taken + k ≤ length w.outcomes → Good w → Good (taken k w)
took_good k l g = record {
  whole = g.whole;
  logged = g.logged;
  taken = l;
  store = g.store;
  log = g.log;
  outcomes = g.outcomes;
  most = g.most;
  child = g.child;
}

pub delivered_bytes : {w : World} (asked : ℕ) → Good w → Bytes (outcome_of asked (outcomes_left w)).delivered
delivered_bytes {w} asked g =
    let left : List ℕ = outcomes_left w in
    bytes_take (min (size_of left) asked) (drop 4 left) (bytes_drop 4 left (bytes_drop w.at.taken w.outcomes g.outcomes))

pub takes : {u : World} {n : ℕ} (asked : ℕ) → Walks u n (take_outcome asked) (λ o. Bytes o.delivered)
takes {u} {n} asked = record { run = λ w x. go w x (take_ends asked w) }
  where
    go : (w : World) → Reach u n w → {r : Ran World Outcome} → Takes asked w r → Left (Reach u n) (λ (o : Outcome). Bytes o.delivered) r
    go w x missing = is_halted x
    go w x (whole l) =
        is-done (reach_on x (took_onward (4 + size_of (outcomes_left w)))
        (took_good (4 + size_of (outcomes_left w)) (omega (arith, l, length-drop w.at.taken w.outcomes, x.good.taken)) x.good))
        (delivered_bytes asked x.good)

-- where delivered bytes may go: no key of the place
pub data Fits (b : Buffer) : Type 0 where
  room_none : b.room ≡ 0 → Fits b
  plain : Plain b.field b.room → Fits b

delivers : {u : World} {n : ℕ} (p : ℕ) (b : Buffer) (vs : List ℕ) → Fits b → Bytes vs → Goes u n (put_bytes p b.field (take b.room vs))
delivers p b vs (room_none e) c = rw e (puts_none p b.field)
delivers p b vs (plain r) c = puts_bytes p b.field b.room _ r (omega (arith, length-take b.room vs)) (bytes_take b.room vs c)

module _ {u : World} {n : ℕ} (p : ℕ) (q : UsbDeviceRequest) (b : Buffer) (c : Byte-codes q) (fits : Fits b) where
  pub messages : (address : ℕ) → address < 256 → Walks u n (usb_control_message p address q b) Bytes
  unfolding usb_control_message kinds_in
  messages address h =
      bind (gets p _) λ speed s.
      bind (gets p _) λ size _.
      let pipe : UsbPipeAddress = record { device = address; speed = speed; max_size = packet_size size } in
      next (sends (request_action pipe q) (request_length pipe q) refl (request_bytes pipe q h s (packet_low size) c) refl) (
      bind (takes _) λ o d.
      next (puts_number p error_field 4 _ (plain_low (omega arith) (omega arith))) (
      next (delivers p b o.delivered fits d) (
      next (puts_number p last_transfer_field 4 _ (plain_low (omega arith) (omega arith))) (
      next (succeeds _) (gives _ d)))))

  pub controls : Walks u n (control p q b) Bytes
  unfolding control
  controls = bind (gets p _) λ address h. messages address h

  pub reads : (minimum : ℕ) → Walks u n (read p q minimum b) Bytes
  unfolding read
  reads minimum = bind controls λ bytes h. next (whens _ (throws _)) (gives bytes h)
