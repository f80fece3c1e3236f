-- A control message: the one event that it adds, the bytes that it keeps, and what it stores. Assumes nothing.
use mathlib.Core.Path.{◌≡◌, refl, sym, ap, ◌∙◌, subst}
use mathlib.Core.Bool.{true, false}
use mathlib.Core.Logic.{inl, inr, ⊎_elim}
use mathlib.Core.List.{List, ◌∷◌}
use Prim.Native.Nat.{ℕ, ◌+◌, ◌*◌, ◌≤◌, ◌<◌}
use native.Mathlib.Omega.{arith}
use native.Mathlib.Decide.{dec_lt}
use lib.ListN.{length, take, length-take}
use lib.Seq.{take_all}
use Rattle.usb_types.specs.Numbers.{little_endian}
use Rattle.usb_types.specs.Outcomes.{error_word, result_of}
use Rattle.usb_types.specs.Actions.{packet_size}
use Rattle.usb_types.specs.declared.request.UsbDeviceRequest.{UsbDeviceRequest}
use Rattle.usb_types.specs.declared.pipe.UsbPipeAddress.{UsbPipeAddress}
use Rattle.usb_types.proofs.LittleEndian.{length_le}
use Rattle.usb_store.specs.Layout.{number_field, speed_field, error_field, last_transfer_field, max_packet_size0_field}
use Rattle.usb_store.specs.Access.{offset, byte_at, bytes_at, with_bytes, with_number}
use Rattle.usb_store.proofs.Fields.{Apart, byte_other, bytes_other, bytes_same}
use Rattle.usb_model.specs.World.{put_bytes, put_number}
use Rattle.usb_model.specs.Transfer.{Outcome, Buffer, usb_control_message, control, read}
use Rattle.usb_model.specs.Kept.{Bytes}
use Rattle.usb_model.specs.History.{Event, asked, acknowledged}
use Rattle.usb_model.proofs.Bytes.{bytes_le, bytes_take, byte-at}
use Rattle.usb_model.proofs.Stores.{plain_low, Follows, Plain, plain_less, none_follows, plain_follows}
use Rattle.usb_model.proofs.Primitives.{Byte-codes, request_bytes, packet_low, Fits, room_none, plain}
use Rattle.usb_model.proofs.Reading.{TwoBytes}
use Rattle.usb_model.proofs.Triples.{State, store, Does, does_pre, does_bind, does_next, does_return, does_get, does_succeed, does_store, does_given, does_known, leads_map, Gives, k_bind, k_next, k_get, k_when, k_throw, k_return}
use Rattle.usb_model.proofs.Events.{Asked, asks}
use Rattle.usb_model.proofs.Quiet.{Clear, apart_less, Quiet, quiet_order, adds_one}

-- no byte is among none
pub clear_none : {K : ℕ → ℕ → Type 0} (p f : ℕ) → Clear K p f 0
clear_none p f = record { apart = λ q g k. go q g (dec_lt (offset q g) (offset p f)) }
  where
    go : (q g : ℕ) → Dec (offset q g < offset p f) → Apart p f 0 q g 1
    go q g (yes l) = inr (omega arith)
    go q g (no l) = inl (omega arith)

-- a request as it is sent from a place: its codes are bytes, its numbers fit, and what it stores leaves out the bytes K
pub record Sendable (K : ℕ → ℕ → Type 0) (p : ℕ) (q : UsbDeviceRequest) (b : Buffer) : Type 0 where
  pub codes : Byte-codes q
  pub two : TwoBytes q
  pub fits : Fits b
  pub head : Clear K p 8 8
  pub clear : Clear K p b.field b.room

-- ---- four bytes of the error or of the last transfer

head_plain : (f : ℕ) → 8 ≤ f → f ≤ 12 → Plain f 4
head_plain f l m = plain_low (omega arith) (omega arith)

head_other : {K : ℕ → ℕ → Type 0} (p f v r g : ℕ) (t : List ℕ) → Clear K p 8 8 → 8 ≤ f → f ≤ 12 → K r g
    → byte_at (with_number t p f 4 v) r g ≡ byte_at t r g
head_other p f v r g t c l m k = byte_other t p f (little_endian 4 v) r g (part (c.apart r g k))
  where
    part : Apart p 8 8 r g 1 → Apart p f (length (little_endian 4 v)) r g 1
    part =
        ⊎_elim (λ (a : p * 1152 + 8 + 8 ≤ r * 1152 + g). inl (omega (arith, length_le 4 v)))
        (λ (a : r * 1152 + g + 1 ≤ p * 1152 + 8). inr (omega arith))

head_follows : {h₀ : List Event} (p f v : ℕ) (s : State h₀) → 8 ≤ f → f ≤ 12 → Follows (store s) (with_number (store s) p f 4 v)
head_follows p f v s l m =
    plain_follows s.good p f (little_endian 4 v) (plain_less (omega (arith, length_le 4 v)) (head_plain f l m)) (bytes_le 4 v)

-- what is delivered goes to a buffer that fits
buffer_follows : {h₀ : List Event} (p : ℕ) (b : Buffer) (vs : List ℕ) (s : State h₀) → Fits b → Bytes vs
    → Follows (store s) (with_bytes (store s) p b.field (take b.room vs))
buffer_follows p b vs s (room_none e) c = rw e (none_follows s.good p b.field)
buffer_follows p b vs s (plain r) c =
    plain_follows s.good p b.field (take b.room vs) (plain_less (omega (arith, length-take b.room vs)) r)
    (bytes_take b.room vs c)

buffer_other : {K : ℕ → ℕ → Type 0} (p : ℕ) (b : Buffer) (vs t : List ℕ) (r g : ℕ) → Clear K p b.field b.room → K r g
    → byte_at (with_bytes t p b.field (take b.room vs)) r g ≡ byte_at t r g
buffer_other p b vs t r g c k =
    byte_other t p b.field (take b.room vs) r g
    (apart_less p b.field (length (take b.room vs)) b.room r g (omega (arith, length-take b.room vs)) (c.apart r g k))

module _ {h₀ : List Event} (K : ℕ → ℕ → Type 0) (p : ℕ) (q : UsbDeviceRequest) (b : Buffer) where
  -- t came from a state of P by the request q to an address, with the outcome o
  pub record Answered (P : State h₀ → Type 0) (address : ℕ) (o : Outcome) (t : State h₀) : Type 0 where
    pub before : State h₀
    pub pre : P before
    pub keep : (r g : ℕ) → K r g → byte_at (store t) r g ≡ byte_at (store before) r g
    pub past : t.past ≡ asked address q o ∷ before.past
    pub bytes : Bytes o.delivered
    pub short : length o.delivered ≤ q.length
    pub holds : p < 32 → 16 ≤ b.field → b.field + b.room ≤ 1152 → length o.delivered ≡ b.room
        → bytes_at (store t) p b.field b.room ≡ o.delivered

  -- the same before the buffer is written
  record Noted (P : State h₀ → Type 0) (address : ℕ) (o : Outcome) (t : State h₀) : Type 0 where
    before : State h₀
    pre : P before
    keep : (r g : ℕ) → K r g → byte_at (store t) r g ≡ byte_at (store before) r g
    past : t.past ≡ asked address q o ∷ before.past
    bytes : Bytes o.delivered
    short : length o.delivered ≤ q.length

  module _ {P N : State h₀ → Type 0} (send : Sendable K p q b) (address : ℕ) (o : Outcome) where
    error_noted : (v : ℕ) → Does (Asked P address q o) (put_number p error_field 4 v) (λ _. Noted P address o) N
    unfolding put_bytes
    error_noted v = does_store (λ t. with_number t p error_field 4 v) (λ s a. (
      head_follows p error_field v s (omega arith) (omega arith),
      record {
        before = a.before;
        pre = a.pre;
        keep = λ r g k. head_other p error_field v r g (store s) send.head (omega arith) (omega arith) k ∙ ap (λ (t : List ℕ). byte_at t r g) a.same;
        past = a.past;
        bytes = a.bytes;
        short = a.short;
      },
    ))

    delivered_noted : Does (Noted P address o) (put_bytes p b.field (take b.room o.delivered)) (λ _. Answered P address o) N
    unfolding put_bytes
    delivered_noted = does_store (λ t. with_bytes t p b.field (take b.room o.delivered)) (λ s a. (
      buffer_follows p b o.delivered s send.fits a.bytes,
      record {
        before = a.before;
        pre = a.pre;
        keep = λ r g k. buffer_other p b o.delivered (store s) r g send.clear k ∙ a.keep r g k;
        past = a.past;
        bytes = a.bytes;
        short = a.short;
        holds = λ inside high room long.
            let all : take b.room o.delivered ≡ o.delivered = take_all b.room o.delivered (omega arith) in
            rw all (rw long at (bytes_same (store s) p b.field o.delivered (record { whole = s.good.whole; inside = inside; room = omega arith })));
      },
    ))

    last_noted : (v : ℕ) → Does (Answered P address o) (put_number p last_transfer_field 4 v) (λ _. Answered P address o) N
    unfolding put_bytes
    last_noted v = does_store (λ t. with_number t p last_transfer_field 4 v) (λ s a. (
      head_follows p last_transfer_field v s (omega arith) (omega arith),
      record {
        before = a.before;
        pre = a.pre;
        keep = λ r g k. head_other p last_transfer_field v r g (store s) send.head (omega arith) (omega arith) k ∙ a.keep r g k;
        past = a.past;
        bytes = a.bytes;
        short = a.short;
        holds = λ inside high room long.
            bytes_other (store s) p last_transfer_field (little_endian 4 v) p b.field b.room (inl (omega (arith, length_le 4 v)))
            ∙ a.holds inside high room long;
      },
    ))

  -- the message: acknowledged, with the delivered bytes; or failed
  pub record Acknowledged (P : State h₀ → Type 0) (address : ℕ) (bytes : List ℕ) (t : State h₀) : Type 0 where
    pub outcome : Outcome
    pub answered : Answered P address outcome t
    pub good : acknowledged outcome ≡ true
    pub is : bytes ≡ outcome.delivered

  pub record Unacknowledged (P : State h₀ → Type 0) (address : ℕ) (t : State h₀) : Type 0 where
    pub outcome : Outcome
    pub answered : Answered P address outcome t
    pub failed : acknowledged outcome ≡ false

  pub message_does : {P : State h₀ → Type 0} → Sendable K p q b → (address : ℕ) → address < 256
      → Does P (usb_control_message p address q b) (Acknowledged P address) (Unacknowledged P address)
  unfolding usb_control_message acknowledged
  message_does {P} send address h =
      does_bind (does_get p speed_field) λ speed.
      does_bind (does_get p max_packet_size0_field) λ size.
      does_given (λ s x. subst (λ (v : ℕ). v < 256) (sym x.0.1) (byte-at (store s) p speed_field s.good.store)) λ low.
      does_pre (λ s x. x.0.0) (
      let pipe : UsbPipeAddress = record { device = address; speed = speed; max_size = packet_size size } in
      asks pipe q (request_bytes pipe q h low (packet_low size) send.codes) send.two λ o.
      does_next (error_noted send address o (error_word o.error)) (
      does_next (delivered_noted send address o) (
      does_next (last_noted send address o (length o.delivered)) (
      does_next (does_succeed (result_of o.submit o.error) (λ e s a. record { outcome = o; answered = a; failed = e }))
      (does_return o.delivered (λ s a. record { outcome = o; answered = a.0; good = a.1; is = refl }))))))

  -- a request to the device's own number
  pub control_does : {P : State h₀ → Type 0} → Sendable K p q b → (address : ℕ)
      → ((s : State h₀) → P s → byte_at (store s) p number_field ≡ address)
      → Does P (control p q b) (Acknowledged P address) (Unacknowledged P address)
  unfolding control
  control_does {P} send address e =
      does_known _ p number_field address e (does_given (λ s x. subst (λ (v : ℕ). v < 256) (e s x) (byte-at (store s) p number_field s.good.store))
      λ low. message_does send address low)

  -- ---- as a step that keeps K and adds an event of E

  pub answered_step : {E : Event → Type 0} {P : State h₀ → Type 0} {t : State h₀} {address : ℕ} {o : Outcome} → E (asked address q o)
      → (a : Answered P address o t) → Quiet K E a.before t
  answered_step e a = record { keep = a.keep; past = adds_one e a.past }

  answered_quiet : {E : Event → Type 0} {s t : State h₀} {address : ℕ} {o : Outcome} → ((o : Outcome) → E (asked address q o))
      → Answered (λ u. u ≡ s) address o t → Quiet K E s t
  answered_quiet {E} {s} {t} {address} {o} e a = subst (λ (u : State h₀). Quiet K E u t) a.pre (answered_step (e o) a)

  pub message_quiet : {E : Event → Type 0} → Sendable K p q b → ((address : ℕ) (o : Outcome) → E (asked address q o)) → (address : ℕ)
      → address < 256 → Gives {h₀ = h₀} (Quiet K E) Bytes (usb_control_message p address q b)
  message_quiet {E} send e address h = record {
    run = λ s. leads_map ((message_does {P = λ u. u ≡ s} send address h).run s refl)
        (λ bytes t a. (answered_quiet (e address) a.answered, subst Bytes (sym a.is) a.answered.bytes))
        (λ t a. answered_quiet (e address) a.answered);
  }

  pub control_quiet : {E : Event → Type 0} → Sendable K p q b → ((address : ℕ) (o : Outcome) → E (asked address q o))
      → Gives {h₀ = h₀} (Quiet K E) Bytes (control p q b)
  unfolding control
  control_quiet {E} send e = k_bind (quiet_order K E) (k_get (quiet_order K E) p number_field) λ address h. message_quiet send e address h

  pub read_quiet : {E : Event → Type 0} → Sendable K p q b → ((address : ℕ) (o : Outcome) → E (asked address q o)) → (minimum : ℕ)
      → Gives {h₀ = h₀} (Quiet K E) Bytes (read p q minimum b)
  unfolding read
  read_quiet {E} send e minimum = k_bind (quiet_order K E) (control_quiet send e) λ bytes h. k_next (quiet_order K E)
      (k_when (quiet_order K E) _ (k_throw (quiet_order K E) _)) (k_return (quiet_order K E) bytes h)
