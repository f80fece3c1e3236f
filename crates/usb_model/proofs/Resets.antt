-- `HubPortReset2`: where it is done, the history shows a reset of that port that ended well. Assumes nothing.
use mathlib.Core.Path.{◌≡◌, refl, sym, ap, ◌∙◌, subst}
use mathlib.Core.Bool.{Bool, true, false, not, false≢true}
use mathlib.Core.List.{List, ◌∷◌}
use Prim.Native.Nat.{ℕ, zero, suc, ◌+◌, ◌≤◌, ◌<◌}
use native.Mathlib.Omega.{arith}
use borrow.Author.Tests.{ltb-false, not-false}
use lib.ListN.{length}
use Rattle.usb_types.specs.Numbers.{from_little_endian}
use Rattle.usb_types.specs.Requests.{clear_feature_code, set_feature_code, to_port, device_request}
use Rattle.usb_types.specs.declared.request.UsbDeviceRequest.{UsbDeviceRequest}
use Rattle.usb_store.specs.Layout.{number_field, port_status_field}
use Rattle.usb_store.specs.Access.{byte_at, number_at}
use Rattle.usb_model.specs.World.{micro_delay}
use Rattle.usb_model.specs.Features.{port_reset, c_port_reset, bit}
use Rattle.usb_model.specs.Transfer.{Outcome, Buffer, into, nowhere, control, read}
use Rattle.usb_model.specs.Hub.{hub_change_port_feature, clear_port_feature, set_port_feature, hub_port_get_status, port_status, await_reset, hub_port_reset2}
use Rattle.usb_model.specs.World.{get_number}
use Rattle.usb_model.specs.History.{Event, asked, waited, acknowledged}
use Rattle.usb_model.specs.Demand3.{reset_of, status_of, clear_of, Awaited, sent, again, EndedWell, well, NoResetSince, just, since}
use Rattle.usb_model.proofs.Triples.{does_post, does_first, State, store, Does, does_map, does_pre, does_bind, does_next, does_skip, does_return, does_look, does_if, does_unless, does_ignore, does_keep}
use Rattle.usb_model.proofs.Events.{Added, wait_adds}
use Rattle.usb_model.proofs.Quiet.{number, Keys, quiet_order}
use Rattle.usb_model.proofs.Messages.{answered_step, Sendable, Answered, Acknowledged, control_does}
use Rattle.usb_model.proofs.Parts.{Calm, calm_of_still, added_step, still_wait, still_port_status, still_clear, calm_reset, sends_none, port_sendable, head_keys, Calmly, clear_still}

status_length : (port : ℕ) → (status_of port).length ≡ 4
unfolding device_request
status_length port = refl

module _ {h₀ : List Event} (s₀ : State h₀) (hub port : ℕ) (inside : hub < 32) (low : port < 10) (own : byte_at (store s₀) hub number_field ≡ hub + 1) where
  abbrev Since : State h₀ → Type 0
  Since t = Calmly s₀ t

  later : {s t : State h₀} → Since s → Calmly s t → Since t
  later a b = (quiet_order Keys Calm).join a b

  -- one event more, which is calm
  added : {P : State h₀ → Type 0} {e : Event} {t : State h₀} → ((s : State h₀) → P s → Since s) → Calm e → Added P e t → Since t
  added f c a = later (f a.before a.pre) (added_step c a)

  answered : {P : State h₀ → Type 0} (q : UsbDeviceRequest) (b : Buffer) {o : Outcome} {t : State h₀} → ((s : State h₀) → P s → Since s)
      → Calm (asked (hub + 1) q o) → Answered Keys hub q b P (hub + 1) o t → Since t
  answered q b f c a = later (f a.before a.pre) (answered_step Keys hub q b c a)

  -- a request to the hub: acknowledged, or failed in a state that came calmly
  tell : {P : State h₀ → Type 0} (q : UsbDeviceRequest) (b : Buffer) → Sendable Keys hub q b → ((s : State h₀) → P s → Since s)
      → ((o : Outcome) → Calm (asked (hub + 1) q o)) → Does P (control hub q b) (Acknowledged Keys hub q b P (hub + 1)) Since
  tell q b send f c =
      does_map (λ s p. p) (λ _ t x. x) (λ t x. answered q b f (c x.outcome) x.answered)
      (control_does Keys hub q b send (hub + 1) (λ s p. (f s p).keep hub number_field number ∙ own))

  -- ---- on its way

  record Begun (reads : ℕ) (t : State h₀) : Type 0 where
    since₀ : Since t
    awaited : Awaited (hub + 1) port reads t.past

  record Ticked (reads : ℕ) (t : State h₀) : Type 0 where
    since₁ : Since t
    h : List Event
    past : t.past ≡ waited 50000 ∷ h
    awaited : Awaited (hub + 1) port reads h

  -- a status read came back whole
  record Seen (reads : ℕ) (t : State h₀) : Type 0 where
    since₂ : Since t
    h : List Event
    o : Outcome
    past : t.past ≡ asked (hub + 1) (status_of port) o ∷ waited 50000 ∷ h
    awaited : Awaited (hub + 1) port reads h
    good : acknowledged o ≡ true
    long : length o.delivered ≡ 4
    holds : number_at (store t) hub (port_status_field port) 4 ≡ from_little_endian o.delivered

  tick : (reads : ℕ) → Does (Begun reads) (micro_delay 50000) (λ _. Ticked reads) Since
  tick reads = does_post (λ _ t a. record {
    since₁ = added (λ s p. p.since₀) (still_wait 50000).calm a;
    h = a.before.past;
    past = a.past;
    awaited = a.pre.awaited;
  }) (wait_adds {N = Since} 50000 (omega arith))

  see : (reads : ℕ) → Does (Ticked reads) (hub_port_get_status hub port) (λ _. Seen reads) Since
  unfolding hub_port_get_status read
  see reads = does_next
      (does_bind (tell (status_of port) (into (port_status_field port) 4) (port_sendable hub port low) (λ s p. p.since₁)
      (λ o. (still_port_status port (hub + 1) o).calm)) λ bytes.
      does_next (does_unless _ _ (λ s a. came a.answered))
      (does_return bytes (λ t a. whole bytes t a.0 (ltb-false (length bytes) 4 a.1))))
      does_skip
    where
      came : {o : Outcome} {t : State h₀} → Answered Keys hub (status_of port) (into (port_status_field port) 4) (Ticked reads) (hub + 1) o t
          → Since t
      came {o} a = answered (status_of port) (into (port_status_field port) 4) (λ s p. p.since₁) (still_port_status port (hub + 1) o).calm a

      whole : (bytes : List ℕ) (t : State h₀)
          → Acknowledged Keys hub (status_of port) (into (port_status_field port) 4) (Ticked reads) (hub + 1) bytes t → 4 ≤ length bytes
          → Seen reads t
      whole bytes t a l =
          let x = a.answered in
          let long : length a.outcome.delivered ≡ 4 = omega (arith, l, ap length a.is, x.short, status_length port) in
          record {
            since₂ = came x;
            h = x.pre.h;
            o = a.outcome;
            past = x.past ∙ ap (λ (r : List Event). asked (hub + 1) (status_of port) a.outcome ∷ r) x.pre.past;
            awaited = x.pre.awaited;
            good = a.good;
            long = long;
            holds = ap from_little_endian (x.holds inside (omega arith) (omega arith) long);
          }

  -- the last read shows the change
  record Shown (t : State h₀) : Type 0 where
    reads : ℕ
    few : reads < 21
    seen : Seen reads t
    shows : bit c_port_reset (from_little_endian seen.o.delivered) ≡ true

  record Read (b : Bool) (t : State h₀) : Type 0 where
    since₃ : Since t
    shown : b ≡ true → Shown t

  once_more : (reads : ℕ) (t : State h₀) → Seen reads t → Begun (suc reads) t
  once_more reads t x = record {
    since₀ = x.since₂;
    awaited = subst (Awaited (hub + 1) port (suc reads)) (sym x.past) (again x.awaited x.good x.long);
  }

  await : (n reads : ℕ) → reads + n ≡ 21 → Does (Begun reads) (await_reset n hub port) Read Since
  unfolding await_reset port_status get_number
  await zero reads e = does_return false (λ t b. record { since₃ = b.since₀; shown = λ x. absurd (false≢true x) })
  await (suc n) reads e =
      does_next (tick reads) (does_next (see reads) (does_bind (does_look _) λ status.
      does_if (bit c_port_reset status)
      (λ x. does_return true (λ t y. record {
        since₃ = y.0.since₂;
        shown = λ _. record { reads = reads; few = omega arith; seen = y.0; shows = ap (bit c_port_reset) (sym (y.1 ∙ y.0.holds)) ∙ x };
      }))
      (λ x. does_pre (λ t y. once_more reads t y.0) (await n (suc reads) (omega arith)))))

  begin : Does Since (set_port_feature hub port_reset port) (λ _. Begun 0) Since
  unfolding hub_change_port_feature
  begin = does_next
      (does_post (λ _ t a. record {
        since₀ = answered (reset_of port) nowhere (λ s p. p) (calm_reset port (hub + 1) a.outcome) a.answered;
        awaited = subst (Awaited (hub + 1) port 0) (sym a.answered.past) (sent a.good);
      })
      (tell (reset_of port) nowhere (sends_none head_keys to_port set_feature_code port_reset (port + 1) (omega arith) (omega arith) (omega arith)
      (omega arith) 0 (omega arith)) (λ s p. p) (calm_reset port (hub + 1))))
      does_skip

  record Over (b : Bool) (t : State h₀) : Type 0 where
    since₄ : Since t
    over : b ≡ true → EndedWell (hub + 1) port t.past

  finish : (b : Bool) → Does (Read b) (clear_port_feature hub c_port_reset port) (λ _. Over b) Since
  unfolding hub_change_port_feature
  finish b = does_next
      (does_post (λ _ t a. record {
        since₄ =
            answered (clear_of port) nowhere (λ s p. p.since₃) (still_clear c_port_reset port (hub + 1) a.outcome).calm a.answered;
        over = λ x. ended t a (a.answered.pre.shown x);
      })
      (tell (clear_of port) nowhere (sends_none head_keys to_port clear_feature_code c_port_reset (port + 1) (omega arith) (omega arith)
      (omega arith) (omega arith) 0 (omega arith)) (λ s p. p.since₃) (λ o. (still_clear c_port_reset port (hub + 1) o).calm)))
      does_skip
    where
      ended : {bytes : List ℕ} (t : State h₀) (a : Acknowledged Keys hub (clear_of port) nowhere (Read b) (hub + 1) bytes t)
          → Shown a.answered.before → EndedWell (hub + 1) port t.past
      ended t a x =
          let y = x.seen in
          subst (EndedWell (hub + 1) port) (sym (a.answered.past ∙ ap (λ (r : List Event). asked (hub + 1) (clear_of port) a.outcome ∷ r) y.past))
          (well y.awaited x.few y.good y.long x.shows a.good)

  pub record HasReset (t : State h₀) : Type 0 where
    pub calmly : Calmly s₀ t
    pub reset : NoResetSince (EndedWell (hub + 1) port) t.past

  pub reset2_does : Does (Calmly s₀) (hub_port_reset2 hub port) (λ _. HasReset) (Calmly s₀)
  unfolding hub_port_reset2
  reset2_does =
      does_next (does_ignore (does_first
      (does_keep Since (clear_still hub c_port_reset port (omega arith) low) (λ s t p r. later p (calm_of_still r)) (λ t x. x)))) (
      does_next begin (does_bind (await _ 0 (omega arith)) λ seen.
      does_next (finish seen) (
      does_next (does_unless (not seen) _ (λ t x. x.since₄))
      (does_post (λ _ t a. record {
        calmly = added (λ s p. p.0.since₄) (still_wait 10000).calm a;
        reset =
            subst (NoResetSince (EndedWell (hub + 1) port)) (sym a.past)
            (since (still_wait 10000).reset (just (a.pre.0.over (not-false seen a.pre.1))));
      }) (wait_adds {N = Since} 10000 (omega arith))))))
