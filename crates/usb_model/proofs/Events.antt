-- The steps that add an event to the history, each with the event that it adds. Assumes nothing.
use mathlib.Core.Path.{◌≡◌, refl, ap, ◌∙◌}
use mathlib.Core.List.{List, ◌∷◌}
use Prim.Native.Nat.{ℕ, ◌+◌, ◌≤◌, ◌<◌, ◌^◌, min}
use native.Mathlib.Omega.{arith}
use lib.ListN.{length, drop, length-take, length-drop}
use lib.Seq.{drop-drop}
use Rattle.usb_types.specs.Actions.{request_action, wait_action, frame_interval_action}
use Rattle.usb_types.specs.declared.request.UsbDeviceRequest.{UsbDeviceRequest}
use Rattle.usb_types.specs.declared.pipe.UsbPipeAddress.{UsbPipeAddress}
use Rattle.usb_types.proofs.Lengths.{request_length, wait_length, frame_length}
use Rattle.usb_model.specs.Programs.{Ran, on, ◌>>=◌, ◌>>◌}
use Rattle.usb_model.specs.World.{World, M, log_action, log_request, micro_delay, dwc_update_host_frame_interval}
use Rattle.usb_model.specs.Transfer.{Outcome, taken, outcomes_left, size_of, outcome_of, take_outcome}
use Rattle.usb_model.specs.Kept.{Bytes}
use Rattle.usb_model.specs.History.{Event, asked, waited, framed, Reading, reading, read_action}
use Rattle.usb_model.proofs.Primitives.{wait_bytes, frame_bytes, log_good, took_good, delivered_bytes}
use Rattle.usb_model.proofs.Reading.{reads_more, reads_wait, reads_frame, reads_request, TwoBytes}
use Rattle.usb_model.proofs.Ways.{logged_world, Logs, full, logged, log_ends, request_ends, Takes, missing, whole, take_ends}
use Rattle.usb_model.proofs.Triples.{State, store, Leads, fine, gone, Does}

module _ {h₀ : List Event} where
  -- t has one event more than a state of P, and its store
  pub record Added (P : State h₀ → Type 0) (e : Event) (t : State h₀) : Type 0 where
    pub before : State h₀
    pub pre : P before
    pub same : store t ≡ store before
    pub past : t.past ≡ e ∷ before.past

  -- the state with one action logged
  abbrev with_action : (s : State h₀) (action : List ℕ) (e : Event) → length action ≡ 16 → Bytes action
      → ((r : Reading) → read_action action r ≡ reading (e ∷ r.past) r.rest) → s.world.at.logged + 16 ≤ length s.world.log
      → State h₀
  with_action s action e long b reads room = record {
    world = logged_world s.world action s.world.at.requests;
    past = e ∷ s.past;
    good = log_good action s.world.at.requests b room s.good;
    reads = reads_more action s.world.at.taken s.world.at.requests s.reads long room (reads _);
  }

  action_adds : {P N : State h₀ → Type 0} (action : List ℕ) (e : Event) → length action ≡ 16 → Bytes action
      → ((r : Reading) → read_action action r ≡ reading (e ∷ r.past) r.rest) → Does P (log_action action) (λ _. Added P e) N
  action_adds {P} {N} action e long b reads = record { run = λ s p. go s p (log_ends action s.world) }
    where
      go : (s : State h₀) → P s → {r : Ran World (Unit {0})} → Logs action s.world s.world.at.requests r
          → Leads (λ _. Added P e) N r
      go s p full = gone
      go s p (logged room) =
          fine (with_action s action e long b reads (omega (arith, room, s.good.logged)))
          (record { before = s; pre = p; same = refl; past = refl })

  pub wait_adds : {P N : State h₀ → Type 0} (us : ℕ) → us < 256 ^ 4 → Does P (micro_delay us) (λ _. Added P (waited us)) N
  unfolding micro_delay
  wait_adds us h =
      action_adds (wait_action us) (waited us) (wait_length us) (wait_bytes us) (λ r. reads_wait us r h)

  pub frame_adds : {P N : State h₀ → Type 0} → Does P dwc_update_host_frame_interval (λ _. Added P framed) N
  unfolding dwc_update_host_frame_interval
  frame_adds = action_adds frame_interval_action framed frame_length frame_bytes reads_frame

  -- ---- a request and its outcome

  pub record Asked (P : State h₀ → Type 0) (address : ℕ) (q : UsbDeviceRequest) (o : Outcome) (t : State h₀) : Type 0 where
    pub before : State h₀
    pub pre : P before
    pub same : store t ≡ store before
    pub past : t.past ≡ asked address q o ∷ before.past
    pub bytes : Bytes o.delivered
    pub short : length o.delivered ≤ q.length

  module _ (pipe : UsbPipeAddress) (q : UsbDeviceRequest) (c : Bytes (request_action pipe q)) (f : TwoBytes q) where
    abbrev with_request : (s : State h₀) → s.world.at.logged + 16 ≤ length s.world.log
        → s.world.at.taken + (4 + size_of (outcomes_left s.world)) ≤ length s.world.outcomes → State h₀
    with_request s room l =
        let rest : List ℕ = outcomes_left s.world in
        record {
          world = taken (4 + size_of rest) (logged_world s.world (request_action pipe q) (s.world.at.requests + 1));
          past = asked pipe.device q (outcome_of q.length rest) ∷ s.past;
          good = took_good (4 + size_of rest) l (log_good (request_action pipe q) (s.world.at.requests + 1) c room s.good);
          reads =
              reads_more (request_action pipe q) (s.world.at.taken + (4 + size_of rest)) (s.world.at.requests + 1) s.reads
              (request_length pipe q) room
              (reads_request pipe q _ f ∙ ap (reading (asked pipe.device q (outcome_of q.length rest) ∷ s.past))
              (drop-drop (4 + size_of rest) s.world.at.taken s.world.outcomes));
        }

    abbrev after : State h₀ → World
    after s = logged_world s.world (request_action pipe q) (s.world.at.requests + 1)

    -- a request is logged and its outcome taken, and then comes k
    pub asks : {P N : State h₀ → Type 0} {B : Type 0} {Q : B → State h₀ → Type 0} {k : Outcome → M B}
        → ((o : Outcome) → Does (Asked P pipe.device q o) (k o) Q N)
        → Does P (log_request (request_action pipe q) >> (take_outcome q.length >>= k)) Q N
    unfolding ◌>>=◌ ◌>>◌
    asks {P} {N} {B} {Q} {k} h = record { run = λ s p. log s p (request_ends _ s.world) }
      where
        take : (s : State h₀) → P s → s.world.at.logged + 16 ≤ length s.world.log → {r : Ran World Outcome}
            → Takes q.length (after s) r → Leads Q N (on r k)
        take s p room missing = gone
        take s p room (whole l) =
            (h _).run (with_request s room (omega (arith, l, length-drop s.world.at.taken s.world.outcomes, s.good.taken))) (record {
              before = s;
              pre = p;
              same = refl;
              past = refl;
              bytes = delivered_bytes q.length s.good;
              short = omega (arith, length-take (min (size_of (outcomes_left s.world)) q.length) (drop 4 (outcomes_left s.world)));
            })

        log : (s : State h₀) → P s → {r : Ran World (Unit {0})} → Logs (request_action pipe q) s.world (s.world.at.requests + 1) r
            → Leads Q N (on r (λ _. take_outcome q.length >>= k))
        log s p full = gone
        log s p (logged room) = take s p (omega (arith, room, s.good.logged)) (take_ends q.length (after s))
