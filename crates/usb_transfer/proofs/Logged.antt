-- The functions of the log, over plain values. Assumes nothing.
use Rattle.std.specs.Prelude.{◌≡◌, List, ℕ, ◌+◌, ◌-◌, ◌≤◌, ◌<◌, length, Ok, Err, IsErr, IsErrAnd}
use Rattle.std.specs.Borrow.{Bor}
use Rattle.std.proofs.Common.{arith, ap, sym, refl, subst, ◌∙◌, lt-ltb, le-ltb}
use Rattle.usb_types.specs.Answers.{Answer}
use Rattle.usb_types.specs.declared.types.Failure.{Failure}
use Rattle.usb_types.specs.declared.types.Halt.TheVariants.{LogFull}
use Rattle.usb_types.specs.declared.types.Failure.TheVariants.{Stop}
use Rattle.usb_store.specs.Access.{write}
use Rattle.usb_model.specs.declared.Progress.{Progress}
use Rattle.usb_model.specs.Programs.{Ran, done, on, ran, ◌>>=◌, ◌>>◌, stop, skip, look, change, when, end_of}
use Rattle.usb_model.specs.World.{World, log_action, log_request, appended, counted}
use Rattle.usb_model.proofs.Ways.{Logs as Was-logged, full, logged as was-logged, log_ends}
use Rattle.usb_transfer.specs.declared.bus.UsbBus.{UsbBus}
use Rattle.usb_transfer.specs.Runs.{world, Fit, Room, Logs, Lends}
use Rattle.usb_transfer.proofs.Steps.{lends_still, lends_on, on_failed, exit}

module _ {b : UsbBus} (action : List ℕ) (r : Room b) where
  pub action_full : length b.log.now - b.at.logged < 16 → Logs (log_action action) b b (Err (Stop LogFull))
  unfolding log_action ◌>>=◌ ◌>>◌ look when stop
  action_full h = record { is = simp (lt-ltb _ _ h); stored = refl; room = r; taken = refl; fit = λ f. f; lends = lends_still b }

  pub action_logged : {b' : UsbBus} → 16 ≤ length b.log.now - b.at.logged → b'.store.now ≡ b.store.now
      → b'.log.now ≡ write b.log.now b.at.logged action → length b'.log.now ≡ length b.log.now
      → b'.at ≡ record { logged = b.at.logged + 16; taken = b.at.taken; requests = b.at.requests }
      → Lends b b' → Logs (log_action action) b b' (Ok tt)
  unfolding log_action ◌>>=◌ ◌>>◌ look when skip change
  action_logged {b'} h s l n a k =
      let o : b'.outcomes.now ≡ b.outcomes.now = ap (λ (o : Bor (List ℕ)). o.now) k.outcomes in
      let same : appended action (world b) ≡ world b' = simp (s, l, a, o) in
      let at : b'.at.logged ≡ b.at.logged + 16 = ap (λ (p : Progress). p.logged) a in
      let sent : b'.at.requests ≡ b.at.requests = ap (λ (p : Progress). p.requests) a in
      let room : Room b' = record { logged = omega (arith, at, n, h, r.logged); counted = omega (arith, at, sent, r.counted) } in
      record {
        is = simp (le-ltb _ _ h) (ap (done tt) same);
        stored = s;
        room = room;
        taken = ap (λ (p : Progress). p.taken) a;
        fit = λ f. record { whole = ap length s ∙ f.whole; logged = room.logged; taken = rw (a, o) f.taken; counted = room.counted };
        lends = k;
      }

-- where an action was logged
logged_at : (action : List ℕ) (w : World) {v : World} → log_action action w ≡ done tt v
    → v.at ≡ record { logged = w.at.logged + 16; taken = w.at.taken; requests = w.at.requests }
logged_at action w {v} e = go (log_ends action w) e
  where
    go : {r : Ran World (Unit {0})} → Was-logged action w w.at.requests r → r ≡ done tt v
        → v.at ≡ record { logged = w.at.logged + 16; taken = w.at.taken; requests = w.at.requests }
    go full e = let z : ◌≡◌ {A = ℕ} 0 1 = cc in absurd (omega arith)
    go (was-logged room) e = sym (ap (λ (r : Ran World (Unit {0})). (end_of r).at) e)

-- an action that was logged counts as a request
pub request_logged : (action : List ℕ) {b b₁ b' : UsbBus} → Room b → Logs (log_action action) b b₁ (Ok tt)
    → world b' ≡ counted (world b₁) → Lends b₁ b' → Logs (log_request action) b b' (Ok tt)
unfolding log_request change ◌>>◌
request_logged action {b} {b₁} {b'} r d same k =
    let at = logged_at action (world b) d.is in
    let logged = ap (λ (p : Progress). p.logged) at in
    let requests = ap (λ (p : Progress). p.requests) at in
    let places : (b'.at.logged ≡ b₁.at.logged) × (length b'.log.now ≡ length b₁.log.now) × (b'.at.requests ≡ b₁.at.requests + 1) =
    (ap (λ (w : World). w.at.logged) same, ap (λ (w : World). length w.log) same, ap (λ (w : World). w.at.requests) same) in
    let counts : b₁.at.requests + 1 ≤ b₁.at.logged = omega (arith, logged, requests, r.counted) in
    record {
      is = ap (λ (x : Ran World (Unit {0})). on x (λ _. change counted)) d.is ∙ ap (done tt) (sym same);
      stored = ap (λ (w : World). w.store) same ∙ d.stored;
      room = record { logged = omega (arith, places.0, places.1, d.room.logged); counted = omega (arith, places.0, places.2, counts) };
      taken = ap (λ (w : World). w.at.taken) same ∙ d.taken;
      fit = λ f. let g = d.fit f in subst Fit (sym same) (record { whole = g.whole; logged = g.logged; taken = g.taken; counted = counts });
      lends = lends_on d.lends k;
    }

-- an action for which no room was left
pub request_unlogged : (action : List ℕ) {b b₁ : UsbBus} {f : Failure} {r : Answer} → Logs (log_action action) b b₁ (Err f)
    → IsErr r × IsErrAnd r (λ g. g ≡ f) → Logs (log_request action) b b₁ r
unfolding log_request ◌>>◌
request_unlogged action {b} {b₁} {f} {r} d e = record {
  is = ap (λ (x : Ran World (Unit {0})). on x (λ _. change counted)) d.is ∙ on_failed f b₁ (λ _. change counted)
      ∙ ap (λ (r : Answer). ran r (world b₁)) (sym (exit r e));
  stored = d.stored;
  room = d.room;
  taken = d.taken;
  fit = d.fit;
  lends = d.lends;
}
