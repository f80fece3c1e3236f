-- The ways through the control message, over plain values. Assumes nothing.
use Rattle.std.specs.Prelude.{◌≡◌, Bool, true, false, List, ℕ, ◌+◌, ◌-◌, ◌*◌, ◌≤◌, ◌<◌, min, leb, length, take, drop, Result, Ok, Err, refl}
use Rattle.std.proofs.Common.{arith, ap, sym, ◌∙◌, take_all, length-drop, leb-true, leb-false}
use Rattle.usb_types.specs.Outcomes.{result_of, error_word}
use Rattle.usb_types.specs.declared.types.Halt.{Halt}
use Rattle.usb_types.specs.declared.types.Failure.{Failure}
use Rattle.usb_types.specs.declared.types.Failure.TheVariants.{Stop}
use Rattle.usb_store.specs.Layout.{error_field, last_transfer_field}
use Rattle.usb_model.specs.declared.Buffer.{Buffer}
use Rattle.usb_model.specs.Programs.{◌>>=◌, ◌>>◌, return, succeed, change}
use Rattle.usb_model.specs.World.{put_bytes, put_number}
use Rattle.usb_model.specs.Transfer.{Outcome, take_outcome}
use Rattle.usb_transfer.specs.declared.bus.UsbBus.{UsbBus}
use Rattle.usb_transfer.specs.declared.outcome.Header.{Header}
use Rattle.usb_transfer.specs.Outcomes.{Takes}
use Rattle.usb_transfer.specs.Runs.{Ready, Does}
use Rattle.usb_transfer.proofs.Steps.{lends_still, bound, next, next_ends, succeeded, returned}
use Rattle.usb_message.specs.Parts.{keeping, receiving}

-- the bytes for which there is room
pub fitting : (n room : ℕ) (bytes : List ℕ) → n ≡ min room (length bytes) → take n bytes ≡ take room bytes
fitting n room bytes e = go (leb room (length bytes)) (leb-true room (length bytes)) (leb-false room (length bytes))
  where
    go : (b : Bool) → (b ≡ true → room ≤ length bytes) → (b ≡ false → length bytes < room) → take n bytes ≡ take room bytes
    go true f g = let same : n ≡ room = omega (arith, e, f refl) in ap (λ (k : ℕ). take k bytes) same
    go false f g = let h = g refl in take_all n bytes (omega (arith, e)) ∙ sym (take_all room bytes (omega arith))

-- wValue of a descriptor request
pub value_is : (kind index : ℕ) → index + kind * 256 ≡ kind * 256 + index
value_is kind index = omega arith

-- what is left of the outcomes, as the code reads it
abbrev pub left : UsbBus → List ℕ
left b = take (length b.outcomes.now - b.at.taken) (drop b.at.taken b.outcomes.now)

left_is : (b : UsbBus) → left b ≡ drop b.at.taken b.outcomes.now
left_is b = take_all (length b.outcomes.now - b.at.taken) (drop b.at.taken b.outcomes.now) (omega (arith, length-drop b.at.taken b.outcomes.now))

-- an outcome of so many data bytes further
abbrev pub further : UsbBus → ℕ → UsbBus
further b size = record {
  store = b.store;
  log = b.log;
  outcomes = b.outcomes;
  at = record { logged = b.at.logged; taken = b.at.taken + (4 + size); requests = b.at.requests };
}

-- no whole outcome is left
pub untaken : {b : UsbBus} (asked : ℕ) {h : Halt} → Ready b → Takes (left b) (Err h) → Does (take_outcome asked) b b (Err (Stop h))
untaken {b} asked fit t = record { is = t.is asked _ (sym (left_is b)); fit = fit; lends = lends_still b }

-- the bytes that are delivered, as the code cuts them
abbrev pub bytes_left : UsbBus → ℕ → List ℕ
bytes_left b n = take (4 + n - 4) (drop 4 (left b))

abbrev outcome : UsbBus → Header → ℕ → Outcome
outcome b h n = record { submit = h.submit; error = h.error; delivered = bytes_left b n }

module _ {b : UsbBus} {h : Header} (asked n : ℕ) (fit : Ready b) (t : Takes (left b) (Ok h)) (e : n ≡ min h.size asked) where
  pub took : Does (take_outcome asked) b (further b h.size) (Ok (outcome b h n))
  took =
      let k : 4 + n - 4 ≡ min h.size asked = omega (arith, e) in
      record {
        is = rw k (t.is asked _ (sym (left_is b)));
        fit = record {
          whole = fit.whole;
          logged = fit.logged;
          taken = omega (arith, t.good.inside, ap length (left_is b), length-drop b.at.taken b.outcomes.now, fit.taken);
          counted = fit.counted;
        };
        lends = record { store = refl; log = refl; outcomes = refl; store_length = refl; log_length = refl };
      }

  module _ (place : ℕ) (buffer : Buffer) {b₂ : UsbBus} (d : Does (keeping place h.error (bytes_left b n) buffer) (further b h.size) b₂ (Ok tt)) where
    pub received : Ok tt ≡ result_of h.submit h.error → Does (receiving place asked buffer) b b₂ (Ok (bytes_left b n))
    unfolding receiving
    received o =
        bound _ took (next _ d (next _ (succeeded d.fit (result_of h.submit h.error) o) (returned d.fit (bytes_left b n))))

    pub refused : {f : Failure} {r : Result (List ℕ) Failure} → Err f ≡ result_of h.submit h.error → r ≡ Err f
        → Does (receiving place asked buffer) b b₂ r
    unfolding receiving
    refused o x = bound _ took (next _ d (next_ends _ (succeeded d.fit (result_of h.submit h.error) o) x))

-- `usb_control_message` from the outcome on, written line by line
pub regrouped : (place asked : ℕ) (buffer : Buffer) {b b₁ : UsbBus} {r : Result (List ℕ) Failure}
    → Does (receiving place asked buffer) b b₁ r
    → Does (take_outcome asked >>= λ o. put_number place error_field 4 (error_word o.error)
    >> (put_bytes place buffer.field (take buffer.room o.delivered)
    >> (put_number place last_transfer_field 4 (length o.delivered)
    >> (succeed (result_of o.submit o.error) >> return o.delivered)))) b b₁ r
unfolding receiving keeping ◌>>◌ put_bytes change
regrouped place asked buffer d = record { is = d.is; fit = d.fit; lends = d.lends }
