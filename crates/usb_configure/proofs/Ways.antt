-- The walk over a configuration, in the store, over plain values. Assumes nothing.
use Rattle.std.specs.Prelude.{◌≡◌, List, ℕ, ◌+◌, ◌-◌, ◌<◌, ◌++◌, length, take, drop, Result, Ok, refl}
use Rattle.std.proofs.Common.{arith, ap, ◌∙◌, length-take, length-drop}
use Rattle.usb_types.specs.Answers.{Answer}
use Rattle.usb_types.specs.declared.types.ErrorCode.{ErrorCode}
use Rattle.usb_store.specs.Layout.{place_count, configuration_index_field, interfaces_field}
use Rattle.usb_store.specs.Access.{offset, bytes_at, with_bytes}
use Rattle.usb_store.proofs.Fields.{with_length}
use Rattle.usb_store.proofs.Writes.{part_back}
use Rattle.usb_model.specs.Programs.{◌>>=◌, ◌>>◌, succeed, look, change}
use Rattle.usb_model.specs.World.{M, get_bytes, put, put_bytes}
use Rattle.usb_model.specs.Walk.{record_length, walk}
use Rattle.usb_walk.specs.Steps.{answer_of, ends_with}
use Rattle.usb_transfer.specs.declared.bus.UsbBus.{UsbBus}
use Rattle.usb_transfer.specs.Runs.{Lends, Does}
use Rattle.usb_transfer.proofs.Steps.{next, looked, puts, succeeded}
use Rattle.usb_configure.specs.Parts.{walk_full}

-- where the record starts, and the bytes of the store from there on, as the code lends them
abbrev start : ℕ → ℕ
start place = offset place interfaces_field

abbrev span : ℕ → ℕ
span place = start place + record_length - start place

abbrev lent : List ℕ → ℕ → List ℕ
lent s place = take (span place) (drop (start place) s)

-- the store where the record that was lent comes back as `kept`
abbrev back : List ℕ → ℕ → List ℕ → List ℕ
back s place kept = take (start place) s ++ (kept ++ drop (span place) (drop (start place) s))

module _ (place configuration : ℕ) (full kept : List ℕ) (result : Result (Unit {0}) ErrorCode) {b b₁ b' : UsbBus}
    (d : Does (put place configuration_index_field configuration) b b₁ (Ok tt)) where
  pub walked : place < place_count → length kept ≡ length (lent b₁.store.now place) → ends_with result kept ≡ walk full (lent b₁.store.now place)
      → b'.store.now ≡ back b₁.store.now place kept → b'.log.now ≡ b₁.log.now → b'.at ≡ b₁.at
      → (b'.store.ghost_name ≡ b₁.store.ghost_name) × (b'.log.ghost_name ≡ b₁.log.ghost_name) × (b'.outcomes ≡ b₁.outcomes)
      → {a : Answer} → a ≡ answer_of result → Does (walk_full place configuration full) b b' a
  unfolding walk_full bytes_at with_bytes get_bytes
  walked h long w s l at names e =
      let n : span place ≡ record_length = omega arith in
      let same : length kept ≡ span place = omega (arith, long, length-take (span place) (drop (start place) b₁.store.now), length-drop (start place) b₁.store.now, d.fit.whole) in
      let written = s ∙ part_back b₁.store.now (start place) (span place) kept same (omega (arith, d.fit.whole)) in
      let k : Lends b₁ b' = record {
        store = names.0;
        log = names.1;
        outcomes = names.2;
        store_length = ap length written ∙ with_length b₁.store.now place interfaces_field kept;
        log_length = ap length l;
      } in
      let p = puts place interfaces_field kept d.fit written l at k in
      next _ d (looked _ _ refl (rw (← rw n at w) (next _ p (succeeded p.fit (answer_of result) e))))

-- `usb_configure` from the walk on, written line by line
pub regrouped : (place configuration : ℕ) (full : List ℕ) (k : M (Unit {0})) {b b' : UsbBus} {r : Answer}
    → Does (walk_full place configuration full >> k) b b' r
    → Does (put place configuration_index_field configuration >> (get_bytes place interfaces_field record_length >>= λ kept.
    put_bytes place interfaces_field (walk full kept).kept >> (succeed (walk full kept).answer >> k))) b b' r
unfolding walk_full get_bytes put_bytes look change ◌>>=◌ ◌>>◌
regrouped place configuration full k d = record { is = d.is; fit = d.fit; lends = d.lends }
