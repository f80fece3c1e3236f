-- The call of specs/Witness.antt is computed: it is accepted, it ends, and both devices are shown configured. Assumes nothing.
use mathlib.Core.Path.{◌≡◌, refl, ap}
use mathlib.Core.Bool.{Bool, true, false, ◌&&◌, false≢true}
use mathlib.Core.List.{List, [], ◌∷◌}
use Prim.Native.Nat.{ℕ}
use borrow.Author.Tests.{ltb-true}
use native.Mathlib.Omega.{arith}
use lib.Dec.{ltb}
use lib.ListN.{get_or}
use Rattle.usb_store.specs.Layout.{store_length, used_field, status_field}
use Rattle.usb_store.specs.Access.{byte_at}
use Rattle.usb_store.specs.Values.{configured_status}
use Rattle.usb_model.specs.Programs.{Ran, done, fail, halt, end_of}
use Rattle.usb_model.specs.World.{World}
use Rattle.usb_model.specs.Entry.{accepted, start}
use Rattle.usb_model.specs.Kept.{Bytes, LentBytes}
use Rattle.usb_model.specs.Bench.{fill_byte}
use Rattle.usb_model.specs.Demand3.{attaches, verdict, program, Ended, finished, empty, ran}
use Rattle.usb_model.proofs.Bytes.{bytes_nil, bytes_cons, filled}
use Rattle.usb_model.proofs.Definitions.{definitions}
use Rattle.usb_model.proofs.Ways.{is_done}
use Rattle.usb_table.specs.Calls.{hub_and_device}
use Rattle.usb_table.specs.Witness.{hub_and_device_lent, Witness}

-- ---- what is lent are bytes

abbrev all_bytes : List ℕ → Bool
all_bytes [] = true
all_bytes (x ∷ l) = ltb x 256 && all_bytes l

computed_bytes : (l : List ℕ) → all_bytes l ≡ true → Bytes l
computed_bytes [] e = bytes_nil
computed_bytes (x ∷ l) e = go (ltb x 256) refl (computed_bytes l) e
  where
    go : (b : Bool) → ltb x 256 ≡ b → (all_bytes l ≡ true → Bytes l) → (b && all_bytes l) ≡ true → Bytes (x ∷ l)
    go true t more e = bytes_cons (ltb-true x 256 t) (more e)
    go false t more e = absurd (false≢true e)

outcomes_bytes : all_bytes hub_and_device_lent.outcomes ≡ true
unfolding definitions hub_and_device
outcomes_bytes = refl

lent_bytes : LentBytes hub_and_device_lent
lent_bytes = record {
  old = filled 0 (omega arith) store_length;
  new = filled fill_byte (omega arith) store_length;
  outcomes = computed_bytes _ outcomes_bytes;
  log = filled fill_byte (omega arith) 1024;
}

-- ---- the run

run : Ran World (Unit {0})
run = program (attaches 0) (start hub_and_device_lent)

done_ended : (r : Ran World (Unit {0})) → is_done r ≡ true → Ended r (end_of r)
done_ended (done a w) e = finished
done_ended (fail c w) e = absurd (false≢true e)
done_ended (halt h w) e = absurd (false≢true e)

is-done : is_done run ≡ true
unfolding definitions hub_and_device run
is-done = refl

-- the logged bytes, and of places 0 and 1 whether they are used, and their status
shown : World → List ℕ
shown w = w.at.logged ∷ byte_at w.store 0 used_field ∷ byte_at w.store 0 status_field ∷ byte_at w.store 1 used_field ∷ byte_at w.store 1 status_field ∷ []

is_shown : shown (end_of run) ≡ 528 ∷ 1 ∷ configured_status ∷ 1 ∷ configured_status ∷ []
unfolding definitions hub_and_device run shown
is_shown = refl

is-accepted : verdict (attaches 0) hub_and_device_lent ≡ accepted
unfolding definitions
is-accepted = refl

-- the numbers of `is_shown`, one by one
one : (k : ℕ) → get_or (shown (end_of run)) k 0 ≡ get_or (528 ∷ 1 ∷ configured_status ∷ 1 ∷ configured_status ∷ []) k 0
one k = ap (λ (l : List ℕ). get_or l k 0) is_shown

pub witness : Witness
unfolding shown run
witness = record {
  store = _;
  history = _;
  reached = ran empty (attaches 0) hub_and_device_lent refl lent_bytes is-accepted (done_ended run is-done) 33 (one 0);
  hub = record { device = (omega arith, one 1); status = one 2 };
  device = record { device = (omega arith, one 3); status = one 4 };
}
