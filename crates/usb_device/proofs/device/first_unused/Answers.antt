-- `usb_device::device::first_unused` meets its contract. Assumes nothing.
use Rattle.std.proofs.Common.{rules, tests, ◌≡◌}
use Rattle.std.proofs.lemmas.Iterator.{first_from_Range}
use Rattle.usb_store.specs.Access.{byte_at}
use Rattle.usb_device.proofs.Free.{first_told}
use Rattle.usb_device.proofs.device.first_unused.Goals as goal

pub returns-clause-place : goal.returns-clause-place
returns-clause-place c =
    let s = c.args.store.now in
    first_told s _
    (first_from_Range _ _ _ _ (λ i. byte_at s i 0 ≡ 0) (λ i. byte_at s i 0 ≡ 0 → ⊥) c.find.ensures.ran
    (λ x q k. search (rules, tests)) (λ x q k. search (rules, tests)))
