-- `try_reset` meets its contract. Assumes nothing.
use Rattle.std.specs.Prelude.{◌≡◌, false}
use Rattle.std.proofs.Common.{rules, sym, ◌∙◌}
use Rattle.usb_model.specs.Features.{bit}
use Rattle.usb_model.specs.Hub.{port_status}
use Rattle.usb_transfer.proofs.Steps.{bound, next, got_number, unless, thrown, returned}
use Rattle.usb_retry.specs.Parts.{is_lost, try_reset}
use Rattle.usb_retry.proofs.try_reset.Goals as goal
use Rattle.usb_retry.proofs.try_reset.Goals.{else-seen-via-then-seen+else-lost, else-seen-via-else-seen}

pub returns-then-lost : goal.returns-then-lost
unfolding try_reset port_status
returns-then-lost c =
    let reads = rw c.if-seen.true at c.in_ok-seen.ensures in
    next _ c.in_ok-hub_change_port_feature.ensures (bound _ reads (got_number _ _ _ _ (rw c.stored.ensures at c.port_status-status.ensures)
    (thrown reads.fit _ _ (sym c.lost.ensures ∙ c.if-lost.true))))

pub returns-then-seen-2 : goal.returns-then-seen-2
unfolding try_reset port_status bit
returns-then-seen-2 c =
    let there : is_lost c.port_status-status.result ≡ false =
    elim c.else-seen.branch [ else-seen-via-then-seen+else-lost w ↦ sym w.lost.ensures ∙ w.if-lost.false | else-seen-via-else-seen w ↦ search rules ] in
    let reads = rw c.if-seen-2.true at c.in_ok-seen.ensures in
    next _ c.in_ok-hub_change_port_feature.ensures (bound _ reads (got_number _ _ _ _ (rw c.stored.ensures at c.port_status-status.ensures)
    (unless _ _ there (rw c.has.ensures (returned reads.fit _)))))
