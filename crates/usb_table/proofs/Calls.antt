-- Both sides of specs/Calls.antt compute to the same rows. In four parts, because all in one take more steps than antt allows a declaration.
-- Assumes nothing.
use mathlib.Core.Path.{◌≡◌, refl, ap₂}
use mathlib.Core.List.{◌++◌}
use Rattle.usb_model.proofs.Definitions.{definitions}
use Rattle.usb_table.specs.Calls.{damaged_store, walk_refusals, again, root_refusals, entries, hub_refusals, child_and_port_refusals, taken, other_refusals, hub_and_device, walk_more, speed_lines, attach_full, short_reads, long_lines, amended, endpoint_lines, stop_lines, device_lines, checks, port_lines, changes, change_lines, retries, retry_lines, child_lines, attach_lines, hub_call_lines, on_stores, table, expected}

-- what the lines compute with
unfolded : Unit {0}
unfolding definitions damaged_store walk_refusals again root_refusals entries hub_refusals child_and_port_refusals taken
    other_refusals hub_and_device walk_more speed_lines attach_full short_reads long_lines
    amended endpoint_lines stop_lines device_lines checks port_lines changes change_lines retries retry_lines child_lines
    attach_lines hub_call_lines
unfolded = tt

root-refusals : on_stores root_refusals (λ line. line.computed) ≡ on_stores root_refusals (λ line. line.due)
unfolding unfolded
root-refusals = refl

other-refusals : on_stores other_refusals (λ line. line.computed) ≡ on_stores other_refusals (λ line. line.due)
unfolding unfolded
other-refusals = refl

attach-lines : on_stores attach_lines (λ line. line.computed) ≡ on_stores attach_lines (λ line. line.due)
unfolding unfolded
attach-lines = refl

hub-call-lines : on_stores hub_call_lines (λ line. line.computed) ≡ on_stores hub_call_lines (λ line. line.due)
unfolding unfolded
hub-call-lines = refl

pub calls : table ≡ expected
unfolding table expected
calls = ap₂ ◌++◌ (ap₂ ◌++◌ (ap₂ ◌++◌ root-refusals other-refusals) attach-lines) hub-call-lines
