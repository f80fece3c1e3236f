-- The measures: two for each place above the hub, and a stage; a child stands above its hub. The loop of `hub_check_for_change`: the ports
-- that are left, run from here, are all ports run from where the loop began. Assumes nothing.
use Rattle.std.proofs.Common.{◌-◌, ◌+◌, ◌*◌}
use Rattle.usb_scan.proofs.Scans.{Scanned}
use Rattle.usb_scan.proofs.+scan.Given as goal

abbrev pub decreases-hub_check_for_change : goal.decreases-hub_check_for_change
decreases-hub_check_for_change l = 2 * (32 - l.hub) + 1

abbrev pub decreases-scan_port : goal.decreases-scan_port
decreases-scan_port l = 2 * (32 - l.at.hub)

abbrev pub invariant-hub_check_for_change-loop-port : goal.invariant-hub_check_for_change-loop-port
invariant-hub_check_for_change-loop-port l = Scanned l.hub l.ports l.port l.initial.bus l.bus
