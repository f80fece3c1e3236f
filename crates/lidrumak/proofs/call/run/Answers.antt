-- `run` meets its contract. Assumes nothing.
use Rattle.std.proofs.Common.{arith}
use Rattle.usb_device.proofs.Free.{free_most}
use Rattle.lidrumak.proofs.call.run.Goals as goal

pub returns-in-Scan : goal.returns-in-Scan
returns-in-Scan c =
    let does = c.hub_check_for_change.ensures 32 32 (free_most _) (omega arith) in
    rw c.in-Scan.is (record { does = does; store = does.lends.store; log = does.lends.log })

pub returns-in-PortCheck : goal.returns-in-PortCheck
returns-in-PortCheck c =
    let does = rw (c.hub_port.ensures.0, c.hub_port.ensures.1) at c.hub_check_connection.ensures 32 (free_most _) in
    rw c.in-PortCheck.is (record { does = does; store = does.lends.store; log = does.lends.log })

pub returns-in-ChildCheck : goal.returns-in-ChildCheck
returns-in-ChildCheck c =
    let does = c.hub_check_connection_device.ensures 32 (free_most _) in
    rw c.in-ChildCheck.is (record { does = does; store = does.lends.store; log = does.lends.log })

pub returns-in-ConnectionChange : goal.returns-in-ConnectionChange
returns-in-ConnectionChange c =
    let does = rw (c.hub_port-in-ConnectionChange.ensures.0, c.hub_port-in-ConnectionChange.ensures.1) at c.hub_port_connection_changed.ensures 32 (free_most _) in
    rw c.in-ConnectionChange.is (record { does = does; store = does.lends.store; log = does.lends.log })
