-- The calls with stores as one: the verdict, and the program that an accepted call runs.
use Rattle.std.specs.Prelude.{false, ◌<◌}
use Rattle.usb_store.specs.Layout.{place_count, ports_per_hub}
use Rattle.usb_model.specs.World.{M}
use Rattle.usb_model.specs.Hub.{hub_child_reset, hub_port_reset, hub_check_for_change, hub_check_connection, hub_check_connection_device, hub_port_connection_changed}
use Rattle.usb_model.specs.Attach.{attach_new, usb_attach_root_hub}
use Rattle.usb_model.specs.Entry.{Lent, Left, Verdict, root_verdict, hub_verdict, no_port, is_unused, call}
use Rattle.usb_model.specs.Kept.{Good}
use Rattle.usb_transfer.specs.declared.bus.UsbBus.{UsbBus}
use Rattle.usb_transfer.specs.Runs.{world, Ready}
use Rattle.usb_driver.specs.Bus.{OnBus}
use Rattle.lidrumak.specs.declared.call.Call.{Call}
use Rattle.lidrumak.specs.declared.call.Call.TheVariants.{RootAttach, Scan, PortCheck, ChildReset, ChildCheck, RetriedReset, ConnectionChange}

abbrev pub verdict : Call → Lent → Verdict
verdict (RootAttach speed) lent = root_verdict lent speed
verdict (Scan hub) lent = hub_verdict lent hub false
verdict (PortCheck hub port) lent = hub_verdict lent hub (no_port port)
verdict (ChildReset hub child) lent = hub_verdict lent hub (is_unused lent child)
verdict (ChildCheck hub child) lent = hub_verdict lent hub (is_unused lent child)
verdict (RetriedReset hub port) lent = hub_verdict lent hub (no_port port)
verdict (ConnectionChange hub port) lent = hub_verdict lent hub (no_port port)

abbrev pub program : Call → M (Unit {0})
program (RootAttach speed) = usb_attach_root_hub speed
program (Scan hub) = hub_check_for_change attach_new place_count hub
program (PortCheck hub port) = hub_check_connection attach_new hub port
program (ChildReset hub child) = hub_child_reset hub child
program (ChildCheck hub child) = hub_check_connection_device attach_new hub child
program (RetriedReset hub port) = hub_port_reset hub port
program (ConnectionChange hub port) = hub_port_connection_changed attach_new hub port

-- what the call leaves
abbrev pub entry : Call → Lent → Left
entry c lent = call lent (verdict c lent) (program c)

-- what the function that the call names asks of its bus
abbrev pub CanRun : Call → UsbBus → Type 0
CanRun (RootAttach speed) bus = Ready bus × Good (world bus) × (speed < 256)
CanRun (Scan hub) bus = OnBus hub bus
CanRun (PortCheck hub port) bus = OnBus hub bus × (port < ports_per_hub)
CanRun (ChildReset hub child) bus = OnBus hub bus × (child < place_count)
CanRun (ChildCheck hub child) bus = OnBus hub bus × (child < place_count)
CanRun (RetriedReset hub port) bus = OnBus hub bus × (port < ports_per_hub)
CanRun (ConnectionChange hub port) bus = OnBus hub bus × (port < ports_per_hub)
