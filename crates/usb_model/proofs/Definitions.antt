-- What a computed line of a table unfolds: the definitions that calls are made of, and those that the tables write their stores with.
-- Assumes nothing.
use Rattle.usb_types.specs.Numbers.{number_in}
use Rattle.usb_types.specs.Outcomes.{listed, error_word, submit_results, result_of}
use Rattle.usb_types.specs.Requests.{direction_of, direction_bit, device_request}
use Rattle.usb_types.specs.Actions.{packet_size}
use Rattle.usb_types.specs.Descriptors.{kind_of, is_hub_class}
use Rattle.usb_store.specs.Access.{byte_at, bytes_at, with_bytes}
use Rattle.usb_device.specs.Device.{new_device, first_unused_from}
use Rattle.usb_place.specs.Test.{one_of, zeros, every, fields_sound, hub_sound, place_sound, used_sound}
use Rattle.usb_sound.specs.Test.{and_then, parent_sound, mark_child, mark_ports, mark_hubs, all_seen, tree_sound, store_sound, sound}
use Rattle.usb_model.specs.Programs.{◌>>=◌, ◌>>◌, return, skip, throw, stop, look, change, succeed, attempt, ignore, when, each}
use Rattle.usb_model.specs.World.{get, get_bytes, get_number, put_bytes, log_action, log_request, micro_delay, dwc_update_host_frame_interval}
use Rattle.usb_model.specs.Features.{bit}
use Rattle.usb_model.specs.Transfer.{take_outcome, usb_control_message, control, read, usb_get_descriptor}
use Rattle.usb_model.specs.Walk.{interface_descriptor, endpoint_descriptor, whole, descriptor_of, descriptor, walk_from, walk_all, walk}
use Rattle.usb_model.specs.Usbd.{read_device_descriptor, usb_read_device_descriptor, usb_set_address, usb_set_configure, usb_configure, usb_allocate_device}
use Rattle.usb_model.specs.Hub.{hub_read_descriptor, hub_get_status, hub_change_port_feature, hub_power_on, hub_port_get_status, port_status, await_reset, hub_port_reset2, await_enabled, reset_tries, hub_port_reset, port_of_child, hub_child_reset, speed_of, hub_port_connection_changed, hub_check_connection, hub_check_connection_device, hub_attach, scan_port, hub_check_for_change}
use Rattle.usb_model.specs.Attach.{usb_attach_device, attach_below, usb_attach_root_hub}
use Rattle.usb_model.specs.Entry.{root_verdict, hub_verdict, call, root_attach, scan, port_check, child_reset, child_check, retried_reset, connection_change, configuration_walk}
use Rattle.usb_model.specs.Bench.{rows, shown, walks, addressed, configured, described, powered, vacant_hub, root_place, device_place, attached_store, attach, reset}

unfoldable pub definitions : Unit {0}
unfolding number_in listed error_word submit_results result_of direction_of direction_bit device_request packet_size kind_of is_hub_class byte_at
    bytes_at with_bytes new_device first_unused_from one_of zeros every fields_sound hub_sound place_sound used_sound and_then
    parent_sound mark_child mark_ports mark_hubs all_seen tree_sound store_sound sound ◌>>=◌ ◌>>◌ return skip throw stop look
    change succeed attempt ignore when each get get_bytes get_number put_bytes log_action log_request micro_delay
    dwc_update_host_frame_interval bit take_outcome usb_control_message control read usb_get_descriptor interface_descriptor
    endpoint_descriptor whole descriptor_of descriptor walk_from walk_all walk read_device_descriptor usb_read_device_descriptor
    usb_set_address usb_set_configure usb_configure usb_allocate_device hub_read_descriptor hub_get_status hub_change_port_feature
    hub_power_on hub_port_get_status port_status await_reset hub_port_reset2 await_enabled reset_tries hub_port_reset port_of_child
    hub_child_reset speed_of hub_port_connection_changed hub_check_connection hub_check_connection_device hub_attach scan_port
    hub_check_for_change usb_attach_device attach_below usb_attach_root_hub root_verdict hub_verdict call root_attach scan port_check
    child_reset child_check retried_reset connection_change configuration_walk rows shown walks addressed configured described powered vacant_hub root_place device_place
    attached_store attach reset
definitions = tt
