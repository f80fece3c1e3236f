-- `usb_device::hub::load_hub` meets its contract. Assumes nothing.
use Rattle.std.proofs.Common.{rules}
use Rattle.usb_store.specs.Layout.{port_status_field, child_field}
use Rattle.usb_store.specs.Access.{byte_at, number_at}
use Rattle.usb_device.specs.Ports.{hub_at}
use Rattle.usb_device.proofs.HubRecord.{made}
use Rattle.usb_device.proofs.hub.load_hub.Goals as goal

pub returns : goal.returns
unfolding hub_at
returns c =
    let s = c.args.store.now in
    let place = c.args.place in
    rw (
      made (λ port. number_at s place (port_status_field port) 4) _ (λ port y r k. search rules) c.from_fn.ensures.items,
      made (λ port. byte_at s place (child_field port)) _ (λ port y r k. search rules) c.from_fn-2.ensures.items,
      c.byte_at.ensures,
    )
