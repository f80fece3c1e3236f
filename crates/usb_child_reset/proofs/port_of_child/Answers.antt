-- `port_of_child` meets its contract. Assumes nothing.
use Rattle.std.specs.Prelude.{◌≡◌}
use Rattle.std.proofs.Common.{rules, ◌∙◌}
use Rattle.usb_child_reset.proofs.Children.{stands, finds_if}
use Rattle.usb_child_reset.proofs.port_of_child.Goals as goal

pub returns : goal.returns
returns c =
    let is : c.if-port-from.stands ≡ stands c.args.hub c.args.child c.args.store.now = search rules in
    rw c.then_some.ensures (finds_if _ _ _ is (c.from-port.ensures ∙ c.byte_at.ensures) c.requires.3)
