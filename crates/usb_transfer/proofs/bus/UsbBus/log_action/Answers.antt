-- `UsbBus::log_action` meets its contract. Assumes nothing.
use Rattle.std.proofs.Common.{rules, refl}
use Rattle.usb_transfer.proofs.Logged.{action_full, action_logged}
use Rattle.usb_transfer.proofs.bus.UsbBus.log_action.Goals as goal

pub returns-then-self-logged-lt-ACTION_LEN : goal.returns-then-self-logged-lt-ACTION_LEN
returns-then-self-logged-lt-ACTION_LEN c = action_full _ c.requires c.if-self-logged-lt-ACTION_LEN.true

pub returns : goal.returns
returns c =
    action_logged _ c.requires c.if-self-logged-lt-ACTION_LEN.false refl c.memory_copy.ensures c.memory_copy.auto.dst refl (search rules)
