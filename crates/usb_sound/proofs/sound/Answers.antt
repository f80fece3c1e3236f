-- `usb_sound::sound` meets its contract. Assumes nothing.
use Rattle.usb_device.proofs.Free.{free_or}
use Rattle.usb_sound.proofs.Steps.{sound_other, sound_whole}
use Rattle.usb_sound.proofs.Decides.{decided}
use Rattle.usb_sound.proofs.sound.Goals as goal

pub returns-then-store-eq-STORE_LEN : goal.returns-then-store-eq-STORE_LEN
returns-then-store-eq-STORE_LEN c =
    decided _ _
    (sound_whole _ _ _ c.if-store-eq-STORE_LEN.true (free_or _ c.first_unused.ensures.place c.unwrap_or.ensures) c.store_sound.ensures)

pub returns-else-store-eq-STORE_LEN : goal.returns-else-store-eq-STORE_LEN
returns-else-store-eq-STORE_LEN c = decided _ _ (sound_other _ c.if-store-eq-STORE_LEN.false)
