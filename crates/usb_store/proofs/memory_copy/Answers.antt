-- `usb_store::memory_copy` meets its contract. The loop's invariant: the first j bytes are written. Assumes nothing.
use mathlib.Core.Path.{sym}
use native.Mathlib.Numerals.{add-one}
use Rattle.usb_store.proofs.Writes.{write_nil, write_more}
use Rattle.usb_store.proofs.memory_copy.Goals as goal

pub loop-j-init : goal.loop-j-init
loop-j-init c = sym (write_nil c.args.dst.now c.args.start)

pub loop-j-preserved : goal.loop-j-preserved
loop-j-preserved c =
    rw (c.loop-j.invariant, add-one) (write_more c.args.dst.now c.args.start c.args.src.now c.loop-j.j c.loop-j-test.true)
