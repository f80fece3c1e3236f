-- Scan, and the scan of a port, which call each other: each answer follows its definition line by line. Assumes nothing.
use Rattle.std.proofs.Common.{◌∙◌, ◌<◌, arith, le_refl, sym}
use Rattle.usb_transfer.proofs.Steps.{got, ends_with, each_starts, each_last, each_failed, each_goes, going}
use Rattle.usb_driver.proofs.Reaches.{checked_after}
use Rattle.usb_scan.proofs.Scans.{at_places, scanned_after, child_bus, child_is, no_child, passes_failed, passes_none, passes_no_hub, goes_below}
use Rattle.usb_scan.proofs.+scan.Goals as goal

-- ---- hub_check_for_change

pub hub_check_for_change-returns-in_err-scan_port : goal.hub_check_for_change-returns-in_err-scan_port
hub_check_for_change-returns-in_err-scan_port t c n m h l =
    let inv = c.loop-port.invariant in
    at_places _ _ m c.requires.inside l (λ k g. got _ _ _ (c.from-ports.ensures ∙ c.byte_at.ensures)
    (ends_with (inv.goes n k h g) (each_failed _ _ _ c.loop-port-test.true
    (c.in_err-scan_port.ensures n k (omega (arith, inv.after.free)) g) c.from_residual.ensures)))

pub hub_check_for_change-loop-port-preserved : goal.hub_check_for_change-loop-port-preserved
hub_check_for_change-loop-port-preserved t c =
    let inv = c.loop-port.invariant in
    let low : c.loop-port.port < 10 = omega (arith, c.from-ports.ensures, c.byte_at.ensures, c.requires.good.most c.args.hub) in
    let k = scanned_after _ 32 _ inv.after.bus low (c.scan_port.ensures _ 32 (le_refl _) (omega arith)) in
    record {
      after = record { bus = k.bus; free = omega (arith, k.free, inv.after.free) };
      goes = λ n m h l.
          each_goes _ _ _ c.loop-port-test.true (inv.goes n m h l) (c.in_ok-scan_port.ensures n m (omega (arith, inv.after.free)) l);
    }

pub hub_check_for_change-returns : goal.hub_check_for_change-returns
hub_check_for_change-returns t c n m h l =
    let inv = c.loop-port.invariant in
    at_places _ _ m c.requires.inside l (λ k g. got _ _ _ (c.from-ports.ensures ∙ c.byte_at.ensures)
    (ends_with (inv.goes n k h g) (each_last _ _ _ c.loop-port-test.false inv.after.bus.fit)))

-- ---- scan_port

pub scan_port-returns-in-Err : goal.scan_port-returns-in-Err
scan_port-returns-in-Err t c n m h l = passes_failed _ _ _ _ (c.in-Err.ensures n h) c.ignore.ensures

pub scan_port-returns-in_default-port_child : goal.scan_port-returns-in_default-port_child
scan_port-returns-in_default-port_child t c n m h l = passes_none _ _ _ _ (c.in_default.ensures n h) (no_child _ (rw c.stored.ensures at c.in_default-port_child.ensures))

pub scan_port-byte_at-requires : goal.scan_port-byte_at-requires
scan_port-byte_at-requires t c =
    let after = checked_after _ c.requires c.args.at.in_range (c.in_default.ensures _ (le_refl _)) in
    let bus = (child_bus _ _ after.bus c.args.at.in_range (child_is _ (rw c.stored.ensures at c.in-Some.ensures))).1 in
    record { whole = bus.fit.whole; inside = bus.inside; room = omega arith }

pub scan_port-returns-then-byte_at-eq0 : goal.scan_port-returns-then-byte_at-eq0
scan_port-returns-then-byte_at-eq0 t c n m h l =
    passes_no_hub _ _ _ _ (c.in_default.ensures n h) _ (child_is _ (rw c.stored.ensures at c.in-Some.ensures)) (sym c.byte_at.ensures ∙ c.if-byte_at-eq0.true)

pub scan_port-hub_check_for_change-requires : goal.scan_port-hub_check_for_change-requires
scan_port-hub_check_for_change-requires t c =
    let after = checked_after _ c.requires c.args.at.in_range (c.in_default.ensures _ (le_refl _)) in
    let above = child_bus _ _ after.bus c.args.at.in_range (child_is _ (rw c.stored.ensures at c.in-Some.ensures)) in
    (omega (arith, c.decreases, above.0, above.1.inside), above.1)

pub scan_port-returns : goal.scan_port-returns
scan_port-returns t c n m h l =
    let after = checked_after _ c.requires c.args.at.in_range (c.in_default.ensures _ (le_refl _)) in
    let above = child_bus _ _ after.bus c.args.at.in_range (child_is _ (rw c.stored.ensures at c.in-Some.ensures)) in
    let scan = c.hub_check_for_change.ensures n m (omega (arith, after.free)) (omega (arith, above.0)) in
    goes_below _ _ _ _ (c.in_default.ensures n h) _ (child_is _ (rw c.stored.ensures at c.in-Some.ensures)) (λ z. c.if-byte_at-eq0.false (c.byte_at.ensures ∙ z)) scan
