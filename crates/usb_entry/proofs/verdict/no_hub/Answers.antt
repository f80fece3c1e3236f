-- `no_hub` meets its contract. Assumes nothing.
use Rattle.std.specs.Prelude.{[]}
use Rattle.std.proofs.Common.{rules, sym, ◌∙◌, leb-false}
use Rattle.usb_model.proofs.Accepted.{neither}
use Rattle.usb_entry.proofs.verdict.no_hub.Goals as goal

pub byte_at-requires : goal.byte_at-requires
byte_at-requires c = record {
  whole = search rules;
  inside = leb-false _ _ (neither _ _ (sym (c.is_unused.ensures [] [] []) ∙ c.if-is_unused.false)).0;
  room = search rules;
}

pub returns-then-is_unused : goal.returns-then-is_unused
returns-then-is_unused c new outcomes log = simp (sym (c.is_unused.ensures new outcomes log) ∙ c.if-is_unused.true, c.if-is_unused.true)

pub returns-else-is_unused : goal.returns-else-is_unused
returns-else-is_unused c new outcomes log = simp (sym (c.is_unused.ensures new outcomes log) ∙ c.if-is_unused.false, c.byte_at.ensures)
