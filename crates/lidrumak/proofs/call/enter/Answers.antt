-- `enter` meets its contract. Assumes nothing.
use Rattle.std.specs.Prelude.{List, ℕ}
use Rattle.std.specs.Borrow.{Bor}
use Rattle.std.proofs.Common.{rules, refl, ap, ◌∙◌}
use Rattle.usb_model.specs.Kept.{LentBytes}
use Rattle.usb_entry.specs.Replies.{lent}
use Rattle.lidrumak.proofs.Entries.{refused_call, accepted_call, accepts, bytes_of, first_world, accepted_lends, can_run}
use Rattle.lidrumak.proofs.call.enter.Goals as goal

pub returns-in-Err : goal.returns-in-Err
returns-in-Err c =
    let judged = c.judge.ensures c.args.new.now c.args.outcomes.now c.args.log.now refl in
    refused_call _ _ judged c.in-Err.is _ c.refuse.ensures

pub copy_store-requires : goal.copy_store-requires
copy_store-requires c =
    let judged = c.judge.ensures c.args.new.now c.args.outcomes.now c.args.log.now refl in
    let p = accepted_lends _ _ (accepts judged c.in_default.is) in
    (p.lengths, p.is_sound)

pub run-answer-requires : goal.run-answer-requires
run-answer-requires c =
    let judged = c.judge.ensures c.args.new.now c.args.outcomes.now c.args.log.now refl in
    let n = c.new-bus.ensures in
    let first = first_world (lent c.args.old.now c.args.new.now c.args.outcomes.now c.args.log.now) c.new-bus.result (n.store ∙ c.copy_store.ensures) n.log
    (ap (λ (o : Bor (List ℕ)). o.now) n.lends_outcomes) n.starts in
    let bytes : LentBytes (lent c.args.old.now c.args.new.now c.args.outcomes.now c.args.log.now) =
    record { old = bytes_of c.type_inv.old; new = bytes_of (search rules); outcomes = bytes_of c.type_inv.outcomes; log = bytes_of (search rules) } in
    can_run _ bytes _ first _ (accepts judged c.in_default.is)

pub returns : goal.returns
returns c =
    let judged = c.judge.ensures c.args.new.now c.args.outcomes.now c.args.log.now refl in
    let n = c.new-bus.ensures in
    let first = first_world (lent c.args.old.now c.args.new.now c.args.outcomes.now c.args.log.now) c.new-bus.result (n.store ∙ c.copy_store.ensures) n.log
    (ap (λ (o : Bor (List ℕ)). o.now) n.lends_outcomes) n.starts in
    accepted_call _ _ judged c.in_default.is first c.run-answer.ensures.does _ c.report.ensures (search rules) (search rules)
