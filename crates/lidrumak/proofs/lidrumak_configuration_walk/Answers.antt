-- `lidrumak_configuration_walk` meets its contract. Assumes nothing.
use Rattle.std.specs.Prelude.{◌≡◌, Ok, Err}
use Rattle.std.proofs.Common.{rules, refl, ◌∙◌, w32}
use mir.Val.{to_z, of_z}
use Rattle.lidrumak.proofs.Entries.{too_long, wrong_record, walked_all}
use Rattle.lidrumak.proofs.lidrumak_configuration_walk.Goals as goal
use Rattle.lidrumak.proofs.lidrumak_configuration_walk.Goals.{then-descriptors-gt-MAX_DESCRIPTORS-via-then-descriptors-gt-MAX_DESCRIPTORS, then-descriptors-gt-MAX_DESCRIPTORS-via-else-descriptors-gt-MAX_DESCRIPTORS+then-record-ne-RECORD_LEN}

pub returns-then-descriptors-gt-MAX_DESCRIPTORS : goal.returns-then-descriptors-gt-MAX_DESCRIPTORS
returns-then-descriptors-gt-MAX_DESCRIPTORS c =
    let n : to_z w32 (of_z w32 c.from.result) ≡ c.from.result = search rules in
    elim c.then-descriptors-gt-MAX_DESCRIPTORS.branch [
      | then-descriptors-gt-MAX_DESCRIPTORS-via-then-descriptors-gt-MAX_DESCRIPTORS w ↦
          too_long _ _ _ (n ∙ c.from.ensures) w.if-descriptors-gt-MAX_DESCRIPTORS.true
      | then-descriptors-gt-MAX_DESCRIPTORS-via-else-descriptors-gt-MAX_DESCRIPTORS+then-record-ne-RECORD_LEN w ↦
          wrong_record _ _ _ w.if-descriptors-gt-MAX_DESCRIPTORS.false (n ∙ c.from.ensures) w.if-record-ne-RECORD_LEN.true
    ]

pub returns-in-Ok : goal.returns-in-Ok
returns-in-Ok c = walked_all _ _ _ c.if-descriptors-gt-MAX_DESCRIPTORS.false c.if-record-ne-RECORD_LEN.false (Ok tt) _ c.in-Ok.ensures refl

pub returns-in-Err : goal.returns-in-Err
returns-in-Err c =
    let n : to_z w32 (of_z w32 c.from-in-Err.result) ≡ c.from-in-Err.result = search rules in
    walked_all _ _ _ c.if-descriptors-gt-MAX_DESCRIPTORS.false c.if-record-ne-RECORD_LEN.false (Err c.in-Err.error) _ c.in-Err.ensures (n ∙ c.from-in-Err.ensures)
