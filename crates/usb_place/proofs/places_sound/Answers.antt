-- `usb_place::places_sound` meets its contract. Assumes nothing.
use Rattle.std.proofs.Common.{rules, tests, ◌∙◌, refl, arith}
use Rattle.std.proofs.lemmas.Iterator.{YieldsList-from_range}
use Rattle.std.proofs.lemmas.Iterator.Search.{all_from_yields_List}
use Rattle.usb_place.specs.Test.{used_sound}
use Rattle.usb_place.proofs.Steps.{every_by}
use Rattle.usb_place.proofs.places_sound.Goals as goal

pub returns : goal.returns
returns c =
    all_from_yields_List (used_sound c.args.store.now) _ _ _ c.all.ensures.ran
    (YieldsList-from_range 0 c.args.n c.args.n refl (omega arith)) (λ x b q k. search (rules, tests))
    ∙ every_by _ 0 _
