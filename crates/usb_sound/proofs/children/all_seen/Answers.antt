-- `usb_sound::children::all_seen` meets its contract. Assumes nothing.
use Rattle.std.proofs.Common.{rules, tests, ◌∙◌, refl, ℕ, get_or, false}
use Rattle.std.proofs.lemmas.Iterator.{YieldsList-from_range}
use Rattle.std.proofs.lemmas.Iterator.Search.{all_from_yields_List}
use Rattle.usb_place.proofs.Steps.{every_by}
use Rattle.usb_sound.proofs.children.all_seen.Goals as goal

pub returns : goal.returns
returns c =
    all_from_yields_List (λ (p : ℕ). get_or c.args.seen.now p false) _ _ _ c.all.ensures.ran
    (YieldsList-from_range 1 c.args.n _ refl refl) (λ x b q k. search (rules, tests))
    ∙ every_by _ 1 _
