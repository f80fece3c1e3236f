use Rattle.sequences.proofs.Stores.{begins}
use Rattle.sequences.proofs.store.begin.Goals as goal

pub returns-then-asked-eq1 : goal.returns-then-asked-eq1
returns-then-asked-eq1 c = begins _ _ _ c.if-asked-eq1.true c.requires (c.fill.ensures.after (λ y h. h))
