-- The verdict on a call that names a hub, and the test of the child or the port, which comes last. Assumes nothing.
use Rattle.std.specs.Prelude.{◌≡◌, Bool, true, false, ◌||◌, ℕ, Result, Err, refl, IsErr, IsErrAnd}
use Rattle.std.proofs.Common.{ap, ◌∙◌}
use Rattle.std.proofs.lemmas.Result.{err_from_is_err_and}
use Rattle.usb_types.specs.declared.types.Refusal.{Refusal}
use Rattle.usb_types.specs.declared.types.Refusal.TheVariants.{BadArgument, StoreDamaged}
use Rattle.usb_model.specs.Entry.{Lent, accepted, refused, refused_if, ◌else_if◌, wrong_length, damaged, no_hub, hub_verdict}
use Rattle.usb_entry.specs.Replies.{told}

module _ (l : Lent) (hub : ℕ) (bad : Bool) where
  last_test : (hub_verdict l hub false else_if refused_if bad BadArgument) ≡ hub_verdict l hub bad
  unfolding hub_verdict
  last_test = go (wrong_length l) (damaged l) (no_hub l hub) bad
    where
      go : (a b c d : Bool)
          → ((refused_if a BadArgument else_if refused_if b StoreDamaged else_if refused_if (c || false) BadArgument) else_if refused_if d BadArgument)
          ≡ (refused_if a BadArgument else_if refused_if b StoreDamaged else_if refused_if (c || d) BadArgument)
      go true b c d = refl
      go false true c d = refl
      go false false true d = refl
      go false false false d = refl

  -- r is the exit of a `?`
  pub refused_before : {f : Refusal} (r : Result (Unit {0}) Refusal) → refused f ≡ hub_verdict l hub false
      → IsErr r × IsErrAnd r (λ g. g ≡ f) → told r ≡ hub_verdict l hub bad
  refused_before r e x =
      let p = err_from_is_err_and r x.1 in
      ap told (p.1 ∙ ap Err p.2) ∙ ap (λ v. v else_if refused_if bad BadArgument) e ∙ last_test

  pub tested : accepted ≡ hub_verdict l hub false → (b : Bool) → bad ≡ b → refused_if b BadArgument ≡ hub_verdict l hub bad
  tested e b t = rw (← t) (ap (λ v. v else_if refused_if bad BadArgument) e ∙ last_test)
