-- What a call and a walk leave, and signed numbers that are compared by their bits, over plain values. Assumes nothing.
use Rattle.std.proofs.Common.{◌≡◌, ℕ, List, Bool, true, false, nat_eq, refl, sym, ap, ◌∙◌, ℤ, pos, negsuc}
use Rattle.std.specs.Int.{w32, cast_signed, cast_unsigned}
use borrow.Author.Tests.{eq-eqb, ne_eqb, eqb-true, eqb-false}
use Rattle.usb_types.specs.Numbers.{same_int}
use Rattle.usb_model.specs.Entry.{Left, configuration_walk}
use Rattle.usb_entry.specs.declared.reply.Reply.{Reply}
use Rattle.usb_entry.specs.Replies.{lent, left, walk_left}
use Rattle.sequences.specs.Stores.{store_before, old_store, store_after}
use Rattle.recorded.specs.declared.head.Asked.{Asked}
use Rattle.recorded.specs.declared.head.Recorded.{Recorded}
use Rattle.recorded.specs.declared.head.RecordedWalk.{RecordedWalk}
use Rattle.replays.specs.Replays.{Replays, entry_point, filled, replayed, agrees, walked}

same_self : (x : ℤ) → same_int x x ≡ true
unfolding same_int
same_self (pos m) = eq-eqb m m refl
same_self (negsuc m) = eq-eqb m m refl

other_int : (x y : ℤ) → (x ≡ y → ⊥) → same_int x y ≡ false
unfolding same_int
other_int (pos m) (pos n) h = ne_eqb m n (λ e. h (ap pos e))
other_int (negsuc m) (negsuc n) h = ne_eqb m n (λ e. h (ap negsuc e))
other_int (pos m) (negsuc n) h = refl
other_int (negsuc m) (pos n) h = refl

pub same_bits : (x y : ℤ) → cast_signed w32 (cast_unsigned w32 x) ≡ x → cast_signed w32 (cast_unsigned w32 y) ≡ y
    → same_int x y ≡ nat_eq (cast_unsigned w32 x) (cast_unsigned w32 y)
same_bits x y p q = go (nat_eq (cast_unsigned w32 x) (cast_unsigned w32 y)) refl
  where
    go : (b : Bool) → nat_eq (cast_unsigned w32 x) (cast_unsigned w32 y) ≡ b → same_int x y ≡ b
    go true e =
        let same : x ≡ y = sym p ∙ ap (cast_signed w32) (eqb-true _ _ e) ∙ q in
        ap (λ (z : ℤ). same_int x z) (sym same) ∙ same_self x
    go false e = other_int x y (λ s. eqb-false _ _ e (ap (cast_unsigned w32) s))

pub walked_by : (recorded : RecordedWalk) (descriptors kept kept' : List ℕ) (answer : ℤ) → kept ≡ filled recorded.record_len
    → walk_left answer kept' ≡ configuration_walk descriptors kept → walk_left answer kept' ≡ walked recorded descriptors
unfolding walked
walked_by recorded descriptors kept kept' answer r w = w ∙ ap (configuration_walk descriptors) r

module _ (asked : Asked) (recorded : Recorded) (edits outcomes s s' s'' old new new' log log' : List ℕ) (r : Reply) (ok : Bool)
    (before : s' ≡ store_before asked s)
    (o : old ≡ old_store asked edits s') (n : new ≡ filled asked.new_len) (l : log ≡ filled asked.log_len)
    (call : left r new' log' ≡ entry_point asked.entry asked.first asked.second (lent old new outcomes log))
    (after : s'' ≡ store_after asked new' s')
    (says : ok ≡ agrees recorded (left r new' log')) where
  whole : left r new' log' ≡ replayed asked edits outcomes s
  unfolding replayed
  whole = call ∙ cc

  pub replays_by : Replays asked recorded edits outcomes s ok s''
  replays_by = record {
    says = says ∙ ap (agrees recorded) whole;
    after = after ∙ ap (λ (k : Left). store_after asked k.new s') whole ∙ ap (store_after asked (replayed asked edits outcomes s).new) before;
  }
