-- The actions of a log, counted from its start, over plain values. Assumes nothing.
use mathlib.Core.Path.{◌≡◌, ap, ◌∙◌}
use mathlib.Core.List.{List}
use Prim.Native.Nat.{ℕ, ◌*◌, ◌/◌, ◌≤◌}
use native.Mathlib.Omega.{arith}
use lib.ListN.{length, take, replicate}
use Rattle.std.proofs.lemmas.List.Sums.{prefix_len-le-length}
use Rattle.std.specs.List.{prefix_len}
use Rattle.std.specs.Simd.{first_chunks}
use Rattle.usb_types.specs.Actions.{action_length}
use Rattle.usb_store.specs.Layout.{empty_store}
use Rattle.usb_model.specs.Entry.{Left, root_attach}
use Rattle.usb_entry.specs.declared.reply.Reply.{Reply}
use Rattle.usb_entry.specs.Replies.{lent, left}
use Rattle.busrun.specs.Run.{log_length, is_logged, actions_in, logged, attached, busrun}

-- the actions of a whole log
pub in_log : (log : List ℕ) (n : ℕ) (chunks : List (List ℕ)) → length log ≡ log_length → chunks ≡ first_chunks action_length (length log / 16) log
    → length chunks ≡ length log / 16 → n ≡ prefix_len is_logged chunks → (n ≡ actions_in 4096 log) × (n ≤ 4096)
unfolding actions_in
in_log log n chunks h c k e =
    let whole : length log / 16 ≡ 4096 = omega arith in (
      e ∙ ap (prefix_len is_logged) (c ∙ ap (λ (m : ℕ). first_chunks action_length m log) whole),
      omega (arith, prefix_len-le-length is_logged chunks),
    )

-- the log that a root attach on an empty store leaves
pub log_left : (outcomes log new log' : List ℕ) (r : Reply) → log ≡ replicate log_length 0
    → left r new log' ≡ root_attach 0 (lent empty_store empty_store outcomes log) → log' ≡ (attached outcomes).log
unfolding attached
log_left outcomes log new log' r e d =
    ap (λ (l : Left). l.log) d ∙ ap (λ (l : List ℕ). (root_attach 0 (lent empty_store empty_store outcomes l)).log) e

-- the bytes of its actions
pub written : (outcomes log' : List ℕ) (n : ℕ) → log' ≡ (attached outcomes).log → n ≡ actions_in 4096 log' → take (n * 16) log' ≡ busrun outcomes
unfolding busrun logged
written outcomes log' n e is = ap (λ (k : ℕ). take (k * 16) log') is ∙ ap logged e
