-- The definitions of attach, hub attach, port check and connection change as the code has them: lines under a name, then the rest.
-- Assumes nothing.
use mathlib.Core.Path.{refl}
use mathlib.Core.Bool.{Bool, true, false, ◌&&◌}
use Prim.Native.Nat.{ℕ}
use Rattle.usb_types.specs.Descriptors.{is_hub_class}
use Rattle.usb_store.specs.Layout.{interface_class_field, max_children_field}
use Rattle.usb_model.specs.Programs.{◌>>=◌, ◌>>◌, skip, look, attempt, ignore, when, each}
use Rattle.usb_model.specs.World.{M, get}
use Rattle.usb_model.specs.Features.{c_port_enable, bit}
use Rattle.usb_model.specs.Hub.{hub_port_connection_changed, hub_check_connection, hub_attach}
use Rattle.usb_model.specs.Attach.{usb_attach_device}
use Rattle.usb_transfer.proofs.Regroups.{Same, same, back, join, bind_next, bind_bind, next_next, next_bind, given}
use Rattle.usb_attach.specs.Parts.{default_state, addressed, described, enumerated}
use Rattle.usb_hub_attach.specs.Parts.{hub_described, hub_powered, hub_ready}
use Rattle.usb_child.specs.Parts.{start_change, no_new_device, reset_changed, place_child, new_child}
use Rattle.usb_check.specs.Parts.{clear_if, over_current, clear_changes, is_dropped, is_changed, start_check, end_check}

nothing : (p f : ℕ) (rest : M (Unit {0})) → Same (ignore skip >> (get p f >>= (λ v. skip >> rest))) (skip >> rest)
unfolding ignore attempt skip get look ◌>>=◌ ◌>>◌
nothing p f rest = record { is = λ w. refl }

-- a test on a byte that is read where b holds, as one test
enabled : (b : Bool) (m : M (Unit {0})) (p f : ℕ) (c : ℕ → Bool) (x rest : M (Unit {0}))
    → Same (ignore (when b m) >> (get p f >>= (λ v. when (b && c v) x >> rest))) (when b (ignore m >> (get p f >>= (λ v. when (c v) x))) >> rest)
unfolding when
enabled true m p f c x rest = back (next_next _ _ _ (bind_next _ _ _ (λ v. same _)))
enabled false m p f c x rest = nothing p f rest

module _ (attach : ℕ → M (Unit {0})) where
  -- ---- `usb_attach_device`

  pub attaches : (place : ℕ)
      → Same (enumerated place >> (get place interface_class_field >>= (λ class. when (is_hub_class class) (hub_attach attach place))))
      (usb_attach_device attach place)
  unfolding usb_attach_device enumerated default_state addressed described
  attaches place =
      bind_next _ _ _ (λ address. join (next_next _ _ _ (join (next_next _ _ _ (next_next _ _ _ (same _)))
      (bind_next _ _ _ (λ result. next_next _ _ _ (same _)))))
      (next_next _ _ _ (next_next _ _ _ (same _))))

  -- ---- `hub_attach`

  pub hub_attaches : (hub : ℕ)
      → Same (hub_ready hub >> (get hub max_children_field >>= (λ children. each children 0 (λ port. ignore (hub_check_connection attach hub port)))))
      (hub_attach attach hub)
  unfolding hub_attach hub_ready hub_described hub_powered
  hub_attaches hub =
      bind_next _ _ _ (λ count. next_next _ _ _ (bind_next _ _ _ (λ address. next_next _ _ _ (bind_next _ _ _ (λ attributes. next_next _ _ _ (
      join (next_next _ _ _ (next_next _ _ _ (next_next _ _ _ (same _))))
      (next_next _ _ _ (next_next _ _ _ (next_next _ _ _ (bind_next _ _ _ (λ ports. same _)))))))))))

  -- ---- `hub_port_connection_changed`

  pub changes : (hub port : ℕ) → Same (new_child hub port >>= attach) (hub_port_connection_changed attach hub port)
  unfolding hub_port_connection_changed new_child reset_changed start_change place_child no_new_device
  changes hub port =
      join (next_bind _ _ _ (bind_bind _ _ _ (λ place. join (next_bind _ _ _ (given _ _))
      (next_next _ _ _ (next_next _ _ _ (bind_next _ _ _ (λ status. next_next _ _ _ (next_next _ _ _ (same _)))))))))
      (join (next_next _ _ _ (bind_next _ _ _ (λ status. bind_next _ _ _ (λ child. next_next _ _ _ (next_next _ _ _ (same _))))))
      (next_next _ _ _ (next_next _ _ _ (next_next _ _ _ (same _)))))

  -- ---- `hub_check_connection`

  pub checks : (hub port : ℕ)
      → Same (start_check hub port >>= (λ due. when due.dropped (ignore (hub_port_connection_changed attach hub port))
      >> (when due.changed (ignore (hub_port_connection_changed attach hub port)) >> end_check hub port due.status)))
      (hub_check_connection attach hub port)
  unfolding hub_check_connection start_check clear_changes over_current clear_if end_check is_dropped is_changed
  checks hub port =
      bind_bind _ _ _ (λ before. next_bind _ _ _ (bind_bind _ _ _ (λ status. bind_bind _ _ _ (λ number.
      join (next_bind _ _ _ (bind_bind _ _ _ (λ child. given _ _)))
      (next_next _ _ _ (enabled (bit c_port_enable status) _ _ _ _ _ _))))))
