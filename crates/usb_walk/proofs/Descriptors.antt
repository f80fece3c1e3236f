-- The ways through a descriptor of each kind, over plain values. Assumes nothing.
use mathlib.Core.Path.{◌≡◌, sym, ap, ◌∙◌}
use mathlib.Core.Bool.{Bool, true, false}
use mathlib.Core.List.{List}
use Rattle.std.specs.Prelude.{None, Some, Ok, Err}
use Prim.Native.Nat.{ℕ, ◌+◌, ◌≤◌, ◌<◌}
use native.Mathlib.Omega.{arith}
use borrow.Author.Tests.{eqb-false, ltb-false, eq-eqb, ne_eqb, lt-ltb, le-ltb, le-leb, lt-leb}
use lib.Dec.{eqb}
use lib.ListN.{length, get_or, take}
use lib.Seq.{length-take-le}
use Rattle.usb_types.specs.Descriptors.{kind_of}
use Rattle.usb_types.specs.declared.types.ErrorCode.TheVariants.{Device, GarbledConfiguration}
use Rattle.usb_types.specs.declared.descriptors.DescriptorKind.{DescriptorKind}
use Rattle.usb_types.specs.declared.descriptors.DescriptorKind.TheVariants.{Interface, Endpoint, Other}
use Rattle.usb_store.specs.Access.{write}
use Rattle.usb_store.proofs.Writes.{length_write}
use Rattle.usb_model.specs.Programs.{Program, ◌>>=◌, ◌>>◌, return, skip, throw, look, change, when}
use Rattle.usb_model.specs.Walk.{Walk, max_interfaces, max_endpoints, interface_length, endpoint_length, interface_at, endpoint_at}
use Rattle.usb_model.specs.Walk.{interface_descriptor, endpoint_descriptor, whole, descriptor_of, descriptor}
use Rattle.usb_model.proofs.Accepted.{neither}
use Rattle.usb_walk.specs.declared.Last.{Last}
use Rattle.usb_walk.specs.Steps.{Next, cut_off, Ready, Goes}

module _ (d kept : List ℕ) (last : Last) (n : ℕ) (m : Program Walk Bool) where
  pub cut_short : cut_off d n ≡ true → Goes (whole n d >> m) d kept last kept (Err GarbledConfiguration)
  unfolding whole cut_off when throw ◌>>◌
  cut_short e = record { is = simp e; moves = tt }

pub not_cut : (d : List ℕ) (n : ℕ) → cut_off d n ≡ false → (0 < get_or d 0 0) × (n ≤ length d)
unfolding cut_off
not_cut d n e =
    let both = neither _ _ e in
    let some : get_or d 0 0 ≡ 0 → ⊥ = eqb-false _ _ both.0 in
    (omega arith, ltb-false _ _ both.1)

pub whole_long : (d : List ℕ) (n : ℕ) → cut_off d n ≡ false → length (take n d) ≡ n
whole_long d n e = length-take-le n d (not_cut d n e).1

-- ---- an interface

module _ (d kept : List ℕ) (last : Last) (ready : Ready kept last) (e : cut_off d interface_length ≡ false) (number : ℕ) (is : number ≡ get_or d 2 0) where
  pub interface_alternate : number ≡ last.interface
      → Goes (descriptor_of Interface d) d kept last kept (Ok (Some (record { interface = last.interface; endpoint = last.endpoint; is_alternate = true })))
  unfolding descriptor_of whole cut_off interface_descriptor when skip look change return ◌>>=◌ ◌>>◌
  interface_alternate same = record {
    is = simp (e, eq-eqb (get_or d 2 0) last.interface (sym is ∙ same));
    moves = (record { whole = ready.whole; interface = ready.interface }, (not_cut d interface_length e).0);
  }

  module _ (other : number ≡ last.interface → ⊥) where
    another : eqb (get_or d 2 0) last.interface ≡ false
    another = ne_eqb (get_or d 2 0) last.interface (λ same. other (is ∙ same))

    pub interface_high : max_interfaces ≤ number → Goes (descriptor_of Interface d) d kept last kept (Err GarbledConfiguration)
    unfolding descriptor_of whole cut_off interface_descriptor when skip throw look return ◌>>=◌ ◌>>◌
    interface_high h = record { is = simp (e, another, le-leb max_interfaces (get_or d 2 0) (omega arith)); moves = tt }

    pub interface_stored : number < max_interfaces → (after : List ℕ) → after ≡ write kept (interface_at number) (take interface_length d)
        → Goes (descriptor_of Interface d) d kept last after (Ok (Some (record { interface = number; endpoint = 0; is_alternate = false })))
    unfolding descriptor_of whole cut_off interface_descriptor when skip throw look change return ◌>>=◌ ◌>>◌
    interface_stored h after w = record {
      is = simp (e, another, lt-leb max_interfaces (get_or d 2 0) (omega arith), w, is);
      moves = (record { whole = ap length w ∙ simp length_write ready.whole; interface = omega arith }, (not_cut d interface_length e).0);
    }

-- ---- an endpoint

module _ (d kept : List ℕ) (last : Last) (ready : Ready kept last) (e : cut_off d endpoint_length ≡ false) where
  pub endpoint_skipped : last.is_alternate ≡ true → Goes (descriptor_of Endpoint d) d kept last kept (Ok (Some last))
  unfolding descriptor_of whole cut_off endpoint_descriptor when skip look return ◌>>=◌ ◌>>◌
  endpoint_skipped a = record { is = simp (e, a); moves = (ready, (not_cut d endpoint_length e).0) }

  module _ (a : last.is_alternate ≡ false) where
    pub no_interface : last.interface ≡ max_interfaces → Goes (descriptor_of Endpoint d) d kept last kept (Err Device)
    unfolding descriptor_of whole cut_off endpoint_descriptor when skip throw look return ◌>>=◌ ◌>>◌
    no_interface i = record { is = simp (e, a, eq-eqb last.interface max_interfaces i); moves = tt }

    module _ (i : last.interface ≡ max_interfaces → ⊥) (count : ℕ) (is : count ≡ get_or kept (interface_at last.interface + 4) 0) where
      pub count_reached : count ≤ last.endpoint → Goes (descriptor_of Endpoint d) d kept last kept (Err Device)
      unfolding descriptor_of whole cut_off endpoint_descriptor when skip throw look return ◌>>=◌ ◌>>◌
      count_reached h = record { is = simp (e, a, ne_eqb last.interface max_interfaces i, ← is, le-leb count last.endpoint h); moves = tt }

      module _ (more : last.endpoint < count) where
        pub seventeenth : max_endpoints ≤ last.endpoint → Goes (descriptor_of Endpoint d) d kept last kept (Err GarbledConfiguration)
        unfolding descriptor_of whole cut_off endpoint_descriptor when skip throw look return ◌>>=◌ ◌>>◌
        seventeenth h = record {
          is = simp (e, a, ne_eqb last.interface max_interfaces i, ← is, lt-leb count last.endpoint more, le-leb max_endpoints last.endpoint h);
          moves = tt;
        }

        pub endpoint_stored : last.endpoint < max_endpoints → (after : List ℕ)
            → after ≡ write kept (endpoint_at last.interface last.endpoint) (take endpoint_length d)
            → Goes (descriptor_of Endpoint d) d kept last after
            (Ok (Some (record { interface = last.interface; endpoint = last.endpoint + 1; is_alternate = last.is_alternate })))
        unfolding descriptor_of whole cut_off endpoint_descriptor when skip throw look change return ◌>>=◌ ◌>>◌
        endpoint_stored h after w = record {
          is = simp (e, a, ne_eqb last.interface max_interfaces i, ← is, lt-leb count last.endpoint more, lt-leb max_endpoints last.endpoint h, w);
          moves = (record { whole = ap length w ∙ simp length_write ready.whole; interface = ready.interface }, (not_cut d endpoint_length e).0);
        }

-- ---- a descriptor

module _ (d kept : List ℕ) (last : Last) where
  pub no_type : length d < 2 → Goes (descriptor d) d kept last kept (Err GarbledConfiguration)
  unfolding descriptor when throw ◌>>◌
  no_type h = record { is = simp (lt-ltb (length d) 2 h); moves = tt }

  pub by_kind : 2 ≤ length d → (kind : DescriptorKind) → kind ≡ kind_of (get_or d 1 0) → (after : List ℕ) (next : Next)
      → Goes (descriptor_of kind d) d kept last after next → Goes (descriptor d) d kept last after next
  unfolding descriptor when skip ◌>>◌
  by_kind h kind e after next g = record { is = simp (le-ltb (length d) 2 h, ← e) g.is; moves = g.moves }

  pub of_other_ends : get_or d 0 0 ≡ 0 → Goes (descriptor_of Other d) d kept last kept (Ok None)
  unfolding descriptor_of return
  of_other_ends z = record { is = simp (eq-eqb (get_or d 0 0) 0 z); moves = tt }

  pub of_other_goes : Ready kept last → (get_or d 0 0 ≡ 0 → ⊥) → Goes (descriptor_of Other d) d kept last kept (Ok (Some last))
  unfolding descriptor_of return
  of_other_goes ready z = record { is = simp (ne_eqb (get_or d 0 0) 0 z); moves = (ready, omega arith) }

  pub other_ends : 2 ≤ length d → Other ≡ kind_of (get_or d 1 0) → get_or d 0 0 ≡ 0 → Goes (descriptor d) d kept last kept (Ok None)
  other_ends h kind z = by_kind h Other kind kept (Ok None) (of_other_ends z)

  pub other_goes : 2 ≤ length d → Other ≡ kind_of (get_or d 1 0) → Ready kept last → (get_or d 0 0 ≡ 0 → ⊥)
      → Goes (descriptor d) d kept last kept (Ok (Some last))
  other_goes h kind ready z = by_kind h Other kind kept (Ok (Some last)) (of_other_goes ready z)

pub ruleset ways = (cut_short, not_cut, whole_long, interface_alternate, interface_high, interface_stored, endpoint_skipped, no_interface, count_reached, seventeenth, endpoint_stored, no_type, by_kind, other_ends, other_goes)
