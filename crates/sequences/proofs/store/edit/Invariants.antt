-- The edits so far are put in.
use Rattle.std.proofs.Common.{◌≡◌, take}
use Rattle.std.specs.List.{fold}
use Rattle.sequences.specs.Stores.{put}
use Rattle.sequences.proofs.store.edit.Given as goal

abbrev pub invariant-loop-chunk : goal.invariant-loop-chunk
invariant-loop-chunk l = record { so_far : l.store ≡ fold put l.initial.store (take l.chunk-index l.chunk-items) }
