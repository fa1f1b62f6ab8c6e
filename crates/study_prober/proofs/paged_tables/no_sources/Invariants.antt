use Rattle.std.proofs.Common.{◌≡◌, ◌≤◌, ◌-◌, None}
use Rattle.std.specs.Prelude.{replicate, vec_capacity, vec_len}
use Rattle.study_prober.proofs.paged_tables.no_sources.Given as goal

abbrev pub invariant-loop-places : goal.invariant-loop-places
invariant-loop-places g l = record {
  empty : l.places.items ≡ replicate (vec_len l.places) None;
  few : vec_len l.places ≤ 36;
  room : 36 ≤ vec_capacity l.places;
}

abbrev pub decreases-loop-places : goal.decreases-loop-places
decreases-loop-places g l = 36 - vec_len l.places
