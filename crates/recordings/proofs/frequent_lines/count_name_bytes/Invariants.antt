use Rattle.std.proofs.Common.{◌≡◌, ◌-◌, ◌≤◌, true, length, take}
use Rattle.std.specs.List.{list_all}
use Rattle.job_bodies.specs.WellFormed.{is_name_byte}
use Rattle.recordings.proofs.frequent_lines.count_name_bytes.Given as goal

abbrev pub invariant-loop-count : goal.invariant-loop-count
invariant-loop-count l = record {
  inside : l.count ≤ length l.text;
  names : list_all is_name_byte (take l.count l.text) ≡ true;
}

abbrev pub decreases-loop-count : goal.decreases-loop-count
decreases-loop-count l = length l.text - l.count
