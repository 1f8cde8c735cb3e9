use Rattle.std.proofs.Common.{◌≡◌, ◌-◌, ◌≤◌, ◌<◌, ◌^◌, true, take}
use Rattle.std.specs.Char.{is_ascii_digit}
use Rattle.std.specs.List.{list_all}
use Rattle.std.specs.Str.Parse.{digits_value}
use Rattle.recordings.proofs.frequent_lines.split_number.Given as goal

abbrev pub invariant-loop-count : goal.invariant-loop-count
invariant-loop-count l = record {
  some : 1 ≤ l.count;
  inside : l.count ≤ l.most;
  digits : list_all is_ascii_digit (take l.count l.text) ≡ true;
  read : l.number ≡ digits_value 10 (take l.count l.text);
  small : l.number < 10 ^ l.count;
}

abbrev pub decreases-loop-count : goal.decreases-loop-count
decreases-loop-count l = l.most - l.count
