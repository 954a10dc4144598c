use Rattle.std.{proofs.Common.{◌≡◌, ◌<◌, ◌≤◌, ◌^◌, true, take}, specs.Str.all_ascii_digits}
use Rattle.device_rows.specs.Record.{numeral}
use Rattle.device_rows.proofs.plain.number.Given as goal

abbrev pub invariant-loop-place : goal.invariant-loop-place
invariant-loop-place l = record {
  few : l.place ≤ 19;
  small : l.number < 10 ^ l.place;
  digits : all_ascii_digits (take l.place l.text) ≡ true;
  value : l.number ≡ numeral (take l.place l.text);
}
