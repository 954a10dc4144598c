use Rattle.std.{proofs.Common.{◌≡◌, ◌<◌, ◌^◌, drop}, specs.Str.{all_ascii_digits, Parse.digits_value_after}}
use Rattle.device_rows.specs.Record.{numeral}
use Rattle.device_rows.proofs.record.number_below_20.Given as goal

abbrev pub invariant-loop-place : goal.invariant-loop-place
invariant-loop-place l = record {
  small : l.number < 10 ^ l.place;
  tested : all_ascii_digits l.digits ≡ all_ascii_digits (drop l.place l.digits);
  value : numeral l.digits ≡ digits_value_after 10 l.number (drop l.place l.digits);
}
