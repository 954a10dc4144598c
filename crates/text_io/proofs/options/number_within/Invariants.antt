use Rattle.std.{proofs.Common.{◌≡◌, ◌<◌, ◌^◌, drop}, specs.Str.{all_ascii_digits, Parse.{digits_value, digits_value_after}}}
use Rattle.text_io.proofs.options.number_within.Given as goal

abbrev pub invariant-loop-byte : goal.invariant-loop-byte
invariant-loop-byte l = record {
  small : l.number < 10 ^ l.byte-index;
  digits : all_ascii_digits l.bytes ≡ all_ascii_digits (drop l.byte-index l.bytes);
  value : digits_value 10 l.bytes ≡ digits_value_after 10 l.number (drop l.byte-index l.bytes);
}
