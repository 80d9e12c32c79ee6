use Rattle.gc_tokens.proofs.Names.{◌≡◌, ◌^◌, ◌<◌, take, true, list_all, is_digit, value_of}
use Rattle.gc_tokens.proofs.number.short_number.Given as goal

abbrev pub invariant-loop-i : goal.invariant-loop-i
invariant-loop-i l = record {
  value : l.value ≡ value_of (take l.i l.text);
  small : l.value < 10 ^ l.i;
  fits : l.i < 9 → l.value < 10 ^ 8;
  digits : list_all is_digit (take l.i l.text) ≡ true;
}
