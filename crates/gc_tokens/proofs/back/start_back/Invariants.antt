use Rattle.gc_tokens.proofs.Names.{◌≡◌, ◌<◌, ◌-◌, length, take, slice_index, false, tokens, is_blank}
use Rattle.gc_tokens.proofs.back.start_back.Given as goal

abbrev pub invariant-loop-i : goal.invariant-loop-i
invariant-loop-i l = record {
  within : l.at < length l.text;
  front : tokens (take l.at l.text) ≡ take (length (tokens l.text) - l._i) (tokens l.text);
  begins : is_blank (slice_index l.text l.at) ≡ false;
}
