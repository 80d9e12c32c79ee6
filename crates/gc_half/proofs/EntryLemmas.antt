-- What the functions of entries need: the colour of a label, and zero labels read from the garbling.
use Rattle.std.proofs.lemmas.Option.{gets}
use Rattle.gc_half.proofs.HalfGateLaw.{colour-encode}

pub ruleset entries = (colour-encode, gets)
