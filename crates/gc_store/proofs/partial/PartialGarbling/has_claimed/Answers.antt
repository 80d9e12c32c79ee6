use mathlib.Core.Logic.Iff
use Rattle.std.proofs.lemmas.Bool.Decides.{Decides-ltb}
use Rattle.gc_store.proofs.StepLemmas.{some_claimed}
use Rattle.gc_store.proofs.partial.PartialGarbling.has_claimed.Goals as goal

pub returns : goal.returns
returns g c = Iff.trans (Decides-ltb 0 c.claimed.result)
    (rw (← c.claimed.ensures) at (some_claimed c.args.self.now))
