-- `larger::digest`: the digest stays below the modulus.
use Rattle.std.proofs.Common.{◌<◌}
use Rattle.larger.proofs.digest.Given as goal

abbrev pub invariant-loop-b : goal.invariant-loop-b
invariant-loop-b l = l.h < 4294967291
