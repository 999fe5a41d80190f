-- `sets::copy` meets its contract.
use mathlib.Core.Path.{ap₂, sym}
use mathlib.Core.List.{◌++◌}
use native.Mathlib.Omega.{arith}
use lib.ListN.{drop}
use lib.Seq.{length-take-le}
use Rattle.algebra.specs.Bytes.{written}
use Rattle.sets.proofs.copy.Goals as goal

pub returns : goal.returns
unfolding written
returns c =
    let a = c.args in
    ap₂ (λ bs n. bs ++ drop n a.r.now) c.copy_bytes.ensures (sym (length-take-le a.n a.s.now (omega arith)))
