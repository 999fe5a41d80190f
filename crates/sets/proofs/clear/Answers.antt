-- `sets::clear` meets its contract.
use mathlib.Core.Path.{ap, ◌∙◌}
use mathlib.Core.List.{◌++◌}
use native.Mathlib.Omega.{arith}
use lib.ListN.{drop, replicate}
use lib.Seq.{length-take-le}
use Rattle.algebra.specs.Bytes.{cleared}
use Rattle.sets.proofs.clear.Goals as goal

pub returns : goal.returns
unfolding cleared
returns c =
    let w = c.args.w.now in
    ap (λ bs. bs ++ drop 65536 w) (c.fill.ensures.after (λ y e. e) ∙ ap (λ n. replicate n 0) (length-take-le 65536 w (omega arith)))
