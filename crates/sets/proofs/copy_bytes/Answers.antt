-- `sets::copy_bytes` meets its contract.
use mathlib.Core.Path.{refl}
use native.Mathlib.Omega.{arith}
use lib.ListN.{get_or}
use lib.Seq.{ext_get_or}
use Rattle.sets.proofs.Bytes.{none_written, more_written}
use Rattle.sets.proofs.copy_bytes.Goals as goal

pub loop-x-init : goal.loop-x-init
loop-x-init c = none_written _ _

pub loop-x-preserved : goal.loop-x-preserved
loop-x-preserved c = more_written _ _ c.loop-x.x c.loop-x.to c.loop-x.invariant _ (omega arith) refl

pub returns : goal.returns
returns c = ext_get_or 0 c.loop-x.to c.args.from.now (omega arith) (λ i k. c.loop-x.invariant.done i (omega arith))
