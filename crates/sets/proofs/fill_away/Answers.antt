-- `sets::fill_away` meets its contract.
use Prim.Native.Nat.{◌*◌}
use native.Mathlib.Omega.{arith}
use Rattle.sets.specs.Sets.{put_set}
use Rattle.sets.proofs.Bytes.{part_filled}
use Rattle.sets.proofs.fill_away.Goals as goal

pub returns : goal.returns
unfolding put_set
returns c = part_filled (c.args.k * 4096) _ c.args.n 1 _ c.args.w.now (omega arith) (omega arith) (c.fill.ensures.after (λ y e. e))
