-- `composer::Setting::compose` meets its contract: the run of the whole tree.
use mathlib.Core.Path.{ap}
use lib.ListN.{length}
use native.Mathlib.Omega.{arith}
use Rattle.plans.proofs.Sets.{accesses_total}
use Rattle.composer.specs.Run.{table_in}
use Rattle.composer.proofs.Named.{unbound}
use Rattle.composer.proofs.Whole.{whole}
use Rattle.composer.proofs.Setting.compose.Goals as goal

pub returns : goal.returns
returns c P cp =
    let run = c.run in
    let a = c.args in
    let s = a.self.now in
    whole P s.counts a.w.now s.table.now a.nodes.now s.here s.grants s.rules.now s.limit cp run.result run.new.w run.auto.w c.requires.w_len
    (omega (arith, accesses_total P.frame s.counts s.table.now cp.frame.stands, s.ready.sized.few))
    (run.ensures.all_answered P.frame cp.frame (table_in s.here s.grants a.w.now) (unbound (ap length c.new.ensures)) P.tree 0 cp.nodes)
