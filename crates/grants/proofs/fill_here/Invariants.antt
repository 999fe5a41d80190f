-- `grants::fill_here` meets its contract: after i turns the set is what the first i grants give the table.
use Rattle.grants.proofs.Grants.{Given}
use Rattle.grants.proofs.fill_here.Given as goal

abbrev pub invariant-loop-i : goal.invariant-loop-i
invariant-loop-i l = Given l.table l.i l.n l.fn.w l.set
