use Rattle.std.proofs.Common.{◌≡◌, ◌+◌, ◌^◌, ◌≤◌, drop}
use Rattle.lines.proofs.Names.{valued}
use Rattle.lines.proofs.text.number.Given as goal

abbrev pub invariant-loop-b : goal.invariant-loop-b
invariant-loop-b l = (valued l.n (drop l.b-index l.text) ≡ valued 0 l.text) × (l.n + 1 ≤ 10 ^ l.b-index)
