use Rattle.std.proofs.Common.{◌≡◌, true, take}
use Rattle.grammar.specs.Name.{are_name_bytes_lem}
use Rattle.lines.proofs.text.name_end.Given as goal

abbrev pub invariant-loop-i : goal.invariant-loop-i
invariant-loop-i l = are_name_bytes_lem (take l.i l.text) ≡ true
