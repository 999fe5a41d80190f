use Rattle.std.proofs.Common.{◌≡◌, ◌+◌, length, drop}
use Rattle.reader.specs.Text.{before}
use Rattle.lines.proofs.text.piece_end.Given as goal

abbrev pub invariant-loop-i : goal.invariant-loop-i
invariant-loop-i l = length (before l.separator l.text) ≡ l.i + length (before l.separator (drop l.i l.text))
