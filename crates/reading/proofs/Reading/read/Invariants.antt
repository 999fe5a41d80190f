use Rattle.std.proofs.Common.{◌≡◌, ◌*◌, length, drop}
use Rattle.reading.proofs.Reached.{ReachedBy}
use Rattle.reading.proofs.Reading.read.Given as goal

abbrev pub invariant-loop-rest : goal.invariant-loop-rest
invariant-loop-rest l = record {
  room : length l.w ≡ length l.initial.w;
  lines_read : ReachedBy l.file l.w l.self l.rest l.line;
  beyond : drop (2 * l.self.state.grants) l.w ≡ drop (2 * l.self.state.grants) l.initial.w;
}

abbrev pub decreases-loop-rest : goal.decreases-loop-rest
decreases-loop-rest l = length l.rest
