-- `running::tables_here` meets its contract: after so many turns so many tables have their flags.
use mathlib.Core.Path.{◌≡◌}
use Rattle.std.proofs.Common.{ℕ, ◌<◌, get_or, length, false}
use Rattle.name_index.specs.Entries.{tags_of}
use Rattle.running.proofs.tables_here.Given as goal

abbrev pub invariant-loop-i : goal.invariant-loop-i
invariant-loop-i l = (length l.here ≡ 16) × ((k : ℕ) → k < l.i → get_or l.here k false ≡ get_or (tags_of l.tables) k false)
