-- `running::parents` meets its contract: after so many turns the parents of so many members are listed.
use mathlib.Core.Path.{◌≡◌}
use lib.ListN.{take}
use Rattle.name_index.specs.Entries.{tags_of}
use Rattle.running.proofs.parents.Given as goal

abbrev pub invariant-loop-member : goal.invariant-loop-member
invariant-loop-member l = l.parents.items ≡ tags_of (take l.member-index l.members)
