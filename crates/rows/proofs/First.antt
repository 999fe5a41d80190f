-- Of the rows 4, 8, 7 and 5, the one that a line meets.
use Rattle.std.proofs.Common.{◌≡◌, Bool, true, false}
use Rattle.reader.specs.Rows.{row, placeless, first}
use Rattle.rows.specs.First.{refusal_of, first_of}
use Rattle.rows.specs.declared.Refusal.TheVariants.{BadCounts}

-- bad counts, where the group has not passed
pub met_8 : (late counts many there : Bool) → late ≡ false → counts ≡ true → refusal_of BadCounts ≡ first_of late counts many there
unfolding first row placeless
met_8 late counts many there p q = rw (p, q)
