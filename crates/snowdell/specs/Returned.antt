-- What Check returns, as its definition has it.
use Rattle.std.specs.Prelude.{Result, Ok, Err}
use Rattle.algebra.specs.declared.Counts.{Counts}
use Rattle.rows.specs.First.{number_of}
use Rattle.rows.specs.declared.Refused.{Refused}
use Rattle.engine.specs.Calls as Calls

abbrev pub checked_of : Result Counts Refused → Calls.Checked
checked_of (Ok n) = record { number = 0; line = 0; place = 0; subjects = n.subjects; objects = n.objects; actions = n.actions }
checked_of (Err e) = record { number = number_of e.refusal; line = e.line; place = e.place; subjects = 0; objects = 0; actions = 0 }
