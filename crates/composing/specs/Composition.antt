-- What Compose returns, with the bytes lent as they are afterwards, as its definition has it.
use Rattle.std.specs.Prelude.{List, ℕ, Result, Ok, Err}
use Rattle.rows.specs.First.{number_of}
use Rattle.rows.specs.declared.Refused.{Refused}
use Rattle.engine.specs.Calls as Calls
use Rattle.composing.specs.declared.Composed.{Composed}

abbrev pub composed_of : Result Composed Refused → List ℕ → List ℕ → Calls.Composed
composed_of (Ok r) result memory =
    record {
      number = 0;
      line = 0;
      place = 0;
      accesses = r.accesses;
      permits = r.permits;
      undecided = r.undecided;
      rounds = r.rounds;
      result = result;
      memory = memory;
    }
composed_of (Err e) result memory = Calls.unchanged (number_of e.refusal) e.line e.place result memory
