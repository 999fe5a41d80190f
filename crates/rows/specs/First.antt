-- The numbers of the refusals, and the order of the rows 4, 8, 7 and 5 of the table of refusals.
use Rattle.std.specs.Prelude.{Bool, [], ◌∷◌, ℕ, Result, Ok, Err}
use Rattle.reader.specs.Rows.{Verdict, good, refuse, row, placeless, first}
use Rattle.rows.specs.declared.Refusal.{Refusal}
use Rattle.rows.specs.declared.Refusal.TheVariants.{
  ShortBuffer,
  NoFile,
  Malformed,
  OutOfOrder,
  DeclaredTwice,
  Undeclared,
  TooMany,
  BadCounts,
  NoExpression,
  GrantAway,
  TwoSorts,
  WrongExpression,
  UndeclaredThere,
  TooLarge,
  UndeclaredAsked,
  TooManyBindings,
}

-- the number of a row
abbrev pub number_of : Refusal → ℕ
number_of ShortBuffer = 1
number_of NoFile = 2
number_of Malformed = 3
number_of OutOfOrder = 4
number_of DeclaredTwice = 5
number_of Undeclared = 6
number_of TooMany = 7
number_of BadCounts = 8
number_of NoExpression = 9
number_of GrantAway = 10
number_of TwoSorts = 11
number_of WrongExpression = 12
number_of UndeclaredThere = 13
number_of TooLarge = 14
number_of UndeclaredAsked = 15
number_of TooManyBindings = 16

-- a line refused by a row without a place of its own
abbrev pub refusal_of : Refusal → Verdict
refusal_of r = refuse (number_of r) 0

-- what an answer of the code says of its line
abbrev pub verdict_of : {A : Type 0} → Result A Refusal → Verdict
verdict_of (Ok x) = good
verdict_of (Err r) = refusal_of r

-- the first of the four that is met
abbrev pub first_of : Bool → Bool → Bool → Bool → Verdict
first_of late counts many there = first (row 4 (placeless late) ∷ row 8 (placeless counts) ∷ row 7 (placeless many) ∷ row 5 (placeless there) ∷ [])
