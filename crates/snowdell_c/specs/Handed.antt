-- The numbers that a call hands over in a slice, and the one that it returns.
use Rattle.std.specs.Prelude.{cond, List, [], ◌∷◌, ℕ, leb, length, get_or}
use Rattle.algebra.specs.Bytes.{written}
use Rattle.engine.specs.Calls.{Checked, Composed, Decided}

-- the numbers first and the rest unchanged; nothing where the slice is too short
unfoldable pub handed : List ℕ → List ℕ → List ℕ
handed ns l = cond (leb (length ns) (length l)) (written ns l) l

-- what a call returns where the slice is too short; no refusal has this number
abbrev pub no_room : ℕ
no_room = 256

-- what a call returns: the first of its numbers, 0 or the refusal's
unfoldable pub returned : List ℕ → List ℕ → ℕ
returned ns l = cond (leb (length ns) (length l)) (get_or ns 0 0) no_room

-- the library's version as a number: major × 10,000 + minor × 100 + patch
abbrev pub version : ℕ
version = 200

abbrev pub check_numbers : Checked → List ℕ
check_numbers r = r.number ∷ r.line ∷ r.place ∷ r.subjects ∷ r.objects ∷ r.actions ∷ []

abbrev pub compose_numbers : Composed → List ℕ
compose_numbers r = r.number ∷ r.line ∷ r.place ∷ r.accesses ∷ r.permits ∷ r.undecided ∷ r.rounds ∷ []

abbrev pub decide_numbers : Decided → List ℕ
decide_numbers r = r.number ∷ r.line ∷ r.place ∷ r.answer ∷ r.rounds ∷ []

-- what a buffer becomes where there is room for k numbers; else it stays
unfoldable pub where_room : ℕ → List ℕ → List ℕ → List ℕ → List ℕ
where_room k numbers next now = cond (leb k (length numbers)) next now
