-- The index as the code holds it: the entries of a sort's members, and what a lookup among them tells.
use Rattle.std.specs.Prelude.{◌≡◌, List, map, ℕ, suc, ◌≤◌, ◌<◌, length, get_or}
use Rattle.algebra.specs.Meant.{found_of}
use Rattle.grammar.specs.Lookup.{same, position}
use Rattle.name_index.specs.Index.{Searched, look_up}
use Rattle.name_index.specs.declared.Entry.{Entry}
use Rattle.name_index.specs.declared.Lookup.{Lookup}

-- the names of some entries
abbrev pub names_of : {T : Type 0} → List (Entry T) → List (List ℕ)
names_of {T} es = map (λ (e : Entry T). e.name.now) es

-- what else is held of them
abbrev pub tags_of : {T : Type 0} → List (Entry T) → List T
tags_of {T} es = map (λ (e : Entry T). e.tag) es

-- no slot has a member beyond so many
pub record Slots (slots : List ℕ) (count : ℕ) : Type 0 where
  pub known : (i : ℕ) → i < 256 → get_or slots i 0 ≤ count

abbrev pub looked_of : Lookup → Searched
looked_of l = record { member = found_of l.found; read = l.read }

-- what a lookup of the name n among some names tells. Document 02: "A lookup finds the member if and only if a walk along the members
-- would, and reads no more slots than there are members of the sort, plus one; its result carries that count, equal to the defined search's".
pub record LooksUp (names : List (List ℕ)) (n : List ℕ) (r : Lookup) : Type 0 where
  -- the member and the count of the defined search
  pub searched : looked_of r ≡ look_up names n
  -- the member is the one that a walk along the names finds
  pub walked : found_of r.found ≡ position (same n) names
  -- no more slots are read than there are names, plus one
  pub few_read : r.read ≤ suc (length names)
