-- The index of a sort's names. Document 02: "256 slots a sort, the slot from .. FNV-1a .., then the next free slot, round past the end".
-- A slot is 0 where it is free, and a member's number and 1 where it is taken.
use Rattle.std.specs.Prelude.{◌≡◌, true, false, List, [], ◌∷◌, ℕ, zero, suc, ◌+◌, ◌%◌, ◌<◌, length, get_or, set, replicate}
use Rattle.std.proofs.Math.Option.{Option, none, some}
use Rattle.grammar.specs.Lookup.{same}
use Rattle.name_index.specs.Hash.{slot_of}

-- the k-th slot after slot i, round past the end
abbrev pub after : ℕ → ℕ → ℕ
after i k = (i + k) % 256

-- ---- the search for a name
pub record Searched : Type 0 where
  pub member : Option ℕ
  -- how many slots were read, the one that ended the search among them
  pub read : ℕ

-- from slot i on, k slots were read, and at most d are left: up to one that is free, or whose member has the name
unfoldable pub search_from : List ℕ → List (List ℕ) → List ℕ → ℕ → ℕ → ℕ → Searched
search_from slots names n i k zero = record { member = none; read = k }
search_from slots names n i k (suc d) =
    elim (get_or slots (after i k) 0) [
      | zero ↦ record { member = none; read = suc k }
      | suc m ↦ elim (same n (get_or names m [])) [ true ↦ record { member = some m; read = suc k } | false ↦ search_from slots names n i (suc k) d ]
    ]

unfoldable pub search : List ℕ → List (List ℕ) → List ℕ → Searched
search slots names n = search_from slots names n (slot_of n) 0 256

-- ---- the index is made by putting the names in, in file order

-- how far the first free slot is from slot i, of which k are taken, among the next d
unfoldable pub free_from : List ℕ → ℕ → ℕ → ℕ → ℕ
free_from slots i k zero = k
free_from slots i k (suc d) = elim (get_or slots (after i k) 0) [ zero ↦ k | suc m ↦ free_from slots i (suc k) d ]

unfoldable pub free_slot : List ℕ → List ℕ → ℕ
free_slot slots n = after (slot_of n) (free_from slots (slot_of n) 0 256)

-- the index with the name of member m
unfoldable pub put : List ℕ → List ℕ → ℕ → List ℕ
put slots n m = set slots (free_slot slots n) (suc m)

unfoldable pub index_from : List ℕ → ℕ → List (List ℕ) → List ℕ
index_from slots m [] = slots
index_from slots m (n ∷ ns) = index_from (put slots n m) (suc m) ns

unfoldable pub index : List (List ℕ) → List ℕ
index names = index_from (replicate 256 0) 0 names

-- a name looked up in the index of all names
unfoldable pub look_up : List (List ℕ) → List ℕ → Searched
look_up names n = search (index names) names n

-- no name stands twice
abbrev pub Distinct : List (List ℕ) → Type 0
Distinct names = (i j : ℕ) → i < length names → j < length names → get_or names i [] ≡ get_or names j [] → i ≡ j

-- the slots are the index of some names, which are distinct
pub record Indexed (slots : List ℕ) (names : List (List ℕ)) : Type 0 where
  pub made : slots ≡ index names
  pub distinct : Distinct names
