-- Values of FNV-1a in 32 bits, and an index whose names meet at the last slot, computed from the definitions. Assumes nothing.
use mathlib.Core.Path.{◌≡◌, refl}
use mathlib.Core.List.{List, [], ◌∷◌, ◌++◌, map}
use mathlib.Core.Option.{none, some}
use Prim.Native.Nat.{ℕ}
use Prim.Native.String.{String}
use lib.ListN.{take, drop}
use Rattle.grammar.specs.Lookup.{same}
use Rattle.grammar.specs.Text.{text}
use Rattle.name_index.specs.Hash.{fnv_step, fnv_from, fnv, slot_of}
use Rattle.name_index.specs.Index.{Searched, search_from, search, free_from, free_slot, put, index_from, index, look_up}

hashes : List String → List ℕ
unfolding fnv fnv_from fnv_step
hashes l = map (λ (t : String). fnv (text t)) l

-- the test table of Go's standard library, golden32a of its package hash/fnv
published : hashes ("" ∷ "a" ∷ "ab" ∷ "abc" ∷ []) ≡ 0x811c9dc5 ∷ 0xe40c292c ∷ 0x4d2505ca ∷ 0x1a47e90b ∷ []
unfolding hashes
published = refl

-- the separate evaluator's: `evaluator fnv TEXT`
evaluated : hashes ("b" ∷ "foobar" ∷ "ward" ∷ "kitchen" ∷ "wk3" ∷ "read" ∷ "write" ∷ "abcdefghijklmnopqrstuvwx" ∷ []) ≡
    0xe70c2de5 ∷ 0xbf9cf968 ∷ 0x7afa5b33 ∷ 0x33e6572f ∷ 0x56f2313c ∷ 0xcedfa3c5 ∷ 0xbe269f5c ∷ 0x374069fd ∷ []
unfolding hashes
evaluated = refl

-- four names that meet round slot 255: the first, the second and the last have that slot, the third has slot 0
filled : drop 254 (index (map text ("c7" ∷ "h2" ∷ "n1" ∷ "q9" ∷ []))) ++ take 4 (index (map text ("c7" ∷ "h2" ∷ "n1" ∷ "q9" ∷ []))) ≡ 0 ∷ 1 ∷ 2 ∷ 3 ∷ 4 ∷ 0 ∷ []
unfolding index index_from put free_slot free_from slot_of fnv fnv_from fnv_step
filled = refl

-- lookups among some names
lookups : List String → List String → List Searched
unfolding look_up index index_from put free_slot free_from search search_from slot_of fnv fnv_from fnv_step same
lookups names l = map (λ (t : String). look_up (map text names) (text t)) l

abbrev hit : ℕ → ℕ → Searched
hit m k = record { member = some m; read = k }

abbrev nobody : ℕ → Searched
nobody k = record { member = none; read = k }

-- names that all have slot 255, the last of them nobody's
round_the_end : lookups ("c7" ∷ "gc" ∷ "h2" ∷ []) ("c7" ∷ "gc" ∷ "h2" ∷ "ln" ∷ []) ≡ hit 0 1 ∷ hit 1 2 ∷ hit 2 3 ∷ nobody 4 ∷ []
unfolding lookups
round_the_end = refl

-- the same names in another order, and one that has a slot of its own
by_file_order : lookups ("h2" ∷ "c7" ∷ "gc" ∷ []) ("h2" ∷ "c7" ∷ "gc" ∷ "y" ∷ []) ≡ hit 0 1 ∷ hit 1 2 ∷ hit 2 3 ∷ nobody 1 ∷ []
unfolding lookups
by_file_order = refl

-- texts that are no names: no byte at all begins at the slot of ak
no_names : lookups ("ak" ∷ []) ("" ∷ "ak" ∷ "b" ∷ "s" ∷ []) ≡ nobody 2 ∷ hit 0 1 ∷ nobody 1 ∷ nobody 1 ∷ []
unfolding lookups
no_names = refl
