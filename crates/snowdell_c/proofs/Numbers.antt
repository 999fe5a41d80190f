-- The numbers of a call as its export lists them.
use mathlib.Core.Path.{◌≡◌, ap, ◌∙◌}
use mathlib.Core.List.{List}
use Prim.Native.Nat.{ℕ, ◌≤◌, ◌<◌}
use lib.ListN.{length, get_or}
use borrow.Author.Tests.{le-leb, lt-leb}
use Rattle.snowdell_c.specs.Handed.{handed, returned, no_room, where_room}

-- ---- the number returned

pub returns_first : (ns l : List ℕ) → length ns ≤ length l → get_or ns 0 0 ≡ returned ns l
unfolding returned
returns_first ns l h = rw (le-leb (length ns) (length l) h)

pub returns_no_room : (ns l : List ℕ) → length l < length ns → no_room ≡ returned ns l
unfolding returned
returns_no_room ns l h = rw (lt-leb (length ns) (length l) h)

-- ---- buffers

pub room_yes : (k : ℕ) (numbers next now : List ℕ) → k ≤ length numbers → next ≡ where_room k numbers next now
unfolding where_room
room_yes k numbers next now h = rw (le-leb k (length numbers) h)

pub room_no : (k : ℕ) (numbers next now : List ℕ) → length numbers < k → now ≡ where_room k numbers next now
unfolding where_room
room_no k numbers next now h = rw (lt-leb k (length numbers) h)

-- ---- the numbers of a call

pub listed : (ns ms l l' : List ℕ) → ns ≡ ms → length ms ≤ length l → l' ≡ handed ns l → (get_or ns 0 0 ≡ returned ms l) × (l' ≡ handed ms l)
listed ns ms l l' e room h = (ap (λ (x : List ℕ). get_or x 0 0) e ∙ returns_first ms l room, h ∙ ap (λ (x : List ℕ). handed x l) e)
