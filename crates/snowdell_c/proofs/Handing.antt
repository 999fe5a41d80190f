-- Numbers handed over one after the other.
use mathlib.Core.Path.{◌≡◌}
use mathlib.Core.List.{List}
use Prim.Native.Nat.{ℕ, ◌≤◌, ◌<◌}
use lib.ListN.{length}
use borrow.Author.Tests.{le-leb, lt-leb}
use Rattle.algebra.specs.Bytes.{written}
use Rattle.snowdell_c.specs.Handed.{handed}

pub hands : (ns l : List ℕ) → length ns ≤ length l → written ns l ≡ handed ns l
unfolding handed
hands ns l h = rw (le-leb (length ns) (length l) h)

pub hands_nothing : (ns l : List ℕ) → length l < length ns → l ≡ handed ns l
unfolding handed
hands_nothing ns l h = rw (lt-leb (length ns) (length l) h)
