-- Members are equal where their entries and slots are: what else is known of them has at most one proof. Assumes nothing.
use mathlib.Core.Path.{◌≡◌}
use mathlib.Core.HLevel.{is_prop→PathP}
use mathlib.Core.List.{List}
use Prim.Native.Nat.{ℕ, ◌≤◌}
use Rattle.std.specs.Coded.{le_prop}
use Rattle.std.proofs.Props.{props}
use lib.ListN.{length}
use Rattle.name_index.specs.Index.{Indexed}
use Rattle.name_index.specs.Entries.{names_of}
use Rattle.name_index.specs.declared.Members.{Members}

indexed_once : (slots : List ℕ) (names : List (List ℕ)) → IsProp (Indexed slots names)
indexed_once slots names = hlevel props

pub same_members : {N : ℕ} {a b : Members N} → a.entries ≡ b.entries → a.slots ≡ b.slots → a ≡ b
same_members {N} {a} {b} e s =
    λ i. record {
      entries = e i;
      slots = s i;
      few = le_prop a.few b.few i;
      fits = is_prop→PathP (λ j. length (e j).items ≤ N) (λ j. le_prop) a.fits b.fits i;
      indexed = is_prop→PathP (λ j. Indexed (s j) (names_of (e j).items)) (λ j. indexed_once (s j) (names_of (e j).items)) a.indexed b.indexed i;
    }
