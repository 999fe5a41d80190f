-- A G line with the state and the lent memory after it.
use Rattle.std.specs.Prelude as rust
use mathlib.Core.Path.{◌≡◌, refl, ◌∙◌}
use mathlib.Core.Bool.{Bool, true, false, not, ◌&&◌}
use mathlib.Core.List.{List}
use mathlib.Core.Option.{Option, none, some}
use Prim.Native.Nat.{ℕ, ◌+◌, ◌*◌, ◌/◌, ◌%◌, ◌<◌}
use native.Mathlib.Omega.{arith}
use lib.ListN.{length, set, drop}
use lib.Seq.{drop-set-lt}
use Rattle.grammar.specs.Lookup.{found, place}
use Rattle.grammar.proofs.Lookup.{position_lt}
use Rattle.reader.specs.Line.{Line, grant_line}
use Rattle.reader.specs.Declarations.{Declared, table_at, group_of}
use Rattle.reader.specs.Rows.{not_declared}
use Rattle.reader.specs.File.{add}
use Rattle.reader.proofs.Rows.{good_rows}
use Rattle.state.specs.Standing.{Stands, granted_of, grant_written}
use Rattle.state.specs.Judged.{GrantJudged}
use Rattle.state.specs.declared.State.{State}
use Rattle.state.proofs.Lines.{few_after}
use Rattle.state.proofs.Granting.{grant_added}

module _ {A K : ℕ} (w : List ℕ) (st : State A K) (d : Declared) (S : Stands w st d) (t s o a : List ℕ) (g : ℕ) (J : GrantJudged d t s o a (rust.Ok g)) where
  abbrev l : Line
  l = grant_line t s o a

  -- its table is declared
  in_tables : place (table_at d.tables t) < length d.tables
  unfolding not_declared found place table_at
  in_tables = go (table_at d.tables t) refl (there (found (table_at d.tables t)) _ (good_rows d l J.0).row_6)
    where
      there : (b c : Bool) → not (b && c) ≡ false → b ≡ true
      there true c q = refl
      there false c q = cc

      go : (x : Option ℕ) → table_at d.tables t ≡ x → found x ≡ true → place x < length d.tables
      go none q h = absurd (let z : ◌≡◌ {A = ℕ} 0 1 = cc in omega arith)
      go (some i) q h = position_lt _ d.tables i q

  pub grant_stands : 2 * st.grants + 1 < length w → Stands (grant_written w st.grants g) (granted_of st) (add d l)
  unfolding group_of
  grant_stands fits = grant_added w st d S t s o a g fits J.1 J.2 in_tables (few_after w st d S l J.0 (omega arith))

-- the bytes after the grants stay, with one grant more
pub beyond_more : (w : List ℕ) (n g : ℕ) → drop (2 * (n + 1)) (grant_written w n g) ≡ drop (2 * (n + 1)) w
unfolding grant_written
beyond_more w n g =
    drop-set-lt (2 * (n + 1)) (set w (2 * n) (g % 256)) (2 * n + 1) (g / 256) (omega arith) ∙ drop-set-lt (2 * (n + 1)) w (2 * n) (g % 256) (omega arith)
