use mathlib.Core.Path.{◌≡◌, refl, ap, ◌∙◌}
use Prim.Native.Nat.{ℕ}
use lib.Dec.{leb}
use Rattle.std.specs.Prelude as rust
use Rattle.algebra.specs.Meant.{found_of}
use Rattle.grammar.specs.Lookup.{found}
use Rattle.state.proofs.Names.{table_judged, table_room}
use Rattle.state.proofs.judge_table.Goals as goal

there : (o : rust.Option ℕ) → rust.is_some o ≡ found (found_of o)
unfolding found
there rust.None = refl
there (rust.Some x) = refl

pub returns-clause-judged : goal.returns-clause-judged
returns-clause-judged g c d h ns e =
    table_judged _ d ns _ c.counts.ensures _ e _ h _ _ _ _ c.late.ensures c.bad_counts.ensures (ap (leb 16) c.len.ensures.value)
    (c.is_some.ensures ∙ there _ ∙ ap found c.look-found.ensures) _ c.first_met.ensures

pub returns-clause-room : goal.returns-clause-room
returns-clause-room g c = table_room _ _ _ _ _ (ap (leb 16) c.len.ensures.value) _ c.first_met.ensures
