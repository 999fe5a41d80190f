use mathlib.Core.Path.{◌≡◌, refl, ap, ◌∙◌}
use mathlib.Core.List.{List}
use Prim.Native.Nat.{ℕ}
use Rattle.std.specs.Prelude.{Result, Ok, Err}
use Rattle.rows.specs.declared.Refused.{Refused}
use Rattle.composing.specs.declared.Composed.{Composed}
use Rattle.composing.specs.Composition.{composed_of}
use Rattle.engine.specs.Calls as Calls
use Rattle.snowdell_c.specs.Handed.{compose_numbers}
use Rattle.snowdell_c.proofs.Handing.{hands_nothing}
use Rattle.snowdell_c.proofs.Numbers.{returns_no_room, room_yes, room_no, listed}
use Rattle.snowdell_c.proofs.snowdell_compose.Goals as goal

-- the bytes lent stand in what is returned, whatever the result is
result_of : (r : Result Composed Refused) (res w : List ℕ) → res ≡ (composed_of r res w).result
unfolding Calls.unchanged
result_of (Ok x) res w = refl
result_of (Err e) res w = refl

memory_of : (r : Result Composed Refused) (res w : List ℕ) → w ≡ (composed_of r res w).memory
unfolding Calls.unchanged
memory_of (Ok x) res w = refl
memory_of (Err e) res w = refl

pub returns-then-numbers-lt7-clause-value : goal.returns-then-numbers-lt7-clause-value
returns-then-numbers-lt7-clause-value c = returns_no_room _ _ c.if-numbers-lt7.true

pub returns-then-numbers-lt7-clause-numbers_after : goal.returns-then-numbers-lt7-clause-numbers_after
returns-then-numbers-lt7-clause-numbers_after c = hands_nothing _ _ c.if-numbers-lt7.true

pub returns-then-numbers-lt7-clause-res_after : goal.returns-then-numbers-lt7-clause-res_after
returns-then-numbers-lt7-clause-res_after c = room_no 7 _ _ _ c.if-numbers-lt7.true

pub returns-then-numbers-lt7-clause-w_after : goal.returns-then-numbers-lt7-clause-w_after
returns-then-numbers-lt7-clause-w_after c = room_no 7 _ _ _ c.if-numbers-lt7.true

pub returns-clause-value : goal.returns-clause-value
returns-clause-value c =
    (listed _ _ _ _ (c.compose_numbers-ns.ensures _ _ ∙ ap compose_numbers c.compose.ensures.w_after) c.if-numbers-lt7.false c.hand.ensures).0

pub returns-clause-numbers_after : goal.returns-clause-numbers_after
returns-clause-numbers_after c =
    (listed _ _ _ _ (c.compose_numbers-ns.ensures _ _ ∙ ap compose_numbers c.compose.ensures.w_after) c.if-numbers-lt7.false c.hand.ensures).1

pub returns-clause-res_after : goal.returns-clause-res_after
returns-clause-res_after c =
    result_of c.compose.result _ _ ∙ ap (λ (x : Calls.Composed). x.result) c.compose.ensures.w_after ∙ room_yes 7 _ _ _ c.if-numbers-lt7.false

pub returns-clause-w_after : goal.returns-clause-w_after
returns-clause-w_after c =
    memory_of c.compose.result _ _ ∙ ap (λ (x : Calls.Composed). x.memory) c.compose.ensures.w_after ∙ room_yes 7 _ _ _ c.if-numbers-lt7.false
