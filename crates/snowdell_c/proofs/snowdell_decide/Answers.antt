use mathlib.Core.Path.{◌≡◌, refl, ap, ◌∙◌}
use mathlib.Core.List.{List}
use Prim.Native.Nat.{ℕ, ◌≤◌, ◌<◌}
use native.Mathlib.Omega.{arith}
use lib.ListN.{length}
use Rattle.std.specs.Prelude.{Result, Ok, Err}
use Rattle.rows.specs.declared.Refused.{Refused}
use Rattle.deciding.specs.declared.Decided.{Decided}
use Rattle.deciding.specs.Decision.{decided_of}
use Rattle.engine.specs.Calls as Calls
use Rattle.snowdell_c.specs.Handed.{decide_numbers}
use Rattle.snowdell_c.proofs.Handing.{hands_nothing}
use Rattle.snowdell_c.proofs.Numbers.{returns_no_room, room_yes, room_no, listed}
use Rattle.snowdell_c.proofs.snowdell_decide.Goals as goal

memory_of : (r : Result Decided Refused) (w : List ℕ) → w ≡ (decided_of r w).memory
unfolding Calls.undecided_by
memory_of (Ok x) w = refl
memory_of (Err e) w = refl

-- first of all: a call that runs without room for its numbers fails here
pub returns-clause-value : goal.returns-clause-value
returns-clause-value c =
    let room : 5 ≤ length c.args.numbers.now = omega (arith, c.if-short.false) in
    (listed _ _ _ _ (c.decide_numbers-ns.ensures _ ∙ ap decide_numbers c.decide.ensures.w_after) room c.hand.ensures).0

pub returns-clause-numbers_after : goal.returns-clause-numbers_after
returns-clause-numbers_after c =
    let room : 5 ≤ length c.args.numbers.now = omega (arith, c.if-short.false) in
    (listed _ _ _ _ (c.decide_numbers-ns.ensures _ ∙ ap decide_numbers c.decide.ensures.w_after) room c.hand.ensures).1

pub returns-clause-w_after : goal.returns-clause-w_after
returns-clause-w_after c =
    let room : 5 ≤ length c.args.numbers.now = omega (arith, c.if-short.false) in
    memory_of c.decide.result _ ∙ ap (λ (x : Calls.Decided). x.memory) c.decide.ensures.w_after ∙ room_yes 5 _ _ _ room

pub returns-then-short-clause-value : goal.returns-then-short-clause-value
returns-then-short-clause-value c =
    let t : length c.args.numbers.now < 5 = omega (arith, c.if-short.true) in
    returns_no_room _ _ t

pub returns-then-short-clause-numbers_after : goal.returns-then-short-clause-numbers_after
returns-then-short-clause-numbers_after c =
    let t : length c.args.numbers.now < 5 = omega (arith, c.if-short.true) in
    hands_nothing _ _ t

pub returns-then-short-clause-w_after : goal.returns-then-short-clause-w_after
returns-then-short-clause-w_after c =
    let t : length c.args.numbers.now < 5 = omega (arith, c.if-short.true) in
    room_no 5 _ _ _ t
