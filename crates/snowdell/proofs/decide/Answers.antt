use mathlib.Core.Path.{ap, ◌∙◌}
use Rattle.deciding.specs.Decision.{decided_of}
use Rattle.deciding.proofs.Deciding.{short_memory}
use Rattle.snowdell.proofs.Promises.{decide_promises}
use Rattle.snowdell.proofs.decide.Goals as goal

pub returns-then-w-lt65536-clause-w_after : goal.returns-then-w-lt65536-clause-w_after
returns-then-w-lt65536-clause-w_after c = short_memory _ _ _ _ _ c.if-w-lt65536.true

pub returns-clause-promised : goal.returns-clause-promised
returns-clause-promised c =
    let within = c.decide_within-decided in
    (decide_promises c.args.f.now c.args.s.now c.args.o.now c.args.a.now c.args.w.now within.result c.clear.new.w
    (ap (decided_of within.result) (c.clear.ensures ∙ within.ensures.w_unchanged) ∙ within.ensures.w_value)).1
