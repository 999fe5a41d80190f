use mathlib.Core.Path.{ap, ◌∙◌}
use native.Mathlib.Omega.{arith}
use Rattle.composing.specs.Composition.{composed_of}
use Rattle.composing.proofs.Composing.{short_result, short_memory}
use Rattle.snowdell.proofs.Promises.{compose_promises}
use Rattle.snowdell.proofs.compose.Goals as goal
use Rattle.snowdell.proofs.compose.Goals.{then-short-via-then-short, then-short-via-else-short+then-w-lt65536}

pub returns-then-short-clause-w_after : goal.returns-then-short-clause-w_after
returns-then-short-clause-w_after c =
    elim c.then-short.branch [
      | then-short-via-then-short w ↦ short_result _ _ _ (omega (arith, w.if-short.true))
      | then-short-via-else-short+then-w-lt65536 w ↦ short_memory _ _ _ w.if-w-lt65536.true
    ]

pub returns-clause-promised : goal.returns-clause-promised
returns-clause-promised c =
    let within = c.compose_within-composed in
    (compose_promises c.args.f.now c.args.res.now c.args.w.now within.result within.new.res c.clear.new.w
    (ap (composed_of within.result _) (c.clear.ensures ∙ within.ensures.w_unchanged) ∙ within.ensures.w_after)).1
