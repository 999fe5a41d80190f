use Rattle.algebra.specs.Meant.{found_of}
use mathlib.Core.Path.{sym, ap, ◌∙◌}
use Rattle.deciding.proofs.Asking.{asked_all}
use Rattle.deciding.proofs.ask.Goals as goal

pub returns : goal.returns
returns c =
    let s = sym c.look.ensures ∙ ap found_of c.in-Some.is in
    let o = sym c.look-2.ensures ∙ ap found_of c.in-Some-look.is in
    let a = sym c.look-3.ensures ∙ ap found_of c.in-Some-look-2.is in
    asked_all _ _ _ _ _ _ _ s o a _ _ c.counts.ensures c.access.ensures.value
