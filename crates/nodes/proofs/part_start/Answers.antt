-- `nodes::part_start` meets its contract: from j, with so many trees left to pass, the walk ends where it ends from the last node with one left.
use mathlib.Core.Path.{◌≡◌, sym, ap, ◌∙◌}
use Prim.Native.Nat.{ℕ, ◌+◌, ◌-◌, ◌<◌, ◌≤◌}
use native.Mathlib.Omega.{arith}
use lib.ListN.{length, get_or}
use mathlib.Core.List.{List}
use Rattle.std.proofs.lemmas.List.{get_or_default}
use Rattle.algebra.specs.Nodes.{parts, back}
use Rattle.algebra.proofs.Nodes.{back_none, back_more, back_zero}
use Rattle.nodes.specs.Cells.{node_meant, label}
use Rattle.nodes.specs.declared.Node.{Node}
use Rattle.nodes.specs.declared.Node.TheVariants.{Table, Template}
use Rattle.nodes.proofs.part_start.Goals as goal

-- one node further back, n being how many parts it has
step : (m : List Node) (j left n : ℕ) → 0 < j → j ≤ length m → 0 < left → n ≡ parts (node_meant (get_or m (j - 1) (Table 0)))
    → back (label m) j left ≡ back (label m) (j - 1) (left - 1 + n)
step m j left n h l k e =
    back_more (label m) j left h k
    ∙ ap (λ n. back (label m) (j - 1) (left - 1 + n))
    (ap (λ s. parts (node_meant s)) (get_or_default m (j - 1) Template (Table 0) (omega arith)) ∙ sym e)

pub loop-j-preserved : goal.loop-j-preserved
loop-j-preserved c =
    let l = c.loop-j in
    let s = step c.args.nodes.now l.j l.left c.parts.result (omega arith) l.auto.j l.invariant.some c.parts.ensures.value in
    record { some = omega arith; few = omega arith; same = sym s ∙ l.invariant.same }

pub returns-then-left-eq0 : goal.returns-then-left-eq0
returns-then-left-eq0 c =
    let l = c.loop-j in
    let m = c.args.nodes.now in
    let s = step m l.j l.left c.parts.result (omega arith) l.auto.j l.invariant.some c.parts.ensures.value in
    sym (back_none (label m) (l.j - 1)) ∙ ap (back (label m) (l.j - 1)) (sym c.if-left-eq0.true) ∙ sym s ∙ l.invariant.same

pub returns : goal.returns
returns c =
    let l = c.loop-j in
    let m = c.args.nodes.now in
    let z : l.j ≡ 0 = omega arith in
    sym (back_zero (label m) l.left) ∙ ap (λ j. back (label m) j l.left) (sym z) ∙ l.invariant.same
