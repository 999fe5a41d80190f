-- The first nodes of a slice: they are those of the whole slice, so a part of a tree is a tree in the slice of its nodes.
use mathlib.Core.Path.{◌≡◌, refl, sym, ap, subst, ◌∙◌}
use mathlib.Core.List.{List}
use Prim.Native.Nat.{ℕ, zero, suc, ◌+◌, ◌≤◌, ◌<◌}
use native.Mathlib.Omega.{arith}
use lib.ListN.{length, take}
use lib.Seq.{get_or-take, length-take-le}
use Rattle.algebra.specs.Algebra.{Tree}
use Rattle.algebra.specs.Policy as policy
use Rattle.algebra.specs.Nodes.{Encodes, parts, back}
use Rattle.algebra.proofs.Nodes.{encodes_same}
use Rattle.nodes.specs.declared.Node.{Node}
use Rattle.nodes.specs.declared.Node.TheVariants.{Template}
use Rattle.nodes.specs.Cells.{node_meant, label, HasTree}

module _ (end : ℕ) (nodes : List Node) where
  pub label_take : (j : ℕ) → j < end → label (take end nodes) j ≡ label nodes j
  label_take j l = ap node_meant (get_or-take end nodes j Template l)

  -- the walk back
  pub back_take : (j left : ℕ) → j ≤ end → back (label (take end nodes)) j left ≡ back (label nodes) j left
  unfolding back
  back_take zero left h = refl
  back_take (suc j) zero h = refl
  back_take (suc j) (suc left) h =
      back_take j (left + parts (label (take end nodes) j)) (omega arith) ∙ ap (λ s. back (label nodes) j (left + parts s)) (label_take j h)

  module _ {t : Tree policy.Scope} {lo hi : ℕ} (l : hi ≤ end) where
    pub coded_take : Encodes (label nodes) t lo hi → Encodes (label (take end nodes)) t lo hi
    coded_take e = encodes_same (λ j p q. label_take j (omega arith)) e

-- the slice of a tree's nodes
pub tree_take : {nodes : List Node} {end : ℕ} → HasTree nodes end → HasTree (take end nodes) (length (take end nodes))
tree_take {nodes} {end} w =
    let n : length (take end nodes) ≡ end = length-take-le end nodes w.long in
    subst (HasTree (take end nodes)) (sym n)
    (record { tree = w.tree; start = w.start; coded = coded_take end nodes (omega arith) w.coded; few = w.few; long = omega arith })

-- where a part begins, by the walk back over the slice of its nodes and those before them
pub start_take : (nodes : List Node) {end r : ℕ} → end ≤ length nodes → r ≡ back (label (take end nodes)) (length (take end nodes)) 1
    → r ≡ back (label nodes) end 1
start_take nodes {end} l e =
    e ∙ ap (λ n. back (label (take end nodes)) n 1) (length-take-le end nodes l) ∙ back_take end nodes end 1 (omega arith)
