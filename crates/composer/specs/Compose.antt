-- When the code's data stands for a policy, and what composing it leaves in working memory.
use Rattle.std.specs.Prelude as rust
use Rattle.std.specs.Prelude.{◌≡◌, Bool, true, false, cond, List, ℕ, ◌+◌, ◌*◌, ◌<◌, length, get_or, take, drop}
use Rattle.algebra.specs.Sort.{Sort}
use Rattle.algebra.specs.Algebra.{Uses}
use Rattle.algebra.specs.Nodes.{Encodes}
use Rattle.algebra.specs.Policy.{Frame, Table, Policy, members, accesses, is_marked, table_at, bytes, policy_rounds}
use Rattle.algebra.specs.Meant.{sort_meant}
use Rattle.algebra.specs.StoredFrame.{size_of}
use Rattle.algebra.specs.declared.Counts.{Counts}
use Rattle.algebra.specs.declared.Rule.{Rule}
use Rattle.algebra.specs.declared.Scope as scopes
use Rattle.algebra.specs.declared.Scope.TheVariants.{Compared, Marked}
use Rattle.algebra.specs.Grants.{grants_of}
use Rattle.orders.specs.Orders.{parents_of}
use Rattle.plans.specs.Stored.{Stored}
use Rattle.nodes.specs.Cells.{label}
use Rattle.nodes.specs.declared.Node as nodes
use Rattle.nodes.specs.declared.Node.TheVariants as kinds

-- a table of the list: whether it is here, and then its grants
pub record TableIs (ts : List Table) (here : List Bool) (grants : ℕ) (w : List ℕ) (i : ℕ) : Type 0 where
  pub flag : (table_at ts i).here ≡ get_or here i false
  pub list : (table_at ts i).here ≡ true → (table_at ts i).grants ≡ grants_of 57344 i grants w

-- a scope names a member that there is, or one of sixteen predicates
abbrev pub ScopeFits : Counts → scopes.Scope → Type 0
ScopeFits n (Compared s c m) = m < size_of n (sort_meant s)
ScopeFits n (Marked s p) = p < 16

-- a node whose numbers are in their ranges; that of a table hangs on the bindings in force, and is bounded with the tree
abbrev pub Fits : Counts → nodes.Node → Type 0
Fits n (kinds.Table i) = Unit {0}
Fits n (kinds.Join j) = Unit {0}
Fits n kinds.Override = Unit {0}
Fits n (kinds.Scope c) = ScopeFits n c
Fits n (kinds.Closure set) = Unit {0}
Fits n kinds.Template = Unit {0}

-- The data is that of the policy: its frame, the nodes of its expression, the tables that this names, and the limit.
pub record Composes (P : Policy) (n : Counts) (w t : List ℕ) (m : List nodes.Node) (here : List Bool) (grants : ℕ) (rules : List Rule) (limit : ℕ)
    : Type 0 where
  pub frame : Stored P.frame n t rules
  pub nodes : Encodes (label m) P.tree 0 (length m)
  pub tables : (i : ℕ) → Uses P.tree i → TableIs P.tables here grants w i
  pub same_limit : P.limit ≡ limit

-- what composing a policy leaves: its answers in the first set, its rounds, and the bytes beyond the sets as they were
pub record Composed (P : Policy) (w : List ℕ) (rounds : ℕ) (w' : List ℕ) : Type 0 where
  pub answers : take (accesses P.frame) w' ≡ bytes P
  pub all : rounds ≡ policy_rounds P
  pub beyond : drop 57344 w' ≡ drop 57344 w

-- The parents and the marks are those of the frame: the parent of each member; and for each predicate a row of 64 bytes, 1 where it lists the member.
pub record Listed (fr : Frame) (subjects objects actions : List (rust.Option ℕ)) (marks : List ℕ) : Type 0 where
  pub same_subjects : fr.subjects ≡ parents_of subjects
  pub same_objects : fr.objects ≡ parents_of objects
  pub same_actions : fr.actions ≡ parents_of actions
  pub same_marks : (σ : Sort) (p x : ℕ) → p < 16 → x < members fr σ → get_or marks (p * 64 + x) 0 ≡ cond (is_marked fr σ p x) 1 0
