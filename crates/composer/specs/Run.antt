-- What the run of a tree asks of its nodes, and what it leaves in working memory. It goes by what the data says of the tables, and knows no policy.
use Rattle.std.specs.Prelude.{◌≡◌, Bool, true, false, List, ℕ, ◌+◌, ◌*◌, ◌-◌, ◌≤◌, ◌<◌, eqb, length, get_or}
use Rattle.algebra.specs.Lists.{any, tab}
use Rattle.algebra.specs.Answer.{Answer, undecided, byte, sure}
use Rattle.algebra.specs.Rounds.{used}
use Rattle.algebra.specs.Algebra.{Tree, Uses, held, bindings, permits, close, answer, rounds}
use Rattle.algebra.specs.Nodes.{Encodes}
use Rattle.algebra.specs.Policy.{Frame, Scope, accesses, clauses, model}
use Rattle.algebra.specs.Grants.{grants_of}
use Rattle.algebra.specs.declared.Counts.{Counts}
use Rattle.sets.specs.Bytes.{put}
use Rattle.sets.specs.Sets.{byte_at, set_at}
use Rattle.nodes.specs.Cells.{label, HasTree}
use Rattle.nodes.specs.declared.Node.{Node}
use Rattle.nodes.specs.declared.Node.TheVariants.{Template}
use Rattle.closure.specs.Closed.{answers_of}
use Rattle.composer.specs.Compose.{Fits}
use Rattle.composer.specs.declared.Setting.{Setting}

-- the answers of table i as the data has it: where it is here, it permits what it grants
unfoldable pub table_in : List Bool → ℕ → List ℕ → ℕ → ℕ → Answer
table_in here grants w i x = elim (get_or here i false) [ true ↦ sure (any (eqb x) (grants_of 57344 i grants w)) | false ↦ undecided ]

-- ---- the bindings in force

-- their sets, the innermost first, are below set k
abbrev pub Below : ℕ → List ℕ → Type 0
Below k bound = (n : ℕ) → n < length bound → get_or bound n 0 < k

-- T is what the numbers in a tree stand for: the bindings in force, whose answers are in their sets, and after them the tables
pub record InForce (s : Setting) (bound : List ℕ) (N : ℕ) (w : List ℕ) (T : ℕ → ℕ → Answer) : Type 0 where
  pub inner : (n : ℕ) → n < length bound → (x : ℕ) → x < N → byte_at (get_or bound n 0) w x ≡ byte (T n x)
  pub table : (n x : ℕ) → x < N → T (length bound + n) x ≡ table_in s.here s.grants w n x

-- ---- a run

-- the closure of set k, and the rounds used
pub record ClosedAt (fr : Frame) (set limit k : ℕ) (w : List ℕ) (rounds : ℕ) (w' : List ℕ) : Type 0 where
  pub all : rounds ≡ used (accesses fr) (clauses fr set) limit (permits (accesses fr) (answers_of (set_at k (accesses fr) w)))
  pub bytes : w' ≡ put (k * 4096) (tab (accesses fr) (λ x. byte (close (accesses fr) (clauses fr set) limit (answers_of (set_at k (accesses fr) w)) x))) w

-- Before `end` stand the nodes of a tree, their numbers are in their ranges, and its sets have room from set k on. So many bindings are in force outside it:
-- with its own they are at most four at once, and the numbers after theirs are those of at most sixteen tables.
pub record Sized (n : Counts) (m : List Node) (end k outside : ℕ) : Type 0 where
  pub nodes : HasTree m end
  pub room : k + held nodes.tree ≤ 14
  pub in_force : outside + bindings nodes.tree ≤ 4
  pub tables : (i : ℕ) → Uses nodes.tree i → i < outside + 16
  pub fits : (j : ℕ) → nodes.start ≤ j → j < end → Fits n (get_or m j Template)

-- What the run of a tree leaves: its answers in set k, its rounds, and the sets below k and the bytes beyond the sets as they were. So a part that is run
-- later finds the sets of those before it, in whatever order they are run.
pub record Answered (fr : Frame) (limit : ℕ) (T : ℕ → ℕ → Answer) (t : Tree Scope) (k : ℕ) (w : List ℕ) (r : ℕ) (w' : List ℕ) : Type 0 where
  pub answers : (x : ℕ) → x < accesses fr → byte_at k w' x ≡ byte (answer (model fr) limit T t x)
  pub all : r ≡ rounds (model fr) limit T t
  pub below : (i : ℕ) → i < k * 4096 → get_or w' i 0 ≡ get_or w i 0
  pub beyond : (i : ℕ) → 57344 ≤ i → get_or w' i 0 ≡ get_or w i 0

-- What a run promises of every tree that ends before `end`, of which there is one: its rounds are few,
abbrev pub FewRounds : List Node → ℕ → ℕ → Type 0
FewRounds m end r = (e : Tree Scope) (lo : ℕ) → Encodes (label m) e lo end → r ≤ 4096 * (end - lo)

-- and where the data is that of a frame, its answers come to set k.
abbrev pub AllAnswered : Frame → List Node → ℕ → ℕ → List ℕ → Setting → List ℕ → ℕ → List ℕ → Type 0
AllAnswered fr m end k b s w r w' =
    (T : ℕ → ℕ → Answer) → InForce s b (accesses fr) w T → (e : Tree Scope) (lo : ℕ) → Encodes (label m) e lo end → Answered fr s.limit T e k w r w'
