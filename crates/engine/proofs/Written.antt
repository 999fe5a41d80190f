-- Templates written out: the answers of an accepted file stay, and those of two files are the same.
use mathlib.Core.Path.{◌≡◌, refl, sym, ap, ◌∙◌}
use mathlib.Core.Bool.{Bool, true, false, ◌&&◌}
use mathlib.Core.List.{List, [], map}
use mathlib.Core.Option.{Option, none, some}
use Prim.Native.Nat.{ℕ}
use lib.Dec.{leb}
use lib.ListN.{length}
use Rattle.algebra.specs.Lists.{tab}
use Rattle.algebra.specs.Answer.{Answer, byte}
use Rattle.algebra.specs.Algebra.{Tree, answer, Holds}
use Rattle.algebra.specs.Policy.{Scope, Policy, Instance, accesses, model, table_answer, table_set, policy_answer, answers, policy_set, bytes}
use Rattle.algebra.specs.Bytes.{cleared}
use Rattle.algebra.specs.Demands.{with_tree, SameMeaning}
use Rattle.grammar.specs.Expression.{Exp}
use Rattle.grammar.specs.Names.{Kind}
use Rattle.grammar.specs.Tree.{tree_of}
use Rattle.grammar.specs.WrittenOut.{WrittenE}
use Rattle.grammar.proofs.WrittenOut.{written_answers, written_sets}
use Rattle.reader.specs.Declarations.{start}
use Rattle.reader.specs.Expression.{lookup}
use Rattle.reader.specs.File.{Accepted, accepted, read_file}
use Rattle.reader.specs.Reached.{declares}
use Rattle.reader.specs.WrittenFile.{WrittenFile}
use Rattle.reader.proofs.Origin.{origin}
use Rattle.reader.proofs.WrittenFile.{written_accepted}
use Rattle.engine.specs.Calls.{Composed, Decided, checked, check, unchanged, composition, composed, compose, undecided_by, answered, decided, decide}
use Rattle.engine.specs.Demands.{Written, composed_but_rounds, decided_but_rounds, WrittenAlike}

-- a policy with another expression's tree, of which templates are written out
written_means : (P : Policy) (number : Kind → List ℕ → Option ℕ) (e e' : Exp) → WrittenE e e' → P.tree ≡ tree_of number e
    → SameMeaning (with_tree P (tree_of number e')) P
unfolding policy_answer policy_set tree_of
written_means P number e e' w t = record {
  same_answers = written_answers number (model P.frame) P.limit (table_answer P.tables) [] e e' w ∙ ap (answer _ _ _) (sym t);
  same_set = λ later. written_sets number (model P.frame) (Instance P.frame) (table_set P.tables later) [] e e' w ∙ ap (Holds _ _ _) (sym t);
}

pub written : (f : List ℕ) (a : Accepted) → read_file f ≡ accepted a → Written f a
written f a e =
    let o = origin f a e in
    record { origin = o; means = λ x w. written_means a.policy (lookup (declares start o.before)) o.expression x w o.is_tree }

-- ---- two files

-- what the calls see of an accepted file, but the rounds
record SameSeen (a a' : Accepted) : Type 0 where
  same_members : a.members ≡ a'.members
  same_frame : a.policy.frame ≡ a'.policy.frame
  same_bytes : bytes a.policy ≡ bytes a'.policy

same_bytes : (P : Policy) (t : Tree Scope) → SameMeaning (with_tree P t) P → bytes P ≡ bytes (with_tree P t)
unfolding bytes answers
same_bytes P t w = ap (λ (g : ℕ → Answer). map byte (tab (accesses P.frame) g)) (sym w.same_answers)

written_seen : (f f' : List ℕ) (a a' : Accepted) → WrittenFile f f' → read_file f ≡ accepted a → read_file f' ≡ accepted a' → SameSeen a a'
written_seen f f' a a' r e e' =
    let w = written_accepted f f' a a' r e e' in
    record {
      same_members = w.same_names;
      same_frame = ap (λ (P : Policy). P.frame) (sym w.same_rest);
      same_bytes = same_bytes a.policy _ (written_means a.policy _ _ _ w.is_written w.is_tree) ∙ ap bytes (sym w.same_rest);
    }

module _ (f f' : List ℕ) (a a' : Accepted) (s : SameSeen a a') (e : read_file f ≡ accepted a) (e' : read_file f' ≡ accepted a') where
  alike_check : check f ≡ check f'
  unfolding check checked
  alike_check = rw (e, e', s.same_frame)

  alike_compose : (r m : List ℕ) → composed_but_rounds (compose f r m) ≡ composed_but_rounds (compose f' r m)
  unfolding compose composed composition
  alike_compose r m = go (leb 4096 (length r) && leb 65536 (length m))
    where
      go : (b : Bool) → composed_but_rounds (elim b as (λ _. Composed) [ true ↦ composed (read_file f) r m | false ↦ unchanged 1 0 0 r m ])
          ≡ composed_but_rounds (elim b as (λ _. Composed) [ true ↦ composed (read_file f') r m | false ↦ unchanged 1 0 0 r m ])
      go true = rw (e, e', s.same_bytes, s.same_frame)
      go false = refl

  alike_answered : (i j k : Option ℕ) (m : List ℕ) → decided_but_rounds (answered a.policy i j k m) ≡ decided_but_rounds (answered a'.policy i j k m)
  unfolding answered
  alike_answered none j k m = refl
  alike_answered (some i) none k m = refl
  alike_answered (some i) (some j) none m = refl
  alike_answered (some i) (some j) (some k) m = rw (s.same_bytes, s.same_frame)

  alike_decide : (x y z m : List ℕ) → decided_but_rounds (decide f x y z m) ≡ decided_but_rounds (decide f' x y z m)
  unfolding decide decided
  alike_decide x y z m = go (leb 65536 (length m))
    where
      go : (b : Bool) → decided_but_rounds (elim b as (λ _. Decided) [ true ↦ decided (read_file f) x y z m | false ↦ undecided_by 1 0 0 m ])
          ≡ decided_but_rounds (elim b as (λ _. Decided) [ true ↦ decided (read_file f') x y z m | false ↦ undecided_by 1 0 0 m ])
      go true = rw (e, e', s.same_members) (alike_answered _ _ _ (cleared m))
      go false = refl

pub written_alike : (f f' : List ℕ) (a a' : Accepted) → WrittenFile f f' → read_file f ≡ accepted a → read_file f' ≡ accepted a' → WrittenAlike f f'
written_alike f f' a a' r e e' =
    let s = written_seen f f' a a' r e e' in
    record { same_check = alike_check f f' a a' s e e'; same_compose = alike_compose f f' a a' s e e'; same_decide = alike_decide f f' a a' s e e' }
