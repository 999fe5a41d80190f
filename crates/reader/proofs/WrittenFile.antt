-- Where a file and one with templates written out are accepted, their policies differ in the tree alone: each is that of its expression.
use mathlib.Core.Path.{◌≡◌, refl, subst₂}
use mathlib.Core.List.{List}
use mathlib.Core.Option.{Option}
use Prim.Native.Nat.{ℕ, suc}
use Rattle.algebra.specs.Demands.{with_tree}
use Rattle.grammar.specs.Expression.{Exp, text_e, WellFormed}
use Rattle.grammar.specs.Names.{Kind}
use Rattle.grammar.specs.Tree.{tree_of}
use Rattle.grammar.specs.WrittenOut.{WrittenE}
use Rattle.grammar.proofs.Reading.{trees_are_read}
use Rattle.reader.specs.Line.{expression_line}
use Rattle.reader.specs.Declarations.{Declared, start}
use Rattle.reader.specs.Expression.{lookup}
use Rattle.reader.specs.File.{Accepted, accepted, add, policy_of, read_lines, read_file}
use Rattle.reader.specs.WrittenFile as Lines
use Rattle.reader.specs.WrittenFile.{WrittenLines, WrittenFile}
use Rattle.reader.proofs.Rows.{good_line, good_as, accepted_lines}
use Rattle.reader.proofs.Origin.{at_end_lem}

-- what the two files give
pub record AcceptedWritten (a a' : Accepted) : Type 0 where
  pub same_names : a.members ≡ a'.members
  pub number : Kind → List ℕ → Option ℕ
  pub expression : Exp
  pub expression' : Exp
  pub is_written : WrittenE expression expression'
  pub is_tree : a.policy.tree ≡ tree_of number expression
  pub same_rest : a'.policy ≡ with_tree a.policy (tree_of number expression')

-- the E line gives its expression's tree
accepted_tree : (n : ℕ) (d : Declared) (k : ℕ) (e : Exp) (ls : List (List ℕ)) (a : Accepted) → WellFormed e
    → read_lines n (add d (expression_line k (text_e e))) ls ≡ accepted a
    → record { members = d.members; policy = policy_of d (record { limit = k; tree = tree_of (lookup d) e }) } ≡ a
accepted_tree n d k e ls a w r =
    let x = at_end_lem n d k (text_e e) ls a r in
    let p = x.is_read in
    let q = trees_are_read e w in
    let z : e ≡ x.expression = cc in
    rw z x.gives

lines_written : {ls ls' : List (List ℕ)} → WrittenLines ls ls' → (n : ℕ) (d : Declared) (a a' : Accepted)
    → read_lines n d ls ≡ accepted a → read_lines n d ls' ≡ accepted a' → AcceptedWritten a a'
unfolding policy_of
lines_written (Lines.same {ls = ls} {ls' = ls'} {l = l} r) n d a a' e e' =
    let g = good_line n d l ls a e in
    lines_written r (suc n) (add d g.line) a a' g.rest (good_as n d l ls' a' g.line e' g.parsed).1
lines_written (Lines.written {ls = ls} {l = l} {l' = l'} k x x' w p w' p' v) n d a a' e e' =
    subst₂ AcceptedWritten
    (accepted_tree (suc n) d k x ls a w (good_as n d l ls a (expression_line k (text_e x)) e p).1)
    (accepted_tree (suc n) d k x' ls a' w' (good_as n d l' ls a' (expression_line k (text_e x')) e' p').1)
    (record { same_names = refl; number = lookup d; expression = x; expression' = x'; is_written = v; is_tree = refl; same_rest = refl })

pub written_accepted : (f f' : List ℕ) (a a' : Accepted) → WrittenFile f f' → read_file f ≡ accepted a → read_file f' ≡ accepted a' → AcceptedWritten a a'
unfolding WrittenFile
written_accepted f f' a a' r e e' = lines_written r 1 start a a' (accepted_lines f a e) (accepted_lines f' a' e')
