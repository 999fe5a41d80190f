-- What a line's verdict says of the state before it.
use mathlib.Core.Path.{◌≡◌, refl, sym, ap, ◌∙◌}
use mathlib.Core.Bool.{false}
use mathlib.Core.List.{List}
use mathlib.Core.Option.{Option}
use Prim.Native.Nat.{ℕ, ◌*◌, ◌≤◌, ◌<◌}
use native.Mathlib.Omega.{arith}
use lib.Dec.{ltb}
use borrow.Author.Tests.{ltb-false}
use Rattle.algebra.specs.Sort.{Sort, subject, object, action}
use Rattle.algebra.proofs.Bool.{or_none}
use Rattle.names.specs.Looks.{member_count}
use Rattle.names.specs.declared.table.Names.{Names}
use Rattle.reader.specs.Line.{Line, member_line}
use Rattle.reader.specs.Declarations.{Declared, group_of}
use Rattle.reader.specs.Rows.{good, first, rows, out_of_order, bad_counts}
use Rattle.reader.proofs.Members.{sort_low}
use Rattle.reader.proofs.Rows.{good_rows}
use Rattle.state.specs.NameTables.{NamesHeld}
use Rattle.state.specs.Standing.{group_number, NamesStand, Stands}
use Rattle.state.specs.Judged.{bad_counts_of}
use Rattle.state.specs.declared.State.{State}
use Rattle.state.proofs.NameTables.{lookup_is, count_is, predicates_are, tables_are, sets_are, here_are}
use Rattle.state.proofs.Verdicts.{counts_are as counts-are-of}
use Rattle.state.proofs.Found.{few_accesses}

-- the entries are enough to look names up
pub names_stand : {A K : ℕ} (names : Names A K) (d : Declared) → NamesHeld names d → NamesStand names d
names_stand names d N =
    record {
      looks = lookup_is names d N;
      members_many = λ σ. sym (count_is names d N σ);
      predicates_many = sym (predicates_are names d N);
      tables_many = sym (tables_are names d N);
      sets_many = sym (sets_are names d N);
      here = here_are names d N;
    }

-- ---- a good line

-- its group comes no earlier than the last one's
pub no_earlier : (d : Declared) (l : Line) → out_of_order d l ≡ false → d.group ≤ group_of l
unfolding out_of_order
no_earlier d l e = ltb-false (group_of l) d.group (or_none (ltb (group_of l) d.group) _ e).0

pub member_early : (d : Declared) (σ : Sort) (n : List ℕ) (p : Option (List ℕ)) → first (rows d (member_line σ n p)) ≡ good → d.group < 5
unfolding group_of
member_early d σ n p e = let h = no_earlier d (member_line σ n p) (good_rows d (member_line σ n p) e).row_4 in let s = sort_low σ in omega arith

-- after one of a later group the accesses are few
module _ {A K : ℕ} (w : List ℕ) (st : State A K) (d : Declared) (S : Stands w st d) (l : Line) (e : first (rows d l) ≡ good) (h : 3 ≤ group_of l) where
  abbrev s : ℕ
  s = member_count st.names subject

  abbrev o : ℕ
  o = member_count st.names object

  abbrev a : ℕ
  a = member_count st.names action

  rows_8 : bad_counts d l ≡ bad_counts_of (group_number st.group) (group_of l) s o a
  rows_8 =
      counts-are-of d l (group_of l) s o a refl (sym (count_is st.names d S.names subject)) (sym (count_is st.names d S.names object))
      (sym (count_is st.names d S.names action))
      ∙ ap (λ (x : ℕ). bad_counts_of x (group_of l) s o a) (sym S.is_group)

  pub few_after : s * o * a ≤ 4096
  few_after = few_accesses (group_number st.group) (group_of l) s o a h (sym rows_8 ∙ (good_rows d l e).row_8) S.counted
