-- The state before the first line stands for nothing declared.
use Rattle.std.specs.Prelude as rust
use mathlib.Core.Path.{◌≡◌, refl, sym, ap, ◌∙◌}
use mathlib.Core.List.{List, [], map}
use Prim.Native.Nat.{ℕ, ◌+◌, ◌*◌}
use native.Mathlib.Omega.{arith}
use lib.Dec.{eqb}
use lib.ListN.{length, replicate, get_or-replicate}
use Rattle.short_list.specs.ShortList.{ShortList}
use Rattle.algebra.specs.Lists.{any}
use Rattle.algebra.specs.Sort.{Sort, subject, object, action}
use Rattle.algebra.specs.Meant.{rule_meant}
use Rattle.algebra.specs.declared.Rule.{Rule}
use Rattle.name_index.specs.Entries.{names_of}
use Rattle.names.specs.Looks.{entries_of}
use Rattle.names.specs.declared.table.Names.{Names}
use Rattle.reader.specs.Declarations.{start, members_of}
use Rattle.reader.specs.Rows.{placed_last, clash}
use Rattle.state.specs.NameTables.{member_held, predicate_held, table_held}
use Rattle.state.specs.Sorts.{Sorted, sort_kept, sort_seen}
use Rattle.state.specs.Standing.{flag, granted, listed_at, Stands}
use Rattle.state.specs.declared.Group.TheVariants.{Subjects}

no_mark : (p x : ℕ) → 0 ≡ flag (any (eqb x) (listed_at [] p))
unfolding listed_at
no_mark p x = refl

no_sorts : Sorted (replicate 4 rust.None) (placed_last [])
unfolding placed_last clash sort_seen
no_sorts = record { four = refl; one_sort = refl; entries = λ v h. ap sort_kept (get_or-replicate 4 v rust.None rust.None h) }

module _ {A K : ℕ} (names : Names A K) (subjects : names.subjects.entries.items ≡ []) (objects : names.objects.entries.items ≡ [])
    (actions : names.actions.entries.items ≡ []) (predicates : names.predicates.items ≡ []) (tables : names.tables.items ≡ [])
    (sets : names.sets.items ≡ []) where
  no_members : (σ : Sort) → members_of start.members σ ≡ map member_held (entries_of names σ)
  unfolding start members_of
  no_members subject = sym (ap (map member_held) subjects)
  no_members object = sym (ap (map member_held) objects)
  no_members action = sym (ap (map member_held) actions)

  pub empty_stands : (rules : ShortList Rule) → rules.items ≡ [] → (w : List ℕ)
      → Stands w (record { group = Subjects; names = names; marks = replicate 1024 0; rules = rules; sorts = replicate 4 rust.None; grants = 0 }) start
  unfolding start granted
  empty_stands rules none w = record {
    is_group = refl;
    names = record {
      members = no_members;
      predicates = sym (ap (map predicate_held) predicates);
      tables = sym (ap (map table_held) tables);
      sets = sym (ap names_of sets);
    };
    counted = λ h. absurd (omega arith);
    marks = λ p x hp hx. get_or-replicate 1024 (p * 64 + x) 0 0 (omega arith) ∙ no_mark p x;
    grants = λ i h. absurd (omega arith);
    all_grants = refl;
    rules = sym (ap (map rule_meant) none);
    sorted = no_sorts;
    within = λ k h. absurd (let q = ap length none in omega arith);
    no_grants = λ _. refl;
  }
