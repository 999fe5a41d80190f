-- What the declared names say: the number of a name of a kind, and the members of a sort. A is the room for actions, K that for the other kinds.
use Rattle.std.specs.Prelude as rust
use Rattle.std.specs.Prelude.{◌≡◌, Bool, ◌&&◌, List, [], ◌∷◌, ◌++◌, ℕ, eqb, length}
use Rattle.std.proofs.Math.Option.{Option}
use Rattle.algebra.specs.Sort.{Sort, subject, object, action}
use Rattle.algebra.specs.Meant.{sort_meant}
use Rattle.algebra.specs.declared.Sort as sorts
use Rattle.algebra.specs.declared.Counts.{Counts}
use Rattle.grammar.specs.Lookup.{same, position}
use Rattle.grammar.specs.Names.{Kind, table, rule-set, member, predicate}
use Rattle.name_index.specs.Entries.{names_of}
use Rattle.name_index.specs.declared.Entry.{Entry}
use Rattle.names.specs.declared.NameKind.{NameKind}
use Rattle.names.specs.declared.NameKind.TheVariants.{Table, RuleSet, Member, Predicate}
use Rattle.names.specs.declared.table.Names.{Names}
use Rattle.names.specs.declared.table.TheConstants.{MOST_ACTIONS, MOST_OTHERS}

-- the names of a file
abbrev pub NamesOfFile : Type 0
NamesOfFile = Names MOST_ACTIONS MOST_OTHERS

-- ---- the members of a sort

abbrev pub entries_of : {A K : ℕ} → Names A K → Sort → List (Entry (rust.Option ℕ))
entries_of names subject = names.subjects.entries.items
entries_of names object = names.objects.entries.items
entries_of names action = names.actions.entries.items

-- their names
abbrev pub members_of : {A K : ℕ} → Names A K → Sort → List (List ℕ)
members_of names σ = names_of (entries_of names σ)

abbrev pub member_count : {A K : ℕ} → Names A K → Sort → ℕ
member_count names σ = length (entries_of names σ)

abbrev pub counts_of : {A K : ℕ} → Names A K → Counts
counts_of names = record { subjects = member_count names subject; objects = member_count names object; actions = member_count names action }

-- how many there is room for, with room for so many actions
abbrev pub most_members : ℕ → Sort → ℕ
most_members actions subject = 64
most_members actions object = 64
most_members actions action = actions

-- ---- the number of a name of a kind

-- the sorts by number
unfoldable pub sort_number : Sort → ℕ
sort_number subject = 0
sort_number object = 1
sort_number action = 2

-- a predicate of the sort that has the name
unfoldable pub is_predicate : Sort → List ℕ → Entry sorts.Sort → Bool
is_predicate σ n e = eqb (sort_number (sort_meant e.tag)) (sort_number σ) && same n e.name.now

unfoldable pub lookup_of : {A K : ℕ} → Names A K → Kind → List ℕ → Option ℕ
lookup_of names table n = position (same n) (names_of names.tables.items)
lookup_of names rule-set n = position (same n) (names_of names.sets.items)
lookup_of names (member σ) n = position (same n) (members_of names σ)
lookup_of names (predicate σ) n = position (is_predicate σ n) names.predicates.items

-- what the code's kinds say
abbrev pub kind_of : NameKind → Kind
kind_of Table = table
kind_of RuleSet = rule-set
kind_of (Member s) = member (sort_meant s)
kind_of (Predicate s) = predicate (sort_meant s)

-- ---- a member more of a sort, all other entries as they were
pub record Added {A K : ℕ} (σ : Sort) (e : Entry (rust.Option ℕ)) (old new : Names A K) : Type 0 where
  pub here : entries_of new σ ≡ entries_of old σ ++ (e ∷ [])
  pub others : (τ : Sort) → (τ ≡ σ → ⊥) → entries_of new τ ≡ entries_of old τ
  pub predicates : new.predicates ≡ old.predicates
  pub tables : new.tables ≡ old.tables
  pub sets : new.sets ≡ old.sets
