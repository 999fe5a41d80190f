-- How many names of a kind there are, and that what is looked up is one of them. Assumes nothing.
use Rattle.std.specs.Prelude as rust
use Rattle.std.proofs.Common.{◌≡◌, Bool, List, ℕ, ◌≤◌, ◌<◌, arith, length}
use Rattle.std.proofs.lemmas.List.{length-map}
use Rattle.std.proofs.Math.Option.{some}
use Rattle.algebra.specs.Sort.{Sort, subject, object, action}
use Rattle.grammar.specs.Lookup.{same}
use Rattle.grammar.specs.Names.{Kind, table, rule-set, member, predicate}
use Rattle.grammar.proofs.Lookup.{position_lt}
use Rattle.name_index.specs.declared.Entry.{Entry}
use Rattle.names.specs.Looks.{entries_of, member_count, most_members, is_predicate, lookup_of}
use Rattle.names.specs.declared.table.Names.{Names}

module _ {A K : ℕ} (names : Names A K) where
  pub few_members : (σ : Sort) → member_count names σ ≤ most_members A σ
  few_members subject = names.subjects.fits
  few_members object = names.objects.fits
  few_members action = names.actions.fits

  -- how many names of a kind there are
  abbrev pub many_of : Kind → ℕ
  many_of table = length names.tables.items
  many_of rule-set = length names.sets.items
  many_of (member σ) = member_count names σ
  many_of (predicate σ) = length names.predicates.items

  pub looked_lt : (k : Kind) (n : List ℕ) {i : ℕ} → lookup_of names k n ≡ some i → i < many_of k
  unfolding lookup_of
  looked_lt table n e = omega (arith, position_lt (same n) _ _ e, length-map names.tables.items (λ (e : Entry Bool). e.name.now))
  looked_lt rule-set n e = omega (arith, position_lt (same n) _ _ e, length-map names.sets.items (λ (e : Entry (Unit {0})). e.name.now))
  looked_lt (member σ) n e = omega (arith, position_lt (same n) _ _ e, length-map (entries_of names σ) (λ (e : Entry (rust.Option ℕ)). e.name.now))
  looked_lt (predicate σ) n e = position_lt (is_predicate σ n) _ _ e
