-- Lines of members, among lines of any kind.
use mathlib.Core.Path.{◌≡◌, refl, ap}
use mathlib.Core.List.{List}
use mathlib.Core.Option.{none, some}
use Prim.Native.Nat.{ℕ}
use denote.Bor.{Bor}
use Rattle.std.specs.Prelude as rust
use Rattle.algebra.specs.declared.Sort as sorts
use Rattle.algebra.specs.Meant.{sort_meant}
use Rattle.lines.specs.Parsed.{line_of}
use Rattle.lines.specs.declared.line.Parsed.{Parsed}
use Rattle.lines.specs.declared.line.Parsed.TheVariants.{Root, Child, Predicate, Table, Grant, Rule, GrantBody, OrderBody, HasBody, Expression}
use Rattle.reader.specs.Declarations.{Declared}
use Rattle.rows.specs.declared.Refusal.{Refusal}
use Rattle.state.specs.Judged.{NoMember, MemberJoins, Joins}

abbrev Name : Type 0
Name = Bor (List ℕ)

pub no_member : (l : Parsed) → ((s : sorts.Sort) (n : Name) → l ≡ Root s n → ⊥) → ((s : sorts.Sort) (n p : Name) → l ≡ Child s n p → ⊥) → NoMember l
no_member (Root s n) r c = absurd (r s n refl)
no_member (Child s n p) r c = absurd (c s n p refl)
no_member (Predicate s p x) r c = tt
no_member (Table t h) r c = tt
no_member (Grant t s o a) r c = tt
no_member (Rule n s o a) r c = tt
no_member (GrantBody s o a) r c = tt
no_member (OrderBody k s x y) r c = tt
no_member (HasBody s p x) r c = tt
no_member (Expression n x) r c = tt

module _ (d : Declared) (l : Parsed) (s : sorts.Sort) (n : Name) (r : rust.Result (rust.Option ℕ) Refusal) where
  pub root_line : l ≡ Root s n → MemberJoins d (sort_meant s) n.now none r → Joins d l r
  root_line e h = record { sort = sort_meant s; name = n.now; parent = none; is = ap line_of e; judged = h }

  pub child_line : (p : Name) → l ≡ Child s n p → MemberJoins d (sort_meant s) n.now (some p.now) r → Joins d l r
  child_line p e h = record { sort = sort_meant s; name = n.now; parent = some p.now; is = ap line_of e; judged = h }
