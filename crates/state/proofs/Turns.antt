-- Rows 4 and 8: the order of the groups, and a line in its turn.
use mathlib.Core.Path.{◌≡◌, refl, sym, ap, ◌∙◌}
use mathlib.Core.Bool.{Bool, true, false}
use Prim.Native.Nat.{ℕ}
use lib.Dec.{eqb, leb, ltb}
use borrow.Author.Tests.{ltb-true, ltb-false, leb-true, leb-false, lt-ltb, le-ltb, lt-leb, le-leb}
use denote.Enum.Bare.{sameb}
use Rattle.std.specs.Prelude as rust
use Rattle.std.specs.Ordering.{partial_lt, partial_le}
use Rattle.std.proofs.Common.{rules}
use Rattle.algebra.specs.Sort.{Sort, subject, object, action}
use Rattle.algebra.specs.StoredFrame.{size_of}
use Rattle.algebra.specs.declared.Counts.{Counts}
use Rattle.reader.specs.Line.{Line}
use Rattle.reader.specs.Declarations.{Declared, count, group_of}
use Rattle.reader.specs.Rows.{first, rows, out_of_order, without_rule, bad_counts}
use Rattle.rows.specs.First.{refusal_of}
use Rattle.rows.specs.declared.Refusal.{Refusal}
use Rattle.rows.specs.declared.Refusal.TheVariants.{OutOfOrder, BadCounts}
use Rattle.state.specs.Standing.{group_number}
use Rattle.state.specs.Judged.{late_of, bad_counts_of, turn_of}
use Rattle.state.specs.declared.Group.{Group}
use Rattle.state.specs.declared.Group.TheVariants.{Subjects, Objects, Actions, Predicates, Tables, Grants, Rules, Expression}
use Rattle.state.specs.contracts.GroupPartialOrd.TheImpl.{partial_cmp-value}
use Rattle.state.specs.contracts.Group.{the_type}
use Rattle.state.proofs.Verdicts.{meets_4, meets_8, late_is, counts_are}

-- ---- groups by their numbers

pub earlier : (a b : Group) → partial_lt partial_cmp-value.it a b ≡ ltb (group_number a) (group_number b)
earlier Subjects b = search rules
earlier Objects b = search rules
earlier Actions b = search rules
earlier Predicates b = search rules
earlier Tables b = search rules
earlier Grants b = search rules
earlier Rules b = search rules
earlier Expression b = search rules

pub no_later : (a b : Group) → partial_le partial_cmp-value.it a b ≡ leb (group_number a) (group_number b)
no_later Subjects b = search rules
no_later Objects b = search rules
no_later Actions b = search rules
no_later Predicates b = search rules
no_later Tables b = search rules
no_later Grants b = search rules
no_later Rules b = search rules
no_later Expression b = search rules

pub ended : (a : Group) → sameb the_type a Expression ≡ eqb (group_number a) 7
ended a = search rules

module _ (group : Group) {b : Bool} (e : b ≡ partial_le partial_cmp-value.it Predicates group) where
  pub past_members : b ≡ true → ltb (group_number group) 3 ≡ false
  past_members h = le-ltb _ 3 (leb-true 3 _ (sym (no_later Predicates group) ∙ sym e ∙ h))

  pub at_members : b ≡ false → ltb (group_number group) 3 ≡ true
  at_members h = lt-ltb _ 3 (leb-false 3 _ (sym (no_later Predicates group) ∙ sym e ∙ h))

module _ (g : Group) {b : Bool} (e : b ≡ partial_lt partial_cmp-value.it g Predicates) where
  pub of_members : b ≡ true → leb 3 (group_number g) ≡ false
  of_members h = lt-leb 3 _ (ltb-true _ 3 (sym (earlier g Predicates) ∙ sym e ∙ h))

  pub after_members : b ≡ false → leb 3 (group_number g) ≡ true
  after_members h = le-leb 3 _ (ltb-false _ 3 (sym (earlier g Predicates) ∙ sym e ∙ h))

-- ---- a line in its turn

pub turn_ok : (late counts : Bool) {x : Unit {0}} → turn_of late counts ≡ rust.Ok x → (late ≡ false) × (counts ≡ false)
turn_ok true counts e = cc
turn_ok false true e = cc
turn_ok false false e = (refl, refl)

module _ (n : Counts) (d : Declared) (cs : (σ : Sort) → size_of n σ ≡ count d σ) (group : ℕ) (g : d.group ≡ group)
    (l : Line) (k : ℕ) (e : group_of l ≡ k) (w : without_rule d.rules l ≡ false) where
  pub in_order : {b : Bool} → late_of group k ≡ b → out_of_order d l ≡ b
  in_order h = late_is d l k e w ∙ ap (λ (x : ℕ). late_of x k) g ∙ h

  pub counted : {b : Bool} → bad_counts_of group k n.subjects n.objects n.actions ≡ b → bad_counts d l ≡ b
  counted h =
      counts_are d l k n.subjects n.objects n.actions e (cs subject) (cs object) (cs action)
      ∙ ap (λ (x : ℕ). bad_counts_of x k n.subjects n.objects n.actions) g ∙ h

  pub turned_down : {r : Refusal} → turn_of (late_of group k) (bad_counts_of group k n.subjects n.objects n.actions) ≡ rust.Err r
      → first (rows d l) ≡ refusal_of r
  turned_down {r} h = go (late_of group k) refl (bad_counts_of group k n.subjects n.objects n.actions) refl h
    where
      go : (late : Bool) → late_of group k ≡ late → (counts : Bool) → bad_counts_of group k n.subjects n.objects n.actions ≡ counts
          → turn_of late counts ≡ rust.Err r → first (rows d l) ≡ refusal_of r
      go true p counts q h = let x : OutOfOrder ≡ r = cc in meets_4 d l (in_order p) ∙ ap refusal_of x
      go false p true q h = let x : BadCounts ≡ r = cc in meets_8 d l (in_order p) (counted q) ∙ ap refusal_of x
      go false p false q h = cc
