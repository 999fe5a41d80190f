-- What a run asks of a tree, it may ask of its parts: each has nodes of its own, and room for its sets above those of the parts before it.
use mathlib.Core.Path.{◌≡◌, refl, sym, ap, subst, ◌∙◌}
use mathlib.Core.Logic.{inl, inr}
use mathlib.Core.List.{List}
use Prim.Native.Nat.{ℕ, suc, ◌+◌, ◌*◌, ◌-◌, ◌≤◌, ◌<◌}
use native.Mathlib.Omega.{arith}
use lib.ListN.{length, get_or, take}
use lib.Seq.{get_or-take}
use Rattle.std.proofs.lemmas.List.{get_or_default}
use Rattle.algebra.specs.Algebra.{Tree, Uses, held, bindings}
use Rattle.algebra.specs.Nodes.{Encodes, back}
use Rattle.algebra.specs.declared.Joiner as joiners
use Rattle.algebra.specs.Policy.{Frame}
use Rattle.algebra.specs.Policy as policy
use Rattle.algebra.specs.declared.Counts.{Counts}
use Rattle.algebra.proofs.Algebra.{by_table}
use Rattle.algebra.proofs.Nodes.{held_some, some_nodes, is_table, halves, thirds, scoped, closed, filled}
use Rattle.nodes.specs.Cells.{label}
use Rattle.nodes.specs.declared.Node.{Node}
use Rattle.nodes.specs.declared.Node.TheVariants.{Table, Join, Override, Scope, Closure, Template}
use Rattle.nodes.proofs.Parts.{coded_take, start_take}
use Rattle.nodes.proofs.Held.{own_label, slice_length}
use Rattle.composer.specs.Compose.{Fits}
use Rattle.composer.specs.Run.{Sized, FewRounds, AllAnswered}
use Rattle.composer.specs.declared.Setting.{Setting}
use Rattle.algebra.specs.declared.Scope as scopes

pub sized_set : {n : Counts} {m : List Node} {end k q : ℕ} → Sized n m end k q → k < 14
sized_set w = omega (arith, held_some w.nodes.tree, w.room)

pub sized_some : {n : Counts} {m : List Node} {end k q : ℕ} → Sized n m end k q → 0 < end
sized_some w = omega (arith, some_nodes w.nodes.coded)

-- so many rounds fit a machine word
few_in_all : {n : Counts} {m : List Node} {end k q : ℕ} → Sized n m end k q → (r : ℕ) → FewRounds m end r → r ≤ 4096 * 193
few_in_all w r f = omega (arith, f w.nodes.tree w.nodes.start w.nodes.coded, w.nodes.few)

-- a part, from a to b, whose answers come to set i, with p bindings in force outside it
part : {n : Counts} {m : List Node} {end k q : ℕ} (w : Sized n m end k q) (t : Tree policy.Scope) (a b i p : ℕ) → w.nodes.start ≤ a → b ≤ end
    → Encodes (label m) t a b → i + held t ≤ 14 → p + bindings t ≤ 4 → ((j : ℕ) → Uses t j → j < p + 16) → Sized n m b i p
part w t a b i p h l e r o u =
    record {
      nodes = record { tree = t; start = a; coded = e; few = omega (arith, w.nodes.few); long = omega (arith, w.nodes.long) };
      room = r;
      in_force = o;
      tables = u;
      fits = λ j x y. w.fits j (omega arith) (omega arith);
    }

-- the tables of the tree, where this is t
names : {n : Counts} {m : List Node} {end k q : ℕ} (w : Sized n m end k q) {t : Tree policy.Scope} → w.nodes.tree ≡ t → (j : ℕ) → Uses t j → j < q + 16
names w e j u = w.tables j (subst (λ t. Uses t j) (sym e) u)

-- ---- the slice of a part's nodes

pub sized_take : {n : Counts} {m : List Node} {end k q : ℕ} → Sized n m end k q → Sized n (take end m) (length (take end m)) k q
sized_take {n} {m} {end} {k} {q} w =
    let e : length (take end m) ≡ end = slice_length w.nodes in
    subst (λ h. Sized n (take end m) h k q) (sym e)
    (record {
      nodes = record {
        tree = w.nodes.tree;
        start = w.nodes.start;
        coded = coded_take end m (omega arith) w.nodes.coded;
        few = w.nodes.few;
        long = omega arith;
      };
      room = w.room;
      in_force = w.in_force;
      tables = w.tables;
      fits = λ j x y. subst (Fits n) (sym (get_or-take end m j Template y)) (w.fits j x y);
    })

-- what a run says of the slice of a part's nodes, it says of the part
module _ {n : Counts} {m : List Node} {end k q : ℕ} (w : Sized n m end k q) where
  pub few_told : (r : ℕ) → FewRounds (take end m) (length (take end m)) r → FewRounds m end r
  few_told r f e lo en =
      let long = slice_length w.nodes in
      omega (arith, f e lo (subst (Encodes (label (take end m)) e lo) (sym long) (coded_take end m (omega arith) en)))

  pub few_rounds : (r : ℕ) → FewRounds (take end m) (length (take end m)) r → r ≤ 4096 * 193
  few_rounds r f = few_in_all w r (few_told r f)

  pub all_told : (fr : Frame) (i : ℕ) (b : List ℕ) (s : Setting) (u : List ℕ) (r : ℕ) (u' : List ℕ)
      → AllAnswered fr (take end m) (length (take end m)) i b s u r u' → AllAnswered fr m end i b s u r u'
  all_told fr i b s u r u' f T o e lo en =
      f T o e lo (subst (Encodes (label (take end m)) e lo) (sym (slice_length w.nodes)) (coded_take end m (omega arith) en))

-- ---- the parts of a tree

-- where the last part begins of the nodes before `end`, by the walk back over their slice
abbrev pub Starts : List Node → ℕ → ℕ → Type 0
Starts m end mid = mid ≡ back (label (take end m)) (length (take end m)) 1

module _ {n : Counts} {m : List Node} {end k q : ℕ} (w : Sized n m end k q) where
  pub mid_is : {mid : ℕ} → Starts m (end - 1) mid → mid ≡ back (label m) (end - 1) 1
  mid_is s = start_take m (omega (arith, w.nodes.long)) s

  -- the own node, as the code reads it
  abbrev pub Own : Node → Type 0
  Own s = get_or m (end - 1) (Table 0) ≡ s

  abbrev lo : ℕ
  lo = w.nodes.start

  pub own_fits : {s : Node} → Own s → Fits n s
  own_fits e =
      let a = some_nodes w.nodes.coded in
      subst (Fits n) (get_or_default m (end - 1) Template (Table 0) (omega (arith, w.nodes.long)) ∙ e) (w.fits (end - 1) (omega arith) (omega arith))

  pub own_table : (i : ℕ) → Own (Table i) → i < q + 16
  unfolding Uses
  own_table i e = names w (is_table i (own_label w.nodes e) w.nodes.coded) i refl

  pub sized_two : {j : joiners.Joiner} → Own (Join j) → (mid : ℕ) → Starts m (end - 1) mid
      → Sized n m mid k q × Sized n m (end - 1) (k + 1) q × (mid < end)
  unfolding held bindings Uses
  sized_two e mid s =
      let v = halves _ mid (own_label w.nodes e) (mid_is s) w.nodes.coded in
      let sets = ap held v.is in
      let more = ap bindings v.is in
      let a = some_nodes v.left in
      let b = some_nodes v.right in
      let u = names w v.is in (
        part w v.l lo mid k q (omega arith) (omega arith) v.left (omega (arith, w.room, sets)) (omega (arith, w.in_force, more)) (λ j x. u j (inl x)),
        part w v.r mid (end - 1) (k + 1) q (omega arith) (omega arith) v.right (omega (arith, w.room, sets)) (omega (arith, w.in_force, more))
            (λ j x. u j (inr x)),
        omega arith,
      )

  module _ (e : Own Override) where
    -- the walk back over the second part begins within the nodes
    pub second_start : (third : ℕ) → Starts m (end - 1) third → (third ≤ length m) × (third ≤ 193)
    second_start third s =
        let b = some_nodes (thirds (back (label m) third 1) third (own_label w.nodes e) (mid_is s) refl w.nodes.coded).right in
        (omega (arith, w.nodes.long), omega (arith, w.nodes.few))

    pub second_is : (second third : ℕ) → Starts m (end - 1) third → Starts m third second → second ≡ back (label m) third 1
    second_is second third s i = start_take m (second_start third s).0 i

    pub sized_three : (second third : ℕ) → Starts m (end - 1) third → Starts m third second
        → Sized n m second k q × Sized n m third (k + 1) q × Sized n m (end - 1) (k + 2) q × (second < third) × (third < end)
    unfolding held bindings Uses
    sized_three second third s z =
        let v = thirds second third (own_label w.nodes e) (mid_is s) (second_is second third s z) w.nodes.coded in
        let sets = ap held v.is in
        let more = ap bindings v.is in
        let a = some_nodes v.left in
        let b = some_nodes v.middle in
        let d = some_nodes v.right in
        let u = names w v.is in (
          part w v.p lo second k q (omega arith) (omega arith) v.left (omega (arith, w.room, sets)) (omega (arith, w.in_force, more))
              (λ j x. u j (inl x)),
          part w v.q second third (k + 1) q (omega arith) (omega arith) v.middle (omega (arith, w.room, sets)) (omega (arith, w.in_force, more))
              (λ j x. u j (inr (inl x))),
          part w v.s third (end - 1) (k + 2) q (omega arith) (omega arith) v.right (omega (arith, w.room, sets)) (omega (arith, w.in_force, more))
              (λ j x. u j (inr (inr x))),
          b,
          omega arith,
        )

  pub sized_scope : {c : scopes.Scope} → Own (Scope c) → Sized n m (end - 1) k q
  unfolding held bindings Uses
  sized_scope e =
      let v = scoped _ (own_label w.nodes e) w.nodes.coded in
      part w v.u lo (end - 1) k q (omega arith) (omega arith) v.part (omega (arith, w.room, ap held v.is))
      (omega (arith, w.in_force, ap bindings v.is)) (names w v.is)

  pub sized_closure : {R : ℕ} → Own (Closure R) → Sized n m (end - 1) k q
  unfolding held bindings Uses
  sized_closure e =
      let v = closed _ (own_label w.nodes e) w.nodes.coded in
      part w v.u lo (end - 1) k q (omega arith) (omega arith) v.part (omega (arith, w.room, ap held v.is))
      (omega (arith, w.in_force, ap bindings v.is)) (names w v.is)

  module _ (e : Own Template) where
    -- F
    pub sized_filling : Sized n m (end - 1) k q
    unfolding held bindings Uses
    sized_filling =
        let mid : ℕ = back (label m) (end - 1) 1 in
        let v = filled mid (own_label w.nodes e) refl w.nodes.coded in
        let sets = ap held v.is in
        let more = ap bindings v.is in
        let a = some_nodes v.body in
        let u = names w v.is in
        part w v.f mid (end - 1) k q (omega arith) (omega arith) v.filling (omega (arith, w.room, sets)) (omega (arith, w.in_force, more))
        (λ j x. u j (inl x))

    -- there is room for a binding
    pub body_room : (mid : ℕ) → Starts m (end - 1) mid → (mid < end) × (q < 4)
    unfolding bindings
    body_room mid s =
        let v = filled mid (own_label w.nodes e) (mid_is s) w.nodes.coded in
        let b = some_nodes v.filling in
        (omega arith, omega (arith, w.in_force, ap bindings v.is))

    -- E, with one binding more in force
    pub sized_body : (mid : ℕ) → Starts m (end - 1) mid → (p : ℕ) → p ≡ suc q → Sized n m mid (k + 1) p
    unfolding held bindings Uses
    sized_body mid s p i =
        let v = filled mid (own_label w.nodes e) (mid_is s) w.nodes.coded in
        let b = some_nodes v.filling in
        let u = names w v.is in
        part w v.e lo mid (k + 1) p (omega arith) (omega arith) v.body (omega (arith, w.room, ap held v.is))
        (omega (arith, w.in_force, ap bindings v.is)) (by_table (λ j. Uses v.e j → j < p + 16) (λ x. omega arith) (λ j x. omega (arith, u j (inr x))))
