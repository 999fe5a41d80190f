-- Laws of scopes: what the tables say of a member, and a walk over the accesses.
use mathlib.Core.Path.{◌≡◌, refl, sym, ap, subst, ◌∙◌}
use mathlib.Core.Bool.{Bool, true, false, cond, not, ◌&&◌, and-true, and-false}
use mathlib.Core.List.{List}
use mathlib.Core.Option.{Option}
use Prim.Native.Nat.{ℕ, zero, suc, ◌+◌, ◌*◌, ◌≤◌, ◌<◌}
use native.Mathlib.Numerals.{add-one}
use native.Mathlib.Decide.{ℕ_discrete}
use native.Mathlib.Omega.{arith}
use lib.Dec.{eqb}
use lib.ListN.{length, get_or, set}
use borrow.Author.Tests.{eq-eqb, ne_eqb}
use Rattle.algebra.proofs.Bool.{flag_one}
use Rattle.algebra.specs.Sort.{Sort, subject, object, action}
use Rattle.algebra.specs.Answer.{Answer, byte, keep}
use Rattle.algebra.specs.Order.{Op, le, ge, lt, gt, eq, below, compares}
use Rattle.algebra.specs.Policy.{Frame, compared, marked, parents, members, accesses, number, part, is_marked, in_scope}
use Rattle.algebra.specs.Meant.{scope_meant}
use Rattle.algebra.specs.declared.Scope.{Scope}
use Rattle.algebra.specs.StoredFrame.{total, order_at, order_byte_lem, Stands}
use Rattle.algebra.specs.declared.Counts.{Counts}
use Rattle.algebra.proofs.Answer.{byte_keep}
use Rattle.algebra.proofs.Order.{le_self, gt_reversed}
use Rattle.algebra.proofs.Number.{part_subject, part_object, part_action}
use Rattle.sets.specs.Sets.{Answers, byte_at, answer_at, put_set}
use Rattle.scopes.specs.Scopes.{Names, member_of}
use Rattle.sets.proofs.Sets.{byte_answer_of, put_set_none, put_set_more, unreached}
use Rattle.scopes.proofs.Turns.{turns, turns_three}

-- ---- the member of a sort, of three

module _ (fr : Frame) (z : Counts) (t : List ℕ) (d : Stands fr z t) (s o a : ℕ) (p : s < z.subjects) (q : o < z.objects) (r : a < z.actions) where
  pub member_lt : (σ : Sort) → member_of σ s o a < members fr σ
  member_lt subject = rw (d.counts subject) p
  member_lt object = rw (d.counts object) q
  member_lt action = rw (d.counts action) r

  pub part_member : (σ : Sort) → part fr σ (number z.objects z.actions s o a) ≡ member_of σ s o a
  part_member subject = rw (← d.counts object, ← d.counts action) (part_subject fr s o a (member_lt object) (member_lt action))
  part_member object = rw (← d.counts object, ← d.counts action) (part_object fr s o a (member_lt object) (member_lt action))
  part_member action = rw (← d.counts object, ← d.counts action) (part_action fr s o a (member_lt action))

  -- a number that is said to be it
  module _ (σ : Sort) (m : ℕ) (is : m ≡ member_of σ s o a) where
    pub same_lt : m < members fr σ
    same_lt = rw is (member_lt σ)

    pub same_part : part fr σ (number z.objects z.actions s o a) ≡ m
    same_part = part_member σ ∙ sym is

-- ---- what the tables say

flag_some : (b : Bool) → not (eqb (cond b 1 0) 0) ≡ b
flag_some true = refl
flag_some false = refl

-- the byte of the order says whether x le y, and whether x lt y
order_le : (ps : List (Option ℕ)) (x y : ℕ) → not (eqb (order_byte_lem ps x y) 0) ≡ below ps x y
unfolding order_byte_lem compares
order_le ps x y = go (ℕ_discrete x y)
  where
    go : Dec (x ≡ y) → not (eqb (order_byte_lem ps x y) 0) ≡ below ps x y
    go (yes e) = rw (eq-eqb x y e, order_byte_lem) (sym (subst (λ z. below ps x z ≡ true) e (le_self ps x)))
    go (no n) = rw (ne_eqb x y n, order_byte_lem) (flag_some (below ps x y))

order_lt : (ps : List (Option ℕ)) (x y : ℕ) → eqb (order_byte_lem ps x y) 1 ≡ (below ps x y && not (eqb x y))
unfolding order_byte_lem
order_lt ps x y = go (ℕ_discrete x y)
  where
    go : Dec (x ≡ y) → eqb (order_byte_lem ps x y) 1 ≡ (below ps x y && not (eqb x y))
    go (yes e) = rw (eq-eqb x y e, order_byte_lem) (sym (and-false (below ps x y)))
    go (no n) = rw (ne_eqb x y n, order_byte_lem) (flag_one (below ps x y) ∙ sym (and-true (below ps x y)))

module _ (t : List ℕ) (fr : Frame) (z : Counts) (st : Stands fr z t) (σ : Sort) (m x : ℕ) (less : m < members fr σ) where
  -- a comparison with the member x, b being the byte that is read
  module _ (less' : x < members fr σ) (b : ℕ) where
    pub so_at_most : b ≡ get_or t (order_at σ + m * 64 + x) 0 → not (eqb b 0) ≡ compares (parents fr σ) le m x
    unfolding compares
    so_at_most q = ap (λ v. not (eqb v 0)) (q ∙ st.orders σ m x less less') ∙ order_le _ m x

    pub so_at_least : b ≡ get_or t (order_at σ + x * 64 + m) 0 → not (eqb b 0) ≡ compares (parents fr σ) ge m x
    unfolding compares
    so_at_least q = ap (λ v. not (eqb v 0)) (q ∙ st.orders σ x m less' less) ∙ order_le _ x m

    pub so_below : b ≡ get_or t (order_at σ + m * 64 + x) 0 → eqb b 1 ≡ compares (parents fr σ) lt m x
    unfolding compares
    so_below q = ap (λ v. eqb v 1) (q ∙ st.orders σ m x less less') ∙ order_lt _ m x

    pub so_above : b ≡ get_or t (order_at σ + x * 64 + m) 0 → eqb b 1 ≡ compares (parents fr σ) gt m x
    unfolding compares
    so_above q = ap (λ v. eqb v 1) (q ∙ st.orders σ x m less' less) ∙ order_lt _ x m ∙ sym (gt_reversed _ m x)

  -- a predicate
  pub is_listed : (b : ℕ) → x < 16 → b ≡ get_or t (12288 + x * 64 + m) 0 → eqb b 1 ≡ is_marked fr σ x m
  is_listed b h q = ap (λ v. eqb v 1) (q ∙ st.marks σ x m h less) ∙ flag_one _

-- a scope holds the access y, m being its member of the scope's sort
module _ (fr : Frame) (σ : Sort) (m x y : ℕ) (pt : part fr σ y ≡ m) (less : m < members fr σ) where
  pub inside_compared : (op : Op) (b : Bool) → Names fr (compared σ op x) → (m < members fr σ → x < members fr σ → b ≡ compares (parents fr σ) op m x)
      → b ≡ in_scope fr (compared σ op x) y
  unfolding Names in_scope
  inside_compared op b l h = h less l ∙ ap (λ m. compares (parents fr σ) op m x) (sym pt)

  pub passes_eq : eqb m x ≡ in_scope fr (compared σ eq x) y
  unfolding in_scope compares
  passes_eq = ap (λ m. eqb m x) (sym pt)

  -- b being the byte that is read
  module _ (z : Counts) (t : List ℕ) (st : Stands fr z t) (b : ℕ) where
    pub passes_le : Names fr (compared σ le x) → b ≡ get_or t (order_at σ + m * 64 + x) 0 → not (eqb b 0) ≡ in_scope fr (compared σ le x) y
    passes_le l q = inside_compared le (not (eqb b 0)) l (λ h h'. so_at_most t fr z st σ m x h h' b q)

    pub passes_ge : Names fr (compared σ ge x) → b ≡ get_or t (order_at σ + x * 64 + m) 0 → not (eqb b 0) ≡ in_scope fr (compared σ ge x) y
    passes_ge l q = inside_compared ge (not (eqb b 0)) l (λ h h'. so_at_least t fr z st σ m x h h' b q)

    pub passes_lt : Names fr (compared σ lt x) → b ≡ get_or t (order_at σ + m * 64 + x) 0 → eqb b 1 ≡ in_scope fr (compared σ lt x) y
    passes_lt l q = inside_compared lt (eqb b 1) l (λ h h'. so_below t fr z st σ m x h h' b q)

    pub passes_gt : Names fr (compared σ gt x) → b ≡ get_or t (order_at σ + x * 64 + m) 0 → eqb b 1 ≡ in_scope fr (compared σ gt x) y
    passes_gt l q = inside_compared gt (eqb b 1) l (λ h h'. so_above t fr z st σ m x h h' b q)

    pub passes_mark : Names fr (marked σ x) → b ≡ get_or t (12288 + x * 64 + m) 0 → eqb b 1 ≡ in_scope fr (marked σ x) y
    unfolding Names in_scope
    passes_mark l q = is_listed t fr z st σ m x less b l q ∙ ap (is_marked fr σ x) (sym pt)

-- ---- a walk over the accesses

-- the turn at access x
abbrev pub keep_at : (ℕ → Bool) → ℕ → ℕ → List ℕ → List ℕ
keep_at p k x l = set l (k * 4096 + x) (cond (p x) (get_or l (k * 4096 + x) 0) 0)

kept : (p : ℕ → Bool) (k n : ℕ) (w : List ℕ) → k * 4096 + n ≤ length w → Answers k n w → (j : ℕ) → j ≤ n
    → turns j (keep_at p k) w ≡ put_set k j (λ x. keep (p x) (answer_at k w x)) w
kept p k n w fits ans zero h = put_set_none k (λ x. keep (p x) (answer_at k w x)) w (omega arith)
kept p k n w fits ans (suc j) h =
    let e = kept p k n w fits ans j (omega arith) in
    let f : ℕ → Answer = λ x. keep (p x) (answer_at k w x) in
    let b : cond (p j) (get_or (turns j (keep_at p k) w) (k * 4096 + j) 0) 0 ≡ byte (f j) =
    ap (λ v. cond (p j) v 0) (unreached k j f w (turns j (keep_at p k) w) (k * 4096 + j) (omega arith) e (omega arith)
    ∙ sym (byte_answer_of (byte_at k w j) (ans j (omega arith)))) ∙ sym (byte_keep (answer_at k w j) (p j)) in
    put_set_more k j f w (turns j (keep_at p k) w) _ (omega arith) e b ∙ ap (λ n. put_set k n f w) (add-one j)

-- the walk by subjects, objects and actions
abbrev pub by_action : (ℕ → Bool) → ℕ → Counts → ℕ → ℕ → ℕ → List ℕ → List ℕ
by_action p k z s o a = keep_at p k (number z.objects z.actions s o a)

abbrev pub by_object : (ℕ → Bool) → ℕ → Counts → ℕ → ℕ → List ℕ → List ℕ
by_object p k z s o = turns z.actions (by_action p k z s o)

abbrev pub by_subject : (ℕ → Bool) → ℕ → Counts → ℕ → List ℕ → List ℕ
by_subject p k z s = turns z.objects (by_object p k z s)

-- what is said of each frame that the counts and the tables stand for, and that has what the scope names
abbrev pub Each : Counts → List ℕ → Scope → ((ℕ → Bool) → Type 0) → Type 0
Each z t c P = (fr : Frame) → Stands fr z t → Names fr (scope_meant c) → P (in_scope fr (scope_meant c))

pub walked : (fr : Frame) (k : ℕ) (z : Counts) (t : List ℕ) (p : ℕ → Bool) (w : List ℕ) → Stands fr z t → k * 4096 + total z ≤ length w
    → Answers k (accesses fr) w → turns z.subjects (by_subject p k z) w ≡ put_set k (accesses fr) (λ x. keep (p x) (answer_at k w x)) w
walked fr k z t p w d fits ans =
    let e : accesses fr ≡ total z = rw (d.counts subject, d.counts object, d.counts action) in
    turns_three z.subjects z.objects z.actions (keep_at p k) w
    ∙ kept p k (total z) w fits (subst (λ n. Answers k n w) e ans) (total z) (omega arith)
    ∙ ap (λ n. put_set k n (λ x. keep (p x) (answer_at k w x)) w) (sym e)
