-- A template means what the tree with F in the place of each x does: in its answers, in its set, and in every meaning that goes by a tree's parts.
use mathlib.Core.Path.{◌≡◌, refl, sym, ap, ap₂, fun_ext, ◌∙◌}
use mathlib.Core.Logic.{◌⊎◌}
use mathlib.Core.Bool.{true}
use Prim.Native.Nat.{ℕ, zero, suc}
use native.Mathlib.Omega.{arith}
use Rattle.algebra.specs.Answer.{Answer, overridden, Joiner, joined, Joined, keep}
use Rattle.algebra.specs.Rounds.{Clause, Der}
use Rattle.algebra.specs.Algebra.{Tree, table, join, override, scope, closure, template, bind, bindings, Model, close, answer, Holds}
use Rattle.algebra.specs.WrittenOut.{renumber, within, replaced, filled, written_out}
use Rattle.algebra.proofs.Algebra.{by_table}

-- ---- meanings that go by a tree's parts

pub record ByParts {ℓ} {C : Type 0} {D : Type ℓ} (mean : (ℕ → D) → Tree C → D) : Type ℓ where
  pub joins : Joiner → D → D → D
  pub overrides : D → D → D → D
  pub scopes : C → D → D
  pub closes : ℕ → D → D
  pub of_table : (T : ℕ → D) (n : ℕ) → mean T (table n) ≡ T n
  pub of_join : (T : ℕ → D) (j : Joiner) (t u : Tree C) → mean T (join j t u) ≡ joins j (mean T t) (mean T u)
  pub of_override : (T : ℕ → D) (p q s : Tree C) → mean T (override p q s) ≡ overrides (mean T p) (mean T q) (mean T s)
  pub of_scope : (T : ℕ → D) (c : C) (t : Tree C) → mean T (scope c t) ≡ scopes c (mean T t)
  pub of_closure : (T : ℕ → D) (R : ℕ) (t : Tree C) → mean T (closure R t) ≡ closes R (mean T t)
  pub of_template : (T : ℕ → D) (e f : Tree C) → mean T (template e f) ≡ mean (bind (mean T f) T) e

pub answer_parts : {C : Type 0} (M : Model C) (lim : ℕ) → ByParts (answer M lim)
unfolding answer
answer_parts M lim = record {
  joins = λ j a b x. joined j (a x) (b x);
  overrides = λ a b c x. overridden (a x) (b x) (c x);
  scopes = λ c a x. keep (M.inside c x) (a x);
  closes = λ R a. close M.size (M.clauses R) lim a;
  of_table = λ T n. refl;
  of_join = λ T j t u. refl;
  of_override = λ T p q s. refl;
  of_scope = λ T c t. refl;
  of_closure = λ T R t. refl;
  of_template = λ T e f. refl;
}

pub set_parts : {C : Type 0} (M : Model C) (Inst : ℕ → Clause → Type 0) → ByParts (Holds M Inst)
unfolding Holds
set_parts M Inst = record {
  joins = λ j a b x. Joined j (a x) (b x);
  overrides = λ a b c x. (a x × ¬ c x) ⊎ (b x × c x);
  scopes = λ c a x. (M.inside c x ≡ true) × a x;
  closes = λ R a. Der (Inst R) a;
  of_table = λ T n. refl;
  of_join = λ T j t u. refl;
  of_override = λ T p q s. refl;
  of_scope = λ T c t. refl;
  of_closure = λ T R t. refl;
  of_template = λ T e f. refl;
}

-- what is given for the tables of E, by what it is at x and at the tables outside
bound {ℓ} : {A : Type ℓ} {a : A} {T : ℕ → A} (U : ℕ → A) → U zero ≡ a → ((n : ℕ) → U (suc n) ≡ T n) → U ≡ bind a T
bound {a} {T} U x others = fun_ext at
  where
    at : (n : ℕ) → U n ≡ bind a T n
    at zero = x
    at (suc n) = others n

module _ {ℓ} {C : Type 0} {D : Type ℓ} (mean : (ℕ → D) → Tree C → D) (k : ByParts mean) where
  renumber_mean : (T : ℕ → D) (r : ℕ → ℕ) (t : Tree C) → mean T (renumber r t) ≡ mean (λ n. T (r n)) t
  unfolding renumber
  renumber_mean T r (table n) = k.of_table T (r n) ∙ sym (k.of_table _ n)
  renumber_mean T r (join j t u) = k.of_join T j _ _ ∙ ap₂ (k.joins j) (renumber_mean T r t) (renumber_mean T r u) ∙ sym (k.of_join _ j t u)
  renumber_mean T r (override p q s) =
      k.of_override T _ _ _ ∙ rw (renumber_mean T r p, renumber_mean T r q, renumber_mean T r s) refl ∙ sym (k.of_override _ p q s)
  renumber_mean T r (scope c t) = k.of_scope T c _ ∙ ap (k.scopes c) (renumber_mean T r t) ∙ sym (k.of_scope _ c t)
  renumber_mean T r (closure R t) = k.of_closure T R _ ∙ ap (k.closes R) (renumber_mean T r t) ∙ sym (k.of_closure _ R t)
  renumber_mean T r (template e f) =
      k.of_template T _ _ ∙ renumber_mean (bind (mean T (renumber r f)) T) (bind 0 (λ n. suc (r n))) e
      ∙ ap (λ U. mean U e) (bound _ (renumber_mean T r f) (λ n. refl)) ∙ sym (k.of_template _ e f)

  replaced_mean : (T : ℕ → D) (u : ℕ → Tree C) (t : Tree C) → mean T (replaced u t) ≡ mean (λ n. mean T (u n)) t
  unfolding replaced
  replaced_mean T u (table n) = sym (k.of_table _ n)
  replaced_mean T u (join j t v) = k.of_join T j _ _ ∙ ap₂ (k.joins j) (replaced_mean T u t) (replaced_mean T u v) ∙ sym (k.of_join _ j t v)
  replaced_mean T u (override p q s) =
      k.of_override T _ _ _ ∙ rw (replaced_mean T u p, replaced_mean T u q, replaced_mean T u s) refl ∙ sym (k.of_override _ p q s)
  replaced_mean T u (scope c t) = k.of_scope T c _ ∙ ap (k.scopes c) (replaced_mean T u t) ∙ sym (k.of_scope _ c t)
  replaced_mean T u (closure R t) = k.of_closure T R _ ∙ ap (k.closes R) (replaced_mean T u t) ∙ sym (k.of_closure _ R t)
  replaced_mean T u (template e f) =
      k.of_template T _ _ ∙ replaced_mean (bind (mean T (replaced u f)) T) (within u) e
      ∙ ap (λ U. mean U e) (bound _ (k.of_table _ 0 ∙ replaced_mean T u f) (λ n. renumber_mean _ suc (u n))) ∙ sym (k.of_template _ e f)

  pub filled_mean : (T : ℕ → D) (e f : Tree C) → mean T (filled e f) ≡ mean T (template e f)
  unfolding filled
  filled_mean T e f =
      replaced_mean T (bind f table) e ∙ ap (λ U. mean U e) (bound _ refl (λ n. k.of_table T n)) ∙ sym (k.of_template T e f)

  pub written_mean : (T : ℕ → D) (t : Tree C) → mean T (written_out t) ≡ mean T t
  unfolding written_out
  written_mean T (table n) = refl
  written_mean T (join j t u) = k.of_join T j _ _ ∙ ap₂ (k.joins j) (written_mean T t) (written_mean T u) ∙ sym (k.of_join T j t u)
  written_mean T (override p q s) = k.of_override T _ _ _ ∙ rw (written_mean T p, written_mean T q, written_mean T s) refl ∙ sym (k.of_override T p q s)
  written_mean T (scope c t) = k.of_scope T c _ ∙ ap (k.scopes c) (written_mean T t) ∙ sym (k.of_scope T c t)
  written_mean T (closure R t) = k.of_closure T R _ ∙ ap (k.closes R) (written_mean T t) ∙ sym (k.of_closure T R t)
  written_mean T (template e f) =
      filled_mean T (written_out e) (written_out f) ∙ k.of_template T _ _ ∙ written_mean (bind (mean T (written_out f)) T) e
      ∙ ap (λ a. mean (bind a T) e) (written_mean T f) ∙ sym (k.of_template T e f)

-- ---- "The answers must equal those of the expression with `(F)` written for each free x"

pub filled_answer : {C : Type 0} (M : Model C) (lim : ℕ) (T : ℕ → ℕ → Answer) (e f : Tree C) → answer M lim T (filled e f) ≡ answer M lim T (template e f)
filled_answer M lim T e f = filled_mean (answer M lim) (answer_parts M lim) T e f

pub filled_set : {C : Type 0} (M : Model C) (Inst : ℕ → Clause → Type 0) (S : ℕ → ℕ → Type 0) (e f : Tree C)
    → Holds M Inst S (filled e f) ≡ Holds M Inst S (template e f)
filled_set M Inst S e f = filled_mean (Holds M Inst) (set_parts M Inst) S e f

pub written_answer : {C : Type 0} (M : Model C) (lim : ℕ) (T : ℕ → ℕ → Answer) (t : Tree C) → answer M lim T (written_out t) ≡ answer M lim T t
written_answer M lim T t = written_mean (answer M lim) (answer_parts M lim) T t

pub written_set : {C : Type 0} (M : Model C) (Inst : ℕ → Clause → Type 0) (S : ℕ → ℕ → Type 0) (t : Tree C) → Holds M Inst S (written_out t) ≡ Holds M Inst S t
written_set M Inst S t = written_mean (Holds M Inst) (set_parts M Inst) S t

-- ---- no template is left

module _ {C : Type 0} where
  replaced_bindings : (u : ℕ → Tree C) → ((n : ℕ) → bindings (u n) ≡ 0) → (t : Tree C) → bindings t ≡ 0 → bindings (replaced u t) ≡ 0
  unfolding replaced bindings
  replaced_bindings u h (table n) e = h n
  replaced_bindings u h (join j l r) e = let a = replaced_bindings u h l (omega arith) in let b = replaced_bindings u h r (omega arith) in omega arith
  replaced_bindings u h (override p q s) e =
      let a = replaced_bindings u h p (omega arith) in
      let b = replaced_bindings u h q (omega arith) in
      let c = replaced_bindings u h s (omega arith) in
      omega arith
  replaced_bindings u h (scope c t) e = replaced_bindings u h t e
  replaced_bindings u h (closure R t) e = replaced_bindings u h t e
  replaced_bindings u h (template b f) e = absurd (omega arith)

  pub written_bindings : (t : Tree C) → bindings (written_out t) ≡ 0
  unfolding written_out filled bindings
  written_bindings (table n) = refl
  written_bindings (join j l r) = let a = written_bindings l in let b = written_bindings r in omega arith
  written_bindings (override p q s) = let a = written_bindings p in let b = written_bindings q in let c = written_bindings s in omega arith
  written_bindings (scope c t) = written_bindings t
  written_bindings (closure R t) = written_bindings t
  written_bindings (template e f) =
      replaced_bindings (bind (written_out f) table) (by_table _ (written_bindings f) (λ n. refl)) (written_out e) (written_bindings e)
