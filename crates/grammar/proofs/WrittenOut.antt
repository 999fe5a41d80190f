-- An expression with `(F)` written for each free x, bound names renamed where they would capture, has the tree in which F stands for x:
-- so it means what the template does. Assumes nothing.
use mathlib.Core.Path.{◌≡◌, refl, sym, ap, ap₂, ◌∙◌}
use mathlib.Core.Bool.{Bool, true, false, true≢false}
use mathlib.Core.List.Memᴰ
use mathlib.Core.List.{List, [], ◌∷◌, Memᴰ}
use mathlib.Core.Option.{Option}
use Prim.Native.Nat.{ℕ, suc}
use Rattle.algebra.specs.Algebra as Algebra
use Rattle.algebra.specs.Algebra.{Tree, join, scope, closure, bind, answer, Holds}
use Rattle.algebra.specs.WrittenOut.{renumber, within, replaced, filled, written_out}
use Rattle.algebra.specs.Policy.{Scope}
use Rattle.algebra.proofs.Lists.{mem_gather, of_gather}
use Rattle.algebra.proofs.WrittenOut.{ByParts, answer_parts, set_parts, filled_mean}
use Rattle.grammar.specs.Expression.{Exp, one, more, Fac, plain, scoped, closed_by, Pri, table_name, bracket, override, template}
use Rattle.grammar.specs.Names.{Kind, rule-set}
use Rattle.grammar.specs.Lookup.{same, place}
use Rattle.grammar.specs.Tree.{scope_of, table_of, tree_e, tree_f, tree_p, tree_of}
use Rattle.grammar.specs.Fresh.{is_among, without}
use Rattle.grammar.specs.WrittenOut.{free_e, free_f, free_p, put, others, renamed, write_e, write_f, write_p, written, out_e, out_f, out_p}
use Rattle.grammar.specs.WrittenOut.{WrittenE, in_one, in_more, again, WrittenF, in_plain, in_scoped, in_closed}
use Rattle.grammar.specs.WrittenOut.{WrittenP, name_stays, in_bracket, in_override, in_template, template_out}
use Rattle.grammar.specs.Statements.{WrittenAnswers, WrittenSets, WaysToWrite, OutIsWrittenOut, NothingCaptured, RenamedWhereNeeded}
use Rattle.grammar.proofs.Lookup.{same_refl, differ}
use Rattle.grammar.proofs.Tree.{table_bound, table_free}
use Rattle.grammar.proofs.Fresh.{not_among, among, in_without, of_without, fresh_new}

-- a name is x or another
pub by_name : {A : Type 0} (n x : List ℕ) → (same n x ≡ true → A) → (same n x ≡ false → A) → A
by_name {A} n x f g = go (same n x) refl
  where
    go : (t : Bool) → same n x ≡ t → A
    go true e = f e
    go false e = g e

pub put_same : (x : List ℕ) (p : Pri) (u : List ℕ → Pri) (n : List ℕ) → same n x ≡ true → put x p u n ≡ p
unfolding put
put_same x p u n e = rw (put, e)

pub put_other : (x : List ℕ) (p : Pri) (u : List ℕ → Pri) (n : List ℕ) → same n x ≡ false → put x p u n ≡ u n
unfolding put
put_other x p u n e = rw (put, e)

-- ---- the bound name that is written captures nothing
module _ (u : List ℕ → Pri) (x : List ℕ) (e : Exp) where
  renamed_new : Memᴰ (renamed u x e) (others u x e) → ⊥
  unfolding renamed
  renamed_new = go (is_among x (others u x e)) refl
    where
      go : (t : Bool) → is_among x (others u x e) ≡ t → Memᴰ (renamed u x e) (others u x e) → ⊥
      go true c i = fresh_new (others u x e) (rw (renamed, c) at i)
      go false c i = not_among x (others u x e) c (rw (renamed, c) at i)

  renamed_apart : (n : List ℕ) → Memᴰ n (free_e e) → same n x ≡ false → Memᴰ (renamed u x e) (free_p (u n)) → ⊥
  unfolding others
  renamed_apart n m d i = renamed_new (mem_gather _ (in_without x d m) i)

  renamed_kept : ((n : List ℕ) → Memᴰ n (free_e e) → ¬ (n ≡ x) → ¬ Memᴰ x (free_p (u n))) → renamed u x e ≡ x
  unfolding renamed others
  renamed_kept h = go (is_among x (others u x e)) refl
    where
      among_none : Memᴰ x (others u x e) → ⊥
      among_none i =
          let r = of_gather _ (without x (free_e e)) i in
          let o = of_without x (free_e e) r.1 in
          h r.0 o.1 (λ q. true≢false (sym (ap (λ n. same n x) q ∙ same_refl x) ∙ o.0)) r.2

      go : (t : Bool) → is_among x (others u x e) ≡ t → renamed u x e ≡ x
      go true c = absurd (among_none (among x (others u x e) c))
      go false c = rw (renamed, c)

module _ (number : Kind → List ℕ → Option ℕ) where
  -- ---- where other names are bound, a tree changes the numbers of its free names alone
  abbrev Moved : (ℕ → ℕ) → List (List ℕ) → List (List ℕ) → List (List ℕ) → Type 0
  Moved r xs ys ns = (n : List ℕ) → Memᴰ n ns → table_of number xs n ≡ r (table_of number ys n)

  moved_under : (r : ℕ → ℕ) (xs ys : List (List ℕ)) (x : List ℕ) (ns : List (List ℕ)) → Moved r xs ys (without x ns)
      → Moved (bind 0 (λ n. suc (r n))) (x ∷ xs) (x ∷ ys) ns
  moved_under r xs ys x ns h n m =
      by_name n x (λ e. rw (table_bound number x xs n e, table_bound number x ys n e))
      (λ e. rw (table_free number x xs n e, table_free number x ys n e) (ap suc (h n (in_without x e m))))

  mutual
    unfolding tree_e free_e renumber

    move_e : (r : ℕ → ℕ) (xs ys : List (List ℕ)) (e : Exp) → Moved r xs ys (free_e e) → tree_e number xs e ≡ renumber r (tree_e number ys e)
    move_e r xs ys (one f) h = move_f r xs ys f h
    move_e r xs ys (more e j f) h =
        ap₂ (join j) (move_e r xs ys e (λ n m. h n (Memᴰ.append_left _ m))) (move_f r xs ys f (λ n m. h n (Memᴰ.append_right (free_e e) m)))

    move_f : (r : ℕ → ℕ) (xs ys : List (List ℕ)) (f : Fac) → Moved r xs ys (free_f f) → tree_f number xs f ≡ renumber r (tree_f number ys f)
    move_f r xs ys (plain p) h = move_p r xs ys p h
    move_f r xs ys (scoped f c) h = ap (scope (scope_of number c)) (move_f r xs ys f h)
    move_f r xs ys (closed_by f n) h = ap (closure (place (number rule-set n))) (move_f r xs ys f h)

    move_p : (r : ℕ → ℕ) (xs ys : List (List ℕ)) (p : Pri) → Moved r xs ys (free_p p) → tree_p number xs p ≡ renumber r (tree_p number ys p)
    move_p r xs ys (table_name n) h = ap Algebra.table (h n (Memᴰ.head refl))
    move_p r xs ys (bracket e) h = move_e r xs ys e h
    move_p r xs ys (override e f g) h =
        rw (
          move_e r xs ys e (λ n m. h n (Memᴰ.append_left _ m)),
          move_e r xs ys f (λ n m. h n (Memᴰ.append_right (free_e e) (Memᴰ.append_left _ m))),
          move_e r xs ys g (λ n m. h n (Memᴰ.append_right (free_e e) (Memᴰ.append_right (free_e f) m))),
        ) refl
    move_p r xs ys (template x e f) h =
        ap₂ Algebra.template (move_e (bind 0 (λ n. suc (r n))) (x ∷ xs) (x ∷ ys) e (moved_under r xs ys x (free_e e) (λ n m. h n (Memᴰ.append_left _ m))))
        (move_e r xs ys f (λ n m. h n (Memᴰ.append_right (without x (free_e e)) m)))

  -- ---- what is written for the free names, as trees
  abbrev Stands : (List ℕ → Pri) → (ℕ → Tree Scope) → List (List ℕ) → List (List ℕ) → List (List ℕ) → Type 0
  Stands u v xs ys ns = (n : List ℕ) → Memᴰ n ns → tree_p number xs (u n) ≡ v (table_of number ys n)

  -- within a template, whose bound name is written as `renamed` has it
  stands_under : (u : List ℕ → Pri) (v : ℕ → Tree Scope) (xs ys : List (List ℕ)) (x : List ℕ) (e : Exp) → Stands u v xs ys (without x (free_e e))
      → Stands (put x (table_name (renamed u x e)) u) (within v) (renamed u x e ∷ xs) (x ∷ ys) (free_e e)
  unfolding tree_e within
  stands_under u v xs ys x e h n m = by_name n x bound free
    where
      y : List ℕ
      y = renamed u x e

      bound : same n x ≡ true → tree_p number (y ∷ xs) (put x (table_name y) u n) ≡ within v (table_of number (x ∷ ys) n)
      bound d = rw (put_same x (table_name y) u n d, table_bound number x ys n d) (ap Algebra.table (table_bound number y xs y (same_refl y)))

      free : same n x ≡ false → tree_p number (y ∷ xs) (put x (table_name y) u n) ≡ within v (table_of number (x ∷ ys) n)
      free d =
          rw (put_other x (table_name y) u n d, table_free number x ys n d)
          (move_p suc (y ∷ xs) xs (u n) (λ k i. table_free number y xs k (differ k y (λ q. renamed_apart u x e n m d (rw q at i))))
          ∙ ap (renumber suc) (h n (in_without x d m)))

  mutual
    unfolding tree_e free_e write_e replaced

    replace_e : (u : List ℕ → Pri) (v : ℕ → Tree Scope) (xs ys : List (List ℕ)) (e : Exp) → Stands u v xs ys (free_e e)
        → tree_e number xs (write_e u e) ≡ replaced v (tree_e number ys e)
    replace_e u v xs ys (one f) h = replace_f u v xs ys f h
    replace_e u v xs ys (more e j f) h =
        ap₂ (join j) (replace_e u v xs ys e (λ n m. h n (Memᴰ.append_left _ m))) (replace_f u v xs ys f (λ n m. h n (Memᴰ.append_right (free_e e) m)))

    replace_f : (u : List ℕ → Pri) (v : ℕ → Tree Scope) (xs ys : List (List ℕ)) (f : Fac) → Stands u v xs ys (free_f f)
        → tree_f number xs (write_f u f) ≡ replaced v (tree_f number ys f)
    replace_f u v xs ys (plain p) h = replace_p u v xs ys p h
    replace_f u v xs ys (scoped f c) h = ap (scope (scope_of number c)) (replace_f u v xs ys f h)
    replace_f u v xs ys (closed_by f n) h = ap (closure (place (number rule-set n))) (replace_f u v xs ys f h)

    replace_p : (u : List ℕ → Pri) (v : ℕ → Tree Scope) (xs ys : List (List ℕ)) (p : Pri) → Stands u v xs ys (free_p p)
        → tree_p number xs (write_p u p) ≡ replaced v (tree_p number ys p)
    replace_p u v xs ys (table_name n) h = h n (Memᴰ.head refl)
    replace_p u v xs ys (bracket e) h = replace_e u v xs ys e h
    replace_p u v xs ys (override e f g) h =
        rw (
          replace_e u v xs ys e (λ n m. h n (Memᴰ.append_left _ m)),
          replace_e u v xs ys f (λ n m. h n (Memᴰ.append_right (free_e e) (Memᴰ.append_left _ m))),
          replace_e u v xs ys g (λ n m. h n (Memᴰ.append_right (free_e e) (Memᴰ.append_right (free_e f) m))),
        ) refl
    replace_p u v xs ys (template x e f) h =
        ap₂ Algebra.template (replace_e _ _ (renamed u x e ∷ xs) (x ∷ ys) e (stands_under u v xs ys x e (λ n m. h n (Memᴰ.append_left _ m))))
        (replace_e u v xs ys f (λ n m. h n (Memᴰ.append_right (without x (free_e e)) m)))

  -- ---- "the expression with `(F)` written for each free x, bound names renamed where they would capture"
  pub written_tree : (xs : List (List ℕ)) (x : List ℕ) (e f : Exp) → tree_e number xs (written x e f) ≡ filled (tree_e number (x ∷ xs) e) (tree_e number xs f)
  unfolding written filled tree_e
  written_tree xs x e f = replace_e (put x (bracket f) table_name) (bind (tree_e number xs f) Algebra.table) xs (x ∷ xs) e stands
    where
      stands : Stands (put x (bracket f) table_name) (bind (tree_e number xs f) Algebra.table) xs (x ∷ xs) (free_e e)
      stands n m =
          by_name n x (λ d. rw (put_same x (bracket f) table_name n d, table_bound number x xs n d))
          (λ d. rw (put_other x (bracket f) table_name n d, table_free number x xs n d))

  -- so whatever goes by a tree's parts is the same, whichever templates are written out
  module _ {ℓ} {D : Type ℓ} (mean : (ℕ → D) → Tree Scope → D) (k : ByParts mean) where
    mean_template : (T : ℕ → D) (e e' f f' : Tree Scope) → ((U : ℕ → D) → mean U e' ≡ mean U e) → mean T f' ≡ mean T f
        → mean T (Algebra.template e' f') ≡ mean T (Algebra.template e f)
    mean_template T e e' f f' p q = k.of_template T e' f' ∙ ap (λ a. mean (bind a T) e') q ∙ p (bind (mean T f) T) ∙ sym (k.of_template T e f)

    mutual
      unfolding tree_e

      mean_e : (T : ℕ → D) (xs : List (List ℕ)) {e e' : Exp} → WrittenE e e' → mean T (tree_e number xs e') ≡ mean T (tree_e number xs e)
      mean_e T xs (in_one w) = mean_f T xs w
      mean_e T xs (in_more {j = j} w v) = k.of_join T j _ _ ∙ ap₂ (k.joins j) (mean_e T xs w) (mean_f T xs v) ∙ sym (k.of_join T j _ _)
      mean_e T xs (again w v) = mean_e T xs v ∙ mean_e T xs w

      mean_f : (T : ℕ → D) (xs : List (List ℕ)) {f f' : Fac} → WrittenF f f' → mean T (tree_f number xs f') ≡ mean T (tree_f number xs f)
      mean_f T xs (in_plain w) = mean_p T xs w
      mean_f T xs (in_scoped {c = c} w) = k.of_scope T _ _ ∙ ap (k.scopes (scope_of number c)) (mean_f T xs w) ∙ sym (k.of_scope T _ _)
      mean_f T xs (in_closed {n = n} w) = k.of_closure T _ _ ∙ ap (k.closes (place (number rule-set n))) (mean_f T xs w) ∙ sym (k.of_closure T _ _)

      mean_p : (T : ℕ → D) (xs : List (List ℕ)) {p p' : Pri} → WrittenP p p' → mean T (tree_p number xs p') ≡ mean T (tree_p number xs p)
      mean_p T xs name_stays = refl
      mean_p T xs (in_bracket w) = mean_e T xs w
      mean_p T xs (in_override w v z) = k.of_override T _ _ _ ∙ rw (mean_e T xs w, mean_e T xs v, mean_e T xs z) refl ∙ sym (k.of_override T _ _ _)
      mean_p T xs (in_template {x = x} w v) = mean_template T _ _ _ _ (λ U. mean_e U (x ∷ xs) w) (mean_e T xs v)
      mean_p T xs (template_out {x = x} {e' = e'} {f' = f'} w v q) =
          ap (λ g. mean T (tree_e number xs g)) q ∙ ap (mean T) (written_tree xs x e' f') ∙ filled_mean mean k T (tree_e number (x ∷ xs) e') (tree_e number xs f')
          ∙ mean_template T _ _ _ _ (λ U. mean_e U (x ∷ xs) w) (mean_e T xs v)

  -- ---- every template written out
  mutual
    unfolding tree_e out_e written_out

    pub out_tree : (xs : List (List ℕ)) (e : Exp) → tree_e number xs (out_e e) ≡ written_out (tree_e number xs e)
    out_tree xs (one f) = out_factor xs f
    out_tree xs (more e j f) = ap₂ (join j) (out_tree xs e) (out_factor xs f)

    out_factor : (xs : List (List ℕ)) (f : Fac) → tree_f number xs (out_f f) ≡ written_out (tree_f number xs f)
    out_factor xs (plain p) = out_primary xs p
    out_factor xs (scoped f c) = ap (scope (scope_of number c)) (out_factor xs f)
    out_factor xs (closed_by f n) = ap (closure (place (number rule-set n))) (out_factor xs f)

    out_primary : (xs : List (List ℕ)) (p : Pri) → tree_p number xs (out_p p) ≡ written_out (tree_p number xs p)
    out_primary xs (table_name n) = refl
    out_primary xs (bracket e) = out_tree xs e
    out_primary xs (override e f g) = rw (out_tree xs e, out_tree xs f, out_tree xs g) refl
    out_primary xs (template x e f) = written_tree xs x (out_e e) (out_e f) ∙ ap₂ filled (out_tree (x ∷ xs) e) (out_tree xs f)

-- ---- what specs/Statements.antt states
pub written_answers : WrittenAnswers
written_answers number M lim T xs e e' w = mean_e number (answer M lim) (answer_parts M lim) T xs w

pub written_sets : WrittenSets
written_sets number M Inst S xs e e' w = mean_e number (Holds M Inst) (set_parts M Inst) S xs w

mutual
  none_written : (e : Exp) → WrittenE e e
  none_written (one f) = in_one (none_written_factor f)
  none_written (more e j f) = in_more (none_written e) (none_written_factor f)

  none_written_factor : (f : Fac) → WrittenF f f
  none_written_factor (plain p) = in_plain (none_written_primary p)
  none_written_factor (scoped f c) = in_scoped (none_written_factor f)
  none_written_factor (closed_by f n) = in_closed (none_written_factor f)

  none_written_primary : (p : Pri) → WrittenP p p
  none_written_primary (table_name n) = name_stays
  none_written_primary (bracket e) = in_bracket (none_written e)
  none_written_primary (override e f g) = in_override (none_written e) (none_written f) (none_written g)
  none_written_primary (template x e f) = in_template (none_written e) (none_written f)

mutual
  unfolding out_e

  all_written : (e : Exp) → WrittenE e (out_e e)
  all_written (one f) = in_one (all_written_factor f)
  all_written (more e j f) = in_more (all_written e) (all_written_factor f)

  all_written_factor : (f : Fac) → WrittenF f (out_f f)
  all_written_factor (plain p) = in_plain (all_written_primary p)
  all_written_factor (scoped f c) = in_scoped (all_written_factor f)
  all_written_factor (closed_by f n) = in_closed (all_written_factor f)

  all_written_primary : (p : Pri) → WrittenP p (out_p p)
  all_written_primary (table_name n) = name_stays
  all_written_primary (bracket e) = in_bracket (all_written e)
  all_written_primary (override e f g) = in_override (all_written e) (all_written f) (all_written g)
  all_written_primary (template x e f) = template_out (all_written e) (all_written f) refl

pub ways_to_write : WaysToWrite
ways_to_write = (none_written, (λ x e f. template_out (none_written e) (none_written f) refl), all_written)

pub out_is_written_out : OutIsWrittenOut
unfolding tree_of
out_is_written_out number e = out_tree number [] e

pub nothing_captured : NothingCaptured
nothing_captured u x e n m d = renamed_apart u x e n m (differ n x d)

pub renamed_where_needed : RenamedWhereNeeded
renamed_where_needed u x e h = renamed_kept u x e h
