-- Templates written out: "the expression with `(F)` written for each free x, bound names renamed where they would capture".
use Rattle.std.specs.Prelude.{◌≡◌, true, false, List, [], ◌∷◌, ◌++◌, ℕ}
use Rattle.algebra.specs.Lists.{gather}
use Rattle.algebra.specs.Answer.{Joiner}
use Rattle.grammar.specs.Expression.{Scope, Exp, one, more, Fac, plain, scoped, closed_by, Pri, table_name, bracket, override, template}
use Rattle.grammar.specs.Lookup.{same}
use Rattle.grammar.specs.Fresh.{is_among, without, fresh}

-- ---- the names that stand free where a table's name belongs
unfoldable mutual
  unfolding without

  pub free_e : Exp → List (List ℕ)
  free_e (one f) = free_f f
  free_e (more e j f) = free_e e ++ free_f f

  pub free_f : Fac → List (List ℕ)
  free_f (plain p) = free_p p
  free_f (scoped f c) = free_f f
  free_f (closed_by f n) = free_f f

  pub free_p : Pri → List (List ℕ)
  free_p (table_name n) = n ∷ []
  free_p (bracket e) = free_e e
  free_p (override e f g) = free_e e ++ (free_e f ++ free_e g)
  free_p (template x e f) = without x (free_e e) ++ free_e f

-- ---- what is written for a name; p for x, and for the others as before
unfoldable pub put : List ℕ → Pri → (List ℕ → Pri) → List ℕ → Pri
put x p u n = elim (same n x) [ true ↦ p | false ↦ u n ]

-- the names that stand free in what is written for the free names of e but x
unfoldable pub others : (List ℕ → Pri) → List ℕ → Exp → List (List ℕ)
unfolding free_e without
others u x e = gather (λ n. free_p (u n)) (without x (free_e e))

-- the name that is bound in x's place: a fresh one where x would capture one of these, and else x
unfoldable pub renamed : (List ℕ → Pri) → List ℕ → Exp → List ℕ
unfolding others is_among fresh
renamed u x e = elim (is_among x (others u x e)) [ true ↦ fresh (others u x e) | false ↦ x ]

-- u n for each name n that stands free
unfoldable mutual
  unfolding put renamed

  pub write_e : (List ℕ → Pri) → Exp → Exp
  write_e u (one f) = one (write_f u f)
  write_e u (more e j f) = more (write_e u e) j (write_f u f)

  pub write_f : (List ℕ → Pri) → Fac → Fac
  write_f u (plain p) = plain (write_p u p)
  write_f u (scoped f c) = scoped (write_f u f) c
  write_f u (closed_by f n) = closed_by (write_f u f) n

  pub write_p : (List ℕ → Pri) → Pri → Pri
  write_p u (table_name n) = u n
  write_p u (bracket e) = bracket (write_e u e)
  write_p u (override e f g) = override (write_e u e) (write_e u f) (write_e u g)
  write_p u (template x e f) = let y = renamed u x e in template y (write_e (put x (table_name y) u) e) (write_e u f)

-- E with `(F)` for each free x
unfoldable pub written : List ℕ → Exp → Exp → Exp
unfolding write_e put
written x e f = write_e (put x (bracket f) table_name) e

-- ---- every template of an expression written out, so that none is left
unfoldable mutual
  unfolding written

  pub out_e : Exp → Exp
  out_e (one f) = one (out_f f)
  out_e (more e j f) = more (out_e e) j (out_f f)

  pub out_f : Fac → Fac
  out_f (plain p) = plain (out_p p)
  out_f (scoped f c) = scoped (out_f f) c
  out_f (closed_by f n) = closed_by (out_f f) n

  pub out_p : Pri → Pri
  out_p (table_name n) = table_name n
  out_p (bracket e) = bracket (out_e e)
  out_p (override e f g) = override (out_e e) (out_e f) (out_e g)
  out_p (template x e f) = bracket (written x (out_e e) (out_e f))

-- ---- some templates of an expression written out, none or all, each as a bracket, at any depth; `again`: and then some of what this gives
mutual
  pub data WrittenE : Exp → Exp → Type 0 where
    in_one : {f f' : Fac} → WrittenF f f' → WrittenE (one f) (one f')
    in_more : {e e' : Exp} {j : Joiner} {f f' : Fac} → WrittenE e e' → WrittenF f f' → WrittenE (more e j f) (more e' j f')
    again : {e e' e'' : Exp} → WrittenE e e' → WrittenE e' e'' → WrittenE e e''

  pub data WrittenF : Fac → Fac → Type 0 where
    in_plain : {p p' : Pri} → WrittenP p p' → WrittenF (plain p) (plain p')
    in_scoped : {f f' : Fac} {c : Scope} → WrittenF f f' → WrittenF (scoped f c) (scoped f' c)
    in_closed : {f f' : Fac} {n : List ℕ} → WrittenF f f' → WrittenF (closed_by f n) (closed_by f' n)

  pub data WrittenP : Pri → Pri → Type 0 where
    name_stays : {n : List ℕ} → WrittenP (table_name n) (table_name n)
    in_bracket : {e e' : Exp} → WrittenE e e' → WrittenP (bracket e) (bracket e')
    in_override : {e e' f f' g g' : Exp} → WrittenE e e' → WrittenE f f' → WrittenE g g' → WrittenP (override e f g) (override e' f' g')
    in_template : {x : List ℕ} {e e' f f' : Exp} → WrittenE e e' → WrittenE f f' → WrittenP (template x e f) (template x e' f')
    template_out : {x : List ℕ} {e e' f f' g : Exp} → WrittenE e e' → WrittenE f f' → g ≡ written x e' f' → WrittenP (template x e f) (bracket g)
