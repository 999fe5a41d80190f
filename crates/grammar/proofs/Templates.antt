-- Worked examples of templates, computed from the definitions: the refusals 12, 13, 14 and 16 of some texts, and some texts written out. Assumes nothing.
use mathlib.Core.Path.{◌≡◌, refl}
use mathlib.Core.Bool.{Bool, true, false, ◌||◌}
use mathlib.Core.List.{List, [], ◌∷◌, map}
use mathlib.Core.Option.{none, some}
use Prim.Native.Nat.{ℕ}
use Prim.Native.String.{String}
use lib.Dec.{ltb}
use Rattle.algebra.specs.Sort.{subject, object, action}
use Rattle.algebra.specs.Algebra.{Tree, held, operators, bindings}
use Rattle.algebra.specs.Policy.{Scope}
use Rattle.grammar.specs.Text.{text}
use Rattle.grammar.specs.Expression.{Exp, one, more, Fac, plain, scoped, closed_by, Pri, table_name, bracket, override, template, text_e}
use Rattle.grammar.specs.Machine.{read, wrong, reading}
use Rattle.grammar.specs.Names.{Kind, table, rule-set, member, predicate, missing}
use Rattle.grammar.specs.Lookup.{same}
use Rattle.grammar.specs.Tree.{tree_of}
use Rattle.grammar.specs.WrittenOut.{written, out_e}

-- a table `b`, a subject `x`, an object `y` and an action `z`
declared : Kind → List ℕ → Bool
declared table n = same n (text "b")
declared rule-set n = false
declared (member subject) n = same n (text "x")
declared (member object) n = same n (text "y")
declared (member action) n = same n (text "z")
declared (predicate s) n = false

data Verdict : Type 0 where
  good : Verdict
  bad-12 bad-13 : ℕ → Verdict
  bad-14 bad-16 : Verdict

sized : Tree Scope → Verdict
sized t = elim (ltb 14 (held t) || ltb 64 (operators t)) [ true ↦ bad-14 | false ↦ elim (ltb 4 (bindings t)) [ true ↦ bad-16 | false ↦ good ] ]

verdict : String → Verdict
unfolding reading missing tree_of sized
verdict t = elim (reading (text t)) [ read e ↦ elim (missing declared e) [ none ↦ sized (tree_of (λ k n. some 0) e) | some p ↦ bad-13 p ] | wrong p ↦ bad-12 p ]

examples : List (String × Verdict)
examples =
    ("(t:x.x)", bad-12 7)
    ∷ ("(t:x.x)+b", bad-12 7)
    ∷ ("((t:x.x))(b)", bad-12 8)
    ∷ ("(t:x.x)^[s=x](b)", bad-12 7)
    ∷ ("(t:x.x)(b)(b)", bad-12 10)
    ∷ ("(t:x.t:y.x)(b)", bad-12 6)
    ∷ ("(t:x.x)(b,b)", bad-12 9)
    ∷ ("(t:x,b)(b)", bad-12 4)
    ∷ ("(t:x.x,b)(b)", bad-12 6)
    ∷ ("(t:x.x)(", bad-12 8)
    ∷ ("b*t", bad-12 3)
    ∷ ("b^[s=t]", bad-12 6)
    ∷ ("b^[t(s)]", bad-12 4)
    ∷ ("b^[t<=x]", bad-12 4)
    ∷ ("(t)", bad-12 2)
    ∷ ("(t", bad-12 2)
    ∷ ("t", bad-12 1)
    ∷ ("t:x.x", bad-12 1)
    ∷ ("b+t:x.x", bad-12 3)
    ∷ ("o(t:x.x)(b)", bad-12 3)
    ∷ ("(t:x.x)(t:y.y)(b)", bad-12 9)
    ∷ ("(t:x.x)((t:y.y)(b))", good)
    ∷ ("(t:x.x)(b)", good)
    ∷ ("(t:s.b)(b)", bad-12 4)
    ∷ ("(t:t.b)(b)", bad-12 4)
    ∷ ("(t:1.b)(b)", bad-12 3)
    ∷ ("(t:.b)(b)", bad-12 3)
    ∷ ("(t:xxxxxxxxxxxxxxxxxxxxxxxxx.b)(b)", bad-12 27)
    ∷ ("(t:ss.ss)(b)", good)
    ∷ ("((((((((((((((((((((((((((((((((t:x.x)(b))))))))))))))))))))))))))))))))", good)
    ∷ ("(((((((((((((((((((((((((((((((((t:x.x)(b)))))))))))))))))))))))))))))))))", bad-12 32)
    ∷ ("((((((((((((((((((((((((((((((((t:x.(x))(b))))))))))))))))))))))))))))))))", bad-12 36)
    ∷ ("((((((((((((((((((((((((((((((((t:x.x)((b)))))))))))))))))))))))))))))))))", bad-12 39)
    ∷ ("(t:x.(((((((((((((((((((((((((((((((x))))))))))))))))))))))))))))))))(b)", good)
    ∷ ("(t:q.q)(q)", bad-13 8)
    ∷ ("(t:q.u)(v)", bad-13 5)
    ∷ ("(t:q.q)(b)+q", bad-13 11)
    ∷ ("(t:q.q*q)(b)", bad-13 7)
    ∷ ("(t:q.b^[s=q])(b)", bad-13 10)
    ∷ ("(t:q.b^[q(s)])(b)", bad-13 8)
    ∷ ("(t:x.(t:y.y)(y))(b)", bad-13 13)
    ∷ ("(t:x.(t:y.y)(x))(b)", good)
    ∷ ("(t:b.b)(b)", good)
    ∷ ("(t:x.b+(b+(b+(b+(b+(b+(b+(b+(b+(b+(b+(b+(x)))))))))))))(b)", good)
    ∷ ("(t:x.b+(b+(b+(b+(b+(b+(b+(b+(b+(b+(b+(b+(b+(x))))))))))))))(b)", bad-14)
    ∷ ("(t:x.x)(b+(b+(b+(b+(b+(b+(b+(b+(b+(b+(b+(b+(b+(b))))))))))))))", good)
    ∷ ("(t:x.x)(b+(b+(b+(b+(b+(b+(b+(b+(b+(b+(b+(b+(b+(b+(b)))))))))))))))", bad-14)
    ∷ ("(t:x.(t:x.(t:x.(t:x.x)(b))(b))(b))(b)", good)
    ∷ ("(t:x.(t:x.(t:x.(t:x.(t:x.x)(b))(b))(b))(b))(b)", bad-16)
    ∷ ("(t:q0.(t:q1.(t:q2.(t:q3.(t:q4.b)(b))(b))(b))(b))(b)", bad-16)
    ∷ ("(t:x.(t:x.(t:x.(t:x.x)((t:x.x)(b)))(b))(b))(b)", good)
    ∷ ("(t:x.(t:x.(t:x.(t:x.x)((t:x.(t:x.x)(x))(x)))(x))(x))(b)", bad-16)
    ∷ ("(t:x.(t:x.(t:x.(t:x.(t:x.nobody)(b))(b))(b))(b))(b)", bad-13 25)
    ∷ []

as_claimed : map (λ x. verdict x.0) examples ≡ map (λ x. x.1) examples
unfolding verdict sized examples declared same held operators bindings
as_claimed = refl

-- ---- written out: a template's text, and the text with `(F)` for each free x
template_p : Pri → List ℕ
unfolding written text_e
template_p (table_name n) = []
template_p (bracket e) = []
template_p (override e f g) = []
template_p (template x e f) = text_e (written x e f)

template_f : Fac → List ℕ
unfolding template_p
template_f (plain p) = template_p p
template_f (scoped f c) = []
template_f (closed_by f n) = []

template_e : Exp → List ℕ
unfolding template_f
template_e (one f) = template_f f
template_e (more e j f) = []

filled_in : String → List ℕ
unfolding reading template_e
filled_in t = elim (reading (text t)) [ read e ↦ template_e e | wrong p ↦ [] ]

-- x used twice, x not used, x in an inner F, x hidden in an inner E but not in its F; a capture, one that is none since x does not stand there,
-- a fresh name that is taken, and an inner bound name that would capture it
fillings : List (String × String)
fillings =
    ("(t:x.x+x)(b*r)", "(b*r)+(b*r)")
    ∷ ("(t:x.b)(u)", "b")
    ∷ ("(t:x.(t:y.y)(x))(b)", "(t:y.y)((b))")
    ∷ ("(t:b.(t:b.b)(b))(u)", "(t:b.b)((u))")
    ∷ ("(t:x.(t:b.b+x)(u))(b)", "(t:aaaa.aaaa+(b))(u)")
    ∷ ("(t:x.(t:b.b)(x))(b)", "(t:b.b)((b))")
    ∷ ("(t:x.(t:b.b+x+aaaa)(u))(b)", "(t:baaa.baaa+(b)+aaaa)(u)")
    ∷ ("(t:x.(t:b.(t:aaaa.aaaa+b+x)(u))(u))(b)", "(t:aaaa.(t:baaa.baaa+aaaa+(b))(u))(u)")
    ∷ []

as_filled : map (λ x. filled_in x.0) fillings ≡ map (λ x. text x.1) fillings
unfolding filled_in fillings same
as_filled = refl

-- every template written out, and the same text
written_out : String → List ℕ
unfolding reading out_e text_e
written_out t = elim (reading (text t)) [ read e ↦ text_e (out_e e) | wrong p ↦ [] ]

none_left : written_out "(t:x.(t:b.b+x)(u))(b)-b" ≡ text "(((u)+(b)))-b"
unfolding written_out same
none_left = refl
