-- The fields of a line as the code takes them: one from the front, with what follows its comma.
use Rattle.std.specs.Prelude.{cond, List, ◌∷◌, ℕ}
use Rattle.std.proofs.Math.Option.{Option, none, some, map, bind}
use Rattle.algebra.specs.Sort.{Sort, subject, object, action}
use Rattle.algebra.specs.Order.{Op, le, ge, lt, gt, eq}
use Rattle.grammar.specs.Name.{is_name_lem}
use Rattle.grammar.specs.Text.{text}
use Rattle.reader.specs.Text.{fields, before_comma, after_comma}
use Rattle.reader.specs.Line.{Line, of_fields}

-- a text that is a name
abbrev pub name_of : List ℕ → Option (List ℕ)
name_of t = cond (is_name_lem t) (some t) none

-- the first field, and what follows its comma
unfoldable pub first_field : List ℕ → Option (List ℕ × List ℕ)
first_field t = map (λ (rest : List ℕ). (before_comma t, rest)) (after_comma t)

-- what the first field reads as, and what follows its comma
unfoldable pub first_as : {A : Type 0} → (List ℕ → Option A) → List ℕ → Option (A × List ℕ)
first_as {A} read t = bind (first_field t) (λ (p : List ℕ × List ℕ). map (λ (x : A). (x, p.1)) (read p.0))

-- ---- what a line says, by its kind and the text after the kind's comma

unfoldable pub of_kind : List ℕ → List ℕ → Option Line
of_kind k t = of_fields (k ∷ fields t)

-- the kind of a member's line
abbrev pub kind_of : Sort → List ℕ
kind_of subject = text "S"
kind_of object = text "O"
kind_of action = text "A"

-- the word of a comparison, the first of a body's line that compares
abbrev pub op_text : Op → List ℕ
op_text le = text "le"
op_text ge = text "ge"
op_text lt = text "lt"
op_text gt = text "gt"
op_text eq = text "eq"

-- a body's line, by its first word and the text after that word's comma
unfoldable pub of_body : List ℕ → List ℕ → Option Line
of_body w t = of_fields (text "B" ∷ w ∷ fields t)
