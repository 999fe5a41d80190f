-- What the values stand for that the code makes of a line: its names are slices of the file.
use Rattle.std.specs.Prelude as std
use Rattle.std.proofs.Math.Option.{Option, none, some}
use Rattle.algebra.specs.Meant.{sort_meant, op_meant}
use Rattle.reader.specs.Line.{Spelled, named, variable, grant_body, order_body, has_body}
use Rattle.reader.specs.Line.{Line, member_line, predicate_line, table_line_lem, grant_line, rule_line, body_line, expression_line}
use Rattle.lines.specs.declared.word.Word.{Word}
use Rattle.lines.specs.declared.word.Word.TheVariants.{Name, Variable}
use Rattle.lines.specs.declared.line.Parsed.{Parsed}
use Rattle.lines.specs.declared.line.Parsed.TheVariants.{Root, Child, Predicate, Table, Grant, Rule, GrantBody, OrderBody, HasBody, Expression}

-- Rust's Option as the one of the definitions, its value as what it stands for
abbrev pub maybe_map : {A B : Type 0} → (A → B) → std.Option A → Option B
maybe_map g std.None = none
maybe_map g (std.Some x) = some (g x)

-- a term of a rule
abbrev pub word_of : Word → Spelled
word_of (Name n) = named n.now
word_of (Variable v) = variable v.number

-- a line
abbrev pub line_of : Parsed → Line
line_of (Root s n) = member_line (sort_meant s) n.now none
line_of (Child s n p) = member_line (sort_meant s) n.now (some p.now)
line_of (Predicate s p m) = predicate_line (sort_meant s) p.now m.now
line_of (Table t h) = table_line_lem t.now h
line_of (Grant t s o a) = grant_line t.now s.now o.now a.now
line_of (Rule r s o a) = rule_line r.now (word_of s) (word_of o) (word_of a)
line_of (GrantBody s o a) = body_line (grant_body (word_of s) (word_of o) (word_of a))
line_of (OrderBody k s x y) = body_line (order_body (op_meant k) (sort_meant s) (word_of x) (word_of y))
line_of (HasBody s p x) = body_line (has_body (sort_meant s) p.now (word_of x))
line_of (Expression n t) = expression_line n t.now
