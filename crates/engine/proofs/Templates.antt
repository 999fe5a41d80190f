-- The worked cases of templates hold.
use mathlib.Core.Path.{◌≡◌, refl, ap₂, ◌∙◌}
use mathlib.Core.List.{List, [], ◌∷◌, map}
use Rattle.algebra.specs.Answer.{plus-sign}
use Rattle.grammar.specs.Text.{text}
use Rattle.grammar.specs.Expression.{Exp, one, more, plain, closed_by, table_name, template, text_e, WellFormed}
use Rattle.grammar.specs.WrittenOut.{out_e}
use Rattle.grammar.proofs.Reading.{readings_are_trees}
use Rattle.grammar.proofs.WrittenOut.{ways_to_write}
use Rattle.reader.specs.WrittenFile.{same, written, WrittenFile}
use Rattle.reader.proofs.Computed.{computed_file}
use Rattle.engine.specs.Listing.{listing}
use Rattle.engine.specs.Templates.{used_twice, written_twice, Printed, templates, WorkedTemplates}
use Rattle.engine.proofs.Computed.{computed_listing, listing_computed}

each : (cs : List Printed) → map (λ (c : Printed). listing c.file) cs ≡ map (λ (c : Printed). computed_listing c.file) cs
each [] = refl
each (c ∷ cs) = ap₂ ◌∷◌ (listing_computed c.file) (each cs)

computed : map (λ (c : Printed). computed_listing c.file) templates ≡ map (λ (c : Printed). text c.output) templates
unfolding templates computed_listing
computed = refl

-- the expression of the file in which x is used twice
x_twice : Exp
x_twice = let x = plain (table_name (text "x")) in
    one (plain (template (text "x") (more (one x) plus-sign x) (one (closed_by (plain (table_name (text "forms"))) (text "down")))))

twice_formed : WellFormed x_twice
unfolding computed_file x_twice
twice_formed = (readings_are_trees (text_e x_twice) x_twice refl).1

out_formed : WellFormed (out_e x_twice)
unfolding computed_file x_twice out_e
out_formed = (readings_are_trees (text_e (out_e x_twice)) (out_e x_twice) refl).1

written_out : WrittenFile used_twice written_twice
unfolding WrittenFile computed_file x_twice out_e
written_out =
    let e-line = written 4096 x_twice (out_e x_twice) twice_formed refl out_formed refl (ways_to_write.2 x_twice) in
    same (same (same (same (same (same (same (same (same (same e-line)))))))))

pub worked_templates : WorkedTemplates
unfolding WorkedTemplates
worked_templates = (each templates ∙ computed, written_out)
