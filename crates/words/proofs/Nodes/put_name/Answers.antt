use Rattle.std.proofs.Common.{sym, ap, ◌∙◌}
use Rattle.names.specs.Looks.{lookup_of}
use Rattle.words.specs.Cells.{stored}
use Rattle.words.proofs.Puts.{settled_named, named_stored}
use Rattle.words.proofs.Nodes.put_name.Goals as goal

pub returns-then-is_settled : goal.returns-then-is_settled
returns-then-is_settled g c =
    c.put.ensures ∙ ap (stored c.args.self.now) c.node.ensures ∙ settled_named _ _ _ _ _ (sym c.is_settled.ensures ∙ c.if-is_settled.true)

pub returns : goal.returns
returns g c =
    let names = c.args.names.now in
    c.put-2.ensures ∙ ap (stored c.note-number.new.self) c.node-2.ensures
    ∙ named_stored _ _ _ _ _ (c.look-found.ensures ∙ ap (λ k. lookup_of names k c.args.name.now) c.kind.ensures) c.note-number.ensures.after
    c.note-number.ensures.value
