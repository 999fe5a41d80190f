-- The readers of an expression's parts, which call each other, meet their contracts. The brackets that may be opened fall,
-- and within one bracket the calls are in order.
use Rattle.std.proofs.Common.{rules, refl, sym, ap, ◌∙◌, length, get_or, arith}
use Rattle.std.proofs.lemmas.Result.{err_from_is_err_and}
use Rattle.algebra.specs.Sort.{subject, action}
use Rattle.algebra.specs.declared.Sort.TheVariants.{Subject, Object, Action}
use Rattle.grammar.specs.Name.{of_sort, of_template}
use Rattle.name_index.proofs.Same.{part_is}
use Rattle.words.specs.Contract.{sign_byte, FactorAt, ExpressionAt, TemplateAt}
use Rattle.words.proofs.Words.{seen, sort_is, word_is, n_bounds}
use Rattle.words.proofs.Scopes.{byte_is, byte_isnt}
use Rattle.expressions.specs.Reads.{EndedBy}
use Rattle.expressions.proofs.Goes.{stays_same, stays_then, bound_more, bound_left, past_ok, past_err, ok_at, err_at, last_call}
use Rattle.expressions.proofs.ReaderWays.{past_in, b_part, g_bad, g_past, h_first, h_second, h_third, h_good, p_full, p_part, p_template}
use Rattle.expressions.proofs.ReaderWays.{p_none, p_table, p_word, p_lone, p_full_2, p_override, f_bad, f_join, m_first, m_end, m_bad}
use Rattle.expressions.proofs.ReaderWays.{m_past, m_next, e_bad, e_join, k_none, k_bad, k_good, t_none, t_in, t_open, t_bad, t_join}
use Rattle.expressions.proofs.text_reader.Reader.+parts.Goals as goal

pub expression-returns-in_err-factor : goal.expression-returns-in_err-factor
expression-returns-in_err-factor g t c =
    let p = err_from_is_err_and c.from_residual.result c.from_residual.ensures.1 in
    rw (p.1, p.2) record { part = e_bad _ _ _ _ _ _ _ _ _ c.in_err-factor.ensures.part; stays = tt }

pub expression-returns : goal.expression-returns
expression-returns g t c =
    let s = c.in_ok-factor.ensures in
    last_call ExpressionAt s.stays c.more.result c.more.ensures (λ x m. e_join _ _ _ _ _ _ _ _ _ s.part x m)

pub factor-returns-in_err-primary : goal.factor-returns-in_err-primary
factor-returns-in_err-primary g t c =
    let p = err_from_is_err_and c.from_residual.result c.from_residual.ensures.1 in
    rw (p.1, p.2) record { part = f_bad _ _ _ _ _ _ _ _ _ c.in_err-primary.ensures.part; stays = tt }

pub factor-returns : goal.factor-returns
factor-returns g t c =
    let s = c.in_ok-primary.ensures in
    last_call FactorAt s.stays c.suffixes.result c.suffixes.ensures (λ x m. f_join _ _ _ _ _ _ _ _ _ s.part x m)

pub filling-returns-in_err-self : goal.filling-returns-in_err-self
filling-returns-in_err-self g t c =
    let p = err_from_is_err_and c.from_residual.result c.from_residual.ensures.1 in
    rw (p.1, p.2) record { part = k_none _ _ _ _ _ _ _ _ c.args.self.now.within c.in_err-self.ensures; stays = tt }

pub filling-returns-in_err-part : goal.filling-returns-in_err-part
filling-returns-in_err-part g t c =
    let p = err_from_is_err_and c.from_residual-in_err-part.result c.from_residual-in_err-part.ensures.1 in
    rw (p.1, p.2) record { part = k_bad _ _ _ _ _ _ _ _ c.in_ok-self.ensures _ _ c.in_err-part.ensures.part; stays = tt }

pub filling-returns : goal.filling-returns
filling-returns g t c =
    let s = c.in_ok-part.ensures.stays in
    record {
      part = k_good _ _ _ _ _ _ _ _ c.in_ok-self.ensures _ _ c.in_ok-part.ensures.part c.put.ensures;
      stays = record { text = s.text; names = s.names; bound = s.bound; allow = s.allow };
    }

pub more-loop-joiner-init : goal.more-loop-joiner-init
more-loop-joiner-init g t c =
    record { so_far = m_first _ _ _ _ _ _ c.args.self.now.within; stays = stays_same }

pub more-returns-in_err-factor : goal.more-returns-in_err-factor
more-returns-in_err-factor g t c =
    let p = err_from_is_err_and c.from_residual.result c.from_residual.ensures.1 in
    let i = c.loop-joiner.invariant in
    let s = i.stays in
    let w = c.peek.ensures ∙ ap (λ text. get_or text c.loop-joiner.self.at 0) s.text in
    let f = err_at FactorAt c.in_err-factor.ensures c.args.self.now (record { text = s.text; names = s.names; bound = s.bound; allow = s.allow }) in
    rw (p.1, p.2) record { part = m_bad _ _ _ _ _ _ _ _ i.so_far _ _ w c.in-Some.ensures _ _ _ f; stays = tt }

pub more-loop-joiner-smaller : goal.more-loop-joiner-smaller
more-loop-joiner-smaller g t c =
    let i = c.loop-joiner.invariant in
    let s = i.stays in
    let w = c.peek.ensures ∙ ap (λ text. get_or text c.loop-joiner.self.at 0) s.text in
    let f = ok_at FactorAt c.in_ok-factor.ensures c.args.self.now (record { text = s.text; names = s.names; bound = s.bound; allow = s.allow }) in
    omega (arith, m_past _ _ _ _ _ _ _ _ i.so_far _ _ w c.in-Some.ensures _ _ f, ap length s.text, ap length c.in_ok-factor.ensures.stays.text)

pub more-loop-joiner-preserved : goal.more-loop-joiner-preserved
more-loop-joiner-preserved g t c =
    let i = c.loop-joiner.invariant in
    let s = i.stays in
    let w = c.peek.ensures ∙ ap (λ text. get_or text c.loop-joiner.self.at 0) s.text in
    let f = ok_at FactorAt c.in_ok-factor.ensures c.args.self.now (record { text = s.text; names = s.names; bound = s.bound; allow = s.allow }) in
    let k = c.in_ok-factor.ensures.stays in
    record {
      so_far = m_next _ _ _ _ _ _ _ _ i.so_far _ _ w c.in-Some.ensures _ _ _ f c.put.ensures;
      stays = record { text = k.text ∙ s.text; names = k.names ∙ s.names; bound = k.bound ∙ s.bound; allow = k.allow ∙ s.allow };
    }

pub more-returns : goal.more-returns
more-returns g t c =
    let i = c.loop-joiner.invariant in
    let s = i.stays in
    let w = c.peek.ensures ∙ ap (λ text. get_or text c.loop-joiner.self.at 0) s.text in
    record { part = m_end _ _ _ _ _ _ _ _ i.so_far (seen sign_byte w c.sign.ensures c.in_default.is); stays = s }

pub overridden-returns-in_err-part : goal.overridden-returns-in_err-part
overridden-returns-in_err-part g t c =
    let p = err_from_is_err_and c.from_residual.result c.from_residual.ensures.1 in
    rw (p.1, p.2) record { part = h_first _ _ _ _ _ _ _ _ _ c.in_err-part.ensures.part; stays = tt }

pub overridden-returns-in_err-part-2 : goal.overridden-returns-in_err-part-2
overridden-returns-in_err-part-2 g t c =
    let p = err_from_is_err_and c.from_residual-in_err-part-2.result c.from_residual-in_err-part-2.ensures.1 in
    let one = c.in_ok-part.ensures in
    rw (p.1, p.2) record { part = h_second _ _ _ _ _ _ _ _ _ one.part _ _ (err_at (EndedBy 44) c.in_err-part-2.ensures c.args.self.now one.stays); stays = tt }

pub overridden-returns-in_err-part-3 : goal.overridden-returns-in_err-part-3
overridden-returns-in_err-part-3 g t c =
    let p = err_from_is_err_and c.from_residual-in_err-part-3.result c.from_residual-in_err-part-3.ensures.1 in
    let one = c.in_ok-part.ensures in
    let two = ok_at (EndedBy 44) c.in_ok-part-2.ensures c.args.self.now one.stays in
    let three = err_at (EndedBy 41) c.in_err-part-3.ensures c.args.self.now (stays_then one.stays c.in_ok-part-2.ensures.stays) in
    rw (p.1, p.2) record { part = h_third _ _ _ _ _ _ _ _ _ one.part _ _ two _ _ three; stays = tt }

pub overridden-returns : goal.overridden-returns
overridden-returns g t c =
    let one = c.in_ok-part.ensures in
    let two = ok_at (EndedBy 44) c.in_ok-part-2.ensures c.args.self.now one.stays in
    let e = stays_then one.stays c.in_ok-part-2.ensures.stays in
    let s = stays_then e c.in_ok-part-3.ensures.stays in
    record {
      part = h_good _ _ _ _ _ _ _ _ _ one.part _ _ two _ _ (ok_at (EndedBy 41) c.in_ok-part-3.ensures c.args.self.now e) c.put.ensures;
      stays = record { text = s.text; names = s.names; bound = s.bound; allow = s.allow };
    }

pub part-returns-in_err-expression : goal.part-returns-in_err-expression
part-returns-in_err-expression g t c =
    let p = err_from_is_err_and c.from_residual.result c.from_residual.ensures.1 in
    rw (p.1, p.2) record { part = g_bad _ _ _ _ _ _ _ _ _ c.in_err-expression.ensures.part; stays = tt }

pub part-returns-in_err-self : goal.part-returns-in_err-self
part-returns-in_err-self g t c =
    let p = err_from_is_err_and c.from_residual-in_err-self.result c.from_residual-in_err-self.ensures.1 in
    let s = c.in_ok-expression.ensures.stays in
    rw (p.1, p.2) record { part = g_past _ _ _ _ _ _ _ _ _ c.in_ok-expression.ensures.part _ (past_err s _ _ _ c.in_err-self.ensures); stays = tt }

pub part-invariant_of-self-clause-within : goal.part-invariant_of-self-clause-within
part-invariant_of-self-clause-within g t c =
    (past_in _ _ _ _ c.requires c.in_ok-self.ensures).1

pub part-returns : goal.part-returns
part-returns g t c =
    let s = c.in_ok-expression.ensures.stays in
    record {
      part = g_past _ _ _ _ _ _ _ _ _ c.in_ok-expression.ensures.part _ (past_ok s _ _ _ c.in_ok-self.ensures);
      stays = record { text = s.text; names = s.names; bound = s.bound; allow = s.allow };
    }

pub primary-returns-then-self-eq0 : goal.primary-returns-then-self-eq0
primary-returns-then-self-eq0 g t c =
    record { part = p_full _ _ _ _ _ _ _ (byte_is c.peek.ensures c.if-peek-eq40.true) c.if-self-eq0.true; stays = tt }

pub primary-returns-in_err-template : goal.primary-returns-in_err-template
primary-returns-in_err-template g t c =
    let p = err_from_is_err_and c.from_residual.result c.from_residual.ensures.1 in
    let b = sym c.is_binding.ensures ∙ c.if-is_binding.true in
    rw (p.1, p.2) record {
      part = p_template _ _ _ _ _ _ _ (byte_is c.peek.ensures c.if-peek-eq40.true) c.if-self-eq0.false b _ c.in_err-template.ensures.part;
      stays = tt;
    }

pub primary-returns-in_err-part : goal.primary-returns-in_err-part
primary-returns-in_err-part g t c =
    let p = err_from_is_err_and c.from_residual-in_err-part.result c.from_residual-in_err-part.ensures.1 in
    let b = sym c.is_binding.ensures ∙ c.if-is_binding.false in
    rw (p.1, p.2) record {
      part = p_part _ _ _ _ _ _ _ (byte_is c.peek.ensures c.if-peek-eq40.true) c.if-self-eq0.false b _ c.in_err-part.ensures.part;
      stays = tt;
    }

pub primary-returns-then-is_binding : goal.primary-returns-then-is_binding
primary-returns-then-is_binding g t c =
    let b = sym c.is_binding.ensures ∙ c.if-is_binding.true in
    let s = c.in_ok-template.ensures.stays in
    record {
      part = p_template _ _ _ _ _ _ _ (byte_is c.peek.ensures c.if-peek-eq40.true) c.if-self-eq0.false b _ c.in_ok-template.ensures.part;
      stays = record { text = s.text; names = s.names; bound = s.bound; allow = omega (arith, s.allow, c.if-self-eq0.false) };
    }

pub primary-returns-then-peek-eq40 : goal.primary-returns-then-peek-eq40
primary-returns-then-peek-eq40 g t c =
    let b = sym c.is_binding.ensures ∙ c.if-is_binding.false in
    let s = c.in_ok-part.ensures.stays in
    record {
      part = p_part _ _ _ _ _ _ _ (byte_is c.peek.ensures c.if-peek-eq40.true) c.if-self-eq0.false b _ c.in_ok-part.ensures.part;
      stays = record { text = s.text; names = s.names; bound = s.bound; allow = omega (arith, s.allow, c.if-self-eq0.false) };
    }

pub primary-returns-in_err-end : goal.primary-returns-in_err-end
primary-returns-in_err-end g t c =
    let p = err_from_is_err_and c.from_residual-in_err-end.result c.from_residual-in_err-end.ensures.1 in
    let n = byte_isnt c.peek.ensures c.if-peek-eq40.false in
    rw (p.1, p.2) record {
      part = p_none _ _ _ _ _ _ _ c.args.self.now.within n _ c.in_err-end.ensures;
      stays = tt;
    }

pub primary-slice_bounds-name-count : goal.primary-slice_bounds-name-count
primary-slice_bounds-name-count g t c =
    omega (arith, n_bounds _ _ _ c.in_ok-end.ensures)

pub primary-slice_bounds-name-start : goal.primary-slice_bounds-name-start
primary-slice_bounds-name-start g t c =
    omega (arith, n_bounds _ _ _ c.in_ok-end.ensures)

pub primary-slice_bounds-name-end : goal.primary-slice_bounds-name-end
primary-slice_bounds-name-end g t c =
    omega (arith, n_bounds _ _ _ c.in_ok-end.ensures)

pub primary-returns-in_err-self-in-Some-OfSort-Object : goal.primary-returns-in_err-self-in-Some-OfSort-Object
primary-returns-in_err-self-in-Some-OfSort-Object g t c =
    let p = err_from_is_err_and c.from_residual-in_err-self-in-Some-OfSort-Object.result c.from_residual-in_err-self-in-Some-OfSort-Object.ensures.1 in
    let n = byte_isnt c.peek.ensures c.if-peek-eq40.false in
    let m = c.in-Some-OfSort-Object in
    let w = word_is _ _ _ c.in_ok-end.ensures (sort_is {r = Object} m.field-0-is (rw m.field-0-is at m.field-0-0-is) m.ensures) in
    rw (p.1, p.2) record {
      part = p_lone _ _ _ _ _ _ _ c.args.self.now.within n _ c.in_ok-end.ensures w _ c.in_err-self-in-Some-OfSort-Object.ensures;
      stays = tt;
    }

pub primary-returns-then-self-eq0-2 : goal.primary-returns-then-self-eq0-2
primary-returns-then-self-eq0-2 g t c =
    let n = byte_isnt c.peek.ensures c.if-peek-eq40.false in
    let m = c.in-Some-OfSort-Object in
    let w = word_is _ _ _ c.in_ok-end.ensures (sort_is {r = Object} m.field-0-is (rw m.field-0-is at m.field-0-0-is) m.ensures) in
    record {
      part = p_full_2 _ _ _ _ _ _ _ c.args.self.now.within n _ c.in_ok-end.ensures w _ c.in_ok-self-in-Some-OfSort-Object.ensures c.if-self-eq0-2.true;
      stays = tt;
    }

pub primary-returns-in_err-overridden-in-Some-OfSort-Object : goal.primary-returns-in_err-overridden-in-Some-OfSort-Object
primary-returns-in_err-overridden-in-Some-OfSort-Object g t c =
    let f = c.from_residual-in_err-overridden-in-Some-OfSort-Object in
    let p = err_from_is_err_and f.result f.ensures.1 in
    let n = byte_isnt c.peek.ensures c.if-peek-eq40.false in
    let m = c.in-Some-OfSort-Object in
    let w = word_is _ _ _ c.in_ok-end.ensures (sort_is {r = Object} m.field-0-is (rw m.field-0-is at m.field-0-0-is) m.ensures) in
    rw (p.1, p.2) record {
      part = p_override _ _ _ _ _ _ _ c.args.self.now.within n _ c.in_ok-end.ensures w _ c.in_ok-self-in-Some-OfSort-Object.ensures c.if-self-eq0-2.false _
          c.in_err-overridden-in-Some-OfSort-Object.ensures.part;
      stays = tt;
    }

pub primary-returns-in_ok-overridden-in-Some-OfSort-Object : goal.primary-returns-in_ok-overridden-in-Some-OfSort-Object
primary-returns-in_ok-overridden-in-Some-OfSort-Object g t c =
    let n = byte_isnt c.peek.ensures c.if-peek-eq40.false in
    let m = c.in-Some-OfSort-Object in
    let w = word_is _ _ _ c.in_ok-end.ensures (sort_is {r = Object} m.field-0-is (rw m.field-0-is at m.field-0-0-is) m.ensures) in
    let s = c.in_ok-overridden-in-Some-OfSort-Object.ensures.stays in
    record {
      part = p_override _ _ _ _ _ _ _ c.args.self.now.within n _ c.in_ok-end.ensures w _ c.in_ok-self-in-Some-OfSort-Object.ensures c.if-self-eq0-2.false _
          c.in_ok-overridden-in-Some-OfSort-Object.ensures.part;
      stays = record { text = s.text; names = s.names; bound = s.bound; allow = omega (arith, s.allow, c.if-self-eq0-2.false) };
    }

pub primary-returns-in-None : goal.primary-returns-in-None
primary-returns-in-None g t c =
    let n = byte_isnt c.peek.ensures c.if-peek-eq40.false in
    let name = part_is c.args.self.now.at c.in_ok-end.end c.args.self.now.text.now (omega (arith, n_bounds _ _ _ c.in_ok-end.ensures)) in
    record {
      part = p_table _ _ _ _ _ _ _ c.args.self.now.within n _ c.in_ok-end.ensures (word_is _ _ _ c.in_ok-end.ensures c.in-None.ensures)
          (rw name at c.put_table.ensures);
      stays = record { text = refl; names = refl; bound = refl; allow = refl };
    }

pub primary-returns-in-Some-OfSort-Subject : goal.primary-returns-in-Some-OfSort-Subject
primary-returns-in-Some-OfSort-Subject g t c =
    let n = byte_isnt c.peek.ensures c.if-peek-eq40.false in
    let m = c.in-Some-OfSort-Subject in
    let w = word_is _ _ _ c.in_ok-end.ensures (sort_is {r = Subject} m.field-0-is (rw m.field-0-is at m.field-0-0-is) m.ensures) in
    record { part = p_word _ _ _ _ _ _ _ c.args.self.now.within n _ c.in_ok-end.ensures (of_sort subject) w (λ e. cc); stays = tt }

pub primary-returns-in-Some-OfSort-Action : goal.primary-returns-in-Some-OfSort-Action
primary-returns-in-Some-OfSort-Action g t c =
    let n = byte_isnt c.peek.ensures c.if-peek-eq40.false in
    let m = c.in-Some-OfSort-Action in
    let w = word_is _ _ _ c.in_ok-end.ensures (sort_is {r = Action} m.field-0-is (rw m.field-0-is at m.field-0-0-is) m.ensures) in
    record { part = p_word _ _ _ _ _ _ _ c.args.self.now.within n _ c.in_ok-end.ensures (of_sort action) w (λ e. cc); stays = tt }

pub primary-returns-in-Some-OfTemplate : goal.primary-returns-in-Some-OfTemplate
primary-returns-in-Some-OfTemplate g t c =
    let n = byte_isnt c.peek.ensures c.if-peek-eq40.false in
    let m = c.in-Some-OfTemplate in
    let w = word_is _ _ _ c.in_ok-end.ensures (rw m.field-0-is at m.ensures) in
    record { part = p_word _ _ _ _ _ _ _ c.args.self.now.within n _ c.in_ok-end.ensures of_template w (λ e. cc); stays = tt }

pub template-returns-in_err-to : goal.template-returns-in_err-to
template-returns-in_err-to g t c =
    let p = err_from_is_err_and c.from_residual.result c.from_residual.ensures.1 in
    rw (p.1, p.2) record { part = t_none _ _ _ _ _ _ _ _ c.in_err-to.ensures; stays = tt }

pub template-past-requires : goal.template-past-requires
template-past-requires g t c =
    (t_in _ _ _ c.in_ok-to.ensures).1

pub template-returns-in_err-self : goal.template-returns-in_err-self
template-returns-in_err-self g t c =
    let p = err_from_is_err_and c.from_residual-in_err-self.result c.from_residual-in_err-self.ensures.1 in
    rw (p.1, p.2) record { part = t_open _ _ _ _ _ _ _ _ c.in_ok-to.ensures _ c.in_err-self.ensures; stays = tt }

pub template-slice_bounds-push-count : goal.template-slice_bounds-push-count
template-slice_bounds-push-count g t c =
    omega (arith, t_in _ _ _ c.in_ok-to.ensures)

pub template-slice_bounds-push-start : goal.template-slice_bounds-push-start
template-slice_bounds-push-start g t c =
    omega (arith, t_in _ _ _ c.in_ok-to.ensures)

pub template-returns-in_err-part : goal.template-returns-in_err-part
template-returns-in_err-part g t c =
    let p = err_from_is_err_and c.from_residual-in_err-part.result c.from_residual-in_err-part.ensures.1 in
    let n = t_in _ _ _ c.in_ok-to.ensures in
    let x = bound_more c.args.self.now.bound.items _ c.args.self.now.text.now _ _ c.push.ensures.items refl (omega (arith, n)) in
    rw (p.1, p.2) record {
      part = t_bad _ _ _ _ _ _ _ _ c.in_ok-to.ensures _ c.in_ok-self.ensures _ _ (b_part _ _ _ _ _ _ _ _ x c.in_err-part.ensures.part);
      stays = tt;
    }

pub template-returns : goal.template-returns
template-returns g t c =
    let n = t_in _ _ _ c.in_ok-to.ensures in
    let x = bound_more c.args.self.now.bound.items _ c.args.self.now.text.now _ _ c.push.ensures.items refl (omega (arith, n)) in
    let s = c.in_ok-part.ensures.stays in
    last_call TemplateAt {r₀ = c.args.self.now}
    (record { text = s.text; names = s.names; bound = bound_left _ _ c.push.ensures.items s.bound (search rules); allow = s.allow })
    c.filling.result c.filling.ensures
    (λ y f. t_join _ _ _ _ _ _ _ _ c.in_ok-to.ensures _ c.in_ok-self.ensures _ _ (b_part _ _ _ _ _ _ _ _ x c.in_ok-part.ensures.part) _ f)
