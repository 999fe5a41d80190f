-- What the calls promise, from their equations and the theorems of the demands.
use mathlib.Core.Path.{◌≡◌, sym, ap, ◌∙◌}
use mathlib.Core.Bool.{Bool, true}
use mathlib.Core.List.{List}
use Prim.Native.Nat.{ℕ}
use lib.ListN.{get_or}
use Rattle.engine.specs.Calls as Calls
use Rattle.engine.specs.Calls.{compose, decide}
use Rattle.engine.specs.Demands.{Says, composed, decided}
use Rattle.engine.proofs.Demands.{demands}
use Rattle.composing.specs.Composition.{composed_of}
use Rattle.deciding.specs.Decision.{decided_of}
use Rattle.snowdell.specs.Promised.{Promised, compose_says, decide_says}
use Rattle.std.specs.Prelude.{Result, Ok, Err}
use Rattle.rows.specs.declared.Refused.{Refused}
use Rattle.composing.specs.declared.Composed.{Composed}
use Rattle.deciding.specs.declared.Decided.{Decided}

abbrev brings : (ℕ → ℕ → Bool) → ℕ → ℕ → Type 0
brings later n y = later n y ≡ true

promised : (f : List ℕ) (says : ℕ → ℕ → Type 0) → ((x b : ℕ) → says x b → Says f x b) → Promised f says
promised f says is = record {
  permit_in = λ later x h. (demands.sound f).permit_in (brings later) x (is x 2 h);
  deny_out = λ later x h. (demands.sound f).deny_out (brings later) x (is x 0 h);
  three_answers = λ x b h. (demands.sound f).three_answers x b (is x b h);
  decided_iff = λ later x b h n. (demands.sound f).decided_iff (brings later) x b (is x b h) n;
  none_undecided = λ all x h. (demands.complete f).none_undecided all x (is x 1 h);
  permit_iff = λ all later x b h. (demands.complete f).permit_iff all (brings later) x b (is x b h);
  permit_stays = λ f' later x b h g. (demands.stable f f').permit_stays later x b (is x 2 h) g;
  deny_stays = λ f' later x b h g. (demands.stable f f').deny_stays later x b (is x 0 h) g;
}

-- the equation, and what follows from it
pub compose_promises : (f r m : List ℕ) (c : Result Composed Refused) (r' m' : List ℕ) → composed_of c r' m' ≡ compose f r m
    → (composed_of c r' m' ≡ compose f r m) × Promised f (compose_says c r')
compose_promises f r m c r' m' e = (e, promised f (compose_says c r') (says c e))
  where
    says : (c : Result Composed Refused) → composed_of c r' m' ≡ compose f r m → (x b : ℕ) → compose_says c r' x b → Says f x b
    says (Ok a) e x b h = composed (record {
      result = r;
      memory = m;
      is_accepted = ap (λ (y : Calls.Composed). y.number) (sym e);
      is_access = rw⁻¹ (ap (λ (y : Calls.Composed). y.accesses) e) h.0;
      is_byte = ap (λ (y : Calls.Composed). get_or y.result x 0) (sym e) ∙ h.1;
    })
    says (Err k) e x b h = absurd h

pub decide_promises : (f s o a m : List ℕ) (c : Result Decided Refused) (m' : List ℕ) → decided_of c m' ≡ decide f s o a m
    → (decided_of c m' ≡ decide f s o a m) × Promised f (decide_says f s o a c)
decide_promises f s o a m c m' e = (e, promised f (decide_says f s o a c) (says c e))
  where
    says : (c : Result Decided Refused) → decided_of c m' ≡ decide f s o a m → (x b : ℕ) → decide_says f s o a c x b → Says f x b
    says (Ok d) e x b h = decided (record {
      subject_name = s;
      object_name = o;
      action_name = a;
      memory = m;
      is_accepted = ap (λ (y : Calls.Decided). y.number) (sym e);
      is_access = h.0;
      is_byte = ap (λ (y : Calls.Decided). y.answer) (sym e) ∙ h.1;
    })
    says (Err k) e x b h = absurd h
