-- Names are equal where their lists are: what else is known of them has at most one proof. Assumes nothing.
use Rattle.std.proofs.Common.{◌≡◌, ℕ, ◌≤◌, length}
use mathlib.Core.HLevel.{is_prop→PathP}
use Rattle.std.specs.Coded.{le_prop}
use Rattle.names.specs.declared.table.Names.{Names}

pub same_names : {A K : ℕ} {a b : Names A K} → a.subjects ≡ b.subjects → a.objects ≡ b.objects → a.actions ≡ b.actions
    → a.predicates ≡ b.predicates → a.tables ≡ b.tables → a.sets ≡ b.sets → a ≡ b
same_names {A} {K} {a} {b} s o x p t r =
    λ i. record {
      subjects = s i;
      objects = o i;
      actions = x i;
      predicates = p i;
      tables = t i;
      sets = r i;
      few_actions = le_prop a.few_actions b.few_actions i;
      few_others = le_prop a.few_others b.few_others i;
      few_predicates = is_prop→PathP (λ j. length (p j).items ≤ K) (λ j. le_prop) a.few_predicates b.few_predicates i;
      few_tables = is_prop→PathP (λ j. length (t j).items ≤ K) (λ j. le_prop) a.few_tables b.few_tables i;
      few_sets = is_prop→PathP (λ j. length (r j).items ≤ K) (λ j. le_prop) a.few_sets b.few_sets i;
    }
