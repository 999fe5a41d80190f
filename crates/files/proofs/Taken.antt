-- What a reader with a bound gives to an empty list.
use Rattle.std.specs.Prelude.{◌≡◌, ℕ, List, [], ◌++◌, take, Option, Some, None, IfSome}
use Rattle.std.specs.Option.{option_map}
use mathlib.Core.Path.{ap, ◌∙◌}

pub taken : (left : Option (List ℕ)) (most k : ℕ) (start text : List ℕ) → k ≡ most → start ≡ []
    → IfSome (option_map (take k) left) (λ xs. text ≡ start ++ xs) → IfSome left (λ xs. text ≡ take most xs)
taken None most k start text ek es h = tt
taken (Some xs) most k start text ek es h = h ∙ ap (λ (l : List ℕ). l ++ take k xs) es ∙ ap (λ (n : ℕ). take n xs) ek
