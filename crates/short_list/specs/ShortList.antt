-- What a contract sees of a short list.
use Rattle.std.specs.Prelude.{List, [], ◌∷◌, ◌++◌, ℕ, ◌-◌, length, drop, replicate}

-- the items in order, and what stands in the places behind them
pub record ShortList (T : Type 0) : Type 0 where
  pub items : List T
  pub behind : List T

module _ {T : Type 0} where
  -- how many items there are
  abbrev pub how_many : ShortList T → ℕ
  how_many l = length l.items

  -- a list with n places that has these items, and x in each place behind them
  abbrev pub with_items : ℕ → T → List T → ShortList T
  with_items n x xs = record { items = xs; behind = replicate (n - length xs) x }

  -- with an item more at the end, in the first of the places behind
  abbrev pub pushed : ShortList T → T → ShortList T
  pushed l x = record { items = l.items ++ (x ∷ []); behind = drop 1 l.behind }
