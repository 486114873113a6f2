-- Lists that are the same up to order.
use mathlib.Core.List.{List, Permᴰ}

-- One list comes out of the other by exchanges of neighbours: the same elements, each as often.
abbrev pub SameUpToOrder : {A : Type 0} → List A → List A → Type 0
SameUpToOrder xs ys = Permᴰ xs ys
