-- The symbols that a stack holds, the first one first.
use Rattle.std.specs.Prelude.{List, [], ◌∷◌, take}
use Rattle.pushdown.specs.declared.stack.Stack.{Stack}

abbrev pub symbols_of : {S : Type 0} → Stack S → List S
symbols_of s = take s.count (s.first ∷ s.second ∷ s.third ∷ s.fourth ∷ s.fifth ∷ [])
