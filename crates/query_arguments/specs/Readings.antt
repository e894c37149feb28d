-- How a part of the arguments is read: it is of a wrong kind, or isn't supported, or means something.
use Rattle.std.specs.Prelude.{List, [], ◌∷◌, Option, Some, None}
use Rattle.query_arguments.specs.declared.reading.Reading.{Reading}
use Rattle.query_arguments.specs.declared.reading.Reading.TheVariants.{Wrong, Unsupported, Means}

module _ {A B : Type 0} where
  -- what a value of the right kind means
  abbrev pub means : (A → B) → Option A → Reading B
  means f None = Wrong
  means f (Some a) = Means (f a)

  abbrev pub reading_map : (A → B) → Reading A → Reading B
  reading_map f Wrong = Wrong
  reading_map f Unsupported = Unsupported
  reading_map f (Means a) = Means (f a)

module _ {A B C : Type 0} where
  -- of two parts, a wrong one counts before one that isn't supported
  abbrev pub both_read : (A → B → C) → Reading A → Reading B → Reading C
  both_read f Wrong r = Wrong
  both_read f Unsupported Wrong = Wrong
  both_read f Unsupported Unsupported = Unsupported
  both_read f Unsupported (Means b) = Unsupported
  both_read f (Means a) Wrong = Wrong
  both_read f (Means a) Unsupported = Unsupported
  both_read f (Means a) (Means b) = Means (f a b)

module _ {A : Type 0} where
  -- of a list of parts
  abbrev pub each_read : List (Reading A) → Reading (List A)
  each_read [] = Means []
  each_read (r ∷ rs) = both_read (λ first rest. first ∷ rest) r (each_read rs)
