-- Parts that are read one after another.
use Rattle.std.proofs.Common.{◌≡◌, Bool, true, false, List, [], ◌∷◌, ◌++◌, map, refl, ap, ◌∙◌}
use Rattle.query_arguments.specs.Readings.{reading_map, both_read, each_read}
use Rattle.query_arguments.specs.declared.reading.Reading.{Reading}
use Rattle.query_arguments.specs.declared.reading.Reading.TheVariants.{Wrong, Unsupported, Means}

module _ {A : Type 0} where
  -- what those so far mean, all of them supported or not, together with those that follow
  abbrev pub continued : Bool → List A → Reading (List A) → Reading (List A)
  continued supported before Wrong = Wrong
  continued supported before Unsupported = Unsupported
  continued false before (Means rest) = Unsupported
  continued true before (Means rest) = Means (before ++ rest)

module _ {A B : Type 0} (f : A → B) where
  -- the two ways of seeing the parts of a list, of its first and the rest
  both_map : (r : Reading A) (rs : Reading (List A))
      → reading_map (map f) (both_read (λ first rest. first ∷ rest) r rs) ≡ both_read (λ first rest. first ∷ rest) (reading_map f r) (reading_map (map f) rs)
  both_map Wrong rs = refl
  both_map Unsupported Wrong = refl
  both_map Unsupported Unsupported = refl
  both_map Unsupported (Means rest) = refl
  both_map (Means a) Wrong = refl
  both_map (Means a) Unsupported = refl
  both_map (Means a) (Means rest) = refl

  -- seen as something else, one by one or all at once
  pub each_read_map : (rs : List (Reading A)) → reading_map (map f) (each_read rs) ≡ each_read (map (reading_map f) rs)
  each_read_map [] = refl
  each_read_map (r ∷ rs) = both_map r (each_read rs) ∙ ap (both_read (λ first rest. first ∷ rest) (reading_map f r)) (each_read_map rs)
