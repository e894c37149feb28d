-- What stands at segments, by where they lead first.
use Rattle.std.proofs.Common.{◌≡◌, ℕ, suc, ◌+◌, max, List, [], ◌∷◌, ◌++◌, map, length, codes, Bool, true, false, ◌==◌, if◌then◌else◌, bytes_eq, Option, Some, None, option_map, is_some, refl, sym, ap, ◌∙◌, arith}
use Rattle.std.specs.Prelude.{option_and_then}
use Rattle.std.specs.Option.{option_map_or}
use Rattle.std.specs.List.{slice_split, onto_first}
use Rattle.serde_json.specs.Data.{Data, array, Items}
use Rattle.serde_json.specs.Find.{pointer, as_array}
use Rattle.serde_json.specs.Written.{compact_text}
use Rattle.result_references.specs.References.{mapped, step_by, at_segments, octets_of_path, walked_in, walked_by, walked_at}
use Rattle.result_references.specs.reading.Counting.{joined_in, joined_by, joined_at, octets_by, octets_at}
use Rattle.result_references.specs.reading.Reaching.{segments_in, Reach, AtEnd, AtStar, reached, reached_by}

-- a step over what is an array or not
abbrev stepped : {X : Type 0} → List ℕ → X → (Data → X) → (Items → X) → Data → Option Items → X
stepped segment none rest star d None = option_map_or rest (pointer segment d) none
stepped segment none rest star d (Some items) = if bytes_eq segment (codes "/*") then star items else option_map_or rest (pointer segment d) none

module _ {X : Type 0} (none : X) (f : List (List ℕ) → Data → X) (star : List (List ℕ) → Items → X)
    (steps : (segment : List ℕ) (segments : List (List ℕ)) (d : Data) (items : Option Items) → as_array d ≡ items → f (segment ∷ segments) d ≡ stepped segment none (f segments) (star segments) d items) where
  abbrev of_reach : Reach → X
  of_reach (AtEnd d) = f [] d
  of_reach (AtStar items segments) = star segments items

  abbrev of_reached : Option Reach → X
  of_reached o = option_map_or of_reach o none

  past : (segments : List (List ℕ)) → ((d : Data) → f segments d ≡ of_reached (reached segments d)) → (o : Option Data) → option_map_or (f segments) o none ≡ of_reached (option_and_then (reached segments) o)
  past segments later None = refl
  past segments later (Some d) = later d

  at_step : (segment : List ℕ) (segments : List (List ℕ)) → ((d : Data) → f segments d ≡ of_reached (reached segments d)) → (d : Data) (items : Option Items)
      → stepped segment none (f segments) (star segments) d items ≡ of_reached (reached_by segment segments (reached segments) d (if bytes_eq segment (codes "/*") then items else None))
  at_step segment segments later d None = go (bytes_eq segment (codes "/*"))
    where
      go : (b : Bool) → option_map_or (f segments) (pointer segment d) none ≡ of_reached (reached_by segment segments (reached segments) d (if b then None else None))
      go true = past segments later (pointer segment d)
      go false = past segments later (pointer segment d)
  at_step segment segments later d (Some items) = go (bytes_eq segment (codes "/*"))
    where
      go : (b : Bool) → (if b then star segments items else option_map_or (f segments) (pointer segment d) none) ≡ of_reached (reached_by segment segments (reached segments) d (if b then Some items else None))
      go true = refl
      go false = past segments later (pointer segment d)

  by_reach : (segments : List (List ℕ)) (d : Data) → f segments d ≡ of_reached (reached segments d)
  by_reach [] d = refl
  by_reach (segment ∷ segments) d = steps segment segments d (as_array d) refl ∙ at_step segment segments (λ e. by_reach segments e) d (as_array d)

-- ---- what is copied

abbrev copied_star : List (List ℕ) → Items → Option Data
copied_star segments items = option_map array (mapped (at_segments segments) items)

pub copied_steps : (segment : List ℕ) (segments : List (List ℕ)) (d : Data) (items : Option Items) → as_array d ≡ items → at_segments (segment ∷ segments) d ≡ stepped segment None (at_segments segments) (copied_star segments) d items
copied_steps segment segments d None is = ap (step_by segment (at_segments segments) d) is ∙ go (pointer segment d)
  where
    go : (o : Option Data) → option_and_then (at_segments segments) o ≡ option_map_or (at_segments segments) o None
    go None = refl
    go (Some e) = refl
copied_steps segment segments d (Some items) is = ap (step_by segment (at_segments segments) d) is ∙ go (bytes_eq segment (codes "/*")) (pointer segment d)
  where
    go : (b : Bool) (o : Option Data) → (if b then copied_star segments items else option_and_then (at_segments segments) o) ≡ (if b then copied_star segments items else option_map_or (at_segments segments) o None)
    go true o = refl
    go false None = refl
    go false (Some e) = refl

pub copied-reach : (segments : List (List ℕ)) (d : Data) (reach : Option Reach) → reach ≡ reached segments d → at_segments segments d ≡ option_map_or (of_reach None at_segments copied_star copied_steps) reach None
copied-reach segments d reach is = by_reach None at_segments copied_star copied_steps segments d ∙ ap (λ (o : Option Reach). option_map_or (of_reach None at_segments copied_star copied_steps) o None) (sym is)

-- something stands behind a `*` where it does in each item
pub stands-star : (segments : List (List ℕ)) (d : Data) (items : Items) (behind : List (List ℕ)) → Some (AtStar items behind) ≡ reached segments d
    → is_some (at_segments segments d) ≡ is_some (mapped (at_segments behind) items)
stands-star segments d items behind leads = ap is_some (copied-reach segments d (Some (AtStar items behind)) leads) ∙ go (mapped (at_segments behind) items)
  where
    go : (o : Option Items) → is_some (option_map array o) ≡ is_some o
    go None = refl
    go (Some es) = refl

-- ---- what is walked over

abbrev walked_star : List (List ℕ) → Items → ℕ
walked_star segments items = walked_in (octets_of_path segments) (walked_at segments) items

pub walked_steps : (segment : List ℕ) (segments : List (List ℕ)) (d : Data) (items : Option Items) → as_array d ≡ items → walked_at (segment ∷ segments) d ≡ stepped segment 0 (walked_at segments) (walked_star segments) d items
walked_steps segment segments d None is = ap (walked_by segment (octets_of_path segments) (walked_at segments) d) is
walked_steps segment segments d (Some items) is = ap (walked_by segment (octets_of_path segments) (walked_at segments) d) is

pub walked-reach : (segments : List (List ℕ)) (d : Data) (reach : Option Reach) → reach ≡ reached segments d → walked_at segments d ≡ option_map_or (of_reach 0 walked_at walked_star walked_steps) reach 0
walked-reach segments d reach is = by_reach 0 walked_at walked_star walked_steps segments d ∙ ap (λ (o : Option Reach). option_map_or (of_reach 0 walked_at walked_star walked_steps) o 0) (sym is)

-- ---- what is joined, and the text

abbrev joined_star : List (List ℕ) → Items → ℕ
joined_star segments items = joined_in (joined_at segments) items

pub joined_steps : (segment : List ℕ) (segments : List (List ℕ)) (d : Data) (items : Option Items) → as_array d ≡ items → joined_at (segment ∷ segments) d ≡ stepped segment 0 (joined_at segments) (joined_star segments) d items
joined_steps segment segments d None is = ap (joined_by segment (joined_at segments) d) is
joined_steps segment segments d (Some items) is = ap (joined_by segment (joined_at segments) d) is

pub joined-reach : (segments : List (List ℕ)) (d : Data) (reach : Option Reach) → reach ≡ reached segments d → joined_at segments d ≡ option_map_or (of_reach 0 joined_at joined_star joined_steps) reach 0
joined-reach segments d reach is = by_reach 0 joined_at joined_star joined_steps segments d ∙ ap (λ (o : Option Reach). option_map_or (of_reach 0 joined_at joined_star joined_steps) o 0) (sym is)

abbrev octets_star : List (List ℕ) → Items → ℕ
octets_star segments items = suc (max 1 (joined_in (joined_at segments) items))

pub octets_steps : (segment : List ℕ) (segments : List (List ℕ)) (d : Data) (items : Option Items) → as_array d ≡ items → octets_at (segment ∷ segments) d ≡ stepped segment 0 (octets_at segments) (octets_star segments) d items
octets_steps segment segments d None is = ap (octets_by segment (octets_at segments) (joined_at segments) d) is
octets_steps segment segments d (Some items) is = ap (octets_by segment (octets_at segments) (joined_at segments) d) is

pub octets-reach : (segments : List (List ℕ)) (d : Data) (reach : Option Reach) → reach ≡ reached segments d → octets_at segments d ≡ option_map_or (of_reach 0 octets_at octets_star octets_steps) reach 0
octets-reach segments d reach is = by_reach 0 octets_at octets_star octets_steps segments d ∙ ap (λ (o : Option Reach). option_map_or (of_reach 0 octets_at octets_star octets_steps) o 0) (sym is)

-- ---- the octets of a path

onto-first : (x n : ℕ) (tokens : List (List ℕ)) → octets_of_path (map (λ token. 47 ∷ token) tokens) ≡ suc n → octets_of_path (map (λ token. 47 ∷ token) (onto_first x tokens)) ≡ suc (suc n)
onto-first x n [] is = absurd (omega (arith, is))
onto-first x n (token ∷ tokens) is = omega (arith, is)

octets-split : (text : List ℕ) → octets_of_path (map (λ token. 47 ∷ token) (slice_split (λ b. b == 47) text)) ≡ suc (length text)
octets-split [] = refl
octets-split (x ∷ xs) = go (x == 47) (octets-split xs)
  where
    go : (b : Bool) → octets_of_path (map (λ token. 47 ∷ token) (slice_split (λ c. c == 47) xs)) ≡ suc (length xs)
        → octets_of_path (map (λ token. 47 ∷ token) (if b then [] ∷ slice_split (λ c. c == 47) xs else onto_first x (slice_split (λ c. c == 47) xs))) ≡ suc (suc (length xs))
    go true later = omega (arith, later)
    go false later = onto-first x (length xs) (slice_split (λ c. c == 47) xs) later

-- the segments of a pointer have its octets
pub octets_path : (path : List ℕ) → octets_of_path (segments_in path) ≡ length path
octets_path [] = refl
octets_path (x ∷ xs) = octets-split xs
