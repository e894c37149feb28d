-- Texts whose octets are all of a class.
use Rattle.std.proofs.Common.{◌≡◌, ℕ, Bool, true, List, [], ◌∷◌, ◌++◌, refl}
use Rattle.std.specs.List.{list_all}
use Rattle.std.proofs.lemmas.Bool.{and_parts, and_from}
use Rattle.imap_types.specs.Texts.{Each}

-- octets of a class are of a wider one
pub each_to : (p q : ℕ → Bool) (t : List ℕ) → ((c : ℕ) → p c ≡ true → q c ≡ true) → Each p t → Each q t
each_to p q [] f h = tt
each_to p q (c ∷ t) f h = (f c h.0, each_to p q t f h.1)

-- two texts of a class, one after the other
pub each_append : (p : ℕ → Bool) (x y : List ℕ) → Each p x → Each p y → Each p (x ++ y)
each_append p [] y h k = k
each_append p (c ∷ x) y h k = (h.0, each_append p x y h.1 k)

-- the parts of a text of a class
pub each_parts : (p : ℕ → Bool) (x y : List ℕ) → Each p (x ++ y) → Each p x × Each p y
each_parts p [] y h = (tt, h)
each_parts p (c ∷ x) y h = let r = each_parts p x y h.1 in ((h.0, r.0), r.1)

-- what the test of all octets says
pub each_all : (p : ℕ → Bool) (t : List ℕ) → list_all p t ≡ true → Each p t
each_all p [] e = tt
each_all p (c ∷ t) e = let a = and_parts (p c) (list_all p t) e in (a.0, each_all p t a.1)

-- the test of all octets holds
pub all_each : (p : ℕ → Bool) (t : List ℕ) → Each p t → list_all p t ≡ true
all_each p [] h = refl
all_each p (c ∷ t) h = and_from (p c) (list_all p t) h.0 (all_each p t h.1)
