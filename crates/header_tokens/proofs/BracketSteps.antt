-- A bracket is read octet by octet.
use Rattle.std.proofs.Common.{◌≡◌, ◌≢◌, ℕ, ◌+◌, ◌-◌, ◌<◌, ◌≤◌, Bool, true, false, List, [], ◌∷◌, length, drop, get_or, refl, ap, ◌∙◌, arith, add-one, drop-cons, Option, Some, None}
use Rattle.std.proofs.Common.{eqb, eq-eqb}
use Rattle.std.proofs.lemmas.Bool.{cond-true, cond-false, ne_eqb}
use Rattle.std.proofs.lemmas.List.{drop_all}
use Rattle.header_tokens.specs.reading.TokenReading.{further, close_in}

-- what is left from a place within a text on is the octet there, and then what is left from the next place on
pub drop_at : (b : List ℕ) (i : ℕ) → i < length b → drop i b ≡ get_or b i 0 ∷ drop (i + 1) b
drop_at b i lt = rw add-one (drop-cons b i 0 lt)

-- raising a count by j and then by i is raising it by i + j
pub further_more : (i j : ℕ) (o : Option ℕ) → further i (further j o) ≡ further (i + j) o
further_more i j None = refl
further_more i j (Some n) = ap Some (omega arith)

-- one octet of a bracket
pub close_escaped : (o c d : ℕ) (x : ℕ) (t : List ℕ) → close_in o c d true (x ∷ t) ≡ further 1 (close_in o c d false t)
unfolding close_in
close_escaped o c d x t = refl

-- a backslash that isn't escaped counts one and escapes the octet after it
pub close_slash : (o c d : ℕ) (x : ℕ) (t : List ℕ) → x ≡ 92 → close_in o c d false (x ∷ t) ≡ further 1 (close_in o c d true t)
unfolding close_in
close_slash o c d x t e = cond-true (eqb x 92) _ _ (eq-eqb x 92 e)

-- where no inner bracket is open, a closing octet counts one and ends the reading
pub close_last : (o c : ℕ) (x : ℕ) (t : List ℕ) → x ≢ 92 → x ≡ c → close_in o c 0 false (x ∷ t) ≡ Some 1
unfolding close_in
close_last o c x t n e = cond-false (eqb x 92) _ _ (ne_eqb x 92 n) ∙ cond-true (eqb x c) _ _ (eq-eqb x c e)

-- where inner brackets are open, a closing octet counts one and closes one of them
pub close_down : (o c d : ℕ) (x : ℕ) (t : List ℕ) → x ≢ 92 → x ≡ c → d ≢ 0 → close_in o c d false (x ∷ t) ≡ further 1 (close_in o c (d - 1) false t)
unfolding close_in
close_down o c d x t n e some = cond-false (eqb x 92) _ _ (ne_eqb x 92 n) ∙ cond-true (eqb x c) _ _ (eq-eqb x c e) ∙ cond-false (eqb d 0) _ _ (ne_eqb d 0 some)

-- an opening octet counts one and opens an inner bracket
pub close_up : (o c d : ℕ) (x : ℕ) (t : List ℕ) → x ≢ 92 → x ≢ c → x ≡ o → close_in o c d false (x ∷ t) ≡ further 1 (close_in o c (d + 1) false t)
unfolding close_in
close_up o c d x t n m e = cond-false (eqb x 92) _ _ (ne_eqb x 92 n) ∙ cond-false (eqb x c) _ _ (ne_eqb x c m) ∙ cond-true (eqb x o) _ _ (eq-eqb x o e)

-- any other octet counts one, and as many inner brackets stay open
pub close_other : (o c d : ℕ) (x : ℕ) (t : List ℕ) → x ≢ 92 → x ≢ c → x ≢ o → close_in o c d false (x ∷ t) ≡ further 1 (close_in o c d false t)
unfolding close_in
close_other o c d x t n m e = cond-false (eqb x 92) _ _ (ne_eqb x 92 n) ∙ cond-false (eqb x c) _ _ (ne_eqb x c m) ∙ cond-false (eqb x o) _ _ (ne_eqb x o e)

-- where no octet is left, no end of the bracket is found
pub close_none : (o c d : ℕ) (e : Bool) → close_in o c d e [] ≡ None
unfolding close_in
close_none o c d e = refl

-- the reading from i on, after those i octets
abbrev pub from : ℕ → ℕ → ℕ → Bool → List ℕ → ℕ → Option ℕ
from o c d e b i = further i (close_in o c d e (drop i b))

-- where the octet at i counts one, the reading from i on is the one from i + 1 on, with the depth and escape that the octet leaves
pub goes_on : (o c d d' : ℕ) (e e' : Bool) (b : List ℕ) (i : ℕ) → i < length b
    → close_in o c d e (get_or b i 0 ∷ drop (i + 1) b) ≡ further 1 (close_in o c d' e' (drop (i + 1) b)) → from o c d e b i ≡ from o c d' e' b (i + 1)
goes_on o c d d' e e' b i lt h = rw (drop_at b i lt) (ap (λ (r : Option ℕ). further i r) h ∙ further_more i 1 (close_in o c d' e' (drop (i + 1) b)))

-- after the step, the reading is still the whole's
pub keeps : (o c d d' k : ℕ) (e e' f : Bool) (b : List ℕ) (i : ℕ) (whole : Option ℕ) → i < length b → from o c d e b i ≡ whole → k ≡ d' → f ≡ e'
    → close_in o c d e (get_or b i 0 ∷ drop (i + 1) b) ≡ further 1 (close_in o c d' e' (drop (i + 1) b)) → from o c k f b (i + 1) ≡ whole
keeps o c d d' k e e' f b i whole lt was dk ef h = let g = goes_on o c d d' e e' b i lt h in cc

-- where the reading comes to the end of the text, the whole reading finds no end of the bracket
pub ends_here : (o c d : ℕ) (e : Bool) (b : List ℕ) (i : ℕ) (whole : Option ℕ) → length b ≤ i → from o c d e b i ≡ whole → None ≡ whole
ends_here o c d e b i whole le was = let e1 = drop_all i b le in let e2 = close_none o c d e in cc

-- where the reading comes to a closing octet at i with no inner bracket open, the whole reading counts i + 1 octets
pub found_here : (o c d : ℕ) (e : Bool) (b : List ℕ) (i : ℕ) (whole : Option ℕ) → i < length b → d ≡ 0 → e ≡ false → get_or b i 0 ≢ 92 → get_or b i 0 ≡ c
    → from o c d e b i ≡ whole → Some (i + 1) ≡ whole
found_here o c d e b i whole lt d0 ef n h was =
    let e1 = drop_at b i lt in
    let e2 = close_last o c (get_or b i 0) (drop (i + 1) b) n h in
    cc
