-- Names and numbers are read back as what they tell.
use Rattle.std.proofs.Common.{◌≡◌, ℕ, zero, suc, ◌+◌, ◌<◌, Bool, true, false, List, [], ◌∷◌, ◌++◌, length, map, take, drop, get_or, refl, sym, ap, subst, ◌∙◌, append_assoc, arith}
use Rattle.std.proofs.Common.{inl, inr}
use Rattle.std.specs.Prelude.{◌==◌}
use Rattle.std.proofs.lemmas.Bool.{cond-true, cond-false}
use Rattle.std.proofs.lemmas.List.{length-append}
use Rattle.imap_types.proofs.EachLemmas.{each_to, each_append}
use Rattle.imap_values.specs.Spans.{span, in_name, long_value, names_in, flags_in}
use Rattle.imap_values.proofs.Cuts.{small, cut_at, long_is, atom_small}
use Rattle.imap_values.proofs.Lengths.{spaced_long}
use Rattle.imap_types.specs.Octets.{is_atom, lower}
use Rattle.imap_types.specs.Texts.{Each}
use Rattle.imap_types.specs.Numbers.{IsLong}
use Rattle.imap_types.specs.Lines.{spaced}
use Rattle.imap_types.specs.Items.{IsName, AllNames, joined, add_name, kept_from, kept}

-- ---- names

-- an octet of an atom may stand in a name
pub atom_name : (c : ℕ) → is_atom c ≡ true → in_name c ≡ true
atom_name c e = grind arith

name_class : (p : ℕ → Bool) (n : List ℕ) → ((c : ℕ) → is_atom c ≡ true → p c ≡ true) → p 92 ≡ true → IsName n → Each p n
name_class p n f s (inl a) = each_to is_atom p n f a.0
name_class p n f s (inr a) = subst (Each p) (sym a.1) (s, each_to is_atom p a.0 f a.2.0)

names_small : (ns : List (List ℕ)) → AllNames ns → Each small (spaced ns)
names_small [] h = tt
names_small (n ∷ ns) h = (refl, each_append small n (spaced ns) (name_class small n atom_small refl h.0) (names_small ns h.1))

-- the octets of names with spaces between are below 256
pub joined_small : (ns : List (List ℕ)) → AllNames ns → Each small (joined ns)
joined_small [] h = tt
joined_small (n ∷ ns) h = each_append small n (spaced ns) (name_class small n atom_small refl h.0) (names_small ns h.1)

names_read : (ns : List (List ℕ)) (most : ℕ) (so_far : List (List ℕ)) (n rest b : List ℕ) → IsName n → AllNames ns → length ns < most → b ≡ n ++ (spaced ns ++ 41 ∷ rest)
    → names_in most so_far b ≡ (kept_from so_far (n ∷ ns), rest)
unfolding names_in
names_read ns zero so_far n rest b name all lt e = absurd (omega (arith, lt))
names_read [] (suc most) so_far n rest b name all lt e =
    let k = cut_at in_name n (41 ∷ rest) b e (name_class in_name n atom_name refl name) refl in
    cond-false (get_or b (span in_name b) 0 == 32) (names_in most (add_name so_far (map lower (take (span in_name b) b))) (drop (span in_name b + 1) b))
    (add_name so_far (map lower (take (span in_name b) b)), drop (span in_name b + 1) b) (ap (λ (c : ℕ). c == 32) k.octet)
    ∙ ap (λ (u : List ℕ). (add_name so_far (map lower u), drop (span in_name b + 1) b)) k.front ∙ ap (λ (u : List ℕ). (add_name so_far (map lower n), u)) (k.past 41 rest refl)
names_read (m ∷ ns) (suc most) so_far n rest b name all lt e =
    let k = cut_at in_name n ((32 ∷ m ++ spaced ns) ++ 41 ∷ rest) b e (name_class in_name n atom_name refl name) refl in
    cond-true (get_or b (span in_name b) 0 == 32) (names_in most (add_name so_far (map lower (take (span in_name b) b))) (drop (span in_name b + 1) b))
    (add_name so_far (map lower (take (span in_name b) b)), drop (span in_name b + 1) b) (ap (λ (c : ℕ). c == 32) k.octet)
    ∙ ap (λ (u : List ℕ). names_in most (add_name so_far (map lower u)) (drop (span in_name b + 1) b)) k.front
    ∙ names_read ns most (add_name so_far (map lower n)) m rest (drop (span in_name b + 1) b) all.0 all.1 (omega (arith, lt))
    (k.past 32 ((m ++ spaced ns) ++ 41 ∷ rest) refl ∙ append_assoc m (spaced ns) (41 ∷ rest))

name_first : (n rest : List ℕ) → IsName n → (get_or (n ++ rest) 0 0 == 41) ≡ false
name_first [] rest (inl a) = absurd (omega (arith, a.1))
name_first [] rest (inr a) = let f = a.1 in absurd cc
name_first (c ∷ n) rest (inl a) = not_bracket c a.0.0
  where
    not_bracket : (c : ℕ) → is_atom c ≡ true → (c == 41) ≡ false
    not_bracket c e = grind arith
name_first (c ∷ n) rest (inr a) = let first : c ∷ n ≡ 92 ∷ a.0 = a.1 in let octet : c ≡ 92 = cc in ap (λ (d : ℕ). d == 41) octet

-- names with spaces between and then `)` are read as their kept form, and what follows the `)` is left
pub flags_read : (ns : List (List ℕ)) (rest b : List ℕ) → AllNames ns → b ≡ joined ns ++ 41 ∷ rest → flags_in b ≡ (kept ns, rest)
unfolding flags_in
flags_read [] rest b all e =
    cond-true (get_or b 0 0 == 41) ([], drop 1 b) (names_in (length b) [] b) (ap (λ (u : List ℕ). get_or u 0 0 == 41) e)
    ∙ ap (λ (u : List ℕ). ([], drop 1 u)) e
flags_read (n ∷ ns) rest b all e =
    let f : b ≡ n ++ (spaced ns ++ 41 ∷ rest) = e ∙ append_assoc n (spaced ns) (41 ∷ rest) in
    let long = spaced_long ns in
    let l1 = length-append n (spaced ns ++ 41 ∷ rest) in
    let l2 = length-append (spaced ns) (41 ∷ rest) in
    cond-false (get_or b 0 0 == 41) ([], drop 1 b) (names_in (length b) [] b) (ap (λ (u : List ℕ). get_or u 0 0 == 41) f ∙ name_first n (spaced ns ++ 41 ∷ rest) all.0)
    ∙ names_read ns (length b) [] n rest b all.0 all.1 (omega (arith, long, l1, l2, ap length f)) f

-- ---- numbers

-- a text that spells a 63-bit number is read as that number
pub long_read : (n : ℕ) (t : List ℕ) → IsLong n t → long_value t ≡ n
long_read n t h = long_is t (omega (arith, h.value, h.most)) ∙ sym h.value
