-- Numbers that are looked up among ids, each with its index.
use Rattle.std.proofs.Common.{◌≡◌, ℕ, suc, ◌+◌, ◌-◌, ◌<◌, List, [], ◌∷◌, ◌++◌, length, drop, filter, Bool, true, false, ◌&&◌, ◌||◌, cond, if◌then◌else◌}
use Rattle.std.proofs.Common.{nat_cmp, nat_eq, nat_le, get_or, add-one, eqb-true, eq-eqb, refl, sym, ap, ◌∙◌, append_assoc, arith, BTreeSet}
use Rattle.std.specs.BTreeSet.{contains}
use Rattle.std.specs.List.{enumerate_from, list_any}
use Rattle.std.proofs.Math.Seq.{drop-cons}
use Rattle.std.proofs.lemmas.Bool.Decides.{nat_tests}
use Rattle.change_list.specs.Copy.{holds_id}
use Rattle.change_list.proofs.Ascending.{same_truth}
use Rattle.query_changes.specs.Changes.{ids_of, now_in}

-- ---- tests

-- two numbers are compared either way round
eq_round : (a b : ℕ) → nat_eq a b ≡ nat_eq b a
eq_round a b = same_truth (nat_eq a b) (nat_eq b a) (λ is. eq-eqb b a (sym (eqb-true a b is))) (λ is. eq-eqb a b (sym (eqb-true b a is)))

-- the ids are found one by one as in their list
any_held : (touched : List (ℕ × Bool)) (n : ℕ) → list_any (λ (t : ℕ × Bool). nat_eq t.0 n) touched ≡ holds_id (ids_of touched) n
any_held [] n = refl
any_held (t ∷ ts) n =
    ap (λ (b : Bool). b || list_any (λ (t : ℕ × Bool). nat_eq t.0 n) ts) (eq_round t.0 n) ∙ ap (λ (b : Bool). nat_eq n t.0 || b) (any_held ts n)

-- what two tests that agree keep is the same
same_kept : {X : Type 0} (p q : X → Bool) (xs : List X) → ((x : X) → p x ≡ q x) → filter p xs ≡ filter q xs
same_kept p q [] agree = refl
same_kept {X} p q (x ∷ xs) agree =
    ap (λ (b : Bool). cond b (x ∷ filter p xs) (filter p xs)) (agree x) ∙ ap (λ (l : List X). cond (q x) (x ∷ l) l) (same_kept p q xs agree)

-- those of the list that are in the set of the ids are those that are now in it
pub are_now_in : (ids : BTreeSet ℕ) (list : List ℕ) (touched : List (ℕ × Bool)) → ((n : ℕ) → contains nat_cmp ids n ≡ list_any (λ (t : ℕ × Bool). nat_eq t.0 n) touched)
    → filter (λ (e : ℕ × ℕ). contains nat_cmp ids e.1) (enumerate_from 0 list) ≡ now_in list touched
are_now_in ids list touched same =
    same_kept (λ (e : ℕ × ℕ). contains nat_cmp ids e.1) (λ (e : ℕ × ℕ). holds_id (ids_of touched) e.1) (enumerate_from 0 list)
    (λ e. same e.1 ∙ any_held touched e.1)

-- ---- a list from an index on

abbrev pub told_from : (ℕ → Bool) → ℕ → List ℕ → List (ℕ × ℕ)
told_from p index list = filter (λ (e : ℕ × ℕ). p e.1) (enumerate_from index list)

by_test : (p : ℕ → Bool) (x : ℕ) (b : Bool) (old new rest : List (ℕ × ℕ)) (e : ℕ × ℕ) → b ≡ p x → new ≡ (if b then old ++ e ∷ [] else old)
    → new ++ rest ≡ old ++ cond (p x) (e ∷ rest) rest
by_test p x true old new rest e is made =
    ap (λ (l : List (ℕ × ℕ)). l ++ rest) made ∙ append_assoc old (e ∷ []) rest ∙ ap (λ (b : Bool). old ++ cond b (e ∷ rest) rest) is
by_test p x false old new rest e is made = ap (λ (l : List (ℕ × ℕ)). l ++ rest) made ∙ ap (λ (b : Bool). old ++ cond b (e ∷ rest) rest) is

-- with one number more those so far, and those of the rest, are all
pub told_more : (p : ℕ → Bool) (list : List ℕ) (i x : ℕ) (b : Bool) (old new all : List (ℕ × ℕ)) → i < length list → x ≡ get_or list i x → b ≡ p x
    → new ≡ (if b then old ++ (i, x) ∷ [] else old) → old ++ told_from p i (drop i list) ≡ all → new ++ told_from p (i + 1) (drop (i + 1) list) ≡ all
told_more p list i x b old new all within is tests made was =
    let left_is : drop i list ≡ x ∷ drop (i + 1) list = rw add-one (drop-cons list i x within ∙ ap (λ (y : ℕ). y ∷ drop (suc i) list) (sym is)) in
    by_test p x b old new (told_from p (i + 1) (drop (i + 1) list)) (i, x) tests made
    ∙ sym (ap (λ (l : List ℕ). old ++ told_from p i l) left_is) ∙ was

-- ---- how many

-- a sum is tested by its parts
pub no_more_by_parts : (a b most : ℕ) (first second : Bool) → first ≡ nat_le a most → second ≡ nat_le b (most - a) → (first && second) ≡ nat_le (a + b) most
no_more_by_parts a b most first second f s = grind (arith, nat_tests)
