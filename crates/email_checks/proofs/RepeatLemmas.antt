-- Names that stand twice, as they are found one after another.
use Rattle.std.proofs.Common.{◌≡◌, ℕ, List, [], ◌∷◌, ◌++◌, Bool, true, false, ◌||◌, bytes_eq, codes, cond, option_to_list, Option, Some, None, refl, sym, ap, subst, ◌∙◌}
use Rattle.std.specs.List.{list_any}
use Rattle.jmap_arguments.specs.Arguments.{is_among}
use Rattle.set_patches.specs.declared.patches.Pointer.{Pointer}
use Rattle.set_patches.specs.declared.patches.Pointer.TheVariants.{Whole, Within, Deeper}
use Rattle.email_checks.specs.Asked.{has_repeat, keyword_pointed}
use Rattle.email_checks.specs.Keywords.{keyword_in}
use Rattle.email_checks.proofs.SetLemmas.{turned}

-- one of these was seen, or two of them are one
abbrev pub collides : (List ℕ → Bool) → List (List ℕ) → Bool
collides seen ks = list_any seen ks || has_repeat ks

any_false : (ks : List (List ℕ)) → list_any (λ (k : List ℕ). false) ks ≡ false
any_false [] = refl
any_false (k ∷ ks) = any_false ks

pub none_seen : (ks : List (List ℕ)) → has_repeat ks ≡ collides (λ k. false) ks
none_seen ks = sym (ap (λ b. b || has_repeat ks) (any_false ks))

four : (p q a b : Bool) → ((p || q) || (a || b)) ≡ ((p || a) || (q || b))
four true q a b = refl
four false true true b = refl
four false true false b = refl
four false false a b = refl

any_either : (p q r : List ℕ → Bool) (ks : List (List ℕ)) → ((k : List ℕ) → r k ≡ (p k || q k)) → list_any r ks ≡ (list_any p ks || list_any q ks)
any_either p q r [] same = refl
any_either p q r (k ∷ ks) same =
    ap (λ b. b || list_any r ks) (same k) ∙ ap (λ b. (p k || q k) || b) (any_either p q r ks same) ∙ four (p k) (q k) (list_any p ks) (list_any q ks)

any_same : (p q : List ℕ → Bool) (ks : List (List ℕ)) → ((k : List ℕ) → q k ≡ p k) → list_any p ks ≡ list_any q ks
any_same p q [] same = refl
any_same p q (k ∷ ks) same = ap (λ b. b || list_any p ks) (sym (same k)) ∙ ap (λ b. q k || b) (any_same p q ks same)

or_none : (b : Bool) → (b || false) ≡ b
or_none true = refl
or_none false = refl

around : (x y s : Bool) → x ≡ y → ((x || false) || s) ≡ (s || y)
around x y s same = ap (λ b. (b || false) || s) same ∙ at y s
  where
    at : (b t : Bool) → ((b || false) || t) ≡ (t || b)
    at true true = refl
    at true false = refl
    at false true = refl
    at false false = refl

apart : (a s m h : Bool) → a ≡ false → ((a || s) || (m || h)) ≡ ((s || m) || h)
apart a s m h none = ap (λ b. (b || s) || (m || h)) none ∙ at s m h
  where
    at : (p q r : Bool) → (p || (q || r)) ≡ ((p || q) || r)
    at true q r = refl
    at false q r = refl

-- one that was seen
pub found : (seen : List ℕ → Bool) (o : Option (List ℕ)) (ks : List (List ℕ)) → list_any seen (option_to_list o) ≡ true → true ≡ collides seen (option_to_list o ++ ks)
found seen None ks is = absurd (let f : false ≡ true = is in cc)
found seen (Some k) ks is = sym (ap (λ b. (b || list_any seen ks) || has_repeat (k ∷ ks)) (sym (or_none (seen k)) ∙ is))

-- one that wasn't seen is seen from then on
pub passed : (seen now : List ℕ → Bool) (o : Option (List ℕ)) (ks : List (List ℕ)) → list_any seen (option_to_list o) ≡ false
    → ((other : List ℕ) → now other ≡ (is_among other (option_to_list o) || seen other)) → collides seen (option_to_list o ++ ks) ≡ collides now ks
passed seen now None ks is same = ap (λ b. b || has_repeat ks) (any_same seen now ks same)
passed seen now (Some k) ks is same =
    apart (seen k) (list_any seen ks) (is_among k ks) (has_repeat ks) (sym (or_none (seen k)) ∙ is)
    ∙ ap (λ b. b || has_repeat ks)
    (sym (any_either seen (λ n. bytes_eq n k) now ks (λ other. same other ∙ around (bytes_eq k other) (bytes_eq other k) (seen other) (turned k other))))

-- a pointer is of one keyword at most
pub record IsPointed (p : Pointer) : Type 0 where
  pub keyword : Option (List ℕ)
  pub is : keyword_pointed p ≡ option_to_list keyword

pub pointed : (p : Pointer) → IsPointed p
pointed (Whole p) = record { keyword = None; is = refl }
pointed (Deeper p) = record { keyword = None; is = refl }
pointed (Within p key) =
    record {
      keyword = cond (bytes_eq p (codes "keywords")) (Some (keyword_in key)) None;
      is = elim (bytes_eq p (codes "keywords")) as (λ b. cond b (keyword_in key ∷ []) [] ≡ option_to_list (cond b (Some (keyword_in key)) None)) [ true ↦ refl | false ↦ refl ];
    }

pub found_at : (seen : List ℕ → Bool) (p : Pointer) (ks : List (List ℕ)) → list_any seen (keyword_pointed p) ≡ true → true ≡ collides seen (keyword_pointed p ++ ks)
found_at seen p ks =
    let at = pointed p in
    subst (λ (ps : List (List ℕ)). list_any seen ps ≡ true → true ≡ collides seen (ps ++ ks)) (sym at.is) (found seen at.keyword ks)

pub passed_at : (seen now : List ℕ → Bool) (p : Pointer) (ks : List (List ℕ)) → list_any seen (keyword_pointed p) ≡ false
    → ((other : List ℕ) → now other ≡ (is_among other (keyword_pointed p) || seen other)) → collides seen (keyword_pointed p ++ ks) ≡ collides now ks
passed_at seen now p ks =
    let at = pointed p in
    subst (λ (ps : List (List ℕ)). list_any seen ps ≡ false → ((other : List ℕ) → now other ≡ (is_among other ps || seen other)) → collides seen (ps ++ ks) ≡ collides now ks) (sym at.is)
    (passed seen now at.keyword ks)
