-- Ids in one text.
use Rattle.std.proofs.Common.{◌≡◌, ◌≢◌, ℕ, ◌<◌, List, [], ◌∷◌, ◌++◌, length, eqb, eqb-true, refl, sym, ap, ◌∙◌, append_assoc, arith}
use Rattle.std.proofs.lemmas.Bool.{cond-false}
use Rattle.std.proofs.lemmas.List.{length-append}
use Rattle.text_words.specs.Cuts.{Each, Stops, front, back}
use Rattle.text_words.proofs.CutLemmas.{front_back, front_each, back_stops, nothing_behind}
use Rattle.thread_rule.specs.Ids.{is_within, led_by, ids_in}
use Rattle.thread_rule.specs.reading.Once.{EndsWhole}
use Rattle.thread_rule.proofs.OnceLemmas.{not_true, not_false}

-- an id with its end is the first of a text
pub id_first : (x t : List ℕ) → Each is_within x → ids_in (x ++ 62 ∷ t) ≡ x ∷ ids_in t
unfolding ids_in
id_first [] t e = refl
id_first (c ∷ x) t e = cond-false (eqb c 62) ([] ∷ ids_in (x ++ 62 ∷ t)) (led_by c (ids_in (x ++ 62 ∷ t))) (not_true (eqb c 62) e.0) ∙ ap (led_by c) (id_first x t e.1)

-- a text without an end has no id
pub no_id : (t : List ℕ) → Each is_within t → ids_in t ≡ []
unfolding ids_in
no_id [] e = refl
no_id (c ∷ t) e = cond-false (eqb c 62) ([] ∷ ids_in t) (led_by c (ids_in t)) (not_true (eqb c 62) e.0) ∙ ap (led_by c) (no_id t e.1)

-- where no end follows octets within ids, the text has no id
pub none_here : (s : List ℕ) → ((t : List ℕ) → back is_within s ≢ 62 ∷ t) → ids_in s ≡ []
none_here s lacks = by (back is_within s) refl (back_stops is_within s)
  where
    by : (rest : List ℕ) → back is_within s ≡ rest → Stops is_within rest → ids_in s ≡ []
    by [] e stops = no_id s (nothing_behind is_within s e)
    by (c ∷ t) e stops = absurd (lacks t (e ∙ ap (λ (x : ℕ). x ∷ t) (eqb-true c 62 (not_false (eqb c 62) stops))))

whole_here : (s more : List ℕ) → back is_within s ≡ 62 ∷ more → s ≡ front is_within s ++ 62 ∷ more
whole_here s more e = front_back is_within s ∙ ap (λ (u : List ℕ). front is_within s ++ u) e

-- where an end follows them, they are the first id
pub id_here : (s more : List ℕ) → back is_within s ≡ 62 ∷ more → ids_in s ≡ front is_within s ∷ ids_in more
id_here s more e = ap ids_in (whole_here s more e) ∙ id_first (front is_within s) more (front_each is_within s)

-- what stands behind it is shorter
pub shorter_here : (s more : List ℕ) → back is_within s ≡ 62 ∷ more → length more < length s
shorter_here s more e = omega (arith, ap length (whole_here s more e), length-append (front is_within s) (62 ∷ more))

-- a text of nothing ends whole
pub nothing_whole : EndsWhole []
unfolding ids_in
nothing_whole t = refl

-- one id more at the end of a text
pub id_last : (s x : List ℕ) → EndsWhole s → Each is_within x → ids_in (s ++ (x ++ 62 ∷ [])) ≡ ids_in s ++ x ∷ []
unfolding ids_in
id_last s x whole e = whole (x ++ 62 ∷ []) ∙ ap (λ (u : List (List ℕ)). ids_in s ++ u) (id_first x [] e)

-- and it ends whole again
pub last_whole : (s x : List ℕ) → EndsWhole s → Each is_within x → EndsWhole (s ++ (x ++ 62 ∷ []))
last_whole s x whole e t =
    ap ids_in (append_assoc s (x ++ 62 ∷ []) t ∙ ap (λ (u : List ℕ). s ++ u) (append_assoc x (62 ∷ []) t))
    ∙ whole (x ++ 62 ∷ t) ∙ ap (λ (u : List (List ℕ)). ids_in s ++ u) (id_first x t e)
    ∙ sym (append_assoc (ids_in s) (x ∷ []) (ids_in t))
    ∙ sym (ap (λ (u : List (List ℕ)). u ++ ids_in t) (id_last s x whole e))

-- a text of nothing has no id
pub nothing_in : ids_in [] ≡ []
unfolding ids_in
nothing_in = refl
