-- Each search text has one reading, which is that of its parts.
use Rattle.std.proofs.Common.{◌≡◌, ℕ, zero, suc, ◌+◌, ◌<◌, ◌≤◌, Bool, true, false, nat_le, List, [], ◌∷◌, ◌++◌, length, Option, None, Some, refl, sym, ap, subst, ◌∙◌, arith, length-append, append_assoc, append-nil}
use Rattle.std.proofs.lemmas.Bool.{cond-true, cond-false, le-leb, lt-leb}
use Rattle.text_words.specs.Cuts.{front, back}
use Rattle.text_words.specs.Octets.{is_white}
use Rattle.text_words.proofs.CutLemmas.{front_back}
use Rattle.search_words.specs.SearchTexts.{is_mark, is_in_word, IsPhrase, Closing, Quoted, Plain, IsSearchText, Ends, White, Phrase, EmptyPhrase, OpenMark, Word}
use Rattle.search_words.specs.SearchWords.{search_words, words_asked}
use Rattle.search_words.specs.reading.Parts.{phrase_from, phrase_or_nothing, part_at, with_word, words_from}
use Rattle.search_words.proofs.PhraseLemmas.{phrase_read, phrase_is}

-- ---- the three kinds of parts

mark_no_white : (c : ℕ) → is_mark c ≡ true → is_white c ≡ false
mark_no_white c m = grind arith

pub white_part : (c : ℕ) (t : List ℕ) → is_white c ≡ true → part_at c t ≡ ([], t)
white_part c t e = cond-true (is_white c) _ _ e

pub mark_part : (c : ℕ) (t : List ℕ) → is_mark c ≡ true → part_at c t ≡ phrase_or_nothing (phrase_from c false t) t
mark_part c t m = cond-false (is_white c) _ _ (mark_no_white c m) ∙ cond-true (is_mark c) _ _ m

pub word_part : (c : ℕ) (t : List ℕ) → is_white c ≡ false → is_mark c ≡ false → part_at c t ≡ (c ∷ front is_in_word t, back is_in_word t)
word_part c t e m = cond-false (is_white c) _ _ e ∙ cond-false (is_mark c) _ _ m

-- what isn't white and no mark, a mark that closes or that doesn't
pub by_part : (P : ℕ → List ℕ → List ℕ × List ℕ → Type 0)
    → ((c : ℕ) (t : List ℕ) → is_white c ≡ true → P c t ([], t))
    → ((c : ℕ) (t : List ℕ) → is_mark c ≡ true → phrase_from c false t ≡ None → P c t ([], t))
    → ((c : ℕ) (t : List ℕ) (x : List ℕ × List ℕ) → is_mark c ≡ true → phrase_from c false t ≡ Some x → P c t x)
    → ((c : ℕ) (t : List ℕ) → is_white c ≡ false → is_mark c ≡ false → P c t (c ∷ front is_in_word t, back is_in_word t))
    → (c : ℕ) (t : List ℕ) → P c t (part_at c t)
by_part P white stays closed word c t = by (is_white c) (is_mark c) refl refl (phrase_from c false t) refl
  where
    by : (q r : Bool) → is_white c ≡ q → is_mark c ≡ r → (o : Option (List ℕ × List ℕ)) → phrase_from c false t ≡ o → P c t (part_at c t)
    by true r e m o s = subst (P c t) (sym (white_part c t e)) (white c t e)
    by false true e m None s = subst (P c t) (sym (mark_part c t m ∙ ap (λ (p : Option (List ℕ × List ℕ)). phrase_or_nothing p t) s)) (stays c t m s)
    by false true e m (Some x) s = subst (P c t) (sym (mark_part c t m ∙ ap (λ (p : Option (List ℕ × List ℕ)). phrase_or_nothing p t) s)) (closed c t x m s)
    by false false e m o s = subst (P c t) (sym (word_part c t e m)) (word c t e m)

-- ---- what is left is shorter

rest_shorter : (mark : ℕ) (t phrase rest : List ℕ) → IsPhrase mark t phrase rest → length rest ≤ length t
rest_shorter mark _ _ _ (Closing c t e) = omega arith
rest_shorter mark _ _ _ (Quoted b c t phrase rest e h) = omega (arith, rest_shorter mark t phrase rest h)
rest_shorter mark _ _ _ (Plain c t phrase rest e f h) = omega (arith, rest_shorter mark t phrase rest h)

back_shorter : (t : List ℕ) → length (back is_in_word t) ≤ length t
back_shorter t = omega (arith, ap length (front_back is_in_word t), length-append (front is_in_word t) (back is_in_word t))

pub shorter : (c : ℕ) (t : List ℕ) → length (part_at c t).1 ≤ length t
shorter c t = by_part (λ (c : ℕ) (t : List ℕ) (p : List ℕ × List ℕ). length p.1 ≤ length t)
    (λ c t e. omega arith)
    (λ c t m s. omega arith)
    (λ c t x m s. rest_shorter c t x.0 x.1 (phrase_is c false t x m s))
    (λ c t e m. back_shorter t)
    c t

-- ---- words one after another

fuel_same : (n m : ℕ) (t : List ℕ) → length t ≤ n → length t ≤ m → words_from n t ≡ words_from m t
unfolding words_from
fuel_same zero zero [] h k = refl
fuel_same zero (suc m) [] h k = refl
fuel_same (suc n) zero [] h k = refl
fuel_same (suc n) (suc m) [] h k = refl
fuel_same zero m (c ∷ t) h k = absurd (let f : suc (length t) ≤ zero = h in omega (arith, f))
fuel_same (suc n) zero (c ∷ t) h k = absurd (let f : suc (length t) ≤ zero = k in omega (arith, f))
fuel_same (suc n) (suc m) (c ∷ t) h k =
    ap (with_word (part_at c t).0) (fuel_same n m (part_at c t).1 (omega (arith, shorter c t, h)) (omega (arith, shorter c t, k)))

pub words_step : (c : ℕ) (t : List ℕ) → search_words (c ∷ t) ≡ with_word (part_at c t).0 (search_words (part_at c t).1)
unfolding search_words words_from
words_step c t = ap (with_word (part_at c t).0) (fuel_same (length t) (length (part_at c t).1) (part_at c t).1 (shorter c t) (omega arith))

pub no_words : search_words [] ≡ []
unfolding search_words words_from
no_words = refl

pub word_first : (word : List ℕ) (words : List (List ℕ)) → with_word word words ≡ with_word word [] ++ words
word_first [] words = refl
word_first (c ∷ t) words = refl

-- ---- the grammar has what is read

pub text_more : (words : List (List ℕ)) (c : ℕ) (t : List ℕ) → IsSearchText (part_at c t).1 words → IsSearchText (c ∷ t) (with_word (part_at c t).0 words)
text_more words = by_part (λ (c : ℕ) (t : List ℕ) (p : List ℕ × List ℕ). IsSearchText p.1 words → IsSearchText (c ∷ t) (with_word p.0 words))
    (λ c t e h. White c t words e h)
    (λ c t m s h. OpenMark c t words m (λ phrase rest p. let f : None ≡ Some (phrase, rest) = sym s ∙ phrase_read c t phrase rest m p in cc) h)
    (λ c t x m s h. asked c t x.0 x.1 m (phrase_is c false t x m s) h)
    (λ c t e m h. Word c t words e m h)
  where
    asked : (c : ℕ) (t phrase rest : List ℕ) → is_mark c ≡ true → IsPhrase c t phrase rest → IsSearchText rest words → IsSearchText (c ∷ t) (with_word phrase words)
    asked c t [] rest m p h = EmptyPhrase c t rest words m p h
    asked c t (d ∷ phrase) rest m p h = Phrase c d t phrase rest words m p h

text_from : (n : ℕ) (t : List ℕ) → length t ≤ n → IsSearchText t (words_from n t)
unfolding words_from
text_from zero [] h = Ends
text_from (suc n) [] h = Ends
text_from zero (c ∷ t) h = absurd (let f : suc (length t) ≤ zero = h in omega (arith, f))
text_from (suc n) (c ∷ t) h = text_more (words_from n (part_at c t).1) c t (text_from n (part_at c t).1 (omega (arith, shorter c t, h)))

pub is_search_text : (t : List ℕ) → IsSearchText t (search_words t)
unfolding search_words
is_search_text t = text_from (length t) t (omega arith)

-- ---- what the grammar has is read

pub step_by : (c : ℕ) (t : List ℕ) (p : List ℕ × List ℕ) → part_at c t ≡ p → search_words (c ∷ t) ≡ with_word p.0 (search_words p.1)
step_by c t p e = words_step c t ∙ ap (λ (q : List ℕ × List ℕ). with_word q.0 (search_words q.1)) e

stays_open : (mark : ℕ) (t : List ℕ) → is_mark mark ≡ true → ((phrase rest : List ℕ) → ¬ IsPhrase mark t phrase rest) → phrase_from mark false t ≡ None
stays_open mark t m none = by (phrase_from mark false t) refl
  where
    by : (o : Option (List ℕ × List ℕ)) → phrase_from mark false t ≡ o → phrase_from mark false t ≡ None
    by None e = e
    by (Some x) e = absurd (none x.0 x.1 (phrase_is mark false t x m e))

pub words_read : (t : List ℕ) (words : List (List ℕ)) → IsSearchText t words → search_words t ≡ words
words_read _ _ Ends = no_words
words_read _ _ (White c t words e h) = step_by c t ([], t) (white_part c t e) ∙ words_read t words h
words_read _ _ (Phrase mark c t phrase rest words m p h) =
    step_by mark t (c ∷ phrase, rest) (mark_part mark t m ∙ ap (λ (o : Option (List ℕ × List ℕ)). phrase_or_nothing o t) (phrase_read mark t (c ∷ phrase) rest m p))
    ∙ ap (λ (ws : List (List ℕ)). (c ∷ phrase) ∷ ws) (words_read rest words h)
words_read _ _ (EmptyPhrase mark t rest words m p h) =
    step_by mark t ([], rest) (mark_part mark t m ∙ ap (λ (o : Option (List ℕ × List ℕ)). phrase_or_nothing o t) (phrase_read mark t [] rest m p))
    ∙ words_read rest words h
words_read _ _ (OpenMark mark t words m none h) =
    step_by mark t ([], t) (mark_part mark t m ∙ ap (λ (o : Option (List ℕ × List ℕ)). phrase_or_nothing o t) (stays_open mark t m none))
    ∙ words_read t words h
words_read _ _ (Word c t words e m h) =
    step_by c t (c ∷ front is_in_word t, back is_in_word t) (word_part c t e m)
    ∙ ap (λ (ws : List (List ℕ)). (c ∷ front is_in_word t) ∷ ws) (words_read (back is_in_word t) words h)

-- ---- the words so far, and those of what is left

module _ (text left : List ℕ) (words : List (List ℕ)) (same : search_words text ≡ words ++ search_words left) where
  module _ (c : ℕ) (t word rest : List ℕ) (is : left ≡ c ∷ t) (part : part_at c t ≡ (word, rest)) where
    next_words : search_words left ≡ with_word word [] ++ search_words rest
    next_words = ap search_words is ∙ step_by c t (word, rest) part ∙ word_first word (search_words rest)

    pub words_go_on : (new : List (List ℕ)) → new ≡ words ++ with_word word [] → search_words text ≡ new ++ search_words rest
    words_go_on new added =
        same ∙ ap (λ (ws : List (List ℕ)). words ++ ws) next_words ∙ sym (append_assoc words (with_word word []) (search_words rest))
        ∙ ap (λ (ws : List (List ℕ)). ws ++ search_words rest) (sym added)

    pub left_shorter : length rest < length left
    left_shorter = omega (arith, ap length is, shorter c t, ap (λ (p : List ℕ × List ℕ). length p.1) part)

    pub too_many : length words ≡ 100 → 1 ≤ length (with_word word []) → None ≡ words_asked text
    too_many full some =
        let count : length (search_words text) ≡ length words + length (search_words left) = ap length same ∙ length-append words (search_words left) in
        let next : length (search_words left) ≡ length (with_word word []) + length (search_words rest) = ap length next_words ∙ length-append (with_word word []) (search_words rest) in
        let more : 100 < length (search_words text) = omega (arith, count, next, full, some) in
        sym (cond-false (nat_le (length (search_words text)) 100) _ _ (lt-leb (length (search_words text)) 100 more))

  pub all_asked : left ≡ [] → length words ≤ 100 → Some words ≡ words_asked text
  all_asked none few =
      let all : search_words text ≡ words = same ∙ ap (λ (ws : List (List ℕ)). words ++ ws) (ap search_words none ∙ no_words) ∙ append-nil words in
      let fits : length (search_words text) ≤ 100 = omega (arith, few, ap length all) in
      ap Some (sym all) ∙ sym (cond-true (nat_le (length (search_words text)) 100) _ _ (le-leb (length (search_words text)) 100 fits))
