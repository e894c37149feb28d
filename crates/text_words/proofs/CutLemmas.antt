-- Where lists are cut.
use Rattle.std.proofs.Common.{◌≡◌, ℕ, ◌+◌, ◌<◌, Bool, true, false, ◌&&◌, List, [], ◌∷◌, ◌++◌, cond, length, take, drop, get_or, refl, sym, ap, ◌∙◌, subst}
use Rattle.std.specs.List.{list_all}
use Rattle.std.proofs.lemmas.Bool.{cond-true, cond-false}
use Rattle.std.proofs.lemmas.List.{append-nil, take-append-drop, drop_at, take_more, drop_more}
use Rattle.text_words.specs.Cuts.{Each, Stops, front, back}

-- a list is the elements before the first that fails the test, and then the rest
pub front_back : {A : Type 0} (p : A → Bool) (t : List A) → t ≡ front p t ++ back p t
unfolding front back
front_back p [] = refl
front_back {A} p (x ∷ t) = by (p x) (front_back p t)
  where
    by : (q : Bool) → t ≡ front p t ++ back p t → x ∷ t ≡ cond q (x ∷ front p t) [] ++ cond q (back p t) (x ∷ t)
    by true e = ap (λ (u : List A). x ∷ u) e
    by false e = refl

-- each element before the first that fails the test passes it
pub front_each : {A : Type 0} (p : A → Bool) (t : List A) → Each p (front p t)
unfolding front
front_each p [] = tt
front_each {A} p (x ∷ t) = by (p x) refl (front_each p t)
  where
    by : (q : Bool) → p x ≡ q → Each p (front p t) → Each p (cond q (x ∷ front p t) [])
    by true e h = (e, h)
    by false e h = tt

-- what is cut off doesn't begin with an element that passes the test
pub back_stops : {A : Type 0} (p : A → Bool) (t : List A) → Stops p (back p t)
unfolding back
back_stops p [] = tt
back_stops {A} p (x ∷ t) = by (p x) refl (back_stops p t)
  where
    by : (q : Bool) → p x ≡ q → Stops p (back p t) → Stops p (cond q (back p t) (x ∷ t))
    by true e h = h
    by false e h = e

-- elements that pass, with none that passes directly after them, are the front of a list
pub front_is : {A : Type 0} (p : A → Bool) (x y : List A) → Each p x → Stops p y → front p (x ++ y) ≡ x
unfolding front
front_is p [] [] e s = refl
front_is p [] (c ∷ y) e s = cond-false (p c) _ _ s
front_is {A} p (c ∷ x) y e s = cond-true (p c) _ _ e.0 ∙ ap (λ (u : List A). c ∷ u) (front_is p x y e.1 s)

-- what stands after elements that pass, and doesn't begin with one that passes, is what is cut off
pub back_is : {A : Type 0} (p : A → Bool) (x y : List A) → Each p x → Stops p y → back p (x ++ y) ≡ y
unfolding back
back_is p [] [] e s = refl
back_is p [] (c ∷ y) e s = cond-false (p c) _ _ s
back_is p (c ∷ x) y e s = cond-true (p c) _ _ e.0 ∙ back_is p x y e.1 s

-- a list is cut at one place
pub record SameCut {A : Type 0} (x y s t : List A) : Type 0 where
  pub front : x ≡ y
  pub back : s ≡ t

-- a list is in one way at most elements that pass, and then a rest that doesn't begin with one that passes
pub one_cut : {A : Type 0} (p : A → Bool) (x y s t : List A) → x ++ s ≡ y ++ t → Each p x → Stops p s → Each p y → Stops p t → SameCut x y s t
one_cut p x y s t e ex ss ey st = record {
  front = sym (front_is p x s ex ss) ∙ ap (front p) e ∙ front_is p y t ey st;
  back = sym (back_is p x s ex ss) ∙ ap (back p) e ∙ back_is p y t ey st;
}

-- where each element of two lists passes, so does each of one list followed by the other
pub each_append : {A : Type 0} (p : A → Bool) (x y : List A) → Each p x → Each p y → Each p (x ++ y)
each_append p [] y e f = f
each_append p (c ∷ x) y e f = (e.0, each_append p x y e.1 f)

-- where each element of one list followed by another passes, so does each of the first list
pub each_left : {A : Type 0} (p : A → Bool) (x y : List A) → Each p (x ++ y) → Each p x
each_left p [] y e = tt
each_left p (c ∷ x) y e = (e.0, each_left p x y e.1)

-- where each element of one list followed by another passes, so does each of the second list
pub each_right : {A : Type 0} (p : A → Bool) (x y : List A) → Each p (x ++ y) → Each p y
each_right p [] y e = e
each_right p (c ∷ x) y e = each_right p x y e.1

-- one step of a walk that looks for the first element that fails; x is the element at i
pub each_more : {A : Type 0} (p : A → Bool) (b : List A) (i : ℕ) (x : A) → i < length b → Each p (take i b) → x ≡ get_or b i x → p x ≡ true → Each p (take (i + 1) b)
each_more {A} p b i x lt e r h =
    let P : List A → Type 0 = λ u. Each p u in
    subst P (sym (take_more b i x lt)) (each_append p (take i b) (get_or b i x ∷ []) e (ap p (sym r) ∙ h, tt))

-- a walk that stopped at i has cut there
pub cut_here : {A : Type 0} (p : A → Bool) (b : List A) (i : ℕ) (x : A) → i < length b → Each p (take i b) → x ≡ get_or b i x → p x ≡ false
    → SameCut (take i b) (front p b) (drop i b) (back p b)
cut_here {A} p b i x lt e r h =
    let S : List A → Type 0 = λ u. Stops p u in
    one_cut p (take i b) (front p b) (drop i b) (back p b)
    (take-append-drop i b ∙ front_back p b) e
    (subst S (sym (drop_more b i x lt)) (ap p (sym r) ∙ h))
    (front_each p b) (back_stops p b)

-- a walk that came to the end has cut there
pub cut_at_end : {A : Type 0} (p : A → Bool) (b : List A) → Each p b → SameCut b (front p b) [] (back p b)
cut_at_end p b e = one_cut p b (front p b) [] (back p b) (append-nil b ∙ front_back p b) e tt (front_each p b) (back_stops p b)

-- each element passes exactly where nothing is cut off
pub nothing_behind : {A : Type 0} (p : A → Bool) (t : List A) → back p t ≡ [] → Each p t
nothing_behind {A} p t e =
    let P : List A → Type 0 = λ u. Each p u in
    subst P (sym (front_back p t ∙ ap (λ (u : List A). front p t ++ u) e ∙ append-nil (front p t))) (front_each p t)

-- where each element passes, nothing is cut off
pub all_before : {A : Type 0} (p : A → Bool) (t : List A) → Each p t → back p t ≡ []
all_before p t e = sym (cut_at_end p t e).back

-- a run that ends before an element outside the class is cut there
pub run_cut : {A : Type 0} (p : A → Bool) (x y : List A) (s : A) → Each p x → p s ≡ false → SameCut x (front p (x ++ s ∷ y)) (s ∷ y) (back p (x ++ s ∷ y))
run_cut p x y s e k = record { front = sym (front_is p x (s ∷ y) e k); back = sym (back_is p x (s ∷ y) e k) }

-- there is one such run
pub one_run : {A : Type 0} (p : A → Bool) (x y u v : List A) (s : A) → Each p x → Each p u → p s ≡ false → x ++ s ∷ y ≡ u ++ s ∷ v → SameCut x u y v
one_run {A} p x y u v s e f k h =
    let c = one_cut p x u (s ∷ y) (s ∷ v) h e k f k in
    record { front = c.front; back = let b = c.back in cc }

-- the same as a test
pub each_list_all : {A : Type 0} (p : A → Bool) (t : List A) → Each p t → list_all p t ≡ true
each_list_all p [] e = refl
each_list_all p (x ∷ t) e = ap (λ (q : Bool). q && list_all p t) e.0 ∙ each_list_all p t e.1

-- where the test of a whole list is true, each element passes
pub list_all_each : {A : Type 0} (p : A → Bool) (t : List A) → list_all p t ≡ true → Each p t
list_all_each p [] e = tt
list_all_each {A} p (x ∷ t) e = by (p x) (list_all p t) refl (list_all_each p t) e
  where
    by : (q r : Bool) → p x ≡ q → (r ≡ true → Each p t) → (q && r) ≡ true → Each p (x ∷ t)
    by true true h k e = (h, k refl)
    by true false h k e = absurd cc
    by false r h k e = absurd cc

-- an answer that is true exactly where each element passes is the test of the whole list
pub all_is : {A : Type 0} (p : A → Bool) (t : List A) (b : Bool) → (b ≡ true → Each p t) → (Each p t → b ≡ true) → b ≡ list_all p t
all_is {A} p t b f g = by b (list_all p t) refl refl
  where
    by : (q r : Bool) → b ≡ q → list_all p t ≡ r → b ≡ list_all p t
    by true r h k = h ∙ sym (each_list_all p t (f h))
    by false true h k = g (list_all_each p t k) ∙ sym k
    by false false h k = h ∙ sym k

-- what is cut off stands after the front
pub drop_front : {A : Type 0} (p : A → Bool) (t : List A) → drop (length (front p t)) t ≡ back p t
drop_front p t = ap (drop (length (front p t))) (front_back p t) ∙ drop_at (front p t) (back p t) (length (front p t)) refl
