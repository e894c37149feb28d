-- The shape of encoded words: a text begins with one at most.
use Rattle.std.proofs.Common.{◌≡◌, ◌≢◌, ℕ, ◌-◌, ◌≤◌, Bor, List, [], ◌∷◌, ◌++◌, length, take, drop, refl, sym, ap, ◌∙◌, subst, arith, append_assoc, take-append-drop, Option, Some, None, MatchOption}
use Rattle.std.proofs.lemmas.List.{append_cancel_right, length-append, take_at}
use Rattle.text_words.specs.Cuts.{front, back}
use Rattle.text_words.proofs.CutLemmas.{front_back, front_each, one_run, run_cut}
use Rattle.header_words.specs.EncodedWords.{is_encoded}
use Rattle.loose_addresses.specs.Lumps.{IsWordShape}
use Rattle.loose_addresses.specs.reading.ShapeSteps.{HasPart, HasTwo, HasThree, HasEnd, HasWord}

-- ---- one reading

one_part : (r q t : List ℕ) → HasPart r t → HasPart q t → r ≡ q
one_part r q t g h = (one_run is_encoded g.part r h.part q 63 g.printed h.printed refl (sym g.whole ∙ h.whole)).back

one_two : (r q t : List ℕ) → HasTwo r t → HasTwo q t → r ≡ q
one_two r q t g h = one_part r q h.0 (subst (λ (u : List ℕ). HasPart r u) (one_part g.0 h.0 t g.1 h.1) g.2) h.2

one_three : (r q t : List ℕ) → HasThree r t → HasThree q t → r ≡ q
one_three r q t g h = one_part r q h.0 (subst (λ (u : List ℕ). HasPart r u) (one_two g.0 h.0 t g.1 h.1) g.2) h.2

one_rest : (r q t : List ℕ) → HasWord r t → HasWord q t → r ≡ q
one_rest r q t g h =
    let w : ◌≡◌ {A = List ℕ} (61 ∷ 63 ∷ g.inner) (61 ∷ 63 ∷ h.inner) = sym g.whole ∙ h.whole in
    let i : g.inner ≡ h.inner = cc in
    let e = one_three (61 ∷ r) (61 ∷ q) h.inner (subst (λ (u : List ℕ). HasEnd r u) i g.end) h.end in cc

-- ---- what is told part by part

pub part_told : (t rest : List ℕ) (r : Option (Bor (List ℕ))) → rest ≡ back is_encoded t
    → MatchOption r ((u : List ℕ) → rest ≢ 63 ∷ u) (λ (q : Bor (List ℕ)). rest ≡ 63 ∷ q.now)
    → MatchOption r ((u : List ℕ) → HasPart u t → ⊥) (λ (q : Bor (List ℕ)). HasPart q.now t)
part_told t rest None e n = λ u h. n u (e ∙ ap (back is_encoded) h.whole ∙ sym (run_cut is_encoded h.part u 63 h.printed refl).back)
part_told t rest (Some q) e f = record {
  part = front is_encoded t;
  whole = front_back is_encoded t ∙ ap (λ (u : List ℕ). front is_encoded t ++ u) (sym e ∙ f);
  printed = front_each is_encoded t;
}

pub two_none : (t : List ℕ) → ((u : List ℕ) → HasPart u t → ⊥) → (u : List ℕ) → HasTwo u t → ⊥
two_none t n u h = n h.0 h.1

pub two_told : (m t : List ℕ) (r : Option (Bor (List ℕ))) → HasPart m t → MatchOption r ((u : List ℕ) → HasPart u m → ⊥) (λ (q : Bor (List ℕ)). HasPart q.now m)
    → MatchOption r ((u : List ℕ) → HasTwo u t → ⊥) (λ (q : Bor (List ℕ)). HasTwo q.now t)
two_told m t None g n = λ u h. n u (subst (λ (v : List ℕ). HasPart u v) (one_part h.0 m t h.1 g) h.2)
two_told m t (Some q) g f = (m, g, f)

pub three_none : (t : List ℕ) → ((u : List ℕ) → HasTwo u t → ⊥) → (u : List ℕ) → HasThree u t → ⊥
three_none t n u h = n h.0 h.1

pub three_told : (m t : List ℕ) (r : Option (Bor (List ℕ))) → HasTwo m t → MatchOption r ((u : List ℕ) → HasPart u m → ⊥) (λ (q : Bor (List ℕ)). HasPart q.now m)
    → MatchOption r ((u : List ℕ) → HasThree u t → ⊥) (λ (q : Bor (List ℕ)). HasThree q.now t)
three_told m t None g n = λ u h. n u (subst (λ (v : List ℕ). HasPart u v) (one_two h.0 m t h.1 g) h.2)
three_told m t (Some q) g f = (m, g, f)

pub end_told : (end t : List ℕ) (r : Option (Bor (List ℕ))) → HasThree end t → MatchOption r ((u : List ℕ) → end ≢ 61 ∷ u) (λ (q : Bor (List ℕ)). end ≡ 61 ∷ q.now)
    → MatchOption r ((u : List ℕ) → HasEnd u t → ⊥) (λ (q : Bor (List ℕ)). HasEnd q.now t)
end_told end t None g n = λ u h. n u (one_three end (61 ∷ u) t g h)
end_told end t (Some q) g f = subst (λ (u : List ℕ). HasThree u t) f g

pub start_told : (t a : List ℕ) (r : Option (Bor (List ℕ))) → t ≡ 61 ∷ a → MatchOption r ((u : List ℕ) → a ≢ 63 ∷ u) (λ (q : Bor (List ℕ)). a ≡ 63 ∷ q.now)
    → MatchOption r ((u : List ℕ) → t ≢ 61 ∷ 63 ∷ u) (λ (q : Bor (List ℕ)). t ≡ 61 ∷ 63 ∷ q.now)
start_told t a None e n = λ u f. let w : ◌≡◌ {A = List ℕ} (61 ∷ a) (61 ∷ 63 ∷ u) = sym e ∙ f in let i : a ≡ 63 ∷ u = cc in n u i
start_told t a (Some q) e f = e ∙ ap (λ (u : List ℕ). 61 ∷ u) f

pub word_none : (t : List ℕ) → ((u : List ℕ) → t ≢ 61 ∷ 63 ∷ u) → (u : List ℕ) → HasWord u t → ⊥
word_none t n u h = n h.inner h.whole

pub word_told : (t m : List ℕ) (r : Option (Bor (List ℕ))) → t ≡ 61 ∷ 63 ∷ m → MatchOption r ((u : List ℕ) → HasEnd u m → ⊥) (λ (q : Bor (List ℕ)). HasEnd q.now m)
    → MatchOption r ((u : List ℕ) → HasWord u t → ⊥) (λ (q : Bor (List ℕ)). HasWord q.now t)
word_told t m None e n = λ u h.
    let w : ◌≡◌ {A = List ℕ} (61 ∷ 63 ∷ h.inner) (61 ∷ 63 ∷ m) = sym h.whole ∙ e in
    let i : h.inner ≡ m = cc in
    n u (subst (λ (v : List ℕ). HasEnd u v) i h.end)
word_told t m (Some q) e f = record { inner = m; whole = e; end = f }

-- ---- the shape

inner_text : (a b c y : List ℕ) → (a ++ 63 ∷ (b ++ 63 ∷ (c ++ 63 ∷ 61 ∷ []))) ++ y ≡ a ++ 63 ∷ (b ++ 63 ∷ (c ++ 63 ∷ 61 ∷ y))
inner_text a b c y =
    append_assoc a (63 ∷ (b ++ 63 ∷ (c ++ 63 ∷ 61 ∷ []))) y
    ∙ ap (λ (u : List ℕ). a ++ 63 ∷ u) (append_assoc b (63 ∷ (c ++ 63 ∷ 61 ∷ [])) y ∙ ap (λ (u : List ℕ). b ++ 63 ∷ u) (append_assoc c (63 ∷ 61 ∷ []) y))

-- a shape at the front is read
pub shape_word : (x y t : List ℕ) → IsWordShape x → t ≡ x ++ y → HasWord y t
shape_word x y t s e =
    let m : List ℕ = s.text ++ 63 ∷ 61 ∷ y in
    let k : List ℕ = s.encoding ++ 63 ∷ m in
    record {
      inner = s.charset ++ 63 ∷ k;
      whole = e ∙ ap (λ (u : List ℕ). u ++ y) s.whole ∙ ap (λ (u : List ℕ). 61 ∷ 63 ∷ u) (inner_text s.charset s.encoding s.text y);
      end = (
        m,
        (k, record { part = s.charset; whole = refl; printed = s.charset_printed }, record { part = s.encoding; whole = refl; printed = s.encoding_printed }),
        record { part = s.text; whole = refl; printed = s.text_printed },
      );
    }

record WordHere (r t : List ℕ) : Type 0 where
  word : List ℕ
  shape : IsWordShape word
  whole : t ≡ word ++ r

word_here : (r t : List ℕ) → HasWord r t → WordHere r t
word_here r t h =
    let p = h.end.1.1 in
    let q = h.end.1.2 in
    let s = h.end.2 in
    record {
      word = 61 ∷ 63 ∷ (p.part ++ 63 ∷ (q.part ++ 63 ∷ (s.part ++ 63 ∷ 61 ∷ [])));
      shape = record { charset = p.part; encoding = q.part; text = s.part; whole = refl; charset_printed = p.printed; encoding_printed = q.printed; text_printed = s.printed };
      whole = h.whole
          ∙ ap (λ (u : List ℕ). 61 ∷ 63 ∷ u)
          (p.whole ∙ ap (λ (u : List ℕ). p.part ++ 63 ∷ u) (q.whole ∙ ap (λ (u : List ℕ). q.part ++ 63 ∷ u) s.whole) ∙ sym (inner_text p.part q.part s.part r));
    }

-- what follows it is no longer than the text
pub word_fits : (r t : List ℕ) → HasWord r t → length r ≤ length t
word_fits r t h = let w = word_here r t h in omega (arith, ap length w.whole, length-append w.word r)

-- what is read is a shape at the front
pub word_split : (r t x y : List ℕ) → HasWord r t → x ≡ take (length t - length r) t → y ≡ drop (length t - length r) t → IsWordShape x × (t ≡ x ++ y)
word_split r t x y h e f =
    let n = length t - length r in
    let w = word_here r t h in
    let len : length w.word ≡ n = omega (arith, ap length w.whole, length-append w.word r) in
    let x_is : x ≡ w.word = e ∙ ap (take n) w.whole ∙ take_at w.word r n len in
    (subst (λ (u : List ℕ). IsWordShape u) (sym x_is) w.shape, sym (take-append-drop n t) ∙ ap (λ (u : List ℕ). u ++ drop n t) (sym e) ∙ ap (λ (u : List ℕ). x ++ u) (sym f))

-- a text begins with one
pub one_shape : (x y s t : List ℕ) → x ++ s ≡ y ++ t → IsWordShape x → IsWordShape y → x ≡ y
one_shape x y s t e f g =
    let r = one_rest s t (y ++ t) (shape_word x s (y ++ t) f (sym e)) (shape_word y t (y ++ t) g refl) in
    append_cancel_right x y t (ap (λ (u : List ℕ). x ++ u) (sym r) ∙ e)
