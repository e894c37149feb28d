-- Texts are read one after the other.
use Rattle.std.proofs.Common.{◌≡◌, ℕ, suc, ◌+◌, ◌-◌, ◌<◌, ◌≤◌, List, [], ◌∷◌, ◌++◌, Option, Some, None, refl, sym, ap, ◌∙◌, append_assoc, arith}
use Rattle.std.proofs.lemmas.List.{append-nil}
use Rattle.mail_batches.specs.reading.Reading.{◌>>=◌, text_at, some_texts_at, with_texts}

with_more : (before : List (List ℕ)) (x : List ℕ) (o : Option (List (List ℕ) × List ℕ)) → with_texts before (o >>= (λ p. Some (x ∷ p.0, p.1))) ≡ with_texts (before ++ x ∷ []) o
with_more before x None = refl
with_more before x (Some p) = ap (λ (l : List (List ℕ)). Some (l, p.1)) (sym (append_assoc before (x ∷ []) p.0))

one_text : (n : ℕ) (bytes x more : List ℕ) → text_at bytes ≡ Some (x, more) → some_texts_at (suc n) bytes ≡ (some_texts_at n more >>= (λ p. Some (x ∷ p.0, p.1)))
unfolding some_texts_at
one_text n bytes x more e = ap (λ (o : Option (List ℕ × List ℕ)). o >>= (λ f. some_texts_at n f.1 >>= (λ p. Some (f.0 ∷ p.0, p.1)))) e

-- a text more, of those that are left
pub text_more : (count at : ℕ) (bytes rest more x : List ℕ) (before : List (List ℕ)) → at < count → text_at rest ≡ Some (x, more)
    → some_texts_at count bytes ≡ with_texts before (some_texts_at (count - at) rest)
    → some_texts_at count bytes ≡ with_texts (before ++ x ∷ []) (some_texts_at (count - (at + 1)) more)
text_more count at bytes rest more x before lt e all =
    let left : count - at ≡ suc (count - (at + 1)) = omega arith in
    all ∙ ap (λ (n : ℕ). with_texts before (some_texts_at n rest)) left ∙ ap (with_texts before) (one_text (count - (at + 1)) rest x more e)
    ∙ with_more before x (some_texts_at (count - (at + 1)) more)

no_text : (n : ℕ) (rest : List ℕ) → text_at rest ≡ None → some_texts_at (suc n) rest ≡ None
unfolding some_texts_at
no_text n rest e = ap (λ (o : Option (List ℕ × List ℕ)). o >>= (λ f. some_texts_at n f.1 >>= (λ p. Some (f.0 ∷ p.0, p.1)))) e

-- none is read where the next isn't
pub text_wrong : (count at : ℕ) (bytes rest : List ℕ) (before : List (List ℕ)) → at < count → text_at rest ≡ None
    → some_texts_at count bytes ≡ with_texts before (some_texts_at (count - at) rest) → some_texts_at count bytes ≡ None
text_wrong count at bytes rest before lt e all =
    let left : count - at ≡ suc (count - (at + 1)) = omega arith in
    all ∙ ap (λ (n : ℕ). with_texts before (some_texts_at n rest)) left ∙ ap (with_texts before) (no_text (count - (at + 1)) rest e)

-- all are read
pub texts_end : (count : ℕ) (bytes rest : List ℕ) (before : List (List ℕ)) → some_texts_at count bytes ≡ with_texts before (some_texts_at 0 rest)
    → some_texts_at count bytes ≡ Some (before, rest)
unfolding some_texts_at
texts_end count bytes rest before all = all ∙ ap (λ (l : List (List ℕ)). Some (l, rest)) (append-nil before)

none_before : (o : Option (List (List ℕ) × List ℕ)) → o ≡ with_texts [] o
none_before None = refl
none_before (Some p) = refl

-- none is read yet
pub texts_begin : (count : ℕ) (bytes : List ℕ) → some_texts_at count bytes ≡ with_texts [] (some_texts_at (count - 0) bytes)
texts_begin count bytes =
    let all : count ≡ count - 0 = omega arith in
    ap (λ (n : ℕ). some_texts_at n bytes) all ∙ none_before (some_texts_at (count - 0) bytes)

-- as many are read as there should be
pub texts_done : (count at : ℕ) (bytes rest : List ℕ) (before : List (List ℕ)) → count ≤ at → some_texts_at count bytes ≡ with_texts before (some_texts_at (count - at) rest)
    → some_texts_at count bytes ≡ Some (before, rest)
texts_done count at bytes rest before le all =
    let left : count - at ≡ 0 = omega arith in
    texts_end count bytes rest before (all ∙ ap (λ (n : ℕ). with_texts before (some_texts_at n rest)) left)
