-- The parts of an encoded word are cut one after another.
use Rattle.std.proofs.Common.{◌≡◌, ℕ, ◌-◌, List, [], ◌∷◌, ◌++◌, length, refl, sym, ap, ◌∙◌, subst, append_assoc, Option, Some, None, Result, Ok, Err, ◌⊎◌, arith}
use Rattle.std.specs.Option.{IfNone, IfSome}
use Rattle.std.specs.Result.{IfOk}
use Rattle.std.proofs.lemmas.List.{length-append}
use Rattle.text_words.specs.Cuts.{Each, IsRun}
use Rattle.text_words.proofs.CutLemmas.{SameCut, one_run}
use Rattle.header_words.specs.Base64.{IsBase64}
use Rattle.header_words.specs.EncodedWords.{is_charset_octet, is_encoded, HasShape, Spells, InBase64, InQ}

-- what holds in any case holds where there is no value
pub if_none : {X : Type 0} {P : Type 0} (r : Option X) → P → IfNone r P
if_none None p = p
if_none (Some x) p = tt

-- what stands after the charset
pub behind_charset : (t a b cs d c : List ℕ) (l : ℕ) (x y : List ℕ) → t ≡ 61 ∷ a → a ≡ 63 ∷ b → b ≡ cs ++ 63 ∷ d → IsRun is_charset_octet cs → HasShape c l x y t
    → SameCut cs c d (l ∷ 63 ∷ (x ++ 63 ∷ 61 ∷ y))
behind_charset t a b cs d c l x y e f g r h =
    let w = h.whole in
    let q : b ≡ c ++ 63 ∷ l ∷ 63 ∷ (x ++ 63 ∷ 61 ∷ y) = cc in
    one_run is_charset_octet cs d c (l ∷ 63 ∷ (x ++ 63 ∷ 61 ∷ y)) 63 r.0 h.token.0 refl (sym g ∙ q)

-- what stands after the encoded text
pub behind_text : (g tx k x y : List ℕ) → g ≡ tx ++ 63 ∷ k → Each is_encoded tx → Each is_encoded x → g ≡ x ++ 63 ∷ 61 ∷ y → SameCut tx x k (61 ∷ y)
behind_text g tx k x y e r s f = one_run is_encoded tx k x (61 ∷ y) 63 r s refl (sym e ∙ f)

-- a text has one shape
pub record SameShape (c d : List ℕ) (l m : ℕ) (x y s t : List ℕ) : Type 0 where
  pub charset : c ≡ d
  pub letter : l ≡ m
  pub text : x ≡ y
  pub behind : s ≡ t

-- two ways to take a text as an encoded word and what follows have the same parts
pub one_shape : (c d : List ℕ) (l m : ℕ) (x y s t w : List ℕ) → HasShape c l x s w → HasShape d m y t w → SameShape c d l m x y s t
one_shape c d l m x y s t w g h =
    let e = behind_charset w _ _ c (l ∷ 63 ∷ (x ++ 63 ∷ 61 ∷ s)) d m y t g.whole refl refl g.token h in
    let b = e.back in
    let inner : x ++ 63 ∷ 61 ∷ s ≡ y ++ 63 ∷ 61 ∷ t = cc in
    let f = behind_text (x ++ 63 ∷ 61 ∷ s) x (61 ∷ s) y t refl g.printed h.printed inner in
    let k = f.back in
    record { charset = e.front; letter = cc; text = f.front; behind = cc }

-- the word, without what follows it
pub word_of : (c : List ℕ) (l : ℕ) (x : List ℕ) → List ℕ
word_of c l x = 61 ∷ 63 ∷ (c ++ 63 ∷ l ∷ 63 ∷ (x ++ 63 ∷ 61 ∷ []))

-- the word that a text begins with has the same parts where nothing follows it
pub shape_word : (c : List ℕ) (l : ℕ) (x s w : List ℕ) → HasShape c l x s w → HasShape c l x [] (word_of c l x)
unfolding word_of
shape_word c l x s w h = record { whole = refl; token = h.token; printed = h.printed }

-- a text that begins with a word of these parts is that word, and then what follows
pub whole_word : (c : List ℕ) (l : ℕ) (x s w : List ℕ) → HasShape c l x s w → w ≡ word_of c l x ++ s
unfolding word_of
whole_word c l x s w h =
    h.whole ∙ ap (λ (u : List ℕ). 61 ∷ 63 ∷ u)
    (ap (λ (u : List ℕ). c ++ 63 ∷ l ∷ 63 ∷ u) (sym (append_assoc x (63 ∷ 61 ∷ []) s)) ∙ sym (append_assoc c (63 ∷ l ∷ 63 ∷ (x ++ 63 ∷ 61 ∷ [])) s))

-- a word before a text has its shape there
pub shape_before : (c : List ℕ) (l : ℕ) (x w s t : List ℕ) → HasShape c l x [] w → t ≡ w ++ s → HasShape c l x s t
shape_before c l x w s t h e =
    record {
      whole = e ∙ ap (λ (u : List ℕ). u ++ s) h.whole ∙ ap (λ (u : List ℕ). 61 ∷ 63 ∷ u)
          (append_assoc c (63 ∷ l ∷ 63 ∷ (x ++ 63 ∷ 61 ∷ [])) s ∙ ap (λ (u : List ℕ). c ++ 63 ∷ l ∷ 63 ∷ u) (append_assoc x (63 ∷ 61 ∷ []) s));
      token = h.token;
      printed = h.printed;
    }

-- the word is as long as the text less what follows the word
pub word_len : (c : List ℕ) (l : ℕ) (x s w : List ℕ) → HasShape c l x s w → length w - length s ≡ length (word_of c l x)
word_len c l x s w h = omega (arith, ap length (whole_word c l x s w h), length-append (word_of c l x) s)

abbrev pub NoShape : List ℕ → Type 0
NoShape w = (c : List ℕ) (l : ℕ) (x y : List ℕ) → HasShape c l x y w → ⊥

-- what is said of a result that is no error and has no value may be replaced by what follows from it
pub none_map : {X E P Q : Type 0} (r : Result (Option X) E) → (P → Q) → IfOk r (λ o. IfNone o P) → IfOk r (λ o. IfNone o Q)
none_map (Ok None) f p = f p
none_map (Ok (Some x)) f p = tt
none_map (Err e) f p = tt

-- "B" spells base64 alone
pub spells_b : (l : ℕ) (octets text : List ℕ) → (l ≡ 66) ⊎ (l ≡ 98) → Spells l octets text → IsBase64 octets text
spells_b l octets text e (InBase64 b i) = i
spells_b l octets text e (InQ q i) = absurd (grind arith)

-- where there is no value, what is said of that case holds
pub take_none : {X P : Type 0} (o : Option X) → o ≡ None → IfNone o P → P
take_none None e p = p
take_none (Some x) e p = absurd cc

-- where there is a value, what is said of it holds
pub take_some : {X : Type 0} (Q : X → Type 0) (o : Option X) (x : X) → o ≡ Some x → IfSome o Q → Q x
take_some Q None x e q = absurd cc
take_some Q (Some y) x e q = let f : y ≡ x = cc in subst Q f q
