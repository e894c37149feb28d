-- Pieces at the front and at the end of a text.
use Rattle.std.proofs.Common.{◌≡◌, ℕ, ◌<◌, true, List, [], ◌∷◌, ◌++◌, length, take, drop, refl, sym, ap, ◌∙◌, subst, append_assoc, codes, Option, Some, None, arith}
use Rattle.std.specs.Option.{MatchOption, IfSome}
use Rattle.std.specs.Char.{to_ascii_lowercase}
use Rattle.std.proofs.lemmas.List.{length-append, length-map, take_at, drop_at, same_from_push}
use Rattle.text_words.specs.Octets.{is_blank, SameText}
use Rattle.thread_rule.specs.Subject.{IsWsp, IsTrailer, Forwarded, BlankAtEnd, IsForwardHeader, IsForwardTrailer}
use Rattle.thread_rule.specs.BaseSubject.{Drops, DropsEnd, Unwraps, Lacks}

-- what is said of a result, of its value or of there being none, may be replaced by what follows from it
pub match_map : {X P R : Type 0} {Q S : X → Type 0} (o : Option X) → (P → R) → ((x : X) → Q x → S x) → MatchOption o P Q → MatchOption o R S
match_map None f g p = f p
match_map (Some x) f g q = g x q

-- where something is said of a result, what follows from it for a value holds of the value, if there is one
pub some_of : {X : Type 0} (P : Type 0) {Q S : X → Type 0} (o : Option X) → ((x : X) → Q x → S x) → MatchOption o P Q → IfSome o S
some_of P None g p = tt
some_of P (Some x) g q = g x q

-- where there is no value, what is said of a result holds once what is said of that case does
pub of_none : {X P : Type 0} (Q : X → Type 0) (o : Option X) → o ≡ None → P → MatchOption o P Q
of_none Q None e p = p
of_none Q (Some x) e p = absurd cc

-- texts that are equal but for the case of their letters have the same length
pub same_length : (x w : List ℕ) → SameText x w → length x ≡ length w
same_length x w e = sym (length-map x to_ascii_lowercase) ∙ ap length e ∙ length-map w to_ascii_lowercase

-- a text has one end of a length, and one front
pub one_end : (s a x b y : List ℕ) → s ≡ a ++ x → s ≡ b ++ y → length x ≡ length y → a ≡ b
one_end s a x b y e f l =
    let k : length a ≡ length b = omega (arith, ap length e, ap length f, length-append a x, length-append b y) in
    sym (take_at a x (length b) k) ∙ ap (take (length b)) (sym e ∙ f) ∙ take_at b y (length b) refl

-- two fronts of a text that have the same length leave the same rest
pub one_front : (s a x b y : List ℕ) → s ≡ x ++ a → s ≡ y ++ b → length x ≡ length y → a ≡ b
one_front s a x b y e f l =
    sym (drop_at x a (length y) l) ∙ ap (drop (length y)) (sym e ∙ f) ∙ drop_at y b (length y) refl

-- the last octet of a trailer "(fwd)"
pub record EndsIn (e : ℕ) (p : List ℕ) : Type 0 where
  pub front : List ℕ
  pub octet : ℕ
  pub whole : p ≡ front ++ octet ∷ []
  pub same : to_ascii_lowercase octet ≡ e

-- the trailer "(fwd)" ends in a closing parenthesis
pub forwarded_end : (p : List ℕ) → SameText p (codes "(fwd)") → EndsIn 41 p
forwarded_end [] e = absurd cc
forwarded_end (a ∷ []) e = absurd cc
forwarded_end (a ∷ b ∷ []) e = absurd cc
forwarded_end (a ∷ b ∷ c ∷ []) e = absurd cc
forwarded_end (a ∷ b ∷ c ∷ d ∷ []) e = absurd cc
forwarded_end (a ∷ b ∷ c ∷ d ∷ x ∷ []) e = record { front = a ∷ b ∷ c ∷ d ∷ []; octet = x; whole = refl; same = cc }
forwarded_end (a ∷ b ∷ c ∷ d ∷ x ∷ y ∷ t) e = absurd cc

-- a closing parenthesis is no white space
pub blank_is_no_parenthesis : (c : ℕ) → to_ascii_lowercase c ≡ 41 → is_blank c ≡ true → ⊥
blank_is_no_parenthesis c e b = grind arith

-- a text that ends in the trailer "(fwd)" doesn't end in white space
pub forwarded_is_no_blank : (s t u : List ℕ) (p : List ℕ) → s ≡ t ++ p → SameText p (codes "(fwd)") → DropsEnd IsWsp s u → ⊥
forwarded_is_no_blank s t u p e f d =
    let k = forwarded_end p f in
    let w = d.is in
    let same = same_from_push (t ++ k.front) u k.octet w.octet
    (append_assoc t k.front (k.octet ∷ []) ∙ ap (λ (x : List ℕ). t ++ x) (sym k.whole) ∙ sym e ∙ d.whole ∙ ap (λ (x : List ℕ). u ++ x) w.whole) in
    blank_is_no_parenthesis k.octet k.same (ap is_blank same.1 ∙ w.blank)

-- the white space that is dropped as one piece is one octet
pub wsp_length : (t : List ℕ) → IsWsp t → length t ≡ 1
wsp_length t w = ap length w.whole

-- white space at the front
pub wsp_here : (s : List ℕ) (c : ℕ) (t : List ℕ) → s ≡ c ∷ t → is_blank c ≡ true → Drops IsWsp s t
wsp_here s c t e b = record { piece = c ∷ []; whole = e; is = record { octet = c; whole = refl; blank = b } }

-- a text has one trailer at most
pub one_trailer : (s t u : List ℕ) → DropsEnd IsTrailer s t → DropsEnd IsTrailer s u → t ≡ u
one_trailer s t u d e = by d.is e.is
  where
    by : IsTrailer d.piece → IsTrailer e.piece → t ≡ u
    by (Forwarded f) (Forwarded g) = one_end s t d.piece u e.piece d.whole e.whole (same_length d.piece (codes "(fwd)") f ∙ sym (same_length e.piece (codes "(fwd)") g))
    by (Forwarded f) (BlankAtEnd w) = absurd (forwarded_is_no_blank s t u d.piece d.whole f (record { piece = e.piece; whole = e.whole; is = w }))
    by (BlankAtEnd w) (Forwarded g) = absurd (forwarded_is_no_blank s u t e.piece e.whole g (record { piece = d.piece; whole = d.whole; is = w }))
    by (BlankAtEnd w) (BlankAtEnd v) = one_end s t d.piece u e.piece d.whole e.whole (wsp_length _ w ∙ sym (wsp_length _ v))

-- what is left when a trailer is dropped is shorter than the text
pub trailer_shorter : (s t : List ℕ) → DropsEnd IsTrailer s t → length t < length s
trailer_shorter s t d = by d.is
  where
    by : IsTrailer d.piece → length t < length s
    by (Forwarded f) = let k = same_length d.piece (codes "(fwd)") f in omega (arith, ap length d.whole, length-append t d.piece, k)
    by (BlankAtEnd w) = omega (arith, ap length d.whole, length-append t d.piece, wsp_length _ w)

-- no trailer ends the text that neither "(fwd)" nor white space ends
pub no_trailer : (s : List ℕ) → Lacks (DropsEnd IsWsp) s → Lacks (DropsEnd (λ p. SameText p (codes "(fwd)"))) s → Lacks (DropsEnd IsTrailer) s
no_trailer s a b t d = by d.is
  where
    by : IsTrailer d.piece → ⊥
    by (Forwarded f) = b t (record { piece = d.piece; whole = d.whole; is = f })
    by (BlankAtEnd w) = a t (record { piece = d.piece; whole = d.whole; is = w })

-- a "(fwd)" at the end, in letters of either case, is a trailer
pub forwarded_trailer : (s t : List ℕ) → DropsEnd (λ p. SameText p (codes "(fwd)")) s t → DropsEnd IsTrailer s t
forwarded_trailer s t d = record { piece = d.piece; whole = d.whole; is = Forwarded d.is }

-- what has no trailer has none after a piece
pub lacks_trailer_behind : (s p t : List ℕ) → s ≡ p ++ t → Lacks (DropsEnd IsTrailer) s → Lacks (DropsEnd IsTrailer) t
lacks_trailer_behind s p t e l u d =
    l (p ++ u) (record { piece = d.piece; whole = e ∙ ap (λ (x : List ℕ). p ++ x) d.whole ∙ sym (append_assoc p u d.piece); is = d.is })

-- a text is unwrapped in one way
pub one_inner : (s t u : List ℕ) → Unwraps s t → Unwraps s u → t ≡ u
one_inner s t u d e =
    let h = d.header in
    let k = e.header in
    let inner = one_front s d.inner h.piece e.inner k.piece h.whole k.whole (same_length h.piece (codes "[fwd:") h.is ∙ sym (same_length k.piece (codes "[fwd:") k.is)) in
    let a = d.trailer in
    let b = e.trailer in
    one_end d.inner t a.piece u b.piece a.whole (inner ∙ b.whole) (same_length a.piece (codes "]") a.is ∙ sym (same_length b.piece (codes "]") b.is))

-- what is left when a forwarded subject is unwrapped is shorter than the text
pub inner_shorter : (s t : List ℕ) → Unwraps s t → length t < length s
inner_shorter s t d =
    let h = d.header in
    let a = d.trailer in
    omega (arith, ap length h.whole, length-append h.piece d.inner, same_length h.piece (codes "[fwd:") h.is, ap length a.whole, length-append t a.piece)

-- a text whose header is known is unwrapped where a trailer ends the rest
pub no_inner : (s i : List ℕ) → Drops IsForwardHeader s i → Lacks (DropsEnd IsForwardTrailer) i → Lacks Unwraps s
no_inner s i h l t d =
    let k = d.header in
    let inner = one_front s d.inner k.piece i h.piece k.whole h.whole (same_length k.piece (codes "[fwd:") k.is ∙ sym (same_length h.piece (codes "[fwd:") h.is)) in
    let P : List ℕ → Type 0 = λ u. DropsEnd IsForwardTrailer u t in
    l t (subst P inner d.trailer)
